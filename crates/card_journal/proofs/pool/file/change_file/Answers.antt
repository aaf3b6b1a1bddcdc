use Rattle.std.proofs.Common.{◌≡◌, set, sym, ap, subst}
use Rattle.std.specs.Prelude.{slice_get, IsSomeAnd}
use Rattle.file_rows.specs.Change.{file_after}
use Rattle.file_rows.specs.declared.change.Change.{Change}
use Rattle.file_rows.proofs.EditLemmas.{some_is}
use Rattle.record_codec.specs.Pooled.{pooled_rows}
use Rattle.card_journal.proofs.PoolFileLemmas.{LifeIs, life_rows, same_rows}
use Rattle.card_journal.proofs.pool.file.change_file.Goals as goal

life_after : (c : goal.After-heads-1) → LifeIs c.args.heads.now c.args.bodies.now.items c.args.place.index c.in-FileState.life c.set_life.new.heads
life_after c =
    let heads = c.args.heads.now in
    let i = c.args.place.index in
    let head = some_is (slice_get heads i) (λ head. c.set_life.new.heads ≡ set heads i (record head { life = c.in-FileState.life })) c.set_life.ensures in
    life_rows heads c.args.bodies.now.items i c.args.place.start head.0 c.requires.full head.1 c.requires.begin c.in-FileState.life c.set_life.new.heads head.2

pub returns-in-FileState-clause-rows : goal.returns-in-FileState-clause-rows
returns-in-FileState-clause-rows c =
    let rows = pooled_rows c.args.heads.now c.args.bodies.now.items in
    subst (λ (change : Change). IsSomeAnd (slice_get rows c.args.place.index)
    (λ row. pooled_rows c.set_life.new.heads c.args.bodies.now.items ≡ set rows c.args.place.index (file_after change row))) (sym c.in-FileState.is) (life_after c).0

pub returns-in-FileState-clause-full : goal.returns-in-FileState-clause-full
returns-in-FileState-clause-full c = (life_after c).1

pub returns-in-PinSet-clause-rows : goal.returns-in-PinSet-clause-rows
returns-in-PinSet-clause-rows c = same_rows (pooled_rows c.args.heads.now c.args.bodies.now.items) c.args.place.index c.args.change.now (file_after c.args.change.now) c.requires.can
    (λ row. ap (λ (change : Change). file_after change row) c.in-PinSet.is)

pub returns-in-FileAdd-clause-rows : goal.returns-in-FileAdd-clause-rows
returns-in-FileAdd-clause-rows c = same_rows (pooled_rows c.args.heads.now c.args.bodies.now.items) c.args.place.index c.args.change.now (file_after c.args.change.now) c.requires.can
    (λ row. ap (λ (change : Change). file_after change row) c.in-FileAdd.is)

pub returns-in-FileGone-clause-rows : goal.returns-in-FileGone-clause-rows
returns-in-FileGone-clause-rows c = same_rows (pooled_rows c.args.heads.now c.args.bodies.now.items) c.args.place.index c.args.change.now (file_after c.args.change.now) c.requires.can
    (λ row. ap (λ (change : Change). file_after change row) c.in-FileGone.is)
