use Rattle.std.proofs.Common.{◌≡◌}
use Rattle.std.specs.Prelude.{slice_get}
use Rattle.file_rows.proofs.EditLemmas.{some_is}
use Rattle.card_journal.proofs.PoolFileLemmas.{write_can, write_full, write_rows, write_within}
use Rattle.card_journal.proofs.pool.file.write_file.Goals as goal

pub write_at-requires-clause-within : goal.write_at-requires-clause-within
write_at-requires-clause-within c =
    let heads = c.args.heads.now in
    let i = c.args.place.index in
    let head = some_is (slice_get heads i) (λ head. c.size_at-size.result ≡ head.size) c.size_at-size.ensures in
    write_within heads c.args.bodies.now i c.args.place.start head.0 c.requires.full head.1 c.requires.begin c.size_at-size.result head.2

pub write_at-requires-clause-can : goal.write_at-requires-clause-can
write_at-requires-clause-can c =
    let heads = c.args.heads.now in
    let i = c.args.place.index in
    let head = some_is (slice_get heads i) (λ head. c.size_at-size.result ≡ head.size) c.size_at-size.ensures in
    write_can heads c.args.bodies.now i c.args.place.start head.0 c.requires.full head.1 c.requires.begin c.size_at-size.result head.2 c.args.change.now c.requires.can

pub returns-clause-rows : goal.returns-clause-rows
returns-clause-rows c =
    let heads = c.args.heads.now in
    let i = c.args.place.index in
    let head = some_is (slice_get heads i) (λ head. c.size_at-size.result ≡ head.size) c.size_at-size.ensures in
    write_rows heads c.args.bodies.now i c.args.place.start head.0 c.requires.full head.1 c.requires.begin c.size_at-size.result head.2 c.args.change.now c.write_at.new.bodies
    (write_can heads c.args.bodies.now i c.args.place.start head.0 c.requires.full head.1 c.requires.begin c.size_at-size.result head.2 c.args.change.now c.requires.can) c.write_at.ensures

pub returns-clause-full : goal.returns-clause-full
returns-clause-full c =
    let heads = c.args.heads.now in
    let i = c.args.place.index in
    let head = some_is (slice_get heads i) (λ head. c.size_at-size.result ≡ head.size) c.size_at-size.ensures in
    write_full heads c.args.bodies.now i c.args.place.start head.0 c.requires.full head.1 c.requires.begin c.size_at-size.result head.2 c.args.change.now c.write_at.new.bodies
    (write_can heads c.args.bodies.now i c.args.place.start head.0 c.requires.full head.1 c.requires.begin c.size_at-size.result head.2 c.args.change.now c.requires.can) c.write_at.ensures
