use Rattle.std.proofs.Common.{◌∙◌, ◌∷◌, ◌++◌, [], List, ℕ, ap}
use Rattle.file_rows.specs.declared.head.FileHead.{FileHead}
use Rattle.card_journal.proofs.PoolLemmas.{pushed-more}
use Rattle.card_journal.proofs.pool.pooled.push_row.Goals as goal

pub returns-clause-rows : goal.returns-clause-rows
returns-clause-rows c =
    let heads = c.args.heads.now.items in
    let bytes = c.args.bodies.now.items in
    (pushed-more heads c.push_reserved.new.self.items bytes c.append_bytes.new.bodies.items c.args.row.now c.requires.full c.requires.size
    (c.push_reserved.ensures.items ∙ ap (λ (head : FileHead). heads ++ head ∷ []) c.copy.ensures)
    (c.append_bytes.ensures.items ∙ ap (λ (body : List ℕ). bytes ++ body) c.as_slice.ensures)).0

pub returns-clause-full : goal.returns-clause-full
returns-clause-full c =
    let heads = c.args.heads.now.items in
    let bytes = c.args.bodies.now.items in
    (pushed-more heads c.push_reserved.new.self.items bytes c.append_bytes.new.bodies.items c.args.row.now c.requires.full c.requires.size
    (c.push_reserved.ensures.items ∙ ap (λ (head : FileHead). heads ++ head ∷ []) c.copy.ensures)
    (c.append_bytes.ensures.items ∙ ap (λ (body : List ℕ). bytes ++ body) c.as_slice.ensures)).1
