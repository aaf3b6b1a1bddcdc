use Rattle.std.proofs.Common.{◌≢◌, sym, subst, vec_capacity}
use Rattle.std.specs.Prelude.{IsSomeAnd}
use Rattle.plain_lists.specs.EachTwo.{EachTwo}
use Rattle.file_rows.specs.Content.{file_at, heads_of, use_of}
use Rattle.file_rows.specs.declared.content.Content.{Content}
use Rattle.card_journal.specs.Pool.{CanWrite, HasSizeRoom}
use Rattle.card_journal.proofs.PoolChangeLemmas.{can_in_lists, paths_in_lists}
use Rattle.card_journal.proofs.pool.pooled.PooledContent.change_file.Goals as goal

pub change_at_path-requires-clause-paths : goal.change_at_path-requires-clause-paths
change_at_path-requires-clause-paths c =
    rw c.as_mut_slice.ensures.value
    (paths_in_lists c.self.inside.heads.items c.self.inside.bodies.items
    (subst (λ (content : Content). EachTwo (λ one other. one.path ≢ other.path) (heads_of content.rows)) (sym c.self.view_is) c.requires.paths))

pub change_at_path-requires-clause-can : goal.change_at_path-requires-clause-can
change_at_path-requires-clause-can c =
    let change = c.args.change.now in
    rw c.as_mut_slice.ensures.value
    (can_in_lists c.self.inside.heads.items c.self.inside.bodies.items c.args.path.now change (vec_capacity c.self.inside.bodies) c.self.invariant.1 c.self.invariant.0.for_bytes
    (subst (λ (content : Content). IsSomeAnd (file_at c.args.path.now content.rows) (λ row. CanWrite change row.body × HasSizeRoom change (use_of content.rows) 65536 row.head))
    (sym c.self.view_is) c.requires.can))
