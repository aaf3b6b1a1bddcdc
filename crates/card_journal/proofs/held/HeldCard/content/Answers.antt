use Rattle.std.proofs.Common.{sym, subst}
use Rattle.record_codec.specs.IsDurable.{IsDurable}
use Rattle.card_journal.proofs.held.HeldCard.content.Goals as goal

pub content_of-requires : goal.content_of-requires
content_of-requires c =
    let are = subst IsDurable (sym c.self.view_is) c.requires in
    rw (c.as_slice.ensures.value, c.deref.ensures.value)
    (record { pairs = are.contents.pairs; numbers = are.heads.profiles.numbers })
