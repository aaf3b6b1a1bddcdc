use Rattle.std.proofs.Common.{subst, sym}
use Rattle.isdr_codec.specs.Reply.{HasItsTag}
use Rattle.isdr_commands.proofs.RefusedLemmas.{managed_tag}
use Rattle.isdr_commands.specs.declared.decision.Decision.{Decision}
use Rattle.isdr_commands.proofs.managing.manage.Goals as goal

pub put_reply-requires-clause-tag : goal.put_reply-requires-clause-tag
put_reply-requires-clause-tag c =
    subst (λ (decision : Decision). HasItsTag decision.reply) (sym c.decide-reply.ensures)
    (managed_tag c.args.heads.now c.args.busy.now c.args.port c.args.request.now)
