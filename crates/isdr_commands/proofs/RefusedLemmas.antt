-- A request without a record moves no port, and each reply has a tag of its own.
use Rattle.std.proofs.Common.{◌≡◌, ℕ, Bool, List, [], None, refl}
use Rattle.isdr_codec.specs.Reply.{HasItsTag}
use Rattle.isdr_codec.specs.declared.request.Request.{Request}
use Rattle.isdr_commands.proofs.EachLemmas.{each}
use Rattle.isdr_commands.specs.Request.{managed}
use Rattle.isdr_commands.specs.declared.decision.Decision.{Decision}
use Rattle.record_codec.specs.declared.durable.Heads.{Heads}

abbrev IsQuiet : Decision → Type 0
IsQuiet decision = decision.entry ≡ None → decision.moves ≡ []

abbrev HasTag : Decision → Type 0
HasTag decision = HasItsTag decision.reply

module _ (heads : Heads) (busy : List Bool) (came : ℕ) (request : Request) where
  pub managed_quiet : IsQuiet (managed heads busy came request)
  managed_quiet =
      each IsQuiet (λ reply is e. refl) (λ tag entry moves is e. absurd cc) heads busy came request

  pub managed_tag : HasTag (managed heads busy came request)
  managed_tag =
      each HasTag (λ reply is. is) (λ tag entry moves is. is) heads busy came request
