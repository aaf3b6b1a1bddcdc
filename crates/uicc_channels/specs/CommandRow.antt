use Rattle.std.specs.Prelude.{◌≡◌, Option, Some, None, Result, Ok, Err}
use Rattle.apdu_codec.specs.declared.status.Sw.{Sw}
use Rattle.plain_lists.specs.FirstOf.{first_of}
use Rattle.uicc_channels.specs.CommandOutcome.{CommandOutcome, outcome_of, refused}
use Rattle.uicc_channels.specs.Needs.{Needs, refusals}
use Rattle.uicc_channels.specs.declared.decided.Decided.{Decided}
use Rattle.uicc_channels.specs.declared.session.Session.{Session}

-- one instruction at a card: what it needs, and what it comes to where nothing refuses it
pub record CommandRow : Type 0 where
  pub needs : Needs
  pub done : CommandOutcome

-- the first status word of the order with which a card refuses, where there is one
abbrev pub refusal_of : CommandRow → Option Sw
refusal_of row = first_of (refusals row.needs)

abbrev pub refused_or : Option Sw → Session → CommandOutcome → CommandOutcome
refused_or None session done = done
refused_or (Some sw) session done = refused session sw

-- what an instruction comes to, refused or done
abbrev pub decided : Session → CommandRow → CommandOutcome
decided session row = refused_or (refusal_of row) session row.done

-- what came of an instruction is what its row says: it was done, and this was decided, or refused
abbrev pub Follows : Session → CommandRow → Decided → Result Unit Sw → Type 0
Follows session row done (Ok _) = (refusal_of row ≡ None) × (outcome_of session done ≡ row.done)
Follows session row done (Err sw) = refusal_of row ≡ Some sw
