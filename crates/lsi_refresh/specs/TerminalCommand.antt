-- What the commands have in common that a terminal sends about itself and about a proactive
-- command.
use Rattle.std.specs.Prelude.{Bool, ◌==◌, ◌&&◌, Option}
use Rattle.apdu_codec.specs.Answer.{status_alone}
use Rattle.apdu_codec.specs.Command.{Apdu}
use Rattle.apdu_codec.specs.declared.status.Sw.{Sw}
use Rattle.apdu_codec.specs.declared.status.TheConstants.Sw.{OK}
use Rattle.plain_lists.specs.FirstOf.{first_of}
use Rattle.uicc_channels.specs.CommandOutcome.{answering}
use Rattle.uicc_channels.specs.CommandRow.{CommandRow}
use Rattle.uicc_channels.specs.Needs.{Needs, needs_of, refusals}
use Rattle.uicc_channels.specs.Shape.{has_body}
use Rattle.uicc_channels.specs.declared.session.Session.{Session}

-- P1 and P2 are 00, and the body and Le are as the instruction wants
abbrev pub needs_of_form : Session → Apdu → Bool → Needs
needs_of_form session c lengths =
    record (needs_of session c) {
      parameters = (c.p1 == 0x00) && (c.p2 == 0x00);
      lengths = lengths;
    }

-- why a command is refused by its form: its channel, its class, P1 and P2, and then its body and Le
abbrev pub form_refusal : Session → Apdu → Bool → Option Sw
form_refusal session c lengths = first_of (refusals (needs_of_form session c lengths))

-- a body is taken, and nothing comes of it
abbrev pub taken_row : Session → Apdu → CommandRow
taken_row session c =
    record {
      needs = needs_of_form session c (has_body c);
      done = answering session (status_alone OK);
    }
