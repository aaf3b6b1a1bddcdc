use Rattle.std.specs.Prelude.{Option}
use Rattle.apdu_codec.specs.Answer.{status_alone}
use Rattle.apdu_codec.specs.Command.{Apdu}
use Rattle.apdu_codec.specs.declared.status.Sw.{Sw}
use Rattle.apdu_codec.specs.declared.status.TheConstants.Sw.{CONDITIONS_NOT_SATISFIED, OK}
use Rattle.lsi_refresh.specs.RefreshState.{is_fetched, with_refresh}
use Rattle.lsi_refresh.specs.TerminalCommand.{needs_of_form}
use Rattle.uicc_channels.specs.CommandOutcome.{answering}
use Rattle.uicc_channels.specs.CommandRow.{CommandRow}
use Rattle.uicc_channels.specs.Needs.{refused_unless}
use Rattle.uicc_channels.specs.Shape.{has_body}
use Rattle.uicc_channels.specs.declared.session.Refresh.{Refresh}
use Rattle.uicc_channels.specs.declared.session.Refresh.TheVariants.{Quiet}
use Rattle.uicc_channels.specs.declared.session.Session.{Session}

-- why a response isn't taken: no REFRESH was fetched that awaits one
abbrev pub response_refusal : Refresh → Option Sw
response_refusal refresh = refused_unless (is_fetched refresh) CONDITIONS_NOT_SATISFIED

-- ETSI TS 102 221, TERMINAL RESPONSE: it ends the REFRESH that was fetched
abbrev pub terminal_response_row : Session → Apdu → CommandRow
terminal_response_row session c =
    record {
      needs = record (needs_of_form session c (has_body c)) {
        own = response_refusal session.refresh;
      };
      done = answering (with_refresh Quiet session) (status_alone OK);
    }
