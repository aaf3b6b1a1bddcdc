use Rattle.std.specs.Prelude.{ℕ, [], ◌∷◌, Option}
use Rattle.apdu_codec.specs.Command.{Apdu}
use Rattle.apdu_codec.specs.declared.status.Sw.{Sw}
use Rattle.apdu_codec.specs.declared.status.TheConstants.Sw.{CONDITIONS_NOT_SATISFIED, OK}
use Rattle.lsi_refresh.specs.RefreshCommand.{refresh_command}
use Rattle.lsi_refresh.specs.RefreshState.{is_announced, with_refresh}
use Rattle.lsi_refresh.specs.TerminalCommand.{needs_of_form}
use Rattle.plain_lists.specs.FirstOf.{first_of}
use Rattle.uicc_channels.specs.CommandOutcome.{answering}
use Rattle.uicc_channels.specs.CommandRow.{CommandRow}
use Rattle.uicc_channels.specs.Delivery.{le_refusal}
use Rattle.uicc_channels.specs.Needs.{refused_unless}
use Rattle.uicc_channels.specs.Shape.{has_le_alone}
use Rattle.uicc_channels.specs.declared.session.Refresh.{Refresh}
use Rattle.uicc_channels.specs.declared.session.Refresh.TheVariants.{Fetched}
use Rattle.uicc_channels.specs.declared.session.Session.{Session}

-- why the proactive command isn't given: none waits, or Le is another than its length
abbrev pub fetch_refusal : Refresh → Option ℕ → Option Sw
fetch_refusal refresh le =
    first_of
    (refused_unless (is_announced refresh) CONDITIONS_NOT_SATISFIED
    ∷ le_refusal le refresh_command
    ∷ [])

-- ETSI TS 102 221, FETCH: it gives the REFRESH that was announced
abbrev pub fetch_row : Session → Apdu → CommandRow
fetch_row session c =
    record {
      needs = record (needs_of_form session c (has_le_alone c)) {
        own = fetch_refusal session.refresh c.le;
      };
      done = answering (with_refresh Fetched session)
          (record { body = refresh_command; sw = OK });
    }
