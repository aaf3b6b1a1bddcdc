use Rattle.std.proofs.Common.{◌≡◌, ◌≢◌, ◌==◌, ◌&&◌, Option, Some, None, IfSome, refl, subst}
use Rattle.std.specs.Prelude.{is_some}
use Rattle.apdu_codec.specs.Command.{Apdu}
use Rattle.apdu_codec.specs.Ins.{class_fits}
use Rattle.apdu_codec.specs.declared.status.Sw.{Sw}
use Rattle.apdu_codec.specs.declared.status.TheConstants.Sw.{OK}
use Rattle.uicc_channels.proofs.RowLemmas.{decided-has}
use Rattle.uicc_channels.specs.CommandOutcome.{refused}
use Rattle.uicc_channels.specs.CommandRow.{CommandRow, decided, refusal_of}
use Rattle.uicc_channels.specs.Session.{channel_at}
use Rattle.uicc_channels.specs.Shape.{has_body, has_le_alone}
use Rattle.uicc_channels.specs.declared.session.Refresh.TheVariants.{Announced, Fetched, Quiet}
use Rattle.uicc_channels.specs.declared.session.Session.{Session}
use Rattle.lsi_refresh.proofs.FormLemmas.{RefusesByOther, fetch_refusal-none, fetch_refusal-other}
use Rattle.lsi_refresh.proofs.FormLemmas.{refusal_by-none, refusal_by-other, response_refusal-none}
use Rattle.lsi_refresh.proofs.FormLemmas.{response_refusal-other}
use Rattle.lsi_refresh.proofs.OutcomeLemmas.{IsOther, announced-other, isn't_ok}
use Rattle.lsi_refresh.specs.Announcement.{announced}
use Rattle.lsi_refresh.specs.Fetch.{fetch_refusal, fetch_row}
use Rattle.lsi_refresh.specs.TerminalResponse.{response_refusal, terminal_response_row}

-- a refusal of a row that refuses by other status words than 9000
refused_by_other : (row : CommandRow) → RefusesByOther (refusal_of row) → (sw : Sw) → refusal_of row ≡ Some sw → IsOther sw
refused_by_other row others sw same = subst (λ (refusal : Option Sw). IfSome refusal IsOther) same others

others-fetch : (session : Session) (c : Apdu) → RefusesByOther (refusal_of (fetch_row session c))
others-fetch session c =
    refusal_by-other (is_some (channel_at session c.channel)) (class_fits c.ins c.class) ((c.p1 == 0x00) && (c.p2 == 0x00)) (has_le_alone c) (fetch_refusal session.refresh c.le)
    (fetch_refusal-other session.refresh c.le)

others-terminal_response : (session : Session) (c : Apdu) → RefusesByOther (refusal_of (terminal_response_row session c))
others-terminal_response session c =
    refusal_by-other (is_some (channel_at session c.channel)) (class_fits c.ins c.class) ((c.p1 == 0x00) && (c.p2 == 0x00)) (has_body c) (response_refusal session.refresh)
    (response_refusal-other session.refresh)

was_announced : (session : Session) (c : Apdu) → refusal_of (fetch_row session c) ≡ None → session.refresh ≡ Announced
was_announced session c none =
    fetch_refusal-none session.refresh c.le
    (refusal_by-none (is_some (channel_at session c.channel)) (class_fits c.ins c.class) ((c.p1 == 0x00) && (c.p2 == 0x00)) (has_le_alone c) (fetch_refusal session.refresh c.le) none)

was_fetched : (session : Session) (c : Apdu) → refusal_of (terminal_response_row session c) ≡ None → session.refresh ≡ Fetched
was_fetched session c none =
    response_refusal-none session.refresh
    (refusal_by-none (is_some (channel_at session c.channel)) (class_fits c.ins c.class) ((c.p1 == 0x00) && (c.p2 == 0x00)) (has_body c) (response_refusal session.refresh) none)

-- nothing is announced after FETCH and TERMINAL RESPONSE
pub announced-fetch : (session : Session) (c : Apdu) → announced (decided session (fetch_row session c)) ≡ decided session (fetch_row session c)
announced-fetch session c =
    decided-has (λ outcome. announced outcome ≡ outcome) session (fetch_row session c)
    (λ sw same. announced-other (refused session sw) (refused_by_other (fetch_row session c) (others-fetch session c) sw same))
    (λ none. refl)

pub announced-terminal_response : (session : Session) (c : Apdu) → announced (decided session (terminal_response_row session c)) ≡ decided session (terminal_response_row session c)
announced-terminal_response session c =
    decided-has (λ outcome. announced outcome ≡ outcome) session (terminal_response_row session c)
    (λ sw same. announced-other (refused session sw) (refused_by_other (terminal_response_row session c) (others-terminal_response session c) sw same))
    (λ none. refl)

-- where they are accepted the REFRESH goes on
pub accepted-fetch : (session : Session) (c : Apdu) → (decided session (fetch_row session c)).answer.sw ≡ OK
    → (session.refresh ≡ Announced) × ((decided session (fetch_row session c)).session.refresh ≡ Fetched)
accepted-fetch session c =
    decided-has (λ outcome. outcome.answer.sw ≡ OK → (session.refresh ≡ Announced) × (outcome.session.refresh ≡ Fetched)) session (fetch_row session c)
    (λ sw same ok. absurd (isn't_ok sw (refused_by_other (fetch_row session c) (others-fetch session c) sw same) ok))
    (λ none ok. (was_announced session c none, refl))

pub accepted-terminal_response : (session : Session) (c : Apdu) → (decided session (terminal_response_row session c)).answer.sw ≡ OK
    → (session.refresh ≡ Fetched) × ((decided session (terminal_response_row session c)).session.refresh ≡ Quiet)
accepted-terminal_response session c =
    decided-has (λ outcome. outcome.answer.sw ≡ OK → (session.refresh ≡ Fetched) × (outcome.session.refresh ≡ Quiet)) session (terminal_response_row session c)
    (λ sw same ok. absurd (isn't_ok sw (refused_by_other (terminal_response_row session c) (others-terminal_response session c) sw same) ok))
    (λ none ok. (was_fetched session c none, refl))

-- what is done by a row ends in 9000, so any other status word refuses
pub refused-alone : (session : Session) (row : CommandRow) → row.done.answer.sw ≡ OK → (decided session row).answer.sw ≢ OK
    → decided session row ≡ refused session (decided session row).answer.sw
refused-alone session row done_ok =
    decided-has (λ outcome. outcome.answer.sw ≢ OK → outcome ≡ refused session outcome.answer.sw) session row
    (λ sw same other. refl) (λ none other. absurd (other done_ok))
