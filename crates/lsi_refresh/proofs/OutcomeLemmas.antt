use Rattle.std.proofs.Common.{◌≡◌, ◌≢◌, ◌==◌, Bool, true, false, ◌||◌, if◌then◌else◌, List, refl}
use Rattle.std.proofs.Common.{sym, ap, ◌∙◌}
use Rattle.std.proofs.lemmas.Bool.{ne_eqb, true≢false}
use Rattle.std.specs.Prelude.{◌/◌}
use Rattle.apdu_codec.specs.declared.answers.Answer.{Answer}
use Rattle.apdu_codec.specs.declared.status.Sw.{Sw}
use Rattle.apdu_codec.specs.declared.status.TheConstants.Sw.{OK, PROACTIVE}
use Rattle.file_rows.specs.declared.row.FileRow.{FileRow}
use Rattle.uicc_channels.specs.Accepted.{IsDoneOrRefused, is_accepted}
use Rattle.uicc_channels.specs.CommandOutcome.{CommandOutcome, refused}
use Rattle.uicc_channels.specs.Session.{Suits}
use Rattle.uicc_channels.specs.declared.session.Refresh.{Refresh}
use Rattle.uicc_channels.specs.declared.session.Refresh.TheVariants.{Announced, Fetched, Quiet}
use Rattle.uicc_channels.specs.declared.session.Session.{Session}
use Rattle.lsi_refresh.specs.Announcement.{announced, announcing_in}
use Rattle.lsi_refresh.specs.RefreshState.{with_refresh}

-- a status word other than 9000
abbrev pub IsOther : Sw → Type 0
IsOther sw = (sw.0 == 0x9000) ≡ false

pub isn't_ok : (sw : Sw) → IsOther sw → sw ≢ OK
isn't_ok sw other same = true≢false (sym (ap (λ (word : Sw). word.0 == 0x9000) same) ∙ other)

pub is_other : (sw : Sw) → sw ≢ OK → IsOther sw
is_other sw apart = ne_eqb sw.0 0x9000 (λ same. apart (ap (λ n. record { 0 = n }) same))

announcing_in-other : (refresh : Refresh) (answer : Answer) → IsOther answer.sw → announcing_in refresh answer ≡ answer
announcing_in-other Announced answer other = rw other refl
announcing_in-other Fetched answer other = refl
announcing_in-other Quiet answer other = refl

-- an answer that doesn't end in 9000 stays
pub announced-other : (outcome : CommandOutcome) → IsOther outcome.answer.sw → announced outcome ≡ outcome
announced-other outcome other =
    ap (λ (answer : Answer). record outcome { answer = answer }) (announcing_in-other outcome.session.refresh outcome.answer other)

pub announcing_in-none_waits : (refresh : Refresh) (answer : Answer) → refresh ≢ Announced → announcing_in refresh answer ≡ answer
announcing_in-none_waits Announced answer none = absurd (none refl)
announcing_in-none_waits Fetched answer none = refl
announcing_in-none_waits Quiet answer none = refl

-- the state of a REFRESH is no part of what suits a card
pub Suits-with_refresh : (rows : List FileRow) (refresh : Refresh) (session : Session) → Suits session rows → Suits (with_refresh refresh session) rows
Suits-with_refresh rows refresh session suits = record { places = suits.places; basic = suits.basic; each = suits.each }

-- what is accepted stays accepted with the announcement
pub accepted-announcing : (refresh : Refresh) (answer : Answer) → is_accepted answer.sw ≡ true → is_accepted (announcing_in refresh answer).sw ≡ true
accepted-announcing Announced answer accepted = either (answer.sw.0 == 0x9000) accepted
  where
    either : (is_ok : Bool) → is_accepted answer.sw ≡ true → is_accepted (if is_ok then record answer { sw = PROACTIVE } else answer).sw ≡ true
    either true accepted = refl
    either false accepted = accepted
accepted-announcing Fetched answer accepted = accepted
accepted-announcing Quiet answer accepted = accepted

-- a status word that doesn't accept isn't 9000
other_where_refused : (sw : Sw) → is_accepted sw ≡ false → IsOther sw
other_where_refused sw refuses = first (sw.0 == 0x9000) refuses
  where
    first : (is_ok : Bool) → (is_ok || (sw.0 == 0x910B) || (sw.0 / 256 == 0x61) || (sw.0 == 0x6283) || (sw.0 == 0x6285)) ≡ false → is_ok ≡ false
    first true e = e
    first false e = refl

-- what is accepted or changes nothing is so with the announcement
pub IsDoneOrRefused-announced : (session : Session) (outcome : CommandOutcome) → IsDoneOrRefused session outcome → IsDoneOrRefused session (announced outcome)
IsDoneOrRefused-announced session outcome done refuses = either (is_accepted outcome.answer.sw) refl
  where
    either : (accepted : Bool) → is_accepted outcome.answer.sw ≡ accepted → announced outcome ≡ refused session (announced outcome).answer.sw
    either true e = absurd (true≢false (sym (accepted-announcing outcome.session.refresh outcome.answer e) ∙ refuses))
    either false e =
        let stays : announced outcome ≡ outcome = announced-other outcome (other_where_refused outcome.answer.sw e) in
        stays ∙ (done e ∙ ap (λ (o : CommandOutcome). refused session o.answer.sw) (sym stays))
