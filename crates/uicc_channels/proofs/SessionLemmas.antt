use Rattle.std.proofs.Common.{◌≡◌, ◌≢◌, ℕ, zero, suc, ◌-◌, ◌<◌, ◌≤◌, Bool, inl, inr, List, [], ◌∷◌}
use Rattle.std.proofs.Common.{length, replicate, get_or, set, refl, sym, ◌∙◌, ap, arith, Option}
use Rattle.std.proofs.Common.{Some, None, IfSome, IsSome, IsSomeAnd, IsTrue, option_map, subst}
use Rattle.std.proofs.Common.{length-set}
use Rattle.std.proofs.lemmas.Bool.{cases_eq, cases_lt, true≢false}
use Rattle.std.proofs.lemmas.List.{get_or-set_other, get_or-set_same, get_or_past}
use Rattle.file_rows.specs.Content.{AreFiles, IsValid, file_at}
use Rattle.file_rows.specs.FileHead.{HasForm, IsMaster, holds_files}
use Rattle.file_rows.specs.Path.{master}
use Rattle.file_rows.specs.declared.content.Content.{Content}
use Rattle.file_rows.specs.declared.head.Kind.{Kind}
use Rattle.file_rows.specs.declared.head.Kind.TheVariants.{Master}
use Rattle.file_rows.specs.declared.row.FileRow.{FileRow}
use Rattle.uicc_channels.specs.Chan.{IsDirectoryIn, StandsAmong, at_isdr, at_master, holding}
use Rattle.uicc_channels.specs.Delivery.{waiting}
use Rattle.uicc_channels.specs.Session.{IsOpen, Suits, channel_at, fresh_session, reset_session}
use Rattle.uicc_channels.specs.Session.{with_channel}
use Rattle.uicc_channels.specs.declared.chan.Chan.{Chan}
use Rattle.uicc_channels.specs.declared.session.Session.{Session}
use Rattle.uicc_channels.specs.declared.session.TheConstants.{CHANNELS}

-- another channel is as it was
pub channel_at-with_channel : (session : Session) (number other : ℕ) (place : Option Chan) → other ≢ number → channel_at (with_channel session number place) other ≡ channel_at session other
channel_at-with_channel session number other place apart = get_or-set_other session.channels number other place None apart

-- an open channel is below the number of places
within : (session : Session) (number : ℕ) (chan : Chan) → channel_at session number ≡ Some chan → number < length session.channels
within session number chan e =
    elim (cases_lt number (length session.channels)) [
      | inl below ↦ below
      | inr past ↦ let none : channel_at session number ≡ None = get_or_past session.channels number None past in absurd (cc)
    ]

-- a channel is what was put into its place
pub channel_at-with_channel_same : (session : Session) (number : ℕ) (place : Option Chan) → number < length session.channels → channel_at (with_channel session number place) number ≡ place
channel_at-with_channel_same session number place below = get_or-set_same session.channels number place None below

-- no channel is past the places
past_places : (session : Session) (number : ℕ) (place : Option Chan) → length session.channels ≤ number → channel_at (with_channel session number place) number ≡ None
past_places session number place past =
    get_or_past (set session.channels number place) number None (rw (length-set session.channels number place) past)

-- a channel that is open in a place is the one that was put there
pub channel_at-with_channel_open : (session : Session) (number : ℕ) (chan : Chan) → IsOpen (with_channel session number (Some chan)) number
    → channel_at (with_channel session number (Some chan)) number ≡ Some chan
channel_at-with_channel_open session number chan is_open =
    elim (cases_lt number (length session.channels)) [
      | inl below ↦ channel_at-with_channel_same session number (Some chan) below
      | inr past ↦ let none : channel_at (with_channel session number (Some chan)) number ≡ None = past_places session number (Some chan) past in absurd (true≢false (rw none at (sym is_open)))
    ]

-- a channel that was closed is closed
pub channel_at-with_channel_closed : (session : Session) (number : ℕ) → channel_at (with_channel session number None) number ≡ None
channel_at-with_channel_closed session number =
    elim (cases_lt number (length session.channels)) [
      | inl below ↦ channel_at-with_channel_same session number None below
      | inr past ↦ past_places session number None past
    ]

-- with no Le the body waits on the channel
pub channel_at-waiting_same : (le : Option ℕ) (session : Session) (number : ℕ) (body : List ℕ) (chan : Chan) → le ≡ None → channel_at session number ≡ Some chan → channel_at (waiting le session number body) number ≡ Some (holding body chan)
channel_at-waiting_same None session number body chan e found =
    channel_at-with_channel_same session number (option_map (holding body) (channel_at session number)) (within session number chan found)
    ∙ rw found refl
channel_at-waiting_same (Some le) session number body chan e found = absurd (cc)

-- with an Le nothing waits
pub session-waiting : (le : Option ℕ) (session : Session) (number : ℕ) (body : List ℕ) → IsSome le → waiting le session number body ≡ session
session-waiting None session number body given = absurd (true≢false (sym given))
session-waiting (Some le) session number body given = refl

-- what waits on a channel doesn't reach another one
pub channel_at-waiting : (le : Option ℕ) (session : Session) (number other : ℕ) (body : List ℕ) → other ≢ number → channel_at (waiting le session number body) other ≡ channel_at session other
channel_at-waiting None session number other body apart =
    channel_at-with_channel session number other (option_map (holding body) (channel_at session number)) apart
channel_at-waiting (Some le) session number other body apart = refl

pub verified-waiting : (le : Option ℕ) (session : Session) (number : ℕ) (body : List ℕ) → (waiting le session number body).verified ≡ session.verified
verified-waiting None session number body = refl
verified-waiting (Some le) session number body = refl

pub refresh-waiting : (le : Option ℕ) (session : Session) (number : ℕ) (body : List ℕ) → (waiting le session number body).refresh ≡ session.refresh
refresh-waiting None session number body = refl
refresh-waiting (Some le) session number body = refl

-- a file that is the MF has the MF's path
path_of_master : (row : FileRow) → row.head.kind ≡ Master → HasForm row.head.kind row.head → row.head.path ≡ master
path_of_master row e form = let is_master : IsMaster row.head = subst (λ (kind : Kind). HasForm kind row.head) e form in is_master.path

-- a card with files has the MF
pub master_is_there : (rows : List FileRow) → AreFiles rows → IsSomeAnd (file_at master rows) (λ row. IsTrue (holds_files row.head.kind))
master_is_there [] files = absurd files.tree
master_is_there (row ∷ rows) files =
    let kind : row.head.kind ≡ Master = files.tree.0 in
    let path : row.head.path ≡ master = path_of_master row kind files.each.0.form in
    rw (path, kind) refl

-- a channel may stand at the MF of each card, also where there is none
pub IsDirectoryIn-master : (content : Content) → IsValid content → IsDirectoryIn content.rows master
IsDirectoryIn-master content valid =
    elim valid.system [
      | inl empty ↦ inl (empty.rows, refl)
      | inr system ↦ inr (master_is_there content.rows system.files)
    ]

pub StandsAmong-at_master : (content : Content) → IsValid content → StandsAmong content.rows at_master
StandsAmong-at_master content valid = record { app = tt; dir = IsDirectoryIn-master content valid; file = tt; pointer = inl refl }

pub StandsAmong-at_isdr : (content : Content) → IsValid content → StandsAmong content.rows at_isdr
StandsAmong-at_isdr content valid = record { app = tt; dir = IsDirectoryIn-master content valid; file = tt; pointer = inl refl }

-- what waits on a channel isn't where it stands
pub StandsAmong-holding : (rows : List FileRow) (chan : Chan) (body : List ℕ) → StandsAmong rows chan → StandsAmong rows (holding body chan)
StandsAmong-holding rows chan body stands = record { app = stands.app; dir = stands.dir; file = stands.file; pointer = stands.pointer }

-- no channel of closed ones is open
closed_ones : (count number : ℕ) → get_or {A = Option Chan} (replicate count None) number None ≡ None
closed_ones zero number = refl
closed_ones (suc count) zero = refl
closed_ones (suc count) (suc number) = closed_ones count number

-- a fresh session by its channels
pub channel_at-fresh_kept : (refresh : Bool) (number : ℕ) → number < CHANNELS → channel_at (fresh_session refresh (Some number)) number ≡ Some at_isdr
channel_at-fresh_kept refresh number below = channel_at-with_channel_same (reset_session refresh) number (Some at_isdr) below

pub channel_at-fresh_basic : (refresh : Bool) (kept : Option ℕ) → kept ≢ Some 0 → channel_at (fresh_session refresh kept) 0 ≡ Some at_master
channel_at-fresh_basic refresh None other = refl
channel_at-fresh_basic refresh (Some kept) other =
    channel_at-with_channel (reset_session refresh) kept 0 (Some at_isdr) (λ e. other (ap (λ n. Some n) (sym e)))

closed_after_reset : (refresh : Bool) (number : ℕ) → number ≢ 0 → channel_at (reset_session refresh) number ≡ None
closed_after_reset refresh zero other = absurd (other refl)
closed_after_reset refresh (suc number) other = closed_ones (CHANNELS - 1) number

pub channel_at-fresh_closed : (refresh : Bool) (kept : Option ℕ) (number : ℕ) → number ≢ 0 → kept ≢ Some number → channel_at (fresh_session refresh kept) number ≡ None
channel_at-fresh_closed refresh None number other apart = closed_after_reset refresh number other
channel_at-fresh_closed refresh (Some kept) number other apart =
    channel_at-with_channel (reset_session refresh) kept number (Some at_isdr) (λ e. apart (ap (λ n. Some n) (sym e)))
    ∙ closed_after_reset refresh number other

-- what comes into a place stands there, and no channel is past the places
stands_at : (session : Session) (rows : List FileRow) (number : ℕ) (place : Option Chan) → IfSome place (StandsAmong rows) → IfSome (channel_at (with_channel session number place) number) (StandsAmong rows)
stands_at session rows number place stands =
    elim (cases_lt number (length session.channels)) [
      | inl within ↦ rw (get_or-set_same session.channels number place None within) stands
      | inr past ↦ rw (past_places session number place past) tt
    ]

-- a session goes on to suit with a channel opened, moved or closed
pub Suits-with_channel : (session : Session) (rows : List FileRow) (number : ℕ) (place : Option Chan) → Suits session rows → IfSome place (StandsAmong rows) → (number ≡ 0 → IsSome place) → Suits (with_channel session number place) rows
Suits-with_channel session rows number place suits stands is_open =
    record {
      places = length-set session.channels number place ∙ suits.places;
      basic = elim (cases_eq 0 number) [
        | inl e ↦
            let within : 0 < length session.channels = omega (arith, suits.places) in
            rw (← e, get_or-set_same session.channels 0 place None within) (is_open (sym e))
        | inr apart ↦ rw (channel_at-with_channel session number 0 place apart) suits.basic
      ];
      each = λ k. elim (cases_eq k number) [
        | inl e ↦ rw (e) (stands_at session rows number place stands)
        | inr apart ↦ rw (channel_at-with_channel session number k place apart) (suits.each k)
      ];
    }

-- after a reset the basic channel alone is open
stand_after_reset : (content : Content) (refresh : Bool) → IsValid content → (number : ℕ) → IfSome (channel_at (reset_session refresh) number) (StandsAmong content.rows)
stand_after_reset content refresh valid zero = StandsAmong-at_master content valid
stand_after_reset content refresh valid (suc number) = rw (closed_ones (CHANNELS - 1) number) tt

-- nothing is verified, and the basic channel stands at the MF
pub Suits-reset_session : (content : Content) (refresh : Bool) → IsValid content → Suits (reset_session refresh) content.rows
Suits-reset_session content refresh valid =
    record { places = refl; basic = refl; each = stand_after_reset content refresh valid }

pub Suits-fresh_session : (content : Content) (refresh : Bool) (kept : Option ℕ) → IsValid content → Suits (fresh_session refresh kept) content.rows
Suits-fresh_session content refresh None valid = Suits-reset_session content refresh valid
Suits-fresh_session content refresh (Some kept) valid =
    Suits-with_channel (reset_session refresh) content.rows kept (Some at_isdr) (Suits-reset_session content refresh valid) (StandsAmong-at_isdr content valid) (λ e. refl)

-- the place of a channel with other bytes waiting
stands_on : (rows : List FileRow) (place : Option Chan) (body : List ℕ) → IfSome place (StandsAmong rows) → IfSome (option_map (holding body) place) (StandsAmong rows)
stands_on rows None body stands = tt
stands_on rows (Some chan) body stands = StandsAmong-holding rows chan body stands

stays_open : (place : Option Chan) (body : List ℕ) → IsSome place → IsSome (option_map (holding body) place)
stays_open None body is_open = is_open
stays_open (Some chan) body is_open = refl

pub Suits-waiting : (le : Option ℕ) (session : Session) (rows : List FileRow) (number : ℕ) (body : List ℕ) → Suits session rows → Suits (waiting le session number body) rows
Suits-waiting None session rows number body suits =
    Suits-with_channel session rows number (option_map (holding body) (channel_at session number)) suits
    (stands_on rows (channel_at session number) body (suits.each number))
    (λ e. stays_open (channel_at session number) body (rw e suits.basic))
Suits-waiting (Some le) session rows number body suits = suits
