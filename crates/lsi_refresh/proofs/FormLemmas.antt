use Rattle.std.proofs.Common.{◌≡◌, ℕ, Bool, true, false, Option, Some, None, IfSome, length, refl}
use Rattle.std.proofs.Common.{if◌then◌else◌}
use Rattle.std.specs.Option.{option_or}
use Rattle.apdu_codec.specs.Sw.{wrong_le}
use Rattle.apdu_codec.specs.declared.status.Sw.{Sw}
use Rattle.apdu_codec.specs.declared.status.TheConstants.Sw.{CHANNEL_NOT_SUPPORTED, WRONG_CLASS}
use Rattle.apdu_codec.specs.declared.status.TheConstants.Sw.{WRONG_LENGTH, WRONG_P1_P2}
use Rattle.uicc_channels.specs.Delivery.{takes}
use Rattle.uicc_channels.specs.Needs.{refused_unless}
use Rattle.uicc_channels.specs.declared.session.Refresh.{Refresh}
use Rattle.uicc_channels.specs.declared.session.Refresh.TheVariants.{Announced, Fetched, Quiet}
use Rattle.lsi_refresh.proofs.OutcomeLemmas.{IsOther}
use Rattle.lsi_refresh.specs.Fetch.{fetch_refusal}
use Rattle.lsi_refresh.specs.RefreshCommand.{refresh_command}
use Rattle.lsi_refresh.specs.TerminalResponse.{response_refusal}

-- why a command is refused: its form, or what its instruction asks
abbrev pub refusal_by : Bool → Bool → Bool → Bool → Option Sw → Option Sw
refusal_by channel class parameters lengths own =
    option_or (refused_unless channel CHANNEL_NOT_SUPPORTED)
    (option_or (refused_unless class WRONG_CLASS)
    (option_or (refused_unless parameters WRONG_P1_P2)
    (option_or (refused_unless lengths WRONG_LENGTH)
    (option_or own None))))

-- what refuses, if anything does, is another status word than 9000
abbrev pub RefusesByOther : Option Sw → Type 0
RefusesByOther refusal = IfSome refusal IsOther

-- a form is refused by other status words than 9000
pub refusal_by-other : (channel class parameters lengths : Bool) (own : Option Sw) → RefusesByOther own → RefusesByOther (refusal_by channel class parameters lengths own)
refusal_by-other false class parameters lengths own others = refl
refusal_by-other true false parameters lengths own others = refl
refusal_by-other true true false lengths own others = refl
refusal_by-other true true true false own others = refl
refusal_by-other true true true true None others = tt
refusal_by-other true true true true (Some sw) others = others

-- where nothing is refused, the instruction asks for nothing more
pub refusal_by-none : (channel class parameters lengths : Bool) (own : Option Sw) → refusal_by channel class parameters lengths own ≡ None → own ≡ None
refusal_by-none false class parameters lengths own none = absurd (cc)
refusal_by-none true false parameters lengths own none = absurd (cc)
refusal_by-none true true false lengths own none = absurd (cc)
refusal_by-none true true true false own none = absurd (cc)
refusal_by-none true true true true None none = refl
refusal_by-none true true true true (Some sw) none = none

pub fetch_refusal-other : (refresh : Refresh) (le : Option ℕ) → RefusesByOther (fetch_refusal refresh le)
fetch_refusal-other Announced None = tt
fetch_refusal-other Announced (Some le) = by_le (takes le (length refresh_command))
  where
    by_le : (taken : Bool) → RefusesByOther (option_or (if taken then None else Some (wrong_le (length refresh_command))) None)
    by_le true = tt
    by_le false = refl
fetch_refusal-other Fetched le = refl
fetch_refusal-other Quiet le = refl

pub fetch_refusal-none : (refresh : Refresh) (le : Option ℕ) → fetch_refusal refresh le ≡ None → refresh ≡ Announced
fetch_refusal-none Announced le none = refl
fetch_refusal-none Fetched le none = absurd (cc)
fetch_refusal-none Quiet le none = absurd (cc)

pub response_refusal-other : (refresh : Refresh) → RefusesByOther (response_refusal refresh)
response_refusal-other Announced = refl
response_refusal-other Fetched = tt
response_refusal-other Quiet = refl

pub response_refusal-none : (refresh : Refresh) → response_refusal refresh ≡ None → refresh ≡ Fetched
response_refusal-none Announced none = absurd (cc)
response_refusal-none Fetched none = refl
response_refusal-none Quiet none = absurd (cc)
