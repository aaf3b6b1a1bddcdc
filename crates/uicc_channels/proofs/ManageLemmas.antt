use Rattle.std.proofs.Common.{◌≡◌, ℕ, ◌≤◌, Bool, true, false, inl, inr, ◌⊎◌, [], ◌∷◌, Option, Some}
use Rattle.std.proofs.Common.{None, IsSome, refl, arith}
use Rattle.std.proofs.lemmas.Bool.{cases_eq}
use Rattle.std.specs.Prelude.{is_some, unwrap_or, ◌||◌, if◌then◌else◌}
use Rattle.std.specs.Option.{option_or}
use Rattle.apdu_codec.specs.Command.{Apdu}
use Rattle.apdu_codec.specs.declared.status.Sw.{Sw}
use Rattle.apdu_codec.specs.declared.status.TheConstants.Sw.{CHANNEL_NOT_SUPPORTED}
use Rattle.uicc_channels.proofs.NeedsLemmas.{AllMet, all_met}
use Rattle.uicc_channels.proofs.RowLemmas.{decided-has}
use Rattle.uicc_channels.specs.ChannelLaws.{IsLowestClosed}
use Rattle.uicc_channels.specs.CommandOutcome.{CommandOutcome, refused}
use Rattle.uicc_channels.specs.CommandRow.{decided}
use Rattle.uicc_channels.specs.Delivery.{le_refusal}
use Rattle.uicc_channels.specs.ManageChannel.{closing, is_closing, is_opening, lowest_closed}
use Rattle.uicc_channels.specs.ManageChannel.{manage_channel_row, opening, opening_refusal}
use Rattle.uicc_channels.specs.Needs.{refused_unless}
use Rattle.uicc_channels.specs.Session.{IsOpen, channel_at}
use Rattle.uicc_channels.specs.declared.chan.Chan.{Chan}
use Rattle.uicc_channels.specs.declared.session.Session.{Session}

-- of three places the first that is closed
first_closed : (one two three : Option Chan) (number : ℕ)
    → option_or (if is_some one then None else Some 1) (option_or (if is_some two then None else Some 2) (option_or (if is_some three then None else Some 3) None)) ≡ Some number
    → ((number ≡ 1) × (one ≡ None)) ⊎ (((number ≡ 2) × IsSome one × (two ≡ None)) ⊎ ((number ≡ 3) × IsSome one × IsSome two × (three ≡ None)))
first_closed None two three number e = inl (grind arith, refl)
first_closed (Some a) None three number e = inr (inl (grind arith, refl, refl))
first_closed (Some a) (Some b) None number e = inr (inr (grind arith, refl, refl, refl))
first_closed (Some a) (Some b) (Some d) number e = absurd (cc)

-- the channel that is found is the lowest closed one
pub lowest_closed-is : (session : Session) (number : ℕ) → lowest_closed session ≡ Some number → IsLowestClosed session number
lowest_closed-is session number e =
    elim (first_closed (channel_at session 1) (channel_at session 2) (channel_at session 3) number e) [
      | inl one ↦ (omega (arith, one.0), rw one.0 one.1, λ lower first below. absurd (omega (arith, one.0, first, below)))
      | inr (inl two) ↦ (
        omega (arith, two.0),
        rw two.0 two.2,
        λ lower first below.
            let at : lower ≡ 1 = omega (arith, two.0, first, below) in rw at two.1,
      )
      | inr (inr three) ↦ (
        omega (arith, three.0),
        rw three.0 three.3,
        λ lower first below. elim (cases_eq lower 1) [
          | inl at ↦ rw at three.1
          | inr apart ↦ let at : lower ≡ 2 = omega (arith, three.0, first, below, apart) in rw at three.2
        ],
      )
    ]

-- what MANAGE CHANNEL asks for where it isn't refused
pub record IsOpening (session : Session) (c : Apdu) (number : ℕ) : Type 0 where
  pub p1 : c.p1 ≡ 0x00
  pub channel : IsOpen session c.channel
  pub found : lowest_closed session ≡ Some number
  pub le : le_refusal c.le (number ∷ []) ≡ None

pub record IsClosing (c : Apdu) : Type 0 where
  pub p1 : c.p1 ≡ 0x80
  pub number : 1 ≤ c.p2

opening_p1 : (p1 p2 : ℕ) → is_opening p1 p2 ≡ true → p1 ≡ 0x00
opening_p1 p1 p2 e = grind arith

closing_form : (p1 p2 : ℕ) → (is_opening p1 p2 || is_closing p1 p2) ≡ true → is_opening p1 p2 ≡ false → (p1 ≡ 0x80) × (1 ≤ p2)
closing_form p1 p2 e other = (grind arith, grind arith)

-- what holds of each refusal, of opening and of closing holds of what MANAGE CHANNEL comes to
pub manage-has : (P : CommandOutcome → Type 0) (session : Session) (c : Apdu) → ((sw : Sw) → P (refused session sw)) → ((number : ℕ) → IsOpening session c number → P (opening session c number))
    → (IsClosing c → P (closing session c.p2)) → P (decided session (manage_channel_row session c))
manage-has P session c where_refused where_opening where_closing =
    decided-has P session (manage_channel_row session c) (λ sw said. where_refused sw)
    (λ none. let met : AllMet (manage_channel_row session c).needs = all_met (manage_channel_row session c).needs none in by_parameters (is_opening c.p1 c.p2) refl met.channel met.parameters met.own)
  where
    by_number : (found : Option ℕ) → lowest_closed session ≡ found → c.p1 ≡ 0x00 → IsOpen session c.channel → opening_refusal found c.le ≡ None → P (opening session c (unwrap_or found 0))
    by_number None e p1 channel own = absurd (cc)
    by_number (Some number) e p1 channel own = where_opening number (record { p1 = p1; channel = channel; found = e; le = own })

    by_parameters : (opens : Bool) → is_opening c.p1 c.p2 ≡ opens → IsOpen session c.channel → (opens || is_closing c.p1 c.p2) ≡ true
        → (if opens then opening_refusal (lowest_closed session) c.le else refused_unless (is_some (channel_at session c.p2)) CHANNEL_NOT_SUPPORTED) ≡ None
        → P (if opens then opening session c (unwrap_or (lowest_closed session) 0) else closing session c.p2)
    by_parameters true e channel parameters own = by_number (lowest_closed session) refl (opening_p1 c.p1 c.p2 e) channel own
    by_parameters false e channel parameters own =
        let form : (c.p1 ≡ 0x80) × (1 ≤ c.p2) = closing_form c.p1 c.p2 (rw e parameters) e in
        where_closing (record { p1 = form.0; number = form.1 })
