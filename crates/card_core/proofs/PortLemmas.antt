-- What stands on a port, and what a change of its content leaves.
use Rattle.std.proofs.Common.{◌≡◌, ◌≢◌, ℕ, zero, suc, Bool, true, false, cond, nat_eq, List, []}
use Rattle.std.proofs.Common.{◌∷◌}
use Rattle.std.proofs.Common.{Option, Some, None, Result, Ok, Err, refl, sym, ◌∙◌, ap, subst}
use Rattle.std.specs.Prelude.{slice_get, slice_index_or, unwrap_or, option_map, IfNone, IsSomeAnd}
use Rattle.std.specs.Prelude.{OnErr, OnOk}
use Rattle.file_rows.proofs.ListLemmas.{any_none}
use Rattle.file_rows.specs.Change.{Fits, KeepsPin, changed}
use Rattle.file_rows.specs.declared.change.Change.{Change}
use Rattle.file_rows.specs.declared.change.Change.TheVariants as changes
use Rattle.file_rows.specs.declared.content.Content.{Content}
use Rattle.file_rows.specs.Content.{IsValid}
use Rattle.file_rows.specs.FileHead.{Holds}
use Rattle.record_codec.proofs.FitLemmas.{fits_where}
use Rattle.record_codec.proofs.HeldLemmas.{content_none, content_valid}
use Rattle.record_codec.proofs.LocalLemmas.{contents_stay}
use Rattle.record_codec.specs.Apply.{apply}
use Rattle.record_codec.specs.Content.{MayChange, contents_with}
use Rattle.record_codec.specs.FitsCard.{FitsCard}
use Rattle.record_codec.specs.Heads.{IsHeld, content_at, held_content}
use Rattle.record_codec.specs.IsDurable.{IsDurable}
use Rattle.record_codec.specs.declared.durable.Durable.{Durable}
use Rattle.record_codec.specs.declared.profile.ProfileHead.{ProfileHead}
use Rattle.record_codec.specs.declared.record.Record.TheVariants as records
use Rattle.card_core.specs.Port.{blank_content, changed_on, content_held, content_on, profile_on}
use Rattle.card_core.specs.Port.{with_change_of}

-- no change fits a blank card
nothing_fits : (change : Change) → Fits blank_content change → ⊥
nothing_fits (changes.WriteRange path offset bytes) fits = fits.place
nothing_fits (changes.WriteRecord path number bytes) fits = fits.place
nothing_fits (changes.PinSet set) fits = any_none (λ pin. KeepsPin pin set) fits.place
nothing_fits (changes.FileAdd head) fits = any_none (λ row. Holds row.head head) fits.place.1
nothing_fits (changes.FileGone path) fits = let is : false ≡ true = fits.place in cc
nothing_fits (changes.FileState path life) fits = let is : false ≡ true = fits.place in cc
nothing_fits (changes.FileSize path size) fits = let is : false ≡ true = fits.place in cc

-- a content that is held is the profile's
pub found_held : (durable : Durable) (port profile : ℕ) (content : Content)
    → profile_on durable port ≡ Some profile → held_content profile durable ≡ Some content
    → content_on durable port ≡ content
found_held durable port profile content on is =
    ap (content_held durable) on ∙ ap (λ (held : Option Content). unwrap_or held blank_content) is

-- a profile that isn't held has a blank card's content
none_held : (durable : Durable) (port profile : ℕ) → profile_on durable port ≡ Some profile
    → (IsHeld profile durable.heads.profiles → ⊥) → content_on durable port ≡ blank_content
none_held durable port profile on none =
    ap (content_held durable) on ∙ ap (λ (held : Option Content). unwrap_or held blank_content)
    (content_none profile durable.heads.profiles durable.contents none)

-- a port without a profile has a blank card's content
pub none_on : (durable : Durable) (port : ℕ) → profile_on durable port ≡ None
    → content_on durable port ≡ blank_content
none_on durable port on = ap (content_held durable) on

-- a content that is held is valid
pub valid_held : (durable : Durable) (profile : ℕ) (content : Content) → IsDurable durable
    → held_content profile durable ≡ Some content → IsValid content
valid_held durable profile content are is =
    content_valid profile durable.heads.profiles durable.contents content are.contents.valid is

pub ruleset port_contents = (found_held, none_on, valid_held)

pub none_found : {X : Type 0} (durable : Durable) (port profile : ℕ) (found : Option X)
    → profile_on durable port ≡ Some profile
    → IfNone found (IsHeld profile durable.heads.profiles → ⊥)
    → IfNone found (content_on durable port ≡ blank_content)
none_found durable port profile None on none = none_held durable port profile on none
none_found durable port profile (Some x) on none = tt

-- a change of the content of a profile that is held fits the card
pub change_fits : (durable : Durable) (profile : ℕ) (change : Change) → IsDurable durable
    → MayChange durable profile change → FitsCard durable (records.Content profile change)
change_fits durable profile change are may =
    (fits_where durable (records.Content profile change) are).1
    (record { heads = tt; content = may })

-- a change that fits the content at a port is one of the profile that stands there
may_change : (durable : Durable) (profile : ℕ) (change : Change)
    → Fits (content_held durable (Some profile)) change → MayChange durable profile change
may_change durable profile change = by (held_content profile durable)
  where
    by : (held : Option Content) → Fits (unwrap_or held blank_content) change
        → IsSomeAnd held (λ content. Fits content change)
    by None fits = absurd (nothing_fits change fits)
    by (Some content) fits = fits

pub may_change_on : (durable : Durable) (port profile : ℕ) (change : Change)
    → Fits (content_on durable port) change → profile_on durable port ≡ Some profile
    → MayChange durable profile change
may_change_on durable port profile change fits on =
    may_change durable profile change
    (subst (λ (its : Option ℕ). Fits (content_held durable its) change) on fits)

-- on a port without a profile no change fits
pub none_changes : (durable : Durable) (port : ℕ) (change : Change)
    → Fits (content_on durable port) change → profile_on durable port ≡ None → ⊥
none_changes durable port change fits on =
    nothing_fits change (subst (λ (its : Option ℕ). Fits (content_held durable its) change) on fits)

-- the content at the place of a profile after a change of it
changed_at : (number : ℕ) (change : Content → Content) (heads : List ProfileHead)
    (contents : List Content)
    → content_at number heads (contents_with number change heads contents)
    ≡ option_map change (content_at number heads contents)
changed_at number change [] contents = refl
changed_at number change (head ∷ heads) [] = refl
changed_at number change (head ∷ heads) (content ∷ contents) =
    by (nat_eq head.number number) (changed_at number change heads contents)
  where
    by : (same : Bool)
        → content_at number heads (contents_with number change heads contents)
        ≡ option_map change (content_at number heads contents)
        → cond same (Some (cond same (change content) content))
        (content_at number heads (contents_with number change heads contents))
        ≡ option_map change (cond same (Some content) (content_at number heads contents))
    by true rest = refl
    by false rest = rest

-- the content of a profile after a change that fits it
changed_held : (durable : Durable) (profile : ℕ) (change : Change)
    → Fits (content_held durable (Some profile)) change
    → content_held (apply durable (records.Content profile change)) (Some profile)
    ≡ changed (content_held durable (Some profile)) change
changed_held durable profile change fits =
    by (held_content profile durable)
    (held_content profile (apply durable (records.Content profile change))) fits
    (changed_at profile (λ content. changed content change) durable.heads.profiles
    durable.contents)
  where
    by : (held after : Option Content) → Fits (unwrap_or held blank_content) change
        → after ≡ option_map (λ content. changed content change) held
        → unwrap_or after blank_content ≡ changed (unwrap_or held blank_content) change
    by None after fits is = absurd (nothing_fits change fits)
    by (Some content) after fits is = ap (λ (its : Option Content). unwrap_or its blank_content) is

-- it is the content at the port of the profile
changed_here : (durable after : Durable) (port profile : ℕ) (change : Change)
    → Fits (content_on durable port) change → profile_on durable port ≡ Some profile
    → after ≡ apply durable (records.Content profile change)
    → content_on after port ≡ changed (content_on durable port) change
changed_here durable after port profile change fits on is =
    ap (λ (d : Durable). content_on d port) is
    ∙ ap (content_held (apply durable (records.Content profile change))) on
    ∙ changed_held durable profile change
    (subst (λ (its : Option ℕ). Fits (content_held durable its) change) on fits)
    ∙ ap (λ (its : Option ℕ). changed (content_held durable its) change) (sym on)

-- a content of another profile stays
others_held : (durable after : Durable) (port profile other : ℕ) (change : Change)
    → IsDurable durable → profile_on durable port ≡ Some profile
    → profile_on durable port ≢ Some other
    → after ≡ apply durable (records.Content profile change)
    → held_content other after ≡ held_content other durable
others_held durable after port profile other change are on apart is =
    ap (held_content other) is
    ∙ contents_stay durable (records.Content profile change) other are.contents.pairs
    (λ same. apart (on ∙ ap Some same))

stands : (on : List (Option ℕ)) (port profile : ℕ) → slice_index_or on port None ≡ Some profile
    → slice_get on port ≡ Some (Some profile)
stands [] port profile is = absurd (cc)
stands (place ∷ on) zero profile is = ap Some is
stands (place ∷ on) (suc port) profile is = stands on port profile is

-- and so does the content at another port
changed_elsewhere : (durable after : Durable) (port profile other : ℕ) (change : Change)
    → IsDurable durable → profile_on durable port ≡ Some profile
    → after ≡ apply durable (records.Content profile change) → other ≢ port
    → content_on after other ≡ content_on durable other
changed_elsewhere durable after port profile other change are on is apart =
    ap (λ (d : Durable). content_on d other) is ∙ by (profile_on durable other) refl
  where
    by : (its : Option ℕ) → profile_on durable other ≡ its
        → content_held (apply durable (records.Content profile change)) its
        ≡ content_held durable its
    by None there = refl
    by (Some number) there =
        ap (λ (held : Option Content). unwrap_or held blank_content)
        (others_held durable (apply durable (records.Content profile change)) port profile number
        change are on
        (λ same. apart (are.heads.ports.rule.one_port number other port
        (stands durable.heads.ports.on other number there)
        (stands durable.heads.ports.on port number same))) refl)

-- the change is the one at the port, and leaves all that isn't content
pub changed_is : (durable after : Durable) (port profile : ℕ) (change : Change)
    → profile_on durable port ≡ Some profile
    → after ≡ apply durable (records.Content profile change)
    → after ≡ changed_on durable port change
changed_is durable after port profile change on is =
    is ∙ ap (λ (its : Option ℕ). with_change_of its change durable) (sym on)

pub heads_stay : (durable after : Durable) (profile : ℕ) (change : Change)
    → after ≡ apply durable (records.Content profile change) → after.heads ≡ durable.heads
heads_stay durable after profile change is = ap (λ (d : Durable). d.heads) is

pub ruleset port_changes = (may_change_on, none_changes, changed_is, heads_stay)

-- what is so once the change is recorded, or nothing changed
module _ {X Y : Type 0} (durable after : Durable) (port profile : ℕ) (change : Change)
    (on : profile_on durable port ≡ Some profile) where
  pub made_here : (result : Result X Y) → Fits (content_on durable port) change
      → OnOk result (after ≡ apply durable (records.Content profile change))
      → OnOk result (content_on after port ≡ changed (content_on durable port) change)
  made_here (Ok x) fits is = changed_here durable after port profile change fits on is
  made_here (Err e) fits is = tt

  pub made_elsewhere : (result : Result X Y) → IsDurable durable
      → OnOk result (after ≡ apply durable (records.Content profile change))
      → OnErr result (after ≡ durable) → (other : ℕ) → other ≢ port
      → content_on after other ≡ content_on durable other
  made_elsewhere (Ok x) are is stays other apart =
      changed_elsewhere durable after port profile other change are on is apart
  made_elsewhere (Err e) are is stays other apart = ap (λ (d : Durable). content_on d other) stays

  pub made_of_others : (result : Result X Y) → IsDurable durable
      → OnOk result (after ≡ apply durable (records.Content profile change))
      → OnErr result (after ≡ durable) → (other : ℕ) → profile_on durable port ≢ Some other
      → held_content other after ≡ held_content other durable
  made_of_others (Ok x) are is stays other apart =
      others_held durable after port profile other change are on apart is
  made_of_others (Err e) are is stays other apart = ap (held_content other) stays
