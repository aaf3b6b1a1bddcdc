-- In front of a refused element stand elements without a fault.
use Rattle.std.proofs.Common.{◌≡◌, ℕ, ◌+◌, Bool, true, false, cond, ◌==◌, ◌&&◌, List, [], ◌∷◌, ◌++◌}
use Rattle.std.proofs.Common.{refl, sym, ◌∙◌, ap, subst, ◌⊎◌, ⊎_elim, inl, inr, append_assoc}
use Rattle.std.proofs.Common.{append-nil, Err}
use Rattle.std.proofs.lemmas.Bool.{false≢true, true≢false}
use Rattle.package_reader.specs.Turn.{Turn}
use Rattle.package_reader.specs.Turn.Turn.{Comes, Goes}
use Rattle.package_reader.specs.declared.part.Part.{Part}
use Rattle.package_reader.specs.declared.part.Part.TheVariants.{Head, Bytes, Close, More, Bad}
use Rattle.profile_install.specs.ElementResult.{result_number}
use Rattle.profile_install.specs.FirstFaulty.{HasGoodElements, IsPackageResult}
use Rattle.profile_install.specs.Package.{AllWhole, AreParts, PackageGives, after_part, after_turns}
use Rattle.profile_install.specs.Package.{content_at_end, fresh_work, is_element_due, is_head}
use Rattle.profile_install.specs.Package.{is_used_up, package_outcome, refused_at}
use Rattle.profile_install.specs.State.{depth_of, fresh_state}
use Rattle.profile_install.specs.declared.fault.ElementFault.{ElementFault}
use Rattle.profile_install.specs.declared.fault.ElementFault.TheVariants.{NoRoom, Malformed}
use Rattle.profile_install.specs.declared.fault.ElementFault.TheVariants.{BadParameter}
use Rattle.profile_install.specs.declared.fault.ElementFault.TheVariants.{WrongTemplate}
use Rattle.profile_install.specs.declared.fault.ElementFault.TheVariants.{WrongVersion}
use Rattle.profile_install.specs.declared.state.Spot.{Spot}
use Rattle.profile_install.specs.declared.state.Spot.TheVariants.{Start, Elements, Ended, Header}
use Rattle.profile_install.specs.declared.state.Spot.TheVariants.{Template, File, Descriptor, Lists}
use Rattle.profile_install.specs.declared.state.Spot.TheVariants.{Steps, NewFile, Puks, PukEntry}
use Rattle.profile_install.specs.declared.state.Spot.TheVariants.{Pins, PinEntry}
use Rattle.profile_install.specs.declared.state.State.{State}
use Rattle.profile_install.specs.declared.work.Progress.{Progress}
use Rattle.profile_install.specs.declared.work.Progress.TheVariants.{Going, Broken, Refused}
use Rattle.profile_install.specs.declared.work.Refusal.{Refusal}
use Rattle.profile_install.specs.declared.work.Work.{Work}
use Rattle.profile_install.proofs.Reading.{after_more}

-- so many elements came, none of them with a fault, and then more
record GoodFront (iccid : List ℕ) (turns : List Turn) (count : ℕ) : Type 0 where
  front : List Turn
  back : List Turn
  whole : turns ≡ front ++ back
  state : State
  good : after_turns iccid fresh_work front ≡ record { place = count; progress = Going state }
  between : is_element_due (Going state) ≡ true

-- nothing has begun, or in front of the element that began last stand those before it
abbrev IsPlaced : List ℕ → List Turn → Work → Type 0
IsPlaced iccid turns work =
    ((work.place ≡ 0) × (work.progress ≡ Going fresh_state))
    ⊎ ((before : ℕ) × (work.place ≡ before + 1) × GoodFront iccid turns before)

longer : (iccid : List ℕ) (turns : List Turn) (turn : Turn) (count : ℕ)
    → GoodFront iccid turns count → GoodFront iccid (turns ++ turn ∷ []) count
longer iccid turns turn count front = record {
  front = front.front;
  back = front.back ++ turn ∷ [];
  whole = ap (λ (ts : List Turn). ts ++ turn ∷ []) front.whole
      ∙ append_assoc front.front front.back (turn ∷ []);
  state = front.state;
  good = front.good;
  between = front.between;
}

-- where an element is due the package goes on
all_so_far : (iccid : List ℕ) (turns more : List Turn) (place : ℕ) (progress : Progress)
    → after_turns iccid fresh_work turns ≡ record { place = place; progress = progress }
    → is_element_due progress ≡ true → GoodFront iccid (turns ++ more) place
all_so_far iccid turns more place (Going state) is due = record {
  front = turns;
  back = more;
  whole = refl;
  state = state;
  good = is;
  between = due;
}
all_so_far iccid turns more place (Broken faulty) is due = absurd (false≢true due)
all_so_far iccid turns more place (Refused fault) is due = absurd (false≢true due)

-- before the first element nothing but a head changes anything
nothing_begun : (iccid : List ℕ) (part : Part) (bytes : List ℕ) → is_head part ≡ false
    → (after_part iccid fresh_work part bytes).progress ≡ Going fresh_state
nothing_begun iccid (Head tag n place) bytes e = absurd (true≢false e)
nothing_begun iccid (Bytes count) bytes e = refl
nothing_begun iccid Close bytes e = refl
nothing_begun iccid More bytes e = refl
nothing_begun iccid (Bad place) bytes e = refl

module _ (iccid : List ℕ) (turns : List Turn) (part : Part) (bytes : List ℕ) where
  next_of : (place : ℕ) (progress : Progress) (head due : Bool) → is_head part ≡ head
      → is_element_due progress ≡ due
      → after_turns iccid fresh_work turns ≡ record { place = place; progress = progress }
      → IsPlaced iccid turns (record { place = place; progress = progress })
      → IsPlaced iccid (turns ++ Goes part bytes ∷ [])
      (after_part iccid (record { place = place; progress = progress }) part bytes)
  next_of place progress true true h d is placed = inr (
    place,
    ap (λ (b : Bool). cond b (place + 1) place)
        (ap (λ (b : Bool). b && is_element_due progress) h ∙ d),
    all_so_far iccid turns (Goes part bytes ∷ []) place progress is d,
  )
  next_of place progress true false h d is placed = ⊎_elim
      (λ fresh. absurd (true≢false (ap is_element_due (sym fresh.1) ∙ d)))
      (λ before. inr (
        before.0,
        ap (λ (b : Bool). cond b (place + 1) place)
            (ap (λ (b : Bool). b && is_element_due progress) h ∙ d) ∙ before.1,
        longer iccid turns (Goes part bytes) before.0 before.2,
      )) placed
  next_of place progress false due h d is placed = ⊎_elim
      (λ fresh. inl (
        ap (λ (b : Bool). cond b (place + 1) place)
            (ap (λ (b : Bool). b && is_element_due progress) h) ∙ fresh.0,
        ap (λ (p : Progress).
            (after_part iccid (record { place = place; progress = p }) part bytes).progress) fresh.1
            ∙ nothing_begun iccid part bytes h,
      ))
      (λ before. inr (
        before.0,
        ap (λ (b : Bool). cond b (place + 1) place)
            (ap (λ (b : Bool). b && is_element_due progress) h) ∙ before.1,
        longer iccid turns (Goes part bytes) before.0 before.2,
      )) placed

-- all turns, some of which are done
placed_along : (iccid : List ℕ) (done turns : List Turn) (work : Work) → AllWhole turns
    → after_turns iccid fresh_work done ≡ work → IsPlaced iccid done work
    → IsPlaced iccid (done ++ turns) (after_turns iccid work turns)
placed_along iccid done [] work whole is placed =
    subst (λ (ts : List Turn). IsPlaced iccid ts work) (sym (append-nil done)) placed
placed_along iccid done (Comes piece ∷ turns) work whole is placed = absurd whole
placed_along iccid done (Goes part bytes ∷ turns) work whole is placed =
    let next : IsPlaced iccid (done ++ Goes part bytes ∷ []) (after_part iccid work part bytes) =
    next_of iccid done part bytes work.place work.progress (is_head part)
    (is_element_due work.progress) refl refl is placed in
    subst (λ (ts : List Turn). IsPlaced iccid ts
    (after_turns iccid (after_part iccid work part bytes) turns))
    (append_assoc done (Goes part bytes ∷ []) turns)
    (placed_along iccid (done ++ Goes part bytes ∷ []) turns (after_part iccid work part bytes)
    whole.1
    (after_more iccid fresh_work done part bytes
    ∙ ap (λ (w : Work). after_part iccid w part bytes) is)
    next)

-- a refusal, at a place behind so many elements
abbrev IsBehind : List ℕ → List Turn → Refusal → Type 0
IsBehind iccid turns refusal =
    (before : ℕ) × (refusal.place ≡ before + 1) × GoodFront iccid turns before

same_place : (place : ℕ) (fault : ElementFault) (refusal : Refusal)
    → refused_at place fault ≡ Err refusal → refusal.place ≡ place
same_place place fault refusal e = cc

refused_here : (iccid : List ℕ) (turns : List Turn) (work : Work) (fault : ElementFault)
    (refusal : Refusal) → is_element_due work.progress ≡ false → IsPlaced iccid turns work
    → refused_at work.place fault ≡ Err refusal → IsBehind iccid turns refusal
refused_here iccid turns work fault refusal due placed e = ⊎_elim
    (λ fresh. absurd (true≢false (ap is_element_due (sym fresh.1) ∙ due)))
    (λ before. (before.0, same_place work.place fault refusal e ∙ before.1, before.2)) placed

refused_next : (iccid : List ℕ) (turns : List Turn) (place : ℕ) (state : State)
    (refusal : Refusal)
    → after_turns iccid fresh_work turns ≡ record { place = place; progress = Going state }
    → is_element_due (Going state) ≡ true → refused_at (place + 1) Malformed ≡ Err refusal
    → IsBehind iccid turns refusal
refused_next iccid turns place state refusal is due e = (
  place,
  same_place (place + 1) Malformed refusal e,
  subst (λ (ts : List Turn). GoodFront iccid ts place) (append-nil turns)
      (all_so_far iccid turns [] place (Going state) is due),
)

at_end : (iccid : List ℕ) (turns : List Turn) (place : ℕ) (state : State) (spot : Spot)
    (used : Bool) (refusal : Refusal)
    → after_turns iccid fresh_work turns ≡ record { place = place; progress = Going state }
    → is_element_due (Going state) ≡ true
    → content_at_end place state spot used ≡ Err refusal → IsBehind iccid turns refusal
at_end iccid turns place state Ended true refusal is due e = absurd (cc)
at_end iccid turns place state Ended false refusal is due e =
    refused_next iccid turns place state refusal is due e
at_end iccid turns place state Start used refusal is due e =
    refused_next iccid turns place state refusal is due e
at_end iccid turns place state Elements used refusal is due e =
    refused_next iccid turns place state refusal is due e
at_end iccid turns place state (Header fields) used refusal is due e =
    refused_next iccid turns place state refusal is due e
at_end iccid turns place state (Template list) used refusal is due e =
    refused_next iccid turns place state refusal is due e
at_end iccid turns place state (File list parts) used refusal is due e =
    refused_next iccid turns place state refusal is due e
at_end iccid turns place state (Descriptor list) used refusal is due e =
    refused_next iccid turns place state refusal is due e
at_end iccid turns place state (Lists kind seen) used refusal is due e =
    refused_next iccid turns place state refusal is due e
at_end iccid turns place state Steps used refusal is due e =
    refused_next iccid turns place state refusal is due e
at_end iccid turns place state NewFile used refusal is due e =
    refused_next iccid turns place state refusal is due e
at_end iccid turns place state Puks used refusal is due e =
    refused_next iccid turns place state refusal is due e
at_end iccid turns place state (PukEntry fields) used refusal is due e =
    refused_next iccid turns place state refusal is due e
at_end iccid turns place state Pins used refusal is due e =
    refused_next iccid turns place state refusal is due e
at_end iccid turns place state (PinEntry fields) used refusal is due e =
    refused_next iccid turns place state refusal is due e

behind : (iccid : List ℕ) (turns : List Turn) (place : ℕ) (progress : Progress) (used : Bool)
    (refusal : Refusal)
    → after_turns iccid fresh_work turns ≡ record { place = place; progress = progress }
    → IsPlaced iccid turns (record { place = place; progress = progress })
    → package_outcome place progress used ≡ Err refusal → IsBehind iccid turns refusal
behind iccid turns place (Going state) used refusal is placed e =
    by ((depth_of state.spot == 0) && (state.passed == 0)) refl e
  where
    by : (b : Bool) → ((depth_of state.spot == 0) && (state.passed == 0)) ≡ b
        → cond b (content_at_end place state state.spot used) (refused_at place Malformed)
        ≡ Err refusal → IsBehind iccid turns refusal
    by true due e = at_end iccid turns place state state.spot used refusal is due e
    by false due e = refused_here iccid turns (record { place = place; progress = Going state })
        Malformed refusal due placed e
behind iccid turns place (Broken faulty) used refusal is placed e =
    refused_here iccid turns (record { place = place; progress = Broken faulty }) Malformed refusal
    refl placed e
behind iccid turns place (Refused fault) used refusal is placed e =
    refused_here iccid turns (record { place = place; progress = Refused fault }) fault refusal
    refl placed e

pub first_faulty : (iccid bytes : List ℕ) (refusal : Refusal)
    → PackageGives iccid bytes (Err refusal)
    → (before : ℕ) × (refusal.place ≡ before + 1) × HasGoodElements iccid bytes before
first_faulty iccid bytes refusal gives =
    let work = after_turns iccid fresh_work gives.turns in
    let placed : IsPlaced iccid gives.turns work =
    placed_along iccid [] gives.turns fresh_work gives.parts.whole refl (inl (refl, refl)) in
    let its : IsBehind iccid gives.turns refusal =
    behind iccid gives.turns work.place work.progress (is_used_up gives.last.unread) refusal refl
    placed (sym gives.meant) in (
      its.0,
      its.1,
      record {
        front = its.2.front;
        back = its.2.back;
        last = gives.last;
        parts = subst (λ (ts : List Turn). AreParts bytes ts gives.last) its.2.whole gives.parts;
        state = its.2.state;
        good = its.2.good;
        between = its.2.between;
      },
    )

one_of_five : (fault : ElementFault) → IsPackageResult (result_number fault)
one_of_five NoRoom = inl refl
one_of_five Malformed = inr (inl refl)
one_of_five BadParameter = inr (inr (inl refl))
one_of_five WrongTemplate = inr (inr (inr (inl refl)))
one_of_five WrongVersion = inr (inr (inr (inr refl)))

result_of : (place : ℕ) (fault : ElementFault) (refusal : Refusal)
    → refused_at place fault ≡ Err refusal → IsPackageResult refusal.result
result_of place fault refusal e =
    let is : result_number fault ≡ refusal.result = cc in
    subst (λ (n : ℕ). IsPackageResult n) is (one_of_five fault)

result_at_end : (place : ℕ) (state : State) (spot : Spot) (used : Bool) (refusal : Refusal)
    → content_at_end place state spot used ≡ Err refusal → IsPackageResult refusal.result
result_at_end place state Ended true refusal e = absurd (cc)
result_at_end place state Ended false refusal e = result_of (place + 1) Malformed refusal e
result_at_end place state Start used refusal e = result_of (place + 1) Malformed refusal e
result_at_end place state Elements used refusal e = result_of (place + 1) Malformed refusal e
result_at_end place state (Header fields) used refusal e =
    result_of (place + 1) Malformed refusal e
result_at_end place state (Template list) used refusal e =
    result_of (place + 1) Malformed refusal e
result_at_end place state (File list parts) used refusal e =
    result_of (place + 1) Malformed refusal e
result_at_end place state (Descriptor list) used refusal e =
    result_of (place + 1) Malformed refusal e
result_at_end place state (Lists kind seen) used refusal e =
    result_of (place + 1) Malformed refusal e
result_at_end place state Steps used refusal e = result_of (place + 1) Malformed refusal e
result_at_end place state NewFile used refusal e = result_of (place + 1) Malformed refusal e
result_at_end place state Puks used refusal e = result_of (place + 1) Malformed refusal e
result_at_end place state (PukEntry fields) used refusal e =
    result_of (place + 1) Malformed refusal e
result_at_end place state Pins used refusal e = result_of (place + 1) Malformed refusal e
result_at_end place state (PinEntry fields) used refusal e =
    result_of (place + 1) Malformed refusal e

result_is : (place : ℕ) (progress : Progress) (used : Bool) (refusal : Refusal)
    → package_outcome place progress used ≡ Err refusal → IsPackageResult refusal.result
result_is place (Going state) used refusal e =
    by ((depth_of state.spot == 0) && (state.passed == 0)) e
  where
    by : (b : Bool) → cond b (content_at_end place state state.spot used)
        (refused_at place Malformed) ≡ Err refusal → IsPackageResult refusal.result
    by true e = result_at_end place state state.spot used refusal e
    by false e = result_of place Malformed refusal e
result_is place (Broken faulty) used refusal e = result_of place Malformed refusal e
result_is place (Refused fault) used refusal e = result_of place fault refusal e

pub one_of_the_results : (iccid bytes : List ℕ) (refusal : Refusal)
    → PackageGives iccid bytes (Err refusal) → IsPackageResult refusal.result
one_of_the_results iccid bytes refusal gives =
    let work = after_turns iccid fresh_work gives.turns in
    result_is work.place work.progress (is_used_up gives.last.unread) refusal (sym gives.meant)
