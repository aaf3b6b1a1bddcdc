-- A package gives a content for one ICCID alone.
use Rattle.std.proofs.Common.{◌≡◌, ℕ, ◌+◌, ◌-◌, Bool, true, false, cond, ◌==◌, ◌&&◌, ◌||◌, List, []}
use Rattle.std.proofs.Common.{◌∷◌, ◌++◌, length, refl, sym, ◌∙◌, ap, subst, ◌⊎◌, ⊎_elim, inl, inr}
use Rattle.std.proofs.Common.{Option, Some, None, Result, Ok, Err}
use Rattle.std.specs.Bool.{⊤}
use Rattle.std.specs.Prelude.{nat_le}
use Rattle.std.specs.Str.{bytes_eq}
use Rattle.std.proofs.lemmas.Bool.{true≢false}
use Rattle.std.proofs.lemmas.Slice.Eq.{bytes_eq-Decides}
use Rattle.file_rows.specs.declared.content.Content.{Content}
use Rattle.package_reader.specs.ReaderState.{fed, fresh_reader, opens}
use Rattle.package_reader.specs.Turn.{Turn}
use Rattle.package_reader.specs.Turn.Turn.{Comes, Goes}
use Rattle.package_reader.specs.declared.part.Part.{Part}
use Rattle.package_reader.specs.declared.part.Part.TheVariants.{Head, Bytes, Close, More, Bad}
use Rattle.profile_install.specs.ElementResult.{then_with}
use Rattle.profile_install.specs.Header.{is_header_whole, major_told, no_header_fields}
use Rattle.profile_install.specs.Header.{with_header_field, with_iccid, with_major, with_minor}
use Rattle.profile_install.specs.Package.{PackageGives, after_part, after_turns, broken, closed}
use Rattle.profile_install.specs.Package.{constructed_begins, content_at_end, element_with_fault}
use Rattle.profile_install.specs.Package.{fresh_work, gathering, going, headed, heading}
use Rattle.profile_install.specs.Package.{is_gathering, is_used_up, package_outcome, progress_after}
use Rattle.profile_install.specs.Package.{refused_at, step_settled, valued}
use Rattle.profile_install.specs.State.{at, closed_at, depth_of, opened_at, valued_at}
use Rattle.profile_install.specs.Values.{one_byte}
use Rattle.profile_install.specs.declared.fault.ElementFault.{ElementFault}
use Rattle.profile_install.specs.declared.fault.ElementFault.TheVariants.{Malformed, BadParameter}
use Rattle.profile_install.specs.declared.fault.ElementFault.TheVariants.{WrongVersion}
use Rattle.profile_install.specs.declared.header.HeaderFields.{HeaderFields}
use Rattle.profile_install.specs.declared.state.Awaited.{Awaited}
use Rattle.profile_install.specs.declared.state.Spot.{Spot}
use Rattle.profile_install.specs.declared.state.Spot.TheVariants.{Start, Elements, Ended, Header}
use Rattle.profile_install.specs.declared.state.Spot.TheVariants.{Template, File, Descriptor, Lists}
use Rattle.profile_install.specs.declared.state.Spot.TheVariants.{Steps, NewFile, Puks, PukEntry}
use Rattle.profile_install.specs.declared.state.Spot.TheVariants.{Pins, PinEntry}
use Rattle.profile_install.specs.declared.state.State.{State}
use Rattle.profile_install.specs.declared.work.Faulty.{Faulty}
use Rattle.profile_install.specs.declared.work.Progress.{Progress}
use Rattle.profile_install.specs.declared.work.Progress.TheVariants.{Going, Broken, Refused}
use Rattle.profile_install.specs.declared.work.Work.{Work}
use Rattle.profile_install.proofs.Oks.{if_ok, not_ok, ok_is, then_ok}
use Rattle.profile_install.proofs.OneAnswer.{same_parts}

-- a package that goes on no more
abbrev HasFault : Progress → Type 0
HasFault (Going state) = ⊥
HasFault (Broken faulty) = ⊤
HasFault (Refused fault) = ⊤

-- the header's ICCID hasn't come
abbrev IsEarly : Spot → Type 0
IsEarly Start = ⊤
IsEarly Elements = ⊥
IsEarly Ended = ⊥
IsEarly (Header fields) = fields.iccid ≡ false
IsEarly (Template list) = ⊥
IsEarly (File list parts) = ⊥
IsEarly (Descriptor list) = ⊥
IsEarly (Lists kind seen) = ⊥
IsEarly Steps = ⊥
IsEarly NewFile = ⊥
IsEarly Puks = ⊥
IsEarly (PukEntry fields) = ⊥
IsEarly Pins = ⊥
IsEarly (PinEntry fields) = ⊥

abbrev IsEarlyProgress : Progress → Type 0
IsEarlyProgress (Going state) = IsEarly state.spot
IsEarlyProgress (Broken faulty) = ⊤
IsEarlyProgress (Refused fault) = ⊤

-- with two ICCIDs a package has come equally far, unless they are one or one of them is refused
abbrev GoAlike : List ℕ → List ℕ → Progress → Progress → Type 0
GoAlike one other p q =
    (one ≡ other) ⊎ (HasFault p ⊎ (HasFault q ⊎ ((p ≡ q) × IsEarlyProgress p)))

alike : (one other : List ℕ) (p : Progress) → IsEarlyProgress p → GoAlike one other p p
alike one other p early = inr (inr (inr (refl, early)))

fault_has : (fault : ElementFault) (depth : ℕ) → HasFault (element_with_fault fault depth)
fault_has fault depth = by (depth == 0)
  where
    by : (b : Bool)
        → HasFault (cond b (Refused fault) (Broken (record { fault = fault; depth = depth })))
    by true = tt
    by false = tt

fault_early : (fault : ElementFault) (depth : ℕ)
    → IsEarlyProgress (element_with_fault fault depth)
fault_early fault depth = by (depth == 0)
  where
    by : (b : Bool) → IsEarlyProgress
        (cond b (Refused fault) (Broken (record { fault = fault; depth = depth })))
    by true = tt
    by false = tt

either_early : (b : Bool) (p q : Progress) → IsEarlyProgress p → IsEarlyProgress q
    → IsEarlyProgress (cond b p q)
either_early true p q one other = one
either_early false p q one other = other

same_spot : (b : Bool) (more state : State) → more.spot ≡ state.spot → IsEarly state.spot
    → IsEarly (cond b more state).spot
same_spot true more state e early = subst (λ (spot : Spot). IsEarly spot) (sym e) early
same_spot false more state e early = early

opened_early : (state : State) (spot : Spot) (tag depth : ℕ) → state.spot ≡ spot → IsEarly spot
    → IsEarlyProgress (step_settled (opened_at state spot tag) depth)
opened_early state Start tag depth e early = by (tag == 0xA0)
  where
    by : (b : Bool) → IsEarlyProgress
        (step_settled (cond b (Ok (at state (Header no_header_fields))) (Err Malformed)) depth)
    by true = refl
    by false = fault_early Malformed depth
opened_early state (Header fields) tag depth e early =
    subst (λ (spot : Spot). IsEarly spot) (sym e) early
opened_early state Elements tag depth e early = absurd early
opened_early state Ended tag depth e early = absurd early
opened_early state (Template list) tag depth e early = absurd early
opened_early state (File list parts) tag depth e early = absurd early
opened_early state (Descriptor list) tag depth e early = absurd early
opened_early state (Lists kind seen) tag depth e early = absurd early
opened_early state Steps tag depth e early = absurd early
opened_early state NewFile tag depth e early = absurd early
opened_early state Puks tag depth e early = absurd early
opened_early state (PukEntry fields) tag depth e early = absurd early
opened_early state Pins tag depth e early = absurd early
opened_early state (PinEntry fields) tag depth e early = absurd early

not_whole : (fields : HeaderFields) → fields.iccid ≡ false → is_header_whole fields ≡ false
not_whole fields e = by fields.major fields.minor fields.iccid e
  where
    by : (a b c : Bool) → c ≡ false → (a && (b && c)) ≡ false
    by true true c e = e
    by true false c e = refl
    by false b c e = refl

closed_early : (state : State) (spot : Spot) (depth : ℕ) → state.spot ≡ spot → IsEarly spot
    → IsEarlyProgress (step_settled (closed_at state spot) depth)
closed_early state Start depth e early = subst (λ (spot : Spot). IsEarly spot) (sym e) early
closed_early state (Header fields) depth e early = by (is_header_whole fields)
    (not_whole fields early)
  where
    by : (b : Bool) → b ≡ false → IsEarlyProgress
        (step_settled (cond b (Ok (at state Elements)) (Err Malformed)) depth)
    by true e = absurd (true≢false e)
    by false e = fault_early Malformed depth
closed_early state Elements depth e early = absurd early
closed_early state Ended depth e early = absurd early
closed_early state (Template list) depth e early = absurd early
closed_early state (File list parts) depth e early = absurd early
closed_early state (Descriptor list) depth e early = absurd early
closed_early state (Lists kind seen) depth e early = absurd early
closed_early state Steps depth e early = absurd early
closed_early state NewFile depth e early = absurd early
closed_early state Puks depth e early = absurd early
closed_early state (PukEntry fields) depth e early = absurd early
closed_early state Pins depth e early = absurd early
closed_early state (PinEntry fields) depth e early = absurd early

-- the header goes on with these fields
abbrev header_goes : State → ℕ → Result HeaderFields ElementFault → Progress
header_goes state depth fields =
    step_settled (then_with (λ its. Ok (at state (Header its))) fields) depth

header_early : (state : State) (depth : ℕ) (fields : Result HeaderFields ElementFault)
    → ((its : HeaderFields) → fields ≡ Ok its → its.iccid ≡ false)
    → IsEarlyProgress (header_goes state depth fields)
header_early state depth (Ok its) early = early its refl
header_early state depth (Err fault) early = fault_early fault depth

major_keeps : (fields its : HeaderFields) (value : List ℕ) → fields.iccid ≡ false
    → with_major fields value ≡ Ok its → its.iccid ≡ false
major_keeps fields its value early e = if_ok fields.major (Err Malformed)
    (then_with (major_told fields) (one_byte value)) its e
    (λ _ no. absurd (not_ok Malformed its no))
    (λ _ told. let byte = then_ok (major_told fields) (one_byte value) its told in
    if_ok ((byte.0 == 2) || (byte.0 == 3)) (Ok (record fields { major = true }))
    (Err WrongVersion) its byte.2
    (λ _ is. ap (λ (f : HeaderFields). f.iccid) (sym (ok_is (record fields { major = true }) its is))
    ∙ early)
    (λ _ no. absurd (not_ok WrongVersion its no)))

minor_keeps : (fields its : HeaderFields) (value : List ℕ) → fields.iccid ≡ false
    → with_minor fields value ≡ Ok its → its.iccid ≡ false
minor_keeps fields its value early e = if_ok fields.minor (Err Malformed)
    (then_with (λ _. Ok (record fields { minor = true })) (one_byte value)) its e
    (λ _ no. absurd (not_ok Malformed its no))
    (λ _ told. let byte = then_ok (λ (_ : ℕ). Ok (record fields { minor = true }))
    (one_byte value) its told in
    ap (λ (f : HeaderFields). f.iccid)
    (sym (ok_is (record fields { minor = true }) its byte.2)) ∙ early)

module _ (one other : List ℕ) where
  iccid_alike : (state : State) (depth : ℕ) (fields : HeaderFields) (value : List ℕ)
      → fields.iccid ≡ false
      → GoAlike one other (header_goes state depth (with_iccid one fields value))
      (header_goes state depth (with_iccid other fields value))
  iccid_alike state depth fields value early = came fields.iccid early
    where
      same : (a b : Bool) → bytes_eq value one ≡ a → bytes_eq value other ≡ b
          → GoAlike one other
          (header_goes state depth
          (cond a (Ok (record fields { iccid = true })) (Err BadParameter)))
          (header_goes state depth
          (cond b (Ok (record fields { iccid = true })) (Err BadParameter)))
      same true true e h = inl (sym ((bytes_eq-Decides value one).0 e)
          ∙ (bytes_eq-Decides value other).0 h)
      same true false e h = inr (inr (inl (fault_has BadParameter depth)))
      same false b e h = inr (inl (fault_has BadParameter depth))

      long : (b : Bool) → GoAlike one other
          (header_goes state depth (cond b
          (cond (bytes_eq value one) (Ok (record fields { iccid = true })) (Err BadParameter))
          (Err Malformed)))
          (header_goes state depth (cond b
          (cond (bytes_eq value other) (Ok (record fields { iccid = true })) (Err BadParameter))
          (Err Malformed)))
      long true = same (bytes_eq value one) (bytes_eq value other) refl refl
      long false = alike one other (element_with_fault Malformed depth)
          (fault_early Malformed depth)

      came : (b : Bool) → b ≡ false → GoAlike one other
          (header_goes state depth (cond b (Err Malformed) (cond (length value == 10)
          (cond (bytes_eq value one) (Ok (record fields { iccid = true })) (Err BadParameter))
          (Err Malformed))))
          (header_goes state depth (cond b (Err Malformed) (cond (length value == 10)
          (cond (bytes_eq value other) (Ok (record fields { iccid = true })) (Err BadParameter))
          (Err Malformed))))
      came true e = absurd (true≢false e)
      came false e = long (length value == 10)

  header_alike : (state : State) (depth : ℕ) (fields : HeaderFields) (tag : ℕ) (value : List ℕ)
      → fields.iccid ≡ false
      → GoAlike one other (header_goes state depth (with_header_field one fields tag value))
      (header_goes state depth (with_header_field other fields tag value))
  header_alike state depth fields tag value early =
      by (tag == 0x80) (tag == 0x81) (tag == 0x83)
    where
      by : (a b c : Bool) → GoAlike one other
          (header_goes state depth (cond a (with_major fields value)
          (cond b (with_minor fields value) (cond c (with_iccid one fields value) (Ok fields)))))
          (header_goes state depth (cond a (with_major fields value)
          (cond b (with_minor fields value) (cond c (with_iccid other fields value) (Ok fields)))))
      by true b c = alike one other (header_goes state depth (with_major fields value))
          (header_early state depth (with_major fields value)
          (λ its e. major_keeps fields its value early e))
      by false true c = alike one other (header_goes state depth (with_minor fields value))
          (header_early state depth (with_minor fields value)
          (λ its e. minor_keeps fields its value early e))
      by false false true = iccid_alike state depth fields value early
      by false false false = alike one other (header_goes state depth (Ok fields))
          (header_early state depth (Ok fields)
          (λ its e. ap (λ (f : HeaderFields). f.iccid) (sym (ok_is fields its e)) ∙ early))

  value_alike : (state : State) (spot : Spot) (tag : ℕ) (value : List ℕ) (depth : ℕ)
      → IsEarly spot
      → GoAlike one other (step_settled (valued_at one state spot tag value) depth)
      (step_settled (valued_at other state spot tag value) depth)
  value_alike state Start tag value depth early =
      alike one other (element_with_fault Malformed depth) (fault_early Malformed depth)
  value_alike state (Header fields) tag value depth early =
      header_alike state depth fields tag value early
  value_alike state Elements tag value depth early = absurd early
  value_alike state Ended tag value depth early = absurd early
  value_alike state (Template list) tag value depth early = absurd early
  value_alike state (File list parts) tag value depth early = absurd early
  value_alike state (Descriptor list) tag value depth early = absurd early
  value_alike state (Lists kind seen) tag value depth early = absurd early
  value_alike state Steps tag value depth early = absurd early
  value_alike state NewFile tag value depth early = absurd early
  value_alike state Puks tag value depth early = absurd early
  value_alike state (PukEntry fields) tag value depth early = absurd early
  value_alike state Pins tag value depth early = absurd early
  value_alike state (PinEntry fields) tag value depth early = absurd early

  opening_alike : (state : State) (tag : ℕ) → IsEarly state.spot
      → GoAlike one other (constructed_begins state tag) (constructed_begins state tag)
  opening_alike state tag early = alike one other (constructed_begins state tag)
      (either_early (nat_le 1 state.passed) (Going (record state { passed = state.passed + 1 }))
      (step_settled (opened_at state state.spot tag) (depth_of state.spot + 1)) early
      (opened_early state state.spot tag (depth_of state.spot + 1) refl early))

  heading_alike : (state : State) (tag n : ℕ) → IsEarly state.spot
      → GoAlike one other (heading one state tag n) (heading other state tag n)
  heading_alike state tag n early =
      by (nat_le 1 state.passed) ((n == 0) || (depth_of state.spot == 0))
    where
      by : (a b : Bool) → GoAlike one other
          (cond a (Going state) (cond b
          (step_settled (valued_at one state state.spot tag []) (depth_of state.spot))
          (Going (record state { awaited = Some (record { tag = tag; length = n }) }))))
          (cond a (Going state) (cond b
          (step_settled (valued_at other state state.spot tag []) (depth_of state.spot))
          (Going (record state { awaited = Some (record { tag = tag; length = n }) }))))
      by true b = alike one other (Going state) early
      by false true = value_alike state state.spot tag [] (depth_of state.spot) early
      by false false = alike one other
          (Going (record state { awaited = Some (record { tag = tag; length = n }) })) early

  headed_alike : (state : State) (tag n : ℕ) (constructed : Bool) → IsEarly state.spot
      → GoAlike one other (headed one state tag n constructed)
      (headed other state tag n constructed)
  headed_alike state tag n true early = opening_alike state tag early
  headed_alike state tag n false early = heading_alike state tag n early

  valued_alike : (state : State) (bytes : List ℕ) (awaited : Option Awaited) → IsEarly state.spot
      → GoAlike one other (valued one state bytes awaited) (valued other state bytes awaited)
  valued_alike state bytes None early = alike one other (Going state) early
  valued_alike state bytes (Some awaited) early = by (awaited.length == length bytes)
    where
      by : (b : Bool) → GoAlike one other
          (cond b (step_settled (valued_at one (record state { awaited = None }) state.spot
          awaited.tag bytes) (depth_of state.spot)) (Going state))
          (cond b (step_settled (valued_at other (record state { awaited = None }) state.spot
          awaited.tag bytes) (depth_of state.spot)) (Going state))
      by true = value_alike (record state { awaited = None }) state.spot awaited.tag bytes
          (depth_of state.spot) early
      by false = alike one other (Going state) early

  closed_alike : (state : State) → IsEarly state.spot
      → GoAlike one other (closed state) (closed state)
  closed_alike state early = alike one other (closed state)
      (either_early (nat_le 1 state.passed) (Going (record state { passed = state.passed - 1 }))
      (step_settled (closed_at state state.spot) (depth_of state.spot - 1)) early
      (closed_early state state.spot (depth_of state.spot - 1) refl early))

  gathering_early : (state : State) (bytes : List ℕ) → IsEarly state.spot
      → IsEarly (gathering state bytes).spot
  gathering_early state bytes early = same_spot (is_gathering state.spot)
      (record state { gathered = state.gathered ++ bytes }) state refl early

  going_alike : (state : State) (part : Part) (bytes : List ℕ) → IsEarly state.spot
      → GoAlike one other (going one state part bytes) (going other state part bytes)
  going_alike state (Head tag n place) bytes early = headed_alike (gathering state bytes) tag n
      (opens bytes) (gathering_early state bytes early)
  going_alike state (Bytes count) bytes early = valued_alike (gathering state bytes) bytes
      state.awaited (gathering_early state bytes early)
  going_alike state Close bytes early = closed_alike state early
  going_alike state More bytes early = alike one other (Going state) early
  going_alike state (Bad place) bytes early = alike one other (Going state) early

  broken_has : (faulty : Faulty) (part : Part) (bytes : List ℕ)
      → HasFault (broken faulty part bytes)
  broken_has faulty (Head tag n place) bytes = by (opens bytes)
    where
      by : (b : Bool) → HasFault
          (cond b (Broken (record faulty { depth = faulty.depth + 1 })) (Broken faulty))
      by true = tt
      by false = tt
  broken_has faulty (Bytes count) bytes = tt
  broken_has faulty Close bytes = fault_has faulty.fault (faulty.depth - 1)
  broken_has faulty More bytes = tt
  broken_has faulty (Bad place) bytes = tt

  fault_stays : (iccid : List ℕ) (p : Progress) (part : Part) (bytes : List ℕ) → HasFault p
      → HasFault (progress_after iccid p part bytes)
  fault_stays iccid (Going state) part bytes has = absurd has
  fault_stays iccid (Broken faulty) part bytes has = broken_has faulty part bytes
  fault_stays iccid (Refused fault) part bytes has = tt

  early_alike : (p : Progress) (part : Part) (bytes : List ℕ) → IsEarlyProgress p
      → GoAlike one other (progress_after one p part bytes) (progress_after other p part bytes)
  early_alike (Going state) part bytes early = going_alike state part bytes early
  early_alike (Broken faulty) part bytes early = inr (inl (broken_has faulty part bytes))
  early_alike (Refused fault) part bytes early = inr (inl tt)

  next_alike : (p q : Progress) (part : Part) (bytes : List ℕ) → GoAlike one other p q
      → GoAlike one other (progress_after one p part bytes) (progress_after other q part bytes)
  next_alike p q part bytes both = ⊎_elim (λ e. inl e)
      (⊎_elim (λ has. inr (inl (fault_stays one p part bytes has)))
      (⊎_elim (λ has. inr (inr (inl (fault_stays other q part bytes has))))
      (λ same. subst (λ (r : Progress). GoAlike one other (progress_after one p part bytes)
      (progress_after other r part bytes)) same.0 (early_alike p part bytes same.1)))) both

  alike_along : (v w : Work) (turns : List Turn) → GoAlike one other v.progress w.progress
      → GoAlike one other (after_turns one v turns).progress (after_turns other w turns).progress
  alike_along v w [] both = both
  alike_along v w (Comes piece ∷ turns) both = alike_along v w turns both
  alike_along v w (Goes part bytes ∷ turns) both = alike_along (after_part one v part bytes)
      (after_part other w part bytes) turns (next_alike v.progress w.progress part bytes both)

no_content_at : (place : ℕ) (fault : ElementFault) (content : Content)
    → refused_at place fault ≡ Ok content → ⊥
no_content_at place fault content e = cc

no_early_end : (place : ℕ) (state : State) (spot : Spot) (used : Bool) (content : Content)
    → IsEarly spot → content_at_end place state spot used ≡ Ok content → ⊥
no_early_end place state Start used content early e =
    no_content_at (place + 1) Malformed content e
no_early_end place state (Header fields) used content early e =
    no_content_at (place + 1) Malformed content e
no_early_end place state Elements used content early e = absurd early
no_early_end place state Ended used content early e = absurd early
no_early_end place state (Template list) used content early e = absurd early
no_early_end place state (File list parts) used content early e = absurd early
no_early_end place state (Descriptor list) used content early e = absurd early
no_early_end place state (Lists kind seen) used content early e = absurd early
no_early_end place state Steps used content early e = absurd early
no_early_end place state NewFile used content early e = absurd early
no_early_end place state Puks used content early e = absurd early
no_early_end place state (PukEntry fields) used content early e = absurd early
no_early_end place state Pins used content early e = absurd early
no_early_end place state (PinEntry fields) used content early e = absurd early

no_content_with : (place : ℕ) (p : Progress) (used : Bool) (content : Content) → HasFault p
    → package_outcome place p used ≡ Ok content → ⊥
no_content_with place (Going state) used content has e = absurd has
no_content_with place (Broken faulty) used content has e =
    no_content_at place Malformed content e
no_content_with place (Refused fault) used content has e = no_content_at place fault content e

no_content_yet : (place : ℕ) (p : Progress) (used : Bool) (content : Content) → IsEarlyProgress p
    → package_outcome place p used ≡ Ok content → ⊥
no_content_yet place (Going state) used content early e =
    by ((depth_of state.spot == 0) && (state.passed == 0)) e
  where
    by : (b : Bool) → cond b (content_at_end place state state.spot used)
        (refused_at place Malformed) ≡ Ok content → ⊥
    by true e = no_early_end place state state.spot used content early e
    by false e = no_content_at place Malformed content e
no_content_yet place (Broken faulty) used content early e =
    no_content_at place Malformed content e
no_content_yet place (Refused fault) used content early e = no_content_at place fault content e

pub one_iccid : (one other bytes : List ℕ) (content another : Content)
    → PackageGives one bytes (Ok content) → PackageGives other bytes (Ok another) → one ≡ other
one_iccid one other bytes content another g h =
    let same = same_parts (fed fresh_reader bytes) g.last h.last g.turns h.turns g.parts.goes
    g.parts.whole g.parts.ends h.parts.goes h.parts.whole h.parts.ends in
    let first = after_turns one fresh_work g.turns in
    let second = after_turns other fresh_work g.turns in
    let used = is_used_up h.last.unread in
    let meant : package_outcome second.place second.progress used ≡ Ok another =
    ap (λ (ts : List Turn). package_outcome (after_turns other fresh_work ts).place
    (after_turns other fresh_work ts).progress used) same.0 ∙ sym h.meant in
    ⊎_elim (λ e. e)
    (⊎_elim
    (λ has. absurd (no_content_with first.place first.progress (is_used_up g.last.unread) content
    has (sym g.meant)))
    (⊎_elim
    (λ has. absurd (no_content_with second.place second.progress used another has meant))
    (λ early. absurd (no_content_yet first.place first.progress (is_used_up g.last.unread) content
    early.1 (sym g.meant)))))
    (alike_along one other fresh_work fresh_work g.turns
    (alike one other fresh_work.progress tt))
