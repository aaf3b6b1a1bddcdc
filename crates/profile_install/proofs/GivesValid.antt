-- What a package gives is a valid content.
use Rattle.std.proofs.Common.{◌≡◌, ℕ, ◌+◌, ◌-◌, Bool, true, false, cond, ◌<◌, ◌==◌, ◌||◌, List, []}
use Rattle.std.proofs.Common.{◌∷◌, ◌++◌, length, refl, sym, subst, inl, true≢false, arith, Option}
use Rattle.std.proofs.Common.{Some, None, Result, Ok, Err}
use Rattle.std.specs.Bool.{⊤}
use Rattle.std.specs.Prelude.{nat_le}
use Rattle.file_rows.specs.Content.{IsValid}
use Rattle.file_rows.specs.declared.content.Content.{Content}
use Rattle.file_rows.proofs.ListLemmas.{each_left, each_right}
use Rattle.package_reader.specs.Part.{HandsOut}
use Rattle.package_reader.specs.ReaderState.{ReaderState, fed, fresh_reader, opens}
use Rattle.package_reader.specs.Turn.{GoesBy, Turn}
use Rattle.package_reader.specs.Turn.Turn.{Comes, Goes}
use Rattle.package_reader.specs.declared.part.Part.{Part}
use Rattle.package_reader.specs.declared.part.Part.TheVariants.{Head, Bytes, Close, More, Bad}
use Rattle.profile_install.specs.Package.{AllWhole, PackageGives, after_part, after_turns, broken}
use Rattle.profile_install.specs.Package.{closed, fresh_work, gathering, going, headed, heading}
use Rattle.profile_install.specs.Package.{is_gathering, is_used_up, constructed_begins}
use Rattle.profile_install.specs.Package.{progress_after, step_settled, valued, element_with_fault}
use Rattle.profile_install.specs.State.{closed_at, depth_of, fresh_state, opened_at, valued_at}
use Rattle.profile_install.specs.declared.fault.ElementFault.{ElementFault}
use Rattle.profile_install.specs.declared.state.Awaited.{Awaited}
use Rattle.profile_install.specs.declared.state.State.{State}
use Rattle.profile_install.specs.declared.work.Faulty.{Faulty}
use Rattle.profile_install.specs.declared.work.Progress.{Progress}
use Rattle.profile_install.specs.declared.work.Progress.TheVariants.{Going, Broken, Refused}
use Rattle.profile_install.specs.declared.work.Work.{Work}
use Rattle.profile_install.proofs.GoodPins.{AreBytes}
use Rattle.profile_install.proofs.GoodState.{IsGoodState, opened_good}
use Rattle.profile_install.proofs.GoodParts.{closed_good, valued_good}
use Rattle.profile_install.proofs.Outcome.{content_is}

-- a package goes on with a good draft, or is refused
abbrev pub IsGoodProgress : Progress → Type 0
IsGoodProgress (Going state) = IsGoodState state
IsGoodProgress (Broken faulty) = ⊤
IsGoodProgress (Refused fault) = ⊤

either : (b : Bool) (x y : Progress) → IsGoodProgress x → IsGoodProgress y
    → IsGoodProgress (cond b x y)
either true x y one other = one
either false x y one other = other

fault_good : (fault : ElementFault) (depth : ℕ) → IsGoodProgress (element_with_fault fault depth)
fault_good fault depth = either (depth == 0) (Refused fault)
    (Broken (record { fault = fault; depth = depth })) tt tt

settled_good : (r : Result State ElementFault) (depth : ℕ)
    → ((s : State) → r ≡ Ok s → IsGoodState s) → IsGoodProgress (step_settled r depth)
settled_good (Ok state) depth gives = gives state refl
settled_good (Err fault) depth gives = fault_good fault depth

gathering_good : (state : State) (bytes : List ℕ) → IsGoodState state
    → IsGoodState (gathering state bytes)
gathering_good state bytes good = by (is_gathering state.spot)
  where
    by : (b : Bool) → IsGoodState
        (cond b (record state { gathered = state.gathered ++ bytes }) state)
    by true = record { good = good.good; standing = good.standing; at = good.at }
    by false = good

with_awaited : (state : State) (awaited : Option Awaited) → IsGoodState state
    → IsGoodState (record state { awaited = awaited })
with_awaited state awaited good = record
    { good = good.good; standing = good.standing; at = good.at }

with_passed : (state : State) (passed : ℕ) → IsGoodState state
    → IsGoodState (record state { passed = passed })
with_passed state passed good = record { good = good.good; standing = good.standing; at = good.at }

opening_good : (state : State) (tag : ℕ) → IsGoodState state
    → IsGoodProgress (constructed_begins state tag)
opening_good state tag good = either (nat_le 1 state.passed)
    (Going (record state { passed = state.passed + 1 }))
    (step_settled (opened_at state state.spot tag) (depth_of state.spot + 1))
    (with_passed state (state.passed + 1) good)
    (settled_good (opened_at state state.spot tag) (depth_of state.spot + 1)
    (λ new e. opened_good state new state.spot tag refl good e))

heading_good : (iccid : List ℕ) (state : State) (tag n : ℕ) → IsGoodState state
    → IsGoodProgress (heading iccid state tag n)
heading_good iccid state tag n good =
    let came : Progress = step_settled (valued_at iccid state state.spot tag [])
    (depth_of state.spot) in
    let comes : Progress = Going
    (record state { awaited = Some (record { tag = tag; length = n }) }) in
    either (nat_le 1 state.passed) (Going state)
    (cond ((n == 0) || (depth_of state.spot == 0)) came comes) good
    (either ((n == 0) || (depth_of state.spot == 0)) came comes
    (settled_good (valued_at iccid state state.spot tag []) (depth_of state.spot)
    (λ new e. valued_good state new iccid state.spot tag [] refl good tt e))
    (with_awaited state (Some (record { tag = tag; length = n })) good))

headed_good : (iccid : List ℕ) (state : State) (tag n : ℕ) (constructed : Bool) → IsGoodState state
    → IsGoodProgress (headed iccid state tag n constructed)
headed_good iccid state tag n constructed good = either constructed (constructed_begins state tag)
    (heading iccid state tag n) (opening_good state tag good) (heading_good iccid state tag n good)

valued_goes : (iccid : List ℕ) (state : State) (bytes : List ℕ) (awaited : Option Awaited)
    → IsGoodState state → AreBytes bytes → IsGoodProgress (valued iccid state bytes awaited)
valued_goes iccid state bytes None good are = good
valued_goes iccid state bytes (Some awaited) good are =
    let now : State = record state { awaited = None } in
    either (awaited.length == length bytes)
    (step_settled (valued_at iccid now state.spot awaited.tag bytes) (depth_of state.spot))
    (Going state)
    (settled_good (valued_at iccid now state.spot awaited.tag bytes) (depth_of state.spot)
    (λ new e. valued_good now new iccid state.spot awaited.tag bytes refl
    (with_awaited state None good) are e))
    good

closed_goes : (state : State) → IsGoodState state → IsGoodProgress (closed state)
closed_goes state good = either (nat_le 1 state.passed)
    (Going (record state { passed = state.passed - 1 }))
    (step_settled (closed_at state state.spot) (depth_of state.spot - 1))
    (with_passed state (state.passed - 1) good)
    (settled_good (closed_at state state.spot) (depth_of state.spot - 1)
    (λ new e. closed_good state new state.spot refl good e))

broken_goes : (faulty : Faulty) (part : Part) (bytes : List ℕ)
    → IsGoodProgress (broken faulty part bytes)
broken_goes faulty (Head tag n place) bytes = either (opens bytes)
    (Broken (record faulty { depth = faulty.depth + 1 })) (Broken faulty) tt tt
broken_goes faulty (Bytes count) bytes = tt
broken_goes faulty Close bytes = fault_good faulty.fault (faulty.depth - 1)
broken_goes faulty More bytes = tt
broken_goes faulty (Bad place) bytes = tt

going_goes : (iccid : List ℕ) (state : State) (part : Part) (bytes : List ℕ) → IsGoodState state
    → AreBytes bytes → IsGoodProgress (going iccid state part bytes)
going_goes iccid state (Head tag n place) bytes good are = headed_good iccid
    (gathering state bytes) tag n (opens bytes) (gathering_good state bytes good)
going_goes iccid state (Bytes count) bytes good are = valued_goes iccid (gathering state bytes)
    bytes state.awaited (gathering_good state bytes good) are
going_goes iccid state Close bytes good are = closed_goes state good
going_goes iccid state More bytes good are = good
going_goes iccid state (Bad place) bytes good are = good

progress_goes : (iccid : List ℕ) (progress : Progress) (part : Part) (bytes : List ℕ)
    → IsGoodProgress progress → AreBytes bytes
    → IsGoodProgress (progress_after iccid progress part bytes)
progress_goes iccid (Going state) part bytes good are = going_goes iccid state part bytes good are
progress_goes iccid (Broken faulty) part bytes good are = broken_goes faulty part bytes
progress_goes iccid (Refused fault) part bytes good are = tt

-- the bytes of a part are bytes that came
shown_are : (old next : ReaderState) (part : Part) → HandsOut old part next → AreBytes old.unread
    → AreBytes next.shown × AreBytes next.unread
shown_are old next (Head tag n place) hands are =
    let both = subst AreBytes hands.takes.unread are in (
      each_left (λ byte. byte < 256) next.shown next.unread both,
      each_right (λ byte. byte < 256)
          next.shown next.unread both,
    )
shown_are old next (Bytes count) hands are =
    let both = subst AreBytes hands.takes.unread are in (
      each_left (λ byte. byte < 256) next.shown next.unread both,
      each_right (λ byte. byte < 256)
          next.shown next.unread both,
    )
shown_are old next Close hands are = (
  subst (λ (s : ReaderState). AreBytes s.shown) (sym hands.rest) tt,
  subst
      (λ (s : ReaderState). AreBytes s.unread) (sym hands.rest) are,
)
shown_are old next More hands are = (
  subst (λ (s : ReaderState). AreBytes s.shown) (sym hands.stays) tt,
  subst
      (λ (s : ReaderState). AreBytes s.unread) (sym hands.stays) are,
)
shown_are old next (Bad place) hands are = (
  subst (λ (s : ReaderState). AreBytes s.shown) (sym hands.stays) tt,
  subst
      (λ (s : ReaderState). AreBytes s.unread) (sym hands.stays) are,
)

turns_go : (iccid : List ℕ) (old last : ReaderState) (work : Work) (turns : List Turn)
    → GoesBy old turns last → AllWhole turns → AreBytes old.unread → IsGoodProgress work.progress
    → IsGoodProgress (after_turns iccid work turns).progress
turns_go iccid old last work [] goes whole are good = good
turns_go iccid old last work (Comes piece ∷ turns) goes whole are good = absurd whole
turns_go iccid old last work (Goes part bytes ∷ turns) goes whole are good =
    let shown = shown_are old goes.0 part goes.1 are in
    turns_go iccid goes.0 last (after_part iccid work part bytes) turns goes.3 whole.1 shown.1
    (progress_goes iccid work.progress part bytes good (subst AreBytes (sym goes.2) shown.0))

fresh_good : IsGoodState fresh_state
fresh_good = record {
  good = record {
    valid = record {
      quota = omega arith;
      few_pins = omega arith;
      system = inl
          (record { rows = refl; pins = refl });
    };
    left = refl;
    home = inl refl;
    numbers = tt;
    puks = tt;
  };
  standing = inl refl;
  at = λ e. absurd (true≢false (sym e));
}

pub gives_valid : (iccid bytes : List ℕ) (content : Content) → AreBytes bytes
    → PackageGives iccid bytes (Ok content) → IsValid content
gives_valid iccid bytes content are gives =
    let work = after_turns iccid fresh_work gives.turns in
    let given = content_is work.place work.progress (is_used_up gives.last.unread) content
    (sym gives.meant) in
    let good : IsGoodState given.0 = subst IsGoodProgress given.1
    (turns_go iccid (fed fresh_reader bytes) gives.last fresh_work gives.turns gives.parts.goes
    gives.parts.whole are fresh_good) in
    subst (λ (c : Content). IsValid c) given.2 good.good.valid
