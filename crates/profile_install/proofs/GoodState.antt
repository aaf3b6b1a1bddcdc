-- Each part of a package keeps its draft good.
use Rattle.std.proofs.Common.{◌≡◌, ◌≢◌, ◌⊎◌, ℕ, ◌+◌, ◌-◌, ◌≤◌, Bool, true, false, cond, not, ◌==◌}
use Rattle.std.proofs.Common.{◌&&◌, [], refl, sym, ◌∙◌, subst, inl, inr, ⊎_elim, Result, Ok, Err}
use Rattle.std.proofs.Common.{arith}
use Rattle.std.specs.Prelude.{nat_le}
use Rattle.fcp_codec.specs.Creation.{HoldsFilesAt}
use Rattle.fcp_codec.proofs.CreationLemmas.{two_hold}
use Rattle.profile_install.specs.Header.{no_header_fields}
use Rattle.profile_install.specs.Management.{fresh_standing}
use Rattle.profile_install.specs.PinEntry.{no_pin_fields}
use Rattle.profile_install.specs.PukEntry.{no_puk_fields}
use Rattle.profile_install.specs.State.{at, element_begins, file_opens, has_master, in_list}
use Rattle.profile_install.specs.State.{in_position, lists_open, opened_at, passing, placed}
use Rattle.profile_install.specs.State.{template_opens}
use Rattle.profile_install.specs.Template.{at_position, directory_of, template_list}
use Rattle.profile_install.specs.declared.draft.Draft.{Draft}
use Rattle.profile_install.specs.declared.fault.ElementFault.{ElementFault}
use Rattle.profile_install.specs.declared.fault.ElementFault.TheVariants.{Malformed, BadParameter}
use Rattle.profile_install.specs.declared.state.ListKind.{ListKind}
use Rattle.profile_install.specs.declared.state.ListKind.TheVariants.{StepList, PukList, PinList}
use Rattle.profile_install.specs.declared.state.Spot.{Spot}
use Rattle.profile_install.specs.declared.state.Spot.TheVariants.{Start, Elements, Ended, Header}
use Rattle.profile_install.specs.declared.state.Spot.TheVariants.{Template, File, Descriptor, Lists}
use Rattle.profile_install.specs.declared.state.Spot.TheVariants.{Steps, NewFile, Puks, PukEntry}
use Rattle.profile_install.specs.declared.state.Spot.TheVariants.{Pins, PinEntry}
use Rattle.profile_install.specs.declared.state.State.{State}
use Rattle.profile_install.specs.declared.template.FileParts.{FileParts}
use Rattle.profile_install.specs.declared.template.FileParts.TheVariants.{Awaited as PartsAwaited}
use Rattle.profile_install.specs.declared.template.FileParts.TheVariants.{LeftOut, Made}
use Rattle.profile_install.specs.declared.template.TemplateList.{TemplateList}
use Rattle.profile_install.proofs.GoodDraft.{Goes, IsGood, IsThere, goes_nowhere, master_there}
use Rattle.profile_install.proofs.GoodDraft.{none_there, stays_there}
use Rattle.profile_install.proofs.GoodPins.{ArePinFields, ArePukFields}
use Rattle.profile_install.proofs.GoodRows.{PartsReady, position_made}
use Rattle.profile_install.proofs.GoodTemplate.{IsReady, IsTemplate}
use Rattle.profile_install.proofs.GoodTemplate.IsTemplate.{MasterFile, Telecom, Usim, OptUsim, Isim}
use Rattle.profile_install.proofs.Oks.{if_ok, not_ok, ok_is, then_ok}

-- once the USIM's element has begun and ended, its application is there
abbrev pub IsUsimThere : Draft → Type 0
IsUsimThere draft = draft.usim ≡ true → HoldsFilesAt draft.rows (directory_of 4)

abbrev pub IsMasterThere : Draft → Type 0
IsMasterThere draft = HoldsFilesAt draft.rows []

pub record IsInTemplate (draft : Draft) (number : ℕ) : Type 0 where
  pub template : IsTemplate number
  pub usim : (number ≡ 4) ⊎ IsUsimThere draft

pub record IsInList (draft : Draft) (list : TemplateList) : Type 0 where
  pub template : IsInTemplate draft list.template
  pub ready : IsReady list.template list.next draft

pub record IsInFile (draft : Draft) (list : TemplateList) (parts : FileParts) : Type 0 where
  pub template : IsInTemplate draft list.template
  pub many : 3 ≤ list.next
  pub ready : PartsReady list parts draft

pub record IsAmong (draft : Draft) : Type 0 where
  pub usim : IsUsimThere draft
  pub master : IsMasterThere draft

-- what has to be there at a spot
abbrev pub IsAt : Draft → Spot → Type 0
IsAt draft Start = IsUsimThere draft
IsAt draft Elements = IsUsimThere draft
IsAt draft Ended = IsUsimThere draft
IsAt draft (Header fields) = IsUsimThere draft
IsAt draft (Template list) = IsInList draft list
IsAt draft (File list parts) = IsInFile draft list parts
IsAt draft (Descriptor list) = IsInFile draft list PartsAwaited
IsAt draft (Lists StepList seen) = IsAmong draft
IsAt draft (Lists PukList seen) = IsUsimThere draft
IsAt draft (Lists PinList seen) = IsAmong draft
IsAt draft Steps = IsAmong draft
IsAt draft NewFile = IsAmong draft
IsAt draft Puks = IsUsimThere draft
IsAt draft (PukEntry fields) = IsUsimThere draft × ArePukFields fields
IsAt draft Pins = IsAmong draft
IsAt draft (PinEntry fields) = IsAmong draft × ArePinFields draft fields

pub record IsGoodAt (state : State) (spot : Spot) : Type 0 where
  pub good : IsGood state.draft
  pub standing : IsThere state.draft.rows state.standing.directory
  pub at : IsAt state.draft spot

abbrev pub IsGoodState : State → Type 0
IsGoodState state = IsGoodAt state state.spot

pub usim_stays : (old new : Draft) → Goes old new → IsUsimThere old → IsUsimThere new
usim_stays old new goes there is = goes.keeps (directory_of 4) (there (sym goes.usim ∙ is))

pub template_stays : (template : ℕ) (old new : Draft) → Goes old new → IsInTemplate old template
    → IsInTemplate new template
template_stays template old new goes before = record {
  template = before.template;
  usim = ⊎_elim (λ is. inl is) (λ there. inr (usim_stays old new goes there)) before.usim;
}

module _ (state new : State) where
  -- at another spot with the same draft
  pub to_spot : (spot now : Spot) → IsGoodAt state spot → IsAt state.draft now
      → (let r : Result State ElementFault = Ok (at state now) in r) ≡ Ok new → IsGoodState new
  to_spot spot now before there e =
      subst (λ (s : State). IsGoodState s) (ok_is (at state now) new e)
      (record { good = before.good; standing = before.standing; at = there })

  passes : (spot : Spot) → state.spot ≡ spot → IsGoodAt state spot
      → (let r : Result State ElementFault = Ok (passing state) in r) ≡ Ok new → IsGoodState new
  passes spot is before e =
      subst (λ (s : State). IsGoodState s) (ok_is (passing state) new e)
      (subst (λ (s : Spot). IsGoodAt (passing state) s) (sym is)
      (record { good = before.good; standing = before.standing; at = before.at }))

  pub stays : (spot : Spot) → state.spot ≡ spot → IsGoodAt state spot
      → (let r : Result State ElementFault = Ok state in r) ≡ Ok new → IsGoodState new
  stays spot is before e = subst (λ (s : State). IsGoodState s) (ok_is state new e)
      (subst (λ (s : Spot). IsGoodAt state s) (sym is) before)

  -- a draft that was made of this one
  pub to_draft : (spot now : Spot) (draft : Draft) → IsGoodAt state spot → Goes state.draft draft
      → IsAt draft now
      → (let r : Result State ElementFault = Ok (record state { draft = draft; spot = now }) in r)
      ≡ Ok new → IsGoodState new
  to_draft spot now draft before goes there e =
      subst (λ (s : State). IsGoodState s)
      (ok_is (record state { draft = draft; spot = now }) new e)
      (record {
        good = goes.good;
        standing = stays_there state.draft draft state.standing.directory
            goes before.standing;
        at = there;
      })

flagged : (draft : Draft) (telecom isim : Bool) → IsGood draft
    → Goes draft (record draft { telecom = telecom; isim = isim })
flagged draft telecom isim good = record {
  good = record {
    valid = good.valid;
    left = good.left;
    home = good.home;
    numbers = good.numbers;
    puks = good.puks;
  };
  keeps = λ directory there. there;
  usim = refl;
}

first_ready : (template : ℕ) (draft : Draft) → template ≢ 1 → template ≢ 5 → IsMasterThere draft
    → IsReady template 1 draft
first_ready template draft other optional master = record {
  none = λ is few. absurd (other is);
  early = λ is few. master;
  late = λ many. absurd (omega (arith, many));
  optional = λ is. absurd (optional is);
}

module _ (state new : State) (before : IsGoodAt state Elements) where
  place : (good : Bool) (draft : Draft) (spot : Spot) → placed state good draft spot ≡ Ok new
      → (good ≡ true) × ((let r : Result State ElementFault = Ok
      (record state { draft = draft; spot = spot }) in r) ≡ Ok new)
  place good draft spot e = if_ok good (Ok (record state { draft = draft; spot = spot }))
      (Err BadParameter) new e
      (λ holds yes. (holds, yes)) (λ fails no. absurd (not_ok BadParameter new no))

  master_begins : placed state (not (has_master state.draft)) state.draft
      (Template (template_list 1)) ≡ Ok new → IsGoodState new
  master_begins e =
      let is = place (not (has_master state.draft)) state.draft (Template (template_list 1)) e in
      let none : state.draft.rows ≡ [] = none_there state.draft
      (is_not (has_master state.draft) is.0) in
      to_draft state new Elements (Template (template_list 1)) state.draft before
      (goes_nowhere state.draft before.good)
      (record {
        template = record { template = MasterFile; usim = inr before.at };
        ready = record {
          none = λ _ _. none;
          early = λ other few. absurd (other refl);
          late = λ many. absurd (omega (arith, many));
          optional = λ five. absurd (omega (arith, five));
        };
      }) is.1
    where
      is_not : (b : Bool) → not b ≡ true → b ≡ false
      is_not true e = sym e
      is_not false e = refl

  telecom_begins : placed state (has_master state.draft && not state.draft.telecom)
      (record state.draft { telecom = true }) (Template (template_list 3)) ≡ Ok new
      → IsGoodState new
  telecom_begins e =
      let is = place (has_master state.draft && not state.draft.telecom)
      (record state.draft { telecom = true }) (Template (template_list 3)) e in
      let master = master_there state.draft before.good
      (two_hold (has_master state.draft) (not state.draft.telecom) is.0).0 in
      to_draft state new Elements (Template (template_list 3))
      (record state.draft { telecom = true }) before
      (flagged state.draft true state.draft.isim before.good)
      (record {
        template = record { template = Telecom; usim = inr before.at };
        ready = first_ready 3 (record state.draft { telecom = true }) (λ e. omega (arith, e))
            (λ e. omega (arith, e)) master;
      }) is.1

  isim_begins : placed state (has_master state.draft && not state.draft.isim)
      (record state.draft { isim = true }) (Template (template_list 8)) ≡ Ok new → IsGoodState new
  isim_begins e =
      let is = place (has_master state.draft && not state.draft.isim)
      (record state.draft { isim = true }) (Template (template_list 8)) e in
      let master = master_there state.draft before.good
      (two_hold (has_master state.draft) (not state.draft.isim) is.0).0 in
      to_draft state new Elements (Template (template_list 8)) (record state.draft { isim = true })
      before (flagged state.draft state.draft.telecom true before.good)
      (record {
        template = record { template = Isim; usim = inr before.at };
        ready = first_ready 8 (record state.draft { isim = true }) (λ e. omega (arith, e))
            (λ e. omega (arith, e)) master;
      }) is.1

  usim_begins : placed state (has_master state.draft && not state.draft.usim)
      (record state.draft { usim = true }) (Template (template_list 4)) ≡ Ok new → IsGoodState new
  usim_begins e =
      let is = place (has_master state.draft && not state.draft.usim)
      (record state.draft { usim = true }) (Template (template_list 4)) e in
      let good = before.good in
      let master = master_there state.draft good
      (two_hold (has_master state.draft) (not state.draft.usim) is.0).0 in
      subst (λ (s : State). IsGoodState s)
      (ok_is (record state {
        draft = record state.draft { usim = true };
        spot = Template
            (template_list 4);
      }) new is.1)
      (record {
        good = record {
          valid = good.valid;
          left = good.left;
          home = good.home;
          numbers =
              good.numbers;
          puks = good.puks;
        };
        standing = before.standing;
        at = record {
          template = record { template = Usim; usim = inl refl };
          ready = first_ready 4 (record state.draft { usim = true }) (λ e. omega (arith, e))
              (λ e. omega (arith, e)) master;
        };
      })

  optional_begins : placed state (has_master state.draft && state.draft.usim) state.draft
      (Template (template_list 5)) ≡ Ok new → IsGoodState new
  optional_begins e =
      let is = place (has_master state.draft && state.draft.usim) state.draft
      (Template (template_list 5)) e in
      let both = two_hold (has_master state.draft) state.draft.usim is.0 in
      let master = master_there state.draft before.good both.0 in
      to_draft state new Elements (Template (template_list 5)) state.draft before
      (goes_nowhere state.draft before.good)
      (record {
        template = record { template = OptUsim; usim = inr before.at };
        ready = record {
          none = λ is few. absurd (omega (arith, is));
          early = λ other few. master;
          late = λ many. before.at both.1;
          optional = λ _. before.at both.1;
        };
      }) is.1

  steps_begin : placed (record state { standing = fresh_standing }) (has_master state.draft)
      state.draft (Lists StepList false) ≡ Ok new → IsGoodState new
  steps_begin e = if_ok (has_master state.draft)
      (Ok (record state {
        standing = fresh_standing;
        draft = state.draft;
        spot = Lists StepList false;
      })) (Err BadParameter) new e
      (λ there yes. subst (λ (s : State). IsGoodState s)
      (ok_is (record state {
        standing = fresh_standing;
        draft = state.draft;
        spot = Lists StepList
            false;
      }) new yes)
      (record {
        good = before.good;
        standing = inl refl;
        at = record
            { usim = before.at; master = master_there state.draft before.good there };
      }))
      (λ none no. absurd (not_ok BadParameter new no))

  pins_begin : placed state (has_master state.draft) state.draft (Lists PinList false) ≡ Ok new
      → IsGoodState new
  pins_begin e =
      let is = place (has_master state.draft) state.draft (Lists PinList false) e in
      to_draft state new Elements (Lists PinList false) state.draft before
      (goes_nowhere state.draft before.good)
      (record { usim = before.at; master = master_there state.draft before.good is.0 }) is.1

  begins : (tag : ℕ) → state.spot ≡ Elements → element_begins state tag ≡ Ok new → IsGoodState new
  begins tag is e =
      let draft = state.draft in
      let there = has_master draft in
      let r10 : Result State ElementFault = cond (nat_le 0xA1 tag && nat_le tag 0xBF)
      (Ok (passing state)) (Err Malformed) in
      let r9 : Result State ElementFault = cond (tag == 0xAA) (Ok (passing (at state Ended))) r10 in
      let r8 : Result State ElementFault = cond (tag == 0xA3) (Ok (at state (Lists PukList false)))
      r9 in
      let r7 : Result State ElementFault = cond (tag == 0xA2)
      (placed state there draft (Lists PinList false)) r8 in
      let r6 : Result State ElementFault = cond (tag == 0xA1)
      (placed (record state { standing = fresh_standing }) there draft (Lists StepList false)) r7 in
      let r5 : Result State ElementFault = cond (tag == 0xB5)
      (placed state (there && not draft.isim) (record draft { isim = true })
      (Template (template_list 8))) r6 in
      let r4 : Result State ElementFault = cond (tag == 0xB4)
      (placed state (there && draft.usim) draft (Template (template_list 5))) r5 in
      let r3 : Result State ElementFault = cond (tag == 0xB3)
      (placed state (there && not draft.usim) (record draft { usim = true })
      (Template (template_list 4))) r4 in
      let r2 : Result State ElementFault = cond (tag == 0xB2)
      (placed state (there && not draft.telecom) (record draft { telecom = true })
      (Template (template_list 3))) r3 in
      if_ok (tag == 0xB0) (placed state (not there) draft (Template (template_list 1))) r2 new e
      (λ _ y. master_begins y) (λ _ n.
      if_ok (tag == 0xB2) (placed state (there && not draft.telecom)
      (record draft { telecom = true }) (Template (template_list 3))) r3 new n
      (λ _ y. telecom_begins y) (λ _ n.
      if_ok (tag == 0xB3) (placed state (there && not draft.usim) (record draft { usim = true })
      (Template (template_list 4))) r4 new n (λ _ y. usim_begins y) (λ _ n.
      if_ok (tag == 0xB4) (placed state (there && draft.usim) draft (Template (template_list 5)))
      r5 new n (λ _ y. optional_begins y) (λ _ n.
      if_ok (tag == 0xB5) (placed state (there && not draft.isim) (record draft { isim = true })
      (Template (template_list 8))) r6 new n (λ _ y. isim_begins y) (λ _ n.
      if_ok (tag == 0xA1) (placed (record state { standing = fresh_standing }) there draft
      (Lists StepList false)) r7 new n (λ _ y. steps_begin y) (λ _ n.
      if_ok (tag == 0xA2) (placed state there draft (Lists PinList false)) r8 new n
      (λ _ y. pins_begin y) (λ _ n.
      if_ok (tag == 0xA3) (Ok (at state (Lists PukList false))) r9 new n
      (λ _ y. to_spot state new Elements (Lists PukList false) before before.at y) (λ _ n.
      if_ok (tag == 0xAA) (Ok (passing (at state Ended))) r10 new n
      (λ _ y. subst (λ (s : State). IsGoodState s) (ok_is (passing (at state Ended)) new y)
      (record { good = before.good; standing = before.standing; at = before.at }))
      (λ _ n. if_ok (nat_le 0xA1 tag && nat_le tag 0xBF) (Ok (passing state)) (Err Malformed) new n
      (λ _ y. passes state new Elements is before y)
      (λ _ n. absurd (not_ok Malformed new n)))))))))))

module _ (state new : State) where
  position_opens : (list : TemplateList) (position : ℕ) → IsGoodAt state (Template list)
      → in_position state list position ≡ Ok new → IsGoodState new
  position_opens list position before e =
      let made = then_ok (λ (draft : Draft). let r : Result State ElementFault = Ok
      (record state {
        draft = draft;
        spot = File (record list { next = position + 1 })
            PartsAwaited;
      }) in r) (at_position state.draft list position) new e in
      let done = position_made state.draft list before.at.template.template before.good position
      made.0 before.at.ready made.1 in
      to_draft state new (Template list) (File (record list { next = position + 1 }) PartsAwaited)
      made.0 before done.0
      (record {
        template = template_stays list.template state.draft made.0 done.0 before.at.template;
        many = omega (arith, done.2);
        ready = subst (λ (n : ℕ). IsReady list.template n made.0) (omega arith) done.1;
      }) made.2

  template_opened : (list : TemplateList) (tag : ℕ) → state.spot ≡ Template list
      → IsGoodAt state (Template list) → template_opens state list tag ≡ Ok new → IsGoodState new
  template_opened list tag is before e =
      let rest : Result State ElementFault = cond (nat_le 0xA1 tag && nat_le tag 0xBE)
      (in_position state list (tag - 0xA0)) (Err Malformed) in
      if_ok (tag == 0xA0) (Ok (passing state)) rest new e
      (λ _ y. passes state new (Template list) is before y)
      (λ _ n. if_ok (nat_le 0xA1 tag && nat_le tag 0xBE) (in_position state list (tag - 0xA0))
      (Err Malformed) new n
      (λ _ y. position_opens list (tag - 0xA0) before y)
      (λ _ no. absurd (not_ok Malformed new no)))

  file_opened : (list : TemplateList) (parts : FileParts) (tag : ℕ)
      → IsGoodAt state (File list parts) → file_opens state list parts tag ≡ Ok new
      → IsGoodState new
  file_opened list (Made file) tag before e = absurd (not_ok Malformed new e)
  file_opened list LeftOut tag before e = absurd (not_ok Malformed new e)
  file_opened list PartsAwaited tag before e = if_ok (tag == 0xA1)
      (Ok (record state { spot = Descriptor list; gathered = [] })) (Err Malformed) new e
      (λ _ y. subst (λ (s : State). IsGoodState s)
      (ok_is (record state { spot = Descriptor list; gathered = [] }) new y)
      (record { good = before.good; standing = before.standing; at = before.at }))
      (λ _ n. absurd (not_ok Malformed new n))

  in_list_good : (kind : ListKind) (seen : Bool) → IsGoodAt state (Lists kind seen)
      → (let r : Result State ElementFault = Ok (in_list state kind) in r) ≡ Ok new
      → IsGoodState new
  in_list_good StepList seen before e = to_spot state new (Lists StepList seen) Steps before
      before.at e
  in_list_good PukList seen before e = to_spot state new (Lists PukList seen) Puks before before.at
      e
  in_list_good PinList seen before e = to_spot state new (Lists PinList seen) Pins before before.at
      e

  lists_opened : (kind : ListKind) (seen : Bool) (tag : ℕ) → state.spot ≡ Lists kind seen
      → IsGoodAt state (Lists kind seen) → lists_open state kind seen tag ≡ Ok new
      → IsGoodState new
  lists_opened kind seen tag is before e =
      let rest : Result State ElementFault = cond ((tag == 0xA1) && not seen)
      (Ok (in_list state kind)) (Err Malformed) in
      if_ok (tag == 0xA0) (Ok (passing state)) rest new e
      (λ _ y. passes state new (Lists kind seen) is before y)
      (λ _ n. if_ok ((tag == 0xA1) && not seen) (Ok (in_list state kind)) (Err Malformed) new n
      (λ _ y. in_list_good kind seen before y)
      (λ _ no. absurd (not_ok Malformed new no)))

  -- one tag alone opens something
  one_opens : (spot now : Spot) (b : Bool) → IsGoodAt state spot → IsAt state.draft now
      → cond b (Ok (at state now)) (Err Malformed) ≡ Ok new → IsGoodState new
  one_opens spot now b before there e = if_ok b (Ok (at state now)) (Err Malformed) new e
      (λ _ y. to_spot state new spot now before there y) (λ _ n. absurd (not_ok Malformed new n))

  new_file_opened : (tag : ℕ) → IsGoodAt state Steps → opened_at state Steps tag ≡ Ok new
      → IsGoodState new
  new_file_opened tag before e = if_ok (tag == 0x62)
      (Ok (record state { spot = NewFile; gathered = [] })) (Err Malformed) new e
      (λ _ y. subst (λ (s : State). IsGoodState s)
      (ok_is (record state { spot = NewFile; gathered = [] }) new y)
      (record { good = before.good; standing = before.standing; at = before.at }))
      (λ _ n. absurd (not_ok Malformed new n))

  pub opened_good : (spot : Spot) (tag : ℕ) → state.spot ≡ spot → IsGoodAt state spot
      → opened_at state spot tag ≡ Ok new → IsGoodState new
  opened_good Start tag is before e = one_opens Start (Header no_header_fields) (tag == 0xA0)
      before before.at e
  opened_good Elements tag is before e = begins state new before tag is e
  opened_good Ended tag is before e = absurd (not_ok Malformed new e)
  opened_good (Header fields) tag is before e = passes state new (Header fields) is before e
  opened_good (Template list) tag is before e = template_opened list tag is before e
  opened_good (File list parts) tag is before e = file_opened list parts tag before e
  opened_good (Descriptor list) tag is before e = passes state new (Descriptor list) is before e
  opened_good (Lists kind seen) tag is before e = lists_opened kind seen tag is before e
  opened_good Steps tag is before e = new_file_opened tag before e
  opened_good NewFile tag is before e = passes state new NewFile is before e
  opened_good Puks tag is before e = one_opens Puks (PukEntry no_puk_fields) (tag == 0x30) before
      (before.at, record { tries = tt }) e
  opened_good (PukEntry fields) tag is before e = absurd (not_ok Malformed new e)
  opened_good Pins tag is before e = one_opens Pins (PinEntry no_pin_fields) (tag == 0x30) before
      (before.at, record { key = tt; puk = tt; tries = tt }) e
  opened_good (PinEntry fields) tag is before e = absurd (not_ok Malformed new e)
