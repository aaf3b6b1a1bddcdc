-- Values and ends of TLVs keep the draft of a package good.
use Rattle.std.proofs.Common.{◌≡◌, ℕ, ◌≤◌, Bool, true, cond, ◌==◌, List, [], ◌∷◌, subst, ⊎_elim}
use Rattle.std.proofs.Common.{Option, Result, Ok, Err}
use Rattle.std.specs.Str.{bytes_eq}
use Rattle.file_rows.specs.declared.pin.PinRow.{PinRow}
use Rattle.file_rows.proofs.ListLemmas.{each_append}
use Rattle.fcp_codec.specs.Creation.{HoldsFilesAt}
use Rattle.fcp_codec.specs.Reading.{fields_in}
use Rattle.fcp_codec.specs.declared.fcp.Fcp.{Fcp}
use Rattle.profile_install.specs.ElementResult.{then_with}
use Rattle.profile_install.specs.Header.{is_header_whole, with_header_field}
use Rattle.profile_install.specs.Management.{with_file_made, with_step}
use Rattle.profile_install.specs.PinEntry.{pin_told, with_pin_field}
use Rattle.profile_install.specs.PukEntry.{puk_told, with_puk_field}
use Rattle.profile_install.specs.State.{at, closed_at, file_closed, file_valued, in_parts}
use Rattle.profile_install.specs.State.{with_managed, template_valued, valued_at, with_new_pin}
use Rattle.profile_install.specs.State.{with_new_puk}
use Rattle.profile_install.specs.Template.{at_file_end, at_list_end, directory_of, left_out}
use Rattle.profile_install.specs.Template.{with_descriptor, with_part, with_template}
use Rattle.profile_install.specs.declared.draft.Draft.{Draft}
use Rattle.profile_install.specs.declared.draft.Filled.{Filled}
use Rattle.profile_install.specs.declared.fault.ElementFault.{ElementFault}
use Rattle.profile_install.specs.declared.fault.ElementFault.TheVariants.{Malformed, WrongTemplate}
use Rattle.profile_install.specs.declared.header.HeaderFields.{HeaderFields}
use Rattle.profile_install.specs.declared.management.Managed.{Managed}
use Rattle.profile_install.specs.declared.pin_entry.PinFields.{PinFields}
use Rattle.profile_install.specs.declared.puk_entry.NamedPuk.{NamedPuk}
use Rattle.profile_install.specs.declared.puk_entry.PukFields.{PukFields}
use Rattle.profile_install.specs.declared.state.ListKind.TheVariants.{StepList, PukList, PinList}
use Rattle.profile_install.specs.declared.state.ListKind.{ListKind}
use Rattle.profile_install.specs.declared.state.Spot.{Spot}
use Rattle.profile_install.specs.declared.state.Spot.TheVariants.{Start, Elements, Ended, Header}
use Rattle.profile_install.specs.declared.state.Spot.TheVariants.{Template, File, Descriptor, Lists}
use Rattle.profile_install.specs.declared.state.Spot.TheVariants.{Steps, NewFile, Puks, PukEntry}
use Rattle.profile_install.specs.declared.state.Spot.TheVariants.{Pins, PinEntry}
use Rattle.profile_install.specs.declared.state.State.{State}
use Rattle.profile_install.specs.declared.template.FileParts.{FileParts}
use Rattle.profile_install.specs.declared.template.FileParts.TheVariants.{Made}
use Rattle.profile_install.specs.declared.template.TemplateList.{TemplateList}
use Rattle.profile_install.proofs.GoodDraft.{Goes, IsPuk, held}
use Rattle.profile_install.proofs.GoodPins.{AreBytes, pin_field, pin_good, puk_field, puk_is}
use Rattle.profile_install.proofs.GoodRows.{descriptor_made, file_end_made, left_out_ready}
use Rattle.profile_install.proofs.GoodRows.{list_made, part_made}
use Rattle.profile_install.proofs.GoodState.{IsAmong, IsAt, IsGoodAt, IsGoodState, IsInTemplate}
use Rattle.profile_install.proofs.GoodState.{IsUsimThere, stays, template_stays, to_draft, to_spot}
use Rattle.profile_install.proofs.GoodState.{usim_stays}
use Rattle.profile_install.proofs.GoodSteps.{StepGoes, file_goes, step_goes}
use Rattle.profile_install.proofs.GoodTemplate.{IsReady}
use Rattle.profile_install.proofs.Oks.{if_ok, not_ok, ok_is, then_ok}

record IsInFileOf (draft : Draft) (list : TemplateList) : Type 0 where
  pub template : IsInTemplate draft list.template
  pub many : 3 ≤ list.next

module _ (state new : State) where
  -- among the parts of a file, with a draft that was made of this one
  to_parts : (spot : Spot) (list : TemplateList) (done : Filled) → IsGoodAt state spot
      → IsInFileOf state.draft list
      → Goes state.draft done.draft × IsReady list.template list.next done.draft
      → (let r : Result State ElementFault = Ok (in_parts state list done) in r) ≡ Ok new
      → IsGoodState new
  to_parts spot list done before in_file goes e =
      to_draft state new spot (File list (Made done.file)) done.draft before goes.0
      (record {
        template = template_stays list.template state.draft done.draft goes.0
            in_file.template;
        many = in_file.many;
        ready = goes.1;
      }) e

  -- after a step of a file management element
  to_steps : (spot : Spot) (done : Managed) → IsGoodAt state spot → IsAmong state.draft
      → StepGoes state.draft done
      → (let r : Result State ElementFault = Ok (with_managed state Steps done) in r) ≡ Ok new
      → IsGoodState new
  to_steps spot done before among goes e =
      subst (λ (s : State). IsGoodState s) (ok_is (with_managed state Steps done) new e)
      (record {
        good = goes.goes.good;
        standing = goes.standing;
        at = record {
          usim = usim_stays state.draft done.draft goes.goes among.usim;
          master =
              goes.goes.keeps [] among.master;
        };
      })

  template_value : (list : TemplateList) (tag : ℕ) (value : List ℕ)
      → IsGoodAt state (Template list) → template_valued state list tag value ≡ Ok new
      → IsGoodState new
  template_value list tag value before e =
      if_ok (tag == 0x06) (then_with (λ list. Ok (at state (Template list)))
      (with_template list value)) (Err Malformed) new e
      (λ _ y.
      let made = then_ok (λ (list : TemplateList). let r : Result State ElementFault = Ok
      (at state (Template list)) in r) (with_template list value) new y in
      begun made.0 made.1 made.2)
      (λ _ n. absurd (not_ok Malformed new n))
    where
      begun : (its : TemplateList) → with_template list value ≡ Ok its
          → (let r : Result State ElementFault = Ok (at state (Template its)) in r) ≡ Ok new
          → IsGoodState new
      begun its is e =
          let started : TemplateList = record list { begun = true } in
          let rest : Result TemplateList ElementFault = cond
          (bytes_eq value (0x67 ∷ 0x81 ∷ 0x0F ∷ 0x01 ∷ 0x02 ∷ list.template ∷ [])) (Ok started)
          (Err WrongTemplate) in
          if_ok list.begun (Err Malformed) rest its is (λ _ n. absurd (not_ok Malformed its n))
          (λ _ y.
          if_ok (bytes_eq value (0x67 ∷ 0x81 ∷ 0x0F ∷ 0x01 ∷ 0x02 ∷ list.template ∷ []))
          (Ok started) (Err WrongTemplate) its y
          (λ _ y. to_spot state new (Template list) (Template its) before
          (subst (λ (l : TemplateList). IsAt state.draft (Template l)) (ok_is started its y)
          (record {
            template = before.at.template;
            ready = record {
              none = before.at.ready.none;
              early = before.at.ready.early;
              late =
                  before.at.ready.late;
              optional = before.at.ready.optional;
            };
          })) e)
          (λ _ n. absurd (not_ok WrongTemplate its n)))

  file_value : (list : TemplateList) (parts : FileParts) (tag : ℕ) (value : List ℕ)
      → IsGoodAt state (File list parts) → file_valued state list parts tag value ≡ Ok new
      → IsGoodState new
  file_value list parts tag value before e =
      if_ok (tag == 0x80) (then_with (λ parts. Ok (at state (File list parts)))
      (left_out list parts value))
      (then_with (λ done. Ok (in_parts state list done))
      (with_part state.draft list parts tag value)) new e
      (λ _ y.
      let made = then_ok (λ (parts : FileParts). let r : Result State ElementFault = Ok
      (at state (File list parts)) in r) (left_out list parts value) new y in
      to_spot state new (File list parts) (File list made.0) before
      (record {
        template = before.at.template;
        many = before.at.many;
        ready = left_out_ready state.draft list before.at.template.template before.good
            before.at.many parts made.0 value before.at.ready made.1;
      }) made.2)
      (λ _ y.
      let made = then_ok (λ (done : Filled). let r : Result State ElementFault = Ok
      (in_parts state list done) in r) (with_part state.draft list parts tag value) new y in
      to_parts (File list parts) list made.0 before
      (record { template = before.at.template; many = before.at.many })
      (part_made state.draft list before.at.template.template before.good before.at.many parts tag
      value made.0 before.at.ready made.1) made.2)

  pub valued_good : (iccid : List ℕ) (spot : Spot) (tag : ℕ) (value : List ℕ) → state.spot ≡ spot
      → IsGoodAt state spot → AreBytes value → valued_at iccid state spot tag value ≡ Ok new
      → IsGoodState new
  valued_good iccid Start tag value is before are e = absurd (not_ok Malformed new e)
  valued_good iccid Elements tag value is before are e = absurd (not_ok Malformed new e)
  valued_good iccid Ended tag value is before are e = absurd (not_ok Malformed new e)
  valued_good iccid (Header fields) tag value is before are e =
      let made = then_ok (λ (fields : HeaderFields). let r : Result State ElementFault = Ok
      (at state (Header fields)) in r) (with_header_field iccid fields tag value) new e in
      to_spot state new (Header fields) (Header made.0) before before.at made.2
  valued_good iccid (Template list) tag value is before are e = template_value list tag value
      before e
  valued_good iccid (File list parts) tag value is before are e = file_value list parts tag value
      before e
  valued_good iccid (Descriptor list) tag value is before are e = stays state new (Descriptor list)
      is before e
  valued_good iccid (Lists kind seen) tag value is before are e = absurd (not_ok Malformed new e)
  valued_good iccid Steps tag value is before are e =
      let made = then_ok (λ (done : Managed). let r : Result State ElementFault = Ok
      (with_managed state Steps done) in r) (with_step state.draft state.standing tag value) new e
      in
      to_steps Steps made.0 before before.at
      (step_goes state.draft state.standing made.0 before.good before.standing tag value
      made.1) made.2
  valued_good iccid NewFile tag value is before are e = stays state new NewFile is before e
  valued_good iccid Puks tag value is before are e = absurd (not_ok Malformed new e)
  valued_good iccid (PukEntry fields) tag value is before are e =
      let made = then_ok (λ (fields : PukFields). let r : Result State ElementFault = Ok
      (at state (PukEntry fields)) in r) (with_puk_field state.draft.puks fields tag value) new
      e in
      to_spot state new (PukEntry fields) (PukEntry made.0) before
      (before.at.0, puk_field state.draft.puks fields made.0 tag value are before.at.1 made.1)
      made.2
  valued_good iccid Pins tag value is before are e = absurd (not_ok Malformed new e)
  valued_good iccid (PinEntry fields) tag value is before are e =
      let made = then_ok (λ (fields : PinFields). let r : Result State ElementFault = Ok
      (at state (PinEntry fields)) in r) (with_pin_field state.draft fields tag value) new e in
      to_spot state new (PinEntry fields) (PinEntry made.0) before (
        before.at.0,
        pin_field state.draft fields made.0 tag value are before.at.1 before.good.puks
            made.1,
      ) made.2

  list_closed : (list : TemplateList) → IsGoodAt state (Template list)
      → closed_at state (Template list) ≡ Ok new → IsGoodState new
  list_closed list before e =
      let made = then_ok (λ (draft : Draft). let r : Result State ElementFault = Ok
      (record state { draft = draft; spot = Elements }) in r) (at_list_end state.draft list)
      new e in
      let done = list_made state.draft list before.at.template.template before.good made.0
      before.at.ready made.1 in
      let usim : IsUsimThere made.0 = ⊎_elim
      (λ four set. subst (λ (t : ℕ). HoldsFilesAt made.0.rows (directory_of t)) four done.1)
      (λ there. usim_stays state.draft made.0 done.0 there)
      before.at.template.usim in
      to_draft state new (Template list) Elements made.0 before done.0 usim made.2

  parts_closed : (list : TemplateList) (parts : FileParts) → IsGoodAt state (File list parts)
      → file_closed state list parts ≡ Ok new → IsGoodState new
  parts_closed list parts before e =
      let made = then_ok (λ (draft : Draft). let r : Result State ElementFault = Ok
      (record state { draft = draft; spot = Template list }) in r)
      (at_file_end state.draft list parts) new e in
      let done = file_end_made state.draft list before.at.template.template before.good
      before.at.many parts made.0 before.at.ready made.1 in
      to_draft state new (File list parts) (Template list) made.0 before done.0
      (record {
        template = template_stays list.template state.draft made.0 done.0
            before.at.template;
        ready = done.1;
      }) made.2

  descriptor_closed : (list : TemplateList) (given : Option Fcp) → IsGoodAt state (Descriptor list)
      → then_with (λ done. Ok (in_parts state list done)) (with_descriptor state.draft list given)
      ≡ Ok new → IsGoodState new
  descriptor_closed list given before e =
      let made = then_ok (λ (done : Filled). let r : Result State ElementFault = Ok
      (in_parts state list done) in r) (with_descriptor state.draft list given) new e in
      to_parts (Descriptor list) list made.0 before
      (record { template = before.at.template; many = before.at.many })
      (descriptor_made state.draft list before.at.template.template before.good before.at.many
      given made.0 before.at.ready made.1) made.2

  kind_there : (kind : ListKind) (seen : Bool) → IsAt state.draft (Lists kind seen)
      → IsUsimThere state.draft
  kind_there StepList seen at = at.usim
  kind_there PukList seen at = at
  kind_there PinList seen at = at.usim

  new_file_closed : (given : Option Fcp) → IsGoodAt state NewFile
      → then_with (λ done. Ok (with_managed state Steps done))
      (with_file_made state.draft state.standing.directory given) ≡ Ok new → IsGoodState new
  new_file_closed given before e =
      let made = then_ok (λ (done : Managed). let r : Result State ElementFault = Ok
      (with_managed state Steps done) in r)
      (with_file_made state.draft state.standing.directory given) new e in
      to_steps NewFile made.0 before before.at
      (file_goes state.draft state.standing.directory given made.0 before.good
      (held state.draft.rows state.standing.directory before.at.master before.standing) made.1)
      made.2

  puk_closed : (fields : PukFields) → IsGoodAt state (PukEntry fields)
      → closed_at state (PukEntry fields) ≡ Ok new → IsGoodState new
  puk_closed fields before e =
      let made = then_ok (λ (puk : NamedPuk). let r : Result State ElementFault = Ok
      (with_new_puk state puk) in r) (puk_told fields) new e in
      let good = before.good in
      subst (λ (s : State). IsGoodState s) (ok_is (with_new_puk state made.0) new made.2)
      (record {
        good = record {
          valid = good.valid;
          left = good.left;
          home = good.home;
          numbers = good.numbers;
          puks = each_append (λ (puk : NamedPuk). IsPuk puk) state.draft.puks (made.0 ∷ [])
              good.puks (puk_is fields made.0 before.at.1 made.1, tt);
        };
        standing = before.standing;
        at = before.at.0;
      })

  pin_closed : (fields : PinFields) → IsGoodAt state (PinEntry fields)
      → closed_at state (PinEntry fields) ≡ Ok new → IsGoodState new
  pin_closed fields before e =
      let made = then_ok (λ (pin : PinRow). let r : Result State ElementFault = Ok
      (with_new_pin state pin) in r) (pin_told state.draft fields) new e in
      subst (λ (s : State). IsGoodState s) (ok_is (with_new_pin state made.0) new made.2)
      (record {
        good = pin_good state.draft fields made.0 before.good before.at.0.master before.at.1 made.1;
        standing = before.standing;
        at = record { usim = before.at.0.usim; master = before.at.0.master };
      })

  pub closed_good : (spot : Spot) → state.spot ≡ spot → IsGoodAt state spot
      → closed_at state spot ≡ Ok new → IsGoodState new
  closed_good Start is before e = stays state new Start is before e
  closed_good Elements is before e = stays state new Elements is before e
  closed_good Ended is before e = stays state new Ended is before e
  closed_good (Header fields) is before e = if_ok (is_header_whole fields) (Ok (at state Elements))
      (Err Malformed) new e
      (λ _ y. to_spot state new (Header fields) Elements before before.at y)
      (λ _ n. absurd (not_ok Malformed new n))
  closed_good (Template list) is before e = list_closed list before e
  closed_good (File list parts) is before e = parts_closed list parts before e
  closed_good (Descriptor list) is before e = descriptor_closed list (fields_in state.gathered)
      before e
  closed_good (Lists kind seen) is before e = if_ok seen (Ok (at state Elements)) (Err Malformed)
      new e
      (λ _ y. to_spot state new (Lists kind seen) Elements before (kind_there kind seen before.at)
      y) (λ _ n. absurd (not_ok Malformed new n))
  closed_good Steps is before e = to_spot state new Steps (Lists StepList true) before before.at e
  closed_good NewFile is before e = new_file_closed (fields_in state.gathered) before e
  closed_good Puks is before e = to_spot state new Puks (Lists PukList true) before before.at e
  closed_good (PukEntry fields) is before e = puk_closed fields before e
  closed_good Pins is before e = to_spot state new Pins (Lists PinList true) before before.at e
  closed_good (PinEntry fields) is before e = pin_closed fields before e
