-- The parts of a package make no files but those that are named.
use Rattle.std.proofs.Common.{◌≡◌, ℕ, ◌+◌, ◌-◌, Bool, true, false, cond, not, ◌==◌, ◌&&◌, ◌||◌}
use Rattle.std.proofs.Common.{List, [], ◌∷◌, ◌++◌, length, refl, sym, ◌∙◌, ap, subst, inl, inr}
use Rattle.std.proofs.Common.{append_assoc, Option, Some, None, Result, Ok, Err}
use Rattle.std.specs.Bool.{⊤}
use Rattle.std.specs.Prelude.{nat_le}
use Rattle.file_rows.specs.declared.content.Content.{Content}
use Rattle.file_rows.specs.declared.pin.PinRow.{PinRow}
use Rattle.fcp_codec.specs.Reading.{fields_in}
use Rattle.package_reader.specs.ReaderState.{ReaderState, opens}
use Rattle.package_reader.specs.Turn.{Turn}
use Rattle.package_reader.specs.Turn.Turn.{Comes, Goes}
use Rattle.package_reader.specs.declared.part.Part.{Part}
use Rattle.package_reader.specs.declared.part.Part.TheVariants.{Head, Bytes, Close, More, Bad}
use Rattle.profile_install.specs.ElementResult.{then_with}
use Rattle.profile_install.specs.Header.{is_header_whole, no_header_fields, with_header_field}
use Rattle.profile_install.specs.Management.{fresh_standing, with_file_made, with_step}
use Rattle.profile_install.specs.NamedFiles.{IsNamed, IsOfStep, IsOfTemplate, NamesFile}
use Rattle.profile_install.specs.NamedFiles.{listed_template}
use Rattle.profile_install.specs.Package.{AllWhole, AreParts, PackageGives, after_part, after_turns}
use Rattle.profile_install.specs.Package.{broken, closed, constructed_begins, element_with_fault}
use Rattle.profile_install.specs.Package.{fresh_work, going, headed, heading, is_gathering}
use Rattle.profile_install.specs.Package.{is_used_up, progress_after, step_settled, valued}
use Rattle.profile_install.specs.PinEntry.{no_pin_fields, pin_told, with_pin_field}
use Rattle.profile_install.specs.PukEntry.{no_puk_fields, puk_told, with_puk_field}
use Rattle.profile_install.specs.State.{at, closed_at, depth_of, element_begins, file_opens}
use Rattle.profile_install.specs.State.{file_valued, has_master, in_list, in_parts, in_position}
use Rattle.profile_install.specs.State.{lists_open, opened_at, passing, placed, template_opens}
use Rattle.profile_install.specs.State.{template_valued, valued_at, with_managed, with_new_pin}
use Rattle.profile_install.specs.State.{with_new_puk}
use Rattle.profile_install.specs.Template.{at_file_end, at_list_end, at_position, left_out}
use Rattle.profile_install.specs.Template.{template_list, with_descriptor, with_part, with_template}
use Rattle.profile_install.specs.declared.draft.Draft.{Draft}
use Rattle.profile_install.specs.declared.draft.Filled.{Filled}
use Rattle.profile_install.specs.declared.fault.ElementFault.{ElementFault}
use Rattle.profile_install.specs.declared.fault.ElementFault.TheVariants.{Malformed, BadParameter}
use Rattle.profile_install.specs.declared.header.HeaderFields.{HeaderFields}
use Rattle.profile_install.specs.declared.management.Managed.{Managed}
use Rattle.profile_install.specs.declared.pin_entry.PinFields.{PinFields}
use Rattle.profile_install.specs.declared.puk_entry.NamedPuk.{NamedPuk}
use Rattle.profile_install.specs.declared.puk_entry.PukFields.{PukFields}
use Rattle.profile_install.specs.declared.state.Awaited.{Awaited}
use Rattle.profile_install.specs.declared.state.ListKind.{ListKind}
use Rattle.profile_install.specs.declared.state.ListKind.TheVariants.{StepList, PukList, PinList}
use Rattle.profile_install.specs.declared.state.Spot.{Spot}
use Rattle.profile_install.specs.declared.state.Spot.TheVariants.{Start, Elements, Ended, Header}
use Rattle.profile_install.specs.declared.state.Spot.TheVariants.{Template, File, Descriptor, Lists}
use Rattle.profile_install.specs.declared.state.Spot.TheVariants.{Steps, NewFile, Puks, PukEntry}
use Rattle.profile_install.specs.declared.state.Spot.TheVariants.{Pins, PinEntry}
use Rattle.profile_install.specs.declared.state.State.{State}
use Rattle.profile_install.specs.declared.template.FileParts.{FileParts}
use Rattle.profile_install.specs.declared.template.FileParts.TheVariants.{Awaited as PartsAwaited}
use Rattle.profile_install.specs.declared.template.FileParts.TheVariants.{LeftOut, Made}
use Rattle.profile_install.specs.declared.template.TemplateList.{TemplateList}
use Rattle.profile_install.specs.declared.work.Faulty.{Faulty}
use Rattle.profile_install.specs.declared.work.Progress.{Progress}
use Rattle.profile_install.specs.declared.work.Progress.TheVariants.{Going, Broken, Refused}
use Rattle.profile_install.specs.declared.work.Work.{Work}
use Rattle.profile_install.proofs.Gives.{Gives, gives_always, gives_if, gives_then}
use Rattle.profile_install.proofs.NamedFiles.{AllPaths, InDraft, InFilled, InManaged}
use Rattle.profile_install.proofs.NamedFiles.{descriptor_all, file_end_all, list_end_all}
use Rattle.profile_install.proofs.NamedFiles.{new_file_all, part_all, position_all, step_all}
use Rattle.profile_install.proofs.Outcome.{content_is}
use Rattle.profile_install.proofs.Reading.{after_more}

module _ (P : List ℕ → Type 0) where
  -- each file so far has a path that is named
  abbrev InState : State → Type 0
  InState state = AllPaths P state.draft.rows

  -- what a template names where its files are listed
  abbrev NamesAt : Spot → Type 0
  NamesAt spot = (template : ℕ) → listed_template spot ≡ Some template → (path : List ℕ)
      → IsOfTemplate template path → P path

  placed_all : (state : State) (good : Bool) (draft : Draft) (spot : Spot)
      → AllPaths P draft.rows → Gives InState (placed state good draft spot)
  placed_all state good draft spot all = gives_if InState good
      (Ok (record state { draft = draft; spot = spot })) (Err BadParameter) all tt

  begins_all : (state : State) (tag : ℕ) → InState state → Gives InState (element_begins state tag)
  begins_all state tag all =
      let draft = state.draft in
      let there = has_master draft in
      let r10 : Result State ElementFault = cond (nat_le 0xA1 tag && nat_le tag 0xBF)
      (Ok (passing state)) (Err Malformed) in
      let r9 : Result State ElementFault = cond (tag == 0xAA) (Ok (passing (at state Ended))) r10 in
      let r8 : Result State ElementFault = cond (tag == 0xA3) (Ok (at state (Lists PukList false)))
      r9 in
      let r7 : Result State ElementFault = cond (tag == 0xA2)
      (placed state there draft (Lists PinList false)) r8 in
      let r6 : Result State ElementFault = cond (tag == 0xA1)
      (placed (record state { standing = fresh_standing }) there draft (Lists StepList false)) r7 in
      let r5 : Result State ElementFault = cond (tag == 0xB5)
      (placed state (there && not draft.isim) (record draft { isim = true })
      (Template (template_list 8))) r6 in
      let r4 : Result State ElementFault = cond (tag == 0xB4)
      (placed state (there && draft.usim) draft (Template (template_list 5))) r5 in
      let r3 : Result State ElementFault = cond (tag == 0xB3)
      (placed state (there && not draft.usim) (record draft { usim = true })
      (Template (template_list 4))) r4 in
      let r2 : Result State ElementFault = cond (tag == 0xB2)
      (placed state (there && not draft.telecom) (record draft { telecom = true })
      (Template (template_list 3))) r3 in
      gives_if InState (tag == 0xB0) (placed state (not there) draft (Template (template_list 1)))
      r2 (placed_all state (not there) draft (Template (template_list 1)) all)
      (gives_if InState (tag == 0xB2) (placed state (there && not draft.telecom)
      (record draft { telecom = true }) (Template (template_list 3))) r3
      (placed_all state (there && not draft.telecom) (record draft { telecom = true })
      (Template (template_list 3)) all)
      (gives_if InState (tag == 0xB3) (placed state (there && not draft.usim)
      (record draft { usim = true }) (Template (template_list 4))) r4
      (placed_all state (there && not draft.usim) (record draft { usim = true })
      (Template (template_list 4)) all)
      (gives_if InState (tag == 0xB4)
      (placed state (there && draft.usim) draft (Template (template_list 5))) r5
      (placed_all state (there && draft.usim) draft (Template (template_list 5)) all)
      (gives_if InState (tag == 0xB5) (placed state (there && not draft.isim)
      (record draft { isim = true }) (Template (template_list 8))) r6
      (placed_all state (there && not draft.isim) (record draft { isim = true })
      (Template (template_list 8)) all)
      (gives_if InState (tag == 0xA1)
      (placed (record state { standing = fresh_standing }) there draft (Lists StepList false)) r7
      (placed_all (record state { standing = fresh_standing }) there draft (Lists StepList false)
      all)
      (gives_if InState (tag == 0xA2) (placed state there draft (Lists PinList false)) r8
      (placed_all state there draft (Lists PinList false) all)
      (gives_if InState (tag == 0xA3) (Ok (at state (Lists PukList false))) r9 all
      (gives_if InState (tag == 0xAA) (Ok (passing (at state Ended))) r10 all
      (gives_if InState (nat_le 0xA1 tag && nat_le tag 0xBF) (Ok (passing state)) (Err Malformed)
      all tt)))))))))

  in_position_all : (state : State) (list : TemplateList) (position : ℕ)
      → NamesAt (Template list) → InState state → Gives InState (in_position state list position)
  in_position_all state list position names all =
      gives_then (InDraft P) InState (λ (draft : Draft). let r : Result State ElementFault = Ok
      (record state {
        draft = draft;
        spot = File (record list { next = position + 1 }) PartsAwaited;
      }) in r) (at_position state.draft list position)
      (position_all P state.draft list (names list.template refl) all position) (λ draft its. its)

  template_opens_all : (state : State) (list : TemplateList) (tag : ℕ) → NamesAt (Template list)
      → InState state → Gives InState (template_opens state list tag)
  template_opens_all state list tag names all =
      let rest : Result State ElementFault = cond (nat_le 0xA1 tag && nat_le tag 0xBE)
      (in_position state list (tag - 0xA0)) (Err Malformed) in
      gives_if InState (tag == 0xA0) (Ok (passing state)) rest all
      (gives_if InState (nat_le 0xA1 tag && nat_le tag 0xBE)
      (in_position state list (tag - 0xA0)) (Err Malformed)
      (in_position_all state list (tag - 0xA0) names all) tt)

  file_opens_all : (state : State) (list : TemplateList) (parts : FileParts) (tag : ℕ)
      → InState state → Gives InState (file_opens state list parts tag)
  file_opens_all state list (Made file) tag all = tt
  file_opens_all state list LeftOut tag all = tt
  file_opens_all state list PartsAwaited tag all = gives_if InState (tag == 0xA1)
      (Ok (record state { spot = Descriptor list; gathered = [] })) (Err Malformed) all tt

  in_list_all : (state : State) (kind : ListKind) → InState state → InState (in_list state kind)
  in_list_all state StepList all = all
  in_list_all state PukList all = all
  in_list_all state PinList all = all

  lists_open_all : (state : State) (kind : ListKind) (seen : Bool) (tag : ℕ) → InState state
      → Gives InState (lists_open state kind seen tag)
  lists_open_all state kind seen tag all =
      let rest : Result State ElementFault = cond ((tag == 0xA1) && not seen)
      (Ok (in_list state kind)) (Err Malformed) in
      gives_if InState (tag == 0xA0) (Ok (passing state)) rest all
      (gives_if InState ((tag == 0xA1) && not seen) (Ok (in_list state kind)) (Err Malformed)
      (in_list_all state kind all) tt)

  one_opens : (state : State) (b : Bool) (spot : Spot) → InState state
      → Gives InState (cond b (Ok (at state spot)) (Err Malformed))
  one_opens state b spot all = gives_if InState b (Ok (at state spot)) (Err Malformed) all tt

  opened_all : (state : State) (spot : Spot) (tag : ℕ) → NamesAt spot → InState state
      → Gives InState (opened_at state spot tag)
  opened_all state Start tag names all = one_opens state (tag == 0xA0) (Header no_header_fields) all
  opened_all state Elements tag names all = begins_all state tag all
  opened_all state Ended tag names all = tt
  opened_all state (Header fields) tag names all = all
  opened_all state (Template list) tag names all = template_opens_all state list tag names all
  opened_all state (File list parts) tag names all = file_opens_all state list parts tag all
  opened_all state (Descriptor list) tag names all = all
  opened_all state (Lists kind seen) tag names all = lists_open_all state kind seen tag all
  opened_all state Steps tag names all = gives_if InState (tag == 0x62)
      (Ok (record state { spot = NewFile; gathered = [] })) (Err Malformed) all tt
  opened_all state NewFile tag names all = all
  opened_all state Puks tag names all = one_opens state (tag == 0x30) (PukEntry no_puk_fields) all
  opened_all state (PukEntry fields) tag names all = tt
  opened_all state Pins tag names all = one_opens state (tag == 0x30) (PinEntry no_pin_fields) all
  opened_all state (PinEntry fields) tag names all = tt

  template_value_all : (state : State) (list : TemplateList) (tag : ℕ) (value : List ℕ)
      → InState state → Gives InState (template_valued state list tag value)
  template_value_all state list tag value all =
      let step : TemplateList → Result State ElementFault = λ list. Ok (at state (Template list)) in
      gives_if InState (tag == 0x06) (then_with step (with_template list value)) (Err Malformed)
      (gives_always InState step (with_template list value) (λ list. all)) tt

  file_value_all : (state : State) (list : TemplateList) (parts : FileParts) (tag : ℕ)
      (value : List ℕ) → NamesAt (File list parts) → InState state
      → Gives InState (file_valued state list parts tag value)
  file_value_all state list parts tag value names all =
      let left : FileParts → Result State ElementFault = λ parts. Ok (at state (File list parts)) in
      let filled : Filled → Result State ElementFault = λ done. Ok (in_parts state list done) in
      gives_if InState (tag == 0x80) (then_with left (left_out list parts value))
      (then_with filled (with_part state.draft list parts tag value))
      (gives_always InState left (left_out list parts value) (λ parts. all))
      (gives_then (InFilled P) InState filled (with_part state.draft list parts tag value)
      (part_all P state.draft list (names list.template refl) all parts tag value)
      (λ done its. its))

  valued_all : (iccid : List ℕ) (state : State) (spot : Spot) (tag : ℕ) (value : List ℕ)
      → NamesAt spot → InState state → Gives InState (valued_at iccid state spot tag value)
  valued_all iccid state Start tag value names all = tt
  valued_all iccid state Elements tag value names all = tt
  valued_all iccid state Ended tag value names all = tt
  valued_all iccid state (Header fields) tag value names all =
      gives_always InState (λ (fields : HeaderFields). let r : Result State ElementFault = Ok
      (at state (Header fields)) in r) (with_header_field iccid fields tag value) (λ fields. all)
  valued_all iccid state (Template list) tag value names all =
      template_value_all state list tag value all
  valued_all iccid state (File list parts) tag value names all =
      file_value_all state list parts tag value names all
  valued_all iccid state (Descriptor list) tag value names all = all
  valued_all iccid state (Lists kind seen) tag value names all = tt
  valued_all iccid state Steps tag value names all =
      gives_then (InManaged P) InState
      (λ (done : Managed). let r : Result State ElementFault = Ok (with_managed state Steps done) in
      r) (with_step state.draft state.standing tag value)
      (step_all P state.draft state.standing all tag value) (λ done its. its)
  valued_all iccid state NewFile tag value names all = all
  valued_all iccid state Puks tag value names all = tt
  valued_all iccid state (PukEntry fields) tag value names all =
      gives_always InState (λ (fields : PukFields). let r : Result State ElementFault = Ok
      (at state (PukEntry fields)) in r) (with_puk_field state.draft.puks fields tag value)
      (λ fields. all)
  valued_all iccid state Pins tag value names all = tt
  valued_all iccid state (PinEntry fields) tag value names all =
      gives_always InState (λ (fields : PinFields). let r : Result State ElementFault = Ok
      (at state (PinEntry fields)) in r) (with_pin_field state.draft fields tag value)
      (λ fields. all)

  -- where a TLV ends, a step may name a file too
  closed_all : (state : State) (spot : Spot) → NamesAt spot
      → (spot ≡ NewFile → (path : List ℕ)
      → IsOfStep state.standing.directory state.gathered path → P path)
      → InState state → Gives InState (closed_at state spot)
  closed_all state Start names step all = all
  closed_all state Elements names step all = all
  closed_all state Ended names step all = all
  closed_all state (Header fields) names step all =
      one_opens state (is_header_whole fields) Elements all
  closed_all state (Template list) names step all =
      gives_then (InDraft P) InState (λ (draft : Draft). let r : Result State ElementFault = Ok
      (record state { draft = draft; spot = Elements }) in r) (at_list_end state.draft list)
      (list_end_all P state.draft list (names list.template refl) all) (λ draft its. its)
  closed_all state (File list parts) names step all =
      gives_then (InDraft P) InState (λ (draft : Draft). let r : Result State ElementFault = Ok
      (record state { draft = draft; spot = Template list }) in r)
      (at_file_end state.draft list parts)
      (file_end_all P state.draft list (names list.template refl) all parts) (λ draft its. its)
  closed_all state (Descriptor list) names step all =
      gives_then (InFilled P) InState (λ (done : Filled). let r : Result State ElementFault = Ok
      (in_parts state list done) in r)
      (with_descriptor state.draft list (fields_in state.gathered))
      (descriptor_all P state.draft list (names list.template refl) all
      (fields_in state.gathered)) (λ done its. its)
  closed_all state (Lists kind seen) names step all = one_opens state seen Elements all
  closed_all state Steps names step all = all
  closed_all state NewFile names step all =
      gives_then (InManaged P) InState (λ (done : Managed). let r : Result State ElementFault = Ok
      (with_managed state Steps done) in r)
      (with_file_made state.draft state.standing.directory (fields_in state.gathered))
      (new_file_all P state.standing.directory state.gathered (step refl) state.draft
      (fields_in state.gathered) refl all) (λ done its. its)
  closed_all state Puks names step all = all
  closed_all state (PukEntry fields) names step all =
      gives_always InState (λ (puk : NamedPuk). let r : Result State ElementFault = Ok
      (with_new_puk state puk) in r) (puk_told fields) (λ puk. all)
  closed_all state Pins names step all = all
  closed_all state (PinEntry fields) names step all =
      gives_always InState (λ (pin : PinRow). let r : Result State ElementFault = Ok
      (with_new_pin state pin) in r) (pin_told state.draft fields) (λ pin. all)

  abbrev InProgress : Progress → Type 0
  InProgress (Going state) = InState state
  InProgress (Broken faulty) = ⊤
  InProgress (Refused fault) = ⊤

  either : (b : Bool) (x y : Progress) → InProgress x → InProgress y → InProgress (cond b x y)
  either true x y one other = one
  either false x y one other = other

  fault_all : (fault : ElementFault) (depth : ℕ) → InProgress (element_with_fault fault depth)
  fault_all fault depth = either (depth == 0) (Refused fault)
      (Broken (record { fault = fault; depth = depth })) tt tt

  settled_all : (r : Result State ElementFault) (depth : ℕ) → Gives InState r
      → InProgress (step_settled r depth)
  settled_all (Ok state) depth gives = gives
  settled_all (Err fault) depth gives = fault_all fault depth

  headed_all : (iccid : List ℕ) (state : State) (tag n : ℕ) (constructed : Bool)
      → NamesAt state.spot → InState state → InProgress (headed iccid state tag n constructed)
  headed_all iccid state tag n constructed names all =
      let opened : Progress = step_settled (opened_at state state.spot tag)
      (depth_of state.spot + 1) in
      let more : Progress = Going (record state { passed = state.passed + 1 }) in
      let empty : Progress = step_settled (valued_at iccid state state.spot tag [])
      (depth_of state.spot) in
      let waits : Progress = Going
      (record state { awaited = Some (record { tag = tag; length = n }) }) in
      either constructed (constructed_begins state tag) (heading iccid state tag n)
      (either (nat_le 1 state.passed) more opened all
      (settled_all (opened_at state state.spot tag) (depth_of state.spot + 1)
      (opened_all state state.spot tag names all)))
      (either (nat_le 1 state.passed) (Going state)
      (cond ((n == 0) || (depth_of state.spot == 0)) empty waits) all
      (either ((n == 0) || (depth_of state.spot == 0)) empty waits
      (settled_all (valued_at iccid state state.spot tag []) (depth_of state.spot)
      (valued_all iccid state state.spot tag [] names all)) all))

  value_all : (iccid : List ℕ) (state : State) (bytes : List ℕ) (awaited : Option Awaited)
      → NamesAt state.spot → InState state → InProgress (valued iccid state bytes awaited)
  value_all iccid state bytes None names all = all
  value_all iccid state bytes (Some awaited) names all =
      let now : State = record state { awaited = None } in
      either (awaited.length == length bytes)
      (step_settled (valued_at iccid now state.spot awaited.tag bytes) (depth_of state.spot))
      (Going state)
      (settled_all (valued_at iccid now state.spot awaited.tag bytes) (depth_of state.spot)
      (valued_all iccid now state.spot awaited.tag bytes names all)) all

  -- what is named where a package stands
  abbrev NamesIn : Progress → Type 0
  NamesIn (Going state) = (path : List ℕ) → NamesFile state path → P path
  NamesIn (Broken faulty) = ⊤
  NamesIn (Refused fault) = ⊤

  module _ (iccid : List ℕ) (state : State)
      (names : (path : List ℕ) → NamesFile state path → P path) (all : InState state) where
    of_template : NamesAt state.spot
    of_template template is path named = names path (inl (template, is, named))

    head_all : (tag n : ℕ) (bytes : List ℕ) (b : Bool)
        → InProgress (headed iccid (cond b (record state { gathered = state.gathered ++ bytes })
        state) tag n (opens bytes))
    head_all tag n bytes true = headed_all iccid
        (record state { gathered = state.gathered ++ bytes }) tag n (opens bytes) of_template all
    head_all tag n bytes false = headed_all iccid state tag n (opens bytes) of_template all

    bytes_all : (bytes : List ℕ) (b : Bool)
        → InProgress (valued iccid (cond b (record state { gathered = state.gathered ++ bytes })
        state) bytes state.awaited)
    bytes_all bytes true = value_all iccid
        (record state { gathered = state.gathered ++ bytes }) bytes state.awaited of_template all
    bytes_all bytes false = value_all iccid state bytes state.awaited of_template all

    close_all : InProgress (closed state)
    close_all = either (nat_le 1 state.passed)
        (Going (record state { passed = state.passed - 1 }))
        (step_settled (closed_at state state.spot) (depth_of state.spot - 1)) all
        (settled_all (closed_at state state.spot) (depth_of state.spot - 1)
        (closed_all state state.spot of_template
        (λ is path named. names path (inr (is, named))) all))

    going_all : (part : Part) (bytes : List ℕ) → InProgress (going iccid state part bytes)
    going_all (Head tag n place) bytes = head_all tag n bytes (is_gathering state.spot)
    going_all (Bytes count) bytes = bytes_all bytes (is_gathering state.spot)
    going_all Close bytes = close_all
    going_all More bytes = all
    going_all (Bad place) bytes = all

  broken_all : (faulty : Faulty) (part : Part) (bytes : List ℕ)
      → InProgress (broken faulty part bytes)
  broken_all faulty (Head tag n place) bytes = either (opens bytes)
      (Broken (record faulty { depth = faulty.depth + 1 })) (Broken faulty) tt tt
  broken_all faulty (Bytes count) bytes = tt
  broken_all faulty Close bytes = fault_all faulty.fault (faulty.depth - 1)
  broken_all faulty More bytes = tt
  broken_all faulty (Bad place) bytes = tt

  part_named : (iccid : List ℕ) (progress : Progress) (part : Part) (bytes : List ℕ)
      → NamesIn progress → InProgress progress
      → InProgress (progress_after iccid progress part bytes)
  part_named iccid (Going state) part bytes names all = going_all iccid state names all part bytes
  part_named iccid (Broken faulty) part bytes names all = broken_all faulty part bytes
  part_named iccid (Refused fault) part bytes names all = tt

module _ (iccid bytes : List ℕ) (last : ReaderState) where
  -- what is named behind some parts is named in the package
  named_here : (front back : List Turn) (place : ℕ) (progress : Progress)
      → AreParts bytes (front ++ back) last
      → after_turns iccid fresh_work front ≡ record { place = place; progress = progress }
      → NamesIn (IsNamed iccid bytes) progress
  named_here front back place (Going state) parts is = λ path names. record {
    front = front;
    back = back;
    last = last;
    parts = parts;
    place = place;
    state = state;
    comes = is;
    names = names;
  }
  named_here front back place (Broken faulty) parts is = tt
  named_here front back place (Refused fault) parts is = tt

  -- all turns, some of which are done
  along : (done turns : List Turn) (work : Work) → AreParts bytes (done ++ turns) last
      → AllWhole turns → after_turns iccid fresh_work done ≡ work
      → InProgress (IsNamed iccid bytes) work.progress
      → InProgress (IsNamed iccid bytes) (after_turns iccid work turns).progress
  along done [] work parts whole is all = all
  along done (Comes piece ∷ turns) work parts whole is all = absurd whole
  along done (Goes part its ∷ turns) work parts whole is all =
      along (done ++ Goes part its ∷ []) turns (after_part iccid work part its)
      (subst (λ (ts : List Turn). AreParts bytes ts last)
      (sym (append_assoc done (Goes part its ∷ []) turns)) parts)
      whole.1
      (after_more iccid fresh_work done part its
      ∙ ap (λ (w : Work). after_part iccid w part its) is)
      (part_named (IsNamed iccid bytes) iccid work.progress part its
      (named_here done (Goes part its ∷ turns) work.place work.progress parts is) all)

pub files_named : (iccid bytes : List ℕ) (content : Content)
    → PackageGives iccid bytes (Ok content) → AllPaths (IsNamed iccid bytes) content.rows
files_named iccid bytes content gives =
    let work = after_turns iccid fresh_work gives.turns in
    let given = content_is work.place work.progress (is_used_up gives.last.unread) content
    (sym gives.meant) in
    subst (λ (c : Content). AllPaths (IsNamed iccid bytes) c.rows) given.2
    (subst (InProgress (IsNamed iccid bytes)) given.1
    (along iccid bytes gives.last [] gives.turns fresh_work gives.parts gives.parts.whole refl tt))
