-- Where the next part of a package stands, and what it does there.
use Rattle.std.specs.Prelude.{ℕ, Bool, true, false, ◌+◌, ◌-◌, ◌==◌, ◌&&◌, not, nat_le}
use Rattle.std.specs.Prelude.{if◌then◌else◌, List, [], ◌∷◌, ◌++◌, length, None, Result, Ok, Err}
use Rattle.fcp_codec.specs.Reading.{fields_in}
use Rattle.file_rows.specs.declared.pin.PinRow.{PinRow}
use Rattle.profile_install.specs.ElementResult.{then_with}
use Rattle.profile_install.specs.Draft.{fresh_draft}
use Rattle.profile_install.specs.Header.{is_header_whole, no_header_fields, with_header_field}
use Rattle.profile_install.specs.Management.{fresh_standing, with_file_made, with_step}
use Rattle.profile_install.specs.PinEntry.{no_pin_fields, pin_told, with_pin_field}
use Rattle.profile_install.specs.PukEntry.{no_puk_fields, puk_told, with_puk_field}
use Rattle.profile_install.specs.Template.{at_file_end, at_list_end, at_position, left_out}
use Rattle.profile_install.specs.Template.{template_list, with_descriptor, with_part, with_template}
use Rattle.profile_install.specs.declared.draft.Draft.{Draft}
use Rattle.profile_install.specs.declared.draft.Filled.{Filled}
use Rattle.profile_install.specs.declared.fault.ElementFault.{ElementFault}
use Rattle.profile_install.specs.declared.fault.ElementFault.TheVariants.{Malformed, BadParameter}
use Rattle.profile_install.specs.declared.management.Managed.{Managed}
use Rattle.profile_install.specs.declared.puk_entry.NamedPuk.{NamedPuk}
use Rattle.profile_install.specs.declared.state.ListKind.{ListKind}
use Rattle.profile_install.specs.declared.state.ListKind.TheVariants.{StepList, PukList, PinList}
use Rattle.profile_install.specs.declared.state.Spot.{Spot}
use Rattle.profile_install.specs.declared.state.Spot.TheVariants.{Start, Elements, Ended, Header}
use Rattle.profile_install.specs.declared.state.Spot.TheVariants.{Template, File, Descriptor, Lists}
use Rattle.profile_install.specs.declared.state.Spot.TheVariants.{Steps, NewFile, Puks, PukEntry}
use Rattle.profile_install.specs.declared.state.Spot.TheVariants.{Pins, PinEntry}
use Rattle.profile_install.specs.declared.state.State.{State}
use Rattle.profile_install.specs.declared.template.FileParts.{FileParts}
use Rattle.profile_install.specs.declared.template.FileParts.TheVariants.{Awaited as PartsAwaited}
use Rattle.profile_install.specs.declared.template.FileParts.TheVariants.{LeftOut, Made}
use Rattle.profile_install.specs.declared.template.TemplateList.{TemplateList}

abbrev pub fresh_state : State
fresh_state = record {
  draft = fresh_draft;
  spot = Start;
  standing = fresh_standing;
  gathered = [];
  passed = 0;
  awaited = None;
}

-- how many TLVs are open there
abbrev pub depth_of : Spot → ℕ
depth_of Start = 0
depth_of Elements = 0
depth_of Ended = 0
depth_of (Header fields) = 1
depth_of (Template list) = 1
depth_of (File list parts) = 2
depth_of (Descriptor list) = 3
depth_of (Lists kind seen) = 1
depth_of Steps = 2
depth_of NewFile = 3
depth_of Puks = 2
depth_of (PukEntry fields) = 3
depth_of Pins = 2
depth_of (PinEntry fields) = 3

abbrev pub at : State → Spot → State
at state spot = record state { spot = spot }

-- the TLV that begins is passed over
abbrev pub passing : State → State
passing state = record state { passed = 1 }

abbrev pub placed : State → Bool → Draft → Spot → Result State ElementFault
placed state good draft spot =
    if good then Ok (record state { draft = draft; spot = spot }) else Err BadParameter

-- whether the MF is there
abbrev pub has_master : Draft → Bool
has_master draft = not (length draft.rows == 0)

-- an element begins behind the header: the MF comes once, and what makes files or PINs comes
-- behind it; telecom, the USIM and the ISIM come once, the USIM's optional files behind the USIM
abbrev pub element_begins : State → ℕ → Result State ElementFault
element_begins state tag =
    let draft = state.draft in
    let there = has_master draft in
    if tag == 0xB0 then placed state (not there) draft (Template (template_list 1))
    else (if tag == 0xB2 then placed state (there && not draft.telecom)
    (record draft { telecom = true }) (Template (template_list 3))
    else (if tag == 0xB3 then placed state (there && not draft.usim)
    (record draft { usim = true }) (Template (template_list 4))
    else (if tag == 0xB4 then placed state (there && draft.usim) draft (Template (template_list 5))
    else (if tag == 0xB5 then placed state (there && not draft.isim)
    (record draft { isim = true }) (Template (template_list 8))
    else (if tag == 0xA1 then placed (record state { standing = fresh_standing }) there draft
    (Lists StepList false)
    else (if tag == 0xA2 then placed state there draft (Lists PinList false)
    else (if tag == 0xA3 then Ok (at state (Lists PukList false))
    else (if tag == 0xAA then Ok (passing (at state Ended))
    else (if nat_le 0xA1 tag && nat_le tag 0xBF then Ok (passing state)
    else Err Malformed)))))))))

abbrev pub in_position : State → TemplateList → ℕ → Result State ElementFault
in_position state list position = then_with
    (λ draft. Ok (record state {
      draft = draft;
      spot = File (record list { next = position + 1 }) PartsAwaited;
    })) (at_position state.draft list position)

-- in the list of a template's files, `A1` to `BE` are the positions 1 to 30
abbrev pub template_opens : State → TemplateList → ℕ → Result State ElementFault
template_opens state list tag =
    if tag == 0xA0 then Ok (passing state)
    else (if nat_le 0xA1 tag && nat_le tag 0xBE then in_position state list (tag - 0xA0)
    else Err Malformed)

abbrev pub file_opens : State → TemplateList → FileParts → ℕ → Result State ElementFault
file_opens state list (Made file) tag = Err Malformed
file_opens state list LeftOut tag = Err Malformed
file_opens state list PartsAwaited tag =
    if tag == 0xA1 then Ok (record state { spot = Descriptor list; gathered = [] })
    else Err Malformed

abbrev pub in_list : State → ListKind → State
in_list state StepList = at state Steps
in_list state PukList = at state Puks
in_list state PinList = at state Pins

abbrev pub lists_open : State → ListKind → Bool → ℕ → Result State ElementFault
lists_open state kind seen tag =
    if tag == 0xA0 then Ok (passing state)
    else (if (tag == 0xA1) && not seen then Ok (in_list state kind) else Err Malformed)

-- a constructed TLV begins
abbrev pub opened_at : State → Spot → ℕ → Result State ElementFault
opened_at state Start tag =
    if tag == 0xA0 then Ok (at state (Header no_header_fields)) else Err Malformed
opened_at state Elements tag = element_begins state tag
opened_at state Ended tag = Err Malformed
opened_at state (Header fields) tag = Ok (passing state)
opened_at state (Template list) tag = template_opens state list tag
opened_at state (File list parts) tag = file_opens state list parts tag
opened_at state (Descriptor list) tag = Ok (passing state)
opened_at state (Lists kind seen) tag = lists_open state kind seen tag
opened_at state Steps tag =
    if tag == 0x62 then Ok (record state { spot = NewFile; gathered = [] }) else Err Malformed
opened_at state NewFile tag = Ok (passing state)
opened_at state Puks tag =
    if tag == 0x30 then Ok (at state (PukEntry no_puk_fields)) else Err Malformed
opened_at state (PukEntry fields) tag = Err Malformed
opened_at state Pins tag =
    if tag == 0x30 then Ok (at state (PinEntry no_pin_fields)) else Err Malformed
opened_at state (PinEntry fields) tag = Err Malformed

abbrev pub in_parts : State → TemplateList → Filled → State
in_parts state list done =
    record state { draft = done.draft; spot = File list (Made done.file) }

-- a part of a file with a value
abbrev pub file_valued : State → TemplateList → FileParts → ℕ → List ℕ → Result State ElementFault
file_valued state list parts tag value =
    if tag == 0x80
    then then_with (λ parts. Ok (at state (File list parts))) (left_out list parts value)
    else then_with (λ done. Ok (in_parts state list done))
    (with_part state.draft list parts tag value)

abbrev pub template_valued : State → TemplateList → ℕ → List ℕ → Result State ElementFault
template_valued state list tag value =
    if tag == 0x06
    then then_with (λ list. Ok (at state (Template list))) (with_template list value)
    else Err Malformed

abbrev pub with_managed : State → Spot → Managed → State
with_managed state spot done =
    record state { draft = done.draft; standing = done.standing; spot = spot }

-- a primitive TLV with its value
abbrev pub valued_at : List ℕ → State → Spot → ℕ → List ℕ → Result State ElementFault
valued_at iccid state Start tag value = Err Malformed
valued_at iccid state Elements tag value = Err Malformed
valued_at iccid state Ended tag value = Err Malformed
valued_at iccid state (Header fields) tag value = then_with
    (λ fields. Ok (at state (Header fields))) (with_header_field iccid fields tag value)
valued_at iccid state (Template list) tag value = template_valued state list tag value
valued_at iccid state (File list parts) tag value = file_valued state list parts tag value
valued_at iccid state (Descriptor list) tag value = Ok state
valued_at iccid state (Lists kind seen) tag value = Err Malformed
valued_at iccid state Steps tag value = then_with (λ done. Ok (with_managed state Steps done))
    (with_step state.draft state.standing tag value)
valued_at iccid state NewFile tag value = Ok state
valued_at iccid state Puks tag value = Err Malformed
valued_at iccid state (PukEntry fields) tag value = then_with
    (λ fields. Ok (at state (PukEntry fields))) (with_puk_field state.draft.puks fields tag value)
valued_at iccid state Pins tag value = Err Malformed
valued_at iccid state (PinEntry fields) tag value = then_with
    (λ fields. Ok (at state (PinEntry fields))) (with_pin_field state.draft fields tag value)

abbrev pub with_new_puk : State → NamedPuk → State
with_new_puk state puk = record state {
  draft = record state.draft { puks = state.draft.puks ++ puk ∷ [] };
  spot = Puks;
}

abbrev pub with_new_pin : State → PinRow → State
with_new_pin state pin = record state {
  draft = record state.draft { pins = state.draft.pins ++ pin ∷ [] };
  spot = Pins;
}

abbrev pub file_closed : State → TemplateList → FileParts → Result State ElementFault
file_closed state list parts = then_with
    (λ draft. Ok (record state { draft = draft; spot = Template list }))
    (at_file_end state.draft list parts)

-- the innermost TLV ends
abbrev pub closed_at : State → Spot → Result State ElementFault
closed_at state Start = Ok state
closed_at state Elements = Ok state
closed_at state Ended = Ok state
closed_at state (Header fields) =
    if is_header_whole fields then Ok (at state Elements) else Err Malformed
closed_at state (Template list) = then_with
    (λ draft. Ok (record state { draft = draft; spot = Elements })) (at_list_end state.draft list)
closed_at state (File list parts) = file_closed state list parts
closed_at state (Descriptor list) = then_with (λ done. Ok (in_parts state list done))
    (with_descriptor state.draft list (fields_in state.gathered))
closed_at state (Lists kind seen) = if seen then Ok (at state Elements) else Err Malformed
closed_at state Steps = Ok (at state (Lists StepList true))
closed_at state NewFile = then_with (λ done. Ok (with_managed state Steps done))
    (with_file_made state.draft state.standing.directory (fields_in state.gathered))
closed_at state Puks = Ok (at state (Lists PukList true))
closed_at state (PukEntry fields) = then_with (λ puk. Ok (with_new_puk state puk)) (puk_told fields)
closed_at state Pins = Ok (at state (Lists PinList true))
closed_at state (PinEntry fields) = then_with (λ pin. Ok (with_new_pin state pin))
    (pin_told state.draft fields)
