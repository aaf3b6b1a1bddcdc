-- No command is answered by a card as one that failed.
use Rattle.std.proofs.Common.{◌≡◌, ◌≤◌, ◌-◌, ℕ, Bool, false, cond, List, [], ◌∷◌, length, take}
use Rattle.std.proofs.Common.{Option, Some, None, IfSome, Result, Ok, Err, refl, sym, subst}
use Rattle.std.proofs.Common.{arith, inl, inr}
use Rattle.std.specs.Prelude.{◌==◌, ◌&&◌, is_some, not, unwrap_or}
use Rattle.std.specs.Str.{bytes_eq}
use Rattle.access_rules.specs.Met.{pin_for}
use Rattle.apdu_codec.specs.Class.{class_refusal, is_of_further_channel, is_secured, is_taken}
use Rattle.apdu_codec.specs.Command.{Apdu, refusal}
use Rattle.apdu_codec.specs.Sw.{tries_left}
use Rattle.apdu_codec.specs.declared.answers.Answer.{Answer}
use Rattle.apdu_codec.specs.declared.status.Sw.{Sw}
use Rattle.apdu_codec.specs.declared.status.TheConstants.Sw as sws
use Rattle.fcp_codec.specs.Creation.{created}
use Rattle.fcp_codec.specs.declared.creation.CreationFault.{CreationFault}
use Rattle.fcp_codec.specs.declared.creation.CreationFault.TheVariants as faults
use Rattle.file_rows.specs.Content.{file_at}
use Rattle.file_rows.specs.FileHead.{holds_files}
use Rattle.file_rows.specs.PinRow.{AreTries, IsPin, is_verified}
use Rattle.file_rows.specs.declared.head.FileHead.{FileHead}
use Rattle.file_rows.specs.declared.head.Life.{Life}
use Rattle.file_rows.specs.declared.head.Life.TheVariants as lives
use Rattle.file_rows.specs.declared.mode.Mode.{Mode}
use Rattle.file_rows.specs.declared.pin.PinRow.{PinRow}
use Rattle.file_rows.specs.declared.pin.Puk.{Puk}
use Rattle.file_rows.specs.declared.row.FileRow.{FileRow}
use Rattle.lsi_refresh.specs.Announcement.{announcing_in}
use Rattle.pin_state.specs.PinCommand.{PinCommand, outcome}
use Rattle.pin_state.specs.PinCommand.PinCommand.{Change, Disable, Enable, Unblock, Verify}
use Rattle.pin_state.specs.PinOutcome.{PinOutcome, at_enabled, presented, unblock_with, unblocked}
use Rattle.uicc_admin.specs.Administration.{admin_row, is_administration}
use Rattle.uicc_admin.specs.Create.{create_row, creating, creation_done, creation_refusal}
use Rattle.uicc_admin.specs.Create.{file_asked}
use Rattle.uicc_admin.specs.Delete.{delete_row, deleting, ef_life_refusal, is_used_elsewhere}
use Rattle.uicc_admin.specs.Delete.{named_to_delete}
use Rattle.uicc_admin.specs.FileState.{changing_state, state_refusal, state_row}
use Rattle.uicc_admin.specs.FileWork.{FileWork, at_file}
use Rattle.uicc_admin.specs.NamedFile.{ef_in, ef_named, ef_not_there, has_no_parameters}
use Rattle.uicc_admin.specs.NamedFile.{may_name_ef}
use Rattle.uicc_admin.specs.Resize.{is_within_quota, may_have_size, resize_asked, resize_row}
use Rattle.uicc_admin.specs.Resize.{resizing, size_asked, size_refusal}
use Rattle.uicc_channels.specs.CommandRow.{decided}
use Rattle.uicc_channels.specs.Needs.{Needs, needs_of, refused_unless}
use Rattle.uicc_channels.specs.Session.{open_channel}
use Rattle.uicc_channels.specs.declared.session.Refresh.{Refresh}
use Rattle.uicc_channels.specs.declared.session.Refresh.TheVariants as refreshes
use Rattle.uicc_channels.specs.declared.session.Session.{Session}
use Rattle.profile_card.proofs.FineLemmas.{Fine, FineIf, FineNeeds, FineRow, by_test, fine_decided}
use Rattle.profile_card.proofs.FineLemmas.{fine_life, fine_missing, fine_tries, fine_unless}
use Rattle.profile_card.proofs.FineRowLemmas as rows
use Rattle.profile_card.proofs.PinCommandLemmas.{IsPin-found, are_pins}
use Rattle.profile_card.specs.Card.{Card, IsSound, allowed_at, isdr_here}
use Rattle.profile_card.specs.Commands.{command_row, decision, instruction_row, is_known_at}
use Rattle.profile_card.specs.Commands.{unknown_row}
use Rattle.profile_card.specs.Failing.{is_failing}
use Rattle.profile_card.specs.PinCommands.{done_where, pin_command, pin_row}
use Rattle.profile_card.specs.Step.{Event, Outcome, Responds, Steps, StepsAt}
use Rattle.profile_card.specs.Step.Event.{Bound, Command, Power, Reset, Unbound}
use Rattle.profile_card.specs.declared.pin_commands.PinInstruction.{PinInstruction}
use Rattle.profile_card.specs.declared.pin_commands.PinInstruction.TheVariants as instructions

-- the commands that make, delete and change files
record FineWork (work : FileWork) : Type 0 where
  pub life : FineIf work.life
  pub own : FineIf work.own
  pub done : Fine work.done.answer.sw

fine_at_file : (needs : Needs) → FineNeeds needs → (session : Session)
    (allowed : List ℕ → Mode → Bool) (sw : Sw) → Fine sw → (work : FileRow → FileWork)
    → ((row : FileRow) → FineWork (work row)) → (row : Option FileRow)
    → FineRow (at_file needs session allowed sw work row)
fine_at_file needs fine session allowed sw there work each None =
    record { needs = fine_missing needs fine sw there; done = refl }
fine_at_file needs fine session allowed sw there work each (Some row) = record {
  needs = record {
    template = fine.template;
    file = fine.file;
    life = (each row).life;
    description = fine.description;
    own = (each row).own;
  };
  done = (each row).done;
}

module _ (files : List FileRow) (allowed : List ℕ → Mode → Bool) (session : Session)
    (c : Apdu) where
  fine_creation : (made : Result FileHead CreationFault) → FineIf (creation_refusal made)
  fine_creation (Ok head) = tt
  fine_creation (Err faults.BadParameters) = refl
  fine_creation (Err faults.IdInUse) = refl
  fine_creation (Err faults.NameInUse) = refl
  fine_creation (Err faults.QuotaExceeded) = refl

  fine_created : (made : Result FileHead CreationFault)
      → Fine (creation_done session c.channel made).answer.sw
  fine_created (Ok head) = refl
  fine_created (Err fault) = refl

  fine_creating : (directory : FileRow)
      → FineWork (creating files session c (file_asked c.body) directory)
  fine_creating directory =
      elim (file_asked c.body) as (λ new. FineWork (creating files session c new directory)) [
        | None ↦ record { life = tt; own = tt; done = refl }
        | Some new ↦ record {
          life = tt;
          own = fine_creation (created files directory.head.path new.fcp);
          done = fine_created (created files directory.head.path new.fcp);
        }
      ]

  fine_create : FineRow (create_row files allowed session c)
  fine_create =
      fine_at_file (record (needs_of session c) {
        parameters = has_no_parameters c;
        lengths = not (length c.body == 0);
        description = refused_unless (is_some (file_asked c.body)) sws.WRONG_DATA;
      }) (record {
        template = tt;
        file = tt;
        life = tt;
        description = fine_unless (is_some (file_asked c.body)) sws.WRONG_DATA refl;
        own = tt;
      }) session allowed sws.FILE_NOT_FOUND refl
      (creating files session c (file_asked c.body)) fine_creating
      (file_at (open_channel session c.channel).dir files)

  fine_ef_life : (head : FileHead) → FineIf (ef_life_refusal head)
  fine_ef_life head = by_test FineIf (holds_files head.kind) None _ tt (fine_life head.life)

  fine_delete : FineRow (delete_row files allowed session c)
  fine_delete =
      fine_at_file (record (needs_of session c) {
        parameters = has_no_parameters c;
        lengths = length c.body == 2;
      }) (record { template = tt; file = tt; life = tt; description = tt; own = tt })
      session allowed sws.FILE_NOT_FOUND refl (deleting session c)
      (λ row. record {
        life = fine_ef_life row.head;
        own = by_test FineIf (is_used_elsewhere session c.channel row.head.path) _ None refl tt;
        done = refl;
      }) (named_to_delete files (open_channel session c.channel) c.body)

  fine_state_refusal : (life : Life) → FineIf (state_refusal life)
  fine_state_refusal lives.Active = tt
  fine_state_refusal lives.Deactivated = tt
  fine_state_refusal lives.Terminated = refl

  fine_not_there : (body : List ℕ) → Fine (ef_not_there body)
  fine_not_there [] = refl
  fine_not_there (byte ∷ body) = refl

  fine_state : (life : Life) → FineRow (state_row life files allowed session c)
  fine_state life =
      fine_at_file (record (needs_of session c) {
        parameters = has_no_parameters c;
        lengths = may_name_ef c.body;
      }) (record { template = tt; file = tt; life = tt; description = tt; own = tt })
      session allowed (ef_not_there c.body) (fine_not_there c.body) (changing_state session life)
      (λ row. record { life = fine_state_refusal row.head.life; own = tt; done = refl })
      (ef_named files (open_channel session c.channel) c.body)

  fine_size : (head : FileHead) (size : ℕ) → FineIf (size_refusal files head size)
  fine_size head size =
      by_test FineIf (not (may_have_size head size)) _ _ refl
      (by_test FineIf (not (is_within_quota files head size)) _ None refl tt)

  abbrev resize_needs : Needs
  resize_needs = record (needs_of session c) {
    parameters = has_no_parameters c;
    lengths = not (length c.body == 0);
  }

  fine_resize : FineRow (resize_row files allowed session c)
  fine_resize =
      elim (size_asked c.body)
      as (λ asked. FineRow (resize_asked files allowed session c resize_needs asked)) [
        | None ↦ record {
          needs = record { template = refl; file = tt; life = tt; description = tt; own = tt };
          done = refl;
        }
        | Some asked ↦
            fine_at_file resize_needs
            (record { template = tt; file = tt; life = tt; description = tt; own = tt })
            session allowed sws.FILE_NOT_FOUND refl (resizing files session asked.size)
            (λ row. record {
              life = fine_life row.head.life;
              own = fine_size row.head asked.size;
              done = refl;
            }) (ef_in files (open_channel session c.channel).dir asked.id)
      ]

  fine_admin : FineRow (admin_row files allowed session c)
  fine_admin =
      by_test FineRow (c.ins == 0xE0) _ _ fine_create
      (by_test FineRow (c.ins == 0xE4) _ _ fine_delete
      (by_test FineRow (c.ins == 0xD4) _ _ fine_resize
      (by_test FineRow (c.ins == 0x44) _ _ (fine_state lives.Active)
      (by_test FineRow (c.ins == 0x04) _ _ (fine_state lives.Deactivated)
      (fine_state lives.Terminated)))))

-- the PIN commands
abbrev FinePin : PinOutcome → Type 0
FinePin its = Fine its.sw

module _ (pin : PinRow) (is : IsPin pin) (verified : Bool) where
  few : pin.left ≤ 15
  few = let most = is.tries.few in let left = is.tries.left in omega (arith, most, left)

  fine_presented : (value : List ℕ) (right : PinOutcome) → FinePin right
      → FinePin (presented pin value right)
  fine_presented value right fine =
      let less : pin.left ≤ 15 = few in
      by_test FinePin (bytes_eq value pin.value) right _ fine
      (fine_tries (pin.left - 1) (omega (arith, less)))

  fine_at_enabled : (value : List ℕ) (right : PinOutcome) → FinePin right
      → FinePin (at_enabled pin verified value right)
  fine_at_enabled value right fine =
      by_test FinePin (pin.left == 0) _ _ refl
      (by_test FinePin (not pin.enabled) _ _ refl (fine_presented value right fine))

  fine_asked : Fine (cond pin.enabled (tries_left pin.left) sws.DATA_BLOCKED)
  fine_asked = by_test Fine pin.enabled _ _ (fine_tries pin.left few) refl

  fine_unblocked : (puk : Puk) → puk.left ≤ 15 → (body : List ℕ)
      → FinePin (unblocked pin verified puk body)
  fine_unblocked puk less body =
      by_test FinePin (puk.left == 0) _ _ refl
      (by_test FinePin (bytes_eq (take 8 body) puk.value) _ _ refl
      (fine_tries (puk.left - 1) (omega (arith, less))))

  fine_unblock_with : (body : List ℕ) (puk : Option Puk)
      → IfSome puk (λ its. its.left ≤ 15) → FinePin (unblock_with pin verified body puk)
  fine_unblock_with body None less = refl
  fine_unblock_with body (Some puk) less =
      by_test FinePin (length body == 0) _ _ (fine_tries puk.left less)
      (fine_unblocked puk less body)

  fine_outcome : (command : PinCommand) → FinePin (outcome pin verified command)
  fine_outcome (Verify body) =
      by_test FinePin (length body == 0) _ _ fine_asked
      (by_test FinePin (not (length body == 8)) _ _ refl (fine_at_enabled body _ refl))
  fine_outcome (Change body) =
      by_test FinePin (not (length body == 16)) _ _ refl (fine_at_enabled (take 8 body) _ refl)
  fine_outcome (Disable body) =
      by_test FinePin (not (length body == 8)) _ _ refl (fine_at_enabled body _ refl)
  fine_outcome (Enable body) =
      by_test FinePin (not (length body == 8)) _ _ refl
      (by_test FinePin (pin.left == 0) _ _ refl
      (by_test FinePin pin.enabled _ _ refl (fine_presented body _ refl)))
  fine_outcome (Unblock body) =
      by_test FinePin (not (length body == 0) && not (length body == 16)) _ _ refl
      (fine_unblock_with body pin.puk (few_of_puk pin.puk is.puk))
    where
      few_of_puk : (puk : Option Puk)
          → IfSome puk (λ its. AreTries its.max its.left)
          → IfSome puk (λ its. its.left ≤ 15)
      few_of_puk None tries = tt
      few_of_puk (Some its) tries =
          let most = tries.few in let left = tries.left in omega (arith, most, left)

module _ (card : Card) (sound : IsSound card) (c : Apdu) where
  fine_done : (command : List ℕ → PinCommand) (pin : Option PinRow)
      → pin ≡ pin_for card.content.pins (open_channel card.session c.channel).dir c.p2
      → Fine (done_where card.session command c pin).answer.sw
  fine_done command None is = refl
  fine_done command (Some pin) is =
      fine_outcome pin
      (IsPin-found card.content.pins (open_channel card.session c.channel).dir c.p2 pin
      (are_pins card.content sound.content) is)
      (is_verified card.session.verified pin.number) (command c.body)

  fine_pin : (instruction : PinInstruction)
      → FineRow (pin_row instruction card.content.pins card.session c)
  fine_pin instruction = record {
    needs = record {
      template = tt;
      file = tt;
      life = tt;
      description = tt;
      own = fine_unless (is_some (pin_for card.content.pins
          (open_channel card.session c.channel).dir c.p2)) sws.DATA_NOT_FOUND refl;
    };
    done = fine_done (pin_command instruction)
        (pin_for card.content.pins (open_channel card.session c.channel).dir c.p2) refl;
  }

  fine_unknown : FineRow (unknown_row card.session c)
  fine_unknown = record {
    needs = record { template = tt; file = tt; life = tt; description = tt; own = tt };
    done = refl;
  }

  fine_instruction : FineRow (instruction_row card c)
  fine_instruction =
      let files = card.content.rows in
      let its_pins = card.content.pins in
      let session = card.session in
      let allowed = allowed_at card in
      by_test FineRow (c.ins == 0xA4) _ _
      (rows.fine_select files its_pins session (isdr_here card) c)
      (by_test FineRow (c.ins == 0xF2) _ _ (rows.fine_status_row files its_pins session c)
      (by_test FineRow (c.ins == 0xB0) _ _ (rows.fine_read_binary files allowed session c)
      (by_test FineRow (c.ins == 0xD6) _ _ (rows.fine_update_binary files allowed session c)
      (by_test FineRow (c.ins == 0xB2) _ _ (rows.fine_read_record files allowed session c)
      (by_test FineRow (c.ins == 0xDC) _ _ (rows.fine_update_record files allowed session c)
      (by_test FineRow (c.ins == 0xA2) _ _ (rows.fine_search_record files allowed session c)
      (by_test FineRow (c.ins == 0x32) _ _ (rows.fine_increase files allowed session c)
      (by_test FineRow (c.ins == 0x20) _ _ (fine_pin instructions.Verify)
      (by_test FineRow (c.ins == 0x24) _ _ (fine_pin instructions.Change)
      (by_test FineRow (c.ins == 0x26) _ _ (fine_pin instructions.Disable)
      (by_test FineRow (c.ins == 0x28) _ _ (fine_pin instructions.Enable)
      (by_test FineRow (c.ins == 0x2C) _ _ (fine_pin instructions.Unblock)
      (by_test FineRow (c.ins == 0x70) _ _ (rows.fine_manage_channel session c)
      (by_test FineRow (c.ins == 0xC0) _ _ (rows.fine_get_response session c)
      (by_test FineRow (is_administration c.ins) _ _ (fine_admin files allowed session c)
      (by_test FineRow (c.ins == 0x10) _ _ (rows.fine_taken session c)
      (by_test FineRow (c.ins == 0xAA) _ _ (rows.fine_taken session c)
      (by_test FineRow (c.ins == 0x12) _ _ (rows.fine_fetch session c)
      (by_test FineRow (c.ins == 0x14) _ _ (rows.fine_response session c)
      fine_unknown)))))))))))))))))))

  fine_announced : (refresh : Refresh) (answer : Answer) → Fine answer.sw
      → Fine (announcing_in refresh answer).sw
  fine_announced refreshes.Announced answer fine =
      by_test (λ (its : Answer). Fine its.sw) (answer.sw.0 == 0x9000) _ answer refl fine
  fine_announced refreshes.Fetched answer fine = fine
  fine_announced refreshes.Quiet answer fine = fine

  pub fine_decision : Fine (decision card c).answer.sw
  fine_decision =
      fine_announced (decided card.session (command_row card c)).session.refresh
      (decided card.session (command_row card c)).answer
      (fine_decided card.session (command_row card c)
      (by_test FineRow (is_known_at (open_channel card.session c.channel) c.ins) _ _
      fine_instruction fine_unknown))

-- bytes that spell no command
pub fine_refusal : (bytes : List ℕ) → Fine (refusal bytes)
fine_refusal [] = refl
fine_refusal (a ∷ []) = refl
fine_refusal (a ∷ b ∷ []) = refl
fine_refusal (a ∷ b ∷ d ∷ []) = refl
fine_refusal (class_byte ∷ b ∷ d ∷ e ∷ rest) =
    by_class (class_refusal class_byte)
    (by_test FineIf (is_taken class_byte) None _ tt
    (by_test FineIf (is_secured class_byte) _ _ refl
    (by_test FineIf (is_of_further_channel class_byte) _ _ refl refl)))
  where
    by_class : (refusal : Option Sw) → FineIf refusal
        → Fine (unwrap_or refusal sws.WRONG_LENGTH)
    by_class None fine = refl
    by_class (Some sw) fine = fine

module _ (card : Card) (sound : IsSound card) where
  abbrev FineAnswer : Outcome → Type 0
  FineAnswer its = IfSome its.answer (λ answer. Fine answer.sw)

  responds_fine : (bytes : List ℕ) (its : Outcome) → Responds card bytes its → FineAnswer its
  responds_fine bytes its (inl spelled) =
      subst FineAnswer (sym spelled.2) (fine_decision card sound spelled.0)
  responds_fine bytes its (inr none) = subst FineAnswer (sym none.1) (fine_refusal bytes)

  steps_at_fine : (from : Option ℕ) (event : Event) (its : Outcome) → StepsAt from card event its
      → FineAnswer its
  steps_at_fine (Some port) (Command bytes) its is = responds_fine bytes its is
  steps_at_fine (Some port) Reset its is = subst FineAnswer (sym is) tt
  steps_at_fine (Some port) Power its is = subst FineAnswer (sym is) tt
  steps_at_fine (Some port) (Bound to refresh kept) its is = subst FineAnswer (sym is) tt
  steps_at_fine (Some port) Unbound its is = subst FineAnswer (sym is) tt
  steps_at_fine None (Command bytes) its is = subst FineAnswer (sym is) tt
  steps_at_fine None Reset its is = subst FineAnswer (sym is) tt
  steps_at_fine None Power its is = subst FineAnswer (sym is) tt
  steps_at_fine None (Bound to refresh kept) its is = subst FineAnswer (sym is) tt
  steps_at_fine None Unbound its is = subst FineAnswer (sym is) tt

-- nothing that comes to a card is answered so
pub steps_fine : (card : Card) (event : Event) (its : Outcome) → IsSound card
    → Steps card event its → IfSome its.answer (λ answer. is_failing answer.sw ≡ false)
steps_fine card event its sound is = steps_at_fine card sound card.port event its is
