use Rattle.std.proofs.Common.{◌≡◌, ℕ, Bool, true, false, cond, suc, ◌+◌, ◌<◌, List, [], ◌∷◌, ◌++◌}
use Rattle.std.proofs.Common.{length, get_or, drop, drop-cons, add-one, find, refl, sym, ap, subst}
use Rattle.std.proofs.Common.{Option, Some, None, IfSome}
use Rattle.std.specs.Prelude.{◌==◌}
use Rattle.std.specs.Option.{option_and_then, option_or}
use Rattle.file_rows.specs.Content.{file_at}
use Rattle.file_rows.specs.Find.{child, file_of_path, only}
use Rattle.file_rows.specs.Path.{own_id, parent_of, same_path}
use Rattle.file_rows.specs.declared.path.TheConstants.{CURRENT_APPLICATION_ID, MASTER_FILE_ID}
use Rattle.file_rows.specs.declared.row.FileRow.{FileRow}
use Rattle.uicc_channels.proofs.AmongLemmas.{AreApart, IsAmong, among_found}
use Rattle.uicc_channels.specs.declared.chan.Chan.{Chan}
use Rattle.uicc_select.specs.Find.{directory_in, found, found_by_id, found_from_master, found_near}
use Rattle.uicc_select.specs.Find.{found_through, itself}
use Rattle.uicc_select.specs.declared.naming.Target.{Target}
use Rattle.uicc_select.specs.declared.naming.Target.TheVariants.{Id, Directory, Parent, Named}
use Rattle.uicc_select.specs.declared.naming.Target.TheVariants.{FromMaster, FromCurrent}

-- the next identifier of a path names a file in the one before
pub found_through-next : (rows : List FileRow) (ids : List ℕ) (i : ℕ) (row next : FileRow) → i < length ids → child rows row.head.path (get_or ids i 0) ≡ Some next
    → found_through rows (drop (i + 1) ids) next ≡ found_through rows (drop i ids) row
found_through-next rows ids i row next within e =
    rw (add-one, drop-cons ids i 0) (sym (ap (λ (file : Option FileRow). option_and_then (found_through rows (drop (suc i) ids)) file) e))

module _ {X : Type 0} (P : X → Type 0) where
  -- what is said of what there may be
  IfSome-each : (o : Option X) → ((x : X) → o ≡ Some x → P x) → IfSome o P
  IfSome-each None each = tt
  IfSome-each (Some x) each = each x refl

  pub IfSome-at : (o : Option X) (x : X) → IfSome o P → o ≡ Some x → P x
  IfSome-at o x said e = subst (λ (p : Option X). IfSome p P) e said

  IfSome-cond : (b : Bool) (x y : Option X) → IfSome x P → IfSome y P → IfSome (cond b x y) P
  IfSome-cond true x y first second = first
  IfSome-cond false x y first second = second

  IfSome-or : (x y : Option X) → IfSome x P → IfSome y P → IfSome (option_or x y) P
  IfSome-or None y first second = second
  IfSome-or (Some x) y first second = first

  IfSome-any : {Y : Type 0} (f : Y → Option X) (o : Option Y) → ((y : Y) → IfSome (f y) P) → IfSome (option_and_then f o) P
  IfSome-any f None each = tt
  IfSome-any f (Some y) each = each y

  IfSome-then : {Y : Type 0} (Q : Y → Type 0) (f : Y → Option X) (o : Option Y) → IfSome o Q → ((y : Y) → Q y → IfSome (f y) P) → IfSome (option_and_then f o) P
  IfSome-then Q f None said each = tt
  IfSome-then Q f (Some y) said each = each y said

module _ (rows : List FileRow) (apart : AreApart rows) where
  by_test : (test : FileRow → Bool) → IfSome (find test rows) (IsAmong rows)
  by_test test = IfSome-each (IsAmong rows) (find test rows) (λ row e. among_found test rows row apart e)

  by_path : (path : List ℕ) → IfSome (file_at path rows) (IsAmong rows)
  by_path path = by_test (λ row. same_path row.head.path path)

  by_passing : (passes : FileRow → Bool) (o : Option FileRow) → IfSome o (IsAmong rows) → IfSome (only passes o) (IsAmong rows)
  by_passing passes None among = tt
  by_passing passes (Some row) among = IfSome-cond (IsAmong rows) (passes row) (Some row) None among tt

  by_child : (directory : List ℕ) (id : ℕ) → IfSome (child rows directory id) (IsAmong rows)
  by_child directory id = by_passing _ _ (by_path (directory ++ id ∷ []))

  by_directory : (directory : List ℕ) (id : ℕ) → IfSome (directory_in rows directory id) (IsAmong rows)
  by_directory directory id = by_passing _ _ (by_child directory id)

  by_itself : (id : ℕ) (path : List ℕ) → IfSome (itself rows id path) (IsAmong rows)
  by_itself id path = IfSome-cond (IsAmong rows) (own_id path == id) (file_at path rows) None (by_path path) tt

  by_some_path : (path : Option (List ℕ)) → IfSome (file_of_path rows path) (IsAmong rows)
  by_some_path path = IfSome-any (IsAmong rows) _ path by_path

  by_near : (directory : List ℕ) (id : ℕ) → IfSome (found_near rows directory id) (IsAmong rows)
  by_near directory id =
      IfSome-or (IsAmong rows) _ _ (by_child directory id)
      (IfSome-or (IsAmong rows) _ _ (by_itself id directory)
      (IfSome-or (IsAmong rows) _ _ (IfSome-any (IsAmong rows) (itself rows id) (parent_of directory) (by_itself id))
      (IfSome-or (IsAmong rows) _ _ (IfSome-any (IsAmong rows) (λ parent. directory_in rows parent id) (parent_of directory) (λ parent. by_directory parent id)) tt)))

  by_id : (chan : Chan) (id : ℕ) → IfSome (found_by_id rows chan id) (IsAmong rows)
  by_id chan id =
      IfSome-cond (IsAmong rows) (id == MASTER_FILE_ID) _ _ (by_path [])
      (IfSome-cond (IsAmong rows) (id == CURRENT_APPLICATION_ID) (file_of_path rows chan.app) (found_near rows chan.dir id) (by_some_path chan.app) (by_near chan.dir id))

  by_steps : (ids : List ℕ) (row : FileRow) → IsAmong rows row → IfSome (found_through rows ids row) (IsAmong rows)
  by_steps [] row among = among
  by_steps (id ∷ ids) row among =
      IfSome-then (IsAmong rows) (IsAmong rows) (found_through rows ids) (child rows row.head.path id) (by_child row.head.path id) (by_steps ids)

  by_steps_from : (ids : List ℕ) (start : Option FileRow) → IfSome start (IsAmong rows) → IfSome (option_and_then (found_through rows ids) start) (IsAmong rows)
  by_steps_from ids start among = IfSome-then (IsAmong rows) (IsAmong rows) (found_through rows ids) start among (by_steps ids)

  by_master : (chan : Chan) (ids : List ℕ) → IfSome (found_from_master rows chan ids) (IsAmong rows)
  by_master chan [] = tt
  by_master chan (id ∷ ids) =
      IfSome-cond (IsAmong rows) (id == CURRENT_APPLICATION_ID) _ _ (by_steps_from ids (file_of_path rows chan.app) (by_some_path chan.app))
      (by_steps_from (id ∷ ids) (file_at [] rows) (by_path []))

  -- what a channel finds is a file of the card
  pub found_among : (chan : Chan) (target : Target) → IfSome (found rows chan target) (IsAmong rows)
  found_among chan (Id id) = by_id chan id
  found_among chan (Directory id) = by_directory chan.dir id
  found_among chan Parent = by_some_path (parent_of chan.dir)
  found_among chan (Named name) = by_test _
  found_among chan (FromMaster ids) = by_master chan ids
  found_among chan (FromCurrent ids) = by_steps_from ids (file_at chan.dir rows) (by_path chan.dir)
