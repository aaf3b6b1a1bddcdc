-- What the guard of a card finds.
use Rattle.std.proofs.Common.{◌≡◌, ◌≢◌, ℕ, Bool, false, cond, List, [], ◌∷◌, map, sym, subst, ap}
use Rattle.std.proofs.Common.{◌∙◌, arith, ⊎_elim, Option, Some, None, Contains}
use Rattle.std.proofs.Math.Path.{fun_ext}
use Rattle.std.specs.List.{AllByRecursion}
use Rattle.std.specs.Prelude.{option_and_then, option_map, unwrap_or}
use Rattle.plain_lists.specs.EachTwo.{EachTwo}
use Rattle.access_rules.specs.May.{record_allows, record_named, rule_record}
use Rattle.access_rules.specs.Met.{allowed, key_directory, met, met_for}
use Rattle.file_rows.proofs.ChangeLemmas.{same_path-other, same_path-refl}
use Rattle.file_rows.proofs.ListLemmas.{contains_cases, contains_first, contains_later}
use Rattle.file_rows.specs.Content.{file_at, heads_of}
use Rattle.file_rows.specs.declared.head.FileHead.{FileHead}
use Rattle.file_rows.specs.declared.head.Rule.{Rule}
use Rattle.file_rows.specs.declared.mode.Mode.{Mode}
use Rattle.file_rows.specs.declared.pin.PinRow.{PinRow}
use Rattle.file_rows.specs.declared.row.FileRow.{FileRow}
use Rattle.uicc_tree.specs.Files.{Files, IsLive, file_of, path_of, rows_of}

-- what each head has, the head of a file among the files has
each_head : (P : FileHead → Type 0) (rows : List FileRow) (row : FileRow) → AllByRecursion P (heads_of rows) → Contains rows row → P row.head
each_head P [] row each there = absurd (omega (arith, there.1))
each_head P (first ∷ rows) row each there =
    ⊎_elim (λ same. subst (λ (r : FileRow). P r.head) same each.0) (λ later. each_head P rows row each.1 later) (contains_cases first rows row there)

-- where paths differ, the file at a file's path is that file
file_at-itself : (rows : List FileRow) (row : FileRow) → EachTwo (λ one other. one.path ≢ other.path) (heads_of rows) → Contains rows row → file_at row.head.path rows ≡ Some row
file_at-itself [] row differ there = absurd (omega (arith, there.1))
file_at-itself (first ∷ rows) row differ there =
    ⊎_elim
    (λ same. subst (λ (r : FileRow). file_at r.head.path (first ∷ rows) ≡ Some r) same
    (ap (λ (b : Bool). cond b (Some first) (file_at first.head.path rows)) (same_path-refl first.head.path)))
    (λ later. ap (λ (b : Bool). cond b (Some first) (file_at row.head.path rows))
    (same_path-other first.head.path row.head.path (each_head (λ head. first.head.path ≢ head.path) rows row differ.0 later))
    ∙ file_at-itself rows row differ.1 later)
    (contains_cases first rows row there)

contains_map : {X Y : Type 0} (f : X → Y) (xs : List X) (x : X) → Contains xs x → Contains (map f xs) (f x)
contains_map f [] x there = absurd (omega (arith, there.1))
contains_map {X} {Y} f (y ∷ xs) x there =
    ⊎_elim
    (λ same. subst (λ (z : X). Contains (map f (y ∷ xs)) (f z)) same (contains_first (f y) (map f xs)))
    (λ later. contains_later (f y) (map f xs) (f x) (contains_map f xs x later))
    (contains_cases y xs x there)

-- the file at a node's path is the node's
pub file_at-node : (tree : Files) (node : ℕ) → EachTwo (λ one other. one.path ≢ other.path) (heads_of (rows_of tree)) → IsLive tree node
    → file_at (path_of tree node) (rows_of tree) ≡ Some (file_of tree node)
file_at-node tree node differ live =
    file_at-itself (rows_of tree) (file_of tree node) differ (contains_map (file_of tree) tree.nodes node live)

module _ (tree : Files) (pins : List PinRow) (verified : ℕ → Bool) (node : ℕ) (mode : Mode)
    (differ : EachTwo (λ one other. one.path ≢ other.path) (heads_of (rows_of tree))) (live : IsLive tree node)
    (head : FileHead) (its : head ≡ (file_of tree node).head) where
  abbrev answer : Bool
  answer = allowed (record { rows = rows_of tree; pins = pins }) verified (path_of tree node) mode

  -- what the record that a head's rule names allows
  abbrev by_rule : FileHead → Option Rule → Bool
  by_rule h rule =
      unwrap_or (option_map (λ bytes. record_allows bytes mode (met pins verified (key_directory (record { head = h; body = [] }))))
      (option_and_then (record_named (rows_of tree) h.path) rule)) false

  answer-by_rule : answer ≡ by_rule head head.rule
  answer-by_rule =
      ap (λ (o : Option FileRow). unwrap_or (option_map (λ bytes. record_allows bytes mode (met_for pins verified o)) (option_and_then (rule_record (rows_of tree)) o)) false)
      (file_at-node tree node differ live)
      ∙ ap (λ (h : FileHead). by_rule h h.rule) (sym its)

  -- without a rule nothing is allowed
  pub without_rule : head.rule ≡ None → false ≡ answer
  without_rule none = sym (answer-by_rule ∙ ap (by_rule head) none)

  by_record : (rule : Rule) (bytes : Option (List ℕ)) → head.rule ≡ Some rule → record_named (rows_of tree) head.path rule ≡ bytes
      → answer ≡ unwrap_or (option_map (λ bytes. record_allows bytes mode (met pins verified (key_directory (record { head = head; body = [] })))) bytes) false
  by_record rule bytes is named =
      answer-by_rule ∙ ap (by_rule head) is
      ∙ ap (λ (o : Option (List ℕ)). unwrap_or (option_map (λ bytes. record_allows bytes mode (met pins verified (key_directory (record { head = head; body = [] })))) o) false) named

  -- nor where the rule names no record
  pub without_record : (rule : Rule) → head.rule ≡ Some rule → None ≡ record_named (rows_of tree) head.path rule → false ≡ answer
  without_record rule is none = sym (by_record rule None is (sym none))

  -- and else what the record allows where these keys are met
  pub with_record : (rule : Rule) (bytes : List ℕ) (has : ℕ → Bool) → head.rule ≡ Some rule → Some bytes ≡ record_named (rows_of tree) head.path rule
      → ((key : ℕ) → has key ≡ met pins verified (key_directory (record { head = head; body = [] })) key)
      → record_allows bytes mode has ≡ answer
  with_record rule bytes has is named keys =
      ap (record_allows bytes mode) (fun_ext keys) ∙ sym (by_record rule (Some bytes) is (sym named))
