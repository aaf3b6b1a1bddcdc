-- The keys in the list of PINs of a directory.
use Rattle.std.proofs.Common.{◌≡◌, ◌⊎◌, ◌↔◌, ℕ, zero, suc, ◌+◌, ◌<◌, ◌≤◌, Bool, true, false, cond}
use Rattle.std.proofs.Common.{◌&&◌, ◌==◌, ltb, List, [], ◌∷◌, ◌++◌, map, filter, find, is_some}
use Rattle.std.proofs.Common.{Contains, refl, sym, ◌∙◌, ap, subst, Option, Some, None, inl, inr}
use Rattle.std.proofs.Common.{⊎_elim, lit≤, arith}
use Rattle.std.proofs.lemmas.Bool.{false≢true, true≢false}
use Rattle.std.proofs.lemmas.Bool.Decides.{Decides-eqb, Decides-ltb}
use Rattle.std.specs.Bool.{IsTrue}
use Rattle.std.specs.List.{Any, AllByRecursion, cons_option, filter_map}
use Rattle.std.specs.Option.{option_map}
use Rattle.plain_lists.specs.EachTwo.{EachTwo}
use Rattle.file_rows.specs.PinRow.{IsGlobalKey, IsLocalKey}
use Rattle.file_rows.specs.declared.pin.PinRow.{PinRow}
use Rattle.file_rows.proofs.ListLemmas.{any_cases, any_first, any_later, any_none, contains-filter}
use Rattle.file_rows.proofs.ListLemmas.{contains_cases, contains_later, contains_same}
use Rattle.file_rows.proofs.ListLemmas.{filter-contains, two_filter}
use Rattle.file_rows.proofs.PathLemmas.{both_hold}
use Rattle.fcp_codec.specs.PinStatus.{counts_in, keys_of, status_of}
use Rattle.fcp_codec.specs.declared.pin_status.PinStatus.{PinStatus}
use Rattle.fcp_codec.specs.declared.pin_status.TheConstants.{KEYS}

abbrev IsKey : ℕ → Type 0
IsKey key = IsGlobalKey key ⊎ IsLocalKey key

-- numbers in a row
up_from : ℕ → ℕ → List ℕ
up_from low zero = []
up_from low (suc count) = low ∷ up_from (low + 1) count

in_row : (low count key : ℕ) → low ≤ key → key < low + count → Contains (up_from low count) key
unfolding up_from
in_row low zero key least most = absurd (omega (arith, least, most))
in_row low (suc count) key least most = ⊎_elim
    (λ same. contains_same low (up_from (low + 1) count) key same)
    (λ more. contains_later low (up_from (low + 1) count) key (in_row (low + 1) count key more (omega (arith, most))))
    (first_or_later low key least)
  where
    first_or_later : (low key : ℕ) → low ≤ key → (low ≡ key) ⊎ (low + 1 ≤ key)
    first_or_later low key least = grind arith

contains_left : (xs ys : List ℕ) (x : ℕ) → Contains xs x → Contains (xs ++ ys) x
contains_left [] ys x there = absurd (omega (arith, there.1))
contains_left (y ∷ xs) ys x there = ⊎_elim
    (λ same. contains_same y (xs ++ ys) x same)
    (λ later. contains_later y (xs ++ ys) x (contains_left xs ys x later))
    (contains_cases y xs x there)

contains_right : (xs ys : List ℕ) (x : ℕ) → Contains ys x → Contains (xs ++ ys) x
contains_right [] ys x there = there
contains_right (y ∷ xs) ys x there = contains_later y (xs ++ ys) x (contains_right xs ys x there)

rows : KEYS ≡ up_from 1 8 ++ (up_from 10 5 ++ (up_from 17 1 ++ up_from 129 8))
unfolding up_from
rows = refl

-- each key is one of the list
key_listed : (key : ℕ) → IsKey key → Contains KEYS key
key_listed key is =
    let local : List ℕ = up_from 129 8 in
    let last : List ℕ = up_from 17 1 ++ local in
    let middle : List ℕ = up_from 10 5 ++ last in
    subst (λ (keys : List ℕ). Contains keys key) (sym rows)
    (⊎_elim
    (λ global. ⊎_elim
    (λ first. contains_left (up_from 1 8) middle key (in_row 1 8 key first.0 (omega (arith, first.1))))
    (λ other. ⊎_elim
    (λ second. contains_right (up_from 1 8) middle key (contains_left (up_from 10 5) last key (in_row 10 5 key second.0 (omega (arith, second.1)))))
    (λ third. contains_right (up_from 1 8) middle key (contains_right (up_from 10 5) last key (contains_left (up_from 17 1) local key (in_row 17 1 key (omega (arith, third)) (omega (arith, third))))))
    other)
    global)
    (λ is_local. contains_right (up_from 1 8) middle key (contains_right (up_from 10 5) last key (contains_right (up_from 17 1) local key (in_row 129 8 key is_local.0 (omega (arith, is_local.1))))))
    is)

first : (key : ℕ) → 1 ≤ key → key ≤ 8 → IsKey key
first key least most = inl (inl (least, most))

second : (key : ℕ) → 10 ≤ key → key ≤ 14 → IsKey key
second key least most = inl (inr (inl (least, most)))

-- each of the list is a key
each_is_key : AllByRecursion IsKey KEYS
each_is_key = (
  first 1 (lit≤ tt) (lit≤ tt),
  (
    first 2 (lit≤ tt) (lit≤ tt),
    (
      first 3 (lit≤ tt) (lit≤ tt),
      (
        first 4 (lit≤ tt) (lit≤ tt),
        (
          first 5 (lit≤ tt) (lit≤ tt),
          (
            first 6 (lit≤ tt) (lit≤ tt),
            (
              first 7 (lit≤ tt) (lit≤ tt),
              (
                first 8 (lit≤ tt) (lit≤ tt),
                (
                  second 10 (lit≤ tt) (lit≤ tt),
                  (
                    second 11 (lit≤ tt) (lit≤ tt),
                    (
                      second 12 (lit≤ tt) (lit≤ tt),
                      (
                        second 13 (lit≤ tt) (lit≤ tt),
                        (
                          second 14 (lit≤ tt) (lit≤ tt),
                          (
                            inl (inr (inr refl)),
                            (
                              inr (lit≤ tt, lit≤ tt),
                              (
                                inr (lit≤ tt, lit≤ tt),
                                (
                                  inr (lit≤ tt, lit≤ tt),
                                  (
                                    inr (lit≤ tt, lit≤ tt),
                                    (
                                      inr (lit≤ tt, lit≤ tt),
                                      (
                                        inr (lit≤ tt, lit≤ tt),
                                        (
                                          inr (lit≤ tt, lit≤ tt),
                                          (
                                            inr (lit≤ tt, lit≤ tt),
                                            tt,
                                          ),
                                        ),
                                      ),
                                    ),
                                  ),
                                ),
                              ),
                            ),
                          ),
                        ),
                      ),
                    ),
                  ),
                ),
              ),
            ),
          ),
        ),
      ),
    ),
  ),
)

each_at : (P : ℕ → Type 0) (xs : List ℕ) (x : ℕ) → AllByRecursion P xs → Contains xs x → P x
each_at P [] x each there = absurd (omega (arith, there.1))
each_at P (y ∷ xs) x each there = ⊎_elim (λ same. subst P same each.0) (λ later. each_at P xs x each.1 later) (contains_cases y xs x there)

-- a list of numbers that ascends from above the first one
abbrev ascends : ℕ → List ℕ → Bool
ascends low [] = true
ascends low (x ∷ xs) = ltb low x && ascends x xs

above : (low : ℕ) (xs : List ℕ) → ascends low xs ≡ true → AllByRecursion (λ x. low < x) xs
above low [] e = tt
above low (x ∷ xs) e =
    let both = both_hold (ltb low x) (ascends x xs) e in
    let less : low < x = (Decides-ltb low x).0 both.0 in
    (less, weaker low x less xs (above x xs both.1))
  where
    weaker : (low x : ℕ) → low < x → (xs : List ℕ) → AllByRecursion (λ y. x < y) xs → AllByRecursion (λ y. low < y) xs
    weaker low x less [] each = tt
    weaker low x less (y ∷ ys) each = (omega (arith, less, each.0), weaker low x less ys each.1)

each_two : (low : ℕ) (xs : List ℕ) → ascends low xs ≡ true → EachTwo (λ one other. one < other) xs
each_two low [] e = tt
each_two low (x ∷ xs) e =
    let both = both_hold (ltb low x) (ascends x xs) e in
    (above x xs both.1, each_two x xs both.1)

module _ (path : List ℕ) (pins : List PinRow) where
  abbrev has_status : ℕ → Bool
  has_status key = is_some (status_of path pins key)

  abbrev key_test : ℕ → PinRow → Bool
  key_test key pin = (pin.key == key) && counts_in path pin

  abbrev made_status : ℕ → PinRow → PinStatus
  made_status key pin = record { key = key; enabled = pin.enabled }

  -- the keys are those of the list under which there is a PIN
  keys_are : (keys : List ℕ) → map (λ (status : PinStatus). status.key) (filter_map (status_of path pins) keys) ≡ filter has_status keys
  keys_are [] = refl
  keys_are (key ∷ keys) =
      let rest = keys_are keys in
      let step : (o : Option PinRow)
      → map (λ (status : PinStatus). status.key) (cons_option (option_map (λ (pin : PinRow). record { key = key; enabled = pin.enabled }) o) (filter_map (status_of path pins) keys))
      ≡ cond (is_some (option_map (λ (pin : PinRow). made_status key pin) o)) (key ∷ filter has_status keys) (filter has_status keys)
      = λ o. elim o as (λ o. map (λ (status : PinStatus). status.key) (cons_option (option_map (λ (pin : PinRow). record { key = key; enabled = pin.enabled }) o) (filter_map (status_of path pins) keys))
      ≡ cond (is_some (option_map (λ (pin : PinRow). made_status key pin) o)) (key ∷ filter has_status keys) (filter has_status keys)) [
        | None ↦ rest
        | Some pin ↦ ap (λ (ks : List ℕ). key ∷ ks) rest
      ]
      in step (find (key_test key) pins)

  pub keys_ascend : EachTwo (λ one other. one < other) (keys_of path pins)
  keys_ascend =
      subst (λ (keys : List ℕ). EachTwo (λ one other. one < other) keys) (sym (keys_are KEYS))
      (two_filter (λ one other. one < other) has_status KEYS (each_two 0 KEYS refl))

  status_there : (key : ℕ) (ps : List PinRow) → is_some (option_map (made_status key) (find (key_test key) ps)) ≡ true
      → Any (λ pin. (pin.key ≡ key) × IsTrue (counts_in path pin)) ps
  status_there key [] e = absurd (false≢true e)
  status_there key (pin ∷ ps) e =
      let Counts : PinRow → Type 0 = λ pin. (pin.key ≡ key) × IsTrue (counts_in path pin) in
      let step : (b : Bool) → key_test key pin ≡ b → is_some (option_map (made_status key) (cond b (Some pin) (find (key_test key) ps))) ≡ true → Any Counts (pin ∷ ps)
      = λ b. elim b as (λ b. key_test key pin ≡ b → is_some (option_map (made_status key) (cond b (Some pin) (find (key_test key) ps))) ≡ true → Any Counts (pin ∷ ps)) [
        | true ↦ λ t f. let both = both_hold (pin.key == key) (counts_in path pin) t in any_first Counts pin ps ((Decides-eqb pin.key key).0 both.0, both.1)
        | false ↦ λ t f. any_later Counts pin ps (status_there key ps f)
      ]
      in step (key_test key pin) refl e

  pin_there : (key : ℕ) (ps : List PinRow) → Any (λ pin. (pin.key ≡ key) × IsTrue (counts_in path pin)) ps
      → is_some (option_map (made_status key) (find (key_test key) ps)) ≡ true
  pin_there key [] any = absurd (any_none (λ pin. (pin.key ≡ key) × IsTrue (counts_in path pin)) any)
  pin_there key (pin ∷ ps) any =
      let step : (b : Bool) → key_test key pin ≡ b → is_some (option_map (made_status key) (cond b (Some pin) (find (key_test key) ps))) ≡ true
      = λ b. elim b as (λ b. key_test key pin ≡ b → is_some (option_map (made_status key) (cond b (Some pin) (find (key_test key) ps))) ≡ true) [
        | true ↦ λ t. refl
        | false ↦ λ t. ⊎_elim
            (λ counts.
            let passes : key_test key pin ≡ true = rw ((Decides-eqb pin.key key).1 counts.0, counts.1) refl in
            absurd (true≢false (sym passes ∙ t)))
            (λ later. pin_there key ps later)
            (any_cases (λ pin. (pin.key ≡ key) × IsTrue (counts_in path pin)) pin ps any)
      ]
      in step (key_test key pin) refl

  pub keys_listed : (key : ℕ) → Contains (keys_of path pins) key ↔ ((IsGlobalKey key ⊎ IsLocalKey key) × Any (λ pin. (pin.key ≡ key) × IsTrue (counts_in path pin)) pins)
  keys_listed key = (
    λ there.
        let kept = contains-filter has_status KEYS key (subst (λ (keys : List ℕ). Contains keys key) (keys_are KEYS) there) in
        (each_at IsKey KEYS key each_is_key kept.0, status_there key pins kept.1),
    λ is.
        subst (λ (keys : List ℕ). Contains keys key) (sym (keys_are KEYS))
        (filter-contains has_status KEYS key (key_listed key is.0) (pin_there key pins is.1)),
  )
