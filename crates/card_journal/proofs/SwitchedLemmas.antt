-- What a switch and the calls around it leave of an image.
use Rattle.std.proofs.Common.{◌≡◌, inl, inr, ℕ, ◌+◌, ◌-◌, ◌<◌, ◌≤◌, List, [], ◌∷◌, ◌++◌, length}
use Rattle.std.proofs.Common.{Option, Some, None, IsSome, IfSome, Result, refl, sym, ◌∙◌, ap, subst}
use Rattle.std.proofs.Common.{arith}
use Rattle.std.specs.Prelude.{⊤}
use Rattle.flash_pages.specs.Append.{AppendsRow, EndsBlank}
use Rattle.flash_pages.specs.Bank.{bank_bytes, end_of, start_of}
use Rattle.flash_pages.specs.Bytes.{DiffersIn, patch}
use Rattle.flash_pages.specs.Flash.{FlashState, GoesOn, IsFlash, Restarts, card_blocks}
use Rattle.flash_pages.specs.Rows.{row_of}
use Rattle.flash_pages.specs.Switch.{IsNextByte}
use Rattle.flash_pages.proofs.BlankBehind.{bank-append}
use Rattle.flash_pages.proofs.Patches.{part_outside}
use Rattle.flash_pages.proofs.SwitchByte.{one_next_byte}
use Rattle.flash_pages.proofs.Touched.{at_some, flash_size, from_each, known, known_after}
use Rattle.flash_pages.proofs.Touched.{same_some}
use Rattle.record_codec.specs.declared.durable.Durable.{Durable}
use Rattle.card_journal.specs.CardStoreState.{CameBack}
use Rattle.card_journal.specs.Image.{bank_of, switch_row}
use Rattle.card_journal.specs.StoreState.{HasNextByte, IsUsedUp, OpensTorn}
use Rattle.card_journal.specs.Stored.{EndsClean, EndsTorn}
use Rattle.card_journal.specs.Switched.{FromTo, IsSwitched, KeepsSwitchRow}

-- what holds of two images that are told
from_to : (a b : FlashState) (R : List ℕ → List ℕ → Type 0) → FromTo a b R → (before after : List ℕ) → a.bytes ≡ Some before → b.bytes ≡ Some after
    → R before after
from_to a b R holds before after is is_after =
    at_some b.bytes (R before) after is_after (at_some a.bytes (λ x. IfSome b.bytes (R x)) before is holds)

from_to_each : (a b : FlashState) (R : List ℕ → List ℕ → Type 0)
    → ((before after : List ℕ) → a.bytes ≡ Some before → b.bytes ≡ Some after → R before after) → FromTo a b R
from_to_each a b R each = from_each a.bytes _ (λ before is. from_each b.bytes _ (λ after is_after. each before after is is_after))

some_at : (o : Option (List ℕ)) (P : List ℕ → Type 0) (x : List ℕ) → o ≡ Some x → P x → IfSome o P
some_at o P x is holds = let Q : Option (List ℕ) → Type 0 = λ r. IfSome r P in subst Q (sym is) holds

-- the switch row of another image with the same row
row_of_other : (needed : Type 0) (before after other : List ℕ) → switch_row other ≡ switch_row after → KeepsSwitchRow needed before after
    → KeepsSwitchRow needed before other
row_of_other needed before after other same (inl stays) = inl (same ∙ stays)
row_of_other needed before after other same (inr uses) = inr (
  uses.0,
  record {
    next = uses.1.next;
    is_next = uses.1.is_next;
    differs = subst (λ (row : List ℕ). DiffersIn uses.1.next 1 (switch_row before) row) (sym same) uses.1.differs;
  },
)

needed_other : (needed other : Type 0) (before after : List ℕ) → (needed → other) → KeepsSwitchRow needed before after
    → KeepsSwitchRow other before after
needed_other needed other before after then (inl stays) = inl stays
needed_other needed other before after then (inr uses) = inr (then uses.0, uses.1)

-- a switch that was needed
pub row_needed : (a b : FlashState) (needed : Type 0) → needed → FromTo a b (KeepsSwitchRow ⊤) → FromTo a b (KeepsSwitchRow needed)
row_needed a b needed holds row = from_to_each a b (KeepsSwitchRow needed) (λ before after is is_after.
    needed_other ⊤ needed before after (λ _. holds) (from_to a b (KeepsSwitchRow ⊤) row before after is is_after))

-- over an append behind the switch row
module _ {T E : Type 0} (a m c : FlashState) (at : ℕ) (body : List ℕ) (result : Result T E) (behind : 4096 ≤ at) (time : GoesOn a m)
    (appends : AppendsRow at body m c result) where
  row_stays : (mid after : List ℕ) → m.bytes ≡ Some mid → c.bytes ≡ Some after → switch_row after ≡ switch_row mid
  row_stays mid after is_mid is_after =
      let differs : DiffersIn at (5 + length body) mid after =
      from_to m c (DiffersIn at (5 + length body)) appends.touches.bytes mid after is_mid is_after in
      part_outside at (5 + length body) mid after differs 0 4096 (inl behind)

  pub row_behind : (needed : Type 0) → FromTo a m (KeepsSwitchRow needed) → FromTo a c (KeepsSwitchRow needed)
  row_behind needed row = from_to_each a c (KeepsSwitchRow needed) (λ before after is is_after.
      let mid = known_after a m time before is in
      row_of_other needed before mid.0 after (row_stays mid.0 after mid.1 is_after)
      (from_to a m (KeepsSwitchRow needed) row before mid.0 is mid.1))

  pub switched_behind : (bodies : List (List ℕ)) (live : ℕ) → IsFlash card_blocks m → live < 2 → start_of (bank_of live) ≤ at
      → at + 5 + length body ≤ end_of (bank_of live) → IfSome m.bytes (λ before. c.bytes ≡ Some (patch before at (row_of body)))
      → FromTo a m (IsSwitched bodies live at) → FromTo a c (IsSwitched (bodies ++ body ∷ []) live (at + 5 + length body))
  switched_behind bodies live lawful below from_start fits done switched =
      from_to_each a c (IsSwitched (bodies ++ body ∷ []) live (at + 5 + length body)) (λ before after is is_after.
      let mid = known_after a m time before is in
      let was : IsSwitched bodies live at before mid.0 = from_to a m (IsSwitched bodies live at) switched before mid.0 is mid.1 in
      let size = flash_size card_blocks m lawful mid.0 mid.1 in
      let patched = at_some m.bytes (λ l. c.bytes ≡ Some (patch l at (row_of body))) mid.0 mid.1 done in
      let after_is : patch mid.0 at (row_of body) ≡ after = same_some (patch mid.0 at (row_of body)) after (sym patched ∙ is_after) in
      record {
        next = was.next;
        is_next = was.is_next;
        row = row_stays mid.0 after mid.1 is_after ∙ was.row;
        other = was.other;
        rows = subst (λ (l : List ℕ). EndsBlank (bank_bytes (bank_of live) l) (bodies ++ body ∷ []) ((at + 5 + length body) - start_of (bank_of live))) after_is
            (bank-append (bank_of live) at mid.0 bodies from_start (omega (arith, size, below)) was.rows body fits);
      })

-- a switch row that is used up stays so
pub used_up_stays : (a b : FlashState) (needed : Type 0) (row : ℕ) → GoesOn a b → FromTo a b (KeepsSwitchRow needed) → IfSome a.bytes (IsUsedUp row)
    → IfSome b.bytes (IsUsedUp row)
used_up_stays a b needed row time keeps used_up = from_each b.bytes _ (λ after is_after.
    let before = known a.bytes (time.bytes_known.1 (subst (λ (o : Option (List ℕ)). IsSome o) (sym is_after) refl)) in
    let none : IsNextByte (switch_row before.0) None = at_some a.bytes (IsUsedUp row) before.0 before.1 used_up in
    by_row before.0 after none (from_to a b (KeepsSwitchRow needed) keeps before.0 after before.1 is_after))
  where
    by_row : (before after : List ℕ) → IsNextByte (switch_row before) None → KeepsSwitchRow needed before after → IsNextByte (switch_row after) None
    by_row before after none (inl same) = subst (λ (r : List ℕ). IsNextByte r None) (sym same) none
    by_row before after none (inr uses) =
        let same : Some uses.1.next ≡ None = one_next_byte (switch_row before) (Some uses.1.next) None uses.1.is_next none in
        absurd (cc)

-- an opening: after reads, a switch where the bank that was read doesn't end clean
pub row_torn : (a m b : FlashState) → m.bytes ≡ a.bytes → IfSome a.bytes EndsTorn → FromTo m b (KeepsSwitchRow ⊤)
    → FromTo a b (λ before after. KeepsSwitchRow (EndsTorn before) before after)
row_torn a m b same torn row = from_to_each a b (λ before after. KeepsSwitchRow (EndsTorn before) before after) (λ before after is is_after.
    needed_other ⊤ (EndsTorn before) before after (λ _. at_some a.bytes EndsTorn before is torn)
    (from_to m b (KeepsSwitchRow ⊤) row before after (same ∙ is) is_after))

pub row_read : (a b : FlashState) → b.bytes ≡ a.bytes → FromTo a b (λ before after. KeepsSwitchRow (EndsTorn before) before after)
row_read a b same = from_to_each a b (λ before after. KeepsSwitchRow (EndsTorn before) before after) (λ before after is is_after.
    inl (ap switch_row (same_some after before (sym is_after ∙ same ∙ is))))

pub torn_switched : (a m b : FlashState) (bodies : List (List ℕ)) (live end : ℕ) → m.bytes ≡ a.bytes → FromTo m b (IsSwitched bodies live end)
    → FromTo a b (λ before after. EndsTorn before → IsSwitched bodies live end before after)
torn_switched a m b bodies live end same switched =
    from_to_each a b (λ before after. EndsTorn before → IsSwitched bodies live end before after) (λ before after is is_after torn.
    from_to m b (IsSwitched bodies live end) switched before after (same ∙ is) is_after)

pub clean_switched : (a b : FlashState) (bodies : List (List ℕ)) (held : Durable) (live end : ℕ) → IfSome a.bytes (EndsClean held live end)
    → FromTo a b (λ before after. EndsTorn before → IsSwitched bodies live end before after)
clean_switched a b bodies held live end clean =
    from_to_each a b (λ before after. EndsTorn before → IsSwitched bodies live end before after) (λ before after is is_after torn.
    absurd (torn held live end (at_some a.bytes (EndsClean held live end) before is clean)))

-- power came back with what the flash's own restart left
pub came_back : {E : Type 0} (a m : FlashState) (result : Result Unit E) → Restarts a m result → (IfSome m.bytes EndsTorn → HasNextByte m)
    → CameBack OpensTorn IsUsedUp a
came_back a m result restarts next some =
    let left = known m.bytes (restarts.time.bytes_known.0 some) in (
      left.0,
      at_some m.bytes a.may_leave left.0 left.1 restarts.bytes,
      λ used. at_some m.bytes (λ image. IsNextByte (switch_row image) None → ⊥) left.0 left.1 (next (some_at m.bytes EndsTorn left.0 left.1 used.1)) used.2,
    )
