-- A bank, erased block by block.
use Rattle.std.proofs.Common.{◌≡◌, ℕ, ◌+◌, ◌-◌, ◌*◌, ◌<◌, ◌≤◌, [], length, Some, IfSome, Result}
use Rattle.std.proofs.Common.{IsTrue, is_ok, refl, sym, ◌∙◌, ap, subst, arith}
use Rattle.flash_pages.specs.Bank.{start_of}
use Rattle.flash_pages.specs.Bytes.{IsErased, blank, patch}
use Rattle.flash_pages.specs.Flash.{Changes, FlashState, IsFlash, Touches, card_blocks}
use Rattle.flash_pages.specs.declared.bank.Bank.{Bank}
use Rattle.flash_pages.proofs.BlankBehind.{erased-more}
use Rattle.flash_pages.proofs.Patches.{length-blank}
use Rattle.flash_pages.proofs.Touched.{Touches-from_changes, Touches-wider, at_some, flash_size}
use Rattle.flash_pages.proofs.Touched.{from_each, known_before, same_some}
use Rattle.port_io.specs.declared.source.Failed.{Failed}

nothing : [] ≡ blank 0
unfolding blank
nothing = refl

-- nothing is erased before the first block
pub none_erased : (bank : Bank) (s : FlashState) → IfSome s.bytes (IsErased (start_of bank) (4096 * (bank.first - bank.first)))
none_erased bank s =
    let none : 4096 * (bank.first - bank.first) ≡ 0 = omega arith in
    from_each s.bytes _ (λ bytes is. subst (λ (n : ℕ). IsErased (start_of bank) n bytes) (sym none) nothing)

module _ (bank : Bank) (block : ℕ) (a b : FlashState) (result : Result Unit Failed) (lawful : IsFlash card_blocks a) (from_first : bank.first ≤ block)
    (within : block < bank.first + bank.blocks) (inside : bank.first + bank.blocks ≤ card_blocks)
    (changes : Changes (4096 * block) (blank 4096) a b result) where
  -- one block more touches the bank alone
  pub block_touches : Touches (start_of bank) (4096 * bank.blocks) a b
  block_touches =
      Touches-wider (4096 * block) (length (blank 4096)) (start_of bank) (4096 * bank.blocks) a b (omega arith) (omega (arith, length-blank 4096))
      (Touches-from_changes (4096 * block) (blank 4096) a b result changes)

  pub block_erased : IsTrue (is_ok result) → IfSome a.bytes (IsErased (start_of bank) (4096 * (block - bank.first)))
      → IfSome b.bytes (IsErased (start_of bank) (4096 * ((block + 1) - bank.first)))
  block_erased ok erased = from_each b.bytes _ (λ now is_now.
      let was = known_before a b changes.time now is_now in
      let size = flash_size card_blocks a lawful was.0 was.1 in
      let n : ℕ = 4096 * (block - bank.first) in
      let here : 4096 * block ≡ start_of bank + n = omega arith in
      let next : n + 4096 ≡ 4096 * ((block + 1) - bank.first) = omega arith in
      let patched : now ≡ patch was.0 (4096 * block) (blank 4096) =
      same_some now (patch was.0 (4096 * block) (blank 4096))
      (sym is_now ∙ at_some a.bytes (λ l. b.bytes ≡ Some (patch l (4096 * block) (blank 4096))) was.0 was.1 (changes.done ok)) in
      let more = erased-more (start_of bank) n 4096 was.0 (omega (arith, size)) (at_some a.bytes (IsErased (start_of bank) n) was.0 was.1 erased) in
      let moved : IsErased (start_of bank) (n + 4096) now =
      subst (IsErased (start_of bank) (n + 4096)) (ap (λ (k : ℕ). patch was.0 k (blank 4096)) (sym here) ∙ sym patched) more in
      subst (λ (m : ℕ). IsErased (start_of bank) m now) next moved)
