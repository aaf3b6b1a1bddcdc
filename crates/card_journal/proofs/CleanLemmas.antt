-- A card ends clean in one way at most.
use Rattle.std.proofs.Common.{◌≡◌, ◌↔◌, ℕ, ◌-◌, ◌*◌, ◌<◌, Bool, IsTrue, List, length, IfSome, sym}
use Rattle.std.proofs.Common.{◌∙◌, ap, subst, arith}
use Rattle.flash_pages.specs.Append.{EndsBlank}
use Rattle.flash_pages.specs.Bank.{IsPlaceIn, bank_bytes, end_of, start_of}
use Rattle.flash_pages.specs.Bytes.{IsErased}
use Rattle.flash_pages.specs.Flash.{FlashState, IsFlash, Reads, card_blocks}
use Rattle.flash_pages.specs.Rows.{HasRows, open_rows}
use Rattle.flash_pages.specs.Switch.{live_of}
use Rattle.flash_pages.specs.declared.bank.Bank.{Bank}
use Rattle.flash_pages.proofs.BlankBehind.{bank-erased}
use Rattle.flash_pages.proofs.Touched.{at_some, flash_size, from_each}
use Rattle.flash_pages.proofs.Unique.{unique}
use Rattle.record_codec.specs.declared.durable.Durable.{Durable}
use Rattle.card_journal.specs.Image.{bank_of, live_bytes, switch_row}
use Rattle.card_journal.specs.Read.{BankHolds, OnlyReads}
use Rattle.card_journal.specs.Stored.{EndsClean, EndsTorn}
use Rattle.card_journal.proofs.AppendLemmas.{holds_card}
use Rattle.card_journal.proofs.StoreLemmas.{short_live}

-- where some card ends clean, all is erased behind the rows that were read
clean_only : (held : Durable) (live end : ℕ) (image : List ℕ) → live < 2 → IsPlaceIn (bank_of live) end → length image ≡ 4096 * card_blocks
    → live ≡ live_of (switch_row image) → BankHolds (bank_of live) image held end → (other : Durable) (live' end' : ℕ) → EndsClean other live' end' image
    → IsErased end (end_of (bank_of live) - end) image
clean_only held live end image below place size live_is holds other live' end' ends =
    let bodies : ends.bodies ≡ holds.bodies = unique (live_bytes image) ends.bodies holds.bodies (short_live image)
    (holds_card other live' end' image ends).rows (subst (λ (k : ℕ). HasRows (bank_bytes (bank_of k) image) holds.bodies) live_is holds.rows) in
    let same : live' ≡ live = ends.live_is ∙ sym live_is in
    let there : EndsBlank (bank_bytes (bank_of live) image) ends.bodies (end' - start_of (bank_of live'))
    = subst (λ (k : ℕ). EndsBlank (bank_bytes (bank_of k) image) ends.bodies (end' - start_of (bank_of live'))) same ends.rows in
    let place_is : end' - start_of (bank_of live') ≡ end - start_of (bank_of live)
    = there.end ∙ ap (λ (bs : List (List ℕ)). length (open_rows bs)) bodies ∙ sym holds.end in
    let here : EndsBlank (bank_bytes (bank_of live) image) ends.bodies (end - start_of (bank_of live))
    = subst (EndsBlank (bank_bytes (bank_of live) image) ends.bodies) place_is there in
    bank-erased (bank_of live) end image ends.bodies place.from_start (omega (arith, size, below)) here (end_of (bank_of live) - end)
    (omega (arith, place.to_end))

-- the live bank was read, and a byte behind its rows isn't FF
pub found_torn : (start read mid : FlashState) (bank : Bank) (live : ℕ) → Reads start read → bank ≡ bank_of live
    → IfSome start.bytes (λ bytes. live ≡ live_of (switch_row bytes)) → IsFlash card_blocks start → OnlyReads read mid → (held : Durable) (end : ℕ)
    (is_clean : Bool) → live < 2 → IsPlaceIn bank end → IfSome read.bytes (λ image. BankHolds bank image held end)
    → IfSome mid.bytes (λ image. IsTrue is_clean ↔ IsErased end (end_of bank - end) image) → (IsTrue is_clean → ⊥) → IfSome start.bytes EndsTorn
found_torn start read mid bank live reads bank_is live_is lawful more held end is_clean below place found both torn =
    from_each start.bytes _ (λ image is other live' end' ends.
    let its : IsTrue is_clean ↔ IsErased end (end_of bank - end) image =
    at_some mid.bytes (λ i. IsTrue is_clean ↔ IsErased end (end_of bank - end) i) image (more.bytes ∙ reads.bytes ∙ is) both in
    let here = subst (λ (b : Bank). IsTrue is_clean ↔ IsErased end (end_of b - end) image) bank_is its in
    torn (here.1 (clean_only held live end image below (subst (λ (b : Bank). IsPlaceIn b end) bank_is place)
    (flash_size card_blocks start lawful image is) (at_some start.bytes (λ bytes. live ≡ live_of (switch_row bytes)) image is live_is)
    (subst (λ (b : Bank). BankHolds b image held end) bank_is
    (at_some read.bytes (λ i. BankHolds bank i held end) image (reads.bytes ∙ is) found))
    other live' end' ends)))
