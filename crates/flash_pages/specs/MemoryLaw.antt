-- A flash in memory is a flash. These lemmas stand here because the clause that names the last one
-- can name no other place of this crate.
use Rattle.std.proofs.Common.{◌≡◌, ◌⊎◌, inl, inr, ⊎_elim, ℕ, suc, ◌*◌, ◌≤◌, Bool, true, false}
use Rattle.std.proofs.Common.{IsTrue, if◌then◌else◌, List, [], ◌∷◌, length, Option, Some, None}
use Rattle.std.proofs.Common.{refl, sym, ◌∙◌, ap}
use Rattle.std.proofs.Math.Nat.{le_refl, le_trans, le-suc, not-suc-le_self}
use Rattle.flash_pages.specs.Flash.{block_len, card_blocks, IsFlash}
use Rattle.flash_pages.specs.Past.{Call, Write, Restarted, content, last_ok, Since, Past}
use Rattle.flash_pages.specs.Past.{memory_state}

last_ok_bound : (ok : Bool) (n m : ℕ) → m ≤ n → (if ok then suc n else m) ≤ suc n
last_ok_bound true n m le = le_refl (suc n)
last_ok_bound false n m le = le_trans le (le-suc n)

-- the last Ok is no later than now
pub last_ok-le : (calls : List Call) → last_ok calls ≤ length calls
last_ok-le [] = le_refl 0
last_ok-le (Write at n left ok ∷ calls) =
    last_ok_bound ok (length calls) (last_ok calls) (last_ok-le calls)
last_ok-le (Restarted ∷ calls) = le_refl (suc (length calls))

module _ (first : List ℕ) where
  -- what reads return is an image of this moment
  pub Since-now : (calls : List Call) (t : ℕ) (image : List ℕ) → image ≡ content first calls
      → Since first calls t image
  Since-now [] t image is = is
  Since-now (Write at n left ok ∷ calls) t image is = inl is
  Since-now (Restarted ∷ calls) t image is = inl is

  -- and the only one
  pub Since-only : (calls : List Call) (image : List ℕ) → Since first calls (length calls) image
      → image ≡ content first calls
  Since-only [] image is = is
  Since-only (Write at n left ok ∷ calls) image (inl is) = is
  Since-only (Write at n left ok ∷ calls) image (inr earlier) =
      absurd (not-suc-le_self (length calls) earlier.0)
  Since-only (Restarted ∷ calls) image (inl is) = is
  Since-only (Restarted ∷ calls) image (inr earlier) =
      absurd (not-suc-le_self (length calls) earlier.0)

  pub Since-earlier : (calls : List Call) (t u : ℕ) (image : List ℕ) → t ≤ u
      → Since first calls u image
      → Since first calls t image
  Since-earlier [] t u image le is = is
  Since-earlier (Write at n left ok ∷ calls) t u image le (inl is) = inl is
  Since-earlier (Write at n left ok ∷ calls) t u image le (inr earlier) =
      inr (
        le_trans le earlier.0,
        ⊎_elim (λ since. inl (Since-earlier calls t u image le since))
            (λ inside. inr inside) earlier.1,
      )
  Since-earlier (Restarted ∷ calls) t u image le (inl is) = inl is
  Since-earlier (Restarted ∷ calls) t u image le (inr earlier) =
      inr (
        le_trans le earlier.0,
        ⊎_elim (λ since. inl (Since-earlier calls t u image le since))
            (λ inside. inr inside) earlier.1,
      )

-- what an option holds, or else these bytes
abbrev or_else : Option (List ℕ) → List ℕ → List ℕ
or_else None bytes = bytes
or_else (Some held) bytes = held

pub IsFlash-memory : (past : Past) (bytes : List ℕ) (programmed erased faults : ℕ)
    → length bytes ≡ block_len * card_blocks
    → (IsTrue past.known → content past.first past.calls ≡ bytes)
    → (IsTrue past.known → (t : ℕ) (image : List ℕ) → Since past.first past.calls t image
    → length image ≡ block_len * card_blocks)
    → IsFlash card_blocks (memory_state past bytes programmed erased faults)
IsFlash-memory past bytes programmed erased faults sized replays images_sized = record {
  may_stay = inl refl;
  sizes = λ some image. size_of image;
  bytes_known = λ says. refl;
  moments = λ says. record {
    now = λ t image le is.
        Since-now past.first past.calls t image
        (sym (same_bytes bytes image is) ∙ sym (replays says));
    only_now = λ image left. some_same image bytes
        (Since-only past.first past.calls image left ∙ replays says);
    earlier = λ t u image le left. Since-earlier past.first past.calls t u image le left;
  };
}
  where
    size_of : (image : List ℕ)
        → (image ≡ bytes) ⊎
        (IsTrue past.known × Since past.first past.calls (last_ok past.calls) image)
        → length image ≡ block_len * card_blocks
    size_of image (inl is) = ap length is ∙ sized
    size_of image (inr since) = images_sized since.0 (last_ok past.calls) image since.1

    same_bytes : (a b : List ℕ) → Some a ≡ Some b → a ≡ b
    same_bytes a b is = ap (λ (o : Option (List ℕ)). or_else o a) is

    some_same : (a b : List ℕ) → a ≡ b → Some b ≡ Some a
    some_same a b e = ap Some (sym e)
