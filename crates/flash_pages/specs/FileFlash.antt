-- What is known of a flash in a file: its counts alone.
use Rattle.std.specs.Prelude.{ℕ, false, None}
use Rattle.std.proofs.lemmas.Bool.{false≢true}
use Rattle.flash_pages.specs.Flash.{FlashState, IsFlash}

-- a flash of which neither bytes nor images are known
abbrev pub unreported_flash : ℕ → ℕ → ℕ → FlashState
unreported_flash programmed erased faults = record {
  bytes = None;
  may_leave = λ content. ⊥;
  moment = 0;
  images = λ t image. ⊥;
  images_known = false;
  programmed = programmed;
  erased = erased;
  faults = faults;
}

pub unreported-is-flash : (blocks programmed erased faults : ℕ)
    → IsFlash blocks (unreported_flash programmed erased faults)
unreported-is-flash blocks programmed erased faults = record {
  may_stay = _;
  sizes = λ is content left. absurd (false≢true is);
  bytes_known = λ is. absurd (false≢true is);
  moments = λ is. absurd (false≢true is);
}
