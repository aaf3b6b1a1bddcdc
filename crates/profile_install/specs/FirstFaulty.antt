-- The first faulty element of a package.
use Rattle.std.specs.Prelude.{◌≡◌, ◌⊎◌, ℕ, true, List, ◌++◌}
use Rattle.package_reader.specs.ReaderState.{ReaderState}
use Rattle.package_reader.specs.Turn.{Turn}
use Rattle.profile_install.specs.Package.{AreParts, after_turns, fresh_work, is_element_due}
use Rattle.profile_install.specs.declared.state.State.{State}
use Rattle.profile_install.specs.declared.work.Progress.TheVariants.{Going}

-- the results of a package that is refused
abbrev pub IsPackageResult : ℕ → Type 0
IsPackageResult result =
    (result ≡ 4) ⊎ ((result ≡ 5) ⊎ ((result ≡ 6) ⊎ ((result ≡ 9) ⊎ (result ≡ 31))))

-- the package begins with so many elements, none of which has a fault
pub record HasGoodElements (iccid bytes : List ℕ) (count : ℕ) : Type 0 where
  -- their parts, those behind them, and where the reader stands behind all
  pub front : List Turn
  pub back : List Turn
  pub last : ReaderState
  pub parts : AreParts bytes (front ++ back) last
  -- what the front has come to
  pub state : State
  pub good : after_turns iccid fresh_work front ≡ record { place = count; progress = Going state }
  pub between : is_element_due (Going state) ≡ true
