-- Where a package gives a content, it has come to its end.
use Rattle.std.proofs.Common.{◌≡◌, ℕ, ◌+◌, Bool, true, false, cond, ◌==◌, ◌&&◌, refl, Ok}
use Rattle.file_rows.specs.declared.content.Content.{Content}
use Rattle.profile_install.specs.Package.{content_at_end, content_of_draft, package_outcome}
use Rattle.profile_install.specs.Package.{refused_at}
use Rattle.profile_install.specs.State.{depth_of}
use Rattle.profile_install.specs.declared.fault.ElementFault.{ElementFault}
use Rattle.profile_install.specs.declared.fault.ElementFault.TheVariants.{Malformed}
use Rattle.profile_install.specs.declared.state.Spot.{Spot}
use Rattle.profile_install.specs.declared.state.Spot.TheVariants.{Start, Elements, Ended, Header}
use Rattle.profile_install.specs.declared.state.Spot.TheVariants.{Template, File, Descriptor, Lists}
use Rattle.profile_install.specs.declared.state.Spot.TheVariants.{Steps, NewFile, Puks, PukEntry}
use Rattle.profile_install.specs.declared.state.Spot.TheVariants.{Pins, PinEntry}
use Rattle.profile_install.specs.declared.state.State.{State}
use Rattle.profile_install.specs.declared.work.Progress.{Progress}
use Rattle.profile_install.specs.declared.work.Progress.TheVariants.{Going, Broken, Refused}

no_content : (place : ℕ) (fault : ElementFault) (content : Content)
    → refused_at place fault ≡ Ok content → ⊥
no_content place fault content e = cc

at_end : (place : ℕ) (state : State) (spot : Spot) (used : Bool) (content : Content)
    → content_at_end place state spot used ≡ Ok content
    → content_of_draft state.draft ≡ content
at_end place state Ended true content e = cc
at_end place state Ended false content e = absurd (no_content (place + 1) Malformed content e)
at_end place state Start used content e = absurd (no_content (place + 1) Malformed content e)
at_end place state Elements used content e = absurd (no_content (place + 1) Malformed content e)
at_end place state (Header fields) used content e = absurd
    (no_content (place + 1) Malformed content e)
at_end place state (Template list) used content e = absurd
    (no_content (place + 1) Malformed content e)
at_end place state (File list parts) used content e = absurd
    (no_content (place + 1) Malformed content e)
at_end place state (Descriptor list) used content e = absurd
    (no_content (place + 1) Malformed content e)
at_end place state (Lists kind seen) used content e = absurd
    (no_content (place + 1) Malformed content e)
at_end place state Steps used content e = absurd (no_content (place + 1) Malformed content e)
at_end place state NewFile used content e = absurd (no_content (place + 1) Malformed content e)
at_end place state Puks used content e = absurd (no_content (place + 1) Malformed content e)
at_end place state (PukEntry fields) used content e = absurd
    (no_content (place + 1) Malformed content e)
at_end place state Pins used content e = absurd (no_content (place + 1) Malformed content e)
at_end place state (PinEntry fields) used content e = absurd
    (no_content (place + 1) Malformed content e)

-- the content is that of the draft to which the package has come
pub content_is : (place : ℕ) (progress : Progress) (used : Bool) (content : Content)
    → package_outcome place progress used ≡ Ok content
    → (state : State) × (progress ≡ Going state) × (content_of_draft state.draft ≡ content)
content_is place (Going state) used content e =
    (state, refl, by ((depth_of state.spot == 0) && (state.passed == 0)) e)
  where
    by : (b : Bool) → cond b (content_at_end place state state.spot used)
        (refused_at place Malformed) ≡ Ok content → content_of_draft state.draft ≡ content
    by true e = at_end place state state.spot used content e
    by false e = absurd (no_content place Malformed content e)
content_is place (Broken faulty) used content e = absurd (no_content place Malformed content e)
content_is place (Refused fault) used content e = absurd (no_content place fault content e)
