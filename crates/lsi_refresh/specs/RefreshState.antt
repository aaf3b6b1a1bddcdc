use Rattle.std.specs.Prelude.{◌≡◌, Bool, true, false, None}
use Rattle.uicc_channels.specs.CommandOutcome.{CommandOutcome}
use Rattle.uicc_channels.specs.declared.session.Refresh.{Refresh}
use Rattle.uicc_channels.specs.declared.session.Refresh.TheVariants.{Announced, Fetched, Quiet}
use Rattle.uicc_channels.specs.declared.session.Session.{Session}

abbrev pub is_announced : Refresh → Bool
is_announced Announced = true
is_announced Fetched = false
is_announced Quiet = false

abbrev pub is_fetched : Refresh → Bool
is_fetched Announced = false
is_fetched Fetched = true
is_fetched Quiet = false

-- the session with its REFRESH in another state
abbrev pub with_refresh : Refresh → Session → Session
with_refresh refresh session = record session { refresh = refresh }

-- of the session at most the state of its REFRESH changes, and no content
abbrev pub ChangesRefreshAlone : Session → CommandOutcome → Type 0
ChangesRefreshAlone session outcome =
    (outcome.session ≡ with_refresh outcome.session.refresh session) × (outcome.change ≡ None)
