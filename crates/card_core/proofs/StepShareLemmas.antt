-- What a step of a whole card gives a profile.
use Rattle.std.proofs.Common.{ℕ, Bool, List, Option}
use Rattle.apdu_codec.specs.Command.{Apdu}
use Rattle.profile_card.specs.Step.{Event as CardEvent}
use Rattle.card_core.specs.Share.{IsBytesShare, IsEventShare, IsOwnShare, IsShare, IsShareAt, Share}
use Rattle.card_core.specs.Share.{command_share, given_by_entry, given_by_lines, seen_in}
use Rattle.card_core.specs.Stepped.{Stepped}
use Rattle.card_core.specs.Told.{told_of}
use Rattle.card_core.specs.World.{WorldState}
use Rattle.card_core.specs.declared.entry.Entry.{Entry}
use Rattle.card_core.specs.declared.event.Event.{Event}

abbrev pub entry_gives : ℕ → WorldState → Entry → List CardEvent
entry_gives profile before entry = given_by_entry profile (seen_in before) entry

abbrev pub lines_given : ℕ → Stepped → List CardEvent
lines_given profile step = given_by_lines profile (seen_in step.before) step.made.entries

abbrev pub share_of_command : Stepped → ℕ → List ℕ → Apdu → Share
share_of_command step port bytes c =
    command_share (seen_in step.before) step.made.entries port bytes c

abbrev pub SharesBytes : Stepped → ℕ → List ℕ → Share → Type 0
SharesBytes step port bytes share =
    IsBytesShare (seen_in step.before) step.made.entries port bytes share

abbrev pub SharesAt : ℕ → Option ℕ → Stepped → ℕ → List ℕ → Share → Type 0
SharesAt profile on step port bytes share =
    IsShareAt profile on (seen_in step.before) step.made.entries port bytes share

abbrev pub SharesEvent : ℕ → Stepped → Event → Share → Type 0
SharesEvent profile step event share =
    IsEventShare profile (seen_in step.before) step.made.entries event share

abbrev pub SharesOwn : ℕ → Stepped → Bool → Share → Type 0
SharesOwn profile step failed share =
    IsOwnShare profile (seen_in step.before) (told_of step) failed share

abbrev pub Shares : ℕ → Stepped → Share → Type 0
Shares profile step share =
    IsShare profile (seen_in step.before) (told_of step) step.failed share
