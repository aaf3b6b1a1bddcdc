use Rattle.apdu_codec.specs.Command.{Apdu}
use Rattle.lsi_refresh.specs.TerminalCommand.{taken_row}
use Rattle.uicc_channels.specs.CommandRow.{CommandRow}
use Rattle.uicc_channels.specs.declared.session.Session.{Session}

-- ETSI TS 102 221, TERMINAL PROFILE: what the terminal can do isn't looked at
abbrev pub terminal_profile_row : Session → Apdu → CommandRow
terminal_profile_row session c = taken_row session c
