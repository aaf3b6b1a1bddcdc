-- Which status words say that a command was accepted (ETSI TS 102 221, status conditions).
use Rattle.std.specs.Prelude.{Bool, ◌≡◌, ◌==◌, ◌||◌, ◌/◌, false}
use Rattle.apdu_codec.specs.declared.status.Sw.{Sw}
use Rattle.uicc_channels.specs.CommandOutcome.{CommandOutcome, refused}
use Rattle.uicc_channels.specs.declared.session.Session.{Session}

-- 9000, 910B, 61XX, 6283 and 6285; with every other status word a command is refused
abbrev pub is_accepted : Sw → Bool
is_accepted sw =
    (sw.0 == 0x9000) || (sw.0 == 0x910B) || (sw.0 / 256 == 0x61)
    || (sw.0 == 0x6283) || (sw.0 == 0x6285)

-- where a command isn't accepted its status word is the whole answer, and nothing changes
abbrev pub IsDoneOrRefused : Session → CommandOutcome → Type 0
IsDoneOrRefused session outcome = is_accepted outcome.answer.sw ≡ false
    → outcome ≡ refused session outcome.answer.sw
