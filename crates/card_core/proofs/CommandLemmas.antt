-- Commands name one of four channels and ask for at most 256 bytes.
use Rattle.std.proofs.Common.{◌<◌, ◌≤◌, ℕ, List, Option, Some, None, unwrap_or, arith}
use Rattle.apdu_codec.proofs.CommandLemmas.{le-of_tail}
use Rattle.apdu_codec.specs.Class.{HasClass}
use Rattle.apdu_codec.specs.Command.{IsCommand, SpellsTail}
use Rattle.apdu_codec.specs.declared.commands.Class.{Class}
use Rattle.apdu_codec.specs.declared.commands.Class.TheVariants.{Standard, Special}
use Rattle.apdu_codec.specs.declared.commands.Command.{Command}

channel_of_class : (byte : ℕ) (class : Class) (channel : ℕ) → HasClass byte class channel
    → channel < 4
channel_of_class byte Standard channel has = has.1
channel_of_class byte Special channel has = has.1

pub channel_of_command : (c : Command) → IsCommand c → c.channel < 4
channel_of_command c is_command =
    channel_of_class is_command.1.0 c.class c.channel is_command.1.3

le_of_tail : (tail body : List ℕ) (le : Option ℕ) → SpellsTail tail body le
    → unwrap_or le 0 ≤ 256
le_of_tail tail body None spells = omega arith
le_of_tail tail body (Some le) spells = (le-of_tail tail body le spells).1

pub le_of_command : (c : Command) → IsCommand c → unwrap_or c.le 0 ≤ 256
le_of_command c is_command = le_of_tail is_command.1.1 c.body.now c.le is_command.1.4
