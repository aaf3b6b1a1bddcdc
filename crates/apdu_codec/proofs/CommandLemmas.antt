use Rattle.std.proofs.Common.{◌≡◌, ℕ, ◌-◌, ◌<◌, ◌≤◌, List, ◌∷◌, take, drop, length, Option, Some}
use Rattle.std.proofs.Common.{arith}
use Rattle.std.proofs.Math.Seq.{take-length}
use Rattle.apdu_codec.specs.Command.{IsCommand, Spells, SpellsTail, Apdu}
use Rattle.apdu_codec.specs.declared.commands.Command.{Command}

-- what follows the first four bytes of a command is its tail
pub SpellsTail-of_spelled : (bytes : List ℕ) (c : Apdu) → Spells bytes c
    → SpellsTail (take (length bytes - 4) (drop 4 bytes)) c.body c.le
SpellsTail-of_spelled bytes c spelled =
    let rest : length (spelled.0 ∷ c.ins ∷ c.p1 ∷ c.p2 ∷ spelled.1) - 4 ≡ length spelled.1 = omega arith in
    rw (spelled.2, rest, take-length) spelled.4

-- a tail's body is at most 255 bytes long
pub length-body-of_tail : (tail body : List ℕ) (le : Option ℕ) → SpellsTail tail body le → length body < 256
length-body-of_tail tail body le spelled = grind arith

-- a command's body is at most 255 bytes long
pub length-body-of_command : (c : Command) → IsCommand c → length c.body.now < 256
length-body-of_command c is_command =
    length-body-of_tail is_command.1.1 c.body.now c.le is_command.1.4

-- a tail's Le asks for 1 to 256 bytes
pub le-of_tail : (tail body : List ℕ) (n : ℕ) → SpellsTail tail body (Some n) → (0 < n) × (n ≤ 256)
le-of_tail tail body n spelled = grind arith

-- a command's Le asks for 1 to 256 bytes
pub le-of_command : (c : Command) (n : ℕ) → IsCommand c → c.le ≡ Some n → (0 < n) × (n ≤ 256)
le-of_command c n is_command e = le-of_tail is_command.1.1 c.body.now n (rw e at is_command.1.4)
