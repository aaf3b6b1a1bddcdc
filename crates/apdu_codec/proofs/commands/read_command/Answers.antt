use Rattle.std.proofs.Common.{rules, arith}
use Rattle.std.proofs.lemmas.Grind.{common_steps}
use Rattle.apdu_codec.specs.Command.{Spells, Apdu}
use Rattle.apdu_codec.proofs.CommandLemmas.{SpellsTail-of_spelled}
use Rattle.apdu_codec.proofs.commands.read_command.Goals as goal

pub returns-in_err-tail-clause-none : goal.returns-in_err-tail-clause-none
returns-in_err-tail-clause-none c =
    let none : (d : Apdu) → ¬ Spells c.args.bytes.now d =
    λ d spelled. c.in_err-tail.ensures.none d.body d.le (SpellsTail-of_spelled c.args.bytes.now d spelled) in
    search (rules, none)

pub returns-clause-command : goal.returns-clause-command
returns-clause-command c = (c.args.bytes.now, grind (arith, common_steps, c.in_ok-tail.ensures.spelled, c.in_ok-class.ensures.taken))
