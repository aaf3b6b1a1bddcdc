use Rattle.std.proofs.Common.{rules, not}
use Rattle.std.proofs.lemmas.Fn.{filter_same}
use Rattle.file_rows.specs.Path.{stands_below}
use Rattle.profile_card.proofs.pins.leave_out.Goals as goal

pub returns : goal.returns
returns c =
    filter_same _ (λ pin. not (stands_below c.args.top.now pin.home)) _ (λ x b f' k. search rules) c.args.pins.now.items c.retain.new.self.items c.retain.ensures.filtered
