use Rattle.std.proofs.Common.{◌∙◌, sym}
use Rattle.card_core.proofs.InstalledLemmas.{install_fits}
use Rattle.card_core.proofs.installing.decide_install.Goals as goal

pub returns-in_ok-entry-in-None-clause-fits : goal.returns-in_ok-entry-in-None-clause-fits
returns-in_ok-entry-in-None-clause-fits c =
    install_fits c.args.heads.now c.args.head c.args.content c.in_ok-entry-in-None.entry
    c.in_ok-entry-in-None.ensures (sym c.install_check.ensures ∙ c.in-None.is) c.requires.head
    c.requires.content
