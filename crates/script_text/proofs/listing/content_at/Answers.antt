use Rattle.script_text.proofs.ListingLemmas.{content_found, content_small}
use Rattle.script_text.proofs.listing.content_at.Goals as goal

pub returns-clause-value : goal.returns-clause-value
returns-clause-value c =
    content_found c.args.number c.args.profiles.now c.args.contents.now c.content_of.result c.content_of.ensures.found c.content_of.ensures.none

pub returns-clause-small : goal.returns-clause-small
returns-clause-small c =
    content_small c.args.number c.args.profiles.now c.args.contents.now c.content_of.result c.requires.valid c.content_of.ensures.found
