use Rattle.std.proofs.Common.{◌∙◌, arith}
use Rattle.record_codec.proofs.HeldLemmas.{content_none, content_there, place_within}
use Rattle.record_codec.proofs.fits.content_of.Goals as goal

pub content_in-requires : goal.content_in-requires
content_in-requires g c = omega (arith, place_within c.args.number c.in-Some.place c.args.profiles.now c.in-Some.ensures.found, c.requires.pairs)

pub returns-in-Some-clause-found : goal.returns-in-Some-clause-found
returns-in-Some-clause-found g c =
    content_there c.args.number c.in-Some.place c.args.profiles.now c.args.contents.now c.requires.pairs c.requires.numbers c.in-Some.ensures.found
    ∙ c.content_in.ensures

pub returns-in-None-clause-none : goal.returns-in-None-clause-none
returns-in-None-clause-none g c = content_none c.args.number c.args.profiles.now c.args.contents.now c.in-None.ensures.none
