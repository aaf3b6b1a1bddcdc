use Rattle.std.proofs.Common.{◌∙◌}
use Rattle.isdr_codec.proofs.TextLemmas.{by_reading}
use Rattle.isdr_codec.proofs.values.is_text.Goals as goal

pub returns : goal.returns
returns c = c.is_ok.ensures.value ∙ by_reading _ _ c.args.bytes.now c.from_utf8.result
    c.from_utf8.ensures.cases
