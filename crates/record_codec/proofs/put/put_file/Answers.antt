use Rattle.record_codec.proofs.WindowLemmas.{then}
use Rattle.record_codec.proofs.put.put_file.Goals as goal

pub returns-clause-puts : goal.returns-clause-puts
returns-clause-puts c =
    then c.put_form.ensures.puts (rw c.as_slice.ensures at c.put_body.ensures.puts)
