use Rattle.record_codec.proofs.PooledLemmas.{PutUpTo}
use Rattle.record_codec.proofs.pooled.put_cut_files.Given as goal

abbrev pub invariant-loop-head : goal.invariant-loop-head
invariant-loop-head l =
    PutUpTo l.heads l.bytes l.head-index l.start l.initial.place l.initial.out l.place l.out
