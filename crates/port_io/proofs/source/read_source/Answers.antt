use Rattle.std.proofs.Common.{take, ◌++◌}
use Rattle.std.proofs.KnownBytes.{Consumes-trans}
use Rattle.port_io.proofs.source.read_source.Goals as goal

-- the last block was taken too
pub returns-in-Err-extend_from_slice-clause-stopped : goal.returns-in-Err-extend_from_slice-clause-stopped
returns-in-Err-extend_from_slice-clause-stopped g c =
    (c.reading.bytes.items ++ take c.in-Ok.n c.take.new.buf, Consumes-trans _ _ _ _ _ c.reading.invariant.taken c.in-Ok.ensures.gives.bytes)
