-- `read_bytes` meets its contract. The loop's invariant is `Read`: the run so far is that of the bytes that are read. Assumes nothing.
use Rattle.codec.proofs.ReadLaws.{Read}
use Rattle.codec.proofs.reading.read_bytes.Given as goal

abbrev pub invariant-loop-byte : goal.invariant-loop-byte
invariant-loop-byte l = Read l.bytes l.run l.byte-index
