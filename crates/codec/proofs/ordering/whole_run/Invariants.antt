-- `whole_run` meets its contract. The loop's invariant: the run so far is that of the bytes that are read. Assumes nothing.
use Rattle.std.proofs.Common.{◌≡◌, ◌%◌, ◌^◌, take}
use Rattle.codec.specs.Ordering.{run_of}
use Rattle.codec.proofs.ordering.whole_run.Given as goal

abbrev pub invariant-loop-byte : goal.invariant-loop-byte
invariant-loop-byte l = l.run ≡ run_of (take l.byte-index l.bytes) % 2 ^ 64
