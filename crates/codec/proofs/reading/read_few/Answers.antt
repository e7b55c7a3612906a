-- `read_few` meets its contract. Assumes nothing.
use native.Mathlib.Omega.{arith}
use Rattle.codec.proofs.ReadLaws.{read_starts, read_more, read_ends}
use Rattle.codec.proofs.reading.read_few.Goals as goal

pub loop-byte-init : goal.loop-byte-init
loop-byte-init c = read_starts c.args.bytes.now

pub loop-byte-preserved : goal.loop-byte-preserved
loop-byte-preserved c = read_more 64 c.loop-byte.invariant c.loop-byte-test.true (omega arith) (omega arith) c.from.ensures

pub returns : goal.returns
returns c = read_ends c.loop-byte.invariant (omega arith)
