-- `fill` meets its contract: the field is filled byte by byte. Assumes nothing.
use native.Mathlib.Omega.{arith}
use Rattle.records.proofs.LineProofs.FieldLaws.{filling_hash, filling_turns, filling_ends}
use Rattle.records.proofs.lines.fields.FieldNumber.fill.Goals as goal

pub fill_byte-requires : goal.fill_byte-requires
fill_byte-requires c = filling_hash c.loop-byte.invariant (omega arith)

pub loop-byte-preserved : goal.loop-byte-preserved
loop-byte-preserved c = filling_turns c.loop-byte.invariant (omega arith) c.fill_byte.ensures.counted c.fill_byte.ensures.printed

pub returns : goal.returns
returns c = filling_ends c.loop-byte.invariant (omega arith)
