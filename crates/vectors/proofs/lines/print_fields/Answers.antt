-- A field ends inside what is left of the line.
use Rattle.std.proofs.Common.{arith}
use Rattle.records.proofs.LineProofs.CheckLaws.{field_inside}
use Rattle.vectors.proofs.lines.print_fields.Goals as goal

pub split_at-requires : goal.split_at-requires
split_at-requires g c = omega (arith, field_inside c.loop-rest.rest.now 0 (omega arith), c.scan-length.ensures)
