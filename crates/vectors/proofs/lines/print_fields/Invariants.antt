-- Each turn leaves less of the line.
use Rattle.std.proofs.Common.{length}
use Rattle.vectors.proofs.lines.print_fields.Given as goal

abbrev pub decreases-loop-rest : goal.decreases-loop-rest
decreases-loop-rest g l = length l.rest
