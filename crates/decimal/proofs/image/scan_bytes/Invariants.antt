-- `image::scan_bytes` meets its contract. The loop's invariant is `Reading`: what was read and what is left make the whole.
-- The measure is the length of what is left. Assumes nothing.
use Rattle.std.proofs.Common.{length}
use Rattle.decimal.specs.Image.{state_of}
use Rattle.decimal.proofs.StepLaws.{Reading}
use Rattle.decimal.proofs.image.scan_bytes.Given as goal

abbrev pub invariant-loop-rest : goal.invariant-loop-rest
invariant-loop-rest l = Reading l.bytes (state_of l.state) l.integer l.fraction l.rest

abbrev pub decreases-loop-rest : goal.decreases-loop-rest
decreases-loop-rest l = length l.rest
