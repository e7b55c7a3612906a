-- `is_at_most` meets its contract: what the order of two numbers tells, if they have one. Assumes nothing.
use Rattle.std.proofs.Common.{rules}
use Rattle.rolls.proofs.FallLaws.{compared_told}
use Rattle.rolls.proofs.falling.is_at_most.Goals as goal

pub returns : goal.returns
returns c = compared_told _ _ c.compare.result c.compare.ensures (search rules)
