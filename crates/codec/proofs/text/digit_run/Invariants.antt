-- `digit_run` meets its contract. The loop's invariant is `Running`: the digits read and those left make the whole. Assumes nothing.
use Rattle.codec.proofs.TextLaws.{Running}
use Rattle.codec.proofs.text.digit_run.Given as goal

abbrev pub invariant-loop-count : goal.invariant-loop-count
invariant-loop-count l = Running l.text l.most l.start l.value l.count
