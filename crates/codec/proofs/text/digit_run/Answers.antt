-- `digit_run` meets its contract. The loop's invariant is `Running`: the digits read and those left make the whole. Assumes nothing.
use Rattle.std.proofs.Common.{sym, ◌∙◌}
use Rattle.codec.proofs.TextLaws.{running_turns}
use Rattle.codec.proofs.text.digit_run.Goals as goal

pub loop-count-preserved : goal.loop-count-preserved
loop-count-preserved c =
    rw c.from.ensures
    (running_turns c.loop-count.invariant c.min.ensures c.loop-count-test.true (sym c.is_ascii_digit.ensures.value ∙ c.if-not-is_ascii_digit.false))
