-- `leading_fraction` meets its contract, by the laws of the point and of the run of digits behind it. Assumes nothing.
use Rattle.std.proofs.Common.{arith}
use Rattle.codec.proofs.TextLaws.{run_few, fraction_none, fraction_some}
use Rattle.codec.proofs.text.leading_fraction.Goals as goal

pub returns-in_default : goal.returns-in_default
returns-in_default c = fraction_none c.args.text.now c.args.start (λ h e. omega arith)

pub returns-in_default-2 : goal.returns-in_default-2
returns-in_default-2 c = fraction_none c.args.text.now c.args.start (λ h e. omega arith)

pub overflow_add-result : goal.overflow_add-result
overflow_add-result c = omega (arith, run_few c.digit_run-run.ensures)

pub returns : goal.returns
returns c = fraction_some c.args.text.now (omega arith) (omega arith) c.digit_run-run.ensures
