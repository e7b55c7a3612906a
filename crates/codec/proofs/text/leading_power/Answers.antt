-- `leading_power` meets its contract, by the laws of the exponent: none, E without a digit, E with a sign and digits. Assumes nothing.
use Rattle.std.proofs.Common.{arith}
use Rattle.codec.proofs.TextLaws.{onward, power_absent, power_none, power_bare, power_some, signs_found, run_few, run_exponent}
use Rattle.codec.proofs.text.leading_power.Goals as goal

pub returns-in_default : goal.returns-in_default
returns-in_default c = power_none (power_absent c.args.text.now (λ h e. omega arith))

pub returns-in_default-2 : goal.returns-in_default-2
returns-in_default-2 c = power_none (power_absent c.args.text.now (λ h e. omega arith))

pub slice_bounds-digit_run-count : goal.slice_bounds-digit_run-count
slice_bounds-digit_run-count c = omega (arith, signs_found (onward 1 c.args.text.now) c.leading_sign-sign.ensures c.sign_count-signs.ensures)

pub slice_bounds-digit_run-start : goal.slice_bounds-digit_run-start
slice_bounds-digit_run-start c = omega (arith, signs_found (onward 1 c.args.text.now) c.leading_sign-sign.ensures c.sign_count-signs.ensures)

pub returns-then-run-eq0 : goal.returns-then-run-eq0
returns-then-run-eq0 c =
    power_bare c.args.text.now (omega arith) (omega arith) c.leading_sign-sign.ensures c.sign_count-signs.ensures c.digit_run-run.ensures c.if-run-eq0.true

pub signed_exponent-up-requires : goal.signed_exponent-up-requires
signed_exponent-up-requires c = omega (arith, run_exponent c.digit_run-run.ensures)

pub overflow_add-used-2 : goal.overflow_add-used-2
overflow_add-used-2 c =
    omega (arith, signs_found (onward 1 c.args.text.now) c.leading_sign-sign.ensures c.sign_count-signs.ensures, run_few c.digit_run-run.ensures)

pub returns : goal.returns
returns c =
    rw c.signed_exponent-up.ensures
    (power_some c.args.text.now (omega arith) (omega arith) c.leading_sign-sign.ensures c.sign_count-signs.ensures c.digit_run-run.ensures
    c.if-run-eq0.false
    c.is_minus.ensures)
