-- `read_text` meets its contract: each slice begins where the next part of the text does, and the parts make the whole. Assumes nothing.
use Rattle.std.proofs.Common.{arith}
use Rattle.decimal.proofs.StepLaws.{run_inside}
use Rattle.codec.proofs.TextLaws.{onward, sign_inside, numeral_inside, read_none}
use Rattle.codec.proofs.text.read_text.Goals as goal

pub returns-then-not-has_digit : goal.returns-then-not-has_digit
returns-then-not-has_digit c =
    read_none c.args.text.now c.leading_run-before.ensures c.leading_spaced_sign-sign.ensures c.has_digit.ensures c.if-not-has_digit.true

pub overflow_add-end-2 : goal.overflow_add-end-2
overflow_add-end-2 c =
    omega (
      arith,
      run_inside 32 c.args.text.now,
      sign_inside c.leading_spaced_sign-sign.ensures,
      numeral_inside c.leading_numeral-numeral.ensures,
    )

pub slice_bounds-leading_run-count : goal.slice_bounds-leading_run-count
slice_bounds-leading_run-count c = numeral_inside c.leading_numeral-numeral.ensures

pub slice_bounds-leading_run-start : goal.slice_bounds-leading_run-start
slice_bounds-leading_run-start c =
    omega (
      arith,
      run_inside 32 c.args.text.now,
      sign_inside c.leading_spaced_sign-sign.ensures,
      numeral_inside c.leading_numeral-numeral.ensures,
    )

pub overflow_add-used : goal.overflow_add-used
overflow_add-used c =
    let unsigned = onward c.leading_spaced_sign-sign.result.used (onward c.leading_run-before.result c.args.text.now) in
    omega (
      arith,
      run_inside 32 c.args.text.now,
      sign_inside c.leading_spaced_sign-sign.ensures,
      numeral_inside c.leading_numeral-numeral.ensures,
      run_inside 32 (onward c.leading_numeral-numeral.result.used unsigned),
    )
