-- `leading_spaced_sign` meets its contract, by the laws of a sign and the blanks behind it: none, or some. Assumes nothing.
use Rattle.std.proofs.Common.{arith, ◌∙◌}
use Rattle.codec.proofs.TextLaws.{signs_found, spaced_none, spaced_some}
use Rattle.codec.proofs.text.leading_spaced_sign.Goals as goal
use Rattle.codec.proofs.text.leading_spaced_sign.Goals.{then-signs-eq0, else-signs-eq0}

pub slice_bounds-leading_run-count : goal.slice_bounds-leading_run-count
slice_bounds-leading_run-count c = (signs_found c.args.text.now c.leading_sign-sign.ensures c.sign_count-signs.ensures).1

pub slice_bounds-leading_run-start : goal.slice_bounds-leading_run-start
slice_bounds-leading_run-start c = omega (arith, signs_found c.args.text.now c.leading_sign-sign.ensures c.sign_count-signs.ensures)

pub returns : goal.returns
returns c =
    elim c.if-signs-eq0.branch [
      | then-signs-eq0 w ↦ spaced_none c.args.text.now c.leading_sign-sign.ensures c.sign_count-signs.ensures c.is_minus.ensures w.if-signs-eq0.true w.blanks-is
      | else-signs-eq0 w ↦ spaced_some c.args.text.now c.leading_sign-sign.ensures c.sign_count-signs.ensures c.is_minus.ensures w.if-signs-eq0.false
          (w.blanks-is ∙ w.leading_run-blanks.ensures)
    ]
