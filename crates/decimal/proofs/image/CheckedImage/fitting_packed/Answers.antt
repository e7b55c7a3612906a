-- `CheckedImage::fitting_packed` meets its contract: what fits, but for a negative x under an image without a sign. Assumes nothing.
use Rattle.std.proofs.Common.{sym, ap, ap₂, ◌∙◌, arith}
use Rattle.decimal.specs.Answer.{mapped, done}
use Rattle.decimal.specs.Truncation.{stored_exponent, truncated_to}
use Rattle.decimal.proofs.AnswerLaws.{passed_on, mapped_refused}
use Rattle.decimal.proofs.TruncationLaws.{packed_refused, packed_signed, packed_negative, packed_within}
use Rattle.decimal.proofs.FittingLaws.{parts_fit}
use Rattle.decimal.proofs.image.CheckedImage.fitting_packed.Goals as goal
use Rattle.decimal.proofs.image.CheckedImage.fitting_packed.Goals.{else-below-via-then-below+else-not-is_signed, else-below-via-else-below}

pub returns-in_err-fitting-clause-answer : goal.returns-in_err-fitting-clause-answer
unfolding mapped
returns-in_err-fitting-clause-answer c =
    let a = c.args in
    mapped_refused _ (passed_on _ _ c.from_residual.ensures.1) ∙ sym (packed_refused a.place a.self.image a.number (sym c.in_err-fitting.ensures.answer))

pub returns-then-not-is_signed-clause-answer : goal.returns-then-not-is_signed-clause-answer
unfolding mapped
returns-then-not-is_signed-clause-answer c =
    let a = c.args in
    let f = c.in_ok-fitting.fitting in
    let same = c.in_ok-fitting.ensures.parts in
    let x = c.stored_exponent-below.ensures ∙ ap₂ stored_exponent same.0 same.1 in
    sym (packed_negative a.place a.self.image a.number (parts_fit f same) (sym c.if-not-is_signed.ensures) (omega (arith, x, c.if-below.true)))

pub returns-clause-answer : goal.returns-clause-answer
unfolding mapped
returns-clause-answer c =
    let a = c.args in
    let f = c.in_ok-fitting.fitting in
    let same = c.in_ok-fitting.ensures.parts in
    let fit = parts_fit f same in
    let x = c.stored_exponent-below.ensures ∙ ap₂ stored_exponent same.0 same.1 in
    ap done (ap₂ truncated_to same.0 same.1)
    ∙ sym
    (elim c.else-below.branch [
      | else-below-via-then-below+else-not-is_signed w ↦ packed_signed a.place a.self.image a.number fit (sym w.if-not-is_signed.ensures)
      | else-below-via-else-below w ↦ packed_within a.place a.self.image a.number fit (omega (arith, x, w.if-below.false))
    ])
