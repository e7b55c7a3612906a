-- `CheckedImage::fitting` meets its contract: the number's check, then the limits. Assumes nothing.
use mathlib.Core.Path.{sym, ◌∙◌}
use Rattle.decimal.specs.Answer.{mapped}
use Rattle.decimal.proofs.AnswerLaws.{passed_on, mapped_refused}
use Rattle.decimal.proofs.TruncationLaws.{fit_truncation}
use Rattle.decimal.proofs.FittingLaws.{abnormal_refused, limits_refused, limits_fit}
use Rattle.decimal.proofs.image.CheckedImage.fitting.Goals as goal

pub returns-in_err-checked-clause-answer : goal.returns-in_err-checked-clause-answer
returns-in_err-checked-clause-answer c =
    let a = c.args in
    mapped_refused _ (passed_on _ _ c.from_residual.ensures.1)
    ∙ sym (abnormal_refused a.place a.self.image a.number a.self.some a.self.few (sym c.in_err-checked.ensures.answer))

pub returns-in_err-limits-clause-answer : goal.returns-in_err-limits-clause-answer
returns-in_err-limits-clause-answer c =
    let a = c.args in
    mapped_refused _ (passed_on _ _ c.from_residual-in_err-limits.ensures.1)
    ∙ sym (limits_refused a.place a.self.image a.number a.self.some a.self.few c.in_ok-checked.ensures.form (sym c.in_err-limits.ensures))

pub invariant_of-result : goal.invariant_of-result
invariant_of-result c =
    let a = c.args in
    record { fits = limits_fit a.place a.self.image a.number a.self.some a.self.few c.in_ok-checked.ensures.form (sym c.in_ok-limits.ensures) }

pub returns-clause-answer : goal.returns-clause-answer
unfolding mapped
returns-clause-answer c =
    let a = c.args in
    sym (fit_truncation a.place a.self.image a.number (limits_fit a.place a.self.image a.number a.self.some a.self.few c.in_ok-checked.ensures.form (sym c.in_ok-limits.ensures)))
