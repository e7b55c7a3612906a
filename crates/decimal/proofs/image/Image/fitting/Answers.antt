-- `Image::fitting` meets its contract: the image's check, then what the checked image says. Assumes nothing.
use mathlib.Core.Path.{ap, sym, ◌∙◌}
use Rattle.decimal.specs.declared.image.Image.{Image}
use Rattle.decimal.specs.Answer.{mapped}
use Rattle.decimal.specs.Truncation.{truncation}
use Rattle.decimal.proofs.AnswerLaws.{passed_on, mapped_refused}
use Rattle.decimal.proofs.TruncationLaws.{truncation_image_refused}
use Rattle.decimal.proofs.FittingLaws.{checked_same}
use Rattle.decimal.proofs.image.Image.fitting.Goals as goal

pub returns-in_err-checked-clause-answer : goal.returns-in_err-checked-clause-answer
unfolding mapped
returns-in_err-checked-clause-answer c =
    let a = c.args in
    mapped_refused _ (passed_on _ _ c.from_residual.ensures.1)
    ∙ sym (truncation_image_refused a.place a.self a.number (sym c.in_err-checked.ensures))

pub returns-clause-answer : goal.returns-clause-answer
unfolding mapped
returns-clause-answer c =
    let a = c.args in
    c.fitting.ensures.answer ∙ ap (λ (im : Image). truncation a.place im a.number) (checked_same a.place a.self c.in_ok-checked.ensures)

pub returns-clause-parts : goal.returns-clause-parts
unfolding mapped
returns-clause-parts c = rw (← checked_same c.args.place c.args.self c.in_ok-checked.ensures) c.fitting.ensures.parts
