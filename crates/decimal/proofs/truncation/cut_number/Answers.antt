-- `cut_number` meets its contract. Assumes nothing.
use mathlib.Core.Path.{ap, ◌∙◌}
use Rattle.decimal.specs.Answer.{done, mapped}
use Rattle.decimal.proofs.AnswerLaws.{passed_on, mapped_refused}
use Rattle.decimal.proofs.truncation.cut_number.Goals as goal

pub returns-in_err-fitting-clause-cut : goal.returns-in_err-fitting-clause-cut
unfolding mapped
returns-in_err-fitting-clause-cut c = mapped_refused _ (passed_on _ _ c.from_residual.ensures.1) ∙ c.in_err-fitting.ensures.answer

pub returns-clause-cut : goal.returns-clause-cut
unfolding mapped
returns-clause-cut c = ap done c.cut.ensures.cut ∙ c.in_ok-fitting.ensures.answer
