-- `least_run` meets its contract: a number below zero, one that exceeds the image, one that is its cut, and one above its cut. Assumes nothing.
use Rattle.std.proofs.Common.{refl, ap, sym, ◌∙◌}
use Rattle.decimal.specs.declared.image.Image.{Image}
use Rattle.decimal.specs.CutMeaning.{said_by_cut}
use Rattle.decimal.specs.Digits.{packed_of}
use Rattle.decimal.specs.Truncation.{number_of}
use Rattle.decimal.proofs.AnswerLaws.{mapped_done, mapped_refused}
use Rattle.codec.specs.Packing.{column_halves}
use Rattle.codec.proofs.OrderingLaws.{least_minus_found, least_none_found, least_cut_found, least_next_found}
use Rattle.codec.proofs.ordering.least_run.Goals as goal

pub returns-then-number : goal.returns-then-number
returns-then-number c = least_minus_found c.args.image c.args.number c.if-number.true

pub returns-in_default : goal.returns-in_default
returns-in_default c =
    least_none_found c.args.image c.args.number c.if-number.false (sym (mapped_refused said_by_cut refl) ∙ c.in_default.ensures.cut)

pub returns-then-eq : goal.returns-then-eq
returns-then-eq c =
    least_cut_found c.args.image c.args.number c.if-number.false (sym (mapped_done said_by_cut refl) ∙ c.in-Ok.ensures.cut)
    (ap (λ (im : Image). number_of 0 im (said_by_cut c.in-Ok.cut)) (sym c.in-Ok.ensures.image) ∙ c.number_of_cut.ensures)
    (c.column_run.ensures ∙ ap (λ (im : Image). packed_of (column_halves im (said_by_cut c.in-Ok.cut))) c.in-Ok.ensures.image)
    (sym c.eq.ensures ∙ c.if-eq.true)

pub returns-else-eq : goal.returns-else-eq
returns-else-eq c =
    least_next_found c.args.image c.args.number c.if-number.false (sym (mapped_done said_by_cut refl) ∙ c.in-Ok.ensures.cut)
    (ap (λ (im : Image). number_of 0 im (said_by_cut c.in-Ok.cut)) (sym c.in-Ok.ensures.image) ∙ c.number_of_cut.ensures)
    (c.column_run.ensures ∙ ap (λ (im : Image). packed_of (column_halves im (said_by_cut c.in-Ok.cut))) c.in-Ok.ensures.image)
    (sym c.eq.ensures ∙ c.if-eq.false)
    c.checked_add.result
    c.checked_add.ensures
