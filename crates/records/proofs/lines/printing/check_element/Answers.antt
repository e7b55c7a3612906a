-- `lines::printing::check_element` meets its contract: a number by its form, a text by its end. Assumes nothing.
use mathlib.Core.Path.{ap, sym, ◌∙◌}
use Rattle.decimal.specs.Answer.{checked_only}
use Rattle.records.proofs.LineProofs.CheckLaws.{dropped, number_element}
use Rattle.records.proofs.lines.printing.check_element.Goals as goal

pub returns-in-Number : goal.returns-in-Number
returns-in-Number c =
    dropped _ c.checked.result c.map.result c.map.ensures.cases c.map.ensures.variant ∙ ap checked_only c.checked.ensures.answer
    ∙ sym (number_element c.args.room c.args.index c.in-Number.is)
