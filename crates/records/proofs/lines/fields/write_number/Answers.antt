-- `write_number` meets its contract: the field's own bytes where the number is refused, else what is shown of it. Assumes nothing.
use Prim.Native.Nat.{ℕ}
use mathlib.Core.Path.{ap, sym, ◌∙◌}
use lib.Dec.{eqb}
use Rattle.decimal.specs.declared.image.Image.{Image}
use Rattle.decimal.specs.Answer.{mapped}
use Rattle.decimal.specs.CutMeaning.{said_by_cut}
use Rattle.decimal.specs.Truncation.{truncation}
use Rattle.records.specs.Lines.Fields.{shown_marked}
use Rattle.records.proofs.LineProofs.FieldLaws.{number_refused, number_shown, number_spilled, number_kept, written_kept}
use Rattle.records.proofs.lines.fields.write_number.Goals as goal

pub returns-in-Ok : goal.returns-in-Ok
unfolding mapped
returns-in-Ok c =
    let a = c.args in
    let same = c.requires.read in
    let to = ap (λ (im : Image). truncation 0 im a.number) (sym same) ∙ sym c.in-Ok.ensures.cut in
    record {
      bytes =
          c.write.ensures.bytes
          ∙ (λ i. shown_marked a.marks a.field.now ((c.in-Ok.ensures.image ∙ same) i) (said_by_cut c.in-Ok.cut))
          ∙ sym (number_shown a.marks a.field.now a.number to);
      spilled = c.is_err.ensures.value ∙ written_kept _ c.write.ensures.answer ∙ sym (ap (λ (k : ℕ). eqb k 1) (number_kept a.marks a.field.now a.number to));
    }

pub returns-in-Err : goal.returns-in-Err
unfolding mapped
returns-in-Err c =
    let a = c.args in
    let to = ap (λ (im : Image). truncation 0 im a.number) (sym c.requires.read) ∙ sym c.in-Err.ensures.cut in
    record {
      bytes = sym (number_refused a.marks a.field.now a.number to);
      spilled = sym (ap (λ (k : ℕ). eqb k 1) (number_spilled a.marks a.field.now a.number to));
    }
