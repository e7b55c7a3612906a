-- `read_marked` meets its contract: more bytes than a text number has are refused, and the others are converted. Assumes nothing.
use Rattle.std.proofs.Common.{ℕ, [], ◌∷◌, ◌++◌, ap, sym, ◌∙◌, arith}
use borrow.Author.Tests.{eqb-true}
use Rattle.arrayvec.specs.ArrayVec.{ArrayVec}
use Rattle.codec.specs.Text.{convert_text}
use Rattle.records.specs.Lines.Fields.{read_marked}
use Rattle.records.proofs.LineProofs.ReadFieldLaws.{keeping_starts, keeping_ends, keeping_drops, keeping_keeps, keeping_full}
use Rattle.records.proofs.lines.fields.read_marked.Goals as goal
use Rattle.records.proofs.lines.fields.read_marked.Goals.{then-not-is_dropped+else-is_full, else-not-is_dropped}

pub loop-byte-init : goal.loop-byte-init
loop-byte-init c = keeping_starts c.args.marks c.args.field.now c.new-kept.ensures

pub loop-byte-preserved : goal.loop-byte-preserved
loop-byte-preserved c =
    elim c.if-not-is_dropped.branch [
      | then-not-is_dropped+else-is_full w ↦
          keeping_keeps c.args.marks c.args.field.now c.loop-byte.byte-index c.loop-byte-test.true c.loop-byte.invariant
          (sym c.is_dropped.ensures ∙ w.if-not-is_dropped.true)
          (ap (λ (v : ArrayVec ℕ). v.items) w.kept-is ∙ w.push.ensures.items ∙ ap (λ (b : ℕ). c.loop-byte.kept.items ++ (b ∷ [])) w.read_byte.ensures)
      | else-not-is_dropped w ↦
          keeping_drops c.args.marks c.args.field.now c.loop-byte.byte-index c.loop-byte-test.true c.loop-byte.invariant
          (sym c.is_dropped.ensures ∙ w.if-not-is_dropped.false)
          (ap (λ (v : ArrayVec ℕ). v.items) w.kept-is)
    ]

pub returns-then-is_full : goal.returns-then-is_full
returns-then-is_full c =
    let full = eqb-true _ _ (sym c.is_full.ensures.value ∙ c.if-is_full.true) in
    keeping_full c.args.marks c.args.field.now c.loop-byte.byte-index c.loop-byte-test.true c.loop-byte.invariant (sym c.is_dropped.ensures ∙ c.if-not-is_dropped.true)
    (omega (arith, full))

pub returns : goal.returns
unfolding read_marked
returns c =
    c.convert.ensures ∙ ap convert_text (c.as_slice.ensures.value ∙ keeping_ends c.args.marks c.args.field.now c.loop-byte.invariant (omega arith))
