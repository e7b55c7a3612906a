-- `lines::printing::print` meets its contract: the checks, then the room; what is measured and written is what is printed. Assumes nothing.
use native.Mathlib.Omega.{arith}
use mathlib.Core.Path.{sym, ◌∙◌}
use lib.ListN.{length}
use Rattle.decimal.specs.Answer.{checked_only}
use Rattle.decimal.proofs.AnswerLaws.{passed_on}
use Rattle.records.proofs.LineProofs.CheckLaws.{line_passed}
use Rattle.records.proofs.LineProofs.PrintCallLaws.{print_refused, print_long, print_done}
use Rattle.records.proofs.lines.printing.print.Goals as goal

pub returns-in_err-fields : goal.returns-in_err-fields
unfolding checked_only
returns-in_err-fields c =
    let all = print_refused c.args.line.now c.args.elements.now c.args.texts.now c.args.buffer.now (sym c.in_err-fields.ensures.answer) in
    record { answer = passed_on _ _ c.from_residual.ensures.1 ∙ all.0; bytes = all.1 }

pub measure-bytes-requires : goal.measure-bytes-requires
unfolding checked_only
measure-bytes-requires c = (
  (line_passed c.args.line.now c.args.elements.now (length c.args.texts.now) (sym c.in_ok-fields.ensures.answer)).0,
  record { first = c.deref.ensures.0 ∙ c.in_ok-fields.ensures.listed.first },
)

pub returns-then-buffer-bytes : goal.returns-then-buffer-bytes
unfolding checked_only
returns-then-buffer-bytes c =
    let all = print_long c.args.line.now c.args.elements.now c.args.texts.now c.args.buffer.now (sym c.in_ok-fields.ensures.answer)
    (c.measure-bytes.ensures c.args.texts.now) c.if-buffer-bytes.true in
    record { answer = all.0; bytes = all.1 }

pub write_lines-spilled-requires : goal.write_lines-spilled-requires
unfolding checked_only
write_lines-spilled-requires c =
    let passed = line_passed c.args.line.now c.args.elements.now (length c.args.texts.now) (sym c.in_ok-fields.ensures.answer) in (
      record {
        ready = passed.0;
        fields = passed.1;
        elements = passed.2;
        fits = omega (arith, c.measure-bytes.ensures c.args.texts.now, c.if-buffer-bytes.false);
      },
      record { first = c.deref-2.ensures.0 ∙ c.in_ok-fields.ensures.listed.first },
    )

pub returns : goal.returns
unfolding checked_only
returns c =
    let all = print_done c.args.line.now c.args.elements.now c.args.texts.now c.args.buffer.now (sym c.in_ok-fields.ensures.answer)
    (c.measure-bytes.ensures c.args.texts.now, c.write_lines-spilled.ensures.spilled) c.if-buffer-bytes.false c.write_lines-spilled.ensures.bytes in
    record { answer = all.0; bytes = all.1 }
