-- `write_contents` meets its contract: refused as the contents is, then with 6; else its bytes are written. Assumes nothing.
use Rattle.std.proofs.Common.{ℕ, List, ◌++◌, length, drop, ap, sym, ◌∙◌}
use Rattle.decimal.proofs.AnswerLaws.{passed_on}
use Rattle.records.proofs.FileProofs.FileLaws.{starting_refused, starting_short, starting_done, refuses_file, writes_file}
use Rattle.records.proofs.files.record_file.write_contents.Goals as goal

pub returns-in_err-read : goal.returns-in_err-read
returns-in_err-read c =
    let a = c.args in
    let all = refuses_file a.contents.now a.buffer.now (starting_refused _ _ (sym c.in_err-read.ensures)) in
    record { answer = passed_on _ _ c.from_residual.ensures.1 ∙ all.0; bytes = all.1 }

pub returns-then-buffer-size : goal.returns-then-buffer-size
returns-then-buffer-size c =
    let a = c.args in
    let all = refuses_file a.contents.now a.buffer.now (starting_short a.contents.now (length a.buffer.now) (sym c.in_ok-read.ensures) c.if-buffer-size.true) in
    record { answer = all.0; bytes = all.1 }

pub returns : goal.returns
returns c =
    let a = c.args in
    let all = writes_file a.contents.now a.buffer.now (starting_done a.contents.now (length a.buffer.now) (sym c.in_ok-read.ensures) c.if-buffer-size.false) (ap (λ (l : List ℕ). l ++ drop (length a.contents.now) a.buffer.now) c.copy_from_slice.ensures.after) in
    record { answer = all.0; bytes = all.1 }
