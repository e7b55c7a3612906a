-- `store_column` meets its contract: refused with 5, then with 6, else the column stands at the buffer's start. Assumes nothing.
use Rattle.std.proofs.Common.{◌≡◌, ◌<◌, ◌≤◌, length, refl, sym, ◌∙◌, arith, le-ltb, lt-ltb}
use Rattle.std.proofs.lemmas.List.{length-take-le}
use Rattle.decimal.specs.CutMeaning.{said_by_cut}
use Rattle.decimal.proofs.AnswerLaws.{passed_on}
use Rattle.codec.specs.Answers.{within}
use Rattle.codec.specs.Packing.{storing_column, column_bytes}
use Rattle.codec.proofs.AlphaLaws.{refused_answers, done_answers}
use Rattle.codec.proofs.BufferLaws.{part_stored}
use Rattle.codec.proofs.HalfLaws.{column_length_lem}
use Rattle.codec.proofs.PackLaws.{storing_refused, storing_done}
use Rattle.codec.proofs.packing.store_column.Goals as goal

pub returns-in_err-check_packable : goal.returns-in_err-check_packable
returns-in_err-check_packable c =
    let a = c.args in
    let room = length a.buffer.now in
    let cut = said_by_cut a.cut.now in
    let all = refused_answers (storing_column a.cut.now.image cut room) a.buffer.now (storing_refused a.cut.now.image cut room c.in_err-check_packable.ensures) in
    record { answer = passed_on _ _ c.from_residual.ensures.1 ∙ all.0; bytes = all.1 }

pub returns-then-buffer-width : goal.returns-then-buffer-width
unfolding within
returns-then-buffer-width c =
    let a = c.args in
    let room = length a.buffer.now in
    let cut = said_by_cut a.cut.now in
    let column = column_bytes a.cut.now.image cut in
    let long : room < length column =
    omega (arith, c.if-buffer-width.true, c.column_size-width.ensures, column_length_lem a.cut.now.image cut) in
    let all = refused_answers (storing_column a.cut.now.image cut room) a.buffer.now
    (storing_done a.cut.now.image cut room c.in_ok-check_packable.ensures ∙ rw (lt-ltb room (length column) long) refl) in
    record { answer = all.0; bytes = all.1 }

pub write_column-requires : goal.write_column-requires
write_column-requires c = length-take-le c.column_size-width.result c.args.buffer.now c.if-buffer-width.false ∙ c.column_size-width.ensures

pub returns : goal.returns
unfolding within
returns c =
    let a = c.args in
    let room = length a.buffer.now in
    let cut = said_by_cut a.cut.now in
    let column = column_bytes a.cut.now.image cut in
    let size : length column ≡ c.column_size-width.result = column_length_lem a.cut.now.image cut ∙ sym c.column_size-width.ensures in
    let fits : length column ≤ room = omega (arith, c.if-buffer-width.false, size) in
    let all = done_answers (storing_column a.cut.now.image cut room) a.buffer.now
    (storing_done a.cut.now.image cut room c.in_ok-check_packable.ensures ∙ rw (le-ltb room (length column) fits) refl) size
    (part_stored a.buffer.now column c.write_column.ensures size) in
    record { answer = all.0; bytes = all.1 }
