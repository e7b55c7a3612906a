-- `enter_under` meets its contract: refused as the first bad line is, last with 6, else the file stands at the buffer's start. Assumes nothing.
use Rattle.std.proofs.Common.{length, ap, sym, refl, ◌∙◌, arith}
use Rattle.std.proofs.lemmas.List.{length-take-le}
use borrow.Author.Tests.{ltb-true, ltb-false}
use Rattle.decimal.proofs.AnswerLaws.{never_done}
use Rattle.records.specs.Files.Entering.{sized_entry, stored_entry, next_of}
use Rattle.records.proofs.FileProofs.EnterLaws.{entry_passed, entry_sized, entry_stored, contents_held, head_refused, line_stops, enter_longer, bodies_fill, enter_length, enter_bytes}
use Rattle.records.proofs.files.entering.enter_under.Goals as goal

pub returns-in_err-lines-clause-answer : goal.returns-in_err-lines-clause-answer
returns-in_err-lines-clause-answer c =
    let a = c.args in
    let held = contents_held a.contents.now c.requires in
    entry_passed _ _ c.from_residual.ensures.1
    ∙ entry_sized _ (head_refused held a.text.now (length a.buffer.now) _ c.images-images.ensures.images c.in_err-lines.ensures.lines)

pub returns-in_err-lines-clause-bytes : goal.returns-in_err-lines-clause-bytes
returns-in_err-lines-clause-bytes c =
    let a = c.args in
    let held = contents_held a.contents.now c.requires in
    entry_stored _ (head_refused held a.text.now (length a.buffer.now) _ c.images-images.ensures.images c.in_err-lines.ensures.lines) a.buffer.now

pub count_records-requires : goal.count_records-requires
count_records-requires c =
    c.in_ok-lines.ensures.first

pub returns-in_err-records-clause-answer : goal.returns-in_err-records-clause-answer
returns-in_err-records-clause-answer c =
    let a = c.args in
    let held = contents_held a.contents.now c.requires in
    entry_passed _ _ c.from_residual-in_err-records.ensures.1
    ∙ entry_sized _
    (line_stops held a.text.now (length a.buffer.now) c.in_ok-lines.lines _ c.images-images.ensures.images c.in_ok-lines.ensures.lines refl c.in_err-records.ensures)

pub returns-in_err-records-clause-bytes : goal.returns-in_err-records-clause-bytes
returns-in_err-records-clause-bytes c =
    let a = c.args in
    let held = contents_held a.contents.now c.requires in
    entry_stored _
    (line_stops held a.text.now (length a.buffer.now) c.in_ok-lines.lines _ c.images-images.ensures.images c.in_ok-lines.ensures.lines refl c.in_err-records.ensures)
    a.buffer.now

pub is_longer-requires : goal.is_longer-requires
is_longer-requires c = omega (arith, c.body_size-body.ensures, (contents_held c.args.contents.now c.requires).some)

pub returns-then-is_longer-clause-answer : goal.returns-then-is_longer-clause-answer
unfolding sized_entry next_of
returns-then-is_longer-clause-answer c =
    let a = c.args in
    let room = length a.buffer.now in
    let held = contents_held a.contents.now c.requires in
    sym
    (ap sized_entry
    (enter_longer held a.text.now c.in_ok-lines.lines c.images-images.ensures.images c.in_ok-lines.ensures.lines refl c.in_ok-records.ensures room
    (rw c.body_size-body.ensures at (ltb-true _ _ (sym c.is_longer.ensures ∙ c.if-is_longer.true)))))

pub returns-then-is_longer-clause-bytes : goal.returns-then-is_longer-clause-bytes
unfolding stored_entry
returns-then-is_longer-clause-bytes c =
    let a = c.args in
    let room = length a.buffer.now in
    let held = contents_held a.contents.now c.requires in
    sym
    (ap (λ e. stored_entry e a.buffer.now)
    (enter_longer held a.text.now c.in_ok-lines.lines c.images-images.ensures.images c.in_ok-lines.ensures.lines refl c.in_ok-records.ensures room
    (rw c.body_size-body.ensures at (ltb-true _ _ (sym c.is_longer.ensures ∙ c.if-is_longer.true)))))

pub write_bodies-requires : goal.write_bodies-requires
write_bodies-requires c =
    let a = c.args in
    let held = contents_held a.contents.now c.requires in
    let short = rw c.body_size-body.ensures at (ltb-false _ _ (sym c.is_longer.ensures ∙ c.if-is_longer.false)) in
    rw c.body_size-body.ensures
    (bodies_fill held a.text.now c.in_ok-lines.lines c.images-images.ensures.images c.in_ok-lines.ensures.lines refl c.in_ok-records.ensures c.images-images.ensures.images _
    (length-take-le _ _ (omega (arith, short, c.split_at_mut-head.ensures.back_len))))

pub returns-in-Err : goal.returns-in-Err
returns-in-Err c = never_done c.in-Err.ensures.answer

pub returns-in-Ok-clause-answer : goal.returns-in-Ok-clause-answer
returns-in-Ok-clause-answer c =
    let a = c.args in
    let held = contents_held a.contents.now c.requires in
    let short = rw c.body_size-body.ensures at (ltb-false _ _ (sym c.is_longer.ensures ∙ c.if-is_longer.false)) in
    rw c.body_size-body.ensures
    (enter_length held a.text.now c.in_ok-lines.lines c.images-images.ensures.images c.in_ok-lines.ensures.lines refl c.in_ok-records.ensures refl
    short)

pub returns-in-Ok-clause-bytes : goal.returns-in-Ok-clause-bytes
returns-in-Ok-clause-bytes c =
    let a = c.args in
    let held = contents_held a.contents.now c.requires in
    let short = rw c.body_size-body.ensures at (ltb-false _ _ (sym c.is_longer.ensures ∙ c.if-is_longer.false)) in
    rw c.body_size-body.ensures
    (enter_bytes held a.text.now c.in_ok-lines.lines c.images-images.ensures.images c.in_ok-lines.ensures.lines refl c.in_ok-records.ensures
    c.images-images.ensures.images a.buffer.now short c.copy_from_slice.ensures.after c.in-Ok.ensures.bytes c.split_at_mut-head.ensures.back)
