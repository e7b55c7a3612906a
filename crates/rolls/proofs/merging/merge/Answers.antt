-- `merge` meets its contract: last it is refused with 6, else the file that is made of the two is written. Assumes nothing.
use Rattle.std.proofs.Common.{ℕ, ◌%◌, List, length, get_or, take, drop, refl, ap, sym, ◌∙◌, arith}
use Rattle.decimal.specs.declared.image.Image.{Image}
use Rattle.decimal.specs.Answer.{Answer, done}
use Rattle.decimal.proofs.AnswerLaws.{passed_on, mapped_done, mapped_refused}
use Rattle.codec.specs.Contents.{Table}
use Rattle.records.specs.Files.CheckedFile.{checked_table}
use Rattle.codec.specs.Answers.{sized, stored_in}
use Rattle.codec.specs.Columns.{column_size}
use Rattle.codec.specs.Lists.{no_image}
use Rattle.codec.proofs.BufferLaws.{part_stored}
use Rattle.rolls.specs.Merging.{merged, file_with, not_behind}
use Rattle.rolls.specs.Runs.{all_bodies}
use Rattle.rolls.proofs.FilledLaws.{bytes_known}
use Rattle.rolls.proofs.MergePairLaws.{merging_refused, common_first, common_second, code_made, made_short, made_done}
use Rattle.rolls.proofs.merging.merge.Goals as goal

pub returns-in_err-common-clause-answer : goal.returns-in_err-common-clause-answer
unfolding sized
returns-in_err-common-clause-answer c =
    passed_on _ _ c.from_residual.ensures.1
    ∙ sym (ap sized (merging_refused c.args.first.now c.args.second.now (length c.args.buffer.now) (sym (mapped_refused checked_table refl) ∙ c.in_err-common.ensures)))

pub returns-in_err-common-clause-bytes : goal.returns-in_err-common-clause-bytes
unfolding stored_in
returns-in_err-common-clause-bytes c =
    sym
    (ap (λ (a : Answer (List ℕ)). stored_in a c.args.buffer.now)
    (merging_refused c.args.first.now c.args.second.now (length c.args.buffer.now) (sym (mapped_refused checked_table refl) ∙ c.in_err-common.ensures)))

pub split_at-requires : goal.split_at-requires
split_at-requires c =
    omega (arith, c.size.ensures, common_first c.args.first.now c.args.second.now (ap {B = Answer Table} done c.contents-table.ensures.contents ∙ sym (mapped_done checked_table refl) ∙ c.in_ok-common.ensures))

pub split_at-requires-2 : goal.split_at-requires-2
split_at-requires-2 c =
    omega (arith, c.size-2.ensures, common_second c.args.first.now c.args.second.now (ap {B = Answer Table} done c.contents-table.ensures.contents ∙ sym (mapped_done checked_table refl) ∙ c.in_ok-common.ensures))

pub returns-then-buffer-size-clause-answer : goal.returns-then-buffer-size-clause-answer
unfolding sized
returns-then-buffer-size-clause-answer c =
    let m = code_made c.args.first.now c.args.second.now (ap {B = Answer Table} done c.contents-table.ensures.contents ∙ sym (mapped_done checked_table refl) ∙ c.in_ok-common.ensures) in
    sym
    (ap sized
    (made_short m (bytes_known _ (λ i. omega (arith, c.type_inv.first i))) (bytes_known _ (λ i. omega (arith, c.type_inv.second i))) (length c.args.buffer.now)
    (omega (arith, c.if-buffer-size.true, ap length (c.split_at-2.ensures.back ∙ ap (λ (k : ℕ). drop k c.args.second.now) c.size-2.ensures)))))

pub returns-then-buffer-size-clause-bytes : goal.returns-then-buffer-size-clause-bytes
unfolding stored_in
returns-then-buffer-size-clause-bytes c =
    let m = code_made c.args.first.now c.args.second.now (ap {B = Answer Table} done c.contents-table.ensures.contents ∙ sym (mapped_done checked_table refl) ∙ c.in_ok-common.ensures) in
    sym
    (ap (λ (a : Answer (List ℕ)). stored_in a c.args.buffer.now)
    (made_short m (bytes_known _ (λ i. omega (arith, c.type_inv.first i))) (bytes_known _ (λ i. omega (arith, c.type_inv.second i))) (length c.args.buffer.now)
    (omega (arith, c.if-buffer-size.true, ap length (c.split_at-2.ensures.back ∙ ap (λ (k : ℕ). drop k c.args.second.now) c.size-2.ensures)))))

pub write_file-requires-clause-sizes : goal.write_file-requires-clause-sizes
write_file-requires-clause-sizes c =
    let m = code_made c.args.first.now c.args.second.now (ap {B = Answer Table} done c.contents-table.ensures.contents ∙ sym (mapped_done checked_table refl) ∙ c.in_ok-common.ensures) in (
      omega (arith, m.width, c.body_size.ensures, c.column_size-width.ensures, ap (λ (ims : List Image). column_size (get_or ims 0 no_image)) c.images.ensures.images),
      omega (arith, m.few, c.column_size-width.ensures, ap (λ (ims : List Image). column_size (get_or ims 0 no_image)) c.images.ensures.images),
      omega (arith, m.some, c.body_size.ensures),
    )

pub write_file-requires-clause-whole : goal.write_file-requires-clause-whole
write_file-requires-clause-whole c =
    let m = code_made c.args.first.now c.args.second.now (ap {B = Answer Table} done c.contents-table.ensures.contents ∙ sym (mapped_done checked_table refl) ∙ c.in_ok-common.ensures) in (
      (λ i. length ((c.split_at.ensures.back ∙ ap (λ (k : ℕ). drop k c.args.first.now) c.size.ensures) i) % c.body_size.ensures i) ∙ m.first_whole,
      (λ i. length ((c.split_at-2.ensures.back ∙ ap (λ (k : ℕ). drop k c.args.second.now) c.size-2.ensures) i) % c.body_size.ensures i) ∙ m.second_whole,
    )

pub returns-clause-answer : goal.returns-clause-answer
unfolding sized
returns-clause-answer c =
    let m = code_made c.args.first.now c.args.second.now (ap {B = Answer Table} done c.contents-table.ensures.contents ∙ sym (mapped_done checked_table refl) ∙ c.in_ok-common.ensures) in
    ap done (omega (arith, ap length (c.split_at-2.ensures.back ∙ ap (λ (k : ℕ). drop k c.args.second.now) c.size-2.ensures), m.long))
    ∙ sym
    (ap sized
    (made_done m (bytes_known _ (λ i. omega (arith, c.type_inv.first i))) (bytes_known _ (λ i. omega (arith, c.type_inv.second i))) (length c.args.buffer.now)
    (omega (arith, c.if-buffer-size.false, ap length (c.split_at-2.ensures.back ∙ ap (λ (k : ℕ). drop k c.args.second.now) c.size-2.ensures)))))

pub returns-clause-bytes : goal.returns-clause-bytes
returns-clause-bytes c =
    let m = code_made c.args.first.now c.args.second.now (ap {B = Answer Table} done c.contents-table.ensures.contents ∙ sym (mapped_done checked_table refl) ∙ c.in_ok-common.ensures) in
    let width = c.column_size-width.ensures ∙ ap (λ (ims : List Image). column_size (get_or ims 0 no_image)) c.images.ensures.images in
    part_stored c.args.buffer.now _
    (c.write_file.ensures
    ∙ (λ i.
    file_with ((c.split_at.ensures.front ∙ ap (λ (k : ℕ). take k c.args.first.now) c.size.ensures) i)
    (merged (not_behind (width i))
    (all_bodies (c.body_size.ensures i) ((c.split_at.ensures.back ∙ ap (λ (k : ℕ). drop k c.args.first.now) c.size.ensures) i))
    (all_bodies (c.body_size.ensures i) ((c.split_at-2.ensures.back ∙ ap (λ (k : ℕ). drop k c.args.second.now) c.size-2.ensures) i)))))
    (omega (arith, ap length (c.split_at-2.ensures.back ∙ ap (λ (k : ℕ). drop k c.args.second.now) c.size-2.ensures), m.long))
    ∙ sym
    (ap (λ (a : Answer (List ℕ)). stored_in a c.args.buffer.now)
    (made_done m (bytes_known _ (λ i. omega (arith, c.type_inv.first i))) (bytes_known _ (λ i. omega (arith, c.type_inv.second i))) (length c.args.buffer.now)
    (omega (arith, c.if-buffer-size.false, ap length (c.split_at-2.ensures.back ∙ ap (λ (k : ℕ). drop k c.args.second.now) c.size-2.ensures)))))
