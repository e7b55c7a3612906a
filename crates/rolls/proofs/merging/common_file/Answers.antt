-- `common_file` meets its contract: refused as the first file is, as the second is, then with 17, 16, 15. Assumes nothing.
use Rattle.std.proofs.Common.{ℕ, Bool, ◌||◌, List, length, take, drop, refl, ap, ap₂, sym, ◌∙◌, arith}
use Rattle.decimal.specs.declared.image.Image.{Image}
use Rattle.decimal.specs.Answer.{done}
use Rattle.decimal.proofs.AnswerLaws.{passed_on, mapped_done, mapped_refused}
use Rattle.codec.specs.Columns.{column_size}
use Rattle.codec.specs.Contents.{Table}
use Rattle.records.specs.Files.CheckedFile.{checked_table}
use Rattle.rolls.proofs.FilledLaws.{bytes_known}
use Rattle.rolls.proofs.FirstColumnOrder.{first_image}
use Rattle.rolls.proofs.MergePairLaws.{common_one, common_two, common_contents, both_ordered, common_falls, common_done}
use Rattle.rolls.proofs.SearchLaws.{file_checked}
use Rattle.rolls.proofs.merging.common_file.Goals as goal

pub returns-in_err-one : goal.returns-in_err-one
returns-in_err-one c =
    mapped_refused checked_table (passed_on _ _ c.from_residual.ensures.1)
    ∙ sym (common_one c.args.first.now c.args.second.now (sym (mapped_refused checked_table refl) ∙ c.in_err-one.ensures.answer))

pub returns-in_err-two : goal.returns-in_err-two
returns-in_err-two c =
    let one = file_checked c.in_ok-one.ensures.bytes c.in_ok-one.one.checked refl in
    mapped_refused checked_table (passed_on _ _ c.from_residual-in_err-two.ensures.1)
    ∙ sym (common_two c.args.first.now c.args.second.now one (sym (mapped_refused checked_table refl) ∙ c.in_err-two.ensures.answer))

pub split_at-requires : goal.split_at-requires
split_at-requires c =
    let one = file_checked c.in_ok-one.ensures.bytes c.contents-table.ensures.checked c.contents-table.ensures.contents in
    omega (arith, one.held.within, c.size.ensures)

pub split_at-requires-2 : goal.split_at-requires-2
split_at-requires-2 c =
    let two = file_checked c.in_ok-two.ensures.bytes c.contents.ensures.checked c.contents.ensures.contents in
    omega (arith, two.held.within, c.size-2.ensures)

pub check_contents-requires : goal.check_contents-requires
check_contents-requires c =
    let one = file_checked c.in_ok-one.ensures.bytes c.contents-table.ensures.checked c.contents-table.ensures.contents in
    omega (arith, one.held.sound.low, ap length c.images.ensures.images)

pub returns-in_err-check_contents : goal.returns-in_err-check_contents
returns-in_err-check_contents c =
    let one = file_checked c.in_ok-one.ensures.bytes c.contents-table.ensures.checked c.contents-table.ensures.contents in
    let two = file_checked c.in_ok-two.ensures.bytes c.contents.ensures.checked c.contents.ensures.contents in
    mapped_refused checked_table (passed_on _ _ c.from_residual-in_err-check_contents.ensures.1)
    ∙ sym
    (common_contents c.args.first.now c.args.second.now one two (c.split_at.ensures.front ∙ ap (λ (n : ℕ). take n c.args.first.now) c.size.ensures) (c.split_at-2.ensures.front ∙ ap (λ (n : ℕ). take n c.args.second.now) c.size-2.ensures) c.images.ensures.images c.in_err-check_contents.ensures)

pub bodies_fall-requires : goal.bodies_fall-requires
bodies_fall-requires c =
    let one = file_checked c.in_ok-one.ensures.bytes c.contents-table.ensures.checked c.contents-table.ensures.contents in
    let two = file_checked c.in_ok-two.ensures.bytes c.contents.ensures.checked c.contents.ensures.contents in
    let both =
    both_ordered c.args.first.now c.args.second.now one two (c.split_at.ensures.front ∙ ap (λ (n : ℕ). take n c.args.first.now) c.size.ensures) (c.split_at-2.ensures.front ∙ ap (λ (n : ℕ). take n c.args.second.now) c.size-2.ensures) c.images.ensures.images c.in_ok-check_contents.ensures (c.split_at.ensures.back ∙ ap (λ (n : ℕ). drop n c.args.first.now) c.size.ensures) (c.split_at-2.ensures.back ∙ ap (λ (n : ℕ). drop n c.args.second.now) c.size-2.ensures)
    (bytes_known _ (λ i. omega (arith, c.type_inv.first i))) (bytes_known _ (λ i. omega (arith, c.type_inv.second i)))
    (c.column_size-width.ensures ∙ ap (λ (ims : List Image). column_size (first_image ims)) c.images-2.ensures.images) c.body_size-body.ensures in
    both.one_asked

pub bodies_fall-requires-2 : goal.bodies_fall-requires-2
bodies_fall-requires-2 c =
    let one = file_checked c.in_ok-one.ensures.bytes c.contents-table.ensures.checked c.contents-table.ensures.contents in
    let two = file_checked c.in_ok-two.ensures.bytes c.contents.ensures.checked c.contents.ensures.contents in
    let both =
    both_ordered c.args.first.now c.args.second.now one two (c.split_at.ensures.front ∙ ap (λ (n : ℕ). take n c.args.first.now) c.size.ensures) (c.split_at-2.ensures.front ∙ ap (λ (n : ℕ). take n c.args.second.now) c.size-2.ensures) c.images.ensures.images c.in_ok-check_contents.ensures (c.split_at.ensures.back ∙ ap (λ (n : ℕ). drop n c.args.first.now) c.size.ensures) (c.split_at-2.ensures.back ∙ ap (λ (n : ℕ). drop n c.args.second.now) c.size-2.ensures)
    (bytes_known _ (λ i. omega (arith, c.type_inv.first i))) (bytes_known _ (λ i. omega (arith, c.type_inv.second i)))
    (c.column_size-width.ensures ∙ ap (λ (ims : List Image). column_size (first_image ims)) c.images-2.ensures.images) c.body_size-body.ensures in
    both.two_asked

pub returns-in_err-check_records : goal.returns-in_err-check_records
returns-in_err-check_records c =
    let one = file_checked c.in_ok-one.ensures.bytes c.contents-table.ensures.checked c.contents-table.ensures.contents in
    let two = file_checked c.in_ok-two.ensures.bytes c.contents.ensures.checked c.contents.ensures.contents in
    let both =
    both_ordered c.args.first.now c.args.second.now one two (c.split_at.ensures.front ∙ ap (λ (n : ℕ). take n c.args.first.now) c.size.ensures) (c.split_at-2.ensures.front ∙ ap (λ (n : ℕ). take n c.args.second.now) c.size-2.ensures) c.images.ensures.images c.in_ok-check_contents.ensures (c.split_at.ensures.back ∙ ap (λ (n : ℕ). drop n c.args.first.now) c.size.ensures) (c.split_at-2.ensures.back ∙ ap (λ (n : ℕ). drop n c.args.second.now) c.size-2.ensures)
    (bytes_known _ (λ i. omega (arith, c.type_inv.first i))) (bytes_known _ (λ i. omega (arith, c.type_inv.second i)))
    (c.column_size-width.ensures ∙ ap (λ (ims : List Image). column_size (first_image ims)) c.images-2.ensures.images) c.body_size-body.ensures in
    mapped_refused checked_table (passed_on _ _ c.from_residual-in_err-check_records.ensures.1)
    ∙ sym
    (common_falls c.args.first.now c.args.second.now one two (c.split_at.ensures.front ∙ ap (λ (n : ℕ). take n c.args.first.now) c.size.ensures) (c.split_at-2.ensures.front ∙ ap (λ (n : ℕ). take n c.args.second.now) c.size-2.ensures) c.images.ensures.images c.in_ok-check_contents.ensures
    (ap₂ (λ (a b : Bool). a || b) c.bodies_fall.ensures c.bodies_fall-2.ensures ∙ both.falls)
    c.in_err-check_records.ensures)

pub returns : goal.returns
returns c =
    let one = file_checked c.in_ok-one.ensures.bytes c.contents-table.ensures.checked c.contents-table.ensures.contents in
    let two = file_checked c.in_ok-two.ensures.bytes c.contents.ensures.checked c.contents.ensures.contents in
    let both =
    both_ordered c.args.first.now c.args.second.now one two (c.split_at.ensures.front ∙ ap (λ (n : ℕ). take n c.args.first.now) c.size.ensures) (c.split_at-2.ensures.front ∙ ap (λ (n : ℕ). take n c.args.second.now) c.size-2.ensures) c.images.ensures.images c.in_ok-check_contents.ensures (c.split_at.ensures.back ∙ ap (λ (n : ℕ). drop n c.args.first.now) c.size.ensures) (c.split_at-2.ensures.back ∙ ap (λ (n : ℕ). drop n c.args.second.now) c.size-2.ensures)
    (bytes_known _ (λ i. omega (arith, c.type_inv.first i))) (bytes_known _ (λ i. omega (arith, c.type_inv.second i)))
    (c.column_size-width.ensures ∙ ap (λ (ims : List Image). column_size (first_image ims)) c.images-2.ensures.images) c.body_size-body.ensures in
    mapped_done checked_table refl
    ∙ ap (λ (t : Table). done t) (sym c.contents-table.ensures.contents)
    ∙ common_done c.args.first.now c.args.second.now one two (c.split_at.ensures.front ∙ ap (λ (n : ℕ). take n c.args.first.now) c.size.ensures) (c.split_at-2.ensures.front ∙ ap (λ (n : ℕ). take n c.args.second.now) c.size-2.ensures) c.images.ensures.images c.in_ok-check_contents.ensures
    (ap₂ (λ (a b : Bool). a || b) c.bodies_fall.ensures c.bodies_fall-2.ensures ∙ both.falls)
    c.in_ok-check_records.ensures
