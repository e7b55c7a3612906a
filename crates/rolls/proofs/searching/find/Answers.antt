-- `find` meets its contract: refused as the file is, with 10, 7, as the page is, with 15; else what the walk gives, which is the first records.
-- Assumes nothing.
use Rattle.std.proofs.Common.{ℕ, List, length, drop, refl, ap, sym, subst, ◌∙◌, arith}
use Rattle.decimal.specs.declared.image.Image.{Image}
use Rattle.decimal.specs.declared.number.Number.{Number}
use Rattle.decimal.specs.Answer.{done, mapped}
use Rattle.decimal.proofs.AnswerLaws.{passed_on, mapped_done, mapped_refused}
use Rattle.codec.specs.Columns.{column_size}
use Rattle.codec.specs.Order.{Bytes}
use Rattle.codec.proofs.ReadBackTheorem.{bytes_drop}
use Rattle.records.specs.Files.CheckedFile.{checked_table}
use Rattle.records.specs.Files.Listing.{checked_file}
use Rattle.records.specs.Files.RecordFile.{read_file}
use Rattle.rolls.specs.Falling.{fall}
use Rattle.rolls.specs.Searching.{check_kind, search_of, walk}
use Rattle.rolls.proofs.FilledLaws.{bytes_known}
use Rattle.rolls.proofs.FirstColumnOrder.{first_image}
use Rattle.rolls.proofs.PageLaws.{kind_told}
use Rattle.rolls.proofs.SearchLaws.{file_checked, file_ordered, ordered_falls, ordered_asked, positions_kind, positions_normal, found_bad, found_page, found_falls, found_done}
use Rattle.rolls.proofs.searching.find.Goals as goal

pub returns-in_err-checked : goal.returns-in_err-checked
returns-in_err-checked c =
    let same = c.in_ok-read.ensures.bytes in
    mapped_refused search_of (passed_on _ _ c.from_residual-in_err-checked.ensures.1)
    ∙ sym
    (found_bad c.args.file.now c.args.positions.now (omega (arith, c.if-positions-gt-MAX_POSITIONS.false)) (ap read_file (sym same) ∙ c.in_ok-read.read.reads)
    (sym (mapped_refused checked_table refl) ∙ c.in_err-checked.ensures.answer ∙ ap checked_file same))

pub check_positions-requires : goal.check_positions-requires
check_positions-requires c =
    let f = file_checked (c.in_ok-checked.ensures.bytes ∙ c.in_ok-read.ensures.bytes) c.contents-contents.ensures.checked c.contents-contents.ensures.contents in
    omega (arith, f.held.sound.low, ap length c.images.ensures.images)

pub returns-in_err-check_positions : goal.returns-in_err-check_positions
returns-in_err-check_positions c =
    let f = file_checked (c.in_ok-checked.ensures.bytes ∙ c.in_ok-read.ensures.bytes) c.contents-contents.ensures.checked c.contents-contents.ensures.contents in
    mapped_refused search_of (passed_on _ _ c.from_residual-in_err-check_positions.ensures.1)
    ∙ sym (found_page c.args.file.now c.args.positions.now (omega (arith, c.if-positions-gt-MAX_POSITIONS.false)) f c.images.ensures.images c.in_err-check_positions.ensures)

pub split_at-requires : goal.split_at-requires
split_at-requires c =
    let f = file_checked (c.in_ok-checked.ensures.bytes ∙ c.in_ok-read.ensures.bytes) c.contents-contents.ensures.checked c.contents-contents.ensures.contents in
    omega (arith, f.held.within, c.size.ensures)

pub bodies_fall-requires : goal.bodies_fall-requires
bodies_fall-requires c =
    let f = file_checked (c.in_ok-checked.ensures.bytes ∙ c.in_ok-read.ensures.bytes) c.contents-contents.ensures.checked c.contents-contents.ensures.contents in
    let o = file_ordered f (kind_told _ (ap check_kind (sym c.images.ensures.images) ∙ positions_kind _ _ (sym c.in_ok-check_positions.ensures))) (c.split_at.ensures.back ∙ ap (λ (n : ℕ). drop n c.args.file.now) c.size.ensures) in
    ordered_asked o.0 (subst Bytes (sym c.split_at.ensures.back) (bytes_drop c.size.result (bytes_known c.args.file.now (λ i. omega (arith, c.type_inv.file i))))) (c.column_size-width.ensures ∙ ap (λ (ims : List Image). column_size (first_image ims)) c.images-2.ensures.images) c.body_size.ensures

pub returns-in_err-check_records : goal.returns-in_err-check_records
returns-in_err-check_records c =
    let f = file_checked (c.in_ok-checked.ensures.bytes ∙ c.in_ok-read.ensures.bytes) c.contents-contents.ensures.checked c.contents-contents.ensures.contents in
    let o = file_ordered f (kind_told _ (ap check_kind (sym c.images.ensures.images) ∙ positions_kind _ _ (sym c.in_ok-check_positions.ensures))) (c.split_at.ensures.back ∙ ap (λ (n : ℕ). drop n c.args.file.now) c.size.ensures) in
    mapped_refused search_of (passed_on _ _ c.from_residual-in_err-check_records.ensures.1)
    ∙ sym
    (found_falls c.args.file.now c.args.positions.now (omega (arith, c.if-positions-gt-MAX_POSITIONS.false)) f c.images.ensures.images c.in_ok-check_positions.ensures
    (c.bodies_fall.ensures ∙ ordered_falls o.0 (subst Bytes (sym c.split_at.ensures.back) (bytes_drop c.size.result (bytes_known c.args.file.now (λ i. omega (arith, c.type_inv.file i))))) (c.column_size-width.ensures ∙ ap (λ (ims : List Image). column_size (first_image ims)) c.images-2.ensures.images) c.body_size.ensures ∙ ap fall o.1)
    c.in_err-check_records.ensures)

pub walk-requires-clause-records : goal.walk-requires-clause-records
walk-requires-clause-records c =
    let f = file_checked (c.in_ok-checked.ensures.bytes ∙ c.in_ok-read.ensures.bytes) c.contents-contents.ensures.checked c.contents-contents.ensures.contents in
    (file_ordered f (kind_told _ (ap check_kind (sym c.images.ensures.images) ∙ positions_kind _ _ (sym c.in_ok-check_positions.ensures))) (c.split_at.ensures.back ∙ ap (λ (n : ℕ). drop n c.args.file.now) c.size.ensures)).0

pub walk-requires-clause-page : goal.walk-requires-clause-page
walk-requires-clause-page c = (omega (arith, c.if-positions-gt-MAX_POSITIONS.false), positions_normal _ _ (sym c.in_ok-check_positions.ensures))

pub returns : goal.returns
returns c =
    let f = file_checked (c.in_ok-checked.ensures.bytes ∙ c.in_ok-read.ensures.bytes) c.contents-contents.ensures.checked c.contents-contents.ensures.contents in
    let o = file_ordered f (kind_told _ (ap check_kind (sym c.images.ensures.images) ∙ positions_kind _ _ (sym c.in_ok-check_positions.ensures))) (c.split_at.ensures.back ∙ ap (λ (n : ℕ). drop n c.args.file.now) c.size.ensures) in
    mapped_done search_of refl
    ∙ found_done c.args.file.now c.args.positions.now (omega (arith, c.if-positions-gt-MAX_POSITIONS.false)) f c.images.ensures.images c.in_ok-check_positions.ensures
    (c.bodies_fall.ensures ∙ ordered_falls o.0 (subst Bytes (sym c.split_at.ensures.back) (bytes_drop c.size.result (bytes_known c.args.file.now (λ i. omega (arith, c.type_inv.file i))))) (c.column_size-width.ensures ∙ ap (λ (ims : List Image). column_size (first_image ims)) c.images-2.ensures.images) c.body_size.ensures ∙ ap fall o.1)
    c.in_ok-check_records.ensures
    (ap (λ (ks : List Number). mapped (walk 0 c.args.positions.now) (done ks)) (sym o.1) ∙ ap (mapped (walk 0 c.args.positions.now)) (sym o.0.read) ∙ c.walk.ensures)
