-- `Contents::read_front` meets its contract: refused for the count, or as the first column that is; else its columns' images. Assumes nothing.
use Rattle.std.proofs.Common.{◌∷◌, ℕ, refl, sym, ap, ◌∙◌, arith}
use Rattle.decimal.proofs.AnswerLaws.{passed_on, mapped_done}
use Rattle.codec.specs.Contents.{read_contents}
use Rattle.codec.proofs.ContentsLaws.{count_within, contents_counted, contents_made, contents_sound}
use Rattle.codec.proofs.ContentsLaws.{reading_starts, reading_turns, reading_length}
use Rattle.codec.proofs.FrontLaws.{contents_sized}
use Rattle.codec.proofs.contents.Contents.read_front.Goals as goal

pub loop-column-init : goal.loop-column-init
loop-column-init c = rw c.new-images.ensures (reading_starts c.in-Some.columns.now c.from-count.result)

pub loop-column-preserved : goal.loop-column-preserved
loop-column-preserved c =
    let within = count_within _ c.in_ok-check_count.ensures in
    reading_turns c.loop-column.invariant c.loop-column-test.true (sym (sym (mapped_done _ refl) ∙ c.in_ok-image.ensures.image))
    (c.push.ensures.items (omega (arith, c.loop-column.invariant.as_many, c.loop-column-test.true, within.1)))
    c.in_ok-image.ensures.rest c.column_size-body.ensures

pub invariant_of-result : goal.invariant_of-result
invariant_of-result c =
    let columns = c.in-Some.columns.now in
    let left = reading_length c.loop-column.invariant c.loop-column-test.false in
    let within = count_within _ c.in_ok-check_count.ensures in
    let read = contents_made c.from-count.result columns within.0 within.1 c.loop-column.invariant c.loop-column-test.false (omega (arith, left, c.in-Some.ensures.cases.1)) in
    (contents_sound _ read, contents_sized _ read, c.loop-column.invariant.size)

pub returns : goal.returns
returns c =
    let columns = c.in-Some.columns.now in
    let left = reading_length c.loop-column.invariant c.loop-column-test.false in
    let within = count_within _ c.in_ok-check_count.ensures in
    sym
    (ap read_contents (c.in-Some.ensures.cases.0 ∙ ap (λ (n : ℕ). n ∷ columns) (sym c.from-count.ensures))
    ∙ contents_made c.from-count.result columns within.0 within.1 c.loop-column.invariant c.loop-column-test.false (omega (arith, left, c.in-Some.ensures.cases.1)))

pub returns-in_err-check_count : goal.returns-in_err-check_count
returns-in_err-check_count c =
    passed_on _ _ c.from_residual.ensures.1
    ∙ sym
    (ap read_contents (c.in-Some.ensures.cases.0 ∙ ap (λ (n : ℕ). n ∷ c.in-Some.columns.now) (sym c.from-count.ensures))
    ∙ contents_counted c.from-count.result c.in-Some.columns.now c.in_err-check_count.ensures)
