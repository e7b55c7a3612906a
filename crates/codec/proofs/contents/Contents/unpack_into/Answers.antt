-- `Contents::unpack_into` meets its contract: each column's part of the body is read as its number, up to the first that is refused. Assumes nothing.
use Rattle.std.proofs.Common.{List, length, sym, ap, ◌∙◌, arith, ◌≡◌}
use Rattle.decimal.specs.declared.image.Image.{Image}
use Rattle.decimal.specs.Answer.{refused, reason_number, checked_only, given}
use Rattle.codec.specs.Unpacking.{unpack_column, unpack_columns, unpack_body}
use Rattle.codec.proofs.UnpackLaws.{columns_start, columns_refused, columns_turn, columns_end, under_columns}
use Rattle.codec.proofs.contents.Contents.unpack_into.Goals as goal

pub loop-column-init : goal.loop-column-init
loop-column-init c =
    rw (c.clear.ensures)
    (columns_start c.images-images.result.now c.args.body.now
    (c.if-body-body_size.false ∙ c.body_size.ensures ∙ ap Rattle.codec.specs.Columns.body_size (sym c.images-images.ensures.images)))

pub loop-column-preserved : goal.loop-column-preserved
loop-column-preserved c =
    rw c.split_at.ensures.back
    (columns_turn c.loop-column.invariant _ c.loop-column-test.true c.column_size.ensures
    (ap (unpack_column c.loop-column.column _) (sym c.split_at.ensures.front) ∙ sym c.in-Ok.ensures) (c.push.ensures.items
    (omega (arith, c.loop-column.invariant.counted, c.loop-column-test.true, c.images-images.ensures.sound.high, ap length c.images-images.ensures.images))))

-- the body is read as its columns are
columns : (c : goal.After-loop-column) → unpack_body c.args.self.now.images c.args.body.now ≡ unpack_columns 0 c.images-images.result.now c.args.body.now
columns c =
    under_columns c.args.self.now.images c.args.body.now (c.if-body-body_size.false ∙ c.body_size.ensures)
    ∙ ap (λ (ims : List Image). unpack_columns 0 ims c.args.body.now) (sym c.images-images.ensures.images)

pub returns-clause-answer : goal.returns-clause-answer
unfolding checked_only
returns-clause-answer c = rw (columns c, columns_end c.loop-column.invariant c.loop-column-test.false)

pub returns-clause-list : goal.returns-clause-list
unfolding given
returns-clause-list c = rw (columns c, columns_end c.loop-column.invariant c.loop-column-test.false)

-- a column that is refused decides
stopped :
    (c : goal.After-clear-in-Err)
    → unpack_body c.args.self.now.images c.args.body.now ≡ refused (reason_number c.in-Err.refusal.reason) c.in-Err.refusal.place
stopped c =
    under_columns c.args.self.now.images c.args.body.now (c.if-body-body_size.false ∙ c.body_size.ensures)
    ∙ ap (λ (ims : List Image). unpack_columns 0 ims c.args.body.now) (sym c.images-images.ensures.images)
    ∙ columns_refused c.loop-column.invariant _ c.loop-column-test.true c.column_size.ensures
    (ap (unpack_column c.loop-column.column _) (sym c.split_at.ensures.front) ∙ sym c.in-Err.ensures)

pub returns-in-Err-clause-answer : goal.returns-in-Err-clause-answer
unfolding checked_only
returns-in-Err-clause-answer c = rw (stopped c)

pub returns-in-Err-clause-list : goal.returns-in-Err-clause-list
unfolding given
returns-in-Err-clause-list c = rw (stopped c) c.clear-in-Err.ensures
