-- `Contents::check_body` meets its contract: each column's part of the body is read, up to the first that is refused. Assumes nothing.
use Rattle.std.proofs.Common.{List, sym, ap, ◌∙◌}
use Rattle.decimal.specs.declared.image.Image.{Image}
use Rattle.decimal.specs.Answer.{checked_only, mapped}
use Rattle.decimal.proofs.AnswerLaws.{passed_on}
use Rattle.decimal.specs.Truncation.{truncated_to}
use Rattle.codec.specs.Columns.{body_size}
use Rattle.codec.specs.Unpacking.{unpack_columns}
use Rattle.codec.proofs.UnpackLaws.{checking_start, checking_inside, checking_turn, checking_refused, columns_end, under_columns}
use Rattle.codec.proofs.contents.Contents.check_body.Goals as goal

pub loop-column-init : goal.loop-column-init
loop-column-init c =
    checking_start c.images-images.result.now c.args.body.now
    (c.if-body-body_size.false ∙ c.body_size.ensures ∙ ap body_size (sym c.images-images.ensures.images))

pub split_at-requires : goal.split_at-requires
split_at-requires c = rw (c.column_size.ensures) (checking_inside c.loop-column.invariant _ c.loop-column-test.true)

pub loop-column-preserved : goal.loop-column-preserved
unfolding mapped
loop-column-preserved c =
    rw c.split_at.ensures.back
    (checking_turn c.loop-column.invariant _ c.loop-column-test.true (truncated_to _) c.column_size.ensures c.split_at.ensures.front c.in_ok-read_column.ensures.cut)

pub returns-in_err-read_column : goal.returns-in_err-read_column
unfolding checked_only mapped
returns-in_err-read_column c =
    passed_on _ _ c.from_residual.ensures.1
    ∙ rw
    (under_columns c.args.self.now.images c.args.body.now (c.if-body-body_size.false ∙ c.body_size.ensures)
    ∙ ap (λ (ims : List Image). unpack_columns 0 ims c.args.body.now) (sym c.images-images.ensures.images)
    ∙ checking_refused c.loop-column.invariant _ c.loop-column-test.true (truncated_to _) c.column_size.ensures c.split_at.ensures.front c.in_err-read_column.ensures.cut)

pub returns : goal.returns
unfolding checked_only
returns c =
    rw
    (under_columns c.args.self.now.images c.args.body.now (c.if-body-body_size.false ∙ c.body_size.ensures)
    ∙ ap (λ (ims : List Image). unpack_columns 0 ims c.args.body.now) (sym c.images-images.ensures.images)
    ∙ columns_end c.loop-column.invariant.unpacks c.loop-column-test.false)
