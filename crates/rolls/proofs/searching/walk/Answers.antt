-- `walk` meets its contract: for each position the records before its own are passed over. Assumes nothing.
use Rattle.std.proofs.Common.{Bool, not, List, refl, sym, ap, ◌∙◌, arith}
use mir.Val.{bool_byte}
use Rattle.decimal.specs.declared.number.Number.{Number}
use Rattle.decimal.specs.Answer.{Answer, done}
use Rattle.decimal.proofs.AnswerLaws.{mapped_done}
use Rattle.rolls.specs.Searching.{Search, walk}
use Rattle.rolls.proofs.FirstColumnLaws.{first_columns_are}
use Rattle.decimal.specs.declared.image.Image.{Image}
use Rattle.codec.specs.Columns.{column_size}
use Rattle.codec.proofs.OrderingLaws.{least_known}
use Rattle.rolls.proofs.FirstColumnOrder.{first_image}
use Rattle.rolls.proofs.WalkLaws.{ordered_told, walking_starts, counts_asked, step_told, walking_past, walking_reached, walking_few, one_few, walking_ends}
use Rattle.rolls.proofs.FilledLaws.{bytes_known}
use Rattle.rolls.proofs.searching.walk.Goals as goal

pub loop-position-init : goal.loop-position-init
loop-position-init c =
    record {
      walking = rw c.new-records.ensures (walking_starts c.args.positions.now (ordered_told c.requires.records (bytes_known _ (λ i. omega (arith, c.type_inv.bodies i)))));
      front = c.front_number-front.ensures;
    }

pub count_below-below-requires : goal.count_below-below-requires
count_below-below-requires c =
    counts_asked c.loop-position.invariant.walking c.requires.records (bytes_known _ (λ i. omega (arith, c.type_inv.bodies i)))
    (c.column_size-width.ensures ∙ ap (λ (ims : List Image). column_size (first_image ims)) c.images.ensures.images)
    c.body_size-body.ensures

pub overflow_mul-below : goal.overflow_mul-below
overflow_mul-below c =
    let s = step_told c.loop-position.invariant.walking c.requires.records (bytes_known _ (λ i. omega (arith, c.type_inv.bodies i))) c.requires.page.1 c.loop-position-test.true _ (ap first_image c.images.ensures.images) (least_known _ _ c.least_run.ensures)
    (c.column_size-width.ensures ∙ ap (λ (ims : List Image). column_size (first_image ims)) c.images.ensures.images) c.body_size-body.ensures c.count_below-below.ensures in
    omega (arith, s.inside)

pub split_at-requires : goal.split_at-requires
split_at-requires c =
    let s = step_told c.loop-position.invariant.walking c.requires.records (bytes_known _ (λ i. omega (arith, c.type_inv.bodies i))) c.requires.page.1 c.loop-position-test.true _ (ap first_image c.images.ensures.images) (least_known _ _ c.least_run.ensures)
    (c.column_size-width.ensures ∙ ap (λ (ims : List Image). column_size (first_image ims)) c.images.ensures.images) c.body_size-body.ensures c.count_below-below.ensures in
    s.inside

pub overflow_add-record : goal.overflow_add-record
overflow_add-record c =
    let s = step_told c.loop-position.invariant.walking c.requires.records (bytes_known _ (λ i. omega (arith, c.type_inv.bodies i))) c.requires.page.1 c.loop-position-test.true _ (ap first_image c.images.ensures.images) (least_known _ _ c.least_run.ensures)
    (c.column_size-width.ensures ∙ ap (λ (ims : List Image). column_size (first_image ims)) c.images.ensures.images) c.body_size-body.ensures c.count_below-below.ensures in
    omega (arith, s.few)

pub overflow_add-comparisons : goal.overflow_add-comparisons
overflow_add-comparisons c =
    let few = walking_few c.loop-position.invariant.walking (ordered_told c.requires.records (bytes_known _ (λ i. omega (arith, c.type_inv.bodies i)))).some in
    omega (arith, few, c.loop-position.invariant.walking.few, c.requires.page.0, c.loop-position-test.true)

pub overflow_add-comparisons-in-loop-position : goal.overflow_add-comparisons-in-loop-position
overflow_add-comparisons-in-loop-position c =
    let s = step_told c.loop-position.invariant.walking c.requires.records (bytes_known _ (λ i. omega (arith, c.type_inv.bodies i))) c.requires.page.1 c.loop-position-test.true _ (ap first_image c.images.ensures.images) (least_known _ _ c.least_run.ensures)
    (c.column_size-width.ensures ∙ ap (λ (ims : List Image). column_size (first_image ims)) c.images.ensures.images) c.body_size-body.ensures c.count_below-below.ensures in
    omega (arith, s.few, c.from.ensures, one_few (not c.is_empty-in-loop-position.result))

pub overflow_add-comparisons-in-loop-position-2 : goal.overflow_add-comparisons-in-loop-position-2
overflow_add-comparisons-in-loop-position-2 c =
    let s = step_told c.loop-position.invariant.walking c.requires.records (bytes_known _ (λ i. omega (arith, c.type_inv.bodies i))) c.requires.page.1 c.loop-position-test.true _ (ap first_image c.images.ensures.images) (least_known _ _ c.least_run.ensures)
    (c.column_size-width.ensures ∙ ap (λ (ims : List Image). column_size (first_image ims)) c.images.ensures.images) c.body_size-body.ensures c.count_below-below.ensures in
    omega (arith, s.sums (one_few (not c.is_empty-in-loop-position.result)), c.from.ensures, c.requires.page.0, c.loop-position-test.true)

pub loop-position-preserved : goal.loop-position-preserved
loop-position-preserved c =
    let s = step_told c.loop-position.invariant.walking c.requires.records (bytes_known _ (λ i. omega (arith, c.type_inv.bodies i))) c.requires.page.1 c.loop-position-test.true _ (ap first_image c.images.ensures.images) (least_known _ _ c.least_run.ensures)
    (c.column_size-width.ensures ∙ ap (λ (ims : List Image). column_size (first_image ims)) c.images.ensures.images) c.body_size-body.ensures c.count_below-below.ensures in
    record {
      walking = s.turns c.split_at.ensures.back (c.from.ensures ∙ ap (λ (b : Bool). bool_byte (not b)) c.is_empty-in-loop-position.ensures) refl
          (c.push-in-loop-position.ensures.items (omega (arith, c.loop-position.invariant.walking.settled, c.requires.page.0, c.loop-position-test.true)));
      front = c.front_number-front-in-loop-position.ensures;
    }

pub loop-position-preserved-then-is_empty : goal.loop-position-preserved-then-is_empty
loop-position-preserved-then-is_empty c =
    record {
      walking =
          walking_past c.loop-position.invariant.walking c.requires.records (bytes_known _ (λ i. omega (arith, c.type_inv.bodies i))) c.loop-position-test.true (sym c.is_empty.ensures ∙ c.if-is_empty.true)
          (c.push.ensures.items (omega (arith, c.loop-position.invariant.walking.settled, c.requires.page.0, c.loop-position-test.true)));
      front = c.loop-position.invariant.front;
    }

pub loop-position-preserved-then-is_reached : goal.loop-position-preserved-then-is_reached
loop-position-preserved-then-is_reached c =
    record {
      walking =
          walking_reached c.loop-position.invariant.walking c.requires.records (bytes_known _ (λ i. omega (arith, c.type_inv.bodies i))) c.loop-position-test.true (sym c.is_empty.ensures ∙ c.if-is_empty.false)
          _ _ c.loop-position.invariant.front (c.is_reached.ensures c.if-is_reached.true)
          (c.push-then-is_reached.ensures.items (omega (arith, c.loop-position.invariant.walking.settled, c.requires.page.0, c.loop-position-test.true)));
      front = c.loop-position.invariant.front;
    }

pub returns : goal.returns
returns c =
    mapped_done (walk 0 c.args.positions.now) (c.requires.records.read ∙ ap {B = Answer (List Number)} done (first_columns_are c.args.contents.now.images _ c.requires.records.read))
    ∙ ap {B = Answer Search} done (sym (walking_ends c.loop-position.invariant.walking c.loop-position-test.false))
