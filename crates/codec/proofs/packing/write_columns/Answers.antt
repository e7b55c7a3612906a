-- `write_columns` meets its contract: each column is written behind those before it. Assumes nothing.
use Rattle.std.proofs.Common.{ap, ap₂, sym, ◌∙◌, ⊎_elim, inl, inr, arith}
use Rattle.std.proofs.lemmas.List.{length-take-le, length-drop}
use Rattle.decimal.specs.Answer.{done}
use Rattle.codec.specs.Columns.{column_size}
use Rattle.codec.specs.Packing.{column_bytes}
use Rattle.codec.proofs.BodyLaws.{packs_columns, writing_starts, next_fits, next_room, writing_turns, writing_ends}
use Rattle.codec.proofs.packing.write_columns.Goals as goal

pub loop-image-init : goal.loop-image-init
loop-image-init c =
    let images = c.iter.ensures.rest in
    let first = c.zip-image-items.ensures.first in
    let second = c.zip-image-items.ensures.second in
    let same = c.into_iter-image-iterator.ensures.into_iter_gives in
    writing_starts c.requires.0 c.requires.1 (cc) (cc)

pub overflow_add-end : goal.overflow_add-end
overflow_add-end c =
    let step = c.in-Some.ensures.steps in
    omega (arith, next_room c.loop-image.invariant step.0 step.1, c.column_size.ensures)

pub slice_bounds-write_column-end : goal.slice_bounds-write_column-end
slice_bounds-write_column-end c =
    let step = c.in-Some.ensures.steps in
    omega (arith, next_room c.loop-image.invariant step.0 step.1, c.column_size.ensures)

pub invariant_of-fitting : goal.invariant_of-fitting
invariant_of-fitting c =
    let step = c.in-Some.ensures.steps in
    record { fits = next_fits c.loop-image.invariant step.0 step.1 }

pub write_column-requires : goal.write_column-requires
write_column-requires c =
    let step = c.in-Some.ensures.steps in
    let room = next_room c.loop-image.invariant step.0 step.1 in
    length-take-le _ _ (omega (arith, room, c.column_size.ensures, length-drop c.loop-image.at c.loop-image.body))
    ∙ omega (arith, c.column_size.ensures)
    ∙ ap column_size (sym c.cut.ensures.image)

pub loop-image-preserved : goal.loop-image-preserved
loop-image-preserved c =
    let step = c.in-Some.ensures.steps in
    writing_turns c.loop-image.invariant step.0 step.1 c.column_size.ensures
    (c.write_column.ensures ∙ ap₂ column_bytes c.cut.ensures.image c.cut.ensures.cut)

pub returns : goal.returns
returns c =
    let written = writing_ends c.loop-image.invariant (⊎_elim (λ none. inl none.1.0) (λ none. inr none.1.0) c.in-None.ensures.steps) in
    packs_columns 0 c.requires.0 ∙ ap done written
