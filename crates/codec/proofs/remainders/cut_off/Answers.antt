-- `cut_off` meets its contract: what the truncation of each number that packs leaves. Assumes nothing.
use Rattle.std.proofs.Common.{length, ap, ◌∙◌, ⊎_elim, inl, inr, arith}
use Rattle.decimal.specs.Answer.{done}
use Rattle.codec.proofs.PackLaws.{packs_length}
use Rattle.codec.proofs.RemainderLaws.{packs_left, left_length, leaving_starts, left_fits, leaving_turns, leaving_ends}
use Rattle.codec.proofs.remainders.cut_off.Goals as goal

pub loop-image-init : goal.loop-image-init
loop-image-init c =
    let images = c.iter.ensures.rest in
    let first = c.zip-image-items.ensures.first in
    let second = c.zip-image-items.ensures.second in
    let same = c.into_iter-image-iterator.ensures.into_iter_gives in
    rw c.new-remainders.ensures (leaving_starts c.requires.1 (cc) (cc))

pub invariant_of-fitting : goal.invariant_of-fitting
invariant_of-fitting c =
    let step = c.in-Some.ensures.steps in
    record { fits = left_fits c.loop-image.invariant step.0 step.1 }

pub loop-image-preserved : goal.loop-image-preserved
loop-image-preserved c =
    let step = c.in-Some.ensures.steps in
    let many = left_length c.args.images.now c.args.numbers.now (packs_length c.requires.1) in
    leaving_turns c.loop-image.invariant step.0 step.1 c.remainder.ensures (c.push.ensures.items (omega (arith, many, c.requires.0, c.loop-image.invariant.room, ap length step.0)))

pub returns : goal.returns
returns c =
    let found = leaving_ends c.loop-image.invariant (⊎_elim (λ none. inl none.1.0) (λ none. inr none.1.0) c.in-None.ensures.steps) in
    packs_left 0 c.requires.1 ∙ ap done found
