-- `pack_with_remainders` meets its contract: packing's own answer and bytes, and what its truncations leave. Assumes nothing.
use Rattle.std.proofs.Common.{length, ap, sym, ◌∙◌}
use Rattle.decimal.specs.Answer.{meaning}
use Rattle.codec.proofs.BufferLaws.{sized_back}
use Rattle.codec.proofs.RemainderLaws.{under_packs}
use Rattle.codec.proofs.remainders.pack_with_remainders.Goals as goal

pub cut_off-requires : goal.cut_off-requires
cut_off-requires c =
    let a = c.args in
    let b = sized_back _ (sym (ap meaning c.in_ok-size.was) ∙ c.pack.ensures.answer) in
    rw c.images.ensures.images (c.images.ensures.sound.high, under_packs a.contents.now.images a.numbers.now (length a.buffer.now) b.1)
