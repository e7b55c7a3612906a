-- `whole_of` meets its contract. Assumes nothing.
use Rattle.codec.proofs.BlockLaws.{joined, mask, whole_joined}
use Rattle.codec.proofs.cut.whole_of.Goals as goal

pub returns : goal.returns
unfolding joined mask
returns c = whole_joined c.args.halves c.requires
