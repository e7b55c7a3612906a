-- `plain_halves` meets its contract: the parts of the run are those of the column. Assumes nothing.
use native.Mathlib.Omega.{arith}
use Rattle.codec.specs.Order.{Bytes}
use Rattle.codec.proofs.ReadLaws.{bytes_known}
use Rattle.codec.proofs.PlainLaws.{fixed_few, plain_parts}
use Rattle.codec.proofs.reading.plain_halves.Goals as goal

pub read_few-requires : goal.read_few-requires
read_few-requires c = fixed_few c.args.image c.args.bytes.now c.requires.0 c.requires.1 c.requires.2

pub returns : goal.returns
returns c =
    let known : Bytes c.args.bytes.now = bytes_known _ (λ i. omega (arith, c.type_inv.bytes i)) in
    plain_parts c.args.image c.args.bytes.now known c.requires.0 c.requires.1 c.requires.2 c.requires.3 c.read_few.ensures c.half_count.ensures
    c.split_few-digits.ensures.first c.split_few-digits.ensures.last
