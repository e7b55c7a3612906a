-- `power_of_ten` meets its contract: the table's entry is the power. Assumes nothing.
use Rattle.decimal.proofs.PowerLaws.{power_listed}
use Rattle.decimal.proofs.powers.power_of_ten.Goals as goal

pub returns : goal.returns
returns c = power_listed c.args.exponent c.requires
