-- `leading_numeral` meets its contract: each slice begins where the next part of the numeral does, and the parts make the numeral.
-- Assumes nothing.
use Rattle.codec.proofs.TextLaws.{numeral_found}
use Rattle.codec.proofs.text.leading_numeral.Goals as goal

pub returns : goal.returns
returns c = numeral_found c.args.text.now c.digit_run-integer.ensures c.leading_fraction-fraction.ensures c.leading_power-power.ensures
