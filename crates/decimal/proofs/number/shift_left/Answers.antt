-- `shift_left` meets its contract: the digits leave no fewer zeros than none. Assumes nothing.
use Rattle.decimal.proofs.NumberLaws.{log_few}
use Rattle.decimal.proofs.number.shift_left.Goals as goal

pub overflow_sub-zeros-2 : goal.overflow_sub-zeros-2
overflow_sub-zeros-2 c = log_few c.args.whole c.ilog10.result c.requires.1 c.ilog10.ensures.power_le c.ilog10.ensures.next_power_gt
