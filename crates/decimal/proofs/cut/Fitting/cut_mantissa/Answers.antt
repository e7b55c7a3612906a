-- `Fitting::cut_mantissa` meets its contract: the unit is a power of ten, at most that of all digits. Assumes nothing.
use Rattle.std.proofs.Common.{arith}
use Rattle.decimal.specs.Digits.{precision}
use Rattle.decimal.specs.Truncation.{dropped_count}
use Rattle.decimal.proofs.PowerLaws.{pow10_pos, pow10_mono}
use Rattle.decimal.proofs.NumberLaws.{normal_high}
use Rattle.decimal.proofs.cut.Fitting.cut_mantissa.Goals as goal

pub whole_part-requires : goal.whole_part-requires
whole_part-requires c =
    let f = c.args.self.now in
    let dropped = dropped_count f.image f.number in
    let power = c.unit-unit.ensures in
    (normal_high f.number f.fits.number_checked, omega (arith, power, pow10_pos dropped), omega (arith, power, pow10_mono {i = dropped} {j = precision} (omega arith)))
