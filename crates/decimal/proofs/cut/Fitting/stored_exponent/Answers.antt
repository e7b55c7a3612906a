-- `Fitting::stored_exponent` meets its contract: an exponent that fits is not below the image's. Assumes nothing.
use Rattle.std.proofs.Common.{◌≡◌, true, arith, rules}
use Rattle.decimal.proofs.TruncationLaws.{fit_exponential}
use Rattle.decimal.proofs.cut.Fitting.stored_exponent.Goals as goal

pub overflow_sub-result : goal.overflow_sub-result
overflow_sub-result c =
    let f = c.args.self.now in
    let kind : f.image.exponential ≡ true = search rules in
    let nonzero : f.number.mantissa ≡ 0 → ⊥ = omega arith in
    omega (arith, (fit_exponential f.image f.number f.fits kind nonzero).0)
