-- `Fitting::truncated` meets its contract: with no digit kept it is zero, else the number with the other digits zero. Assumes nothing.
use Rattle.std.proofs.Common.{◌≡◌, ◌<◌, sym, refl, ap, ◌∙◌, arith}
use Rattle.decimal.specs.declared.number.Number.{Number}
use Rattle.decimal.specs.Answer.{Answer, done}
use Rattle.decimal.specs.Truncation.{kept_count, kept_number}
use Rattle.decimal.proofs.NumberLaws.{number_path}
use Rattle.decimal.proofs.KeptLaws.{number_none, number_some}
use Rattle.decimal.proofs.cut.Fitting.truncated.Goals as goal

pub returns-then-kept_count-eq0 : goal.returns-then-kept_count-eq0
returns-then-kept_count-eq0 c place =
    let f = c.args.self.now in
    let none : kept_count f.image f.number ≡ 0 = omega (arith, c.kept_count.ensures, c.if-kept_count-eq0.true) in
    number_none f.image f.number f.fits place none

pub returns-else-kept_count-eq0 : goal.returns-else-kept_count-eq0
unfolding kept_number
returns-else-kept_count-eq0 c place =
    let f = c.args.self.now in
    let some : 0 < kept_count f.image f.number = omega (arith, c.kept_count.ensures, c.if-kept_count-eq0.false) in
    number_some f.image f.number f.fits some place
    ∙ sym (ap {B = Answer Number} done (number_path c.keeps_minus.ensures c.cut_mantissa.ensures refl))
