-- `number_of_cut` meets its contract: the mantissa is the cut's digits moved left past their zeros. Assumes nothing.
use Prim.Native.Nat.{ℕ, ◌+◌, ◌-◌, ◌*◌, ◌/◌, ◌%◌, ◌^◌}
use mathlib.Core.Path.{◌≡◌, ap, sym, ◌∙◌}
use native.Mathlib.Omega.{arith}
use Rattle.std.specs.Int.Count.{count_leading_zeros}
use Rattle.decimal.specs.declared.number.Number.{Number}
use Rattle.decimal.specs.Answer.{Answer, done}
use Rattle.decimal.specs.Digits.{value_of, halves_in, precision}
use Rattle.codec.specs.Unpacking.{all_digits}
use Rattle.codec.proofs.CutValueLaws.{number_zero, number_some, number_parts, whole_below, zeros_counted, moved_fits, moved_digits, moved_value}
use Rattle.codec.proofs.cut.number_of_cut.Goals as goal

pub returns-then-cut-eq0 : goal.returns-then-cut-eq0
returns-then-cut-eq0 c = number_zero c.args.cut.now.made c.if-cut-eq0.true

pub overflow_sub-zeros-2 : goal.overflow_sub-zeros-2
overflow_sub-zeros-2 c =
    let is = c.args.cut.now.made in
    omega (arith, zeros_counted _ (number_some is c.if-cut-eq0.false) (whole_below is) is.digits)

-- the digits, moved
moved : (halves z count : ℕ) → count / 4 ≡ z + (16 - precision) → halves * 2 ^ (4 * z) % 2 ^ 64 ≡ halves * 2 ^ (4 * z)
    → halves * 2 ^ (4 * (count / 4 - (16 - precision))) % 2 ^ 64 ≡ halves * 2 ^ (4 * z)
moved halves z count same fits =
    let zeros : count / 4 - (16 - precision) ≡ z = omega (arith, same) in
    ap (λ (k : ℕ). halves * 2 ^ (4 * k) % 2 ^ 64) zeros ∙ fits

pub whole_of-requires : goal.whole_of-requires
whole_of-requires c =
    let is = c.args.cut.now.made in
    let some = number_some is c.if-cut-eq0.false in
    let counted = zeros_counted _ some (whole_below is) is.digits in
    ap (λ (k : ℕ). all_digits (halves_in 16 k)) (moved c.args.cut.now.halves _ _ counted (moved_fits _ some (whole_below is) is.digits))
    ∙ moved_digits _ some (whole_below is) is.digits

pub overflow_sub-result-2 : goal.overflow_sub-result-2
overflow_sub-result-2 c =
    let is = c.args.cut.now.made in
    let some = number_some is c.if-cut-eq0.false in
    let parts = (number_parts is some).2 in
    omega (arith, parts.place, zeros_counted _ some (whole_below is) is.digits, c.from.ensures)

pub returns : goal.returns
returns c =
    let is = c.args.cut.now.made in
    let some = number_some is c.if-cut-eq0.false in
    let found = number_parts is some in
    let parts = found.2 in
    let counted = zeros_counted _ some (whole_below is) is.digits in
    let value =
    c.whole_of.ensures
    ∙ ap (λ (k : ℕ). value_of (halves_in 16 k)) (moved c.args.cut.now.halves _ _ counted (moved_fits _ some (whole_below is) is.digits))
    ∙ moved_value _ some (whole_below is) is.digits
    ∙ sym parts.tens in
    let exponent : found.0.exponent ≡ c.args.cut.now.x + (precision - 1) - (c.from.result + (count_leading_zeros 64 c.args.cut.now.halves / 4 - (16 - precision))) =
    omega (arith, parts.place, counted, c.from.ensures) in
    found.1 ∙ ap {B = Answer Number} done (λ i. record { negative = parts.same_sign i; mantissa = (sym value) i; exponent = exponent i })
