-- `decimal::digits::packed_digits` meets its contract. The loop's invariant: the digits so far, behind a rest that has the others, are held
-- as one number. Assumes nothing.
use Rattle.std.proofs.Common.{◌≡◌, ℕ, ◌+◌, ◌-◌, ◌*◌, ◌^◌, ◌<◌, take, drop}
use Rattle.decimal.specs.Digits.{precision, digits_of, packed_of}
use Rattle.decimal.proofs.digits.packed_digits.Given as goal

-- the loop's state: so many digits are packed, and the rest before them has the others
pub record SoFar (mantissa done held : ℕ) : Type 0 where
  pub rest : ℕ
  pub split : held ≡ rest * 2 ^ (4 * done) + packed_of (take done (digits_of precision mantissa))
  pub others : digits_of (precision - done) rest ≡ drop done (digits_of precision mantissa)
  pub below : rest < 10 ^ (precision - done)

abbrev pub invariant-loop-done : goal.invariant-loop-done
invariant-loop-done l = SoFar l.mantissa l.done l.held
