-- Exactly when each constructor of numbers gives which answer: what is proved of the definitions in Number.
use Rattle.std.specs.Prelude.{◌≡◌, ℕ, suc, ◌+◌, ◌*◌, ◌^◌, ◌<◌, ◌≤◌, Bool, true, false, not, ◌&&◌, ◌⊎◌, ◌↔◌, ℤ, pos, neg_ℤ, ◌≤ℤ◌, ◌==◌}
use Rattle.decimal.specs.declared.number.Number.{Number}
use Rattle.decimal.specs.Answer.{done, refused}
use Rattle.decimal.specs.Digits.{precision}
use Rattle.decimal.specs.Number.{exponent_limit, normal, magnitude, exponent_of, unit, parts_number, scaled_number, steps_number}

-- a number in normal form with a sign, a mantissa and document 01's exponent e
pub record IsParts (negative : Bool) (mantissa : ℕ) (e : ℤ) (n : Number) : Type 0 where
  pub form : normal n ≡ true
  pub sign : n.negative ≡ negative
  pub digits : n.mantissa ≡ mantissa
  pub power : exponent_of n ≡ e

-- the two answers of a sign, a mantissa and an exponent, each exactly where it is due
pub record PartsExactly (place : ℕ) (negative : Bool) (mantissa : ℕ) (e : ℤ) : Type 0 where
  -- the number that is asked for, exactly
  pub number : (n : Number) → (parts_number place negative mantissa e ≡ done n) ↔ IsParts negative mantissa e n
  -- 3 exactly where there is none
  pub three : (parts_number place negative mantissa e ≡ refused 3 place) ↔ ((n : Number) → IsParts negative mantissa e n → ⊥)
  -- there is no other answer
  pub one_of : ((n : Number) × (parts_number place negative mantissa e ≡ done n)) ⊎ (parts_number place negative mantissa e ≡ refused 3 place)
  -- where a number is given, e is from −99 to 99
  pub limits : {n : Number} → parts_number place negative mantissa e ≡ done n → (neg_ℤ (pos exponent_limit) ≤ℤ e) × (e ≤ℤ pos exponent_limit)

-- a number in normal form with the magnitude whole × 10^up / 10^down, minus exactly where that is asked and whole is not zero
pub record IsScaled (negative : Bool) (whole up down : ℕ) (n : Number) : Type 0 where
  pub form : normal n ≡ true
  pub sign : n.negative ≡ (negative && not (whole == 0))
  pub size : magnitude n * 10 ^ down ≡ whole * 10 ^ up * unit

-- the magnitude whole × 10^up / 10^down is not zero, and below 10^−99 or at least 10^100: its e is below −99 or above 99
pub data ScaledOutside (whole up down : ℕ) : Type 0 where
  too_small : 0 < whole → whole * 10 ^ (up + exponent_limit) < 10 ^ down → ScaledOutside whole up down
  too_large : 10 ^ (down + suc exponent_limit) ≤ whole * 10 ^ up → ScaledOutside whole up down

-- the three answers of the scaled number, each exactly where it is due
pub record ScaledExactly (place : ℕ) (negative : Bool) (whole up down : ℕ) : Type 0 where
  -- 3 exactly where whole has over 13 digits
  pub three : (scaled_number place negative whole up down ≡ refused 3 place) ↔ (10 ^ precision ≤ whole)
  -- 5 exactly where it has not, and e would be outside its limits
  pub five : (scaled_number place negative whole up down ≡ refused 5 place) ↔ ((whole < 10 ^ precision) × ScaledOutside whole up down)
  -- a number exactly where it has not, and the number is the one asked for
  pub number :
      (n : Number) → (scaled_number place negative whole up down ≡ done n) ↔ ((whole < 10 ^ precision) × IsScaled negative whole up down n)
  -- there is no other answer
  pub one_of :
      ((n : Number) × (scaled_number place negative whole up down ≡ done n))
      ⊎ ((scaled_number place negative whole up down ≡ refused 3 place) ⊎ (scaled_number place negative whole up down ≡ refused 5 place))

-- a number in normal form, plus, with the magnitude of a whole count of steps
pub record IsSteps (steps : ℕ) (n : Number) : Type 0 where
  pub form : normal n ≡ true
  pub sign : n.negative ≡ false
  pub size : magnitude n ≡ steps * unit

-- the two answers of a count of steps, each exactly where it is due
pub record StepsExactly (steps : ℕ) : Type 0 where
  -- 3 exactly from 10^13 on
  pub three : (steps_number steps ≡ refused 3 0) ↔ (10 ^ precision ≤ steps)
  -- a number exactly below, and the number is the one asked for
  pub number : (n : Number) → (steps_number steps ≡ done n) ↔ ((steps < 10 ^ precision) × IsSteps steps n)
  -- there is no other answer
  pub one_of : ((n : Number) × (steps_number steps ≡ done n)) ⊎ (steps_number steps ≡ refused 3 0)
