-- Document 01, Numbers: normal form, the meaning of a number, and its constructors.
use Rattle.std.specs.Prelude.{ℕ, ◌+◌, ◌-◌, ◌*◌, ◌^◌, Bool, false, not, ◌&&◌, ℤ, pos, negsuc, ◌+ℤ◌, ◌-ℤ◌, ◌==◌, nat_le, nat_lt}
use Rattle.decimal.specs.declared.number.Number.{Number}
use Rattle.decimal.specs.Answer.{Answer, done, refused, pick}
use Rattle.decimal.specs.Digits.{precision, leading_zeros}

-- the largest exponent: document 01's 99. A number holds its exponent e as e + exponentLimit
abbrev pub exponent_limit : ℕ
exponent_limit = 99

-- zero: plus, m = 0, e = 0
abbrev pub zero_number : Number
zero_number = record { negative = false; mantissa = 0; exponent = exponent_limit }

-- the largest magnitude
abbrev pub largest_number : Number
largest_number = record { negative = false; mantissa = 10 ^ precision - 1; exponent = 2 * exponent_limit }

-- zero is plus, m = 0, e = 0; otherwise m is from 10^12 to 10^13 − 1 and e from −99 to 99
unfoldable pub normal : Number → Bool
normal n =
    pick (n.mantissa == 0)
    (not n.negative && n.exponent == exponent_limit)
    (nat_le (10 ^ (precision - 1)) n.mantissa && (nat_lt n.mantissa (10 ^ precision) && nat_le n.exponent (2 * exponent_limit)))

-- the meaning of a number is its magnitude m × 10^(e − 12), here as a whole number of units of 10^−(99 + 12), and its sign
unfoldable pub magnitude : Number → ℕ
magnitude n = n.mantissa * 10 ^ n.exponent

-- document 01's exponent e of a number
abbrev pub exponent_of : Number → ℤ
exponent_of n = pos n.exponent -ℤ pos exponent_limit

-- 99 + 12: every magnitude is a whole multiple of 10^−scale
abbrev pub scale : ℕ
scale = exponent_limit + (precision - 1)

-- one, in those units
abbrev pub unit : ℕ
unit = 10 ^ scale

-- the number, or 3 where it is not in normal form
unfoldable pub check_number : ℕ → Number → Answer Number
check_number place n = pick (normal n) (done n) (refused 3 place)

-- the number of a sign, a mantissa and e + exponentLimit
abbrev pub new_number : ℕ → Bool → ℕ → ℕ → Answer Number
new_number place negative mantissa exponent =
    check_number place (record { negative = negative; mantissa = mantissa; exponent = exponent })

-- the number of a sign, a mantissa and an integer e + exponentLimit: 3 where that is below zero, since then e is below −exponentLimit
abbrev pub held_number : ℕ → Bool → ℕ → ℤ → Answer Number
held_number place negative mantissa (pos held) = new_number place negative mantissa held
held_number place negative mantissa (negsuc k) = refused 3 place

-- the number of a sign, a mantissa and document 01's exponent e, any integer; 3 where e is outside −99 to 99 or that is not normal
unfoldable pub parts_number : ℕ → Bool → ℕ → ℤ → Answer Number
parts_number place negative mantissa e = held_number place negative mantissa (e +ℤ pos exponent_limit)

-- the number with m = whole × 10^zeros and the exponent e = up − down + 12 − zeros, 5 where e is outside its limits
unfoldable pub shifted_number : ℕ → Bool → ℕ → ℕ → ℕ → ℕ → Answer Number
shifted_number place negative whole up down zeros =
    pick (nat_lt (exponent_limit + (precision - 1) + up) (down + zeros))
    (refused 5 place)
    (pick (nat_lt (2 * exponent_limit) (exponent_limit + (precision - 1) + up - (down + zeros)))
    (refused 5 place)
    (done
    (record {
      negative = negative;
      mantissa = whole * 10 ^ zeros;
      exponent = exponent_limit + (precision - 1) + up - (down + zeros);
    })))

-- the normal number with the magnitude whole × 10^up / 10^down: 3 where whole has over 13 digits, then zero, then 5 where e is outside.
-- For 3 the digits of whole are counted, zeros at its end too: 10^13 is refused, although 1 with up = 13 gives the number of that magnitude
unfoldable pub scaled_number : ℕ → Bool → ℕ → ℕ → ℕ → Answer Number
scaled_number place negative whole up down =
    pick (nat_le (10 ^ precision) whole)
    (refused 3 place)
    (pick (whole == 0)
    (done zero_number)
    (shifted_number place negative whole up down (leading_zeros precision whole)))

-- the number of a whole count of wheel steps: 3 for 10^13 and above, also where a normal number has that magnitude, as for 10^13 itself
abbrev pub steps_number : ℕ → Answer Number
steps_number steps = scaled_number 0 false steps 0 0
