-- Document 01, Images, second paragraph: truncation of a number under an image.
use Rattle.std.specs.Prelude.{◌≡◌, ℕ, ◌+◌, ◌-◌, ◌*◌, ◌/◌, ◌^◌, ◌<◌, ◌≤◌, Bool, true, false, not, ◌&&◌, ◌==◌, nat_le, nat_lt}
use Rattle.decimal.specs.declared.number.Number.{Number}
use Rattle.decimal.specs.declared.image.Sign.{Sign}
use Rattle.decimal.specs.declared.image.Sign.TheVariants.{Unsigned, Plus, Minus}
use Rattle.decimal.specs.declared.image.Image.{Image}
use Rattle.decimal.specs.Answer.{Answer, done, refused, ◌then◌, pick}
use Rattle.decimal.specs.Digits.{precision}
use Rattle.decimal.specs.Number.{exponent_limit, normal, magnitude, unit, check_number, scaled_number}
use Rattle.decimal.specs.Image.{hashes, check_image}

-- whether an image has a sign
abbrev pub is_signed : Sign → Bool
is_signed Unsigned = false
is_signed Plus = true
is_signed Minus = true

-- fixed point: k is the whole part of magnitude × 10^f
abbrev pub fixed_whole : Image → Number → ℕ
fixed_whole im n = magnitude n * 10 ^ im.fraction / unit

-- exponential: k is the first n digits of m
abbrev pub leading_whole : Image → Number → ℕ
leading_whole im n = n.mantissa / 10 ^ (precision - hashes im)

-- the image's digits as a whole number k
unfoldable pub whole_of : Image → Number → ℕ
whole_of im n =
    pick im.exponential (leading_whole im n) (fixed_whole im n)

-- fixed point: the number exceeds the image when k ≥ 10^n
unfoldable pub exceeds : Image → Number → Bool
exceeds im n = nat_le (10 ^ hashes im) (fixed_whole im n)

-- exponential: x = e − i + 1, here x + exponentLimit (0 where x is below −exponentLimit)
abbrev pub placed_exponent : Image → Number → ℕ
placed_exponent im n = n.exponent + 1 - im.integer

-- exponential: x is outside −99 to 99; zero has x = 0
unfoldable pub exponent_outside : Image → Number → Bool
exponent_outside im n =
    pick (n.mantissa == 0)
    false
    (pick (nat_lt (n.exponent + 1) im.integer) true (nat_lt (2 * exponent_limit) (placed_exponent im n)))

-- the stored exponent x, as x + exponentLimit: zero has x = 0; fixed point stores none, here x = 0
unfoldable pub stored_exponent : Image → Number → ℕ
stored_exponent im n =
    pick (n.mantissa == 0) exponent_limit (pick im.exponential (placed_exponent im n) exponent_limit)

-- a truncated number: its sign, its image's digits as a whole number k, and its stored exponent x as x + exponentLimit
pub record Truncated : Type 0 where
  pub negative : Bool
  pub whole : ℕ
  pub x : ℕ

-- the sign stays under an image that has one, but a truncation to zero is plus
unfoldable pub truncated_to : Image → Number → Truncated
truncated_to im n =
    record {
      negative = is_signed im.sign && (n.negative && not (whole_of im n == 0));
      whole = whole_of im n;
      x = stored_exponent im n;
    }

-- 5 where the exponent is outside its limits, 4 where the number exceeds the image
unfoldable pub limited : ℕ → Image → Number → Answer Truncated
limited place im n =
    pick im.exponential
    (pick (exponent_outside im n) (refused 5 place) (done (truncated_to im n)))
    (pick (exceeds im n) (refused 4 place) (done (truncated_to im n)))

-- the truncation of a number under an image: 1 and 2 for the image, 3 for the number, then 4 or 5
unfoldable pub truncation : ℕ → Image → Number → Answer Truncated
truncation place im n = check_image place im then λ _. (check_number place n then λ _. limited place im n)

-- packing refuses a negative x under an unsigned image (5)
unfoldable pub packable : ℕ → Image → Truncated → Answer Truncated
packable place im t = pick (not (is_signed im.sign) && nat_lt t.x exponent_limit) (refused 5 place) (done t)

-- the truncation of a number to be packed
unfoldable pub packed_truncation : ℕ → Image → Number → Answer Truncated
packed_truncation place im n = truncation place im n then packable place im

-- the number that a truncation stands for: k / 10^f in fixed point, k / 10^f × 10^x in exponential form
unfoldable pub number_of : ℕ → Image → Truncated → Answer Number
number_of place im t = scaled_number place t.negative t.whole t.x (exponent_limit + im.fraction)

-- a number's truncation under an image, as a number
unfoldable pub truncated_number : ℕ → Image → Number → Answer Number
truncated_number place im n = truncation place im n then number_of place im

-- What the code's helpers ask and find.

-- a number that an image can truncate
pub record Fit (im : Image) (n : Number) : Type 0 where
  pub nonempty : 0 < hashes im
  pub size : hashes im ≤ precision
  pub number_checked : normal n ≡ true
  pub within : pick im.exponential (exponent_outside im n) (exceeds im n) ≡ false

-- how many of the mantissa's first digits an image keeps: the digits of k with no zeros before them
unfoldable pub kept_count : Image → Number → ℕ
kept_count im n =
    pick (n.mantissa == 0)
    0
    (pick im.exponential (hashes im) (n.exponent + im.fraction + 1 - exponent_limit))

-- how many of the mantissa's last digits become zero
abbrev pub dropped_count : Image → Number → ℕ
dropped_count im n = precision - kept_count im n

-- the number whose mantissa has those digits zero, with the truncation's sign
unfoldable pub kept_number : Image → Number → Number
kept_number im n =
    record {
      negative = is_signed im.sign && (n.negative && not (kept_count im n == 0));
      mantissa = n.mantissa / 10 ^ dropped_count im n * 10 ^ dropped_count im n;
      exponent = n.exponent;
    }

-- the number that a truncation stands for is in normal form and truncates to itself: the same sign, digits and stored exponent
pub record TruncatesToItself (place : ℕ) (im : Image) (t : Truncated) : Type 0 where
  pub number : Number
  pub stands_for : number_of place im t ≡ done number
  pub is_normal : normal number ≡ true
  pub again : truncation place im number ≡ done t
