-- Known values of document 02, (i) and (v), stated over the definitions that the calls promise, and computed from the rules: what texts with a
-- remark behind the number, and with blanks behind the sign, are read as and converted to, and texts without a number.
use Rattle.std.specs.Prelude.{ℕ, ◌+◌, ◌-◌, ◌≡◌, refl, true, false, List, [], ◌∷◌, ◌++◌, length}
use Rattle.decimal.specs.declared.number.Number.{Number}
use Rattle.decimal.specs.Answer.{Answer, done, refused, ◌then◌}
use Rattle.decimal.specs.Digits.{value_of, leading_zeros}
use Rattle.decimal.specs.Number.{exponent_limit, zero_number, shifted_number, scaled_number}
use Rattle.decimal.specs.Image.{leading_sign, plus_byte, minus_byte, point_byte, sign_bytes, times}
use Rattle.codec.specs.Alpha.{blank_byte, exponent_byte, digit_bytes}
use Rattle.codec.specs.Text.{fraction_digits, sign_part_bytes, point_bytes, power_bytes, numeral_bytes, text_bytes, is_minus, has_minus, power_value, text_value, digits_in}
use Rattle.codec.specs.Text.{sign_part, sign_part_in, point_in, power_of, power_in, numeral_in, parts_in, reading_in, TextNumber, read_text, convert_text}
use Rattle.codec.specs.declared.walking.Stop.TheVariants as gives
use Rattle.codec.specs.Walking.{bytes_before, number_place, Walk, stop_before, stopped, with_number, numbers_in, walking}

-- a number of plus sign, read with so many bytes
pub read_number : ℕ → ℕ → ℕ → Answer TextNumber
read_number mantissa e used =
    done (record { number = record { negative = false; mantissa = mantissa; exponent = exponent_limit + e }; used = used })

-- the remark
pub torn : List ℕ
torn = 0x74 ∷ (0x6F ∷ (0x72 ∷ (0x6E ∷ [])))

-- a blank and a remark behind bytes
pub remarked : List ℕ → List ℕ
remarked bytes = bytes ++ (blank_byte ∷ torn)

-- 0012.5
pub position : List ℕ
position = digit_bytes (0 ∷ (0 ∷ (1 ∷ (2 ∷ [])))) ++ (point_byte ∷ digit_bytes (5 ∷ []))

-- 12E99
pub large : List ℕ
large = digit_bytes (1 ∷ (2 ∷ [])) ++ (exponent_byte ∷ digit_bytes (9 ∷ (9 ∷ [])))

-- 14 digits: 12345678901234
pub fourteen : List ℕ
fourteen = digit_bytes (1 ∷ (2 ∷ (3 ∷ (4 ∷ (5 ∷ (6 ∷ (7 ∷ (8 ∷ (9 ∷ (0 ∷ (1 ∷ (2 ∷ (3 ∷ (4 ∷ []))))))))))))))

-- what a text is read as, and what the whole of it is converted to
pub record ReadAndConverted (text : List ℕ) (read : Answer TextNumber) (whole : Answer Number) : Type 0 where
  pub reads : read_text text ≡ read
  pub converts : convert_text text ≡ whole

-- a text without a number at its front: 8 and 8
abbrev pub NoNumber : List ℕ → Type 0
NoNumber text = ReadAndConverted text (refused 8 0) (refused 8 0)

-- a text that is a text number to its end, of this number
abbrev pub WholeNumber : List ℕ → Number → Type 0
WholeNumber text n = ReadAndConverted text (done (record { number = n; used = length text })) (done n)

-- -12.5, -0.5 and 7
pub minus_twelve : Number
minus_twelve = record { negative = true; mantissa = 1250000000000; exponent = exponent_limit + 1 }

pub minus_half : Number
minus_half = record { negative = true; mantissa = 5000000000000; exponent = exponent_limit - 1 }

pub seven : Number
seven = record { negative = false; mantissa = 7000000000000; exponent = exponent_limit }

-- what walking 12 - 15 gives, up to its end: 12, and 15 with a minus
pub twelve_and_fifteen : Walk
twelve_and_fifteen =
    record {
      answer = done gives.End;
      numbers =
          record { negative = false; mantissa = 1200000000000; exponent = exponent_limit + 1 }
          ∷ (record { negative = true; mantissa = 1500000000000; exponent = exponent_limit + 1 } ∷ []);
      place = 7;
    }

-- 12.5
pub twelve : List ℕ
twelve = digit_bytes (1 ∷ (2 ∷ [])) ++ (point_byte ∷ digit_bytes (5 ∷ []))

-- a minus and a blank before bytes
pub spaced : List ℕ → List ℕ
spaced bytes = minus_byte ∷ (blank_byte ∷ bytes)

-- the rows that the program `vectors` has too
pub record KnownTexts : Type 0 where
  -- 0012.5 torn: 12.5 and 7 bytes, the blank among them; as a whole, 8
  pub remark : ReadAndConverted (remarked position) (read_number 1250000000000 1 7) (refused 8 0)
  -- 12E99 torn: 5; as a whole, 8
  pub large_remarked : ReadAndConverted (remarked large) (refused 5 0) (refused 8 0)
  -- 12E99: 5 both times
  pub large_alone : ReadAndConverted large (refused 5 0) (refused 5 0)
  -- torn, no bytes, blanks, a sign
  pub remark_alone : NoNumber torn
  pub no_bytes : NoNumber []
  pub blanks_alone : NoNumber (times 3 blank_byte)
  pub sign_alone : NoNumber (minus_byte ∷ [])
  -- 1 2: 1 and 2 bytes; as a whole, 8
  pub two_numbers : ReadAndConverted (digit_bytes (1 ∷ []) ++ (blank_byte ∷ digit_bytes (2 ∷ []))) (read_number 1000000000000 0 2) (refused 8 0)
  -- 14 digits: the first 13 of them; as a whole, 8
  pub many_digits : ReadAndConverted fourteen (read_number 1234567890123 12 13) (refused 8 0)
  -- Document 02, (v). - 12.5, - .5, +   7 and a blank: all of them
  pub blank_digits : WholeNumber (spaced twelve) minus_twelve
  pub blank_point : WholeNumber (spaced (point_byte ∷ digit_bytes (5 ∷ []))) minus_half
  pub blanks_plus : WholeNumber (plus_byte ∷ (times 3 blank_byte ++ (digit_bytes (7 ∷ []) ++ (blank_byte ∷ [])))) seven
  -- - 0: zero, with plus
  pub blank_zero : WholeNumber (spaced (digit_bytes (0 ∷ []))) zero_number
  -- - 12.5 torn: 7 bytes, both blanks among them; as a whole, 8
  pub blank_remarked : ReadAndConverted (remarked (spaced twelve)) (done (record { number = minus_twelve; used = 7 })) (refused 8 0)
  -- a sign and a blank, two signs with a blank between them, a sign, a blank and a point: none
  pub blank_alone : NoNumber (spaced [])
  pub blank_sign : NoNumber (spaced (minus_byte ∷ digit_bytes (1 ∷ [])))
  pub blank_bare_point : NoNumber (spaced (point_byte ∷ []))
  -- no blank elsewhere inside: 1E- 5 has 1 byte, 1E 5 too, 1. 5 has the blank as its last, 1 .5 too, and . 5 is none
  pub power_blank :
      ReadAndConverted (digit_bytes (1 ∷ []) ++ (exponent_byte ∷ spaced (digit_bytes (5 ∷ [])))) (read_number 1000000000000 0 1) (refused 8 0)
  pub letter_blank :
      ReadAndConverted (digit_bytes (1 ∷ []) ++ (exponent_byte ∷ (blank_byte ∷ digit_bytes (5 ∷ [])))) (read_number 1000000000000 0 1) (refused 8 0)
  pub behind_point :
      ReadAndConverted (digit_bytes (1 ∷ []) ++ (point_byte ∷ (blank_byte ∷ digit_bytes (5 ∷ [])))) (read_number 1000000000000 0 3) (refused 8 0)
  pub before_point :
      ReadAndConverted (digit_bytes (1 ∷ []) ++ (blank_byte ∷ (point_byte ∷ digit_bytes (5 ∷ [])))) (read_number 1000000000000 0 2) (refused 8 0)
  pub bare_point_blank : NoNumber (point_byte ∷ (blank_byte ∷ digit_bytes (5 ∷ [])))
  -- 12 - 15 walked: a dash parted by blanks from the number behind it is its sign
  pub dash_walked : walking (digit_bytes (1 ∷ (2 ∷ [])) ++ (blank_byte ∷ spaced (digit_bytes (1 ∷ (5 ∷ []))))) 0 ≡ twelve_and_fifteen
  -- torn - 5: the next number begins at the blank before the dash, and - torn 5 has its first behind the remark
  pub dash_place : number_place (torn ++ (blank_byte ∷ spaced (digit_bytes (5 ∷ [])))) 0 ≡ 4
  pub dash_skipped : number_place (spaced torn ++ (blank_byte ∷ digit_bytes (5 ∷ []))) 0 ≡ 6

-- all of them hold
pub known_texts : KnownTexts
unfolding read_number minus_twelve minus_half seven twelve_and_fifteen torn remarked position large fourteen twelve spaced ◌then◌ value_of leading_zeros shifted_number scaled_number times sign_bytes digit_bytes
    fraction_digits sign_part_bytes point_bytes power_bytes text_bytes is_minus has_minus power_value text_value digits_in leading_sign sign_part sign_part_in point_in
    power_of power_in parts_in numeral_bytes numeral_in reading_in read_text convert_text bytes_before number_place stop_before stopped with_number numbers_in
    walking
known_texts =
    record {
      remark = record { reads = refl; converts = refl };
      large_remarked = record { reads = refl; converts = refl };
      large_alone = record { reads = refl; converts = refl };
      remark_alone = record { reads = refl; converts = refl };
      no_bytes = record { reads = refl; converts = refl };
      blanks_alone = record { reads = refl; converts = refl };
      sign_alone = record { reads = refl; converts = refl };
      two_numbers = record { reads = refl; converts = refl };
      many_digits = record { reads = refl; converts = refl };
      blank_digits = record { reads = refl; converts = refl };
      blank_point = record { reads = refl; converts = refl };
      blanks_plus = record { reads = refl; converts = refl };
      blank_zero = record { reads = refl; converts = refl };
      blank_remarked = record { reads = refl; converts = refl };
      blank_alone = record { reads = refl; converts = refl };
      blank_sign = record { reads = refl; converts = refl };
      blank_bare_point = record { reads = refl; converts = refl };
      power_blank = record { reads = refl; converts = refl };
      letter_blank = record { reads = refl; converts = refl };
      behind_point = record { reads = refl; converts = refl };
      before_point = record { reads = refl; converts = refl };
      bare_point_blank = record { reads = refl; converts = refl };
      dash_walked = refl;
      dash_place = refl;
      dash_skipped = refl;
    }
