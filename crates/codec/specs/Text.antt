-- Document 01, Alpha text, second paragraph, and document 02, (i) and (v): text numbers.
use Rattle.std.specs.Prelude.{ℕ, zero, suc, ◌+◌, ◌-◌, ◌*◌, ◌^◌, ◌≤◌, ◌<◌, ◌≡◌, ◌↔◌, List, [], ◌∷◌, ◌++◌, Bool, true, false, ◌&&◌, length, take, drop, ltb, leb, eqb}
use Rattle.decimal.specs.declared.image.Sign.{Sign}
use Rattle.decimal.specs.declared.image.Sign.TheVariants.{Unsigned, Plus, Minus}
use Rattle.decimal.specs.declared.number.Number.{Number}
use Rattle.decimal.specs.Answer.{Answer, done, refused, ◌then◌, pick, meaning}
use Rattle.decimal.specs.Digits.{precision, Digits, value_of}
use Rattle.decimal.specs.Number.{exponent_limit, scaled_number}
use Rattle.decimal.specs.Constructors.{IsScaled, ScaledOutside}
use Rattle.decimal.specs.Image.{plus_byte, minus_byte, point_byte, sign_bytes, times, leading_run, leading_sign}
use Rattle.codec.specs.declared.text.Numeral.{Numeral}
use Rattle.codec.specs.declared.text.Reading.{Reading}
pub use Rattle.codec.specs.declared.text.TextNumber.{TextNumber}
use Rattle.codec.specs.Alpha.{blank_byte, exponent_byte, zero_byte, digit_bytes}

-- The form: blanks, an optional sign with blanks behind it, a numeral, blanks. A numeral is 1 to 13 digits with at most one point before,
-- among or after them, optionally E with an optional sign and one or two digits.

-- no sign, or one and the count of blanks behind it. Document 02, (v): "Blanks may now stand between the sign and the first digit or point ..
-- nowhere else inside"
pub data SignPart : Type 0 where
  no_sign : SignPart
  plus_sign : ℕ → SignPart
  minus_sign : ℕ → SignPart

-- no point, or a point and the digits behind it
pub data PointPart : Type 0 where
  no_point : PointPart
  point : List ℕ → PointPart

-- no exponent, or E with a sign and digits
pub data ExponentPart : Type 0 where
  no_exponent : ExponentPart
  exponent : Sign → List ℕ → ExponentPart

-- the parts of a numeral, digits as numbers
pub record NumeralParts : Type 0 where
  pub integer : List ℕ
  pub fraction : PointPart
  pub power : ExponentPart

-- the parts of a text number: the count of blanks, the sign and the blanks behind it, the numeral, the count of blanks
pub record TextParts : Type 0 where
  pub before : ℕ
  pub sign : SignPart
  pub numeral : NumeralParts
  pub behind : ℕ

unfoldable pub fraction_digits : PointPart → List ℕ
fraction_digits no_point = []
fraction_digits (point ds) = ds

-- all digits of a numeral, in order
abbrev pub all_digits_of : NumeralParts → List ℕ
all_digits_of u = u.integer ++ fraction_digits u.fraction

unfoldable pub point_bytes : PointPart → List ℕ
point_bytes no_point = []
point_bytes (point ds) = point_byte ∷ digit_bytes ds

unfoldable pub power_bytes : ExponentPart → List ℕ
power_bytes no_exponent = []
power_bytes (exponent sign ds) = exponent_byte ∷ (sign_bytes sign ++ digit_bytes ds)

-- the bytes of a numeral
unfoldable pub numeral_bytes : NumeralParts → List ℕ
numeral_bytes u = digit_bytes u.integer ++ (point_bytes u.fraction ++ power_bytes u.power)

-- the bytes of a sign and of the blanks behind it
unfoldable pub sign_part_bytes : SignPart → List ℕ
sign_part_bytes no_sign = []
sign_part_bytes (plus_sign blanks) = plus_byte ∷ times blanks blank_byte
sign_part_bytes (minus_sign blanks) = minus_byte ∷ times blanks blank_byte

-- the text of the parts
unfoldable pub text_bytes : TextParts → List ℕ
text_bytes t = times t.before blank_byte ++ (sign_part_bytes t.sign ++ (numeral_bytes t.numeral ++ times t.behind blank_byte))

-- one or two digits of an exponent
unfoldable pub PowerLegal : ExponentPart → Type 0
PowerLegal no_exponent = Unit {0}
PowerLegal (exponent sign ds) = Digits ds × ((1 ≤ length ds) × (length ds ≤ 2))

-- what a numeral may have: 1 to 13 digits, and an exponent of one or two
pub record Legal (u : NumeralParts) : Type 0 where
  pub digits : Digits (all_digits_of u)
  pub some : 1 ≤ length (all_digits_of u)
  pub few : length (all_digits_of u) ≤ precision
  pub powers : PowerLegal u.power

-- bytes have the form of a text number, with these parts
pub record HasForm (bytes : List ℕ) (t : TextParts) : Type 0 where
  pub legal : Legal t.numeral
  pub written : bytes ≡ text_bytes t

-- bytes have the form of a text number
abbrev pub IsText : List ℕ → Type 0
IsText bytes = (t : TextParts) × HasForm bytes t

-- The value, in whole numbers: the digits × 10^exponent / 10^(digits behind the point).

unfoldable pub is_minus : Sign → Bool
is_minus Unsigned = false
is_minus Plus = false
is_minus Minus = true

-- a minus is written; the blanks behind it play no part
unfoldable pub has_minus : SignPart → Bool
has_minus no_sign = false
has_minus (plus_sign blanks) = false
has_minus (minus_sign blanks) = true

-- the exponent plus exponentLimit
unfoldable pub power_value : ExponentPart → ℕ
power_value no_exponent = exponent_limit
power_value (exponent sign ds) = pick (is_minus sign) (exponent_limit - value_of ds) (exponent_limit + value_of ds)

-- a numeral, with a minus before it or none: the number in normal form; digits all zero give zero, sign and exponent set aside; else 5
-- where e is outside its limits
abbrev pub numeral_value : Bool → NumeralParts → Answer Number
numeral_value minus u =
    scaled_number 0 minus (value_of (all_digits_of u)) (power_value u.power) (exponent_limit + length (fraction_digits u.fraction))

-- the number of a text
unfoldable pub text_value : TextParts → Answer Number
text_value t = numeral_value (has_minus t.sign) t.numeral

-- The longest beginning that has the form.

-- of the beginnings of bytes that are of a kind the longest has this length; 0 where there is none
pub record LongestOf (Kind : List ℕ → Type 0) (bytes : List ℕ) (size : ℕ) : Type 0 where
  pub inside : size ≤ length bytes
  pub is : (size ≡ 0 → ⊥) → Kind (take size bytes)
  pub longest : (n : ℕ) → n ≤ length bytes → Kind (take n bytes) → n ≤ size

-- of those that have the form of a text number
abbrev pub LongestForm : List ℕ → ℕ → Type 0
LongestForm bytes size = LongestOf IsText bytes size

-- Reading it: each part takes as many bytes as it can.

-- how many blanks bytes begin with
abbrev pub blanks_in : List ℕ → ℕ
blanks_in bytes = leading_run blank_byte bytes

abbrev pub is_digit : ℕ → Bool
is_digit b = leb zero_byte b && ltb b (zero_byte + 10)

-- the digits that bytes begin with, at most so many
unfoldable pub digits_in : ℕ → List ℕ → List ℕ
digits_in zero bs = []
digits_in (suc n) [] = []
digits_in (suc n) (b ∷ bs) = pick (is_digit b) ((b - zero_byte) ∷ digits_in n bs) []

abbrev pub sign_length : Sign → ℕ
sign_length s = length (sign_bytes s)

-- a sign and so many blanks behind it; where there is no sign there are no blanks either
unfoldable pub sign_part : Sign → ℕ → SignPart
sign_part Unsigned blanks = no_sign
sign_part Plus blanks = plus_sign blanks
sign_part Minus blanks = minus_sign blanks

-- the sign that bytes begin with, and the blanks behind it
unfoldable pub sign_part_in : List ℕ → SignPart
sign_part_in bytes = sign_part (leading_sign bytes) (blanks_in (drop (sign_length (leading_sign bytes)) bytes))

abbrev pub sign_part_length : SignPart → ℕ
sign_part_length s = length (sign_part_bytes s)

-- the point that bytes begin with, and at most so many digits behind it
unfoldable pub point_in : ℕ → List ℕ → PointPart
point_in most [] = no_point
point_in most (b ∷ bs) = pick (eqb b point_byte) (point (digits_in most bs)) no_point

-- the exponent behind E: none where no digit follows
unfoldable pub power_of : Sign → List ℕ → ExponentPart
power_of sign [] = no_exponent
power_of sign (d ∷ ds) = exponent sign (d ∷ ds)

unfoldable pub power_in : List ℕ → ExponentPart
power_in [] = no_exponent
power_in (b ∷ bs) = pick (eqb b exponent_byte) (power_of (leading_sign bs) (digits_in 2 (drop (sign_length (leading_sign bs)) bs))) no_exponent

-- the numeral that bytes begin with; there may be no digit
unfoldable pub numeral_in : List ℕ → NumeralParts
numeral_in bytes =
    let integer : List ℕ = digits_in precision bytes in
    let pointed : List ℕ = drop (length integer) bytes in
    let fraction : PointPart = point_in (precision - length integer) pointed in
    let powered : List ℕ = drop (length (point_bytes fraction)) pointed in
    record { integer = integer; fraction = fraction; power = power_in powered }

-- the parts that bytes begin with; there may be no digit
unfoldable pub parts_in : List ℕ → TextParts
parts_in bytes =
    let before : ℕ = blanks_in bytes in
    let signed : List ℕ = drop before bytes in
    let sign : SignPart = sign_part_in signed in
    let unsigned : List ℕ = drop (sign_part_length sign) signed in
    let numeral : NumeralParts = numeral_in unsigned in
    let behind : ℕ = blanks_in (drop (length (numeral_bytes numeral)) unsigned) in
    record { before = before; sign = sign; numeral = numeral; behind = behind }

-- What bytes are read as: the longest beginning that has the form of a text number.
pub record TextReading : Type 0 where
  -- its length; 0 where there is none
  pub used : ℕ
  -- its number: 8 where there is none, 5 where e is outside its limits
  pub number : Answer Number

-- there is none
abbrev pub no_reading : TextReading
no_reading = record { used = 0; number = refused 8 0 }

-- a text number with these parts
abbrev pub reading_of : TextParts → TextReading
reading_of t = record { used = length (text_bytes t); number = text_value t }

-- what bytes begin with, each part as long as it can be; no text number where there is no digit
unfoldable pub reading_in : List ℕ → TextReading
reading_in bytes = pick (eqb (length (all_digits_of (parts_in bytes).numeral)) 0) no_reading (reading_of (parts_in bytes))

-- the code's answer
abbrev pub reading_meaning : Reading → TextReading
reading_meaning r = record { used = r.used; number = meaning r.number }

-- the legal length: that of the longest beginning that has the form, 0 if none
abbrev pub legal_length : List ℕ → ℕ
legal_length bytes = (reading_in bytes).used

-- Document 02, (i): "Reading a text number now takes the longest legal beginning and gives the number and how many bytes it used. ..
-- Refusal 8 is then given when the legal length is 0".

-- a text number read: 8 where the legal length is 0, else the number of that beginning and its length, or 5 where e is outside its limits
unfoldable pub read_text : List ℕ → Answer TextNumber
read_text bytes =
    pick (eqb (legal_length bytes) 0)
    (refused 8 0)
    ((reading_in bytes).number then λ n. done (record { number = n; used = legal_length bytes }))

-- What is read, apart from how: by the grammar, and by magnitudes. (The proofs' ReadingTheorem: `read_text` gives exactly this.)

-- a number is that of a text: in normal form, with its magnitude, minus exactly where a minus is written and the digits are not all zero
abbrev pub IsNumberOf : TextParts → Number → Type 0
IsNumberOf t n =
    IsScaled (has_minus t.sign) (value_of (all_digits_of t.numeral)) (power_value t.numeral.power)
    (exponent_limit + length (fraction_digits t.numeral.fraction)) n

-- e is outside its limits: the magnitude is not zero, and below 10^−99 or at least 10^100
abbrev pub IsOutside : TextParts → Type 0
IsOutside t =
    ScaledOutside (value_of (all_digits_of t.numeral)) (power_value t.numeral.power)
    (exponent_limit + length (fraction_digits t.numeral.fraction))

-- the longest beginning of bytes that has the form is so long, and has these parts
pub record Beginning (bytes : List ℕ) (size : ℕ) (t : TextParts) : Type 0 where
  pub some : 0 < size
  pub longest : LongestForm bytes size
  pub form : HasForm (take size bytes) t

-- the answer that bytes are due
pub data ReadsAs (bytes : List ℕ) : Answer TextNumber → Type 0 where
  -- no beginning has the form
  none : LongestForm bytes 0 → ReadsAs bytes (refused 8 0)
  -- the longest that has it is a number
  number : {size : ℕ} {t : TextParts} {n : Number} → Beginning bytes size t → IsNumberOf t n → ReadsAs bytes (done (record { number = n; used = size }))
  -- the longest that has it is none, as its e is outside its limits
  outside : {size : ℕ} {t : TextParts} → Beginning bytes size t → IsOutside t → ReadsAs bytes (refused 5 0)

-- a whole text: 8 where it does not have the form, ahead of 5
unfoldable pub convert_text : List ℕ → Answer Number
convert_text bytes = pick (eqb (legal_length bytes) (length bytes)) (reading_in bytes).number (refused 8 0)

-- what converting a whole text is, by reading it (document 02, (i): "converting a whole text still gives 8, ahead of 5, if bytes are left over")
pub record WholeText (bytes : List ℕ) : Type 0 where
  -- a number exactly where reading gives it and uses all bytes
  pub number : (n : Number) → (convert_text bytes ≡ done n) ↔ (read_text bytes ≡ done (record { number = n; used = length bytes }))
  -- where all bytes are used, it is refused as reading is
  pub refuses : (number place : ℕ) → legal_length bytes ≡ length bytes → (convert_text bytes ≡ refused number place) ↔ (read_text bytes ≡ refused number place)
  -- 8 where bytes are left over, whatever reading gives
  pub left_over : (legal_length bytes ≡ length bytes → ⊥) → convert_text bytes ≡ refused 8 0

-- texts are read as numbers, each using the whole of the text
pub data ReadWhole : List (List ℕ) → List Number → Type 0 where
  none : ReadWhole [] []
  more :
      {text : List ℕ} {n : Number} {texts : List (List ℕ)} {ns : List Number}
      → read_text text ≡ done (record { number = n; used = length text })
      → ReadWhole texts ns
      → ReadWhole (text ∷ texts) (n ∷ ns)

-- texts read back: each by converting the whole of it
unfoldable pub read_texts : List (List ℕ) → Answer (List Number)
read_texts [] = done []
read_texts (text ∷ texts) = convert_text text then λ t. (read_texts texts then λ ts. done (t ∷ ts))

-- What the code's helpers ask and find.

-- a whole number of so many digits fits the code's 64 bits
abbrev pub held_digits : ℕ
held_digits = 18

-- a value and so many digits behind it fit the code's 64 bits
abbrev pub DigitsFit : ℕ → ℕ → Type 0
DigitsFit start most = (start + 1) * 10 ^ most ≤ 10 ^ held_digits

-- the value of digits that stand behind a value
abbrev pub behind_value : ℕ → List ℕ → ℕ
behind_value start ds = start * 10 ^ length ds + value_of ds

-- the sign that bytes begin with and the blanks behind it: whether it is a minus, and the count of the bytes
pub record SignFound (bytes : List ℕ) (minus : Bool) (used : ℕ) : Type 0 where
  pub valued : minus ≡ has_minus (sign_part_in bytes)
  pub spanned : used ≡ sign_part_length (sign_part_in bytes)

-- the digits that bytes begin with, at most so many: their count, and the value of them behind a value
pub record RunFound (bytes : List ℕ) (most start value count : ℕ) : Type 0 where
  pub counted : count ≡ length (digits_in most bytes)
  pub valued : value ≡ behind_value start (digits_in most bytes)

-- the same of the digits behind a point, with the count of the bytes
pub record FractionFound (bytes : List ℕ) (most start value count used : ℕ) : Type 0 where
  pub counted : count ≡ length (fraction_digits (point_in most bytes))
  pub valued : value ≡ behind_value start (fraction_digits (point_in most bytes))
  pub spanned : used ≡ length (point_bytes (point_in most bytes))

-- the exponent that bytes begin with: its value, which is within its limits, and the count of its bytes
pub record PowerFound (bytes : List ℕ) (up used : ℕ) : Type 0 where
  pub small : up ≤ 2 * exponent_limit
  pub valued : up ≡ power_value (power_in bytes)
  pub spanned : used ≡ length (power_bytes (power_in bytes))

-- the numeral that bytes begin with: how many digits it has and their value, how many stand behind the point, the exponent, the count of
-- its bytes
pub record NumeralFound (bytes : List ℕ) (n : Numeral) : Type 0 where
  pub counted : n.count ≡ length (all_digits_of (numeral_in bytes))
  pub valued : n.value ≡ value_of (all_digits_of (numeral_in bytes))
  pub few : n.places ≤ precision
  pub placed : n.places ≡ length (fraction_digits (numeral_in bytes).fraction)
  pub small : n.up ≤ 2 * exponent_limit
  pub powered : n.up ≡ power_value (numeral_in bytes).power
  pub spanned : n.used ≡ length (numeral_bytes (numeral_in bytes))
