-- Document 01, Alpha text: the text of a number under an image.
use Rattle.std.specs.Prelude.{ℕ, zero, suc, ◌+◌, ◌/◌, ◌^◌, List, [], ◌∷◌, ◌++◌, Bool, true, false, ltb}
use Rattle.decimal.specs.declared.image.Sign.{Sign}
use Rattle.decimal.specs.declared.image.Sign.TheVariants.{Unsigned, Plus, Minus}
use Rattle.decimal.specs.declared.image.Image.{Image}
use Rattle.decimal.specs.declared.number.Number.{Number}
use Rattle.decimal.specs.Answer.{Answer, done, ◌then◌, pick}
use Rattle.decimal.specs.Digits.{digits_of}
use Rattle.decimal.specs.Number.{exponent_limit}
use Rattle.decimal.specs.Image.{plus_byte, minus_byte, point_byte, image_bytes, read_image}
use Rattle.decimal.specs.Truncation.{Truncated, truncation}
use Rattle.codec.specs.Columns.{sign_count}
use Rattle.codec.specs.Answers.{within}
use Rattle.codec.specs.Packing.{exponent_size}

abbrev pub blank_byte : ℕ
blank_byte = 0x20

-- the byte E
abbrev pub exponent_byte : ℕ
exponent_byte = 0x45

-- the byte of the digit 0
abbrev pub zero_byte : ℕ
zero_byte = 0x30

-- the bytes of digits
unfoldable pub digit_bytes : List ℕ → List ℕ
digit_bytes [] = []
digit_bytes (d ∷ ds) = (zero_byte + d) ∷ digit_bytes ds

-- the byte that stands for a number's sign under the sign of an image: - below zero, else + for + and a blank for any other
unfoldable pub sign_shown : Sign → Bool → ℕ
sign_shown Unsigned negative = pick negative minus_byte blank_byte
sign_shown Plus negative = pick negative minus_byte plus_byte
sign_shown Minus negative = pick negative minus_byte blank_byte

-- under + the first byte is + or −; under − it is blank or −; else there is none
unfoldable pub sign_text : Sign → Bool → List ℕ
sign_text Unsigned negative = []
sign_text Plus negative = pick negative minus_byte plus_byte ∷ []
sign_text Minus negative = pick negative minus_byte blank_byte ∷ []

-- the point where the image has it, and the f digits behind it
unfoldable pub fraction_text : ℕ → ℕ → List ℕ
fraction_text zero whole = []
fraction_text (suc f) whole = point_byte ∷ digit_bytes (digits_of (suc f) whole)

-- for exponential images E, a sign and two digits
unfoldable pub exponent_text : Bool → Truncated → List ℕ
exponent_text false t = []
exponent_text true t = exponent_byte ∷ (pick (ltb t.x exponent_limit) minus_byte plus_byte ∷ digit_bytes (digits_of 2 (exponent_size t)))

-- the text of a truncated number: the sign, the digits with leading zeros and the point, and the exponent
unfoldable pub alpha_text : Image → Truncated → List ℕ
alpha_text im t =
    sign_text im.sign t.negative
    ++ (digit_bytes (digits_of im.integer (t.whole / 10 ^ im.fraction))
    ++ (fraction_text im.fraction t.whole ++ exponent_text im.exponential t))

-- the alpha text of a number under an image: 1, 2, 3, 4, 5
unfoldable pub alpha_under : Image → Number → Answer (List ℕ)
alpha_under im n = truncation 0 im n then λ t. done (alpha_text im t)

-- the alpha text of a number under the bytes of an image
unfoldable pub alpha_of : List ℕ → Number → Answer (List ℕ)
alpha_of image n = read_image 0 image then λ im. alpha_under im n

-- a list's alpha texts are those of its numbers, each under its column's image
unfoldable pub alpha_texts : List Image → List Number → Answer (List (List ℕ))
alpha_texts [] ns = done []
alpha_texts (im ∷ ims) [] = done []
alpha_texts (im ∷ ims) (n ∷ ns) =
    alpha_of (image_bytes im) n then λ text. (alpha_texts ims ns then λ texts. done (text ∷ texts))

-- texts parted by one blank
unfoldable pub parted : List (List ℕ) → List ℕ
parted [] = []
parted (t ∷ []) = t
parted (t ∷ (u ∷ us)) = t ++ (blank_byte ∷ parted (u ∷ us))

-- the call under an image, into a buffer with so much room: last 6
unfoldable pub writing_alpha_under : Image → Number → ℕ → Answer (List ℕ)
writing_alpha_under im n room = alpha_under im n then within room

-- the alpha call, into a buffer with so much room: last 6
unfoldable pub writing_alpha : List ℕ → Number → ℕ → Answer (List ℕ)
writing_alpha image n room = alpha_of image n then within room

-- What the code's helpers ask and find.

-- zero with a stored exponent x, here x + exponentLimit
abbrev pub zero_at : ℕ → Truncated
zero_at x = record { negative = false; whole = 0; x = x }

-- the point and the digits behind it are so many bytes
unfoldable pub fraction_length : ℕ → ℕ
fraction_length zero = 0
fraction_length (suc f) = suc (suc f)

-- E, the sign of x and two digits
unfoldable pub exponent_length : Bool → ℕ
exponent_length true = 4
exponent_length false = 0

-- what stands behind the digits before the point is so many bytes
unfoldable pub tail_length : Image → ℕ
tail_length im = fraction_length im.fraction + exponent_length im.exponential

-- the length of a text, which is its image's
unfoldable pub text_length : Image → ℕ
text_length im = sign_count im.sign + (im.integer + tail_length im)

-- the length of texts under images, with one byte behind each
unfoldable pub line_length : List Image → ℕ
line_length [] = 0
line_length (im ∷ ims) = suc (text_length im) + line_length ims
