-- Document 01, Packed bodies: the size of a column.
use Rattle.codec.specs.Lists.{max_columns}
use Rattle.std.specs.Prelude.{length, ℕ, ◌+◌, ◌/◌, ◌%◌, ◌<◌, ◌≤◌, List, [], ◌∷◌, Bool, true, false}
use Rattle.decimal.specs.declared.image.Sign.{Sign}
use Rattle.decimal.specs.declared.image.Sign.TheVariants.{Unsigned, Plus, Minus}
use Rattle.decimal.specs.declared.image.Image.{Image}
use Rattle.decimal.specs.Digits.{precision}
use Rattle.decimal.specs.Image.{hashes}

-- The size of a column: the sign half if the image has a sign, the n digits, two digits of |x| if it is exponential, and a zero half
-- if that count is odd.

abbrev pub sign_count : Sign → ℕ
sign_count Unsigned = 0
sign_count Plus = 1
sign_count Minus = 1

abbrev pub exponent_count : Bool → ℕ
exponent_count true = 2
exponent_count false = 0

-- the halves before the padding
abbrev pub half_count : Image → ℕ
half_count im = sign_count im.sign + (hashes im + exponent_count im.exponential)

-- the zero halves that fill the last byte: one if the count is odd
abbrev pub pad_count : Image → ℕ
pad_count im = half_count im % 2

-- each column fills whole bytes
unfoldable pub column_size : Image → ℕ
column_size im = (half_count im + pad_count im) / 2

unfoldable pub body_size : List Image → ℕ
body_size [] = 0
body_size (im ∷ ims) = column_size im + body_size ims

-- an image that a contents can have: 1 to 13 # signs
pub record Checked (im : Image) : Type 0 where
  pub nonempty : 0 < hashes im
  pub fits : hashes im ≤ precision

pub data AllChecked : List Image → Type 0 where
  none : AllChecked []
  more : {im : Image} {ims : List Image} → Checked im → AllChecked ims → AllChecked (im ∷ ims)

-- images that a contents can have: 1 to 16, each such an image
pub record Sound (ims : List Image) : Type 0 where
  pub all : AllChecked ims
  pub low : 1 ≤ length ims
  pub high : length ims ≤ max_columns
