-- A column's parts.
use Rattle.std.specs.Prelude.{ℕ, ◌≡◌, List}
use Rattle.decimal.specs.declared.image.Image.{Image}
use Rattle.decimal.specs.Digits.{packed_of}
use Rattle.codec.specs.declared.reading.ColumnHalves.{ColumnHalves}
use Rattle.codec.specs.Unpacking.{sign_part, digit_part, exponent_part, pad_part}

-- a column's parts, each as half bytes of a number
pub record PartsOf (im : Image) (hs : List ℕ) (p : ColumnHalves) : Type 0 where
  pub sign : p.sign ≡ sign_part im.sign hs
  pub digits : p.digits ≡ packed_of (digit_part im hs)
  pub exponent : p.exponent ≡ packed_of (exponent_part im hs)
  pub pad : p.pad ≡ packed_of (pad_part im hs)
