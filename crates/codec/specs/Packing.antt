-- Document 01, Packed bodies: what a list packs to.
use Rattle.std.specs.Prelude.{ℕ, suc, ◌+◌, ◌-◌, ◌≤◌, ◌≡◌, List, [], ◌∷◌, ◌++◌, Bool, true, false, length, ltb, eqb}
use Rattle.decimal.specs.declared.image.Sign.{Sign}
use Rattle.decimal.specs.declared.image.Sign.TheVariants.{Unsigned, Plus, Minus}
use Rattle.decimal.specs.declared.image.Image.{Image}
use Rattle.decimal.specs.declared.number.Number.{Number}
use Rattle.decimal.specs.Answer.{Answer, done, refused, ◌then◌, pick}
use Rattle.decimal.specs.Digits.{precision, digits_of, zeros}
use Rattle.decimal.specs.Number.{exponent_limit, normal}
use Rattle.decimal.specs.Image.{hashes}
use Rattle.decimal.specs.Truncation.{is_signed, exceeds, exponent_outside, stored_exponent, Truncated, packable, packed_truncation}
use Rattle.codec.specs.Answers.{within}
use Rattle.codec.specs.Columns.{pad_count}
use Rattle.codec.specs.Contents.{IsContents, read_alone}
use Rattle.codec.specs.Halves.{pack_halves}

-- |x|
unfoldable pub exponent_size : Truncated → ℕ
exponent_size t = pick (ltb t.x exponent_limit) (exponent_limit - t.x) (t.x - exponent_limit)

-- the sign half: 0, plus 1 if the number is negative, plus 8 if x is negative
unfoldable pub sign_half : Truncated → ℕ
sign_half t = pick t.negative 1 0 + pick (ltb t.x exponent_limit) 8 0

unfoldable pub sign_halves : Sign → Truncated → List ℕ
sign_halves Unsigned t = []
sign_halves Plus t = sign_half t ∷ []
sign_halves Minus t = sign_half t ∷ []

unfoldable pub exponent_halves : Bool → Truncated → List ℕ
exponent_halves true t = digits_of 2 (exponent_size t)
exponent_halves false t = []

-- a column's run of half bytes: the sign half if the image has a sign, the n digits, for exponential images two digits of |x|,
-- then one zero half if the count so far is odd
unfoldable pub column_halves : Image → Truncated → List ℕ
column_halves im t =
    sign_halves im.sign t
    ++ (digits_of (hashes im) t.whole ++ (exponent_halves im.exponential t ++ zeros (pad_count im)))

-- a column's bytes
unfoldable pub column_bytes : Image → Truncated → List ℕ
column_bytes im t = pack_halves (column_halves im t)

-- the column of a truncated number, into a buffer with so much room: 5 as packing refuses it, last 6
unfoldable pub storing_column : Image → Truncated → ℕ → Answer (List ℕ)
storing_column im t room = packable 0 im t then λ u. within room (column_bytes im u)

-- the columns in order; 3, 4, 5 from the left
unfoldable pub pack_columns : ℕ → List Image → List Number → Answer (List ℕ)
pack_columns column [] ns = done []
pack_columns column (im ∷ ims) [] = done []
pack_columns column (im ∷ ims) (n ∷ ns) =
    packed_truncation column im n then λ t.
    (pack_columns (suc column) ims ns then λ rest. done (column_bytes im t ++ rest))

-- a list under the images of a contents: 10 for a list of another length
unfoldable pub pack_list : List Image → List Number → Answer (List ℕ)
pack_list ims ns = pick (eqb (length ns) (length ims)) (pack_columns 0 ims ns) (refused 10 0)

-- the body that a list packs to under a contents; the room in a buffer plays no part in this
unfoldable pub body_of : List ℕ → List Number → Answer (List ℕ)
body_of contents ns = read_alone contents then λ table. pack_list table.images ns

-- a list under the images of a contents, into a buffer with so much room
unfoldable pub packing_under : List Image → List Number → ℕ → Answer (List ℕ)
packing_under ims ns room = pack_list ims ns then within room

-- the packing call, into a buffer with so much room
unfoldable pub packing : List ℕ → List Number → ℕ → Answer (List ℕ)
packing contents ns room = body_of contents ns then within room

-- When a list packs, in document 01's words: "no image there is refused with 2, the list has one number per column, each is in normal
-- form, no fixed-point magnitude exceeds its image, and each exponential x is from −99 to 99, and not negative under an unsigned image.
-- The room in a buffer plays no part in this." (The proofs' PacksTheorem: exactly such a list has a body.)

-- what a column asks of its image and its number
pub record PackConditions (im : Image) (n : Number) : Type 0 where
  -- the image is not refused with 2
  pub fits : hashes im ≤ precision
  -- the number is in normal form
  pub is_normal : normal n ≡ true
  -- a fixed-point magnitude does not exceed the image
  pub fixed : im.exponential ≡ false → exceeds im n ≡ false
  -- an exponential x is from −99 to 99
  pub exponential : im.exponential ≡ true → exponent_outside im n ≡ false
  -- and not negative under an unsigned image
  pub unsigned : im.exponential ≡ true → is_signed im.sign ≡ false → exponent_limit ≤ stored_exponent im n

-- one number per column, and each column's conditions hold
pub data PacksEach : List Image → List Number → Type 0 where
  none : PacksEach [] []
  one :
      {im : Image} {n : Number} {ims : List Image} {ns : List Number}
      → PackConditions im n
      → PacksEach ims ns
      → PacksEach (im ∷ ims) (n ∷ ns)

-- a list packs under a contents: the bytes are a contents, and the list packs under its images
pub record Packs (contents : List ℕ) (ns : List Number) : Type 0 where
  pub images : List Image
  pub is_contents : IsContents contents images
  pub each : PacksEach images ns

-- What the code's helpers ask and find.

-- a number that packing accepts under an image, and its truncation, the same for every column number
pub record PacksUnder (im : Image) (n : Number) : Type 0 where
  pub to : Truncated
  pub truncated : (column : ℕ) → packed_truncation column im n ≡ done to

-- one such number per column
pub data AllPack : List Image → List Number → Type 0 where
  none : AllPack [] []
  one : {im : Image} {n : Number} {ims : List Image} {ns : List Number} → PacksUnder im n → AllPack ims ns → AllPack (im ∷ ims) (n ∷ ns)
