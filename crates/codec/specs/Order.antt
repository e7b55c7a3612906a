-- The part of demand 3 that is about bodies: what the order of bodies is compared with, and what a body is read back as.
use Rattle.std.specs.Prelude.{ℕ, ◌<◌, ◌≡◌, List, [], ◌∷◌, false}
use Rattle.decimal.specs.declared.image.Sign.TheVariants.{Unsigned}
use Rattle.decimal.specs.declared.image.Image.{Image}
use Rattle.decimal.specs.declared.number.Number.{Number}
use Rattle.decimal.specs.Answer.{Answer, done, refused}
use Rattle.decimal.specs.Number.{magnitude}
use Rattle.decimal.specs.Truncation.{truncated_number}

-- images without a sign, in fixed point
pub record UnsignedFixed (im : Image) : Type 0 where
  pub unsigned : im.sign ≡ Unsigned
  pub fixed : im.exponential ≡ false

pub data AllUnsignedFixed : List Image → Type 0 where
  none : AllUnsignedFixed []
  more : {im : Image} {ims : List Image} → UnsignedFixed im → AllUnsignedFixed ims → AllUnsignedFixed (im ∷ ims)

-- the magnitude of a number that an answer gives
unfoldable pub magnitude_in : Answer Number → ℕ
magnitude_in (done n) = magnitude n
magnitude_in (refused number place) = 0

-- the truncated magnitudes of a list, column by column
unfoldable pub truncated_magnitudes : List Image → List Number → List ℕ
truncated_magnitudes [] ns = []
truncated_magnitudes (im ∷ ims) [] = []
truncated_magnitudes (im ∷ ims) (n ∷ ns) = magnitude_in (truncated_number 0 im n) ∷ truncated_magnitudes ims ns

-- two lists differ in some place, and in the first such place the first list's is smaller
pub data FirstSmaller : List ℕ → List ℕ → Type 0 where
  here : {a b : ℕ} {xs ys : List ℕ} → a < b → FirstSmaller (a ∷ xs) (b ∷ ys)
  later : {a : ℕ} {xs ys : List ℕ} → FirstSmaller xs ys → FirstSmaller (a ∷ xs) (a ∷ ys)

-- the second list has, column by column, the truncation of the first list's number (of its magnitude if the image is unsigned)
pub data Truncations : List Image → List Number → List Number → Type 0 where
  none : Truncations [] [] []
  one :
      {im : Image} {n t : Number} {ims : List Image} {ns ts : List Number}
      → ((column : ℕ) → truncated_number column im n ≡ done t)
      → Truncations ims ns ts
      → Truncations (im ∷ ims) (n ∷ ns) (t ∷ ts)

-- each element is a byte
pub data Bytes : List ℕ → Type 0 where
  none : Bytes []
  more : {b : ℕ} {bs : List ℕ} → b < 256 → Bytes bs → Bytes (b ∷ bs)
