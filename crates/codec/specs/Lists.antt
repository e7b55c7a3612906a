-- The lists that the code's vectors hold, and tests over lists.
use Rattle.std.specs.Prelude.{ℕ, zero, suc, List, [], ◌∷◌, Bool, true, false}
use Rattle.arrayvec.specs.ArrayVec.{ArrayVec}
use Rattle.decimal.specs.declared.image.Sign.TheVariants.{Unsigned}
use Rattle.decimal.specs.declared.image.Image.{Image}
use Rattle.decimal.specs.Answer.{pick}

-- the first n elements of a list, and the default in every place behind its end
unfoldable pub filled : {A : Type 0} → ℕ → A → List A → List A
filled zero d xs = []
filled (suc n) d [] = d ∷ filled n d []
filled (suc n) d (x ∷ xs) = x ∷ filled n d xs

-- whether some test holds
abbrev pub any_of : List Bool → Bool
any_of [] = false
any_of (b ∷ bs) = pick b true (any_of bs)

-- a contents is 1 to 16 images
abbrev pub max_columns : ℕ
max_columns = 16

-- the image taken where a list has none
abbrev pub no_image : Image
no_image = record { sign = Unsigned; integer = 0; fraction = 0; exponential = false }

-- the list that a vector of the code holds
abbrev pub items_of : {A : Type 0} → ArrayVec A → List A
items_of v = v.items
