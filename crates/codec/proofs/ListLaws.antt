-- Laws of lists that arrays hold. Assumes nothing.
use Prim.Native.Nat.{ℕ, zero, suc, ◌<◌}
use mathlib.Core.Path.{◌≡◌, refl, ap}
use mathlib.Core.List.{List, [], ◌∷◌}
use native.Mathlib.Omega.{arith}
use lib.ListN.{length, get_or}
use Rattle.codec.specs.Lists.{filled}

-- a default plays no part inside a list
pub default_free : {A : Type 0} (xs : List A) (i : ℕ) (d e : A) → i < length xs → get_or xs i d ≡ get_or xs i e
default_free [] i d e h = absurd (omega arith)
default_free (x ∷ xs) zero d e h = refl
default_free (x ∷ xs) (suc i) d e h = default_free xs i d e (omega arith)

module _ {A : Type 0} (d : A) where
  -- an array has its length
  pub filled_length : (n : ℕ) (xs : List A) → length (filled n d xs) ≡ n
  unfolding filled
  filled_length zero xs = refl
  filled_length (suc n) [] = ap suc (filled_length n [])
  filled_length (suc n) (x ∷ xs) = ap suc (filled_length n xs)

  -- a list of the array's length fills it
  pub filled_same : (xs : List A) → filled (length xs) d xs ≡ xs
  unfolding filled
  filled_same [] = refl
  filled_same (x ∷ xs) = ap (λ (l : List A). x ∷ l) (filled_same xs)
