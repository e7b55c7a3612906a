-- Document 02, (iii): numbers that fall, by value.
use Rattle.std.specs.Prelude.{ℕ, ◌<◌, ◌≤◌, ◌≡◌, Bool, true, false, not, ◌&&◌, ◌||◌, List, [], ◌∷◌, length, get_or}
use Rattle.decimal.specs.declared.number.Number.{Number}
use Rattle.decimal.specs.Comparison.{value_order, is_at_most}
use Rattle.decimal.specs.Number.{zero_number, normal}

-- a number is at most another, by sign and magnitude as whole numbers
unfoldable pub at_most : Number → Number → Bool
at_most a b = is_at_most (value_order a b)

-- numbers do not fall: none is below an earlier one
pub record NeverFall (ns : List Number) : Type 0 where
  pub in_order : (i j : ℕ) → i ≤ j → j < length ns → at_most (get_or ns i zero_number) (get_or ns j zero_number) ≡ true

-- whether numbers fall: some number is below the one before it (the proofs' FallTheorem: exactly where they are not in order)
unfoldable pub fall : List Number → Bool
fall [] = false
fall (a ∷ []) = false
fall (a ∷ (b ∷ ns)) = not (at_most a b) || fall (b ∷ ns)

-- What the code's helpers find.

-- two numbers are in normal form, and the first is at most the second
unfoldable pub normal_at_most : Number → Number → Bool
normal_at_most a b = normal a && (normal b && at_most a b)
