-- The order of numbers by value, that is by sign and magnitude (document 01, Numbers).
use Rattle.std.specs.Prelude.{ℕ, Bool, true, false}
use Rattle.std.specs.Ordering.{nat_cmp}
use Rattle.std.specs.declared.cmp.Ordering.{Ordering}
use Rattle.std.specs.declared.cmp.Ordering.TheVariants.{Less, Equal, Greater}
use Rattle.decimal.specs.declared.number.Number.{Number}
use Rattle.decimal.specs.Answer.{Answer, done, ◌then◌}
use Rattle.decimal.specs.Number.{magnitude, check_number}

-- the order of two whole numbers
unfoldable pub whole_order : ℕ → ℕ → Ordering
whole_order a b = nat_cmp a b

-- the order of two values, each a sign (true for minus) and a magnitude: a minus value is less than a plus value;
-- of two minus values the one with the larger magnitude is less
unfoldable pub signed_order : Bool → Bool → ℕ → ℕ → Ordering
signed_order true false a b = Less
signed_order false true a b = Greater
signed_order false false a b = whole_order a b
signed_order true true a b = whole_order b a

-- the order of two numbers by value; a number in normal form with a minus is not zero, so that it is below zero
unfoldable pub value_order : Number → Number → Ordering
value_order a b = signed_order a.negative b.negative (magnitude a) (magnitude b)

-- the order of two numbers, or 3 where one is not in normal form: place 0 for the first, 1 for the second
unfoldable pub comparison : Number → Number → Answer Ordering
comparison a b = check_number 0 a then λ _. (check_number 1 b then λ _. done (value_order a b))

-- the order of the same two numbers exchanged
abbrev pub opposite : Ordering → Ordering
opposite Less = Greater
opposite Equal = Equal
opposite Greater = Less

-- less or equal
abbrev pub is_at_most : Ordering → Bool
is_at_most Less = true
is_at_most Equal = true
is_at_most Greater = false
