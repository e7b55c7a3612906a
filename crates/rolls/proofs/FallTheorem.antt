-- Numbers fall exactly where one is below an earlier one. Assumes nothing.
use Prim.Native.Nat.{ℕ, zero, suc, ◌<◌, ◌≤◌}
use mathlib.Core.Path.{◌≡◌, refl, sym}
use mathlib.Core.Bool.{Bool, true, false, not, ◌||◌}
use mathlib.Core.List.{List, [], ◌∷◌}
use mathlib.Core.Logic.{◌↔◌}
use native.Mathlib.Omega.{arith}
use lib.ListN.{length, get_or}
use Rattle.decimal.specs.declared.number.Number.{Number}
use Rattle.decimal.specs.Number.{zero_number}
use Rattle.rolls.specs.Falling.{at_most, NeverFall, fall}
use Rattle.rolls.proofs.FallLaws.{at_most_transitive, at_most_itself}

-- a test that is not so, or another: neither holds
neither : (a b : Bool) → (not a || b) ≡ false → (a ≡ true) × (b ≡ false)
neither true b h = (refl, h)
neither false b h = let z : true ≡ false = h in ((sym h), (cc))

-- of numbers that do not fall: the first two, and the others
pub fall_view : (a b : Number) (ns : List Number) → fall (a ∷ (b ∷ ns)) ≡ false → (at_most a b ≡ true) × (fall (b ∷ ns) ≡ false)
unfolding fall
fall_view a b ns h = neither (at_most a b) (fall (b ∷ ns)) h

-- the tail of numbers that do not fall
pub fall_tail : (a : Number) (ns : List Number) → fall (a ∷ ns) ≡ false → fall ns ≡ false
unfolding fall
fall_tail a [] h = refl
fall_tail a (b ∷ ns) h = (fall_view a b ns h).1

-- the first is at most all
least : (a : Number) (ns : List Number) → fall (a ∷ ns) ≡ false → (j : ℕ) → j < length (a ∷ ns) → at_most a (get_or (a ∷ ns) j zero_number) ≡ true
least a ns h zero l = at_most_itself a
least a [] h (suc j) l = absurd (omega arith)
least a (b ∷ ns) h (suc j) l =
    let v = fall_view a b ns h in
    at_most_transitive a b (get_or (b ∷ ns) j zero_number) v.0 (least b ns v.1 j (omega arith))

-- so they are in order
in_order : (ns : List Number) → fall ns ≡ false → (i j : ℕ) → i ≤ j → j < length ns → at_most (get_or ns i zero_number) (get_or ns j zero_number) ≡ true
in_order [] h i j k l = absurd (omega arith)
in_order (a ∷ ns) h zero j k l = least a ns h j l
in_order (a ∷ ns) h (suc i) zero k l = absurd (omega arith)
in_order (a ∷ ns) h (suc i) (suc j) k l = in_order ns (fall_tail a ns h) i j (omega arith) (omega arith)

-- the other way
never : (ns : List Number) → NeverFall ns → fall ns ≡ false
unfolding fall
never [] r = refl
never (a ∷ []) r = refl
never (a ∷ (b ∷ ns)) r =
    rw (r.in_order 0 1 (omega arith) (omega arith))
    (never (b ∷ ns) (record { in_order = λ i j k l. r.in_order (suc i) (suc j) (omega arith) (omega arith) }))

-- Published: the numbers that the calls take for falling are those that fall.
pub fall_exactly : (ns : List Number) → (fall ns ≡ false) ↔ NeverFall ns
fall_exactly ns = ((λ h. record { in_order = in_order ns h }), never ns)
