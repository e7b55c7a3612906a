-- Conjunctions of tests, and numbers that are zero or not.
-- Assumes nothing.
use Rattle.std.proofs.Common.{◌≡◌, ℕ, zero, suc, Bool, true, false, ◌&&◌, ◌⊎◌, refl, inl, inr, arith}

-- both parts of a conjunction that is true
pub and_true : (a b : Bool) → (a && b) ≡ true → (a ≡ true) × (b ≡ true)
and_true true b h = (refl, h)
and_true false b h = (h, (cc))

-- a conjunction whose last part is false
pub and_none : (a b : Bool) → (a && (b && false)) ≡ false
and_none false b = refl
and_none true false = refl
and_none true true = refl

-- a conjunction whose other parts are true
pub and_middle : (b : Bool) → (true && (b && true)) ≡ b
and_middle true = refl
and_middle false = refl

-- a condition asked twice is asked once
pub and_again : (a b c : Bool) → (a && ((a && (b && c)) && c)) ≡ (a && (b && c))
and_again false b c = refl
and_again true false c = refl
and_again true true false = refl
and_again true true true = refl

-- a number is zero or not
pub zero_or_not : (k : ℕ) → (k ≡ 0) ⊎ (k ≡ 0 → ⊥)
zero_or_not zero = inl refl
zero_or_not (suc k) = inr (omega arith)
