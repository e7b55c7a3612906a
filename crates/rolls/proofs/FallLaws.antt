-- Laws of numbers that fall: what comparing two of them tells, and the loops that look for one below the number before it.
-- Assumes nothing.
use Rattle.std.proofs.Common.{◌≡◌, ℕ, zero, suc, ◌<◌, length, get_or, add-one, arith, Bool, true, false, not, ◌||◌, List, [], ◌∷◌, Result, Ok, Err, refl, ap, sym, ◌∙◌}
use Rattle.std.proofs.Math.Bool.{or-true}
use Rattle.std.specs.Prelude.{MatchResult}
use Rattle.std.specs.List.{IsAllAdjacentAnswer}
use Rattle.std.specs.declared.cmp.Ordering.{Ordering}
use Rattle.std.specs.declared.cmp.Ordering.TheVariants.{Less, Equal, Greater}
use Rattle.std.specs.Ordering.{is_le}
use Rattle.decimal.specs.declared.number.Number.{Number}
use Rattle.decimal.specs.declared.refusal.Refusal.{Refusal}
use Rattle.decimal.specs.Answer.{done, refused, meaning}
use Rattle.decimal.specs.Number.{normal, zero_number}
use Rattle.decimal.specs.Comparison.{comparison, is_at_most}
use Rattle.decimal.proofs.AnswerLaws.{never_done}
use Rattle.decimal.proofs.ComparisonLaws.{compared, compared_back}
use Rattle.decimal.proofs.ComparisonTheorem.{order_transitive, order_itself}
use Rattle.rolls.specs.Falling.{at_most, fall, normal_at_most}

-- a test does not hold and not hold
pub not_both : {B : Type 0} {b : Bool} → b ≡ true → b ≡ false → B
not_both h g = let z : ◌≡◌ {A = ℕ} 0 1 = cc in absurd (omega arith)

-- Two numbers.

-- at most is transitive
pub at_most_transitive : (a b c : Number) → at_most a b ≡ true → at_most b c ≡ true → at_most a c ≡ true
unfolding at_most
at_most_transitive a b c h g = order_transitive a b c h g

-- a number is at most itself
pub at_most_itself : (a : Number) → at_most a a ≡ true
unfolding at_most
at_most_itself a = ap is_at_most (order_itself a)

module _ (a b : Number) where
  -- of two numbers in normal form the first is at most the second, or not
  pub both_normal : normal a ≡ true → normal b ≡ true → normal_at_most a b ≡ at_most a b
  unfolding normal_at_most
  both_normal h g = rw (h, g)

  -- two that have an order are in normal form
  pub ordered : {o : Ordering} → done o ≡ comparison a b → is_le o ≡ normal_at_most a b
  unfolding normal_at_most at_most
  ordered {o} e = let c = compared_back a b (sym e) in rw (c.0, c.1, c.2) (le o)
    where
      le : (o : Ordering) → is_le o ≡ is_at_most o
      le Less = refl
      le Equal = refl
      le Greater = refl

  -- of two that have none one is not
  pub never_ordered : {number place : ℕ} → refused number place ≡ comparison a b → false ≡ normal_at_most a b
  unfolding normal_at_most
  never_ordered {number} {place} e = first (normal a) refl
    where
      second : normal a ≡ true → (t : Bool) → normal b ≡ t → false ≡ normal_at_most a b
      second h true g = never_done (e ∙ compared a b h g)
      second h false g = rw (h, g)

      first : (s : Bool) → normal a ≡ s → false ≡ normal_at_most a b
      first true h = second h (normal b) refl
      first false h = rw h

  -- so what a result tells
  pub compared_told : (r : Result Ordering Refusal) {t : Bool} → meaning r ≡ comparison a b → MatchResult r (λ o. t ≡ is_le o) (λ _. t ≡ false) → t ≡ normal_at_most a b
  compared_told (Ok o) e m = m ∙ ordered e
  compared_told (Err f) e m = m ∙ never_ordered e

-- Looking at each number and the next.

-- none is below the one before it
pairs_in_order :
    (ns : List Number)
    → ((i : ℕ) → i < length ns → normal (get_or ns i zero_number) ≡ true)
    → ((k : ℕ) → suc k < length ns → true ≡ normal_at_most (get_or ns k zero_number) (get_or ns (suc k) zero_number))
    → false ≡ fall ns
unfolding fall
pairs_in_order [] n h = refl
pairs_in_order (a ∷ []) n h = refl
pairs_in_order (a ∷ (b ∷ ns)) n h =
    rw (sym (h 0 (omega arith) ∙ both_normal a b (n 0 (omega arith)) (n 1 (omega arith))))
    (pairs_in_order (b ∷ ns) (λ i l. n (suc i) (omega arith)) (λ k l. h (suc k) (omega arith)))

-- some is
pair_falls :
    (ns : List Number)
    → ((i : ℕ) → i < length ns → normal (get_or ns i zero_number) ≡ true)
    → (k : ℕ)
    → suc k < length ns
    → false ≡ normal_at_most (get_or ns k zero_number) (get_or ns (suc k) zero_number)
    → true ≡ fall ns
unfolding fall
pair_falls [] n k l h = absurd (omega arith)
pair_falls (a ∷ []) n k l h = absurd (omega arith)
pair_falls (a ∷ (b ∷ ns)) n zero l h = rw (sym (h ∙ both_normal a b (n 0 (omega arith)) (n 1 (omega arith)))) refl
pair_falls (a ∷ (b ∷ ns)) n (suc k) l h = sym (or-true (not (at_most a b))) ∙ ap (λ (t : Bool). not (at_most a b) || t) (pair_falls (b ∷ ns) (λ i l. n (suc i) (omega arith)) k (omega arith) h)

-- so whether all pairs are in order tells whether numbers in normal form fall
pub sorted_told :
    (ns : List Number)
    → ((i : ℕ) → i < length ns → normal (get_or ns i zero_number) ≡ true)
    → (r : Bool)
    → IsAllAdjacentAnswer (λ a b t. t ≡ normal_at_most a b) ns r
    → not r ≡ fall ns
sorted_told ns n true h =
    pairs_in_order ns n
    (λ k l. h k zero_number (omega arith) ∙ ap (λ (i : ℕ). normal_at_most (get_or ns k zero_number) (get_or ns i zero_number)) (add-one k))
sorted_told ns n false h =
    pair_falls ns n h.0 (omega arith)
    (h.2 zero_number ∙ ap (λ (i : ℕ). normal_at_most (get_or ns h.0 zero_number) (get_or ns i zero_number)) (add-one h.0))
