-- The order by value is total: it has an opposite, Equal means the same number, and less or equal is transitive.
-- Assumes nothing.
use Rattle.std.proofs.Common.{◌≡◌, ℕ, Bool, true, false, leb, ◌⊎◌, sym, refl, ap, ◌∙◌, inl, inr, ⊎_elim, arith, le-leb, leb-true}
use borrow.Author.Tests.{lt-leb}
use Rattle.decimal.specs.declared.number.Number.{Number}
use Rattle.std.specs.declared.cmp.Ordering.{Ordering}
use Rattle.std.specs.declared.cmp.Ordering.TheVariants.{Less, Equal, Greater}
use Rattle.decimal.specs.Answer.{Answer, done}
use Rattle.decimal.specs.Number.{normal, magnitude}
use Rattle.decimal.specs.Comparison.{whole_order, signed_order, value_order, comparison, opposite, is_at_most}
use Rattle.decimal.proofs.MagnitudeLaws.{normal_unique}
use Rattle.decimal.proofs.ComparisonLaws.{three_ways, whole_less, whole_greater, whole_equal, compared, compared_back}

-- Whole numbers.

whole_opposite : (a b : ℕ) → whole_order b a ≡ opposite (whole_order a b)
whole_opposite a b =
    ⊎_elim
    (λ l. whole_greater b a l ∙ sym (ap opposite (whole_less a b l)))
    (⊎_elim
    (λ e. whole_equal b a (sym e) ∙ sym (ap opposite (whole_equal a b e)))
    (λ g. whole_less b a g ∙ sym (ap opposite (whole_greater a b g))))
    (three_ways a b)

whole_same : (a b : ℕ) → whole_order a b ≡ Equal → a ≡ b
whole_same a b h =
    ⊎_elim
    (λ l. let e = whole_less a b l in cc)
    (⊎_elim (λ e. e) (λ g. let e = whole_greater a b g in cc))
    (three_ways a b)

whole_at_most : (a b : ℕ) → is_at_most (whole_order a b) ≡ leb a b
whole_at_most a b =
    ⊎_elim
    (λ l. ap is_at_most (whole_less a b l) ∙ sym (le-leb a b (omega arith)))
    (⊎_elim
    (λ e. ap is_at_most (whole_equal a b e) ∙ sym (le-leb a b (omega arith)))
    (λ g. ap is_at_most (whole_greater a b g) ∙ sym (lt-leb a b g)))
    (three_ways a b)

whole_transitive : (a b c : ℕ) → is_at_most (whole_order a b) ≡ true → is_at_most (whole_order b c) ≡ true → is_at_most (whole_order a c) ≡ true
whole_transitive a b c h g =
    let first = leb-true a b (sym (whole_at_most a b) ∙ h) in
    let second = leb-true b c (sym (whole_at_most b c) ∙ g) in
    whole_at_most a c ∙ le-leb a c (omega arith)

-- Signs and magnitudes.

signed_opposite : (s t : Bool) (a b : ℕ) → signed_order t s b a ≡ opposite (signed_order s t a b)
unfolding signed_order
signed_opposite true true a b = whole_opposite b a
signed_opposite true false a b = refl
signed_opposite false true a b = refl
signed_opposite false false a b = whole_opposite a b

signed_same : (s t : Bool) (a b : ℕ) → signed_order s t a b ≡ Equal → (s ≡ t) × (a ≡ b)
unfolding signed_order
signed_same true true a b h = (refl, sym (whole_same b a h))
signed_same true false a b h = ((cc), (cc))
signed_same false true a b h = ((cc), (cc))
signed_same false false a b h = (refl, whole_same a b h)

signed_itself : (s : Bool) (a : ℕ) → signed_order s s a a ≡ Equal
unfolding signed_order
signed_itself true a = whole_equal a a refl
signed_itself false a = whole_equal a a refl

signed_transitive :
    (s t u : Bool) (a b c : ℕ)
    → is_at_most (signed_order s t a b) ≡ true
    → is_at_most (signed_order t u b c) ≡ true
    → is_at_most (signed_order s u a c) ≡ true
unfolding signed_order
signed_transitive true true true a b c h g = whole_transitive c b a g h
signed_transitive true true false a b c h g = refl
signed_transitive true false true a b c h g = cc
signed_transitive true false false a b c h g = refl
signed_transitive false true u a b c h g = cc
signed_transitive false false true a b c h g = cc
signed_transitive false false false a b c h g = whole_transitive a b c h g

-- Numbers.

-- a number compared with another is the other one compared with it, the other way round
pub order_opposite : (a b : Number) → value_order b a ≡ opposite (value_order a b)
unfolding value_order
order_opposite a b = signed_opposite a.negative b.negative (magnitude a) (magnitude b)

-- one is less exactly where the other is greater
pub less_greater : (a b : Number) → (value_order a b ≡ Less → value_order b a ≡ Greater) × (value_order b a ≡ Greater → value_order a b ≡ Less)
less_greater a b = (λ h. order_opposite a b ∙ ap opposite h, λ h. order_opposite b a ∙ ap opposite h)

-- a number equals itself
pub order_itself : (a : Number) → value_order a a ≡ Equal
unfolding value_order
order_itself a = signed_itself a.negative (magnitude a)

-- and among the numbers in normal form no other one
pub order_same : (a b : Number) → normal a ≡ true → normal b ≡ true → value_order a b ≡ Equal → a ≡ b
unfolding value_order
order_same a b h g e =
    let parts = signed_same a.negative b.negative (magnitude a) (magnitude b) e in
    normal_unique a b h g parts.0 parts.1

-- less or equal is transitive
pub order_transitive :
    (a b c : Number)
    → is_at_most (value_order a b) ≡ true
    → is_at_most (value_order b c) ≡ true
    → is_at_most (value_order a c) ≡ true
unfolding value_order
order_transitive a b c h g = signed_transitive a.negative b.negative c.negative (magnitude a) (magnitude b) (magnitude c) h g

-- and total
pub order_total : (a b : Number) → (is_at_most (value_order a b) ≡ true) ⊎ (is_at_most (value_order b a) ≡ true)
order_total a b = total (value_order a b) refl
  where
    total : (o : Ordering) → value_order a b ≡ o → (is_at_most (value_order a b) ≡ true) ⊎ (is_at_most (value_order b a) ≡ true)
    total Less e = inl (ap is_at_most e)
    total Equal e = inl (ap is_at_most e)
    total Greater e = inr (ap is_at_most (order_opposite a b ∙ ap opposite e))

-- Answers.

-- an answer is Less exactly where the answer for the two numbers the other way round is Greater
pub answers_opposite : (a b : Number) → (comparison a b ≡ done Less → comparison b a ≡ done Greater) × (comparison b a ≡ done Greater → comparison a b ≡ done Less)
answers_opposite a b = (there, back)
  where
    there : comparison a b ≡ done Less → comparison b a ≡ done Greater
    there e =
        let c = compared_back a b e in
        compared b a c.1 c.0 ∙ ap {B = Answer Ordering} done ((less_greater a b).0 c.2)

    back : comparison b a ≡ done Greater → comparison a b ≡ done Less
    back e =
        let c = compared_back b a e in
        compared a b c.1 c.0 ∙ ap {B = Answer Ordering} done ((less_greater a b).1 c.2)

-- an answer is Equal exactly where the two are the same number in normal form
pub answers_same : (a b : Number) → (comparison a b ≡ done Equal → (normal a ≡ true) × (a ≡ b)) × ((normal a ≡ true) × (a ≡ b) → comparison a b ≡ done Equal)
answers_same a b = (there, back)
  where
    there : comparison a b ≡ done Equal → (normal a ≡ true) × (a ≡ b)
    there e = let c = compared_back a b e in (c.0, order_same a b c.0 c.1 c.2)

    back : (normal a ≡ true) × (a ≡ b) → comparison a b ≡ done Equal
    back h =
        let same : comparison a b ≡ comparison a a = ap (comparison a) (sym h.1) in
        same ∙ compared a a h.0 h.0 ∙ ap {B = Answer Ordering} done (order_itself a)
