-- Laws of the digits of whole numbers, of their values and order, and of the zeros that stand before them.
-- Assumes nothing.
use Rattle.std.proofs.Common.{◌≡◌, ℕ, zero, suc, ◌+◌, ◌*◌, ◌/◌, ◌%◌, ◌^◌, ◌<◌, ◌≤◌, Bool, true, false, eqb, ltb, ◌⊎◌, List, [], ◌∷◌, ◌++◌, length, get_or, take, sym, refl, ap, ◌∙◌, inl, inr, ⊎_elim, mod-lt, mod-eq_of_lt, mul_comm, suc-add, eq-or-lt_of_le, zero-add, div-one, arith, length-append, take_at, le-ltb, lt-ltb, eqb-true}
use native.Mathlib.Nat.{suc_inj, zero-div, mod-one, mod-mod, div-eq_of_lt, div-div-eq-div-mul}
use native.Mathlib.Numerals.{suc-eq-add-one}
use native.Mathlib.Omega.{sub_cases}
use borrow.Author.Tests.{eqb-false}
use lib.Arith.{digits_lt, digits_div, digits_mod as mod_low, mod-mul}
use Rattle.decimal.specs.Answer.{pick}
use Rattle.decimal.specs.Digits.{digits_of, value_of, zeros, leading_zeros, Digits, comes_before}
use Rattle.decimal.proofs.PowerLaws.{pow10_pos, pow10_add, pow10_suc, times_ten, times_power}

-- of two numbers the first is at most the second, or above it
pub le_or_lt : (a b : ℕ) → (a ≤ b) ⊎ (b < a)
le_or_lt a b = sub_cases b a ((a ≤ b) ⊎ (b < a)) (λ p e. inl p) (λ p e. ⊎_elim (λ q. inl (omega arith)) inr (eq-or-lt_of_le p))

-- a number that fills n + 1 digits has no zero before it
pub leading_none : (n k : ℕ) → 10 ^ n ≤ k → leading_zeros (suc n) k ≡ 0
unfolding leading_zeros
leading_none n k h = ap (λ (b : Bool). pick b (suc (leading_zeros n k)) 0) (le-ltb k (10 ^ n) h)

-- a number of at most n digits has one zero more before it at n + 1 digits
pub leading_more : (n k : ℕ) → k < 10 ^ n → leading_zeros (suc n) k ≡ suc (leading_zeros n k)
unfolding leading_zeros
leading_more n k h = ap (λ (b : Bool). pick b (suc (leading_zeros n k)) 0) (lt-ltb k (10 ^ n) h)

-- the zeros are as many as the tens that make the number fill its digits
pub leading_unique : (n k z : ℕ) → 10 ^ n ≤ k * 10 ^ z → k * 10 ^ z < 10 ^ suc n → leading_zeros (suc n) k ≡ z
leading_unique n k zero low top = leading_none n k (omega arith)
leading_unique zero k (suc z) low top = omega (arith, times_ten k z)
leading_unique (suc n) k (suc z) low top =
    leading_more (suc n) k (omega (arith, times_ten k z, times_power k z))
    ∙ ap suc (leading_unique n k z (omega (arith, times_ten k z)) (omega (arith, times_ten k z)))

-- the number with a ten for each zero before it fills its digits
leading_fills : (n k : ℕ) → 0 < k → k < 10 ^ suc n → (10 ^ n ≤ k * 10 ^ leading_zeros (suc n) k) × (k * 10 ^ leading_zeros (suc n) k < 10 ^ suc n)
leading_fills zero k pos below = rw (leading_none zero k pos) (omega arith, omega arith)
leading_fills (suc n) k pos below =
    ⊎_elim
    (λ h. rw (leading_none (suc n) k h) (omega arith, omega arith))
    (λ h.
    let e = times_ten k (leading_zeros (suc n) k) in
    let fills = leading_fills n k pos h in
    rw (leading_more (suc n) k h) (omega arith, omega arith))
    (le_or_lt (10 ^ suc n) k)

-- the number with a ten for each zero before it keeps to its digits
pub leading_top : (n k : ℕ) → 0 < k → k < 10 ^ suc n → k * 10 ^ leading_zeros (suc n) k < 10 ^ suc n
leading_top n k pos below = (leading_fills n k pos below).1

-- the number with a ten for each zero before it has no zero before it
pub leading_low : (n k : ℕ) → 0 < k → k < 10 ^ suc n → 10 ^ n ≤ k * 10 ^ leading_zeros (suc n) k
leading_low n k pos below = (leading_fills n k pos below).0

-- n digits are n
pub digits_length : (n k : ℕ) → length (digits_of n k) ≡ n
unfolding digits_of
digits_length zero k = refl
digits_length (suc n) k = ap suc (digits_length n k)

-- n zeros are n
pub zeros_length : (n : ℕ) → length (zeros n) ≡ n
unfolding zeros
zeros_length zero = refl
zeros_length (suc n) = ap suc (zeros_length n)

-- the digits of zero are zeros
pub digits_of_zero : (n : ℕ) → digits_of n 0 ≡ zeros n
unfolding digits_of zeros
digits_of_zero zero = refl
digits_of_zero (suc n) = rw (zero-div (10 ^ n), digits_of_zero n)

-- the first digits are those of the number without its last j digits, and the last j are its own
pub digits_split : (n j k : ℕ) → digits_of (n + j) k ≡ digits_of n (k / 10 ^ j) ++ digits_of j k
unfolding digits_of
digits_split zero j k = ap (λ (m : ℕ). digits_of m k) (zero-add j)
digits_split (suc n) j k =
    rw (suc-add n j, digits_split n j k, pow10_add n j, mul_comm (10 ^ n) (10 ^ j), ← div-div-eq-div-mul k (10 ^ j) (10 ^ n))

one_digit_lem : (k : ℕ) → digits_of 1 k ≡ k % 10 ∷ []
unfolding digits_of
one_digit_lem k = ap (λ (m : ℕ). m % 10 ∷ []) (div-one k)

-- the last digit is the remainder by ten
pub digits_last : (n k : ℕ) → digits_of (suc n) k ≡ digits_of n (k / 10) ++ (k % 10 ∷ [])
digits_last n k = rw (suc-eq-add-one n, digits_split n 1 k, one_digit_lem k)

-- a number of at most j digits has zeros before them
pub digits_padded : (n j k : ℕ) → k < 10 ^ j → digits_of (n + j) k ≡ zeros n ++ digits_of j k
digits_padded n j k h = rw (digits_split n j k, div-eq_of_lt h, digits_of_zero n)

-- the first n digits are those of the number without the others
pub digits_first : (n j k : ℕ) → take n (digits_of (n + j) k) ≡ digits_of n (k / 10 ^ j)
digits_first n j k = rw (digits_split n j k) (take_at (digits_of n (k / 10 ^ j)) (digits_of j k) n (digits_length n (k / 10 ^ j)))

-- higher digits do not count
pub digits_mod : (n k : ℕ) → digits_of n (k % 10 ^ n) ≡ digits_of n k
unfolding digits_of
digits_mod zero k = refl
digits_mod (suc n) k =
    let r = k / 10 ^ n % 10 in
    let low = mod-lt k (pow10_pos n) in
    let parts = ap (λ (p : ℕ). k % p) (pow10_suc n) ∙ mod-mul k {m = 10} {c = 10 ^ n} (omega arith) (pow10_pos n) in
    ap (λ (m : ℕ). m / 10 ^ n % 10 ∷ digits_of n m) parts
    ∙ rw (digits_div r low, mod-mod (k / 10 ^ n) 10, ← digits_mod n (r * 10 ^ n + k % 10 ^ n), mod_low r low, digits_mod n k)

-- the digits are digits
pub digits_are_digits : (n k : ℕ) → Digits (digits_of n k)
unfolding digits_of Digits
digits_are_digits zero k = tt
digits_are_digits (suc n) k = (mod-lt (k / 10 ^ n) (omega arith), digits_are_digits n k)

-- each of a list of digits is below ten, and so is what is read past its end
pub digit_below : (ds : List ℕ) → Digits ds → (i : ℕ) → get_or ds i 0 < 10
unfolding Digits
digit_below [] h i = omega arith
digit_below (d ∷ ds) h zero = h.0
digit_below (d ∷ ds) h (suc i) = digit_below ds h.1 i

-- digits put behind digits are digits
pub digits_append : (xs ys : List ℕ) → Digits xs → Digits ys → Digits (xs ++ ys)
unfolding Digits
digits_append [] ys h g = g
digits_append (x ∷ xs) ys h g = (h.0, digits_append xs ys h.1 g)

-- the value of a list in two parts
pub value_append : (xs ys : List ℕ) → value_of (xs ++ ys) ≡ value_of xs * 10 ^ length ys + value_of ys
unfolding value_of
value_append [] ys = omega arith
value_append (x ∷ xs) ys =
    let split = ap (λ (p : ℕ). x * p) (ap (λ (m : ℕ). 10 ^ m) (length-append xs ys) ∙ pow10_add (length xs) (length ys)) in
    omega (arith, value_append xs ys)

value_of_last : (n k : ℕ) → value_of (digits_of n k) ≡ k % 10 ^ n
unfolding value_of digits_of
value_of_last zero k = sym (mod-one k)
value_of_last (suc n) k =
    rw (digits_length n k, value_of_last n k, pow10_suc n, mod-mul k {m = 10} {c = 10 ^ n} (omega arith) (pow10_pos n))

-- a number that n digits hold is the value of its n digits
pub value_of_digits : (n k : ℕ) → k < 10 ^ n → value_of (digits_of n k) ≡ k
value_of_digits n k h = value_of_last n k ∙ mod-eq_of_lt h

-- the value of digits is below the power of ten that their count says
pub value_below : (ds : List ℕ) → Digits ds → value_of ds < 10 ^ length ds
unfolding value_of Digits
value_below [] h = omega arith
value_below (d ∷ ds) h = omega (arith, pow10_suc (length ds), digits_lt h.0 (value_below ds h.1))

-- digits are those of their value
pub digits_of_value : (ds : List ℕ) → Digits ds → digits_of (length ds) (value_of ds) ≡ ds
unfolding value_of Digits digits_of
digits_of_value [] h = refl
digits_of_value (d ∷ ds) h =
    let low = value_below ds h.1 in
    rw (digits_div d low, mod-eq_of_lt h.0, ← digits_mod (length ds) (d * 10 ^ length ds + value_of ds), mod_low d low, digits_of_value ds h.1)

same_test : (a b c d : ℕ) → (a < b → c < d) → (b ≤ a → d ≤ c) → ltb a b ≡ ltb c d
same_test a b c d less more =
    ⊎_elim
    (λ h. le-ltb a b h ∙ sym (le-ltb c d (more h)))
    (λ h. lt-ltb a b h ∙ sym (lt-ltb c d (less h)))
    (le_or_lt b a)

order_step : (x y p v w : ℕ) (b t : Bool) → v < p → w < p → b ≡ ltb v w → eqb x y ≡ t → pick t b (ltb x y) ≡ ltb (x * p + v) (y * p + w)
order_step x y p v w b true hv hw later same =
    let e = ap (λ (m : ℕ). m * p) (eqb-true x y same) in
    later ∙ same_test v w (x * p + v) (y * p + w) (omega arith) (omega arith)
order_step x y p v w b false hv hw later other =
    let ne = eqb-false x y other in
    same_test x y (x * p + v) (y * p + w)
    (λ h. omega (arith, digits_lt h hv))
    (λ h. let g : y < x = omega arith in omega (arith, digits_lt g hw))

-- lists of digits of one length come in the order of their values
pub order_of_values : (xs ys : List ℕ) → length xs ≡ length ys → Digits xs → Digits ys → comes_before xs ys ≡ ltb (value_of xs) (value_of ys)
unfolding comes_before value_of Digits
order_of_values [] [] e h g = refl
order_of_values [] (y ∷ ys) e h g = absurd (omega arith)
order_of_values (x ∷ xs) [] e h g = absurd (omega arith)
order_of_values (x ∷ xs) (y ∷ ys) e h g =
    let later = order_of_values xs ys (suc_inj e) h.1 g.1 in
    let below = value_below ys g.1 in
    order_step x y (10 ^ length xs) (value_of xs) (value_of ys) (comes_before xs ys) (eqb x y)
    (value_below xs h.1) (rw (suc_inj e) below) later refl
    ∙ rw (suc_inj e)

-- numbers come in the order of their digits
pub order_of_digits : (n j k : ℕ) → j < 10 ^ n → k < 10 ^ n → comes_before (digits_of n j) (digits_of n k) ≡ ltb j k
order_of_digits n j k p q =
    order_of_values (digits_of n j) (digits_of n k) (digits_length n j ∙ sym (digits_length n k)) (digits_are_digits n j) (digits_are_digits n k)
    ∙ (λ i. ltb (value_of_digits n j p i) (value_of_digits n k q i))

-- at most all of n digits are zeros before the number
pub leading_at_most : (n k : ℕ) → leading_zeros n k ≤ n
unfolding leading_zeros
leading_at_most zero k = omega arith
leading_at_most (suc n) k =
    ⊎_elim
    (λ h. omega (arith, leading_none n k h))
    (λ h. omega (arith, leading_more n k h, leading_at_most n k))
    (le_or_lt (10 ^ n) k)

-- the digits are the zeros before the number, and then its own
pub leading_digits : (n k : ℕ) → k < 10 ^ n → (z : ℕ) × (z + leading_zeros n k ≡ n) × (digits_of n k ≡ zeros (leading_zeros n k) ++ digits_of z k)
unfolding digits_of zeros leading_zeros
leading_digits zero k h = (zero, refl, refl)
leading_digits (suc n) k h =
    ⊎_elim
    (λ g. (suc n, omega (arith, leading_none n k g), rw (leading_none n k g)))
    (λ g.
    let rest = leading_digits n k g in
    (rest.0, omega (arith, leading_more n k g, rest.1), rw (leading_more n k g, div-eq_of_lt g, rest.2)))
    (le_or_lt (10 ^ n) k)
