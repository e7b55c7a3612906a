-- Laws of half bytes put together to one number. Assumes nothing.
use Rattle.std.proofs.Common.{◌≡◌, ℕ, zero, suc, ◌+◌, ◌-◌, ◌*◌, ◌/◌, ◌%◌, ◌^◌, ◌<◌, ◌≤◌, List, [], ◌∷◌, ◌++◌, length, get_or, sym, refl, ap, ◌∙◌, zero-mul, arith, length-append, pow-add}
use lib.Arith.{digits_lt, digits_div, digits_mod}
use Rattle.decimal.specs.Digits.{digits_of, zeros, packed_of, halves_in, Digits, Halves}
use Rattle.decimal.proofs.DigitLaws.{digits_length, digits_are_digits, digits_split}

-- the weight of the half before n others
weight_suc : (n : ℕ) → 2 ^ (4 * suc n) ≡ 2 ^ 4 * 2 ^ (4 * n)
weight_suc n = ap (λ (m : ℕ). 2 ^ m) (omega arith) ∙ pow-add 2 4 (4 * n)

-- weights of halves one behind the other
weight_add : (n j : ℕ) → 2 ^ (4 * (n + j)) ≡ 2 ^ (4 * n) * 2 ^ (4 * j)
weight_add n j = ap (λ (m : ℕ). 2 ^ m) (omega arith) ∙ pow-add 2 (4 * n) (4 * j)

-- digits are half bytes
pub digits_are_halves : (ds : List ℕ) → Digits ds → Halves ds
unfolding Digits Halves
digits_are_halves [] h = tt
digits_are_halves (d ∷ ds) h = (omega (arith, h.0), digits_are_halves ds h.1)

-- zeros are half bytes
pub zeros_halves : (n : ℕ) → Halves (zeros n)
unfolding zeros Halves
zeros_halves zero = tt
zeros_halves (suc n) = (omega arith, zeros_halves n)

-- half bytes put behind half bytes are half bytes
pub halves_append : (xs ys : List ℕ) → Halves xs → Halves ys → Halves (xs ++ ys)
unfolding Halves
halves_append [] ys h g = g
halves_append (x ∷ xs) ys h g = (h.0, halves_append xs ys h.1 g)

-- n half bytes stay below the weight of the half before them
pub packed_below : (hs : List ℕ) → Halves hs → packed_of hs < 2 ^ (4 * length hs)
unfolding packed_of Halves
packed_below [] h = omega arith
packed_below (h ∷ hs) g =
    omega (arith, weight_suc (length hs), digits_lt g.0 (packed_below hs g.1))

-- half bytes in two parts
pub packed_append : (xs ys : List ℕ) → packed_of (xs ++ ys) ≡ packed_of xs * 2 ^ (4 * length ys) + packed_of ys
unfolding packed_of
packed_append [] ys = omega arith
packed_append (x ∷ xs) ys =
    let split = ap (λ (p : ℕ). x * p) (ap (λ (m : ℕ). 2 ^ (4 * m)) (length-append xs ys) ∙ weight_add (length xs) (length ys)) in
    omega (arith, packed_append xs ys)

-- a shift by the last half bytes leaves the first
pub packed_first : (xs ys : List ℕ) → Halves ys → packed_of (xs ++ ys) / 2 ^ (4 * length ys) ≡ packed_of xs
packed_first xs ys h = rw (packed_append xs ys) (digits_div (packed_of xs) (packed_below ys h))

-- a mask of the last half bytes leaves them
pub packed_last : (xs ys : List ℕ) → Halves ys → packed_of (xs ++ ys) % 2 ^ (4 * length ys) ≡ packed_of ys
packed_last xs ys h = rw (packed_append xs ys) (digits_mod (packed_of xs) (packed_below ys h))

-- zeros before half bytes add nothing
pub packed_zeros : (n : ℕ) (hs : List ℕ) → packed_of (zeros n ++ hs) ≡ packed_of hs
unfolding zeros packed_of
packed_zeros zero hs = refl
packed_zeros (suc n) hs = omega (arith, packed_zeros n hs, zero-mul (2 ^ (4 * length (zeros n ++ hs))))

-- the last digits of a number are half bytes
pub digit_halves : (n k : ℕ) → Halves (digits_of n k)
digit_halves n k = digits_are_halves (digits_of n k) (digits_are_digits n k)

-- n digits stay below the weight of the half before them
pub packed_digits_below : (n k : ℕ) → packed_of (digits_of n k) < 2 ^ (4 * n)
packed_digits_below n k = rw digits_length at (packed_below (digits_of n k) (digit_halves n k))

-- digits in two parts
pub packed_split : (n j k : ℕ) → packed_of (digits_of (n + j) k) ≡ packed_of (digits_of n (k / 10 ^ j)) * 2 ^ (4 * j) + packed_of (digits_of j k)
packed_split n j k =
    rw (digits_split n j k, packed_append (digits_of n (k / 10 ^ j)) (digits_of j k), digits_length j k)

-- half bytes behind a higher part of a number are taken out as they are
halves_behind : (a : ℕ) (hs : List ℕ) → Halves hs → halves_in (length hs) (a * 2 ^ (4 * length hs) + packed_of hs) ≡ hs
unfolding Halves packed_of halves_in
halves_behind a [] g = refl
halves_behind a (h ∷ hs) g =
    let n : ℕ = length hs in
    let low = packed_below hs g.1 in
    let high = ap (λ (m : ℕ). a * m) (weight_suc n) in
    let sum : a * 2 ^ (4 * suc n) + (h * 2 ^ (4 * n) + packed_of hs) ≡ (a * 2 ^ 4 + h) * 2 ^ (4 * n) + packed_of hs = omega arith in
    ap (λ (k : ℕ). k / 2 ^ (4 * n) % 2 ^ 4 ∷ halves_in n k) sum
    ∙ rw (digits_div (a * 2 ^ 4 + h) low, digits_mod a g.0, halves_behind (a * 2 ^ 4 + h) hs g.1)

-- half bytes taken out of the number that they make are those put in
pub halves_of_packed : (n : ℕ) (hs : List ℕ) → length hs ≡ n → Halves hs → halves_in n (packed_of hs) ≡ hs
halves_of_packed n hs e h =
    let none : packed_of hs ≡ 0 * 2 ^ (4 * length hs) + packed_of hs = omega (arith, zero-mul (2 ^ (4 * length hs))) in
    ap (λ (k : ℕ). halves_in k (packed_of hs)) (sym e) ∙ ap (halves_in (length hs)) none ∙ halves_behind 0 hs h

-- so are digits
pub halves_of_digits : (n k : ℕ) → halves_in n (packed_of (digits_of n k)) ≡ digits_of n k
halves_of_digits n k = halves_of_packed n (digits_of n k) (digits_length n k) (digit_halves n k)

-- digits behind a higher part of a number are taken out as they are
digits_behind : (a i k : ℕ) → halves_in i (a * 2 ^ (4 * i) + packed_of (digits_of i k)) ≡ digits_of i k
digits_behind a i k = rw digits_length at (halves_behind a (digits_of i k) (digit_halves i k))

-- the last i of n digits
pub last_halves : (n i k : ℕ) → i ≤ n → halves_in i (packed_of (digits_of n k)) ≡ digits_of i k
last_halves n i k h =
    let parts : n ≡ n - i + i = omega arith in
    ap (λ (m : ℕ). halves_in i (packed_of (digits_of m k))) parts
    ∙ ap (halves_in i) (packed_split (n - i) i k)
    ∙ digits_behind (packed_of (digits_of (n - i) (k / 10 ^ i))) i k

-- a shift drops the last f of n digits, and the last i of those that are left stand before them
pub shifted_halves : (n i f k : ℕ) → i + f ≤ n → halves_in i (packed_of (digits_of n k) / 2 ^ (4 * f)) ≡ digits_of i (k / 10 ^ f)
shifted_halves n i f k h =
    let parts : n ≡ n - f + f = omega arith in
    ap (λ (m : ℕ). halves_in i (packed_of (digits_of m k) / 2 ^ (4 * f))) parts
    ∙ rw (packed_split (n - f) f k, digits_div (packed_of (digits_of (n - f) (k / 10 ^ f))) (packed_digits_below f k))
    (last_halves (n - f) i (k / 10 ^ f) (omega arith))

-- so many half bytes
pub halves_length : (n k : ℕ) → length (halves_in n k) ≡ n
unfolding halves_in
halves_length zero k = refl
halves_length (suc n) k = ap suc (halves_length n k)

-- one of them
pub half_at : (n k i : ℕ) → i < n → get_or (halves_in n k) i 0 ≡ k / 2 ^ (4 * (n - 1 - i)) % 2 ^ 4
unfolding halves_in
half_at zero k i h = absurd (omega arith)
half_at (suc n) k zero h = ap (λ (m : ℕ). k / 2 ^ (4 * m) % 2 ^ 4) (omega arith)
half_at (suc n) k (suc i) h = half_at n k i (omega arith) ∙ ap (λ (m : ℕ). k / 2 ^ (4 * m) % 2 ^ 4) (omega arith)
