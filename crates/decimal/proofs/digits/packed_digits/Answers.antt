-- `decimal::digits::packed_digits` meets its contract: a digit more stands behind those so far. Assumes nothing.
use Rattle.std.proofs.Common.{◌≡◌, ℕ, zero, suc, ◌+◌, ◌-◌, ◌*◌, ◌/◌, ◌%◌, ◌^◌, ◌<◌, ◌≤◌, List, [], ◌∷◌, ◌++◌, take, drop, sym, refl, ap, ◌∙◌, add-mul, mul_assoc, mul_comm, mul-le-mul_right, bit_and, mod-lt, mod-eq_of_lt, add-one, pow-add, arith, shl_exact}
use native.Mathlib.Nat.{div-add-mod, pow-le-pow_right}
use lib.Arith.{digits_div, digits_mod as mod_low, digits_lt}
use lib.Bits.{and_mask}
use Rattle.decimal.specs.Digits.{precision, digits_of, packed_of, digit_in, rest_in, TakesDigit}
use Rattle.decimal.specs.declared.digits.Taken.{Taken}
use Rattle.decimal.proofs.PowerLaws.{pow10_pos, pow10_suc}
use Rattle.decimal.proofs.DigitLaws.{digits_mod, digits_first}
use Rattle.decimal.proofs.PackedLaws.{packed_append, packed_digits_below}
use Rattle.decimal.proofs.digits.packed_digits.Invariants.{SoFar}
use Rattle.decimal.proofs.digits.packed_digits.Goals as goal

-- the first of n + 1 digits, and the others
first_digit : (n d r k : ℕ) → d * 10 ^ n + r ≡ k → r < 10 ^ n → d < 10 → digits_of (suc n) k ≡ d ∷ digits_of n r
unfolding digits_of
first_digit n d r k whole below small =
    rw (← whole, digits_div d below, mod-eq_of_lt small, ← digits_mod n (d * 10 ^ n + r), mod_low d below)

-- a list in two parts, with the first element of the second part put to the first
next_part_lem : (n : ℕ) (xs ys : List ℕ) {d : ℕ} → drop n xs ≡ d ∷ ys → (take (suc n) xs ≡ take n xs ++ (d ∷ [])) × (drop (suc n) xs ≡ ys)
next_part_lem zero [] ys e = absurd (let z : ◌≡◌ {A = ℕ} 0 1 = cc in omega arith)
next_part_lem zero (x ∷ xs) ys e = (cc, cc)
next_part_lem (suc n) [] ys e = absurd (let z : ◌≡◌ {A = ℕ} 0 1 = cc in omega arith)
next_part_lem (suc n) (x ∷ xs) ys e = let rest = next_part_lem n xs ys e in (ap (λ (l : List ℕ). x ∷ l) rest.0, rest.1)

-- a digit behind half bytes
behind : (hs : List ℕ) (d : ℕ) → packed_of (hs ++ (d ∷ [])) ≡ packed_of hs * 16 + d
unfolding packed_of
behind hs d = omega (arith, packed_append hs (d ∷ []))

-- the first digits are a number's own
first_digits : (count m : ℕ) → count ≤ precision → take count (digits_of precision m) ≡ digits_of count (m / 10 ^ (precision - count))
first_digits count m h =
    let parts : precision ≡ count + (precision - count) = omega arith in
    ap (λ (n : ℕ). take count (digits_of n m)) parts ∙ digits_first count (precision - count) m

-- so many of them packed
first_below : (count m : ℕ) → count ≤ precision → packed_of (take count (digits_of precision m)) < 2 ^ (4 * count)
first_below count m h = rw (first_digits count m h) (packed_digits_below count (m / 10 ^ (precision - count)))

-- a power of ten is no more than one of 16
ten_below : (n : ℕ) → 10 ^ n ≤ 2 ^ (4 * n)
ten_below zero = omega arith
ten_below (suc n) =
    let next : 2 ^ (4 * suc n) ≡ 2 ^ 4 * 2 ^ (4 * n) = ap (λ (m : ℕ). 2 ^ m) (omega arith) ∙ pow-add 2 4 (4 * n) in
    omega (arith, pow10_suc n, ten_below n)

-- so a power shifted by the digits before its own is small
scaled_small : (n done : ℕ) → n + done < precision → 10 * (10 ^ n * 2 ^ (4 * done)) < 2 ^ 60
scaled_small n done h =
    let first : 10 ^ n * 2 ^ (4 * done) ≤ 2 ^ (4 * n) * 2 ^ (4 * done) = mul-le-mul_right (2 ^ (4 * done)) (ten_below n) in
    let joined : 2 ^ (4 * n + 4 * done) ≡ 2 ^ (4 * n) * 2 ^ (4 * done) = pow-add 2 (4 * n) (4 * done) in
    let top : 2 ^ (4 * n + 4 * done) ≤ 2 ^ (4 * (precision - 1)) = pow-le-pow_right {n = 2} (omega arith) {i = 4 * n + 4 * done} {j = 4 * (precision - 1)} (omega arith) in
    omega arith

-- and nothing of it is shifted out
scaled_exact : (n done : ℕ) {power : ℕ} → n + done < precision → power ≡ 10 ^ n → power * 2 ^ (4 * done) % 2 ^ 64 ≡ 10 ^ n * 2 ^ (4 * done)
scaled_exact n done h same = rw same (mod-eq_of_lt (omega (arith, scaled_small n done h)))

-- two digits with a rest below the power that make the same number are one
same_parts : {power d q e r : ℕ} → d * power + q ≡ e * power + r → q < power → r < power → (d ≡ e) × (q ≡ r)
same_parts {power} {d} {q} {e} {r} same below small = (
  sym (digits_div d below) ∙ ap (λ (k : ℕ). k / power) same ∙ digits_div e small,
  sym (mod_low d below) ∙ ap (λ (k : ℕ). k % power) same ∙ mod_low e small,
)

-- what is held is below ten powers
held_below : {mantissa done held : ℕ} → done < precision → SoFar mantissa done held → held < 10 * (10 ^ (precision - (done + 1)) * 2 ^ (4 * done))
held_below {mantissa} {done} {held} more s =
    let n = precision - (done + 1) in
    let top : 10 ^ (precision - done) ≡ 10 * 10 ^ n = ap (λ (k : ℕ). 10 ^ k) (omega arith) ∙ pow10_suc n in
    let small : s.rest < 10 * 10 ^ n = omega (arith, s.below) in
    omega (arith, s.split, digits_lt small (first_below done mantissa (omega arith)), mul_assoc 10 (10 ^ n) (2 ^ (4 * done)))

-- one more digit stands behind those so far
turn :
    (mantissa done held : ℕ) {power : ℕ} {taken : Taken}
    → done < precision
    → SoFar mantissa done held
    → power ≡ 10 ^ (precision - (done + 1)) * 2 ^ (4 * done)
    → TakesDigit power held taken
    → SoFar mantissa (done + 1) taken.held
turn mantissa done held {power} {taken} more s scaled takes =
    let after : ℕ = taken.held in
    let n = precision - (done + 1) in
    let ten : ℕ = 10 ^ n in
    let weight : ℕ = 2 ^ (4 * done) in
    let ds = digits_of precision mantissa in
    let front : ℕ = packed_of (take done ds) in
    let d : ℕ = s.rest / ten in
    let r : ℕ = s.rest % ten in
    let whole : d * ten + r ≡ s.rest = omega (arith, div-add-mod s.rest ten, mul_comm d ten) in
    let below : r < ten = mod-lt s.rest (pow10_pos n) in
    let low : r * weight + front < power = omega (arith, scaled, digits_lt below (first_below done mantissa (omega arith))) in
    let apart : (d * ten + r) * weight ≡ d * (ten * weight) + r * weight = add-mul (d * ten) r weight ∙ ap (λ (k : ℕ). k + r * weight) (mul_assoc d ten weight) in
    let made : held ≡ d * power + (r * weight + front) =
    s.split ∙ ap (λ (k : ℕ). k * weight + front) (sym whole) ∙ omega (arith, apart, ap (λ (k : ℕ). d * k) scaled) in
    let same = same_parts {power = power} {d = digit_in after} {q = rest_in after} {e = d} {r = r * weight + front} (takes.sum ∙ made) takes.below low in
    let digit : d < 10 = omega (arith, same.0, takes.small) in
    let left : precision - done ≡ suc n = omega arith in
    let split : drop done ds ≡ d ∷ digits_of n r =
    sym s.others ∙ ap (λ (m : ℕ). digits_of m s.rest) left ∙ first_digit n d r s.rest whole below digit in
    let parts = next_part_lem done ds (digits_of n r) split in
    let packed : packed_of (take (done + 1) ds) ≡ front * 16 + d =
    ap (λ (m : ℕ). packed_of (take m ds)) (add-one done) ∙ ap packed_of parts.0 ∙ behind (take done ds) d in
    let heavier : 2 ^ (4 * (done + 1)) ≡ weight * 2 ^ 4 = ap (λ (m : ℕ). 2 ^ m) (omega arith) ∙ pow-add 2 (4 * done) 4 in
    let product : r * (weight * 2 ^ 4) ≡ r * weight * 2 ^ 4 = sym (mul_assoc r weight (2 ^ 4)) in
    record {
      rest = r;
      split = omega (arith, div-add-mod after 16, same.0, same.1, packed, ap (λ (k : ℕ). r * k) heavier, product);
      others = sym parts.1 ∙ ap (λ (m : ℕ). drop m ds) (sym (add-one done));
      below = below;
    }

pub loop-done-init : goal.loop-done-init
unfolding packed_of
loop-done-init c = record { rest = c.args.mantissa; split = omega arith; others = refl; below = c.requires.0 }

pub take_digit-held-requires : goal.take_digit-held-requires
take_digit-held-requires c =
    let l = c.loop-done in
    let n = precision - (l.done + 1) in
    let exact = scaled_exact n l.done (omega arith) c.power_of_ten.ensures in
    (omega (arith, exact, held_below (omega arith) l.invariant), omega (arith, exact, scaled_small n l.done (omega arith)))

pub loop-done-preserved : goal.loop-done-preserved
loop-done-preserved c =
    let l = c.loop-done in
    turn c.args.mantissa l.done l.held (omega arith) l.invariant (scaled_exact (precision - (l.done + 1)) l.done (omega arith) c.power_of_ten.ensures)
    c.take_digit-held.ensures

pub returns : goal.returns
returns c =
    let l = c.loop-done in
    let m = c.args.mantissa in
    let n = c.args.count in
    let all : l.done ≡ n = omega arith in
    let one : 1 * 2 ^ (4 * n) % 2 ^ 64 ≡ 1 * 2 ^ (4 * n) = shl_exact 1 (4 * n) 64 (omega arith) (omega (arith, c.requires.1)) in
    let mask : 1 * 2 ^ (4 * n) % 2 ^ 64 - 1 ≡ 2 ^ (4 * n) - 1 = omega (arith, one) in
    ap (bit_and l.held) mask
    ∙ and_mask l.held (4 * n)
    ∙ ap (λ (k : ℕ). k % 2 ^ (4 * n)) (l.invariant.split ∙ ap (λ (k : ℕ). l.invariant.rest * 2 ^ (4 * k) + packed_of (take k (digits_of precision m))) all)
    ∙ mod_low l.invariant.rest (first_below n m c.requires.1)
