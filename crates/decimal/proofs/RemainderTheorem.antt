-- Document 02's remainder: there is one exactly where there is a truncation, and it alone fulfils the sentence. Assumes nothing.
use Rattle.std.proofs.Common.{◌≡◌, ℕ, ◌+◌, ◌-◌, ◌*◌, ◌^◌, ◌<◌, Bool, ◌⊎◌, ℤ, pos, ◌+ℤ◌, ◌-ℤ◌, neg_ℤ, nat_abs, sym, refl, ap, ◌∙◌, subst, inl, inr, ⊎_elim, add-mul, zero-mul, arith}
use native.Mathlib.Nat.{eq_of_mul-eq-mul_right}
use lib.IntN.{pos-+ℤ-pos, neg_ℤ-+ℤ, +ℤ_assoc, +ℤ_invr, -ℤ-+ℤ_cancel}
use Rattle.decimal.specs.declared.number.Number.{Number}
use Rattle.decimal.specs.declared.image.Sign.{Sign}
use Rattle.decimal.specs.declared.image.Image.{Image}
use Rattle.decimal.specs.declared.remainder.Remainder.{Remainder}
use Rattle.decimal.specs.Answer.{done, refused}
use Rattle.decimal.specs.Digits.{precision}
use Rattle.decimal.specs.Number.{exponent_limit, magnitude, scale}
use Rattle.decimal.specs.Truncation.{whole_of, stored_exponent, Truncated, truncated_to, truncation, Fit, number_of, truncated_number}
use Rattle.decimal.specs.Remainder.{power_of, zero_remainder, finer, truncated_units, Sums, IsRemainder, cut_power, cut_off, remainder, RemainderExactly}
use Rattle.decimal.proofs.AnswerLaws.{refused_first, done_same, one_answer, then_done}
use Rattle.decimal.proofs.BoolLaws.{zero_or_not}
use Rattle.decimal.proofs.PowerLaws.{pow10_pos}
use Rattle.decimal.proofs.MagnitudeLaws.{scaled_magnitude}
use Rattle.decimal.proofs.TruncationLaws.{truncation_fit, truncation_done}
use Rattle.decimal.proofs.RemainderLaws.{remainder_path, power_zero, power_some, last_digits, last_zero, last_below, last_sum, cut_last, remainder_fit, remainder_refused}

-- a sum taken away is its parts taken away
less_sum : (a : ℤ) (b c : ℕ) → a -ℤ pos (b + c) ≡ a -ℤ pos b -ℤ pos c
less_sum a b c =
    ap (λ (z : ℤ). a -ℤ z) (sym (pos-+ℤ-pos b c))
    ∙ ap (λ (z : ℤ). a +ℤ z) (neg_ℤ-+ℤ (pos b) (pos c))
    ∙ sym (+ℤ_assoc a (neg_ℤ (pos b)) (neg_ℤ (pos c)))

-- a power is held as one number
held_same : (r s : Remainder) → power_of r ≡ power_of s → r.power ≡ s.power
held_same r s h =
    ap nat_abs
    (sym (-ℤ-+ℤ_cancel (pos r.power) (pos scale)) ∙ ap (λ (z : ℤ). z +ℤ pos scale) h ∙ -ℤ-+ℤ_cancel (pos s.power) (pos scale))

-- where one power of ten is as good as another
other_power : (w p q d : ℕ) → (w ≡ 0) ⊎ (p ≡ q) → w * 10 ^ p * d ≡ w * 10 ^ q * d
other_power w p q d (inl z) = rw (z, zero-mul (10 ^ p), zero-mul (10 ^ q))
other_power w p q d (inr e) = ap (λ (k : ℕ). w * 10 ^ k * d) e

-- of two whole numbers that make the same sum in the same units, each is the other
units_cancel : (t a b p q m : ℕ) → 0 < p → 0 < q → t + a * p * q ≡ m → t + b * p * q ≡ m → a ≡ b
units_cancel t a b p q m some more h g =
    eq_of_mul-eq-mul_right p some a b (eq_of_mul-eq-mul_right q more (a * p) (b * p) (omega arith))

-- the same image with another sign
abbrev pub other_image : Image → Sign → Image
other_image im s = record { sign = s; integer = im.integer; fraction = im.fraction; exponential = im.exponential }

-- the same number with another sign
abbrev pub other_number : Number → Bool → Number
other_number n b = record { negative = b; mantissa = n.mantissa; exponent = n.exponent }

module _ (im : Image) (n : Number) where
  -- the r with a power that fulfils the sentence is the only one
  sums_once : (t : Truncated) (r s : Remainder) → s.power ≡ r.power → Sums im n t r → Sums im n t s → s ≡ r
  sums_once t r s same h g =
      let at-power : truncated_units t + s.whole * 10 ^ r.power * finer im ≡ magnitude n * finer im =
      subst (λ (p : ℕ). truncated_units t + s.whole * 10 ^ p * finer im ≡ magnitude n * finer im) same g in
      remainder_path
      (units_cancel (truncated_units t) s.whole r.whole (10 ^ r.power) (finer im) _ (pow10_pos r.power) (pow10_pos (exponent_limit + im.fraction)) at-power h)
      same

  -- a truncation leaves one remainder
  pub left_once : {t : Truncated} {r s : Remainder} → IsRemainder im n t r → IsRemainder im n t s → s ≡ r
  left_once {t} {r} {s} p q =
      ⊎_elim
      (λ z. sums_once t r s (held_same s r ((q.zero z).1 ∙ sym (p.zero z).1)) p.sum q.sum)
      (λ nz. sums_once t r s (held_same s r (q.power nz ∙ sym (p.power nz))) p.sum q.sum)
      (zero_or_not n.mantissa)

  -- a number that fits leaves what the definition says
  pub fit_left : Fit im n → IsRemainder im n (truncated_to im n) (cut_off im n (truncated_to im n))
  unfolding cut_off
  fit_left fit =
      record {
        below = rw (cut_last im n fit) (last_below im n);
        power = λ nz. ap (λ (p : ℕ). pos p -ℤ pos scale) (power_some n nz) ∙ less_sum (pos n.exponent) exponent_limit (precision - 1);
        zero = λ z. (cut_last im n fit ∙ last_zero im n z, ap (λ (p : ℕ). pos p -ℤ pos scale) (power_zero n z) ∙ +ℤ_invr (pos scale));
        sum =
            ap (λ (q : ℕ). truncated_units (truncated_to im n) + q)
            (ap (λ (w : ℕ). w * 10 ^ cut_power n * finer im) (cut_last im n fit)
            ∙ other_power (last_digits im n) (cut_power n) n.exponent (finer im) zero_or_power)
            ∙ last_sum im n fit;
      }
    where
      zero_or_power : (last_digits im n ≡ 0) ⊎ (cut_power n ≡ n.exponent)
      zero_or_power = ⊎_elim (λ z. inl (last_zero im n z)) (λ nz. inr (power_some n nz)) (zero_or_not n.mantissa)

module _ (place : ℕ) (im : Image) (n : Number) where
  -- a remainder that is given is what the truncation leaves
  given_left : {r : Remainder} → remainder place im n ≡ done r → (t : Truncated) × (truncation place im n ≡ done t) × IsRemainder im n t r
  unfolding remainder
  given_left {r} h =
      let b = then_done (truncation place im n) (λ (t : Truncated). done (cut_off im n t)) h in
      let fit = truncation_fit place im n b.first in
      let to : b.value ≡ truncated_to im n = truncation_done place im n b.first in
      let same : cut_off im n (truncated_to im n) ≡ r = ap (cut_off im n) (sym to) ∙ done_same b.second in
      (truncated_to im n, b.first ∙ ap done to, subst (IsRemainder im n (truncated_to im n)) same (fit_left im n fit))

  -- and what a truncation leaves is given
  left_given : {r : Remainder} → (t : Truncated) → truncation place im n ≡ done t → IsRemainder im n t r → remainder place im n ≡ done r
  left_given {r} t h left =
      let fit = truncation_fit place im n h in
      let to : t ≡ truncated_to im n = truncation_done place im n h in
      remainder_fit im n fit place
      ∙ ap done (left_once im n (subst (λ (k : Truncated). IsRemainder im n k r) to left) (fit_left im n fit))

  -- the number zero leaves zero's
  zero_left : n.mantissa ≡ 0 → {r : Remainder} → remainder place im n ≡ done r → r ≡ zero_remainder
  zero_left z {r} h =
      let parts = (given_left h).2.zero z in
      remainder_path parts.0 (held_same r zero_remainder (parts.1 ∙ sym (+ℤ_invr (pos scale))))

  -- refused only where truncation is
  refused_as : (number at_place : ℕ) → remainder place im n ≡ refused number at_place → truncation place im n ≡ refused number at_place
  unfolding remainder
  refused_as number at_place h =
      refused_first (truncation place im n) (λ (t : Truncated). done (cut_off im n t)) (λ t e. (cut_off im n (truncated_to im n), remainder_fit im n (truncation_fit place im n e) place)) h

  -- the truncation as a number
  as_number :
      {m : Number} {r : Remainder}
      → truncated_number place im n ≡ done m
      → remainder place im n ≡ done r
      → magnitude m + r.whole * 10 ^ r.power ≡ magnitude n
  unfolding truncated_number number_of
  as_number {m} {r} cut h =
      let b = then_done (truncation place im n) (number_of place im) cut in
      let g = given_left h in
      let t : Truncated = b.value in
      let sums : Sums im n t r = subst (λ (u : Truncated). Sums im n u r) (one_answer g.1 b.first) g.2.sum in
      let d : ℕ = finer im in
      let size : magnitude m * d ≡ truncated_units t = scaled_magnitude place t.negative t.whole t.x (exponent_limit + im.fraction) b.second in
      eq_of_mul-eq-mul_right d (pow10_pos (exponent_limit + im.fraction)) (magnitude m + r.whole * 10 ^ r.power) (magnitude n)
      (add-mul (magnitude m) (r.whole * 10 ^ r.power) d ∙ ap (λ (q : ℕ). q + r.whole * 10 ^ r.power * d) size ∙ sums)

  -- Published: there is a remainder exactly where there is a truncation, and it alone fulfils the sentence.
  pub remainder_exactly : RemainderExactly place im n
  remainder_exactly =
      record {
        given = λ r. (given_left, λ p. left_given p.0 p.1 p.2);
        of_zero = zero_left;
        refuses = λ number at_place. (refused_as number at_place, remainder_refused im n place);
        only = once;
        number_sum = as_number;
      }
    where
      once :
          {t : Truncated} {r : Remainder}
          → truncation place im n ≡ done t
          → remainder place im n ≡ done r
          → (s : Remainder)
          → power_of s ≡ power_of r
          → Sums im n t s
          → s ≡ r
      once {t} {r} cut h s same sums =
          let g = given_left h in
          sums_once im n t r s (held_same s r same) (subst (λ (u : Truncated). Sums im n u r) (one_answer g.1 cut) g.2.sum) sums

-- Published: no sign plays a part. A number and an image with other signs leave the same.
pub signs_apart :
    (im : Image) (n : Number) (s : Sign) (b : Bool)
    → cut_off (other_image im s) (other_number n b) (truncated_to (other_image im s) (other_number n b)) ≡ cut_off im n (truncated_to im n)
unfolding cut_off cut_power truncated_to whole_of stored_exponent magnitude
signs_apart im n s b = refl
