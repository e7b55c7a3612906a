-- Laws of the number that a cut stands for, read from its half bytes: the zeros before the first digit, and the mantissa's digits behind
-- them. Assumes nothing.
use Prim.Native.Nat.{ℕ, zero, suc, ◌+◌, ◌-◌, ◌*◌, ◌/◌, ◌%◌, ◌^◌, ◌<◌, ◌≤◌}
use mathlib.Core.Path.{◌≡◌, refl, ap, ap₂, sym, ◌∙◌}
use mathlib.Core.List.{List, [], ◌++◌, append-nil}
use mathlib.Core.Bool.{Bool, true}
use mathlib.Core.Logic.{⊎_elim}
use native.Mathlib.Omega.{arith}
use Rattle.std.proofs.Math.Nat.{mul-le-mul_right, lt_of_mul-lt-mul_right, le_of_mul-le-mul_right}
use native.Mathlib.Nat.{le-div_iff_mul-le, div-lt_iff_lt-mul, lt_of_lt_of_le}
use Rattle.std.proofs.lemmas.Nat.{leading_length}
use Rattle.std.specs.Int.Count.{count_leading_zeros}
use lib.Pow.{pow_mono, pow-add, shl_exact}
use lib.ListN.{length, length-append}
use Rattle.decimal.specs.declared.image.Image.{Image}
use Rattle.decimal.specs.declared.number.Number.{Number}
use Rattle.decimal.specs.Answer.{done}
use Rattle.decimal.specs.Digits.{precision, digits_of, value_of, packed_of, halves_in, zeros, leading_zeros}
use Rattle.decimal.specs.Number.{exponent_limit, zero_number}
use Rattle.decimal.specs.Cuts.{cut_of, IsCut}
use Rattle.decimal.specs.Truncation.{number_of}
use Rattle.decimal.proofs.PowerLaws.{pow10_pos, pow10_add, pow10_mono}
use Rattle.decimal.proofs.DigitLaws.{le_or_lt, digits_length, digits_padded, digits_are_digits, digits_of_zero, leading_low, leading_top, value_append, value_of_digits, zeros_length}
use Rattle.decimal.proofs.NumberLaws.{scaled_zero}
use Rattle.decimal.proofs.PackedLaws.{digit_halves, halves_append, packed_append, packed_digits_below, packed_zeros, zeros_halves}
use Rattle.codec.specs.Unpacking.{all_digits}
use Rattle.codec.proofs.ColumnTheorem.{Shifted, scaled_parts, digits_pass}
use Rattle.codec.proofs.CutLaws.{zero_both}
use Rattle.codec.proofs.CutReadLaws.{halves_padded, zeros_digits}
use Rattle.codec.proofs.FitLaws.{cut_view}
use Rattle.codec.proofs.UnpackLaws.{all_append}

-- Whole numbers of at most a mantissa's digits, as half bytes.

module _ (k : ℕ) (some : 0 < k) (below : k < 10 ^ precision) where
  -- the zeros before it
  abbrev z : ℕ
  z = leading_zeros precision k

  -- and the digits behind its first
  abbrev j : ℕ
  j = precision - 1 - z

  -- a digit is left
  z_few : z + 0 < precision
  z_few =
      let top = leading_top (precision - 1) k some below in
      ⊎_elim
      (λ (high : precision ≤ z). absurd (omega (arith, top, pow10_mono high, mul-le-mul_right {m = 1} {n = k} (10 ^ z) some)))
      (λ (low : z < precision). omega arith)
      (le_or_lt precision z)

  -- it has so many digits
  k_below : k < 10 ^ suc j
  k_below =
      let top = leading_top (precision - 1) k some below in
      let parts : 10 ^ precision ≡ 10 ^ suc j * 10 ^ z = ap (λ (e : ℕ). 10 ^ e) {x = precision} {y = suc j + z} (omega (arith, z_few)) ∙ pow10_add (suc j) z in
      lt_of_mul-lt-mul_right (10 ^ z) (omega (arith, top, parts))

  k_fills : 10 ^ j ≤ k
  k_fills =
      let low = leading_low (precision - 1) k some below in
      let parts : 10 ^ (precision - 1) ≡ 10 ^ j * 10 ^ z = ap (λ (e : ℕ). 10 ^ e) {x = precision - 1} {y = j + z} (omega (arith, z_few)) ∙ pow10_add j z in
      le_of_mul-le-mul_right {m = 10 ^ j} {n = k} {k = 10 ^ z} (omega (arith, low, parts)) (pow10_pos z)

  -- its digits
  abbrev ds : List ℕ
  ds = digits_of (suc j) k

  -- stand behind the zeros
  digits_parted : digits_of precision k ≡ zeros z ++ ds
  digits_parted = ap (λ (n : ℕ). digits_of n k) (omega (arith, z_few)) ∙ digits_padded z (suc j) k k_below

  made : packed_of (digits_of precision k) ≡ packed_of ds
  made = ap packed_of digits_parted ∙ packed_zeros z ds

  -- so they make a number of so many bits
  made_below : packed_of ds < 2 ^ (4 * suc j)
  made_below = packed_digits_below (suc j) k

  made_fills : 2 ^ (4 * j) ≤ packed_of ds
  unfolding digits_of packed_of
  made_fills =
      let one : 1 ≤ k / 10 ^ j = (le-div_iff_mul-le (pow10_pos j)).1 (omega (arith, k_fills)) in
      let few : k / 10 ^ j < 10 = (div-lt_iff_lt-mul (pow10_pos j)).1 (omega (arith, k_below, pow10_add 1 j)) in
      let first : 1 ≤ k / 10 ^ j % 10 = omega arith in
      least (k / 10 ^ j % 10) first
    where
      least : (d : ℕ) → 1 ≤ d → 2 ^ (4 * j) ≤ d * 2 ^ (4 * length (digits_of j k)) + packed_of (digits_of j k)
      least zero h = absurd (omega arith)
      least (suc d) h = let same : 2 ^ (4 * length (digits_of j k)) ≡ 2 ^ (4 * j) = ap (λ (n : ℕ). 2 ^ (4 * n)) (digits_length j k) in more d same
        where
          more : (d : ℕ) → 2 ^ (4 * length (digits_of j k)) ≡ 2 ^ (4 * j) → 2 ^ (4 * j) ≤ suc d * 2 ^ (4 * length (digits_of j k)) + packed_of (digits_of j k)
          more d same = omega arith

  module _ {halves : ℕ} (same : halves ≡ packed_of (digits_of precision k)) where
    is_made : halves ≡ packed_of ds
    is_made = same ∙ made

    -- the zeros by the bits before the first that is set
    pub zeros_counted : count_leading_zeros 64 halves / 4 ≡ z + (16 - precision)
    zeros_counted =
        let small : halves < 2 ^ 64 = omega (arith, is_made, made_below, pow_mono {i = 4 * suc j} {j = 64} (omega (arith, z_few))) in
        let found = leading_length 64 halves small in
        let m = found.0 in
        let low : 4 * j < m =
        ⊎_elim (λ (le : m ≤ 4 * j). absurd (omega (arith, pow_mono {i = m} {j = 4 * j} le, found.2, is_made, made_fills))) (λ (lt : 4 * j < m). lt) (le_or_lt m (4 * j)) in
        let high : m ≤ 4 * suc j =
        ⊎_elim (λ (le : m ≤ 4 * suc j). le)
        (λ (lt : 4 * suc j < m). absurd (omega (arith, pow_mono {i = 4 * suc j + 1} {j = m} (omega arith), pow-add 2 (4 * suc j) 1, found.3, is_made, made_below)))
        (le_or_lt m (4 * suc j)) in
        omega (arith, found.1, low, high, z_few)

    -- the digits moved left past the zeros
    abbrev moved : List ℕ
    moved = ds ++ zeros z

    moved_made : halves * 2 ^ (4 * z) ≡ packed_of moved
    unfolding packed_of
    moved_made =
        let none : packed_of (zeros z) ≡ 0 = ap packed_of (sym (append-nil (zeros z))) ∙ packed_zeros z [] in
        ap (λ (h : ℕ). h * 2 ^ (4 * z)) is_made
        ∙ sym (packed_append ds (zeros z) ∙ ap₂ (λ (n p : ℕ). packed_of ds * 2 ^ (4 * n) + p) (zeros_length z) none ∙ omega arith)

    moved_halves : halves_in 16 (halves * 2 ^ (4 * z)) ≡ zeros (16 - precision) ++ moved
    moved_halves =
        ap (halves_in 16) moved_made
        ∙ halves_padded (16 - precision) 16 moved (halves_append ds (zeros z) (digit_halves (suc j) k) (zeros_halves z))
        (omega (arith, length-append ds (zeros z), digits_length (suc j) k, zeros_length z, z_few))

    -- none is shifted out
    pub moved_fits : halves * 2 ^ (4 * z) % 2 ^ 64 ≡ halves * 2 ^ (4 * z)
    moved_fits = shl_exact (4 * suc j) (4 * z) 64 (omega (arith, is_made, made_below)) (omega (arith, z_few))

    -- they are digits
    pub moved_digits : all_digits (halves_in 16 (halves * 2 ^ (4 * z))) ≡ true
    moved_digits =
        ap all_digits moved_halves
        ∙ all_append (zeros (16 - precision)) moved
        ∙ rw (zeros_digits (16 - precision), all_append ds (zeros z), digits_pass ds (digits_are_digits (suc j) k), zeros_digits z) refl

    -- of the mantissa
    pub moved_value : value_of (halves_in 16 (halves * 2 ^ (4 * z))) ≡ k * 10 ^ z
    moved_value =
        let front : value_of (zeros (16 - precision)) ≡ 0 = none_value (16 - precision) in
        let back : value_of (zeros z) ≡ 0 = none_value z in
        ap value_of moved_halves
        ∙ value_append (zeros (16 - precision)) moved
        ∙ ap₂ (λ (a b : ℕ). a * 10 ^ length moved + b) front (value_append ds (zeros z) ∙ ap₂ (λ (n p : ℕ). value_of ds * 10 ^ n + p) (zeros_length z) back)
        ∙ ap (λ (v : ℕ). 0 * 10 ^ length moved + (v * 10 ^ z + 0)) (value_of_digits (suc j) k k_below)
        ∙ omega arith
      where
        none_value : (n : ℕ) → value_of (zeros n) ≡ 0
        none_value n = ap value_of (sym (digits_of_zero n)) ∙ value_of_digits n 0 (pow10_pos n)

-- The number of a cut.

module _ {im : Image} {negative : Bool} {halves x : ℕ} (is : IsCut im negative halves x) where
  abbrev whole : ℕ
  whole = value_of (halves_in precision halves)

  -- it has at most a mantissa's digits
  pub whole_below : whole < 10 ^ precision
  whole_below = lt_of_lt_of_le is.below (pow10_mono is.size)

  -- it is 0 where no half byte is set
  pub number_zero : halves ≡ 0 → number_of 0 im (cut_of negative halves x) ≡ done zero_number
  unfolding number_of
  number_zero none =
      scaled_zero 0 negative whole x (exponent_limit + im.fraction)
      (⊎_elim (λ zero. sym (value_of_digits precision whole whole_below) ∙ zero.1) (λ some. absurd (omega (arith, is.digits, some.0)))
      (zero_both (digits_of precision whole)))

  pub number_some : (halves ≡ 0 → ⊥) → 0 < whole
  number_some set =
      ⊎_elim (λ zero. absurd (set (is.digits ∙ zero.0))) (λ some. omega (arith, some.1, value_of_digits precision whole whole_below))
      (zero_both (digits_of precision whole))

  -- its number's parts
  pub number_parts : 0 < whole → (n : Number) × (number_of 0 im (cut_of negative halves x) ≡ done n) × Shifted negative whole x (exponent_limit + im.fraction) n
  unfolding number_of
  number_parts some =
      let view = cut_view is in
      (view.number, view.stands, scaled_parts 0 negative whole x (exponent_limit + im.fraction) some whole_below view.stands)
