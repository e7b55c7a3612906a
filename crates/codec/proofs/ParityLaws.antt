-- A column's bytes by the count of its half bytes before the exponent: where it is even the exponent has a byte of its own, where it is odd
-- its first digit, or the pad, fills the byte before. Assumes nothing.
use Prim.Native.Nat.{ℕ, zero, suc, ◌+◌, ◌*◌, ◌/◌, ◌%◌, ◌≤◌}
use mathlib.Core.Path.{◌≡◌, refl, ap, ap₂, sym, ◌∙◌}
use mathlib.Core.List.{List, [], ◌∷◌, ◌++◌, append-nil, append_assoc}
use mathlib.Core.Bool.{Bool, true, false}
use native.Mathlib.Omega.{arith}
use native.Mathlib.Nat.{mod-eq_of_lt}
use lib.ListN.{length, length-append}
use Rattle.decimal.specs.declared.image.Image.{Image}
use Rattle.decimal.specs.Digits.{digits_of, packed_of, halves_in, zeros, Halves}
use Rattle.decimal.specs.Number.{exponent_limit}
use Rattle.decimal.specs.Image.{hashes}
use Rattle.decimal.specs.Truncation.{Truncated}
use Rattle.decimal.proofs.PackedLaws.{halves_of_packed, halves_append}
use Rattle.codec.specs.Columns.{sign_count, exponent_count, pad_count}
use Rattle.codec.specs.Halves.{pack_halves}
use Rattle.codec.specs.Packing.{exponent_size, sign_halves, exponent_halves, column_halves, column_bytes}
use Rattle.codec.proofs.RunLaws.{column_front, front_length, front_halves}

-- an even count of half bytes is packed apart from what follows
pack_halves_append : (xs ys : List ℕ) (k : ℕ) → length xs ≡ 2 * k → pack_halves (xs ++ ys) ≡ pack_halves xs ++ pack_halves ys
unfolding pack_halves
pack_halves_append [] ys k e = refl
pack_halves_append (h ∷ []) ys k e = absurd (omega arith)
pack_halves_append (h ∷ (l ∷ xs)) ys zero e = absurd (omega arith)
pack_halves_append (h ∷ (l ∷ xs)) ys (suc k) e = ap (λ (bs : List ℕ). (h * 16 + l) ∷ bs) (pack_halves_append xs ys k (omega arith))

module _ (im : Image) (t : Truncated) where
  -- the column: what stands before the exponent, the exponent and the pad
  column_parts : {b : Bool} {p : ℕ} → im.exponential ≡ b → pad_count im ≡ p → column_halves im t ≡ (column_front im t) ++ (exponent_halves b t ++ zeros p)
  unfolding column_halves
  column_parts kind pad =
      sym (append_assoc (sign_halves im.sign t) (digits_of (hashes im) t.whole) (exponent_halves im.exponential t ++ zeros (pad_count im)))
      ∙ ap₂ (λ (b : Bool) (p : ℕ). (column_front im t) ++ (exponent_halves b t ++ zeros p)) kind pad

  -- an even count and no exponent: the run is the column
  pub bytes_even_fixed :
      (k : ℕ) → sign_count im.sign + hashes im ≡ 2 * k → im.exponential ≡ false → pack_halves (halves_in (2 * k) (packed_of (column_front im t))) ≡ column_bytes im t
  unfolding column_bytes exponent_halves zeros
  bytes_even_fixed k even kind =
      let pad : pad_count im ≡ 0 = ap (λ (b : Bool). (sign_count im.sign + (hashes im + exponent_count b)) % 2) kind ∙ omega arith in
      ap pack_halves
      (halves_of_packed (2 * k) (column_front im t) ((front_length im t) ∙ even) (front_halves im t) ∙ sym (append-nil (column_front im t)) ∙ sym (column_parts kind pad))

  -- an odd count and no exponent: a zero half behind the run
  pub bytes_odd_fixed :
      (k : ℕ)
      → sign_count im.sign + hashes im + 1 ≡ 2 * k
      → im.exponential ≡ false
      → pack_halves (halves_in (2 * k) (packed_of ((column_front im t) ++ 0 ∷ []))) ≡ column_bytes im t
  unfolding column_bytes exponent_halves zeros Halves
  bytes_odd_fixed k odd kind =
      let pad : pad_count im ≡ 1 = ap (λ (b : Bool). (sign_count im.sign + (hashes im + exponent_count b)) % 2) kind ∙ omega arith in
      ap pack_halves
      (halves_of_packed (2 * k) ((column_front im t) ++ 0 ∷ []) (omega (arith, length-append (column_front im t) (0 ∷ []), (front_length im t)))
      (halves_append (column_front im t) (0 ∷ []) (front_halves im t) (omega arith, tt))
      ∙ sym (column_parts kind pad))

  module _ (small : exponent_size t ≤ exponent_limit) where
    -- two digits of |x|
    exponent_digits : exponent_halves true t ≡ exponent_size t / 10 ∷ (exponent_size t % 10 ∷ [])
    unfolding exponent_halves digits_of
    exponent_digits =
        let tens : exponent_size t / 10 % 10 ≡ exponent_size t / 10 = mod-eq_of_lt (omega arith) in
        ap₂ (λ (a b : ℕ). a ∷ (b ∷ [])) tens (ap (λ (k : ℕ). k % 10) (omega arith))

    -- an even count: the exponent's two digits are a byte behind the run
    pub bytes_even :
        (k : ℕ)
        → sign_count im.sign + hashes im ≡ 2 * k
        → im.exponential ≡ true
        → pack_halves (halves_in (2 * k) (packed_of (column_front im t))) ++ ((exponent_size t / 10 * 16 + exponent_size t % 10) ∷ []) ≡ column_bytes im t
    unfolding column_bytes zeros pack_halves
    bytes_even k even kind =
        let pad : pad_count im ≡ 0 = ap (λ (b : Bool). (sign_count im.sign + (hashes im + exponent_count b)) % 2) kind ∙ omega arith in
        let behind : List ℕ = exponent_size t / 10 ∷ (exponent_size t % 10 ∷ []) in
        ap (λ (hs : List ℕ). pack_halves hs ++ pack_halves behind) (halves_of_packed (2 * k) (column_front im t) ((front_length im t) ∙ even) (front_halves im t))
        ∙ sym (pack_halves_append (column_front im t) behind k ((front_length im t) ∙ even))
        ∙ ap pack_halves (sym (column_parts kind pad ∙ ap (λ (hs : List ℕ). (column_front im t) ++ (hs ++ [])) exponent_digits))

    -- an odd count: the first digit fills the run's last byte, and the second one and a zero half are a byte behind it
    pub bytes_odd :
        (k : ℕ)
        → sign_count im.sign + hashes im + 1 ≡ 2 * k
        → im.exponential ≡ true
        → pack_halves (halves_in (2 * k) (packed_of ((column_front im t) ++ exponent_size t / 10 ∷ []))) ++ ((exponent_size t % 10 * 16) ∷ []) ≡ column_bytes im t
    unfolding column_bytes zeros pack_halves Halves
    bytes_odd k odd kind =
        let pad : pad_count im ≡ 1 = ap (λ (b : Bool). (sign_count im.sign + (hashes im + exponent_count b)) % 2) kind ∙ omega arith in
        let tens : ℕ = exponent_size t / 10 in
        let behind : List ℕ = exponent_size t % 10 ∷ (0 ∷ []) in
        let long : length ((column_front im t) ++ tens ∷ []) ≡ 2 * k = omega (arith, length-append (column_front im t) (tens ∷ []), (front_length im t)) in
        let halves : Halves ((column_front im t) ++ tens ∷ []) = halves_append (column_front im t) (tens ∷ []) (front_halves im t) (omega arith, tt) in
        let last : ◌≡◌ {A = List ℕ} ((exponent_size t % 10 * 16) ∷ []) (pack_halves behind) = ap (λ (b : ℕ). b ∷ []) (omega arith) in
        ap₂ (λ (hs bs : List ℕ). pack_halves hs ++ bs) (halves_of_packed (2 * k) ((column_front im t) ++ tens ∷ []) long halves) last
        ∙ sym (pack_halves_append ((column_front im t) ++ tens ∷ []) behind k long)
        ∙ ap pack_halves
        (append_assoc (column_front im t) (tens ∷ []) behind
        ∙ sym (column_parts kind pad ∙ ap (λ (hs : List ℕ). (column_front im t) ++ (hs ++ 0 ∷ [])) exponent_digits))
