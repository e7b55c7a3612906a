-- A column's bytes are read back as the truncation that was packed, and the bytes that are read are those that some number packs to.
-- Assumes nothing.
use Prim.Native.Nat.{ℕ, zero, suc, ◌+◌, ◌-◌, ◌*◌, ◌/◌, ◌%◌, ◌^◌, ◌≤◌, ◌<◌}
use mathlib.Core.Path.{◌≡◌, refl, ap, ap₂, sym, ◌∙◌, subst, subst⁻¹}
use mathlib.Core.Bool.{Bool, true, false, not, ◌&&◌}
use mathlib.Core.List.{List, [], ◌∷◌, ◌++◌}
use mathlib.Core.Logic.{◌⊎◌, inl, inr, ⊎_elim}
use native.Mathlib.Omega.{arith}
use native.Mathlib.Nat.{add_comm, mul-le-mul_right, mul-lt-mul_of_pos_right, lt_of_lt_of_le, le-div_iff_mul-le, mul-div_cancel}
use lib.Dec.{ltb, leb, eqb}
use lib.ListN.{length, take, drop, get_or, take-append-drop, length-drop}
use lib.Seq.{take_at, drop_at, drop-drop, length-take-le}
use borrow.Author.Tests.{eq-eqb, ne_eqb, lt-ltb, le-ltb, le-leb, lt-leb, ltb-true, ltb-false, leb-true, leb-false, eqb-true, eqb-false, not-false}
use Rattle.decimal.specs.declared.image.Sign.{Sign}
use Rattle.decimal.specs.declared.image.Sign.TheVariants.{Unsigned, Plus, Minus}
use Rattle.decimal.specs.declared.image.Image.{Image}
use Rattle.decimal.specs.declared.number.Number.{Number}
use Rattle.decimal.specs.Answer.{Answer, done, refused, ◌then◌, pick}
use Rattle.decimal.specs.Digits.{precision, digits_of, value_of, zeros, leading_zeros, Digits, Halves}
use Rattle.decimal.specs.Number.{exponent_limit, zero_number, shifted_number, scaled_number}
use Rattle.decimal.specs.Image.{hashes}
use Rattle.decimal.specs.Truncation.{is_signed, whole_of, exceeds, exponent_outside, stored_exponent, Truncated, truncated_to, truncation, packed_truncation, number_of, truncated_number, Fit, kept_count, dropped_count, kept_number}
use Rattle.decimal.proofs.BoolLaws.{and_true, zero_or_not}
use Rattle.decimal.proofs.PowerLaws.{pow10_pos, pow10_add, pow10_suc, pow10_mono}
use Rattle.decimal.proofs.DigitLaws.{le_or_lt, leading_unique, leading_low, leading_top, leading_more, leading_at_most, digits_length, digits_are_digits, value_of_digits, value_below, digits_of_value}
use Rattle.decimal.proofs.NumberLaws.{InRange, normal_range, range_normal, zero_normal, scaled_zero, scaled_shifted, shifted_below, shifted_above, shifted_done}
use Rattle.decimal.proofs.TruncationLaws.{truncation_fit, fit_truncation, packed_refused, packed_signed, packed_negative, packed_unsigned, exceeds_zero, exceeds_range, outside_zero, outside_above, stored_zero, stored_exponential, stored_fixed, kept_exponential, kept_fixed}
use Rattle.decimal.proofs.KeptLaws.{whole_zero, kept_whole, kept_none, number_none, number_some}
use Rattle.decimal.proofs.AnswerLaws.{never_done, never, one_answer}
use Rattle.codec.specs.Lists.{any_of}
use Rattle.codec.specs.Columns.{Checked, sign_count, exponent_count, half_count, pad_count, column_size}
use Rattle.codec.specs.Halves.{pack_halves, halves_of}
use Rattle.codec.specs.Packing.{exponent_size, sign_half, sign_halves, exponent_halves, column_halves, column_bytes}
use Rattle.codec.specs.Order.{Bytes}
use Rattle.codec.specs.Unpacking.{all_digits, all_zero, sign_part, digit_part, exponent_part, pad_part, minus_bit, below_bit, said_by, breaks_rules, as_half, parts_number, halves_number, unpack_column}
use Rattle.codec.proofs.ContentsLaws.{column_halves_lem}
use Rattle.codec.proofs.FitLaws.{whole_size, stored_top, fixed_stored}
use Rattle.codec.proofs.HalfLaws.{halves_of_packed, packed_of_halves, halves_length, bytes_halves, column_halves_below, sign_halves_length, exponent_halves_length, column_even}

-- Answers and tests.

-- a test has one value
pub two_values : {B : Type 0} {b : Bool} → b ≡ true → b ≡ false → B
two_values p q = let e : ◌≡◌ {A = Bool} true false = sym p ∙ q in let z : ◌≡◌ {A = ℕ} 0 1 = cc in absurd (omega arith)

-- a number that is not zero is positive
positive : (k : ℕ) → (k ≡ 0 → ⊥) → 0 < k
positive k h = omega arith

-- a number below 1 is zero
nothing : (k : ℕ) → k < 1 → k ≡ 0
nothing k h = omega arith

-- a test that is not true is false
not_then : (b : Bool) → (b ≡ true → ⊥) → b ≡ false
not_then true h = absurd (h refl)
not_then false h = refl

-- a conjunction is false where the second part is, if the first holds
and_false : (a b : Bool) → (a ≡ true → b ≡ false) → (a && b) ≡ false
and_false true b h = h refl
and_false false b h = refl

-- and the other way
and_off : (a b : Bool) → (a && b) ≡ false → a ≡ true → b ≡ false
and_off true b h e = h
and_off false b h e = two_values e refl

-- a sign that needs a signed image is kept there
sign_same : (a s m z : Bool) → (a ≡ true → s ≡ true) → m ≡ a → z ≡ false → a ≡ (s && (m && not z))
sign_same false s m z needs p q = sym (rw p (and_false s false (λ e. refl)))
sign_same true s m z needs p q = sym (rw (needs refl, p, q))

-- no test of a list holds: neither the first nor one of the others
any_none : (a : Bool) (bs : List Bool) → any_of (a ∷ bs) ≡ false → (a ≡ false) × (any_of bs ≡ false)
any_none false bs h = (refl, h)
any_none true bs h = two_values refl h

-- five tests, none of which holds
five_none :
    (a b c d e : Bool)
    → a ≡ false
    → b ≡ false
    → c ≡ false
    → d ≡ false
    → e ≡ false
    → any_of (a ∷ (b ∷ (c ∷ (d ∷ (e ∷ []))))) ≡ false
five_none a b c d e p q r s t = rw (p, q, r, s, t)

-- truncated numbers are equal where their parts are
truncated_path : {s t : Truncated} → s.negative ≡ t.negative → s.whole ≡ t.whole → s.x ≡ t.x → s ≡ t
truncated_path p q r = λ i. record { negative = p i; whole = q i; x = r i }

-- What is packed.

-- a number that is packed, and what it is truncated to; the column plays no part in this
pub record Packing (im : Image) (n : Number) (t : Truncated) : Type 0 where
  pub fit : Fit im n
  pub cut : t ≡ truncated_to im n
  pub room : is_signed im.sign ≡ false → exponent_limit ≤ stored_exponent im n

-- where packing is not refused
pub packed_view : (place : ℕ) (im : Image) (n : Number) {t : Truncated} → packed_truncation place im n ≡ done t → Packing im n t
packed_view place im n {t} h = go (truncation place im n) refl
  where
    signed : Fit im n → (b : Bool) → is_signed im.sign ≡ b → Packing im n t
    signed fit true s =
        record { fit = fit; cut = one_answer h (packed_signed place im n fit s); room = λ u. two_values s u }
    signed fit false s =
        ⊎_elim
        (λ le. record { fit = fit; cut = one_answer h (packed_unsigned place im n fit s le); room = λ u. le })
        (λ lt. never (packed_negative place im n fit s lt) h)
        (le_or_lt exponent_limit (stored_exponent im n))

    go : (a : Answer Truncated) → truncation place im n ≡ a → Packing im n t
    go (done s) e = signed (truncation_fit place im n e) (is_signed im.sign) refl
    go (refused x y) e = never (packed_refused place im n e) h

-- it is refused in no column
pub packed_back : (place : ℕ) (im : Image) (n : Number) {t : Truncated} → Packing im n t → packed_truncation place im n ≡ done t
packed_back place im n {t} p = go (is_signed im.sign) refl ∙ ap {B = Answer Truncated} done (sym p.cut)
  where
    go : (b : Bool) → is_signed im.sign ≡ b → packed_truncation place im n ≡ done (truncated_to im n)
    go true s = packed_signed place im n p.fit s
    go false s = packed_unsigned place im n p.fit s (p.room s)

-- The bounds of what is packed.

-- the first h digits of m do not begin with 0
cut_first : (m p h : ℕ) → 10 ^ p ≤ m → 0 < h → h ≤ suc p → 10 ^ h ≤ m / 10 ^ (suc p - h) * 10
cut_first m p zero low some few = absurd (omega arith)
cut_first m p (suc h) low some few =
    let parts : 10 ^ p ≡ 10 ^ h * 10 ^ (suc p - suc h) = ap (λ (q : ℕ). 10 ^ q) (omega arith) ∙ pow10_add h (suc p - suc h) in
    let first : 10 ^ h ≤ m / 10 ^ (suc p - suc h) = (le-div_iff_mul-le (pow10_pos (suc p - suc h))).1 (rw parts at low) in
    omega (arith, pow10_suc h)

-- what a truncation that is packed keeps to
pub record Kept (im : Image) (t : Truncated) : Type 0 where
  pub size : t.whole < 10 ^ hashes im
  pub top : t.x ≤ 2 * exponent_limit
  pub minus : t.negative ≡ true → (0 < t.whole) × (is_signed im.sign ≡ true)
  pub zero_x : t.whole ≡ 0 → t.x ≡ exponent_limit
  pub fixed_x : im.exponential ≡ false → t.x ≡ exponent_limit
  pub first : im.exponential ≡ true → 0 < t.whole → 10 ^ hashes im ≤ t.whole * 10
  pub unsigned_x : is_signed im.sign ≡ false → exponent_limit ≤ t.x

module _ (im : Image) (n : Number) (fit : Fit im n) where
  -- a minus stands only on a k above 0 and under an image with a sign
  sign_kept : (is_signed im.sign && (n.negative && not (eqb (whole_of im n) 0))) ≡ true → (0 < whole_of im n) × (is_signed im.sign ≡ true)
  sign_kept h =
      let parts = and_true (is_signed im.sign) (n.negative && not (eqb (whole_of im n) 0)) h in
      let rest = and_true n.negative (not (eqb (whole_of im n) 0)) parts.1 in
      (⊎_elim (λ z. two_values rest.1 (ap not (eq-eqb (whole_of im n) 0 z))) (λ nz. omega arith) (zero_or_not (whole_of im n)), parts.0)

  -- a k of 0 has x = 0
  none_stored : whole_of im n ≡ 0 → stored_exponent im n ≡ exponent_limit
  none_stored z =
      let none : kept_count im n ≡ 0 = eqb-true (kept_count im n) 0 (sym (kept_none im n fit) ∙ eq-eqb (whole_of im n) 0 z) in
      ⊎_elim (λ m. stored_zero im n m) (λ nz. go none nz im.exponential refl) (zero_or_not n.mantissa)
    where
      go : kept_count im n ≡ 0 → (n.mantissa ≡ 0 → ⊥) → (b : Bool) → im.exponential ≡ b → stored_exponent im n ≡ exponent_limit
      go none nz true kind = absurd (omega (arith, kept_exponential im n nz kind, fit.nonempty))
      go none nz false kind = stored_fixed im n nz kind

  -- exponential: a k above 0 does not begin with 0
  first_kept : im.exponential ≡ true → 0 < whole_of im n → 10 ^ hashes im ≤ whole_of im n * 10
  first_kept kind some =
      let nz : n.mantissa ≡ 0 → ⊥ = λ z. omega (arith, whole_zero im n z) in
      let range = normal_range n fit.number_checked nz in
      rw (kept_whole im n fit, kept_exponential im n nz kind)
      (cut_first n.mantissa (precision - 1) (hashes im) range.low fit.nonempty fit.size)

  -- a truncation keeps to these bounds, if an unsigned image has no negative x
  fit_kept : (is_signed im.sign ≡ false → exponent_limit ≤ stored_exponent im n) → Kept im (truncated_to im n)
  unfolding truncated_to
  fit_kept room =
      record {
        size = whole_size im n fit;
        top = stored_top im n fit;
        minus = sign_kept;
        zero_x = none_stored;
        fixed_x = fixed_stored im n;
        first = first_kept;
        unsigned_x = room;
      }

-- a truncation that is packed keeps to these bounds
pub packing_kept : (im : Image) (n : Number) {t : Truncated} → Packing im n t → Kept im t
packing_kept im n p = subst⁻¹ (λ (t : Truncated). Kept im t) p.cut (fit_kept im n p.fit p.room)

-- What the parts of a column say.

-- |x| where x is negative
size_below : (t : Truncated) → t.x < exponent_limit → exponent_size t ≡ exponent_limit - t.x
unfolding exponent_size
size_below t h = rw (lt-ltb t.x exponent_limit h)

-- |x| where it is not
size_above : (t : Truncated) → exponent_limit ≤ t.x → exponent_size t ≡ t.x - exponent_limit
unfolding exponent_size
size_above t h = rw (le-ltb t.x exponent_limit h)

-- |x| has two digits
size_few : (t : Truncated) → t.x ≤ 2 * exponent_limit → exponent_size t ≤ exponent_limit
size_few t h =
    ⊎_elim
    (λ le. omega (arith, size_above t le))
    (λ lt. omega (arith, size_below t lt))
    (le_or_lt exponent_limit t.x)

-- a sign half that says a truncation's sign and the sign of its x
record SignTells (t : Truncated) (sign : ℕ) : Type 0 where
  pub plain : leb 2 (sign % 8) ≡ false
  pub minus : minus_bit sign ≡ t.negative
  pub below : below_bit sign ≡ ltb t.x exponent_limit

-- the packed sign half does
sign_half_tells : (t : Truncated) → SignTells t (sign_half t)
unfolding sign_half
sign_half_tells t = go t.negative (ltb t.x exponent_limit) refl refl
  where
    go : (m b : Bool) → t.negative ≡ m → ltb t.x exponent_limit ≡ b → SignTells t (pick t.negative 1 0 + pick (ltb t.x exponent_limit) 8 0)
    go true true p q = rw (p, q) (record { plain = refl; minus = refl; below = sym q })
    go true false p q = rw (p, q) (record { plain = refl; minus = refl; below = sym q })
    go false true p q = rw (p, q) (record { plain = refl; minus = refl; below = sym q })
    go false false p q = rw (p, q) (record { plain = refl; minus = refl; below = sym q })

module _ (im : Image) (t : Truncated) (kept : Kept im t) where
  -- a missing sign half says plus and no negative x
  no_sign_tells : is_signed im.sign ≡ false → SignTells t 0
  no_sign_tells u =
      record {
        plain = refl;
        minus = sym (not_then t.negative (λ h. two_values (kept.minus h).1 u));
        below = sym (le-ltb t.x exponent_limit (kept.unsigned_x u));
      }

  module _ (sign : ℕ) (tells : SignTells t sign) where
    -- the sign half, k and |x| say the truncation
    said_again : said_by sign t.whole (exponent_size t) ≡ t
    unfolding said_by exponent_size
    said_again = truncated_path tells.minus refl (rw tells.below (go (ltb t.x exponent_limit) refl))
      where
        go : (b : Bool) → ltb t.x exponent_limit ≡ b → pick b (exponent_limit - pick b (exponent_limit - t.x) (t.x - exponent_limit)) (exponent_limit + pick b (exponent_limit - t.x) (t.x - exponent_limit)) ≡ t.x
        go true e = omega (arith, ltb-true t.x exponent_limit e)
        go false e = omega (arith, ltb-false t.x exponent_limit e)

    -- and break no rule
    breaks_none : breaks_rules im sign t.whole (exponent_size t) ≡ false
    unfolding breaks_rules
    breaks_none =
        five_none (leb 2 (sign % 8)) (minus_bit sign && eqb t.whole 0) (below_bit sign && eqb (exponent_size t) 0)
        (eqb t.whole 0 && leb 1 (exponent_size t))
        (im.exponential && (leb 1 t.whole && ltb (t.whole * 10) (10 ^ hashes im)))
        tells.plain
        (and_false (minus_bit sign) (eqb t.whole 0)
        (λ m. ne_eqb t.whole 0 (λ z. omega (arith, (kept.minus (sym tells.minus ∙ m)).0))))
        (and_false (below_bit sign) (eqb (exponent_size t) 0)
        (λ b.
        let l = ltb-true t.x exponent_limit (sym tells.below ∙ b) in
        ne_eqb (exponent_size t) 0 (λ z. omega (arith, size_below t l))))
        (and_false (eqb t.whole 0) (leb 1 (exponent_size t))
        (λ z.
        let e = kept.zero_x (eqb-true t.whole 0 z) in
        lt-leb 1 (exponent_size t) (omega (arith, size_above t (omega arith)))))
        (and_false im.exponential (leb 1 t.whole && ltb (t.whole * 10) (10 ^ hashes im))
        (λ k.
        and_false (leb 1 t.whole) (ltb (t.whole * 10) (10 ^ hashes im))
        (λ s. le-ltb (t.whole * 10) (10 ^ hashes im) (kept.first k (leb-true 1 t.whole s)))))

-- The parts of a run of halves.

module _ (s d e z : List ℕ) (a h x : ℕ) (first : length s ≡ a) where
  -- what stands behind the first part
  behind_first : drop a (s ++ (d ++ (e ++ z))) ≡ d ++ (e ++ z)
  behind_first = drop_at s (d ++ (e ++ z)) a first

  module _ (second : length d ≡ h) where
    -- the second part
    part_second : take h (drop a (s ++ (d ++ (e ++ z)))) ≡ d
    part_second = ap (take h) behind_first ∙ take_at d (e ++ z) h second

    -- what stands behind it
    behind_second : drop (a + h) (s ++ (d ++ (e ++ z))) ≡ e ++ z
    behind_second = sym (drop-drop h a (s ++ (d ++ (e ++ z)))) ∙ ap (drop h) behind_first ∙ drop_at d (e ++ z) h second

    module _ (third : length e ≡ x) where
      -- the third part
      part_third : take x (drop (a + h) (s ++ (d ++ (e ++ z)))) ≡ e
      part_third = ap (take x) behind_second ∙ take_at e z x third

      -- the last part
      part_last : drop (a + (h + x)) (s ++ (d ++ (e ++ z))) ≡ z
      part_last =
          sym (drop-drop (h + x) a (s ++ (d ++ (e ++ z))))
          ∙ ap (drop (h + x)) behind_first
          ∙ sym (drop-drop x h (d ++ (e ++ z)))
          ∙ ap (drop x) (drop_at d (e ++ z) h second)
          ∙ drop_at e z x third

-- a list in four parts
four_parts : (l : List ℕ) (a h x : ℕ) → take a l ++ (take h (drop a l) ++ (take x (drop (a + h) l) ++ drop (a + (h + x)) l)) ≡ l
four_parts l a h x =
    ap (λ (k : List ℕ). take a l ++ (take h (drop a l) ++ k))
    (ap₂ (λ (p q : List ℕ). take x p ++ q)
    (sym (drop-drop h a l))
    (sym (drop-drop (h + x) a l) ∙ sym (drop-drop x h (drop a l)))
    ∙ take-append-drop x (drop h (drop a l)))
    ∙ ap (λ (k : List ℕ). take a l ++ k) (take-append-drop h (drop a l))
    ∙ take-append-drop a l

-- the tests say what digits and zeros are
pub digits_pass : (ds : List ℕ) → Digits ds → all_digits ds ≡ true
unfolding Digits all_digits
digits_pass [] h = refl
digits_pass (d ∷ ds) h = rw (lt-ltb d 10 h.0) (digits_pass ds h.1)

-- and the other way
pub pass_digits : (ds : List ℕ) → all_digits ds ≡ true → Digits ds
unfolding Digits all_digits
pass_digits [] h = tt
pass_digits (d ∷ ds) h = let p = and_true (ltb d 10) (all_digits ds) h in (ltb-true d 10 p.0, pass_digits ds p.1)

-- zeros pass the test for zeros
zeros_pass : (n : ℕ) → all_zero (zeros n) ≡ true
unfolding zeros all_zero
zeros_pass zero = refl
zeros_pass (suc n) = zeros_pass n

-- what passes it is zeros
pass_zeros : (ds : List ℕ) → all_zero ds ≡ true → zeros (length ds) ≡ ds
unfolding zeros all_zero
pass_zeros [] h = refl
pass_zeros (d ∷ ds) h =
    let p = and_true (eqb d 0) (all_zero ds) h in
    ap₂ (λ (a : ℕ) (l : List ℕ). a ∷ l) (sym (eqb-true d 0 p.0)) (pass_zeros ds p.1)

-- Packing a column and reading it back.

-- the exponent halves are digits
exponent_halves_digits : (b : Bool) (t : Truncated) → Digits (exponent_halves b t)
unfolding exponent_halves Digits
exponent_halves_digits true t = digits_are_digits 2 (exponent_size t)
exponent_halves_digits false t = tt

-- their value is |x|, where a fixed-point image has x = 0
exponent_halves_value : (b : Bool) (t : Truncated) → exponent_size t ≤ exponent_limit → (b ≡ false → exponent_size t ≡ 0) → value_of (exponent_halves b t) ≡ exponent_size t
unfolding exponent_halves value_of
exponent_halves_value true t few none = value_of_digits 2 (exponent_size t) (omega arith)
exponent_halves_value false t few none = sym (none refl)

-- the sign half that is read tells
sign_part_tells : (s : Sign) (t : Truncated) (rest : List ℕ) → (is_signed s ≡ false → SignTells t 0) → SignTells t (sign_part s (sign_halves s t ++ rest))
unfolding sign_part sign_halves
sign_part_tells Unsigned t rest u = u refl
sign_part_tells Plus t rest u = sign_half_tells t
sign_part_tells Minus t rest u = sign_half_tells t

-- halves whose parts pass the tests have the number of their parts
halves_number_lem :
    (column : ℕ) (im : Image) (hs : List ℕ)
    → all_digits (digit_part im hs) ≡ true
    → all_digits (exponent_part im hs) ≡ true
    → all_zero (pad_part im hs) ≡ true
    → halves_number column im hs
    ≡ parts_number column im (sign_part im.sign hs) (value_of (digit_part im hs)) (value_of (exponent_part im hs))
unfolding halves_number
halves_number_lem column im hs p q r = rw (p, q, r)

-- parts that break no rule have the number that they say
parts_number_lem :
    (column : ℕ) (im : Image) (sign whole size : ℕ) {n : Number}
    → breaks_rules im sign whole size ≡ false
    → number_of column im (said_by sign whole size) ≡ done n
    → parts_number column im sign whole size ≡ done n
unfolding parts_number as_half
parts_number_lem column im sign whole size p q = rw (p, q)

module _ (im : Image) (t : Truncated) where
  -- the parts of a column's halves: the sign half
  abbrev signs : List ℕ
  signs = sign_halves im.sign t

  -- the digits of k
  abbrev places : List ℕ
  places = digits_of (hashes im) t.whole

  -- the digits of |x|
  abbrev exponents : List ℕ
  exponents = exponent_halves im.exponential t

  -- the zero half
  abbrev pads : List ℕ
  pads = zeros (pad_count im)

  -- the digits of a column's halves
  column_digits : digit_part im (column_halves im t) ≡ digits_of (hashes im) t.whole
  unfolding digit_part column_halves
  column_digits =
      part_second signs places exponents pads (sign_count im.sign) (hashes im) (exponent_count im.exponential)
      (sign_halves_length im.sign t) (digits_length (hashes im) t.whole)

  -- the digits of |x|
  column_exponent : exponent_part im (column_halves im t) ≡ exponent_halves im.exponential t
  unfolding exponent_part column_halves
  column_exponent =
      part_third signs places exponents pads (sign_count im.sign) (hashes im) (exponent_count im.exponential)
      (sign_halves_length im.sign t) (digits_length (hashes im) t.whole) (exponent_halves_length im.exponential t)

  -- the padding
  column_pad : pad_part im (column_halves im t) ≡ zeros (pad_count im)
  unfolding pad_part column_halves
  column_pad =
      part_last signs places exponents pads (sign_count im.sign) (hashes im) (exponent_count im.exponential)
      (sign_halves_length im.sign t) (digits_length (hashes im) t.whole) (exponent_halves_length im.exponential t)

  -- its bytes have its halves
  column_bytes_halves : halves_of (column_bytes im t) ≡ column_halves im t
  unfolding column_bytes
  column_bytes_halves = halves_of_packed (column_halves im t) (column_size im) (column_even im t) (column_halves_below im t)

  module _ (kept : Kept im t) where
    -- the sign half of a column's halves
    column_sign_tells : SignTells t (sign_part im.sign (column_halves im t))
    unfolding column_halves
    column_sign_tells = sign_part_tells im.sign t (places ++ (exponents ++ pads)) (no_sign_tells im t kept)

    -- the value of the digits is k
    column_value : value_of (digit_part im (column_halves im t)) ≡ t.whole
    column_value = ap value_of column_digits ∙ value_of_digits (hashes im) t.whole kept.size

    -- the value of the digits of |x| is |x|
    column_exponent_value : value_of (exponent_part im (column_halves im t)) ≡ exponent_size t
    column_exponent_value =
        ap value_of column_exponent
        ∙ exponent_halves_value im.exponential t (size_few t kept.top)
        (λ f. let e = kept.fixed_x f in omega (arith, size_above t (omega arith)))

    -- a column's halves are read as the number that the truncation stands for
    halves_back : (column : ℕ) {n : Number} → number_of column im t ≡ done n → halves_number column im (column_halves im t) ≡ done n
    halves_back column {n} h =
        let hs = column_halves im t in
        let sign = sign_part im.sign hs in
        halves_number_lem column im hs
        (ap all_digits column_digits ∙ digits_pass (digits_of (hashes im) t.whole) (digits_are_digits (hashes im) t.whole))
        (ap all_digits column_exponent ∙ digits_pass (exponent_halves im.exponential t) (exponent_halves_digits im.exponential t))
        (ap all_zero column_pad ∙ zeros_pass (pad_count im))
        ∙ ap₂ (λ (whole size : ℕ). parts_number column im sign whole size) column_value column_exponent_value
        ∙ parts_number_lem column im sign t.whole (exponent_size t)
        (breaks_none im t kept sign column_sign_tells)
        (ap (number_of column im) (said_again im t kept sign column_sign_tells) ∙ h)

    -- so are its bytes
    pub bytes_back : (column : ℕ) {n : Number} → number_of column im t ≡ done n → unpack_column column im (column_bytes im t) ≡ done n
    unfolding unpack_column
    bytes_back column h = ap (halves_number column im) column_bytes_halves ∙ halves_back column h

-- a number that fits has one truncation as a number, in every column
pub record StandsFor (im : Image) (t : Truncated) : Type 0 where
  pub number : Number
  pub stands_for : (column : ℕ) → number_of column im t ≡ done number

-- so has the truncation of a number that fits
fit_stands : (im : Image) (n : Number) → Fit im n → StandsFor im (truncated_to im n)
fit_stands im n fit =
    ⊎_elim
    (λ z. record { number = zero_number; stands_for = λ column. number_none im n fit column z })
    (λ nz.
    let some : 0 < kept_count im n = omega arith in
    record { number = kept_number im n; stands_for = λ column. number_some im n fit some column })
    (zero_or_not (kept_count im n))

-- and of a number that is packed
pub packing_stands : (im : Image) (n : Number) {t : Truncated} → Packing im n t → StandsFor im t
packing_stands im n p = subst⁻¹ (λ (t : Truncated). StandsFor im t) p.cut (fit_stands im n p.fit)

-- Published: a packed column is read back as the number that the truncation stands for.
pub column_back :
    (place column : ℕ) (im : Image) (n : Number) {t : Truncated}
    → packed_truncation place im n ≡ done t
    → unpack_column column im (column_bytes im t) ≡ number_of column im t
column_back place column im n {t} h =
    let p = packed_view place im n h in
    let s = packing_stands im n p in
    bytes_back im t (packing_kept im n p) column (s.stands_for column) ∙ sym (s.stands_for column)

-- The number that a truncation stands for is truncated to it.

-- a number of at most h digits has at least p - h zeros before it at p digits
leading_least : (p h k : ℕ) → k < 10 ^ h → h ≤ p → p ≤ h + leading_zeros p k
leading_least zero h k few le = omega arith
leading_least (suc p) h k few le =
    ⊎_elim
    (λ in_p.
    let below : k < 10 ^ p = lt_of_lt_of_le few (pow10_mono in_p) in
    omega (arith, leading_more p k below, leading_least p h k few in_p))
    (λ all. omega arith)
    (le_or_lt h p)

-- ten times k and a power
ten_times : (k q : ℕ) → k * 10 * q ≡ 10 * (k * q)
ten_times k q = omega arith

-- h digits that do not begin with 0 fill suc p digits with tens behind them
pub filled_low : (p h k : ℕ) → 10 ^ h ≤ k * 10 → h ≤ suc p → 10 ^ p ≤ k * 10 ^ (suc p - h)
filled_low p h k first le =
    let q = 10 ^ (suc p - h) in
    let parts : 10 ^ suc p ≡ 10 ^ h * q = ap (λ (e : ℕ). 10 ^ e) (omega arith) ∙ pow10_add h (suc p - h) in
    let more : 10 ^ h * q ≤ k * 10 * q = mul-le-mul_right q first in
    omega (arith, ten_times k q, pow10_suc p)

-- and no more
pub filled_high : (p h k : ℕ) → k < 10 ^ h → h ≤ suc p → k * 10 ^ (suc p - h) < 10 ^ suc p
filled_high p h k few le =
    let q = 10 ^ (suc p - h) in
    let parts : 10 ^ suc p ≡ 10 ^ h * q = ap (λ (e : ℕ). 10 ^ e) (omega arith) ∙ pow10_add h (suc p - h) in
    let less : k * q < 10 ^ h * q = mul-lt-mul_of_pos_right few (pow10_pos (suc p - h)) in
    omega arith

-- the parts of the number of a whole that is not zero
pub record Shifted (negative : Bool) (whole up down : ℕ) (n : Number) : Type 0 where
  pub same_sign : n.negative ≡ negative
  pub tens : n.mantissa ≡ whole * 10 ^ leading_zeros precision whole
  pub place : n.exponent + (down + leading_zeros precision whole) ≡ exponent_limit + (precision - 1) + up
  pub limit : n.exponent ≤ 2 * exponent_limit

-- a number that is given has these parts
pub scaled_parts :
    (column : ℕ) (negative : Bool) (whole up down : ℕ) {n : Number}
    → 0 < whole
    → whole < 10 ^ precision
    → scaled_number column negative whole up down ≡ done n
    → Shifted negative whole up down n
scaled_parts column negative whole up down {n} positive fits h =
    ⊎_elim
    (λ room.
    ⊎_elim
    (λ top. same room top (one_answer given (shifted_done column negative whole up down z room top)))
    (λ above. never (shifted_above column negative whole up down z room above) given)
    (le_or_lt (exponent_limit + (precision - 1) + up - (down + z)) (2 * exponent_limit)))
    (λ below. never (shifted_below column negative whole up down z below) given)
    (le_or_lt (down + z) (exponent_limit + (precision - 1) + up))
  where
    z : ℕ
    z = leading_zeros precision whole

    given : shifted_number column negative whole up down z ≡ done n
    given = sym (scaled_shifted column negative whole up down positive fits) ∙ h

    same :
        down + z ≤ exponent_limit + (precision - 1) + up
        → exponent_limit + (precision - 1) + up - (down + z) ≤ 2 * exponent_limit
        → n ≡ record { negative = negative; mantissa = whole * 10 ^ z; exponent = exponent_limit + (precision - 1) + up - (down + z) }
        → Shifted negative whole up down n
    same room top e =
        let exponent : n.exponent ≡ exponent_limit + (precision - 1) + up - (down + z) = ap (λ (k : Number). k.exponent) e in
        record {
          same_sign = ap (λ (k : Number). k.negative) e;
          tens = ap (λ (k : Number). k.mantissa) e;
          place = omega arith;
          limit = omega arith;
        }

-- zero fits every image
zero_fits : (im : Image) → Checked im → Fit im zero_number
zero_fits im checked =
    record { nonempty = checked.nonempty; size = checked.fits; number_checked = zero_normal; within = go im.exponential }
  where
    go : (b : Bool) → pick b (exponent_outside im zero_number) (exceeds im zero_number) ≡ false
    go true = outside_zero im zero_number refl
    go false = exceeds_zero im

module _ (im : Image) (checked : Checked im) (t : Truncated) (kept : Kept im t) where
  -- k of 0 is zero's
  zero_packing : t.whole ≡ 0 → Packing im zero_number t
  unfolding truncated_to
  zero_packing none =
      record {
        fit = zero_fits im checked;
        cut =
            truncated_path
            (not_then t.negative (λ h. omega (arith, (kept.minus h).0)) ∙ sym (and_false (is_signed im.sign) false (λ s. refl)))
            (none ∙ sym (whole_zero im zero_number refl))
            (kept.zero_x none ∙ sym (stored_zero im zero_number refl));
        room = λ u. omega (arith, stored_zero im zero_number refl);
      }

  module _ (n : Number) (some : 0 < t.whole) (shifted : Shifted t.negative t.whole t.x (exponent_limit + im.fraction) n) where
    -- the zeros before k
    abbrev lead : ℕ
    lead = leading_zeros precision t.whole

    -- k has at most a mantissa's digits
    whole_fits : t.whole < 10 ^ precision
    whole_fits = lt_of_lt_of_le kept.size (pow10_mono checked.fits)

    -- the number is within its bounds
    shifted_range : InRange n
    shifted_range =
        record {
          low = rw shifted.tens (leading_low (precision - 1) t.whole some whole_fits);
          high = rw shifted.tens (leading_top (precision - 1) t.whole some whole_fits);
          top = shifted.limit;
        }

    -- it is not zero
    shifted_nonzero : n.mantissa ≡ 0 → ⊥
    shifted_nonzero z = omega (arith, shifted_range.low)

    -- the number is within the image's limits, has the stored exponent, and loses its tens
    record Cut : Type 0 where
      pub within : pick im.exponential (exponent_outside im n) (exceeds im n) ≡ false
      pub stored : stored_exponent im n ≡ t.x
      pub dropped : dropped_count im n ≡ lead

    -- exponential: x and the n digits come back
    exponential_cut : im.exponential ≡ true → Cut
    exponential_cut kind =
        let tens : lead ≡ precision - hashes im =
        leading_unique (precision - 1) t.whole (precision - hashes im)
        (filled_low (precision - 1) (hashes im) t.whole (kept.first kind some) checked.fits)
        (filled_high (precision - 1) (hashes im) t.whole kept.size checked.fits) in
        let placed : n.exponent + 1 ≡ t.x + im.integer = omega (arith, shifted.place, checked.fits) in
        let stays : exponent_outside im n ≡ false =
        outside_above im n shifted_nonzero (omega arith) ∙ le-ltb (2 * exponent_limit) (n.exponent + 1 - im.integer) (omega (arith, kept.top)) in
        record {
          within = ap (λ (b : Bool). pick b (exponent_outside im n) (exceeds im n)) kind ∙ stays;
          stored = stored_exponential im n shifted_nonzero kind ∙ omega arith;
          dropped = omega (arith, kept_exponential im n shifted_nonzero kind);
        }

    -- fixed point: the number does not exceed the image, and its k comes back
    fixed_cut : im.exponential ≡ false → Cut
    fixed_cut kind =
        let x = kept.fixed_x kind in
        let least = leading_least precision (hashes im) t.whole kept.size checked.fits in
        let most = leading_at_most precision t.whole in
        let stays : exceeds im n ≡ false =
        exceeds_range im n shifted_range
        ∙ le-ltb im.integer (n.exponent + 1 - exponent_limit) (omega (arith, shifted.place)) in
        record {
          within = ap (λ (b : Bool). pick b (exponent_outside im n) (exceeds im n)) kind ∙ stays;
          stored = stored_fixed im n shifted_nonzero kind ∙ sym x;
          dropped = omega (arith, kept_fixed im n shifted_nonzero kind, shifted.place);
        }

    -- under each image
    cut_of : (b : Bool) → im.exponential ≡ b → Cut
    cut_of true kind = exponential_cut kind
    cut_of false kind = fixed_cut kind

    module _ (facts : Cut) where
      -- the number fits the image
      shifted_fit : Fit im n
      shifted_fit =
          record {
            nonempty = checked.nonempty;
            size = checked.fits;
            number_checked = range_normal n shifted_range;
            within = facts.within;
          }

      -- its k is the k that it stands for
      shifted_whole : whole_of im n ≡ t.whole
      shifted_whole =
          kept_whole im n shifted_fit
          ∙ ap₂ (λ (m d : ℕ). m / 10 ^ d) shifted.tens facts.dropped
          ∙ mul-div_cancel t.whole (pow10_pos lead)

      -- its sign is kept
      shifted_sign : t.negative ≡ (is_signed im.sign && (n.negative && not (eqb (whole_of im n) 0)))
      shifted_sign =
          sign_same t.negative (is_signed im.sign) n.negative (eqb (whole_of im n) 0) (λ m. (kept.minus m).1) shifted.same_sign
          (ne_eqb (whole_of im n) 0 (λ e. omega (arith, shifted_whole)))

      -- it is packed to what it stands for
      shifted_packing : Packing im n t
      unfolding truncated_to
      shifted_packing =
          record {
            fit = shifted_fit;
            cut = truncated_path shifted_sign (sym shifted_whole) (sym facts.stored);
            room = λ u. omega (arith, facts.stored, kept.unsigned_x u);
          }

  -- the number that a truncation stands for is packed to it
  pub kept_packing : (column : ℕ) {n : Number} → number_of column im t ≡ done n → Packing im n t
  unfolding number_of
  kept_packing column {n} h =
      ⊎_elim
      (λ none.
      subst⁻¹ (λ (k : Number). Packing im k t)
      (one_answer h (scaled_zero column t.negative t.whole t.x (exponent_limit + im.fraction) none))
      (zero_packing none))
      (λ nonzero.
      let some : 0 < t.whole = omega arith in
      let fits : t.whole < 10 ^ precision = lt_of_lt_of_le kept.size (pow10_mono checked.fits) in
      let shifted = scaled_parts column t.negative t.whole t.x (exponent_limit + im.fraction) some fits h in
      shifted_packing n some shifted (cut_of n some shifted im.exponential refl))
      (zero_or_not t.whole)

-- Which bytes are read.

-- what halves that are read pass
pub record HalvesPass (column : ℕ) (im : Image) (hs : List ℕ) (n : Number) : Type 0 where
  pub in_digits : all_digits (digit_part im hs) ≡ true
  pub in_exponent : all_digits (exponent_part im hs) ≡ true
  pub in_pad : all_zero (pad_part im hs) ≡ true
  pub breaks : breaks_rules im (sign_part im.sign hs) (value_of (digit_part im hs)) (value_of (exponent_part im hs)) ≡ false
  pub stands : number_of column im (said_by (sign_part im.sign hs) (value_of (digit_part im hs)) (value_of (exponent_part im hs))) ≡ done n

-- what is not refused is the number's
as_half_view : (column : ℕ) (a : Answer Number) {n : Number} → as_half column a ≡ done n → a ≡ done n
unfolding as_half
as_half_view column (done m) h = h
as_half_view column (refused x y) {n} h = never_done h

-- only parts that break no rule are read
parts_view :
    (column : ℕ) (im : Image) (sign whole size : ℕ) {n : Number}
    → parts_number column im sign whole size ≡ done n
    → (breaks_rules im sign whole size ≡ false) × (number_of column im (said_by sign whole size) ≡ done n)
unfolding parts_number
parts_view column im sign whole size {n} h = go (breaks_rules im sign whole size) refl h
  where
    go : (b : Bool)
        → breaks_rules im sign whole size ≡ b
        → pick b (refused 7 column) (as_half column (number_of column im (said_by sign whole size))) ≡ done n
        → (breaks_rules im sign whole size ≡ false) × (number_of column im (said_by sign whole size) ≡ done n)
    go true e g = never_done g
    go false e g = (e, as_half_view column (number_of column im (said_by sign whole size)) g)

-- only halves whose parts pass the tests are read
halves_view :
    (column : ℕ) (im : Image) (hs : List ℕ) {n : Number} → halves_number column im hs ≡ done n → HalvesPass column im hs n
unfolding halves_number
halves_view column im hs {n} h = go (any_of tests) refl h
  where
    tests : List Bool
    tests = not (all_digits (digit_part im hs)) ∷ (not (all_digits (exponent_part im hs)) ∷ (not (all_zero (pad_part im hs)) ∷ []))

    go : (b : Bool)
        → any_of tests ≡ b
        → pick b (refused 7 column) (parts_number column im (sign_part im.sign hs) (value_of (digit_part im hs)) (value_of (exponent_part im hs))) ≡ done n
        → HalvesPass column im hs n
    go true e g = never_done g
    go false e g =
        let one = any_none (not (all_digits (digit_part im hs))) (not (all_digits (exponent_part im hs)) ∷ (not (all_zero (pad_part im hs)) ∷ [])) e in
        let two = any_none (not (all_digits (exponent_part im hs))) (not (all_zero (pad_part im hs)) ∷ []) one.1 in
        let three = any_none (not (all_zero (pad_part im hs))) [] two.1 in
        let parts = parts_view column im (sign_part im.sign hs) (value_of (digit_part im hs)) (value_of (exponent_part im hs)) g in
        record {
          in_digits = not-false (all_digits (digit_part im hs)) one.0;
          in_exponent = not-false (all_digits (exponent_part im hs)) two.0;
          in_pad = not-false (all_zero (pad_part im hs)) three.0;
          breaks = parts.0;
          stands = parts.1;
        }

-- the five rules, where none is broken
pub record Rules (im : Image) (sign whole size : ℕ) : Type 0 where
  pub plain : sign % 8 < 2
  pub minus : minus_bit sign ≡ true → 0 < whole
  pub below : below_bit sign ≡ true → 0 < size
  pub none_size : whole ≡ 0 → size ≡ 0
  pub first : im.exponential ≡ true → 0 < whole → 10 ^ hashes im ≤ whole * 10

-- what the test of the rules tells
pub rules_view : (im : Image) (sign whole size : ℕ) → breaks_rules im sign whole size ≡ false → Rules im sign whole size
unfolding breaks_rules
rules_view im sign whole size h =
    let a = leb 2 (sign % 8) in
    let b = minus_bit sign && eqb whole 0 in
    let c = below_bit sign && eqb size 0 in
    let d = eqb whole 0 && leb 1 size in
    let e = im.exponential && (leb 1 whole && ltb (whole * 10) (10 ^ hashes im)) in
    let one = any_none a (b ∷ (c ∷ (d ∷ (e ∷ [])))) h in
    let two = any_none b (c ∷ (d ∷ (e ∷ []))) one.1 in
    let three = any_none c (d ∷ (e ∷ [])) two.1 in
    let four = any_none d (e ∷ []) three.1 in
    let five = any_none e [] four.1 in
    record {
      plain = leb-false 2 (sign % 8) one.0;
      minus = λ m. positive whole (eqb-false whole 0 (and_off (minus_bit sign) (eqb whole 0) two.0 m));
      below = λ l. positive size (eqb-false size 0 (and_off (below_bit sign) (eqb size 0) three.0 l));
      none_size = λ z. nothing size (leb-false 1 size (and_off (eqb whole 0) (leb 1 size) four.0 (eq-eqb whole 0 z)));
      first =
          λ k s.
          ltb-false (whole * 10) (10 ^ hashes im)
          (and_off (leb 1 whole) (ltb (whole * 10) (10 ^ hashes im))
          (and_off im.exponential (leb 1 whole && ltb (whole * 10) (10 ^ hashes im)) five.0 k)
          (le-leb 1 whole s));
    }

-- a remainder of 0 or 1 is the minus bit
minus_part : (r : ℕ) → r < 2 → pick (eqb r 1) 1 0 ≡ r
minus_part zero h = refl
minus_part (suc zero) h = refl
minus_part (suc (suc r)) h = absurd (omega arith)

-- 8 where a half has its highest bit
below_part : (s : ℕ) → s < 16 → pick (below_bit s) 8 0 + s % 8 ≡ s
below_part s h =
    ⊎_elim (λ le. rw (le-leb 8 s le) (omega arith)) (λ lt. rw (lt-leb 8 s lt) (omega arith)) (le_or_lt 8 s)

module _ (im : Image) (sign whole size : ℕ) (rules : Rules im sign whole size) (few : size ≤ exponent_limit) where
  -- x is negative with a size, or not negative
  said_x :
      ((8 ≤ sign) × (0 < size) × ((said_by sign whole size).x ≡ exponent_limit - size))
      ⊎ ((sign < 8) × ((said_by sign whole size).x ≡ exponent_limit + size))
  unfolding said_by
  said_x =
      ⊎_elim
      (λ le. let b = le-leb 8 sign le in inl (le, rules.below b, rw b))
      (λ lt. inr (lt, rw (lt-leb 8 sign lt)))
      (le_or_lt 8 sign)

  -- |x| is the size
  said_size : exponent_size (said_by sign whole size) ≡ size
  said_size =
      ⊎_elim
      (λ l. let e = l.2 in let p = l.1 in size_below (said_by sign whole size) (omega arith) ∙ omega arith)
      (λ r. let e = r.1 in size_above (said_by sign whole size) (omega arith) ∙ omega arith)
      said_x

  -- the minus in the sign half
  said_minus_part : pick (said_by sign whole size).negative 1 0 ≡ sign % 8
  unfolding said_by
  said_minus_part = minus_part (sign % 8) rules.plain

  -- the 8 in it
  said_below : ltb (said_by sign whole size).x exponent_limit ≡ below_bit sign
  said_below =
      ⊎_elim
      (λ l. let e = l.2 in let p = l.1 in lt-ltb (said_by sign whole size).x exponent_limit (omega arith) ∙ sym (le-leb 8 sign l.0))
      (λ r. let e = r.1 in le-ltb (said_by sign whole size).x exponent_limit (omega arith) ∙ sym (lt-leb 8 sign r.0))
      said_x

  -- a sign half is that of what is said
  said_sign : sign < 16 → sign_half (said_by sign whole size) ≡ sign
  unfolding sign_half
  said_sign low =
      ap₂ (λ (a : ℕ) (b : Bool). a + pick b 8 0) said_minus_part said_below ∙ add_comm (sign % 8) (pick (below_bit sign) 8 0) ∙ below_part sign low

  module _ (unsigned : is_signed im.sign ≡ false → sign ≡ 0) (fixed : im.exponential ≡ false → size ≡ 0) (wide : whole < 10 ^ hashes im) where
    -- x is 0 where |x| is
    said_none : size ≡ 0 → (said_by sign whole size).x ≡ exponent_limit
    said_none z = ⊎_elim (λ l. absurd (omega (arith, l.1))) (λ r. r.1 ∙ omega arith) said_x

    -- k has at most n digits
    said_wide : (said_by sign whole size).whole < 10 ^ hashes im
    unfolding said_by
    said_wide = wide

    -- a k of 0
    said_whole : (said_by sign whole size).whole ≡ 0 → whole ≡ 0
    unfolding said_by
    said_whole z = z

    -- exponential: a k above 0 does not begin with 0
    said_first : im.exponential ≡ true → 0 < (said_by sign whole size).whole → 10 ^ hashes im ≤ (said_by sign whole size).whole * 10
    unfolding said_by
    said_first = rules.first

    -- a minus stands only on a k above 0 and under an image with a sign
    said_minus : (said_by sign whole size).negative ≡ true → (0 < (said_by sign whole size).whole) × (is_signed im.sign ≡ true)
    unfolding said_by
    said_minus m = (rules.minus m, go (is_signed im.sign) refl)
      where
        go : (b : Bool) → is_signed im.sign ≡ b → is_signed im.sign ≡ true
        go true e = e
        go false e = two_values m (ap minus_bit (unsigned e))

    -- what is said keeps to the bounds
    pub said_kept : Kept im (said_by sign whole size)
    said_kept =
        record {
          size = said_wide;
          top = ⊎_elim (λ l. let e = l.2 in omega arith) (λ r. let e = r.1 in omega arith) said_x;
          minus = said_minus;
          zero_x = λ z. said_none (rules.none_size (said_whole z));
          fixed_x = λ f. said_none (fixed f);
          first = said_first;
          unsigned_x =
              λ u.
              let z = unsigned u in
              ⊎_elim (λ l. absurd (omega (arith, l.0))) (λ r. let e = r.1 in omega arith) said_x;
        }

-- Bytes of a column's size.

-- the first half is below 16
first_half_lem : (hs : List ℕ) → Halves hs → get_or hs 0 0 < 16
unfolding Halves
first_half_lem [] g = omega arith
first_half_lem (h ∷ hs) g = g.0

-- so is the sign half
pub sign_part_low : (s : Sign) (hs : List ℕ) → Halves hs → sign_part s hs < 16
unfolding sign_part
sign_part_low Unsigned hs g = omega arith
sign_part_low Plus hs g = first_half_lem hs g
sign_part_low Minus hs g = first_half_lem hs g

-- there is none under an unsigned image
pub sign_part_none : (s : Sign) (hs : List ℕ) → is_signed s ≡ false → sign_part s hs ≡ 0
unfolding sign_part
sign_part_none Unsigned hs u = refl
sign_part_none Plus hs u = two_values refl u
sign_part_none Minus hs u = two_values refl u

-- a list that is not empty begins with its first element
take_first : (hs : List ℕ) → 0 < length hs → get_or hs 0 0 ∷ [] ≡ take 1 hs
take_first [] h = absurd (omega arith)
take_first (a ∷ hs) h = refl

-- the sign halves are those that were read
sign_halves_again :
    (s : Sign) (t : Truncated) (hs : List ℕ)
    → sign_count s ≤ length hs
    → (is_signed s ≡ true → sign_half t ≡ sign_part s hs)
    → sign_halves s t ≡ take (sign_count s) hs
unfolding sign_halves sign_part
sign_halves_again Unsigned t hs some same = refl
sign_halves_again Plus t hs some same = ap (λ (a : ℕ). a ∷ []) (same refl) ∙ take_first hs (omega arith)
sign_halves_again Minus t hs some same = ap (λ (a : ℕ). a ∷ []) (same refl) ∙ take_first hs (omega arith)

-- the exponent halves are those that were read
exponent_halves_again :
    (b : Bool) (t : Truncated) (es : List ℕ)
    → length es ≡ exponent_count b
    → Digits es
    → exponent_size t ≡ value_of es
    → exponent_halves b t ≡ es
unfolding exponent_halves
exponent_halves_again true t es two digits size =
    ap₂ (λ (n k : ℕ). digits_of n k) (sym two) size ∙ digits_of_value es digits
exponent_halves_again false t [] none digits size = refl
exponent_halves_again false t (e ∷ es) none digits size = absurd (omega arith)

-- |x| has two digits, and none in fixed point
pub exponent_few : (b : Bool) (es : List ℕ) → length es ≡ exponent_count b → Digits es → value_of es ≤ exponent_limit
exponent_few true es two digits = let e = ap (λ (n : ℕ). 10 ^ n) two in omega (arith, value_below es digits)
exponent_few false es none digits = let e = ap (λ (n : ℕ). 10 ^ n) none in omega (arith, value_below es digits)

-- in fixed point |x| is 0
pub exponent_none : (b : Bool) (es : List ℕ) → length es ≡ exponent_count b → Digits es → b ≡ false → value_of es ≡ 0
exponent_none true es two digits f = two_values refl f
exponent_none false es none digits f = let e = ap (λ (n : ℕ). 10 ^ n) none in omega (arith, value_below es digits)

module _ (im : Image) (hs : List ℕ) (filled : length hs ≡ half_count im + pad_count im) where
  -- the parts have their lengths: the digits
  pub digit_part_length : length (digit_part im hs) ≡ hashes im
  unfolding digit_part
  digit_part_length =
      length-take-le (hashes im) (drop (sign_count im.sign) hs) (omega (arith, length-drop (sign_count im.sign) hs))

  -- the digits of |x|
  pub exponent_part_length : length (exponent_part im hs) ≡ exponent_count im.exponential
  unfolding exponent_part
  exponent_part_length =
      length-take-le (exponent_count im.exponential) (drop (sign_count im.sign + hashes im) hs)
      (omega (arith, length-drop (sign_count im.sign + hashes im) hs))

  -- the padding
  pub pad_part_length : length (pad_part im hs) ≡ pad_count im
  unfolding pad_part
  pad_part_length = length-drop (half_count im) hs ∙ omega arith

  -- the parts are the whole
  pub halves_whole : take (sign_count im.sign) hs ++ (digit_part im hs ++ (exponent_part im hs ++ pad_part im hs)) ≡ hs
  unfolding digit_part exponent_part pad_part
  halves_whole = four_parts hs (sign_count im.sign) (hashes im) (exponent_count im.exponential)

  module _ (column : ℕ) (n : Number) (pass : HalvesPass column im hs n) where
    -- the sign half that is read
    abbrev sign : ℕ
    sign = sign_part im.sign hs

    -- the k that is read
    abbrev whole : ℕ
    whole = value_of (digit_part im hs)

    -- the |x| that is read
    abbrev size : ℕ
    size = value_of (exponent_part im hs)

    -- the truncation that is read
    abbrev said : Truncated
    said = said_by sign whole size

    -- no rule is broken
    in_rules : Rules im sign whole size
    in_rules = rules_view im sign whole size pass.breaks

    -- |x| is within its limit
    in_few : size ≤ exponent_limit
    in_few = exponent_few im.exponential (exponent_part im hs) exponent_part_length (pass_digits (exponent_part im hs) pass.in_exponent)

    -- the truncation that is read keeps to the bounds
    pub read_kept : Kept im said
    read_kept =
        said_kept im sign whole size in_rules in_few
        (sign_part_none im.sign hs)
        (exponent_none im.exponential (exponent_part im hs) exponent_part_length (pass_digits (exponent_part im hs) pass.in_exponent))
        (subst (λ (k : ℕ). whole < 10 ^ k) digit_part_length (value_below (digit_part im hs) (pass_digits (digit_part im hs) pass.in_digits)))

    -- its k is the k that was read
    said_is_whole : said.whole ≡ whole
    unfolding said_by
    said_is_whole = refl

    -- its digits are those that were read
    places_again : digits_of (hashes im) said.whole ≡ digit_part im hs
    places_again =
        ap₂ (λ (c k : ℕ). digits_of c k) (sym digit_part_length) said_is_whole
        ∙ digits_of_value (digit_part im hs) (pass_digits (digit_part im hs) pass.in_digits)

    -- its sign half is the one that was read
    signs_again : Halves hs → sign_halves im.sign said ≡ take (sign_count im.sign) hs
    signs_again half =
        sign_halves_again im.sign said hs (omega arith)
        (λ s. said_sign im sign whole size in_rules in_few (sign_part_low im.sign hs half))

    -- its digits of |x| are those that were read
    exponents_again : exponent_halves im.exponential said ≡ exponent_part im hs
    exponents_again =
        exponent_halves_again im.exponential said (exponent_part im hs) exponent_part_length
        (pass_digits (exponent_part im hs) pass.in_exponent)
        (said_size im sign whole size in_rules in_few)

    -- its padding is the one that was read
    pads_again : zeros (pad_count im) ≡ pad_part im hs
    pads_again = ap zeros (sym pad_part_length) ∙ pass_zeros (pad_part im hs) pass.in_pad

    -- its halves are those that were read
    halves_again : Halves hs → column_halves im said ≡ hs
    unfolding column_halves
    halves_again half =
        ap₂ (λ (s d : List ℕ). s ++ (d ++ (exponent_halves im.exponential said ++ zeros (pad_count im)))) (signs_again half) places_again
        ∙ ap₂ (λ (e z : List ℕ). take (sign_count im.sign) hs ++ (digit_part im hs ++ (e ++ z))) exponents_again pads_again
        ∙ halves_whole

module _ (im : Image) (checked : Checked im) (place : ℕ) (bytes : List ℕ) (n : Number) where
  -- the truncation that a column's bytes say
  abbrev said_in : Truncated
  said_in =
      said_by (sign_part im.sign (halves_of bytes)) (value_of (digit_part im (halves_of bytes))) (value_of (exponent_part im (halves_of bytes)))

  module _ (sized : length bytes ≡ column_size im) (read : unpack_column place im bytes ≡ done n) where
    -- the halves of bytes of a column's size
    halves_filled : length (halves_of bytes) ≡ half_count im + pad_count im
    halves_filled = halves_length bytes ∙ omega (arith, column_halves_lem im)

    -- what they pass
    pub halves_pass : HalvesPass place im (halves_of bytes) n
    unfolding unpack_column
    halves_pass = halves_view place im (halves_of bytes) read

    -- the number read is packed to what they say
    pub column_packs : Packing im n said_in
    column_packs =
        kept_packing im checked said_in (read_kept im (halves_of bytes) halves_filled place n halves_pass) place halves_pass.stands

    -- and where they are bytes, to them
    column_same : Bytes bytes → column_bytes im said_in ≡ bytes
    unfolding column_bytes
    column_same known =
        ap pack_halves (halves_again im (halves_of bytes) halves_filled place n halves_pass (bytes_halves known)) ∙ packed_of_halves bytes

-- Published: where bytes of a column's size are read, the number read packs to these bytes, in every column.
pub column_accepts :
    (im : Image)
    → Checked im
    → (place : ℕ) (bytes : List ℕ) {n : Number}
    → Bytes bytes
    → length bytes ≡ column_size im
    → unpack_column place im bytes ≡ done n
    → (t : Truncated) × ((column : ℕ) → packed_truncation column im n ≡ done t) × (column_bytes im t ≡ bytes)
column_accepts im checked place bytes {n} known sized h = (
  said_in im checked place bytes n,
  λ column. packed_back column im n (column_packs im checked place bytes n sized h),
  column_same im checked place bytes n sized h known,
)

-- what a packed column gives back: the number of the truncation, which packs to the same bytes
pub record ColumnBack (im : Image) (n : Number) (t : Truncated) : Type 0 where
  pub number : Number
  pub is_truncated : (column : ℕ) → truncated_number column im n ≡ done number
  pub unpacked : (column : ℕ) → unpack_column column im (column_bytes im t) ≡ done number
  pub packed_again : (column : ℕ) → packed_truncation column im number ≡ done t

-- a number's truncation, as a number
packing_truncated :
    (column : ℕ) (im : Image) (n : Number) {t : Truncated} {m : Number}
    → Packing im n t
    → number_of column im t ≡ done m
    → truncated_number column im n ≡ done m
unfolding truncated_number ◌then◌
packing_truncated column im n p h =
    rw (fit_truncation column im n p.fit) (ap (number_of column im) (sym p.cut) ∙ h)

-- Published: a packed column is read back as the number's truncation, which packs to it again.
pub column_round :
    (place : ℕ) (im : Image) (n : Number) {t : Truncated} → packed_truncation place im n ≡ done t → ColumnBack im n t
column_round place im n {t} h =
    let p = packed_view place im n h in
    let s = packing_stands im n p in
    let kept = packing_kept im n p in
    let checked : Checked im = record { nonempty = p.fit.nonempty; fits = p.fit.size } in
    record {
      number = s.number;
      is_truncated = λ column. packing_truncated column im n p (s.stands_for column);
      unpacked = λ column. bytes_back im t kept column (s.stands_for column);
      packed_again = λ column. packed_back column im s.number (kept_packing im checked t kept column (s.stands_for column));
    }
