-- Laws of columns compared by their bytes: a column's run of half bytes, the number that is read from it, and the least run of the columns that
-- are at least a number. Assumes nothing.
use Rattle.std.proofs.Common.{◌≡◌, ℕ, suc, ◌+◌, ◌*◌, ◌/◌, ◌%◌, ◌^◌, ◌<◌, ◌≤◌, ◌-◌, Bool, true, false, not, ◌&&◌, List, [], ◌∷◌, Option, Some, None, length, get_or, take, refl, ap, ap₂, sym, subst, ◌∙◌, arith, ◌⊎◌, inl, inr, ⊎_elim, pow-add}
use Rattle.std.specs.Prelude.{leb, SomeIff}
use Rattle.std.proofs.Math.Bool.{beq}
use Rattle.std.proofs.Math.Arith.{digits_lt}
use Rattle.std.proofs.Math.Nat.{div-mul-le_self, lt-div-mul-add, mul-le-mul_right, mul-lt-mul_of_pos_right, le_of_mul-le-mul_right, lt_of_mul-lt-mul_right, mul_right_comm, mul_assoc, pow-le-pow_right}
use Rattle.std.proofs.lemmas.List.{take_more, take_all}
use Rattle.std.specs.Int.{w64, from_be_bytes}
use lib.ListN.{drop, length-drop, take-append-drop}
use Rattle.codec.proofs.ReadBackTheorem.{bytes_drop}
use lib.Dec.{ltb, eqb}
use borrow.Author.Tests.{lt-ltb, le-ltb, eq-eqb, eqb-true, eqb-false, le-leb, lt-leb, leb-true, ltb-true, ltb-false}
use Rattle.decimal.specs.declared.image.Sign.{Sign}
use Rattle.decimal.specs.declared.image.Image.{Image}
use Rattle.decimal.specs.declared.number.Number.{Number}
use Rattle.decimal.specs.Answer.{Answer, done, refused, ◌then◌, pick}
use Rattle.decimal.specs.Comparison.{value_order, is_at_most}
use Rattle.decimal.specs.Digits.{packed_of, Halves, comes_before}
use Rattle.decimal.specs.Image.{hashes}
use Rattle.decimal.specs.Number.{exponent_limit, normal, magnitude, scale, unit}
use Rattle.decimal.specs.Truncation.{Truncated, Fit, is_signed, exceeds, exponent_outside, fixed_whole, whole_of, truncation, truncated_to, truncated_number, number_of}
use Rattle.decimal.proofs.AnswerLaws.{one_answer, never_done}
use Rattle.decimal.proofs.ComparisonLaws.{minus_none, minus_first, three_ways, whole_less, whole_greater, whole_equal}
use Rattle.decimal.proofs.ComparisonTheorem.{order_same}
use Rattle.decimal.proofs.DigitLaws.{le_or_lt}
use Rattle.decimal.proofs.KeptLaws.{truncates_to_itself}
use Rattle.decimal.proofs.MagnitudeLaws.{scaled_sign}
use Rattle.decimal.proofs.NumberLaws.{scaled_zero}
use Rattle.decimal.proofs.PackedLaws.{packed_below, packed_append, packed_first}
use Rattle.decimal.proofs.PowerLaws.{pow10_pos}
use Rattle.decimal.proofs.TruncationLaws.{fit_truncation, truncation_fit, truncation_done}
use Rattle.codec.specs.Columns.{sign_count, exponent_count, column_size, Checked}
use Rattle.codec.specs.Halves.{halves_of}
use Rattle.codec.specs.Order.{UnsignedFixed, Bytes, magnitude_in}
use Rattle.codec.specs.Ordering.{run_of, same_number, stands_for, run_or_next, least_cut, least_of, reaches, LeastRun}
use Rattle.codec.specs.Packing.{column_bytes, column_halves}
use Rattle.codec.specs.Unpacking.{unpack_column}
use Rattle.codec.proofs.ColumnTheorem.{two_values, packed_view, column_back, column_accepts, column_round}
use Rattle.codec.proofs.HalfLaws.{same_test, packed_order, packed_of_halves, bytes_halves, halves_length, halves_of_packed, packed_bytes, column_even, column_halves_below, column_length_lem}
use Rattle.codec.proofs.OrderTheorem.{column_of, column_order, whole_fits, whole_means, fixed_whole_lem}
use Rattle.codec.proofs.ReadLaws.{bytes_append}

-- Runs.

-- half bytes of one length come in the order of the numbers that they make
halves_order : (xs ys : List ℕ) → Halves xs → Halves ys → length xs ≡ length ys → comes_before xs ys ≡ ltb (packed_of xs) (packed_of ys)
unfolding comes_before packed_of Halves
halves_order [] [] h g e = refl
halves_order [] (y ∷ ys) h g e = absurd (omega arith)
halves_order (x ∷ xs) [] h g e = absurd (omega arith)
halves_order (x ∷ xs) (y ∷ ys) h g e = go (halves_order xs ys h.1 g.1 (omega arith)) (eqb x y) refl
  where
    a : ℕ
    a = packed_of xs

    b : ℕ
    b = packed_of ys

    w : ℕ
    w = 2 ^ (4 * length xs)

    same : 2 ^ (4 * length ys) ≡ w
    same = ap (λ (n : ℕ). 2 ^ (4 * n)) (omega arith)

    low : a < w
    low = packed_below xs h.1

    other : b < w
    other = omega (arith, packed_below ys g.1, same)

    less : x < y → x * w + a < y * w + b
    less l = omega (arith, digits_lt {m = y} l low)

    more : y < x → y * w + b < x * w + a
    more l = omega (arith, digits_lt {m = x} l other)

    unequal : (x ≡ y → ⊥) → ltb x y ≡ ltb (x * w + a) (y * w + b)
    unequal n = same_test x y (x * w + a) (y * w + b) less (λ l. let m = more (omega arith) in omega arith)

    go : comes_before xs ys ≡ ltb a b → (t : Bool) → eqb x y ≡ t → pick (eqb x y) (comes_before xs ys) (ltb x y) ≡ ltb (x * w + a) (y * 2 ^ (4 * length ys) + b)
    go rest true t =
        let head : x ≡ y = eqb-true x y t in
        let heads : x * w ≡ y * w = ap (λ (n : ℕ). n * w) head in
        ap (λ (s : Bool). pick s (comes_before xs ys) (ltb x y)) t
        ∙ rest
        ∙ same_test a b (x * w + a) (y * w + b) (λ l. omega arith) (λ l. omega arith)
        ∙ ap (λ (v : ℕ). ltb (x * w + a) (y * v + b)) (sym same)
    go rest false t =
        ap (λ (s : Bool). pick s (comes_before xs ys) (ltb x y)) t
        ∙ unequal (eqb-false x y t)
        ∙ ap (λ (v : ℕ). ltb (x * w + a) (y * v + b)) (sym same)

-- bytes of one length come in the order of their runs
pub runs_order : (xs ys : List ℕ) → Bytes xs → Bytes ys → length xs ≡ length ys → comes_before xs ys ≡ ltb (run_of xs) (run_of ys)
runs_order xs ys h g e =
    ap₂ comes_before (sym (packed_of_halves xs)) (sym (packed_of_halves ys))
    ∙ packed_order (halves_of xs) (halves_of ys) (bytes_halves h) (bytes_halves g) long
    ∙ halves_order (halves_of xs) (halves_of ys) (bytes_halves h) (bytes_halves g) long
  where
    long : length (halves_of xs) ≡ length (halves_of ys)
    long = omega (arith, halves_length xs, halves_length ys)

-- a run of so many bytes is below their weight
pub run_below : (bytes : List ℕ) → Bytes bytes → run_of bytes < 2 ^ (8 * length bytes)
run_below bytes h =
    let w : 2 ^ (4 * length (halves_of bytes)) ≡ 2 ^ (8 * length bytes) = ap (λ (n : ℕ). 2 ^ n) (omega (arith, halves_length bytes)) in
    omega (arith, packed_below (halves_of bytes) (bytes_halves h), w)

-- that of at most eight bytes is below 2^64
pub run_small_of : (bytes : List ℕ) → Bytes bytes → length bytes ≤ 8 → run_of bytes < 2 ^ 64
run_small_of bytes h few =
    let grow : 2 ^ (8 * length bytes) ≤ 2 ^ 64 = pow-le-pow_right {n = 2} (omega arith) {i = 8 * length bytes} {j = 64} (omega arith) in
    omega (arith, run_below bytes h, grow)

-- so it is the code's run
pub run_whole : (bytes : List ℕ) → Bytes bytes → length bytes ≤ 8 → run_of bytes % 2 ^ 64 ≡ run_of bytes
run_whole bytes h few = omega (arith, run_small_of bytes h few)

-- a byte more
pub run_more : (bytes : List ℕ) (i b : ℕ) → i < length bytes → b ≡ get_or bytes i 0 → run_of (take (i + 1) bytes) ≡ run_of (take i bytes) * 256 + b
unfolding halves_of packed_of
run_more bytes i b more same =
    ap (λ (l : List ℕ). packed_of (halves_of l)) (take_more bytes i 0 more)
    ∙ ap packed_of (bytes_append (take i bytes) (get_or bytes i 0 ∷ []))
    ∙ packed_append (halves_of (take i bytes)) (get_or bytes i 0 / 16 ∷ (get_or bytes i 0 % 16 ∷ []))
    ∙ ap (λ (c : ℕ). packed_of (halves_of (take i bytes)) * 2 ^ 8 + (c / 16 * 2 ^ 4 + (c % 16 * 1 + 0))) (sym same)
    ∙ omega arith

-- Numbers that are not below zero.

module _ (a b : Number) (p : a.negative ≡ false) (q : b.negative ≡ false) where
  pub at_most_plus : magnitude a ≤ magnitude b → is_at_most (value_order a b) ≡ true
  at_most_plus le =
      ap is_at_most
      (minus_none a b p q)
      ∙ ⊎_elim (λ (ge : magnitude b ≤ magnitude a). ap is_at_most (whole_equal (magnitude a) (magnitude b) (omega arith)))
      (λ (lt : magnitude a < magnitude b). ap is_at_most (whole_less (magnitude a) (magnitude b) lt))
      (le_or_lt (magnitude b) (magnitude a))

  pub not_at_most_plus : magnitude b < magnitude a → is_at_most (value_order a b) ≡ false
  not_at_most_plus gt = ap is_at_most (minus_none a b p q ∙ whole_greater (magnitude a) (magnitude b) gt)

-- Whole numbers and magnitudes.

-- a factor on both sides
without_factor : (a b : ℕ) {k : ℕ} → 0 < k → a * k ≡ b * k → a ≡ b
without_factor a b some h =
    let le : a ≤ b = le_of_mul-le-mul_right (omega arith) some in
    let ge : b ≤ a = le_of_mul-le-mul_right (omega arith) some in
    omega arith

-- the limit of the exponent on both sides
without_limit : (m f w : ℕ) → m * 10 ^ (exponent_limit + f) ≡ w * 10 ^ exponent_limit * unit → m * 10 ^ f ≡ w * unit
without_limit m f w h =
    let split : 10 ^ (exponent_limit + f) ≡ 10 ^ exponent_limit * 10 ^ f = pow-add 10 exponent_limit f in
    without_factor (m * 10 ^ f) (w * unit) (pow10_pos exponent_limit)
    (mul_right_comm m (10 ^ f) (10 ^ exponent_limit)
    ∙ mul_assoc m (10 ^ exponent_limit) (10 ^ f)
    ∙ ap (λ (k : ℕ). m * k) (sym split)
    ∙ h
    ∙ mul_right_comm w (10 ^ exponent_limit) unit)

-- a magnitude p that is cut to k units, and one n of s units
module _ (p n s k f u : ℕ) (cut : p * f / u ≡ k) (means : n * f ≡ s * u) (some_u : 0 < u) (some_f : 0 < f) where
  -- fewer units
  units_behind : s < k → n < p
  units_behind h = ⊎_elim (λ le. absurd (omega (arith, div-mul-le_self (p * f) u, ap (λ (c : ℕ). c * u) cut, mul-le-mul_right f le, mul-le-mul_right u h))) (λ lt. lt) (le_or_lt p n)

  -- more
  units_before : k < s → p < n
  units_before h = ⊎_elim (λ le. absurd (omega (arith, lt-div-mul-add {a = p * f} {b = u} some_u, ap (λ (c : ℕ). c * u) cut, mul-le-mul_right f le, mul-le-mul_right u h))) (λ lt. lt) (le_or_lt n p)

  -- a magnitude of k units is at most p
  units_cut : (m : ℕ) → m * f ≡ k * u → m ≤ p
  units_cut m h = le_of_mul-le-mul_right {k = f} (omega (arith, div-mul-le_self (p * f) u, ap (λ (c : ℕ). c * u) cut)) some_f

-- A column that is read.

-- its digits, and what they say of the number
pub record ColumnRead (im : Image) (bytes : List ℕ) (n : Number) : Type 0 where
  pub to : Truncated
  pub same : column_bytes im to ≡ bytes
  pub fits : to.whole < 10 ^ hashes im
  pub means : magnitude n * 10 ^ im.fraction ≡ to.whole * unit
  pub plus : n.negative ≡ false

module _ (im : Image) (kind : UnsignedFixed im) where
  -- what is cut under an image without a sign is not below zero
  plus_cut : (n : Number) → (truncated_to im n).negative ≡ false
  unfolding truncated_to
  plus_cut n = ap (λ (s : Sign). is_signed s && (n.negative && not (eqb (whole_of im n) 0))) kind.unsigned

  -- nor is its number
  plus_number : (t : Truncated) {m : Number} → t.negative ≡ false → number_of 0 im t ≡ done m → m.negative ≡ false
  unfolding number_of
  plus_number t no_sign h =
      ⊎_elim
      (λ le. ap (λ (k : Number). k.negative) (one_answer h (scaled_zero 0 t.negative t.whole t.x (exponent_limit + im.fraction) (omega arith))))
      (λ lt. scaled_sign 0 t.negative t.whole t.x (exponent_limit + im.fraction) h lt ∙ no_sign)
      (le_or_lt t.whole 0)

  pub column_reads :
      Checked im
      → (column : ℕ) (bytes : List ℕ) (n : Number)
      → Bytes bytes
      → length bytes ≡ column_size im
      → unpack_column column im bytes ≡ done n
      → ColumnRead im bytes n
  unfolding magnitude_in
  column_reads checked column bytes n known sized h =
      let a = column_accepts im checked column bytes known sized h in
      let t : Truncated = a.0 in
      let p = packed_view column im n (a.1 column) in
      let c = column_round column im n (a.1 column) in
      let same : c.number ≡ n = one_answer (c.unpacked column) (ap (unpack_column column im) a.2 ∙ h) in
      let d = column_of im kind column n (a.1 column) in
      record {
        to = t;
        same = a.2;
        fits = d.fits;
        means =
            without_limit (magnitude n) im.fraction t.whole
            (ap (λ (x : Answer Number). magnitude_in x * 10 ^ (exponent_limit + im.fraction)) (sym (c.is_truncated 0 ∙ ap {B = Answer Number} done same)) ∙ d.means);
        plus = plus_number t (ap (λ (u : Truncated). u.negative) p.cut ∙ plus_cut n) (sym (column_back 0 0 im n (a.1 0)) ∙ c.unpacked 0 ∙ ap {B = Answer Number} done same);
      }

-- A number's cut beside a column that is read.

-- the run of a column's bytes is that of its halves
pub run_halves : (im : Image) (t : Truncated) → run_of (column_bytes im t) ≡ packed_of (column_halves im t)
unfolding column_bytes
run_halves im t = ap packed_of (halves_of_packed (column_halves im t) (column_size im) (column_even im t) (column_halves_below im t))

-- they are bytes
column_known : (im : Image) (t : Truncated) → Bytes (column_bytes im t)
unfolding column_bytes
column_known im t = packed_bytes (column_halves im t) (column_halves_below im t)

module _ (im : Image) (kind : UnsignedFixed im) (p : Number) (is_normal : normal p ≡ true) (plus : p.negative ≡ false) where
  -- a number that exceeds the image is above every column
  pub exceeds_columns : exceeds im p ≡ true → {bytes : List ℕ} {n : Number} → ColumnRead im bytes n → is_at_most (value_order p n) ≡ false
  unfolding exceeds
  exceeds_columns h {bytes} {n} r =
      not_at_most_plus p n plus r.plus
      (units_behind (magnitude p) (magnitude n) r.to.whole (fixed_whole im p) (10 ^ im.fraction) unit refl r.means (pow10_pos scale) (pow10_pos im.fraction)
      (let l = leb-true (10 ^ hashes im) (fixed_whole im p) h in omega (arith, r.fits)))

  module _ (fit : Fit im p) where
    abbrev cut_run : ℕ
    cut_run = packed_of (column_halves im (truncated_to im p))

    module _ {m : Number} (cut : number_of 0 im (truncated_to im p) ≡ done m) {bytes : List ℕ} {n : Number} (known : Bytes bytes) (r : ColumnRead im bytes n) where
      abbrev k : ℕ
      k = whole_of im p

      -- its units
      cut_means : magnitude m * 10 ^ im.fraction ≡ k * unit
      unfolding truncated_number magnitude_in truncated_to ◌then◌
      cut_means =
          without_limit (magnitude m) im.fraction k
          (ap (λ (a : Answer Number). magnitude_in a * 10 ^ (exponent_limit + im.fraction))
          (sym (ap (λ (a : Answer Truncated). a then number_of 0 im) (fit_truncation 0 im p fit) ∙ cut))
          ∙ whole_means im kind p fit)

      -- it is in normal form
      cut_normal : normal m ≡ true
      cut_normal =
          let own = truncates_to_itself 0 im p (fit_truncation 0 im p fit) in
          ap normal (one_answer cut own.stands_for) ∙ own.is_normal

      -- columns come in the order of their digits
      run_less : ltb (run_of bytes) cut_run ≡ ltb r.to.whole k
      unfolding truncated_to
      run_less =
          ap₂ ltb (ap run_of (sym r.same)) (sym (run_halves im (truncated_to im p)))
          ∙ sym (runs_order (column_bytes im r.to) (column_bytes im (truncated_to im p)) (column_known im r.to) (column_known im (truncated_to im p)) (column_length_lem im r.to ∙ sym (column_length_lem im (truncated_to im p))))
          ∙ column_order im kind r.to (truncated_to im p) r.fits (whole_fits im kind p fit)

      run_greater : ltb cut_run (run_of bytes) ≡ ltb k r.to.whole
      unfolding truncated_to
      run_greater =
          ap₂ ltb (sym (run_halves im (truncated_to im p))) (ap run_of (sym r.same))
          ∙ sym (runs_order (column_bytes im (truncated_to im p)) (column_bytes im r.to) (column_known im (truncated_to im p)) (column_known im r.to) (column_length_lem im (truncated_to im p) ∙ sym (column_length_lem im r.to)))
          ∙ column_order im kind (truncated_to im p) r.to (whole_fits im kind p fit) r.fits

      -- a column of fewer digits is below the number
      behind : r.to.whole < k → is_at_most (value_order p n) ≡ false
      behind h =
          not_at_most_plus p n plus r.plus
          (units_behind (magnitude p) (magnitude n) r.to.whole k (10 ^ im.fraction) unit (sym (fixed_whole_lem im kind p fit)) r.means (pow10_pos scale) (pow10_pos im.fraction) h)

      -- one of more is above it
      before : k < r.to.whole → is_at_most (value_order p n) ≡ true
      before h =
          at_most_plus p n plus r.plus
          (let l = units_before (magnitude p) (magnitude n) r.to.whole k (10 ^ im.fraction) unit (sym (fixed_whole_lem im kind p fit)) r.means (pow10_pos scale) (pow10_pos im.fraction) h in omega arith)

      -- one of the same digits is the cut's number
      level : r.to.whole ≡ k → magnitude n ≡ magnitude m
      level h = without_factor (magnitude n) (magnitude m) (pow10_pos im.fraction) (r.means ∙ ap (λ (w : ℕ). w * unit) h ∙ sym cut_means)

      -- the number is that of its cut
      pub cut_same : m ≡ p → is_at_most (value_order p n) ≡ leb cut_run (run_of bytes)
      cut_same e = go (three_ways r.to.whole k)
        where
          go : (r.to.whole < k) ⊎ ((r.to.whole ≡ k) ⊎ (k < r.to.whole)) → is_at_most (value_order p n) ≡ leb cut_run (run_of bytes)
          go (inl l) = behind l ∙ sym (lt-leb cut_run (run_of bytes) (ltb-true (run_of bytes) cut_run (run_less ∙ lt-ltb r.to.whole k l)))
          go (inr (inl s)) =
              at_most_plus p n plus r.plus (omega (arith, level s, ap magnitude e))
              ∙ sym (le-leb cut_run (run_of bytes) (ltb-false (run_of bytes) cut_run (run_less ∙ le-ltb r.to.whole k (omega arith))))
          go (inr (inr g)) = before g ∙ sym (le-leb cut_run (run_of bytes) (ltb-false (run_of bytes) cut_run (run_less ∙ le-ltb r.to.whole k (omega arith))))

      -- it is not
      pub cut_other : (m ≡ p → ⊥) → is_at_most (value_order p n) ≡ ltb cut_run (run_of bytes)
      cut_other e = run_not (three_ways r.to.whole k) ∙ sym run_greater
        where
          equal : magnitude p ≡ magnitude m → m ≡ p
          equal h =
              sym
              (order_same p m is_normal cut_normal
              (minus_none p m plus (plus_number im kind (truncated_to im p) (plus_cut im kind p) cut) ∙ whole_equal (magnitude p) (magnitude m) h))

          above : magnitude m < magnitude p
          above =
              let le = units_cut (magnitude p) (magnitude n) r.to.whole k (10 ^ im.fraction) unit (sym (fixed_whole_lem im kind p fit)) r.means (pow10_pos scale) (pow10_pos im.fraction) (magnitude m) cut_means in
              ⊎_elim (λ (ge : magnitude p ≤ magnitude m). absurd (e (equal (omega arith)))) (λ lt. lt) (le_or_lt (magnitude p) (magnitude m))

          run_not : (r.to.whole < k) ⊎ ((r.to.whole ≡ k) ⊎ (k < r.to.whole)) → is_at_most (value_order p n) ≡ ltb k r.to.whole
          run_not (inl l) = behind l ∙ sym (le-ltb k r.to.whole (omega arith))
          run_not (inr (inl s)) = not_at_most_plus p n plus r.plus (omega (arith, above, level s)) ∙ sym (le-ltb k r.to.whole (omega arith))
          run_not (inr (inr g)) = before g ∙ sym (lt-ltb k r.to.whole g)

-- Numbers tested for being the same.

-- two tests hold where both do
and_true : (a b : Bool) → (a && b) ≡ true → (a ≡ true) × (b ≡ true)
and_true true b h = (refl, h)
and_true false b h = two_values refl (sym h)

same_sign : (a b : Bool) → beq a b ≡ true → a ≡ b
same_sign true true h = refl
same_sign true false h = two_values refl (sym h)
same_sign false true h = two_values refl (sym h)
same_sign false false h = refl

sign_itself : (a : Bool) → beq a a ≡ true
sign_itself true = refl
sign_itself false = refl

number_same : (a b : Number) → same_number a b ≡ true → a ≡ b
number_same a b h =
    let one = and_true (beq a.negative b.negative) (eqb a.mantissa b.mantissa && eqb a.exponent b.exponent) h in
    let two = and_true (eqb a.mantissa b.mantissa) (eqb a.exponent b.exponent) one.1 in
    (λ i. record {
      negative = same_sign a.negative b.negative one.0 i;
      mantissa = eqb-true a.mantissa b.mantissa two.0 i;
      exponent = eqb-true a.exponent b.exponent two.1 i;
    })

number_other : (a b : Number) → same_number a b ≡ false → a ≡ b → ⊥
number_other a b h e =
    two_values
    (ap (λ (n : Number). same_number a n) (sym e) ∙ rw (sign_itself a.negative, eq-eqb a.mantissa a.mantissa refl, eq-eqb a.exponent a.exponent refl) refl)
    h

-- The least run.

-- a column without a sign or an exponent has at most eight bytes
pub column_few_bytes : (im : Image) → UnsignedFixed im → Checked im → column_size im ≤ 8
unfolding column_size
column_few_bytes im kind checked =
    omega (arith, checked.fits, ap sign_count kind.unsigned, ap exponent_count kind.fixed)

-- the run behind one, where 64 bits hold it
next_is : (r : ℕ) → SomeIff (run_or_next false r) (r + 1 < 2 ^ 64) (r + 1)
next_is r = go (ltb (suc r) (2 ^ 64)) refl
  where
    go : (b : Bool) → ltb (suc r) (2 ^ 64) ≡ b → SomeIff (pick b (Some (suc r)) None) (r + 1 < 2 ^ 64) (r + 1)
    go true e = let l = ltb-true (suc r) (2 ^ 64) e in (omega arith, omega arith)
    go false e = λ l. let g = ltb-false (suc r) (2 ^ 64) e in absurd (omega arith)

next_same : (r : ℕ) (o : Option ℕ) → SomeIff o (r + 1 < 2 ^ 64) (r + 1) → o ≡ run_or_next false r
next_same r (Some v) s =
    sym
    (ap (λ (b : Bool). pick b (Some (suc r)) None) (lt-ltb (suc r) (2 ^ 64) (omega (arith, s.0)))
    ∙ ap Some (omega (arith, s.1)))
next_same r None s =
    sym
    (ap (λ (b : Bool). pick b (Some (suc r)) None)
    (⊎_elim (λ le. le-ltb (suc r) (2 ^ 64) le) (λ lt. absurd (s (omega arith))) (le_or_lt (2 ^ 64) (suc r))))

module _ (im : Image) (p : Number) where
  -- every column is at least a number below zero
  tells_minus : p.negative ≡ true → LeastRun im p (Some 0)
  unfolding reaches
  tells_minus minus =
      record {
        tells =
            λ checked kind is_normal column bytes n known sized h.
            ap is_at_most (minus_first p n minus (column_reads im kind checked column bytes n known sized h).plus)
            ∙ sym (le-leb 0 (run_of bytes) (omega arith));
      }

  -- none is at least one that can't be cut
  tells_none : p.negative ≡ false → {x y : ℕ} → refused x y ≡ truncation 0 im p → LeastRun im p None
  unfolding reaches
  tells_none plus {x} {y} refusal =
      record {
        tells =
            λ checked kind is_normal column bytes n known sized h.
            above checked kind is_normal (column_reads im kind checked column bytes n known sized h) (exceeds im p) refl;
      }
    where
      above : Checked im → UnsignedFixed im → normal p ≡ true → {bytes : List ℕ} {n : Number} → ColumnRead im bytes n → (b : Bool) → exceeds im p ≡ b → is_at_most (value_order p n) ≡ false
      above checked kind is_normal r true e = exceeds_columns im kind p is_normal plus e r
      above checked kind is_normal r false e =
          let within : pick im.exponential (exponent_outside im p) (exceeds im p) ≡ false = ap (λ (b : Bool). pick b (exponent_outside im p) (exceeds im p)) kind.fixed ∙ e in
          never_done (refusal ∙ fit_truncation 0 im p (record { nonempty = checked.nonempty; size = checked.fits; number_checked = is_normal; within = within }))

  -- those that are at least its cut, or above it
  module _ (plus : p.negative ≡ false) {t : Truncated} (cut : done t ≡ truncation 0 im p) {m : Number} (stands : number_of 0 im t ≡ done m)
      {run : ℕ} (made : run ≡ packed_of (column_halves im t)) where
    fits : Fit im p
    fits = truncation_fit 0 im p (sym cut)

    same : t ≡ truncated_to im p
    same = truncation_done 0 im p (sym cut)

    stands_to : number_of 0 im (truncated_to im p) ≡ done m
    stands_to = ap (number_of 0 im) (sym same) ∙ stands

    run_to : run ≡ packed_of (column_halves im (truncated_to im p))
    run_to = made ∙ ap (λ (u : Truncated). packed_of (column_halves im u)) same

    -- the run has at most eight bytes
    few : Checked im → UnsignedFixed im → column_size im ≤ 8
    few checked kind = column_few_bytes im kind checked

    run_small : Checked im → UnsignedFixed im → run % 2 ^ 64 ≡ run
    run_small checked kind =
        let u = truncated_to im p in
        ap (λ (r : ℕ). r % 2 ^ 64) (run_to ∙ sym (run_halves im u))
        ∙ run_whole (column_bytes im u) (column_known im u) (omega (arith, column_length_lem im u, few checked kind))
        ∙ run_halves im u
        ∙ sym run_to

    tells_cut : same_number m p ≡ true → LeastRun im p (Some (run % 2 ^ 64))
    unfolding reaches
    tells_cut e =
        record {
          tells =
              λ checked kind is_normal column bytes n known sized h.
              cut_same im kind p is_normal plus fits stands_to known (column_reads im kind checked column bytes n known sized h) (number_same m p e)
              ∙ ap (λ (r : ℕ). leb r (run_of bytes)) (sym run_to ∙ sym (run_small checked kind));
        }

    -- a run above the cut's reaches the one behind it, where that fits
    above_run : (r : ℕ) → r < 2 ^ 64 → run % 2 ^ 64 ≡ run → (o : Option ℕ) → SomeIff o (run % 2 ^ 64 + 1 < 2 ^ 64) (run % 2 ^ 64 + 1) → ltb run r ≡ reaches o r
    unfolding reaches
    above_run r small whole None s = ⊎_elim (λ le. le-ltb run r le) (λ lt. absurd (s (omega arith))) (le_or_lt r run)
    above_run r small whole (Some v) s =
        ⊎_elim
        (λ le. le-ltb run r le ∙ sym (lt-leb v r (omega (arith, s.1))))
        (λ lt. lt-ltb run r lt ∙ sym (le-leb v r (omega (arith, s.1))))
        (le_or_lt r run)

    tells_above : same_number m p ≡ false → (o : Option ℕ) → SomeIff o (run % 2 ^ 64 + 1 < 2 ^ 64) (run % 2 ^ 64 + 1) → LeastRun im p o
    tells_above e o s =
        record {
          tells =
              λ checked kind is_normal column bytes n known sized h.
              cut_other im kind p is_normal plus fits stands_to known (column_reads im kind checked column bytes n known sized h) (number_other m p e)
              ∙ ap (λ (r : ℕ). ltb r (run_of bytes)) (sym run_to)
              ∙ above_run (run_of bytes) (run_small_of bytes known (omega (arith, sized, few checked kind))) (run_small checked kind) o s;
        }

    -- what least_of finds
    least_found : least_of im p ≡ run_or_next (same_number m p) (run % 2 ^ 64)
    unfolding least_of least_cut stands_for
    least_found =
        ap (λ (b : Bool). pick b (Some 0) (least_cut im p (truncation 0 im p))) plus
        ∙ ap (least_cut im p) (sym cut)
        ∙ ap (λ (a : Answer Number). run_or_next (stands_for a p) (run_of (column_bytes im t) % 2 ^ 64)) stands
        ∙ ap (λ (r : ℕ). run_or_next (same_number m p) (r % 2 ^ 64)) (run_halves im t ∙ sym made)

    tells_found : (b : Bool) → same_number m p ≡ b → LeastRun im p (run_or_next b (run % 2 ^ 64))
    tells_found true e = tells_cut e
    tells_found false e = tells_above e (run_or_next false (run % 2 ^ 64)) (next_is (run % 2 ^ 64))

    -- so does the code
    pub least_cut_found : same_number m p ≡ true → Some (run % 2 ^ 64) ≡ least_of im p
    least_cut_found e = sym (least_found ∙ ap (λ (b : Bool). run_or_next b (run % 2 ^ 64)) e)

    pub least_next_found : same_number m p ≡ false → (o : Option ℕ) → SomeIff o (run % 2 ^ 64 + 1 < 2 ^ 64) (run % 2 ^ 64 + 1) → o ≡ least_of im p
    least_next_found e o s = next_same (run % 2 ^ 64) o s ∙ sym (least_found ∙ ap (λ (b : Bool). run_or_next b (run % 2 ^ 64)) e)

  pub least_minus_found : p.negative ≡ true → Some 0 ≡ least_of im p
  unfolding least_of
  least_minus_found minus = ap (λ (b : Bool). pick b (Some 0) (least_cut im p (truncation 0 im p))) (sym minus)

  pub least_none_found : p.negative ≡ false → {x y : ℕ} → refused x y ≡ truncation 0 im p → None ≡ least_of im p
  unfolding least_of least_cut
  least_none_found plus refusal =
      ap (least_cut im p) refusal ∙ ap (λ (b : Bool). pick b (Some 0) (least_cut im p (truncation 0 im p))) (sym plus)

  -- Published: the columns whose numbers are at least a number are those whose runs are at least the least one.
  pub least_tells : LeastRun im p (least_of im p)
  unfolding least_of
  least_tells = go p.negative refl (truncation 0 im p) refl
    where
      go : (b : Bool) → p.negative ≡ b → (a : Answer Truncated) → truncation 0 im p ≡ a → LeastRun im p (least_of im p)
      go true minus a e = subst (LeastRun im p) (least_minus_found minus) (tells_minus minus)
      go false plus (refused x y) e = subst (LeastRun im p) (least_none_found plus (sym e)) (tells_none plus (sym e))
      go false plus (done t) e =
          let own = truncates_to_itself 0 im p e in
          subst (LeastRun im p) (sym (least_found plus (sym e) own.stands_for refl)) (tells_found plus (sym e) own.stands_for refl (same_number own.number p) refl)

  pub least_known : {least : Option ℕ} → least ≡ least_of im p → LeastRun im p least
  least_known e = subst (LeastRun im p) (sym e) least_tells

-- Two columns.

module _ (im : Image) (kind : UnsignedFixed im) {xs ys : List ℕ} {a b : Number} (f : ColumnRead im xs a) (g : ColumnRead im ys b) where
  -- the digits, as the bytes are compared
  digits_compare : comes_before ys xs ≡ ltb g.to.whole f.to.whole
  digits_compare = ap₂ comes_before (sym g.same) (sym f.same) ∙ column_order im kind g.to f.to g.fits f.fits

  -- Published: of two columns the first's number is at most the second's exactly where the second's bytes do not come before the first's.
  pub columns_compare : is_at_most (value_order a b) ≡ not (comes_before ys xs)
  columns_compare =
      ⊎_elim
      (λ (le : f.to.whole ≤ g.to.whole).
      let wide : f.to.whole * unit ≤ g.to.whole * unit = mul-le-mul_right unit le in
      at_most_plus a b f.plus g.plus (le_of_mul-le-mul_right {k = 10 ^ im.fraction} (omega (arith, f.means, g.means)) (pow10_pos im.fraction))
      ∙ ap not (sym (digits_compare ∙ le-ltb g.to.whole f.to.whole le)))
      (λ (lt : g.to.whole < f.to.whole).
      let wide : g.to.whole * unit < f.to.whole * unit = mul-lt-mul_of_pos_right lt (pow10_pos scale) in
      not_at_most_plus a b f.plus g.plus (lt_of_mul-lt-mul_right (10 ^ im.fraction) (omega (arith, f.means, g.means)))
      ∙ ap not (sym (digits_compare ∙ lt-ltb g.to.whole f.to.whole lt)))
      (le_or_lt f.to.whole g.to.whole)

-- Eight bytes at once.

module _ (bytes : List ℕ) (long : length bytes ≡ 8) where
  -- a byte more
  front_more : (i : ℕ) → i < 8 → run_of (take (i + 1) bytes) ≡ run_of (take i bytes) * 256 + get_or bytes i 0
  front_more i l = run_more bytes i (get_or bytes i 0) (omega arith) refl

  -- they are read as their run
  pub front_read : from_be_bytes w64 bytes ≡ run_of bytes
  unfolding halves_of packed_of
  front_read =
      let none : run_of (take 0 bytes) ≡ 0 = refl in
      let all : run_of (take 8 bytes) ≡ run_of bytes = ap run_of (take_all 8 bytes (omega arith)) in
      omega (
        arith,
        none,
        front_more 0 (omega arith),
        front_more 1 (omega arith),
        front_more 2 (omega arith),
        front_more 3 (omega arith),
        front_more 4 (omega arith),
        front_more 5 (omega arith),
        front_more 6 (omega arith),
        front_more 7 (omega arith),
        all,
      )

  -- and the first of them are what is left of it where the others are shifted off
  pub front_shifted : (size : ℕ) → size ≤ 8 → Bytes bytes → run_of bytes / 2 ^ (8 * (8 - size)) ≡ run_of (take size bytes)
  front_shifted size few known =
      let behind : length (halves_of (drop size bytes)) ≡ 2 * (8 - size) = omega (arith, halves_length (drop size bytes), length-drop size bytes) in
      ap₂ (λ (r w : ℕ). r / 2 ^ w)
      (ap run_of (sym (take-append-drop size bytes)) ∙ ap packed_of (bytes_append (take size bytes) (drop size bytes)))
      (omega (arith, behind))
      ∙ packed_first (halves_of (take size bytes)) (halves_of (drop size bytes)) (bytes_halves (bytes_drop size known))
