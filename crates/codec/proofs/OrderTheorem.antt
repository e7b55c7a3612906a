-- Demand 3: bodies under unsigned fixed-point images come in the order of the truncated magnitudes, and are equal where these are.
-- Assumes nothing.
use Prim.Native.Nat.{ℕ, suc, ◌+◌, ◌-◌, ◌*◌, ◌^◌, ◌<◌, ◌≤◌}
use mathlib.Core.Path.{◌≡◌, refl, ap, ap₂, sym, ◌∙◌, subst, subst⁻¹}
use mathlib.Core.Bool.{Bool, true, false, not, ◌&&◌}
use mathlib.Core.Logic.{◌↔◌, ◌⊎◌, inl, inr, ⊎_elim}
use mathlib.Core.List.{List, [], ◌∷◌, ◌++◌}
use native.Mathlib.Omega.{arith}
use native.Mathlib.Nat.{suc_inj, mul-lt-mul_of_pos_right, mul-le-mul_right}
use borrow.Author.Tests.{lt-ltb, le-ltb, ltb-true, eq-eqb, ne_eqb, eqb-true, leb-false}
use lib.Dec.{ltb, eqb}
use lib.ListN.{length}
use Rattle.decimal.specs.declared.image.Sign.{Sign}
use Rattle.decimal.specs.declared.image.Image.{Image}
use Rattle.decimal.specs.declared.number.Number.{Number}
use Rattle.decimal.specs.Answer.{Answer, done, refused, ◌then◌, pick}
use Rattle.decimal.specs.Digits.{precision, digits_of, zeros, comes_before}
use Rattle.decimal.specs.Number.{exponent_limit, unit}
use Rattle.decimal.specs.Image.{hashes}
use Rattle.decimal.specs.Truncation.{is_signed, whole_of, fixed_whole, leading_whole, exceeds, exponent_outside, stored_exponent, Truncated, truncated_to, truncation, packable, packed_truncation, Fit, number_of, truncated_number}
use Rattle.decimal.proofs.BoolLaws.{zero_or_not}
use Rattle.decimal.proofs.PowerLaws.{pow10_pos}
use Rattle.decimal.proofs.DigitLaws.{le_or_lt, digits_length, order_of_digits}
use Rattle.decimal.proofs.MagnitudeLaws.{scaled_magnitude}
use Rattle.decimal.proofs.TruncationLaws.{fit_truncation, truncation_fit, truncation_done, stored_zero, stored_fixed}
use Rattle.decimal.proofs.KeptLaws.{truncates_to_itself}
use Rattle.decimal.proofs.AnswerLaws.{done_same, then_done}
use Rattle.codec.specs.Columns.{pad_count}
use Rattle.codec.specs.Contents.{Table, read_alone}
use Rattle.codec.specs.Halves.{pack_halves}
use Rattle.codec.specs.Packing.{sign_halves, exponent_halves, column_halves, column_bytes, pack_columns, pack_list, body_of}
use Rattle.codec.specs.Order.{UnsignedFixed, AllUnsignedFixed, magnitude_in, truncated_magnitudes, FirstSmaller}
use Rattle.codec.proofs.BodyLaws.{pack_view}
use Rattle.codec.proofs.HalfLaws.{packed_order, packed_same_length, column_halves_below, column_halves_length}

-- The order of lists.

-- a test is not both
not_both : {b : Bool} → b ≡ false → b ≡ true → ⊥
not_both h g = let z : ◌≡◌ {A = ℕ} 0 1 = cc in omega arith

-- a list does not come before itself
before_self : (xs : List ℕ) → comes_before xs xs ≡ false
unfolding comes_before
before_self [] = refl
before_self (x ∷ xs) = rw (eq-eqb x x refl) (before_self xs)

-- of two lists at most one comes before the other
before_other : (xs ys : List ℕ) → comes_before xs ys ≡ true → comes_before ys xs ≡ false
unfolding comes_before
before_other [] [] h = refl
before_other [] (y ∷ ys) h = refl
before_other (x ∷ xs) [] h = absurd (not_both refl h)
before_other (x ∷ xs) (y ∷ ys) h = go (before_other xs ys) (eqb x y) refl h
  where
    go : (comes_before xs ys ≡ true → comes_before ys xs ≡ false)
        → (s : Bool)
        → eqb x y ≡ s
        → pick s (comes_before xs ys) (ltb x y) ≡ true
        → pick (eqb y x) (comes_before ys xs) (ltb y x) ≡ false
    go rest true e later = rw (eq-eqb y x (sym (eqb-true x y e))) (rest later)
    go rest false e less =
        let lt = ltb-true x y less in
        rw (ne_eqb y x (λ z. omega arith), le-ltb y x (omega arith))

-- one tail behind lists of one length does not count
before_tail : (xs ys zs : List ℕ) → length xs ≡ length ys → comes_before (xs ++ zs) (ys ++ zs) ≡ comes_before xs ys
unfolding comes_before
before_tail [] [] zs e = before_self zs
before_tail [] (y ∷ ys) zs e = absurd (omega arith)
before_tail (x ∷ xs) [] zs e = absurd (omega arith)
before_tail (x ∷ xs) (y ∷ ys) zs e = ap (λ (b : Bool). pick (eqb x y) b (ltb x y)) (before_tail xs ys zs (suc_inj e))

-- where the fronts are the same, the tails count
before_same : (xs us vs : List ℕ) → comes_before (xs ++ us) (xs ++ vs) ≡ comes_before us vs
unfolding comes_before
before_same [] us vs = refl
before_same (x ∷ xs) us vs = rw (eq-eqb x x refl) (before_same xs us vs)

-- where the front comes before a front of its length, the whole does
before_front :
    (xs ys us vs : List ℕ) → length xs ≡ length ys → comes_before xs ys ≡ true → comes_before (xs ++ us) (ys ++ vs) ≡ true
unfolding comes_before
before_front [] [] us vs e h = absurd (not_both refl h)
before_front [] (y ∷ ys) us vs e h = absurd (omega arith)
before_front (x ∷ xs) [] us vs e h = absurd (omega arith)
before_front (x ∷ xs) (y ∷ ys) us vs e h = go (before_front xs ys us vs (suc_inj e)) (eqb x y) h
  where
    go : (comes_before xs ys ≡ true → comes_before (xs ++ us) (ys ++ vs) ≡ true)
        → (s : Bool)
        → pick s (comes_before xs ys) (ltb x y) ≡ true
        → pick s (comes_before (xs ++ us) (ys ++ vs)) (ltb x y) ≡ true
    go rest true later = rest later
    go rest false less = less

-- lists that are equal behind one front are equal
same_tail : {us vs : List ℕ} (xs : List ℕ) → xs ++ us ≡ xs ++ vs → us ≡ vs
same_tail [] h = h
same_tail {us} {vs} (x ∷ xs) h = let rest : xs ++ us ≡ xs ++ vs = cc in same_tail xs rest

-- What a column tells.

-- a test that does not refuse
pick_done : {A : Type 0} (b : Bool) (number place : ℕ) (a : A) {c : A} → pick b (refused number place) (done a) ≡ done c → a ≡ c
pick_done true number place a h = let z : ◌≡◌ {A = ℕ} 0 1 = cc in absurd (omega arith)
pick_done false number place a h = cc

-- what is known of a number that packs, and of its truncation
pub record Column (im : Image) (n : Number) (t : Truncated) : Type 0 where
  pub fits : t.whole < 10 ^ hashes im
  pub means : magnitude_in (truncated_number 0 im n) * 10 ^ (exponent_limit + im.fraction) ≡ t.whole * 10 ^ exponent_limit * unit

-- columns of one image have one length
column_length_lem : (im : Image) (s t : Truncated) → length (column_bytes im s) ≡ length (column_bytes im t)
unfolding column_bytes
column_length_lem im s t =
    packed_same_length (column_halves im s) (column_halves im t) (column_halves_length im s ∙ sym (column_halves_length im t))

module _ (im : Image) (kind : UnsignedFixed im) where
  -- such a column has its digits and the pad
  fixed_halves : (t : Truncated) → column_halves im t ≡ digits_of (hashes im) t.whole ++ zeros (pad_count im)
  unfolding column_halves sign_halves exponent_halves
  fixed_halves t =
      ap₂ (λ (s x : List ℕ). s ++ (digits_of (hashes im) t.whole ++ (x ++ zeros (pad_count im))))
      (ap (λ (s : Sign). sign_halves s t) kind.unsigned)
      (ap (λ (b : Bool). exponent_halves b t) kind.fixed)

  -- columns come in the order of their digits as whole numbers
  pub column_order :
      (s t : Truncated)
      → s.whole < 10 ^ hashes im
      → t.whole < 10 ^ hashes im
      → comes_before (column_bytes im s) (column_bytes im t) ≡ ltb s.whole t.whole
  unfolding column_bytes
  column_order s t p q =
      packed_order (column_halves im s) (column_halves im t) (column_halves_below im s) (column_halves_below im t) (column_halves_length im s ∙ sym (column_halves_length im t))
      ∙ ap₂ comes_before (fixed_halves s) (fixed_halves t)
      ∙ before_tail (digits_of (hashes im) s.whole) (digits_of (hashes im) t.whole) (zeros (pad_count im))
      (digits_length (hashes im) s.whole ∙ sym (digits_length (hashes im) t.whole))
      ∙ order_of_digits (hashes im) s.whole t.whole p q

  -- and are the same where these are
  column_same : (s t : Truncated) → s.whole ≡ t.whole → column_bytes im s ≡ column_bytes im t
  unfolding column_bytes
  column_same s t e =
      ap pack_halves
      (fixed_halves s ∙ ap (λ (k : ℕ). digits_of (hashes im) k ++ zeros (pad_count im)) e ∙ sym (fixed_halves t))

  module _ (n : Number) (fit : Fit im n) where
    -- fixed point: the digits are the whole part
    pub fixed_whole_lem : whole_of im n ≡ fixed_whole im n
    unfolding whole_of
    fixed_whole_lem = ap (λ (b : Bool). pick b (leading_whole im n) (fixed_whole im n)) kind.fixed

    -- the digits fit the image
    pub whole_fits : (truncated_to im n).whole < 10 ^ hashes im
    unfolding truncated_to exceeds
    whole_fits =
        let within : exceeds im n ≡ false = subst (λ (b : Bool). pick b (exponent_outside im n) (exceeds im n) ≡ false) kind.fixed fit.within in
        subst⁻¹ (λ (k : ℕ). k < 10 ^ hashes im) fixed_whole_lem (leb-false (10 ^ hashes im) (fixed_whole im n) within)

    -- fixed point stores no exponent
    stored : stored_exponent im n ≡ exponent_limit
    stored = ⊎_elim (λ z. stored_zero im n z) (λ nz. stored_fixed im n nz kind.fixed) (zero_or_not n.mantissa)

    -- the truncated magnitude is the digits' whole number by a constant of the image
    pub whole_means :
        magnitude_in (truncated_number 0 im n) * 10 ^ (exponent_limit + im.fraction) ≡ (truncated_to im n).whole * 10 ^ exponent_limit * unit
    unfolding truncated_number number_of ◌then◌ magnitude_in truncated_to
    whole_means =
        let itself = truncates_to_itself 0 im n (fit_truncation 0 im n fit) in
        let given : truncated_number 0 im n ≡ done itself.number =
        ap (λ (a : Answer Truncated). a then number_of 0 im) (fit_truncation 0 im n fit) ∙ itself.stands_for in
        ap (λ (a : Answer Number). magnitude_in a * 10 ^ (exponent_limit + im.fraction)) given
        ∙ scaled_magnitude 0 (truncated_to im n).negative (whole_of im n) (stored_exponent im n) (exponent_limit + im.fraction) itself.stands_for
        ∙ ap (λ (x : ℕ). whole_of im n * 10 ^ x * unit) stored

  -- a number that packs
  pub column_of : (place : ℕ) (n : Number) {t : Truncated} → packed_truncation place im n ≡ done t → Column im n t
  unfolding packed_truncation packable
  column_of place n {t} h =
      let both = then_done (truncation place im n) (packable place im) h in
      let u = both.value in
      let same : u ≡ t = pick_done (not (is_signed im.sign) && ltb u.x exponent_limit) 5 place u both.second in
      let fit = truncation_fit place im n both.first in
      subst (λ (v : Truncated). Column im n v) (sym (truncation_done place im n both.first) ∙ same)
      (record { fits = whole_fits n fit; means = whole_means n fit })

-- Whole numbers and magnitudes, which are a constant apart.

module _ (m n d w v e u : ℕ) (first : m * d ≡ w * e * u) (second : n * d ≡ v * e * u) (some-e : 0 < e) (some-u : 0 < u) where
  -- the smaller whole number has the smaller magnitude
  means_less : w < v → m < n
  means_less h =
      let wide : w * e * u < v * e * u = mul-lt-mul_of_pos_right (mul-lt-mul_of_pos_right h some-e) some-u in
      ⊎_elim
      (λ above. let most : n * d ≤ m * d = mul-le-mul_right d above in absurd (omega arith))
      (λ below. below)
      (le_or_lt n m)

  -- the same whole number has the same magnitude
  means_same : 0 < d → w ≡ v → m ≡ n
  means_same some-d h =
      let wide : m * d ≡ n * d = first ∙ ap (λ (k : ℕ). k * e * u) h ∙ sym second in
      ⊎_elim
      (λ above.
      ⊎_elim
      (λ under. omega arith)
      (λ more. let less : n * d < m * d = mul-lt-mul_of_pos_right more some-d in absurd (omega arith))
      (le_or_lt m n))
      (λ more. let less : m * d < n * d = mul-lt-mul_of_pos_right more some-d in absurd (omega arith))
      (le_or_lt n m)

-- The lists, column by column.

-- how bodies compare with magnitudes
record Compared (a b ms ns : List ℕ) : Type 0 where
  pub before : (comes_before a b ≡ true) ↔ FirstSmaller ms ns
  pub same : (a ≡ b) ↔ (ms ≡ ns)

-- where the first magnitudes differ or not
first_view : {a b : ℕ} {xs ys : List ℕ} → FirstSmaller (a ∷ xs) (b ∷ ys) → (a < b) ⊎ ((a ≡ b) × FirstSmaller xs ys)
first_view (FirstSmaller.here h) = inl h
first_view (FirstSmaller.later h) = inr (refl, h)

-- lists whose first elements are the same
first_same : {a b : ℕ} {xs ys : List ℕ} → a ≡ b → FirstSmaller xs ys → FirstSmaller (a ∷ xs) (b ∷ ys)
first_same {a} {b} {xs} {ys} e h = subst (λ (c : ℕ). FirstSmaller (a ∷ xs) (c ∷ ys)) e (FirstSmaller.later h)

module _ (x y us vs : List ℕ) (m n : ℕ) (ms ns : List ℕ) (sized : length x ≡ length y) where
  -- a column that is smaller
  compared_less : comes_before x y ≡ true → m < n → Compared (x ++ us) (y ++ vs) (m ∷ ms) (n ∷ ns)
  compared_less front less =
      let whole = before_front x y us vs sized front in
      record {
        before = ((λ _. FirstSmaller.here less), (λ _. whole));
        same = (
          (λ e. absurd (not_both (before_self (y ++ vs)) (subst (λ (l : List ℕ). comes_before l (y ++ vs) ≡ true) e whole))),
          (λ e. let heads : m ≡ n = cc in absurd (omega arith)),
        );
      }

  -- a column that is larger
  compared_more : comes_before y x ≡ true → n < m → Compared (x ++ us) (y ++ vs) (m ∷ ms) (n ∷ ns)
  compared_more front less =
      let whole = before_front y x vs us (sym sized) front in
      record {
        before = (
          (λ h. absurd (not_both (before_other (y ++ vs) (x ++ us) whole) h)),
          (λ h. absurd (⊎_elim (λ l. omega arith) (λ s. omega (arith, s.0)) (first_view h))),
        );
        same = (
          (λ e. absurd (not_both (before_self (y ++ vs)) (subst (λ (l : List ℕ). comes_before (y ++ vs) l ≡ true) e whole))),
          (λ e. let heads : m ≡ n = cc in absurd (omega arith)),
        );
      }

  -- a column that is the same
  compared_same : x ≡ y → m ≡ n → Compared us vs ms ns → Compared (x ++ us) (y ++ vs) (m ∷ ms) (n ∷ ns)
  compared_same front head rest =
      let order : comes_before (x ++ us) (y ++ vs) ≡ comes_before us vs =
      ap (λ (l : List ℕ). comes_before (x ++ us) (l ++ vs)) (sym front) ∙ before_same x us vs in
      record {
        before = (
          (λ h. first_same head (rest.before.0 (sym order ∙ h))),
          (λ h.
              order
              ∙ ⊎_elim (λ l. absurd (omega arith)) (λ s. rest.before.1 s.1) (first_view h)),
        );
        same = (
          (λ e. ap₂ (λ (k : ℕ) (l : List ℕ). k ∷ l) head (rest.same.0 (same_tail x (e ∙ ap (λ (l : List ℕ). l ++ vs) (sym front))))),
          (λ e. let tails : ms ≡ ns = cc in ap₂ (λ (k l : List ℕ). k ++ l) front (rest.same.1 tails)),
        );
      }

-- two numbers under one image
module _ (im : Image) (m n : Number) (s t : Truncated) (c : Column im m s) (d : Column im n t) where
  abbrev down : ℕ
  down = exponent_limit + im.fraction

  abbrev first : ℕ
  first = magnitude_in (truncated_number 0 im m)

  abbrev second : ℕ
  second = magnitude_in (truncated_number 0 im n)

  -- the smaller digits have the smaller magnitude
  column_less : s.whole < t.whole → first < second
  column_less =
      means_less first second (10 ^ down) s.whole t.whole (10 ^ exponent_limit) unit c.means d.means
      (pow10_pos exponent_limit) (pow10_pos (exponent_limit + (precision - 1)))

  -- the same digits have the same magnitude
  column_equal : s.whole ≡ t.whole → first ≡ second
  column_equal =
      means_same first second (10 ^ down) s.whole t.whole (10 ^ exponent_limit) unit c.means d.means
      (pow10_pos exponent_limit) (pow10_pos (exponent_limit + (precision - 1))) (pow10_pos down)

-- a column, and what stands behind it
module _ (im : Image) (kind : UnsignedFixed im) (m n : Number) (s t : Truncated) (c : Column im m s) (d : Column im n t) where
  compared_column :
      {us vs ms ns : List ℕ}
      → Compared us vs ms ns
      → Compared
      (column_bytes im s ++ us)
      (column_bytes im t ++ vs)
      (magnitude_in (truncated_number 0 im m) ∷ ms)
      (magnitude_in (truncated_number 0 im n) ∷ ns)
  compared_column {us} {vs} {ms} {ns} rest =
      let sized = column_length_lem im s t in
      ⊎_elim
      (λ le.
      ⊎_elim
      (λ ge.
      let e : s.whole ≡ t.whole = omega arith in
      compared_same _ _ _ _ _ _ _ _ sized (column_same im kind s t e) (column_equal im m n s t c d e) rest)
      (λ lt.
      compared_less _ _ us vs _ _ ms ns sized
      (column_order im kind s t c.fits d.fits ∙ lt-ltb s.whole t.whole lt)
      (column_less im m n s t c d lt))
      (le_or_lt t.whole s.whole))
      (λ gt.
      compared_more _ _ us vs _ _ ms ns sized
      (column_order im kind t s d.fits c.fits ∙ lt-ltb t.whole s.whole gt)
      (column_less im n m t s d c gt))
      (le_or_lt s.whole t.whole)

-- the empty list is not before itself
first_none : FirstSmaller [] [] → ⊥
first_none h = go h refl
  where
    go : {xs ys : List ℕ} → FirstSmaller xs ys → xs ≡ [] → ⊥
    go (FirstSmaller.here l) e = let z : ◌≡◌ {A = ℕ} 0 1 = cc in omega arith
    go (FirstSmaller.later l) e = let z : ◌≡◌ {A = ℕ} 0 1 = cc in omega arith

-- equal bodies compare alike
compared_paths : {a b c d ms ns : List ℕ} → a ≡ c → b ≡ d → Compared a b ms ns → Compared c d ms ns
compared_paths {a} {d = d} {ms} {ns} p q h =
    subst (λ (l : List ℕ). Compared l d ms ns) p (subst (λ (l : List ℕ). Compared a l ms ns) q h)

-- no columns
compared_none : Compared [] [] [] []
unfolding comes_before
compared_none =
    record { before = ((λ h. absurd (not_both refl h)), (λ h. absurd (first_none h))); same = ((λ _. refl), (λ _. refl)) }

-- a list that packs has the columns' length
listed :
    (ims : List Image) (ns : List Number) {a : List ℕ}
    → pack_list ims ns ≡ done a
    → (length ns ≡ length ims) × (pack_columns 0 ims ns ≡ done a)
unfolding pack_list
listed ims ns {a} h = go (eqb (length ns) (length ims)) refl h
  where
    go : (b : Bool)
        → eqb (length ns) (length ims) ≡ b
        → pick b (pack_columns 0 ims ns) (refused 10 0) ≡ done a
        → (length ns ≡ length ims) × (pack_columns 0 ims ns ≡ done a)
    go true e g = (eqb-true (length ns) (length ims) e, g)
    go false e g = let z : ◌≡◌ {A = ℕ} 0 1 = cc in absurd (omega arith)

-- all columns
compared_columns :
    {ims : List Image} → AllUnsignedFixed ims
    → (place : ℕ) (ms ns : List Number) {a b : List ℕ}
    → length ms ≡ length ims
    → length ns ≡ length ims
    → pack_columns place ims ms ≡ done a
    → pack_columns place ims ns ≡ done b
    → Compared a b (truncated_magnitudes ims ms) (truncated_magnitudes ims ns)
unfolding pack_columns truncated_magnitudes
compared_columns AllUnsignedFixed.none place ms ns {a} {b} p q h g =
    compared_paths (done_same h) (done_same g) compared_none
compared_columns (AllUnsignedFixed.more kind kinds) place [] ns p q h g = absurd (omega arith)
compared_columns (AllUnsignedFixed.more kind kinds) place (m ∷ ms) [] p q h g = absurd (omega arith)
compared_columns (AllUnsignedFixed.more {im} {ims} kind kinds) place (m ∷ ms) (n ∷ ns) {a} {b} p q h g =
    let c = pack_view place im ims m ms h in
    let d = pack_view place im ims n ns g in
    let rest = compared_columns kinds (suc place) ms ns (suc_inj p) (suc_inj q) c.others d.others in
    let both = compared_column im kind m n c.to d.to (column_of im kind place m c.first) (column_of im kind place n d.first) rest in
    compared_paths c.joined d.joined both

-- two lists that pack
compared_lists :
    {ims : List Image}
    → AllUnsignedFixed ims
    → (ms ns : List Number) {a b : List ℕ}
    → pack_list ims ms ≡ done a
    → pack_list ims ns ≡ done b
    → Compared a b (truncated_magnitudes ims ms) (truncated_magnitudes ims ns)
compared_lists {ims} kinds ms ns h g =
    let p = listed ims ms h in
    let q = listed ims ns g in
    compared_columns kinds 0 ms ns p.0 q.0 p.1 q.1

-- what a list packs to under a contents that is read
body_list : (contents : List ℕ) {table : Table} → read_alone contents ≡ done table → (ns : List Number) → body_of contents ns ≡ pack_list table.images ns
unfolding body_of ◌then◌
body_list contents reads ns = ap (λ (read : Answer Table). read then λ table. pack_list table.images ns) reads

-- Published: the first list's body comes before the second's exactly when the truncated magnitudes differ in some column and, in the first
-- such column, the first list's is smaller.
pub order :
    {ims : List Image}
    → AllUnsignedFixed ims
    → (ms ns : List Number) {a b : List ℕ}
    → pack_list ims ms ≡ done a
    → pack_list ims ns ≡ done b
    → (comes_before a b ≡ true) ↔ FirstSmaller (truncated_magnitudes ims ms) (truncated_magnitudes ims ns)
order kinds ms ns h g = (compared_lists kinds ms ns h g).before

-- Published: the two bodies are equal exactly when no column differs.
pub equality :
    {ims : List Image}
    → AllUnsignedFixed ims
    → (ms ns : List Number) {a b : List ℕ}
    → pack_list ims ms ≡ done a
    → pack_list ims ns ≡ done b
    → (a ≡ b) ↔ (truncated_magnitudes ims ms ≡ truncated_magnitudes ims ns)
equality kinds ms ns h g = (compared_lists kinds ms ns h g).same

-- Published: the order of bodies under a contents.
pub contents_order :
    (contents : List ℕ) {table : Table}
    → read_alone contents ≡ done table
    → AllUnsignedFixed table.images
    → (ms ns : List Number) {a b : List ℕ}
    → body_of contents ms ≡ done a
    → body_of contents ns ≡ done b
    → (comes_before a b ≡ true) ↔ FirstSmaller (truncated_magnitudes table.images ms) (truncated_magnitudes table.images ns)
contents_order contents reads kinds ms ns h g =
    order kinds ms ns (sym (body_list contents reads ms) ∙ h) (sym (body_list contents reads ns) ∙ g)

-- Published: the equality of bodies under a contents.
pub contents_equality :
    (contents : List ℕ) {table : Table}
    → read_alone contents ≡ done table
    → AllUnsignedFixed table.images
    → (ms ns : List Number) {a b : List ℕ}
    → body_of contents ms ≡ done a
    → body_of contents ns ≡ done b
    → (a ≡ b) ↔ (truncated_magnitudes table.images ms ≡ truncated_magnitudes table.images ns)
contents_equality contents reads kinds ms ns h g =
    equality kinds ms ns (sym (body_list contents reads ms) ∙ h) (sym (body_list contents reads ns) ∙ g)
