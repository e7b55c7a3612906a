-- Laws of a column that is read as a cut: what its parts tell, when it is refused, and that the cut is the truncation of the number that
-- it is unpacked to. Assumes nothing.
use Prim.Native.Nat.{ℕ, zero, suc, ◌+◌, ◌-◌, ◌*◌, ◌/◌, ◌%◌, ◌^◌, ◌<◌, ◌≤◌}
use mathlib.Core.Path.{◌≡◌, refl, ap, ap₂, sym, ◌∙◌}
use mathlib.Core.List.{List, [], ◌∷◌, ◌++◌}
use mathlib.Core.Bool.{Bool, true, false, ◌&&◌}
use mathlib.Core.Logic.{⊎_elim}
use native.Mathlib.Omega.{arith}
use native.Mathlib.Nat.{lt_of_lt_of_le, mod-lt}
use lib.Arith.{digits_div, digits_mod}
use lib.Dec.{leb, ltb, eqb}
use lib.ListN.{length, take, length-append}
use borrow.Author.Tests.{le-leb, eq-eqb, leb-true, leb-false}
use Rattle.std.proofs.lemmas.Bool.{not-false}
use Rattle.decimal.specs.declared.image.Image.{Image}
use Rattle.decimal.specs.declared.number.Number.{Number}
use Rattle.decimal.specs.Answer.{Answer, done, refused, pick, mapped, checked_only}
use Rattle.decimal.specs.Digits.{precision, digits_of, value_of, packed_of, halves_in, zeros, leading_zeros, Digits, Halves}
use Rattle.decimal.specs.Number.{exponent_limit, zero_number}
use Rattle.decimal.specs.Image.{hashes}
use Rattle.decimal.specs.Truncation.{Truncated, truncated_to, truncation, number_of}
use Rattle.decimal.proofs.BoolLaws.{zero_or_not, and_true}
use Rattle.decimal.proofs.PowerLaws.{pow10_mono}
use Rattle.decimal.proofs.AnswerLaws.{never_done, mapped_done, then_both}
use Rattle.decimal.proofs.DigitLaws.{le_or_lt, digits_padded, digits_of_value, value_below, value_of_digits, zeros_length, leading_unique, leading_at_most}
use Rattle.decimal.proofs.NumberLaws.{scaled_zero, scaled_shifted, shifted_below, shifted_above, shifted_done}
use Rattle.decimal.proofs.PackedLaws.{packed_zeros, halves_of_packed, halves_of_digits, halves_append, zeros_halves}
use Rattle.decimal.proofs.TruncationLaws.{fit_truncation}
use Rattle.codec.specs.declared.reading.ColumnHalves.{ColumnHalves}
use Rattle.codec.specs.Reading.{PartsOf}
use Rattle.codec.proofs.ReadLaws.{halves_parts}
use Rattle.codec.specs.Columns.{sign_count, exponent_count, half_count, pad_count, Checked}
use Rattle.decimal.specs.Cuts.{cut_of, IsCut}
use Rattle.codec.specs.Cuts.{DigitsOf, whole_in, outside}
use Rattle.codec.specs.Halves.{halves_of}
use Rattle.codec.specs.Unpacking.{all_digits, all_zero, digit_part, exponent_part, pad_part, minus_bit, said_by, breaks_rules, as_half, parts_number, halves_number, read_on}
use Rattle.codec.proofs.UnpackLaws.{all_append, read_value, read_none}
use Rattle.codec.proofs.ColumnTheorem.{halves_whole, digit_part_length, exponent_part_length, pad_part_length, two_values, Kept, kept_packing, said_kept, rules_view, pass_digits, filled_low, filled_high, exponent_few, exponent_none, sign_part_none}

-- Numbers of truncations.

module _ (im : Image) (checked : Checked im) (t : Truncated) (kept : Kept im t) (column : ℕ) where
  -- the zeros before k
  abbrev lead : ℕ
  lead = leading_zeros precision t.whole

  -- exponential: as many as the image has no digits
  exponential_lead : im.exponential ≡ true → 0 < t.whole → lead ≡ precision - hashes im
  exponential_lead kind some =
      leading_unique (precision - 1) t.whole (precision - hashes im)
      (filled_low (precision - 1) (hashes im) t.whole (kept.first kind some) checked.fits)
      (filled_high (precision - 1) (hashes im) t.whole kept.size checked.fits)

  -- k has at most a mantissa's digits
  few : t.whole < 10 ^ precision
  few = lt_of_lt_of_le kept.size (pow10_mono checked.fits)

  -- the number's exponent, which is within its limits where x and the digits before the point are
  placed :
      (b : Bool) → im.exponential ≡ b → 0 < t.whole → 1 ≤ t.x + im.integer → t.x + im.integer ≤ 2 * exponent_limit + 1
      → (exponent_limit + im.fraction + lead ≤ exponent_limit + (precision - 1) + t.x)
      × (exponent_limit + (precision - 1) + t.x - (exponent_limit + im.fraction + lead) ≤ 2 * exponent_limit)
  placed true kind some low high = let e = exponential_lead kind some in let f = checked.fits in (omega arith, omega arith)
  placed false kind some low high =
      let e = leading_at_most precision t.whole in let f = checked.fits in let x = kept.fixed_x kind in (omega arith, omega arith)

  -- so there is one
  pub stands : 1 ≤ t.x + im.integer → t.x + im.integer ≤ 2 * exponent_limit + 1 → (n : Number) × (number_of column im t ≡ done n)
  unfolding number_of
  stands low high =
      ⊎_elim
      (λ (none : t.whole ≡ 0). (zero_number, scaled_zero column t.negative t.whole t.x (exponent_limit + im.fraction) none))
      (λ (nz : t.whole ≡ 0 → ⊥).
      let some : 0 < t.whole = omega arith in
      let p = placed im.exponential refl some low high in (
        _,
        scaled_shifted column t.negative t.whole t.x (exponent_limit + im.fraction) some few
            ∙ shifted_done column t.negative t.whole t.x (exponent_limit + im.fraction) lead p.0 p.1,
      ))
      (zero_or_not t.whole)

  -- and else none
  pub stands_not : (1 ≤ t.x + im.integer → 2 * exponent_limit + 1 < t.x + im.integer) → number_of column im t ≡ refused 5 column
  unfolding number_of
  stands_not far = ⊎_elim none some (zero_or_not t.whole)
    where
      none : t.whole ≡ 0 → number_of column im t ≡ refused 5 column
      none z = let x = kept.zero_x z in let f = checked.fits in let g = far (omega arith) in absurd (omega arith)

      go : 0 < t.whole → (b : Bool) → im.exponential ≡ b → number_of column im t ≡ refused 5 column
      go pos false kind = let x = kept.fixed_x kind in let f = checked.fits in let g = far (omega arith) in absurd (omega arith)
      go pos true kind =
          let e = exponential_lead kind pos in
          let f = checked.fits in
          scaled_shifted column t.negative t.whole t.x (exponent_limit + im.fraction) pos few
          ∙ ⊎_elim
          (λ (low : t.x + im.integer ≤ 0).
          shifted_below column t.negative t.whole t.x (exponent_limit + im.fraction) lead (omega arith))
          (λ (above : 0 < t.x + im.integer).
          let g = far (omega arith) in
          shifted_above column t.negative t.whole t.x (exponent_limit + im.fraction) lead (omega arith) (omega arith))
          (le_or_lt (t.x + im.integer) 0)

      some : (t.whole ≡ 0 → ⊥) → number_of column im t ≡ refused 5 column
      some nz = go (omega arith) im.exponential refl

-- Tests.

-- conjunctions
and_swap : (a b c : Bool) → (a && c) ≡ false → (a && (b && c)) ≡ false
and_swap false b c h = refl
and_swap true true c h = h
and_swap true false c h = refl

and_none_middle : (a c : Bool) → (a && (false && c)) ≡ false
and_none_middle true c = refl
and_none_middle false c = refl

and_last : (a : Bool) → a ≡ (a && true)
and_last true = refl
and_last false = refl

-- a place outside
outside_far : (im : Image) (x : ℕ) → outside im x ≡ true → 1 ≤ x + im.integer → 2 * exponent_limit + 1 < x + im.integer
outside_far im x h low = go (leb (x + im.integer) (2 * exponent_limit + 1)) refl
  where
    go : (b : Bool) → leb (x + im.integer) (2 * exponent_limit + 1) ≡ b → 2 * exponent_limit + 1 < x + im.integer
    go true e = two_values h (rw (le-leb 1 (x + im.integer) low, e))
    go false e = leb-false (x + im.integer) (2 * exponent_limit + 1) e

-- and one inside
outside_not : (im : Image) (x : ℕ) → outside im x ≡ false → (1 ≤ x + im.integer) × (x + im.integer ≤ 2 * exponent_limit + 1)
outside_not im x h =
    let both = and_true (leb 1 (x + im.integer)) (leb (x + im.integer) (2 * exponent_limit + 1)) (not-false _ h) in
    (leb-true 1 (x + im.integer) both.0, leb-true (x + im.integer) (2 * exponent_limit + 1) both.1)

-- x is within its limits
pub x_few : (b : Bool) {size x : ℕ} → size ≤ exponent_limit → x ≡ pick b (exponent_limit - size) (exponent_limit + size) → x ≤ 2 * exponent_limit
x_few true few e = omega arith
x_few false few e = omega arith

-- Digits as half bytes.

-- zeros are digits
pub zeros_digits : (n : ℕ) → all_digits (zeros n) ≡ true
unfolding zeros all_digits
zeros_digits zero = refl
zeros_digits (suc n) = zeros_digits n

-- half bytes put behind zeros
pub halves_padded : (m n : ℕ) (hs : List ℕ) → Halves hs → length hs + m ≡ n → halves_in n (packed_of hs) ≡ zeros m ++ hs
halves_padded m n hs h long =
    ap (halves_in n) (sym (packed_zeros m hs))
    ∙ halves_of_packed n (zeros m ++ hs) (length-append (zeros m) hs ∙ omega (arith, zeros_length m)) (halves_append (zeros m) hs (zeros_halves m) h)

-- a test of more half bytes than there are
pub all_padded : (m n : ℕ) (hs : List ℕ) → Halves hs → length hs + m ≡ n → all_digits (halves_in n (packed_of hs)) ≡ all_digits hs
all_padded m n hs h long = ap all_digits (halves_padded m n hs h long) ∙ all_append (zeros m) hs ∙ rw (zeros_digits m)

-- at most a mantissa's digits, held as half bytes
digits_held :
    (ds : List ℕ) {k : ℕ} → Digits ds → length ds ≤ precision → k ≡ packed_of ds
    → (value_of (halves_in precision k) ≡ value_of ds) × (k ≡ packed_of (digits_of precision (value_of (halves_in precision k))))
digits_held ds {k} are few same =
    let m = precision - length ds in
    let v = value_of ds in
    let long : precision ≡ m + length ds = omega arith in
    let small : v < 10 ^ precision = lt_of_lt_of_le (value_below ds are) (pow10_mono few) in
    let packed : packed_of (digits_of precision v) ≡ packed_of ds =
    ap (λ (n : ℕ). packed_of (digits_of n v)) long
    ∙ ap packed_of (digits_padded m (length ds) v (value_below ds are) ∙ ap (λ (l : List ℕ). zeros m ++ l) (digits_of_value ds are))
    ∙ packed_zeros m ds in
    let held : value_of (halves_in precision k) ≡ v =
    ap (λ (n : ℕ). value_of (halves_in precision n)) (same ∙ sym packed) ∙ ap value_of (halves_of_digits precision v) ∙ value_of_digits precision v small in
    (held, same ∙ sym packed ∙ ap (λ (n : ℕ). packed_of (digits_of precision n)) (sym held))

-- The exponent and the padding.

-- no exponent
none_read : read_on 0 (0 / 16 ∷ (0 % 16 ∷ [])) ≡ read_on 0 []
unfolding read_on
none_read = refl

-- an exponent's byte is read as its halves
exponent_same :
    (b : Bool) (es : List ℕ) {e : ℕ} → Halves es → length es ≡ exponent_count b → e ≡ packed_of es → read_on 0 (halves_of (e ∷ [])) ≡ read_on 0 es
unfolding Halves halves_of packed_of
exponent_same true [] h long same = absurd (omega arith)
exponent_same true (a ∷ []) h long same = absurd (omega arith)
exponent_same true (a ∷ (c ∷ (d ∷ es))) h long same = absurd (omega arith)
exponent_same true (a ∷ (c ∷ [])) {e} h long same =
    let made : e ≡ a * 16 + c = omega arith in
    ap (read_on 0) (ap₂ (λ (x y : ℕ). x ∷ (y ∷ [])) (ap (λ (k : ℕ). k / 16) made ∙ digits_div a h.1.0) (ap (λ (k : ℕ). k % 16) made ∙ digits_mod a h.1.0))
exponent_same false [] h long same = ap (λ (k : ℕ). read_on 0 (k / 16 ∷ (k % 16 ∷ []))) same ∙ none_read
exponent_same false (a ∷ es) h long same = absurd (omega arith)

-- a pad of at most one half
pad_same : (ps : List ℕ) {p : ℕ} → length ps ≤ 1 → p ≡ packed_of ps → eqb p 0 ≡ all_zero ps
unfolding packed_of all_zero
pad_same [] few same = eq-eqb _ 0 same
pad_same (a ∷ (c ∷ ps)) few same = absurd (omega arith)
pad_same (a ∷ []) {p} few same = ap (λ (k : ℕ). eqb k 0) (same ∙ omega arith) ∙ and_last (eqb a 0)

-- A column's parts.

module _ (im : Image) (column : ℕ) (hs : List ℕ) (checked : Checked im) (filled : length hs ≡ half_count im + pad_count im) (halves : Halves hs) where
  abbrev ds : List ℕ
  ds = digit_part im hs

  abbrev es : List ℕ
  es = exponent_part im hs

  abbrev ps : List ℕ
  ps = pad_part im hs

  -- they are half bytes
  part_halves : Halves ds × Halves es × Halves ps
  part_halves =
      let ss = take (sign_count im.sign) hs in
      let all : Halves (ss ++ (ds ++ (es ++ ps))) = rw (halves_whole im hs filled) halves in
      let one = halves_parts ss (ds ++ (es ++ ps)) all in
      let two = halves_parts ds (es ++ ps) one.1 in
      let three = halves_parts es ps two.1 in
      (two.0, three.0, three.1)

  -- halves of which a part is refused
  refused_part :
      (a b c : Bool) → all_digits ds ≡ a → all_digits es ≡ b → all_zero ps ≡ c → (a && (b && c)) ≡ false → halves_number column im hs ≡ refused 7 column
  unfolding halves_number
  refused_part false b c p q r e = rw p
  refused_part true false c p q r e = rw (p, q)
  refused_part true true false p q r e = rw (p, q, r)
  refused_part true true true p q r e = two_values refl e

  module _ {p : ColumnHalves} (parts : PartsOf im hs p) where
    -- the digits' half bytes
    digits_read : halves_in (hashes im) p.digits ≡ ds
    digits_read = ap (halves_in (hashes im)) parts.digits ∙ halves_of_packed (hashes im) ds (digit_part_length im hs filled) part_halves.0

    -- and the test of them
    pub digits_all : all_digits (halves_in 16 p.digits) ≡ all_digits ds
    digits_all =
        ap (λ (k : ℕ). all_digits (halves_in 16 k)) parts.digits
        ∙ all_padded (16 - hashes im) 16 ds part_halves.0 (omega (arith, digit_part_length im hs filled, checked.fits))

    -- the padding's
    pub pad_zero : eqb p.pad 0 ≡ all_zero ps
    pad_zero = pad_same ps (omega (arith, pad_part_length im hs filled, mod-lt (half_count im) {m = 2} (omega arith))) parts.pad

    -- the exponent's
    exponent_read : read_on 0 (halves_of (p.exponent ∷ [])) ≡ read_on 0 es
    exponent_read = exponent_same im.exponential es part_halves.1 (exponent_part_length im hs filled) parts.exponent

    -- a half above 9 among the digits, or a padding that is not 0
    pub refused_form : (all_digits (halves_in 16 p.digits) && eqb p.pad 0) ≡ false → halves_number column im hs ≡ refused 7 column
    refused_form h =
        refused_part (all_digits ds) (all_digits es) (all_zero ps) refl refl refl
        (and_swap (all_digits ds) (all_digits es) (all_zero ps) (ap₂ ◌&&◌ (sym digits_all) (sym pad_zero) ∙ h))

    -- a half above 9 in the exponent
    pub refused_exponent : refused 7 0 ≡ read_on 0 (halves_of (p.exponent ∷ [])) → halves_number column im hs ≡ refused 7 column
    refused_exponent h =
        refused_part (all_digits ds) false (all_zero ps) refl (read_none es (sym exponent_read ∙ sym h)) refl (and_none_middle (all_digits ds) (all_zero ps))

    module _ (form : (all_digits (halves_in 16 p.digits) && eqb p.pad 0) ≡ true) {size : ℕ} (sized : done size ≡ read_on 0 (halves_of (p.exponent ∷ []))) where
      -- the digits, the exponent and the padding
      formed : (all_digits ds ≡ true) × (all_zero ps ≡ true) × (all_digits es ≡ true) × (size ≡ value_of es)
      formed =
          let both = and_true (all_digits (halves_in 16 p.digits)) (eqb p.pad 0) form in
          let read = read_value es (sym exponent_read ∙ sym sized) in
          (sym digits_all ∙ both.0, sym pad_zero ∙ both.1, read.0, read.1)

      -- what the code knows of the digits
      pub digits_known : DigitsOf (hashes im) p.digits
      digits_known =
          record {
            same = parts.digits ∙ ap packed_of (sym digits_read);
            are = ap all_digits digits_read ∙ formed.0;
          }

      -- |x| is within its limit
      pub size_few : size ≤ exponent_limit
      size_few =
          omega (arith, formed.3, exponent_few im.exponential es (exponent_part_length im hs filled) (pass_digits es formed.2))

      -- k
      abbrev whole : ℕ
      whole = whole_in (hashes im) p.digits

      whole_read : whole ≡ value_of ds
      whole_read = ap value_of digits_read

      -- the number is that of the parts
      parts_left : halves_number column im hs ≡ parts_number column im p.sign whole size
      unfolding halves_number
      parts_left =
          rw (formed.0, formed.1, formed.2)
          (ap₂ (λ (s k : ℕ). parts_number column im s k (value_of es)) (sym parts.sign) (sym whole_read)
          ∙ ap (λ (e : ℕ). parts_number column im p.sign whole e) (sym formed.3))

      -- parts that break a rule
      pub refused_rules : breaks_rules im p.sign whole size ≡ true → halves_number column im hs ≡ refused 7 column
      unfolding parts_number
      refused_rules h = parts_left ∙ rw h

      module _ (rules : breaks_rules im p.sign whole size ≡ false) where
        -- what the parts say
        abbrev said : Truncated
        said = said_by p.sign whole size

        -- it keeps to the bounds
        kept : Kept im said
        kept =
            said_kept im p.sign whole size (rules_view im p.sign whole size rules) size_few
            (λ u. parts.sign ∙ sign_part_none im.sign hs u)
            (λ f. formed.3 ∙ exponent_none im.exponential es (exponent_part_length im hs filled) (pass_digits es formed.2) f)
            (rw (whole_read, ← digit_part_length im hs filled) (value_below ds (pass_digits ds formed.0)))

        -- the number is the one that it stands for
        said_left : halves_number column im hs ≡ as_half column (number_of column im said)
        unfolding parts_number
        said_left = parts_left ∙ rw rules

        -- an exponent outside its limits
        pub refused_outside : outside im said.x ≡ true → halves_number column im hs ≡ refused 7 column
        unfolding as_half
        refused_outside h =
            said_left ∙ ap (as_half column) (stands_not im checked said kept column (outside_far im said.x h))

        module _ (inside : outside im said.x ≡ false) where
          -- the number that is read, and that it is cut to what the parts say
          pub read_cut : (n : Number) × (halves_number column im hs ≡ done n) × (said ≡ truncated_to im n)
          unfolding as_half
          read_cut =
              let within = outside_not im said.x inside in
              let found = stands im checked said kept column within.0 within.1 in
              (found.0, said_left ∙ ap (as_half column) found.1, (kept_packing im checked said kept column found.1).cut)

          -- the code's cut says that
          module _ {negative : Bool} {x : ℕ} (minus : negative ≡ minus_bit p.sign) (placed : x ≡ said.x) where
            held : (value_of (halves_in precision p.digits) ≡ value_of ds) × (p.digits ≡ packed_of (digits_of precision (value_of (halves_in precision p.digits))))
            held = digits_held ds (pass_digits ds formed.0) (omega (arith, digit_part_length im hs filled, checked.fits)) parts.digits

            cut_said : cut_of negative p.digits x ≡ said
            unfolding said_by
            cut_said = λ i. record { negative = minus i; whole = (held.0 ∙ sym whole_read) i; x = placed i }

            -- it is a cut
            pub cut_is : IsCut im negative p.digits x
            cut_is =
                let within = outside_not im said.x inside in
                let found = stands im checked said kept 0 within.0 within.1 in
                let packing = kept_packing im checked said kept 0 found.1 in
                record {
                  nonempty = checked.nonempty;
                  size = checked.fits;
                  below = rw (held.0, ← digit_part_length im hs filled) (value_below ds (pass_digits ds formed.0));
                  range = omega (arith, placed, kept.top);
                  back = rw cut_said (then_both (λ n. truncation 0 im n) found.1 (fit_truncation 0 im found.0 packing.fit ∙ ap {B = Answer Truncated} done (sym packing.cut)));
                  digits = held.1;
                }

            -- and the one of the number that the column is unpacked to
            pub cut_read : done (cut_of negative p.digits x) ≡ mapped (truncated_to im) (halves_number column im hs)
            cut_read = ap {B = Answer Truncated} done (cut_said ∙ read_cut.2) ∙ sym (mapped_done (truncated_to im) read_cut.1)

-- A column that can be read.

-- an answer that is done is not refused
not_refused : {A B : Type 0} (a : Answer A) {number place : ℕ} → checked_only a ≡ done tt → a ≡ refused number place → B
unfolding checked_only
not_refused a h e = never_done (sym (ap checked_only e) ∙ h)

module _
    (im : Image) (column : ℕ) (hs : List ℕ) (checked : Checked im) (filled : length hs ≡ half_count im + pad_count im) (halves : Halves hs)
    (read : checked_only (halves_number column im hs) ≡ done tt) {p : ColumnHalves} (parts : PartsOf im hs p) where
  -- its parts have their form
  pub read_form : (all_digits (halves_in 16 p.digits) && eqb p.pad 0) ≡ true
  read_form = go (all_digits (halves_in 16 p.digits) && eqb p.pad 0) refl
    where
      go : (b : Bool) → (all_digits (halves_in 16 p.digits) && eqb p.pad 0) ≡ b → (all_digits (halves_in 16 p.digits) && eqb p.pad 0) ≡ true
      go true e = e
      go false e = not_refused (halves_number column im hs) read (refused_form im column hs checked filled halves parts e)

  -- |x| is that of its exponent's halves
  pub read_exponent : done (p.exponent / 16 * 10 + p.exponent % 16) ≡ read_on 0 (halves_of (p.exponent ∷ []))
  unfolding halves_of read_on
  read_exponent = go (ltb (p.exponent / 16) 10) (ltb (p.exponent % 16) 10) refl refl
    where
      bad : refused 7 0 ≡ read_on 0 (halves_of (p.exponent ∷ [])) → done (p.exponent / 16 * 10 + p.exponent % 16) ≡ read_on 0 (halves_of (p.exponent ∷ []))
      bad e = not_refused (halves_number column im hs) read (refused_exponent im column hs checked filled halves parts e)

      go :
          (a b : Bool) → ltb (p.exponent / 16) 10 ≡ a → ltb (p.exponent % 16) 10 ≡ b
          → done (p.exponent / 16 * 10 + p.exponent % 16) ≡ read_on 0 (halves_of (p.exponent ∷ []))
      go true true e f = rw (e, f) (ap {B = Answer ℕ} done (omega arith))
      go true false e f = bad (rw (e, f) refl)
      go false b e f = bad (rw e refl)

  module _ {size : ℕ} (sized : size ≡ p.exponent / 16 * 10 + p.exponent % 16) where
    -- the same by the code's value
    pub read_size : done size ≡ read_on 0 (halves_of (p.exponent ∷ []))
    read_size = ap {B = Answer ℕ} done sized ∙ read_exponent

    -- no rule is broken
    pub read_rules : breaks_rules im p.sign (whole_in (hashes im) p.digits) size ≡ false
    read_rules = go (breaks_rules im p.sign (whole_in (hashes im) p.digits) size) refl
      where
        go : (b : Bool) → breaks_rules im p.sign (whole_in (hashes im) p.digits) size ≡ b → breaks_rules im p.sign (whole_in (hashes im) p.digits) size ≡ false
        go false e = e
        go true e = not_refused (halves_number column im hs) read (refused_rules im column hs checked filled halves parts read_form read_size e)

    -- and the exponent is within its limits
    pub read_inside : outside im (said_by p.sign (whole_in (hashes im) p.digits) size).x ≡ false
    read_inside = go (outside im (said_by p.sign (whole_in (hashes im) p.digits) size).x) refl
      where
        go : (b : Bool) → outside im (said_by p.sign (whole_in (hashes im) p.digits) size).x ≡ b → outside im (said_by p.sign (whole_in (hashes im) p.digits) size).x ≡ false
        go false e = e
        go true e = not_refused (halves_number column im hs) read (refused_outside im column hs checked filled halves parts read_form read_size read_rules e)
