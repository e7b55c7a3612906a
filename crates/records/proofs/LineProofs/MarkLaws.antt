-- Laws of marks: document 01's are valid, what reading under valid marks drops and keeps, and the decimal mark in an alpha text.
-- Assumes nothing.
use Prim.Native.Nat.{ℕ, zero, suc, ◌+◌, ◌/◌, ◌^◌, ◌<◌}
use mathlib.Core.Path.{◌≡◌, refl, ap, sym, ◌∙◌}
use mathlib.Core.List.{List, [], ◌∷◌, ◌++◌, append_assoc}
use mathlib.Core.Bool.{Bool, true, false, ◌||◌}
use native.Mathlib.Omega.{arith}
use borrow.Author.Tests.{eq-eqb, ne_eqb, eqb-true}
use lib.Dec.{eqb, ltb}
use lib.ListN.{length, set, length-append}
use lib.Seq.{set_at}
use Rattle.decimal.specs.declared.image.Sign.{Sign}
use Rattle.decimal.specs.declared.image.Sign.TheVariants.{Unsigned, Plus, Minus}
use Rattle.decimal.specs.declared.image.Image.{Image}
use Rattle.decimal.specs.Answer.{pick}
use Rattle.decimal.specs.Digits.{digits_of}
use Rattle.decimal.specs.Number.{exponent_limit}
use Rattle.decimal.specs.Image.{plus_byte, minus_byte, point_byte, comma_byte}
use Rattle.decimal.specs.Truncation.{Truncated}
use Rattle.decimal.proofs.DigitLaws.{digits_length}
use Rattle.codec.specs.Columns.{sign_count}
use Rattle.codec.specs.Packing.{exponent_size}
use Rattle.codec.specs.Alpha.{blank_byte, zero_byte, exponent_byte, digit_bytes, sign_text, fraction_text, exponent_text, alpha_text, tail_length, text_length}
use Rattle.codec.proofs.AlphaLaws.{fraction_some, digit_bytes_length}
use Rattle.records.specs.declared.lines.marks.Marks.{Marks}
use Rattle.records.specs.Lines.Marks.{document_marks, ValidMarks, with_decimal, is_dropped, read_byte, without_marks}
use Rattle.records.specs.Lines.Fields.{point_place, point_marked}

-- Published: document 01's marks are valid.
pub document_valid : ValidMarks document_marks
document_valid =
    record {
      decimal_byte =
          record {
            no_digit = λ d h e. omega arith;
            no_plus = λ e. omega arith;
            no_minus = λ e. omega arith;
            no_hash = λ e. omega arith;
            no_exponent_lem = λ e. omega arith;
          };
      thousands_byte =
          record {
            no_digit = λ d h e. omega arith;
            no_plus = λ e. omega arith;
            no_minus = λ e. omega arith;
            no_hash = λ e. omega arith;
            no_exponent_lem = λ e. omega arith;
          };
      filling_byte =
          record {
            no_digit = λ d h e. omega arith;
            no_plus = λ e. omega arith;
            no_minus = λ e. omega arith;
            no_hash = λ e. omega arith;
            no_exponent_lem = λ e. omega arith;
          };
      decimal_thousands = λ e. omega arith;
      decimal_filling = λ e. omega arith;
      thousands_filling = λ e. omega arith;
      decimal_blank = λ e. omega arith;
    }

-- Published: with document 01's marks blanks and commas are dropped, and any other byte is kept.
pub document_reading : (b : ℕ) (bs : List ℕ)
    → without_marks document_marks (b ∷ bs)
    ≡ pick (eqb b blank_byte) (without_marks document_marks bs) (pick (eqb b comma_byte) (without_marks document_marks bs) (b ∷ without_marks document_marks bs))
unfolding without_marks is_dropped read_byte
document_reading b bs = go (eqb b blank_byte) (eqb b comma_byte) (eqb b point_byte) refl
  where
    rest : List ℕ
    rest = without_marks document_marks bs

    go : (x y z : Bool) → eqb b point_byte ≡ z
        → pick (x || (x || y)) rest (pick z point_byte (pick z 0 b) ∷ rest) ≡ pick x rest (pick y rest (b ∷ rest))
    go true y z e = refl
    go false true z e = refl
    go false false true e = ap (λ (c : ℕ). c ∷ rest) (sym (eqb-true b point_byte e))
    go false false false e = refl

-- Published: and an alpha text is printed as it is.
pub document_decimal : (bs : List ℕ) → with_decimal document_marks bs ≡ bs
unfolding with_decimal
document_decimal [] = refl
document_decimal (b ∷ bs) = λ i. go (eqb b point_byte) refl i ∷ document_decimal bs i
  where
    go : (t : Bool) → eqb b point_byte ≡ t → pick t point_byte b ≡ b
    go true e = sym (eqb-true b point_byte e)
    go false e = refl

-- What reading drops and keeps.

-- one of three tests
any_second : (a b : Bool) → (a || (true || b)) ≡ true
any_second true b = refl
any_second false b = refl

any_third : (a b : Bool) → (a || (b || true)) ≡ true
any_third true b = refl
any_third false true = refl
any_third false false = refl

module _ (m : Marks) (r : List ℕ) where
  -- a blank is dropped
  pub drops_blank : without_marks m (blank_byte ∷ r) ≡ without_marks m r
  unfolding without_marks is_dropped
  drops_blank = refl

  -- a filling byte is
  pub drops_filling : without_marks m (m.filling ∷ r) ≡ without_marks m r
  unfolding without_marks is_dropped
  drops_filling = rw (eq-eqb m.filling m.filling refl, any_second (eqb m.filling blank_byte) (eqb m.filling m.thousands))

  -- a thousands mark is
  pub drops_thousands : without_marks m (m.thousands ∷ r) ≡ without_marks m r
  unfolding without_marks is_dropped
  drops_thousands = rw (eq-eqb m.thousands m.thousands refl, any_third (eqb m.thousands blank_byte) (eqb m.thousands m.filling))

module _ {m : Marks} (valid : ValidMarks m) (r : List ℕ) where
  -- a byte that is no blank, no mark and no point is kept
  keeps : (b : ℕ) → (b ≡ blank_byte → ⊥) → (b ≡ point_byte → ⊥) → (b ≡ m.filling → ⊥) → (b ≡ m.thousands → ⊥) → (b ≡ m.decimal → ⊥)
      → without_marks m (b ∷ r) ≡ b ∷ without_marks m r
  unfolding without_marks is_dropped read_byte
  keeps b blank point filling thousands decimal =
      rw (ne_eqb b blank_byte blank, ne_eqb b m.filling filling, ne_eqb b m.thousands thousands, ne_eqb b m.decimal decimal, ne_eqb b point_byte point)

  -- so is a digit
  pub keeps_digit : (d : ℕ) → d < 10 → without_marks m ((zero_byte + d) ∷ r) ≡ (zero_byte + d) ∷ without_marks m r
  keeps_digit d h =
      keeps (zero_byte + d)
      (λ e. omega arith)
      (λ e. omega arith)
      (λ e. valid.filling_byte.no_digit d h (sym e))
      (λ e. valid.thousands_byte.no_digit d h (sym e))
      (λ e. valid.decimal_byte.no_digit d h (sym e))

  -- a sign
  pub keeps_plus : without_marks m (plus_byte ∷ r) ≡ plus_byte ∷ without_marks m r
  keeps_plus =
      keeps plus_byte
      (λ e. omega arith)
      (λ e. omega arith)
      (λ e. valid.filling_byte.no_plus (sym e))
      (λ e. valid.thousands_byte.no_plus (sym e))
      (λ e. valid.decimal_byte.no_plus (sym e))

  pub keeps_minus : without_marks m (minus_byte ∷ r) ≡ minus_byte ∷ without_marks m r
  keeps_minus =
      keeps minus_byte
      (λ e. omega arith)
      (λ e. omega arith)
      (λ e. valid.filling_byte.no_minus (sym e))
      (λ e. valid.thousands_byte.no_minus (sym e))
      (λ e. valid.decimal_byte.no_minus (sym e))

  -- E
  pub keeps_exponent : without_marks m (exponent_byte ∷ r) ≡ exponent_byte ∷ without_marks m r
  keeps_exponent =
      keeps exponent_byte
      (λ e. omega arith)
      (λ e. omega arith)
      (λ e. valid.filling_byte.no_exponent_lem (sym e))
      (λ e. valid.thousands_byte.no_exponent_lem (sym e))
      (λ e. valid.decimal_byte.no_exponent_lem (sym e))

  -- the decimal mark is kept as the point
  pub keeps_decimal : without_marks m (m.decimal ∷ r) ≡ point_byte ∷ without_marks m r
  unfolding without_marks is_dropped read_byte
  keeps_decimal =
      rw (
        ne_eqb m.decimal blank_byte valid.decimal_blank,
        ne_eqb m.decimal m.filling valid.decimal_filling,
        ne_eqb m.decimal m.thousands valid.decimal_thousands,
        eq-eqb m.decimal m.decimal refl,
      )

-- The decimal mark in an alpha text.

module _ (m : Marks) where
  -- the text keeps its length
  pub decimal_length : (bs : List ℕ) → length (with_decimal m bs) ≡ length bs
  unfolding with_decimal
  decimal_length [] = refl
  decimal_length (b ∷ bs) = ap suc (decimal_length bs)

  -- in two parts
  pub decimal_append : (xs ys : List ℕ) → with_decimal m (xs ++ ys) ≡ with_decimal m xs ++ with_decimal m ys
  unfolding with_decimal
  decimal_append [] ys = refl
  decimal_append (b ∷ xs) ys = ap (λ (l : List ℕ). pick (eqb b point_byte) m.decimal b ∷ l) (decimal_append xs ys)

  -- digits have no point
  pub decimal_digits : (ds : List ℕ) → with_decimal m (digit_bytes ds) ≡ digit_bytes ds
  unfolding with_decimal digit_bytes
  decimal_digits [] = refl
  decimal_digits (d ∷ ds) = rw (ne_eqb (zero_byte + d) point_byte (λ e. omega arith), decimal_digits ds)

  -- a sign has none
  pub decimal_sign : (s : Sign) (negative : Bool) → with_decimal m (sign_text s negative) ≡ sign_text s negative
  unfolding with_decimal sign_text
  decimal_sign Unsigned negative = refl
  decimal_sign Plus true = refl
  decimal_sign Plus false = refl
  decimal_sign Minus true = refl
  decimal_sign Minus false = refl

  -- an exponent has none
  pub decimal_exponent : (kind : Bool) (t : Truncated) → with_decimal m (exponent_text kind t) ≡ exponent_text kind t
  unfolding with_decimal exponent_text
  decimal_exponent false t = refl
  decimal_exponent true t = go (ltb t.x exponent_limit)
    where
      ds : List ℕ
      ds = digit_bytes (digits_of 2 (exponent_size t))

      go : (b : Bool) → with_decimal m (exponent_byte ∷ (pick b minus_byte plus_byte ∷ ds)) ≡ exponent_byte ∷ (pick b minus_byte plus_byte ∷ ds)
      go true = ap (λ (l : List ℕ). exponent_byte ∷ (minus_byte ∷ l)) (decimal_digits (digits_of 2 (exponent_size t)))
      go false = ap (λ (l : List ℕ). exponent_byte ∷ (plus_byte ∷ l)) (decimal_digits (digits_of 2 (exponent_size t)))

  -- the point becomes the decimal mark
  pub decimal_point : (bs : List ℕ) → with_decimal m (point_byte ∷ bs) ≡ m.decimal ∷ with_decimal m bs
  unfolding with_decimal
  decimal_point bs = refl

-- The parts of an alpha text: what stands before the point, and what stands behind it.

abbrev front_text : Image → Truncated → List ℕ
front_text im t = sign_text im.sign t.negative ++ digit_bytes (digits_of im.integer (t.whole / 10 ^ im.fraction))

abbrev back_text : Image → Truncated → List ℕ
back_text im t = digit_bytes (digits_of im.fraction t.whole) ++ exponent_text im.exponential t

-- the sign's text has the sign's length
sign_length_lem : (s : Sign) (negative : Bool) → length (sign_text s negative) ≡ sign_count s
unfolding sign_text
sign_length_lem Unsigned negative = refl
sign_length_lem Plus negative = refl
sign_length_lem Minus negative = refl

-- the point stands behind the sign and the digits before it
front_length : (im : Image) (t : Truncated) → length (front_text im t) ≡ point_place im
unfolding point_place
front_length im t =
    let ds = digits_of im.integer (t.whole / 10 ^ im.fraction) in
    omega (
      arith,
      length-append (sign_text im.sign t.negative) (digit_bytes ds),
      sign_length_lem im.sign t.negative,
      digit_bytes_length ds,
      digits_length im.integer (t.whole / 10 ^ im.fraction),
    )

-- it stands in the text
pub point_inside : (im : Image) → (im.fraction ≡ 0 → ⊥) → point_place im < text_length im
unfolding point_place text_length tail_length
point_inside im some = omega (arith, fraction_some im.fraction some)

-- a text with no point
text_plain : (im : Image) (t : Truncated) → im.fraction ≡ 0 → alpha_text im t ≡ front_text im t ++ exponent_text im.exponential t
unfolding alpha_text fraction_text
text_plain im t e =
    let sign = sign_text im.sign t.negative in
    let ds = digit_bytes (digits_of im.integer (t.whole / 10 ^ im.fraction)) in
    ap (λ (f : ℕ). sign ++ (ds ++ (fraction_text f t.whole ++ exponent_text im.exponential t))) e
    ∙ sym (append_assoc sign ds (exponent_text im.exponential t))

-- a text with a point
text_pointed : (im : Image) (t : Truncated) → (im.fraction ≡ 0 → ⊥) → alpha_text im t ≡ front_text im t ++ point_byte ∷ back_text im t
unfolding alpha_text fraction_text
text_pointed im t some = go im.fraction refl
  where
    go : (f : ℕ) → im.fraction ≡ f → alpha_text im t ≡ front_text im t ++ point_byte ∷ back_text im t
    go zero e = absurd (some e)
    go (suc f) e =
        let sign = sign_text im.sign t.negative in
        let ds = digit_bytes (digits_of im.integer (t.whole / 10 ^ im.fraction)) in
        let power = exponent_text im.exponential t in
        ap (λ (k : ℕ). sign ++ (ds ++ (fraction_text k t.whole ++ power))) e
        ∙ sym (append_assoc sign ds ((point_byte ∷ digit_bytes (digits_of (suc f) t.whole)) ++ power))
        ∙ ap (λ (k : ℕ). (sign ++ ds) ++ ((point_byte ∷ digit_bytes (digits_of k t.whole)) ++ power)) (sym e)

module _ (m : Marks) (im : Image) (t : Truncated) where
  -- what stands before the point stays
  decimal_front : with_decimal m (front_text im t) ≡ front_text im t
  decimal_front =
      let sign = sign_text im.sign t.negative in
      let ds = digits_of im.integer (t.whole / 10 ^ im.fraction) in
      decimal_append m sign (digit_bytes ds) ∙ (λ i. decimal_sign m im.sign t.negative i ++ decimal_digits m ds i)

  -- what stands behind it stays
  decimal_back : with_decimal m (back_text im t) ≡ back_text im t
  decimal_back =
      let ds = digits_of im.fraction t.whole in
      decimal_append m (digit_bytes ds) (exponent_text im.exponential t)
      ∙ (λ i. decimal_digits m ds i ++ decimal_exponent m im.exponential t i)

  -- a text with no point stays
  decimal_plain : im.fraction ≡ 0 → with_decimal m (alpha_text im t) ≡ alpha_text im t
  decimal_plain e =
      ap (with_decimal m) (text_plain im t e)
      ∙ decimal_append m (front_text im t) (exponent_text im.exponential t)
      ∙ (λ i. decimal_front i ++ decimal_exponent m im.exponential t i)
      ∙ sym (text_plain im t e)

  -- the point of a text is its decimal mark
  decimal_pointed : (im.fraction ≡ 0 → ⊥) → with_decimal m (alpha_text im t) ≡ front_text im t ++ m.decimal ∷ back_text im t
  decimal_pointed some =
      ap (with_decimal m) (text_pointed im t some)
      ∙ decimal_append m (front_text im t) (point_byte ∷ back_text im t)
      ∙ ap (λ (l : List ℕ). with_decimal m (front_text im t) ++ l) (decimal_point m (back_text im t))
      ∙ (λ i. decimal_front i ++ m.decimal ∷ decimal_back i)

-- a text with its point marked is the text with the decimal mark
pub point_marked_lem : (m : Marks) (im : Image) (t : Truncated) → point_marked m im (alpha_text im t) ≡ with_decimal m (alpha_text im t)
unfolding point_marked
point_marked_lem m im t = go im.fraction refl
  where
    go : (f : ℕ) → im.fraction ≡ f
        → pick (eqb im.fraction 0) (alpha_text im t) (set (alpha_text im t) (point_place im) m.decimal) ≡ with_decimal m (alpha_text im t)
    go zero e = rw (eq-eqb im.fraction 0 e) (sym (decimal_plain m im t e))
    go (suc f) e =
        let some : im.fraction ≡ 0 → ⊥ = λ z. omega arith in
        rw (ne_eqb im.fraction 0 some)
        (ap (λ (l : List ℕ). set l (point_place im) m.decimal) (text_pointed im t some)
        ∙ set_at (front_text im t) point_byte (back_text im t) m.decimal (point_place im) (front_length im t)
        ∙ sym (decimal_pointed m im t some))
