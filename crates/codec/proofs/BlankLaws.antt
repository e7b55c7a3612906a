-- Document 01: "No blank stands inside", and document 02, (v): ".. nowhere else inside": how often a byte stands in a text number. One that is
-- no digit, no sign, no point and no E stands nowhere but where blanks do. Assumes nothing.
use Prim.Native.Nat.{ℕ, zero, suc, ◌+◌, ◌<◌}
use mathlib.Core.Path.{◌≡◌, refl, ap, sym, ◌∙◌}
use mathlib.Core.List.{List, [], ◌∷◌, ◌++◌}
use mathlib.Core.Bool.{Bool, true, false}
use native.Mathlib.Omega.{arith}
use borrow.Author.Tests.{ne_eqb}
use lib.Dec.{eqb}
use Rattle.decimal.specs.declared.image.Sign.{Sign}
use Rattle.decimal.specs.declared.image.Sign.TheVariants.{Unsigned, Plus, Minus}
use Rattle.decimal.specs.Answer.{pick}
use Rattle.decimal.specs.Image.{plus_byte, minus_byte, point_byte, sign_bytes, times}
use Rattle.codec.specs.Alpha.{blank_byte, zero_byte, exponent_byte, digit_bytes}
use Rattle.codec.specs.Text.{SignPart, no_sign, plus_sign, minus_sign, PointPart, no_point, point, ExponentPart, no_exponent, exponent, NumeralParts, TextParts}
use Rattle.codec.specs.Text.{HasForm, sign_part_bytes, point_bytes, power_bytes, numeral_bytes, text_bytes}
use Rattle.codec.specs.StrictText.{StrictForm, byte_count, sign_blanks}

-- in two parts
pub count_append : (x : ℕ) (xs ys : List ℕ) → byte_count x (xs ++ ys) ≡ byte_count x xs + byte_count x ys
unfolding byte_count
count_append x [] ys = omega arith
count_append x (b ∷ bs) ys = go (eqb b x) (count_append x bs ys)
  where
    go : (t : Bool)
        → byte_count x (bs ++ ys) ≡ byte_count x bs + byte_count x ys
        → pick t (suc (byte_count x (bs ++ ys))) (byte_count x (bs ++ ys)) ≡ pick t (suc (byte_count x bs)) (byte_count x bs) + byte_count x ys
    go true h = omega arith
    go false h = h

-- blanks alone
pub count_blanks : (n : ℕ) → byte_count blank_byte (times n blank_byte) ≡ n
unfolding times byte_count
count_blanks zero = refl
count_blanks (suc n) = ap suc (count_blanks n)

-- a byte below the digits that is no sign and no point
pub record Foreign (x : ℕ) : Type 0 where
  pub below : x < zero_byte
  pub no_plus : x ≡ plus_byte → ⊥
  pub no_minus : x ≡ minus_byte → ⊥
  pub no_point_lem : x ≡ point_byte → ⊥

module _ {x : ℕ} (f : Foreign x) where
  -- it is no digit
  pub none_digits : (ds : List ℕ) → byte_count x (digit_bytes ds) ≡ 0
  unfolding byte_count digit_bytes
  none_digits [] = refl
  none_digits (d ∷ ds) = let low = f.below in rw (ne_eqb (zero_byte + d) x (λ e. omega arith)) (none_digits ds)

  -- no sign
  none_sign : (s : Sign) → byte_count x (sign_bytes s) ≡ 0
  unfolding byte_count sign_bytes
  none_sign Unsigned = refl
  none_sign Plus = rw (ne_eqb plus_byte x (λ e. f.no_plus (sym e)))
  none_sign Minus = rw (ne_eqb minus_byte x (λ e. f.no_minus (sym e)))

  -- no point
  none_point : (p : PointPart) → byte_count x (point_bytes p) ≡ 0
  unfolding byte_count point_bytes
  none_point no_point = refl
  none_point (point ds) = rw (ne_eqb point_byte x (λ e. f.no_point_lem (sym e))) (none_digits ds)

  -- no part of an exponent
  none_power : (p : ExponentPart) → byte_count x (power_bytes p) ≡ 0
  unfolding byte_count power_bytes
  none_power no_exponent = refl
  none_power (exponent s ds) =
      let low = f.below in
      let sum : byte_count x (sign_bytes s ++ digit_bytes ds) ≡ 0 = omega (arith, count_append x (sign_bytes s) (digit_bytes ds), none_sign s, none_digits ds) in
      rw (ne_eqb exponent_byte x (λ e. omega arith)) sum

  -- so that it stands in no numeral
  pub none_numeral : (u : NumeralParts) → byte_count x (numeral_bytes u) ≡ 0
  unfolding numeral_bytes
  none_numeral u = simp (count_append x) (omega (arith, none_digits u.integer, none_point u.fraction, none_power u.power))

  -- behind a sign it stands among the blanks alone
  count_sign : (s : SignPart) → byte_count x (sign_part_bytes s) ≡ byte_count x (times (sign_blanks s) blank_byte)
  unfolding byte_count sign_part_bytes sign_blanks times
  count_sign no_sign = refl
  count_sign (plus_sign n) = rw (ne_eqb plus_byte x (λ e. f.no_plus (sym e)))
  count_sign (minus_sign n) = rw (ne_eqb minus_byte x (λ e. f.no_minus (sym e)))

  -- in a text it stands where blanks do: before it, behind its sign and behind it
  pub count_text : (t : TextParts)
      → byte_count x (text_bytes t)
      ≡ byte_count x (times t.before blank_byte)
      + (byte_count x (times (sign_blanks t.sign) blank_byte) + byte_count x (times t.behind blank_byte))
  unfolding text_bytes
  count_text t = simp (count_append x) (omega (arith, count_sign t.sign, none_numeral t.numeral))

-- a blank is such a byte
pub foreign_blank : Foreign blank_byte
foreign_blank = record { below = omega arith; no_plus = λ e. omega arith; no_minus = λ e. omega arith; no_point_lem = λ e. omega arith }

-- Published: a text has no blanks but those before it, right behind its sign and behind it.
pub form_blanks : {bytes : List ℕ} {t : TextParts} → HasForm bytes t → byte_count blank_byte bytes ≡ t.before + (sign_blanks t.sign + t.behind)
form_blanks {bytes} {t} form =
    omega (
      arith,
      ap (byte_count blank_byte) form.written,
      count_text foreign_blank t,
      count_blanks t.before,
      count_blanks (sign_blanks t.sign),
      count_blanks t.behind,
    )

-- Published: one of document 01's form has none but those before it and behind it.
pub strict_blanks : {bytes : List ℕ} (f : StrictForm bytes) → byte_count blank_byte bytes ≡ f.before + f.behind
strict_blanks {bytes} f =
    ap (byte_count blank_byte) f.written
    ∙ simp (count_append blank_byte)
    (omega (arith, count_blanks f.before, none_sign foreign_blank f.sign, none_numeral foreign_blank f.numeral, count_blanks f.behind))
