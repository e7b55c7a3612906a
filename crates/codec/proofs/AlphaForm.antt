-- Document 01, Alpha text: the alpha text of a number has the form of a text number, and converts to the number's truncation.
-- Assumes nothing.
use Prim.Native.Nat.{ℕ, zero, suc, ◌+◌, ◌-◌, ◌*◌, ◌/◌, ◌^◌, ◌<◌, ◌≤◌}
use mathlib.Core.Path.{◌≡◌, refl, ap, sym, subst⁻¹, ◌∙◌}
use mathlib.Core.List.{List, ◌∷◌, ◌++◌, append-nil}
use mathlib.Core.Bool.{Bool, true, false}
use native.Mathlib.Omega.{arith}
use borrow.Author.Tests.{ltb-true, ltb-false, lt-ltb, le-ltb}
use lib.Dec.{ltb}
use lib.ListN.{length}
use Rattle.decimal.specs.declared.image.Sign.{Sign}
use Rattle.decimal.specs.declared.image.Sign.TheVariants.{Unsigned, Plus, Minus}
use Rattle.decimal.specs.declared.image.Image.{Image}
use Rattle.decimal.specs.declared.number.Number.{Number}
use Rattle.decimal.specs.Answer.{done, pick}
use Rattle.decimal.specs.Digits.{precision, Digits, digits_of, value_of}
use Rattle.decimal.specs.Number.{exponent_limit, normal}
use Rattle.decimal.specs.Image.{plus_byte, minus_byte, hashes, sign_bytes, times}
use Rattle.decimal.specs.Truncation.{Truncated, truncation, truncated_to, is_signed, number_of}
use Rattle.decimal.proofs.DigitLaws.{digits_length, digits_split, digits_are_digits, value_of_digits}
use Rattle.decimal.proofs.TruncationLaws.{truncation_fit, truncation_done}
use Rattle.decimal.proofs.KeptLaws.{truncates_to_itself}
use Rattle.codec.specs.Packing.{exponent_size}
use Rattle.codec.specs.Alpha.{blank_byte, exponent_byte, digit_bytes, sign_text, fraction_text, exponent_text, alpha_text}
use Rattle.codec.specs.Text.{PointPart, no_point, point, ExponentPart, no_exponent, exponent, TextParts, HasForm, fraction_digits, all_digits_of, point_bytes, power_bytes, numeral_bytes, text_bytes, PowerLegal, is_minus, power_value, text_value, sign_part, convert_text}
use Rattle.codec.proofs.FitLaws.{whole_size, stored_top, fixed_stored}
use Rattle.codec.proofs.PartLaws.{sign_alone, part_minus}
use Rattle.codec.proofs.FormLaws.{converts_form}

-- The parts of an alpha text.

-- the blanks before it: one under − where the number is not negative
unfoldable pub alpha_blanks : Sign → Bool → ℕ
alpha_blanks Unsigned negative = 0
alpha_blanks Plus negative = 0
alpha_blanks Minus negative = pick negative 0 1

-- its sign
unfoldable pub alpha_sign : Sign → Bool → Sign
alpha_sign Unsigned negative = Unsigned
alpha_sign Plus negative = pick negative Minus Plus
alpha_sign Minus negative = pick negative Minus Unsigned

-- its point and the digits behind it
unfoldable pub alpha_point : ℕ → ℕ → PointPart
alpha_point zero whole = no_point
alpha_point (suc f) whole = point (digits_of (suc f) whole)

-- its exponent
unfoldable pub alpha_power : Bool → Truncated → ExponentPart
alpha_power false t = no_exponent
alpha_power true t = exponent (pick (ltb t.x exponent_limit) Minus Plus) (digits_of 2 (exponent_size t))

-- all parts; no blank stands behind its sign, and none behind it
unfoldable pub alpha_parts : Image → Truncated → TextParts
alpha_parts im t =
    record {
      before = alpha_blanks im.sign t.negative;
      sign = sign_part (alpha_sign im.sign t.negative) 0;
      numeral =
          record {
            integer = digits_of im.integer (t.whole / 10 ^ im.fraction);
            fraction = alpha_point im.fraction t.whole;
            power = alpha_power im.exponential t;
          };
      behind = 0;
    }

-- The form.

-- the sign's text is the blanks and the sign
sign_text_lem : (sign : Sign) (negative : Bool) (r : List ℕ)
    → sign_text sign negative ++ r ≡ times (alpha_blanks sign negative) blank_byte ++ (sign_bytes (alpha_sign sign negative) ++ r)
unfolding sign_text alpha_blanks alpha_sign times sign_bytes
sign_text_lem Unsigned negative r = refl
sign_text_lem Plus true r = refl
sign_text_lem Plus false r = refl
sign_text_lem Minus true r = refl
sign_text_lem Minus false r = refl

-- the text behind the integer digits is the point's
fraction_text_lem : (f whole : ℕ) → fraction_text f whole ≡ point_bytes (alpha_point f whole)
unfolding fraction_text point_bytes alpha_point
fraction_text_lem zero whole = refl
fraction_text_lem (suc f) whole = refl

-- the byte of the exponent's sign
power_sign : (below : Bool) (r : List ℕ) → pick below minus_byte plus_byte ∷ r ≡ sign_bytes (pick below Minus Plus) ++ r
unfolding sign_bytes
power_sign true r = refl
power_sign false r = refl

-- the text behind the digits is the exponent's
exponent_text_lem : (kind : Bool) (t : Truncated) → exponent_text kind t ≡ power_bytes (alpha_power kind t)
unfolding exponent_text power_bytes alpha_power
exponent_text_lem false t = refl
exponent_text_lem true t = ap (λ (l : List ℕ). exponent_byte ∷ l) (power_sign (ltb t.x exponent_limit) (digit_bytes (digits_of 2 (exponent_size t))))

-- the digits behind the point
fraction_digits_lem : (f whole : ℕ) → fraction_digits (alpha_point f whole) ≡ digits_of f whole
unfolding fraction_digits alpha_point digits_of
fraction_digits_lem zero whole = refl
fraction_digits_lem (suc f) whole = refl

-- all digits are the image's
alpha_digits : (im : Image) (t : Truncated) → all_digits_of (alpha_parts im t).numeral ≡ digits_of (hashes im) t.whole
unfolding alpha_parts
alpha_digits im t =
    ap (λ (l : List ℕ). digits_of im.integer (t.whole / 10 ^ im.fraction) ++ l) (fraction_digits_lem im.fraction t.whole)
    ∙ sym (digits_split im.integer im.fraction t.whole)

-- the exponent is legal
power_legal : (kind : Bool) (t : Truncated) → PowerLegal (alpha_power kind t)
unfolding PowerLegal alpha_power
power_legal false t = tt
power_legal true t =
    let size = digits_length 2 (exponent_size t) in
    (digits_are_digits 2 (exponent_size t), (omega arith, omega arith))

-- Published: the alpha text under an image of 1 to 13 # signs has the form of a text number.
pub alpha_form : (im : Image) (t : Truncated) → 0 < hashes im → hashes im ≤ precision → HasForm (alpha_text im t) (alpha_parts im t)
unfolding alpha_text numeral_bytes text_bytes alpha_parts times
alpha_form im t some few =
    let all = alpha_digits im t in
    let count : length (all_digits_of (alpha_parts im t).numeral) ≡ hashes im = ap length all ∙ digits_length (hashes im) t.whole in
    record {
      legal =
          record {
            digits = subst⁻¹ Digits all (digits_are_digits (hashes im) t.whole);
            some = omega arith;
            few = omega arith;
            powers = power_legal im.exponential t;
          };
      written =
          rw (fraction_text_lem im.fraction t.whole, exponent_text_lem im.exponential t, sign_alone (alpha_sign im.sign t.negative), append-nil)
          (sign_text_lem im.sign t.negative _);
    }

-- The value.

-- what a truncation is like
record Kept (im : Image) (t : Truncated) : Type 0 where
  some : 0 < hashes im
  few : hashes im ≤ precision
  below : t.whole < 10 ^ hashes im
  top : t.x ≤ 2 * exponent_limit
  fixed : im.exponential ≡ false → t.x ≡ exponent_limit
  unsigned : is_signed im.sign ≡ false → t.negative ≡ false

-- such is each truncation
truncation_kept : (im : Image) (n : Number) {t : Truncated} → truncation 0 im n ≡ done t → Kept im t
unfolding truncated_to
truncation_kept im n h =
    let fit = truncation_fit 0 im n h in
    subst⁻¹ (λ (t : Truncated). Kept im t) (truncation_done 0 im n h)
    (record {
      some = fit.nonempty;
      few = fit.size;
      below = whole_size im n fit;
      top = stored_top im n fit;
      fixed = fixed_stored im n;
      unsigned = λ e. rw e;
    })

-- the sign is the truncation's
alpha_minus : (sign : Sign) (negative : Bool) → (is_signed sign ≡ false → negative ≡ false) → is_minus (alpha_sign sign negative) ≡ negative
unfolding is_minus alpha_sign
alpha_minus Unsigned negative h = sym (h refl)
alpha_minus Plus true h = refl
alpha_minus Plus false h = refl
alpha_minus Minus true h = refl
alpha_minus Minus false h = refl

-- |x| where x is negative
size_below : (t : Truncated) → t.x < exponent_limit → exponent_size t ≡ exponent_limit - t.x
unfolding exponent_size
size_below t h = rw (lt-ltb t.x exponent_limit h)

-- |x| where it is not
size_above : (t : Truncated) → exponent_limit ≤ t.x → exponent_size t ≡ t.x - exponent_limit
unfolding exponent_size
size_above t h = rw (le-ltb t.x exponent_limit h)

-- the exponent's sign and |x| are x
signed_power : (t : Truncated) → t.x ≤ 2 * exponent_limit → (v : ℕ) → (exponent_size t < 10 ^ 2 → v ≡ exponent_size t) → (below : Bool) → ltb t.x exponent_limit ≡ below
    → pick (is_minus (pick below Minus Plus)) (exponent_limit - v) (exponent_limit + v) ≡ t.x
unfolding is_minus
signed_power t top v same true e =
    let less = ltb-true t.x exponent_limit e in
    let size = size_below t less in
    omega (arith, same (omega arith))
signed_power t top v same false e =
    let more = ltb-false t.x exponent_limit e in
    let size = size_above t more in
    omega (arith, same (omega arith))

-- the exponent is x
alpha_power_lem : (kind : Bool) (t : Truncated) → t.x ≤ 2 * exponent_limit → (kind ≡ false → t.x ≡ exponent_limit) → power_value (alpha_power kind t) ≡ t.x
unfolding power_value alpha_power
alpha_power_lem false t top fixed = sym (fixed refl)
alpha_power_lem true t top fixed =
    signed_power t top (value_of (digits_of 2 (exponent_size t))) (value_of_digits 2 (exponent_size t)) (ltb t.x exponent_limit) refl

-- the value of the parts is the truncation's number
alpha_value : (im : Image) (t : Truncated) → Kept im t → text_value (alpha_parts im t) ≡ number_of 0 im t
unfolding text_value number_of alpha_parts
alpha_value im t kept =
    rw (
      part_minus (alpha_sign im.sign t.negative) 0,
      alpha_minus im.sign t.negative kept.unsigned,
      alpha_power_lem im.exponential t kept.top kept.fixed,
      alpha_digits im t,
      value_of_digits (hashes im) t.whole kept.below,
      fraction_digits_lem im.fraction t.whole,
      digits_length im.fraction t.whole,
    )

-- Published: an alpha text converts to the truncation that it was written for.
pub alpha_back : (im : Image) (n : Number) {t : Truncated} → truncation 0 im n ≡ done t → convert_text (alpha_text im t) ≡ number_of 0 im t
alpha_back im n {t} h =
    let kept = truncation_kept im n h in
    converts_form (alpha_form im t kept.some kept.few) ∙ alpha_value im t kept

-- what an alpha text converts to: a number in normal form that has the same truncation
pub record ReadBack (im : Image) (t : Truncated) : Type 0 where
  pub number : Number
  pub converts : convert_text (alpha_text im t) ≡ done number
  pub is_normal : normal number ≡ true
  pub again : truncation 0 im number ≡ done t

-- Published: each alpha text is read back.
pub alpha_reads_back : (im : Image) (n : Number) {t : Truncated} → truncation 0 im n ≡ done t → ReadBack im t
alpha_reads_back im n h =
    let itself = truncates_to_itself 0 im n h in
    record { number = itself.number; converts = alpha_back im n h ∙ itself.stands_for; is_normal = itself.is_normal; again = itself.again }
