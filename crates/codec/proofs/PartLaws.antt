-- Laws of the readers of a text number's parts: what each takes of its own bytes, and that what it takes has its form.
-- Assumes nothing.
use Prim.Native.Nat.{ℕ, zero, suc, ◌+◌, ◌-◌, ◌<◌, ◌≤◌}
use mathlib.Core.Path.{◌≡◌, refl, ap, ap₂, sym, ◌∙◌}
use mathlib.Core.List.{List, [], ◌∷◌, ◌++◌, append-nil, append_assoc}
use mathlib.Core.Bool.{Bool, true, false}
use native.Mathlib.Omega.{arith}
use borrow.Author.Tests.{ltb-true, leb-true, eqb-true, lt-ltb, le-leb, ne_eqb}
use lib.Dec.{ltb, leb, eqb}
use lib.ListN.{length, drop, length-append}
use lib.Seq.{drop-append_seam, drop-drop}
use Rattle.decimal.specs.declared.image.Sign.{Sign}
use Rattle.decimal.specs.declared.image.Sign.TheVariants.{Unsigned, Plus, Minus}
use Rattle.decimal.specs.Answer.{pick}
use Rattle.decimal.specs.Digits.{Digits}
use Rattle.decimal.specs.Image.{leading_sign, plus_byte, minus_byte, point_byte, sign_bytes, times}
use Rattle.decimal.proofs.BoolLaws.{and_true}
use Rattle.decimal.proofs.ImageLaws.{times_length}
use Rattle.codec.specs.Alpha.{blank_byte, exponent_byte, zero_byte, digit_bytes}
use Rattle.codec.specs.Text.{SignPart, no_sign, plus_sign, minus_sign, sign_part_bytes, is_minus, has_minus, sign_part, sign_part_in, sign_part_length}
use Rattle.codec.specs.Text.{PointPart, no_point, point, ExponentPart, no_exponent, exponent, fraction_digits, point_bytes, power_bytes, PowerLegal}
use Rattle.codec.specs.Text.{blanks_in, is_digit, digits_in, sign_length, point_in, power_of, power_in}
use Rattle.codec.proofs.AlphaLaws.{digit_bytes_length}

-- Digits in a list of two parts.

-- the first part's
pub digits_left : (xs ys : List ℕ) → Digits (xs ++ ys) → Digits xs
unfolding Digits
digits_left [] ys h = tt
digits_left (x ∷ xs) ys h = (h.0, digits_left xs ys h.1)

-- the second part's
pub digits_right : (xs ys : List ℕ) → Digits (xs ++ ys) → Digits ys
unfolding Digits
digits_right [] ys h = h
digits_right (x ∷ xs) ys h = digits_right xs ys h.1

-- Bytes.

-- the byte of a digit is one
pub digit_byte : (d : ℕ) → d < 10 → is_digit (zero_byte + d) ≡ true
digit_byte d h = rw (le-leb zero_byte (zero_byte + d) (omega arith), lt-ltb (zero_byte + d) (zero_byte + 10) (omega arith))

-- What each reader takes of its part's bytes and of what follows.

-- blanks go on behind blanks
pub blanks_go : (n : ℕ) (r : List ℕ) → blanks_in (times n blank_byte ++ r) ≡ n + blanks_in r
unfolding times
blanks_go zero r = omega arith
blanks_go (suc n) r = let e = blanks_go n r in omega arith

-- digits go on behind digits
pub digits_go : (ds : List ℕ) → Digits ds → (most : ℕ) → length ds ≤ most → (r : List ℕ)
    → digits_in most (digit_bytes ds ++ r) ≡ ds ++ digits_in (most - length ds) r
unfolding digits_in digit_bytes Digits
digits_go [] h most le r = let e : most ≡ most - 0 = omega arith in ap (λ (n : ℕ). digits_in n r) e
digits_go (d ∷ ds) h zero le r = absurd (omega arith)
digits_go (d ∷ ds) h (suc most) le r =
    let same : zero_byte + d - zero_byte ≡ d = omega arith in
    let left : most - length ds ≡ suc most - length (d ∷ ds) = omega arith in
    rw (digit_byte d h.0)
    (ap₂ (λ (a : ℕ) (l : List ℕ). a ∷ l) same
    (digits_go ds h.1 most (omega arith) r ∙ ap (λ (n : ℕ). ds ++ digits_in n r) left))

-- there are none in no bytes
pub digits_empty : (most : ℕ) → digits_in most [] ≡ []
unfolding digits_in
digits_empty zero = refl
digits_empty (suc n) = refl

-- and none behind a byte below those of digits
digits_stop : (most b : ℕ) (r : List ℕ) → is_digit b ≡ false → digits_in most (b ∷ r) ≡ []
unfolding digits_in
digits_stop zero b r h = refl
digits_stop (suc n) b r h = rw h

-- What follows the digits of a legal text goes on with no digit and no point.
pub record Stops (r : List ℕ) : Type 0 where
  pub no_digits : (most : ℕ) → digits_in most r ≡ []
  pub no_point_lem : (most : ℕ) → point_in most r ≡ no_point

-- no bytes
pub stops_end : Stops []
unfolding point_in
stops_end = record { no_digits = digits_empty; no_point_lem = λ n. refl }

-- blanks
pub stops_blanks : (n : ℕ) (r : List ℕ) → Stops (times (suc n) blank_byte ++ r)
unfolding times point_in
stops_blanks n r = record { no_digits = λ most. digits_stop most blank_byte _ refl; no_point_lem = λ most. refl }

-- an exponent
pub stops_power : (sign : Sign) (ds r : List ℕ) → Stops (power_bytes (exponent sign ds) ++ r)
unfolding power_bytes point_in
stops_power sign ds r = record { no_digits = λ most. digits_stop most exponent_byte _ refl; no_point_lem = λ most. refl }

-- a byte that is neither a digit nor the point
pub stops_byte : (b : ℕ) (r : List ℕ) → is_digit b ≡ false → (b ≡ point_byte → ⊥) → Stops (b ∷ r)
unfolding point_in
stops_byte b r h other = record { no_digits = λ most. digits_stop most b r h; no_point_lem = λ most. rw (ne_eqb b point_byte other) }

-- A text's digits begin with neither a sign nor a blank.
pub record Starts (r : List ℕ) : Type 0 where
  pub no_sign : leading_sign r ≡ Unsigned
  pub no_blank : blanks_in r ≡ 0

-- a digit
starts_digit : (d : ℕ) (r : List ℕ) → Starts ((zero_byte + d) ∷ r)
unfolding leading_sign
starts_digit d r =
    record {
      no_sign = rw (ne_eqb (zero_byte + d) plus_byte (λ e. omega arith), ne_eqb (zero_byte + d) minus_byte (λ e. omega arith));
      no_blank = rw (ne_eqb (zero_byte + d) blank_byte (λ e. omega arith));
    }

-- some digits
pub starts_digits : (ds r : List ℕ) → 1 ≤ length ds → Starts (digit_bytes ds ++ r)
unfolding digit_bytes
starts_digits [] r h = absurd (omega arith)
starts_digits (d ∷ ds) r h = starts_digit d _

-- a point
pub starts_point : (ds r : List ℕ) → Starts (point_bytes (point ds) ++ r)
unfolding point_bytes leading_sign
starts_point ds r = record { no_sign = refl; no_blank = refl }

-- the digits and the point of a text that has some digit
pub starts_body : (ds : List ℕ) (f : PointPart) (r : List ℕ) → 1 ≤ length (ds ++ fraction_digits f) → Starts (digit_bytes ds ++ (point_bytes f ++ r))
unfolding fraction_digits digit_bytes
starts_body [] no_point r h = absurd (omega arith)
starts_body [] (point fs) r h = starts_point fs r
starts_body (d ∷ ds) f r h = starts_digit d _

-- a sign before such bytes is read
pub sign_go : (sign : Sign) (r : List ℕ) → Starts r → leading_sign (sign_bytes sign ++ r) ≡ sign
unfolding leading_sign sign_bytes
sign_go Unsigned r h = h.no_sign
sign_go Plus r h = refl
sign_go Minus r h = refl

-- a sign with no blank behind it is the sign alone
pub sign_alone : (sign : Sign) → sign_part_bytes (sign_part sign 0) ≡ sign_bytes sign
unfolding sign_part_bytes sign_part sign_bytes times
sign_alone Unsigned = refl
sign_alone Plus = refl
sign_alone Minus = refl

-- a sign with blanks behind it is a minus where the sign is one
pub part_minus : (sign : Sign) (blanks : ℕ) → has_minus (sign_part sign blanks) ≡ is_minus sign
unfolding has_minus is_minus sign_part
part_minus Unsigned blanks = refl
part_minus Plus blanks = refl
part_minus Minus blanks = refl

-- a sign and blanks before such bytes are read
pub sign_part_go : (sign : SignPart) (r : List ℕ) → Starts r → sign_part_in (sign_part_bytes sign ++ r) ≡ sign
unfolding sign_part_in sign_part_bytes sign_part leading_sign sign_bytes
sign_part_go no_sign r h = ap (λ (s : Sign). sign_part s (blanks_in (drop (sign_length s) r))) h.no_sign
sign_part_go (plus_sign n) r h = ap plus_sign (omega (arith, blanks_go n r, h.no_blank))
sign_part_go (minus_sign n) r h = ap minus_sign (omega (arith, blanks_go n r, h.no_blank))

-- and begin with no blank
pub sign_part_no_blank : (sign : SignPart) (r : List ℕ) → Starts r → blanks_in (sign_part_bytes sign ++ r) ≡ 0
unfolding sign_part_bytes
sign_part_no_blank no_sign r h = h.no_blank
sign_part_no_blank (plus_sign n) r h = refl
sign_part_no_blank (minus_sign n) r h = refl

-- digits behind a point go on
pub point_go : (ds : List ℕ) → Digits ds → (most : ℕ) → length ds ≤ most → (r : List ℕ)
    → point_in most (point_bytes (point ds) ++ r) ≡ point (ds ++ digits_in (most - length ds) r)
unfolding point_in point_bytes
point_go ds h most le r = ap {B = PointPart} point (digits_go ds h most le r)

-- an exponent that has a digit
power_some : (sign : Sign) (ds more : List ℕ) → 1 ≤ length ds → power_of sign (ds ++ more) ≡ exponent sign (ds ++ more)
unfolding power_of
power_some sign [] more h = absurd (omega arith)
power_some sign (d ∷ ds) more h = refl

-- digits behind E go on
pub power_go : (sign : Sign) (ds : List ℕ) → PowerLegal (exponent sign ds) → (r : List ℕ)
    → power_in (power_bytes (exponent sign ds) ++ r) ≡ exponent sign (ds ++ digits_in (2 - length ds) r)
unfolding power_in power_bytes PowerLegal
power_go sign ds h r =
    let q = digit_bytes ds ++ r in
    let signed = append_assoc (sign_bytes sign) (digit_bytes ds) r in
    let read = sign_go sign q (starts_digits ds r h.1.0) in
    rw (signed, read, drop-append_seam (sign_bytes sign) q, digits_go ds h.0 2 h.1.1 r)
    (power_some sign ds (digits_in (2 - length ds) r) h.1.0)

-- there is no exponent in no bytes
pub power_empty : power_in [] ≡ no_exponent
unfolding power_in
power_empty = refl

-- and none in blanks
pub power_blanks : (n : ℕ) (r : List ℕ) → power_in (times (suc n) blank_byte ++ r) ≡ no_exponent
unfolding power_in times
power_blanks n r = refl

-- Parts before what stops are read as they are.

-- a point is no digit
pub point_no_digit : (fs r : List ℕ) (most : ℕ) → digits_in most (point_bytes (point fs) ++ r) ≡ []
unfolding point_bytes
point_no_digit fs r most = digits_stop most point_byte _ refl

-- the digits before the point
pub point_no_digits : (f : PointPart) (r : List ℕ) → Stops r → (most : ℕ) → digits_in most (point_bytes f ++ r) ≡ []
unfolding point_bytes
point_no_digits no_point r h most = h.no_digits most
point_no_digits (point fs) r h most = point_no_digit fs r most

-- the point and the digits behind it
pub point_exact : (f : PointPart) → Digits (fraction_digits f) → (most : ℕ) → length (fraction_digits f) ≤ most → (r : List ℕ) → Stops r
    → point_in most (point_bytes f ++ r) ≡ f
unfolding point_bytes fraction_digits
point_exact no_point g most le r h = h.no_point_lem most
point_exact (point fs) g most le r h =
    point_go fs g most le r
    ∙ ap (λ (l : List ℕ). point (fs ++ l)) (h.no_digits (most - length fs))
    ∙ ap {B = PointPart} point (append-nil fs)

-- the exponent
pub power_exact : (sign : Sign) (ds : List ℕ) → PowerLegal (exponent sign ds) → (r : List ℕ) → Stops r
    → power_in (power_bytes (exponent sign ds) ++ r) ≡ exponent sign ds
power_exact sign ds g r h =
    power_go sign ds g r
    ∙ ap (λ (l : List ℕ). exponent sign (ds ++ l)) (h.no_digits (2 - length ds))
    ∙ ap (λ (l : List ℕ). exponent sign l) (append-nil ds)

-- Every part that is read stands at the front of the bytes, and is legal.

-- one byte more before blanks
front_blank : (b : ℕ) (bs : List ℕ) (n : ℕ) → times n blank_byte ++ drop n bs ≡ bs → (t : Bool) → eqb b blank_byte ≡ t
    → times (pick t (suc n) 0) blank_byte ++ drop (pick t (suc n) 0) (b ∷ bs) ≡ b ∷ bs
unfolding times
front_blank b bs n h true e = ap₂ (λ (a : ℕ) (l : List ℕ). a ∷ l) (sym (eqb-true b blank_byte e)) h
front_blank b bs n h false e = refl

-- blanks
pub blanks_read : (bs : List ℕ) → times (blanks_in bs) blank_byte ++ drop (blanks_in bs) bs ≡ bs
unfolding times
blanks_read [] = refl
blanks_read (b ∷ bs) = front_blank b bs (blanks_in bs) (blanks_read bs) (eqb b blank_byte) refl

-- digits at the front of bytes, at most so many
pub record Fronts (most : ℕ) (bs ds : List ℕ) : Type 0 where
  pub digits : Digits ds
  pub few : length ds ≤ most
  pub front : digit_bytes ds ++ drop (length ds) bs ≡ bs

-- no digits are at the front of all bytes
fronts_none : (most : ℕ) (bs : List ℕ) → Fronts most bs []
unfolding Digits digit_bytes
fronts_none most bs = record { digits = tt; few = omega arith; front = refl }

-- one byte more before digits
front_digit : (most b : ℕ) (bs ds : List ℕ) → Fronts most bs ds → (t : Bool) → is_digit b ≡ t → Fronts (suc most) (b ∷ bs) (pick t ((b - zero_byte) ∷ ds) [])
unfolding Digits digit_bytes
front_digit most b bs ds h true e =
    let both = and_true (leb zero_byte b) (ltb b (zero_byte + 10)) e in
    let low = leb-true zero_byte b both.0 in
    let high = ltb-true b (zero_byte + 10) both.1 in
    let back : zero_byte + (b - zero_byte) ≡ b = omega arith in
    record {
      digits = (omega arith, h.digits);
      few = omega (arith, h.few);
      front = ap₂ (λ (a : ℕ) (l : List ℕ). a ∷ l) back h.front;
    }
front_digit most b bs ds h false e = fronts_none (suc most) (b ∷ bs)

-- digits
pub digits_read : (most : ℕ) (bs : List ℕ) → Fronts most bs (digits_in most bs)
unfolding digits_in
digits_read zero bs = fronts_none zero bs
digits_read (suc n) [] = fronts_none (suc n) []
digits_read (suc n) (b ∷ bs) = front_digit n b bs (digits_in n bs) (digits_read n bs) (is_digit b) refl

-- the sign of a byte
front_sign : (b : ℕ) (bs : List ℕ) (plus minus : Bool) → eqb b plus_byte ≡ plus → eqb b minus_byte ≡ minus
    → sign_bytes (pick plus Plus (pick minus Minus Unsigned)) ++ drop (sign_length (pick plus Plus (pick minus Minus Unsigned))) (b ∷ bs) ≡ b ∷ bs
unfolding sign_bytes
front_sign b bs true minus e g = ap (λ (a : ℕ). a ∷ bs) (sym (eqb-true b plus_byte e))
front_sign b bs false true e g = ap (λ (a : ℕ). a ∷ bs) (sym (eqb-true b minus_byte g))
front_sign b bs false false e g = refl

-- the sign
pub sign_read : (bs : List ℕ) → sign_bytes (leading_sign bs) ++ drop (sign_length (leading_sign bs)) bs ≡ bs
unfolding leading_sign sign_bytes
sign_read [] = refl
sign_read (b ∷ bs) = front_sign b bs (eqb b plus_byte) (eqb b minus_byte) refl refl

-- blanks behind a sign
front_spaced : (sign : Sign) (bs r : List ℕ) (n : ℕ) → sign_bytes sign ++ r ≡ bs → times n blank_byte ++ drop n r ≡ r
    → sign_part_bytes (sign_part sign n) ++ drop (sign_part_length (sign_part sign n)) bs ≡ bs
unfolding sign_part_bytes sign_part sign_bytes
front_spaced Unsigned bs r n e h = refl
front_spaced Plus bs r n e h = rw (← e, times_length n blank_byte) (ap (λ (l : List ℕ). plus_byte ∷ l) h)
front_spaced Minus bs r n e h = rw (← e, times_length n blank_byte) (ap (λ (l : List ℕ). minus_byte ∷ l) h)

-- the sign and the blanks behind it
pub sign_part_read : (bs : List ℕ) → sign_part_bytes (sign_part_in bs) ++ drop (sign_part_length (sign_part_in bs)) bs ≡ bs
unfolding sign_part_in
sign_part_read bs =
    let r = drop (sign_length (leading_sign bs)) bs in
    front_spaced (leading_sign bs) bs r (blanks_in r) (sign_read bs) (blanks_read r)

-- a point with at most so many digits, or none, at the front of bytes
pub record PointFronts (most : ℕ) (bs : List ℕ) (f : PointPart) : Type 0 where
  pub digits : Digits (fraction_digits f)
  pub few : length (fraction_digits f) ≤ most
  pub front : point_bytes f ++ drop (length (point_bytes f)) bs ≡ bs

-- no point is at the front of all bytes
no_point_front : (most : ℕ) (bs : List ℕ) → PointFronts most bs no_point
unfolding Digits fraction_digits point_bytes
no_point_front most bs = record { digits = tt; few = omega arith; front = refl }

-- a byte before digits, which may be a point
front_point : (most b : ℕ) (bs ds : List ℕ) → Fronts most bs ds → (t : Bool) → eqb b point_byte ≡ t → PointFronts most (b ∷ bs) (pick t (point ds) no_point)
unfolding fraction_digits point_bytes
front_point most b bs ds h true e =
    record {
      digits = h.digits;
      few = h.few;
      front = rw (digit_bytes_length ds) (ap₂ (λ (a : ℕ) (l : List ℕ). a ∷ l) (sym (eqb-true b point_byte e)) h.front);
    }
front_point most b bs ds h false e = no_point_front most (b ∷ bs)

-- the point
pub point_read : (most : ℕ) (bs : List ℕ) → PointFronts most bs (point_in most bs)
unfolding point_in
point_read most [] = no_point_front most []
point_read most (b ∷ bs) = front_point most b bs (digits_in most bs) (digits_read most bs) (eqb b point_byte) refl

-- a legal exponent, or none, at the front of bytes
pub record PowerFronts (bs : List ℕ) (p : ExponentPart) : Type 0 where
  pub legal : PowerLegal p
  pub front : power_bytes p ++ drop (length (power_bytes p)) bs ≡ bs

-- no exponent is at the front of all bytes
no_power_front : (bs : List ℕ) → PowerFronts bs no_exponent
unfolding PowerLegal power_bytes
no_power_front bs = record { legal = tt; front = refl }

-- E, a sign and digits
behind_e : (b : ℕ) (bs : List ℕ) (sign : Sign) → sign_bytes sign ++ drop (sign_length sign) bs ≡ bs → (ds : List ℕ) → Fronts 2 (drop (sign_length sign) bs) ds
    → b ≡ exponent_byte → PowerFronts (b ∷ bs) (power_of sign ds)
unfolding power_of PowerLegal power_bytes
behind_e b bs sign s [] h e = no_power_front (b ∷ bs)
behind_e b bs sign s (d ∷ ds) h e =
    let q = drop (sign_length sign) bs in
    let l = d ∷ ds in
    let size : length (sign_bytes sign ++ digit_bytes l) ≡ sign_length sign + length l = length-append (sign_bytes sign) (digit_bytes l) ∙ ap (λ (n : ℕ). sign_length sign + n) (digit_bytes_length l) in
    let rest : drop (length (sign_bytes sign ++ digit_bytes l)) bs ≡ drop (length l) q =
    ap (λ (n : ℕ). drop n bs) size
    ∙ sym (drop-drop (length l) (sign_length sign) bs) in
    let whole : (sign_bytes sign ++ digit_bytes l) ++ drop (length (sign_bytes sign ++ digit_bytes l)) bs ≡ bs =
    ap (λ (r : List ℕ). (sign_bytes sign ++ digit_bytes l) ++ r) rest
    ∙ append_assoc (sign_bytes sign) (digit_bytes l) (drop (length l) q)
    ∙ ap (λ (r : List ℕ). sign_bytes sign ++ r) h.front
    ∙ s in
    record {
      legal = (h.digits, (omega arith, h.few));
      front = ap₂ (λ (a : ℕ) (r : List ℕ). a ∷ r) (sym e) whole;
    }

-- a byte before an exponent's sign and digits, which may be E
front_power : (b : ℕ) (bs : List ℕ) (p : ExponentPart) (t : Bool) → (eqb b exponent_byte ≡ true → PowerFronts (b ∷ bs) p) → eqb b exponent_byte ≡ t → PowerFronts (b ∷ bs) (pick t p no_exponent)
front_power b bs p true h e = h e
front_power b bs p false h e = no_power_front (b ∷ bs)

-- the exponent
pub power_read : (bs : List ℕ) → PowerFronts bs (power_in bs)
unfolding power_in
power_read [] = no_power_front []
power_read (b ∷ bs) =
    let sign = leading_sign bs in
    let r = drop (sign_length sign) bs in
    front_power b bs (power_of sign (digits_in 2 r)) (eqb b exponent_byte)
    (λ e. behind_e b bs sign (sign_read bs) (digits_in 2 r) (digits_read 2 r) (eqb-true b exponent_byte e))
    refl
