-- Document 01, Alpha text: the legal length is that of the longest beginning that has the form of a text number, 0 if none.
-- A beginning that has the form is compared with what is read, from its last part to its first. Assumes nothing.
use Prim.Native.Nat.{ℕ, zero, suc, ◌+◌, ◌-◌, ◌≤◌}
use mathlib.Core.Path.{◌≡◌, refl, ap, sym, subst, ◌∙◌}
use mathlib.Core.Logic.{◌⊎◌, inl, inr, ⊎_elim}
use mathlib.Core.List.{List, [], ◌++◌, append-nil}
use native.Mathlib.Nat.{le_antisymm}
use native.Mathlib.Omega.{arith}
use lib.ListN.{length, take, drop, length-append, take-append-drop}
use lib.Seq.{length-take-le, drop_at, drop-append_seam, drop-drop}
use Rattle.decimal.specs.declared.image.Sign.{Sign}
use Rattle.decimal.specs.Answer.{refused}
use Rattle.decimal.specs.Digits.{precision, Digits}
use Rattle.decimal.specs.Image.{sign_bytes, times}
use Rattle.decimal.proofs.BoolLaws.{zero_or_not}
use Rattle.codec.specs.Alpha.{blank_byte, digit_bytes}
use Rattle.codec.specs.Text.{SignPart, PointPart, no_point, point, ExponentPart, no_exponent, exponent, NumeralParts, TextParts, Legal, HasForm, LongestOf, LongestForm}
use Rattle.codec.specs.Text.{fraction_digits, all_digits_of, point_bytes, power_bytes, numeral_bytes, text_bytes, PowerLegal}
use Rattle.codec.specs.Text.{blanks_in, digits_in, sign_length, sign_part_in, sign_part_length, point_in, power_in, numeral_in, parts_in, TextReading, no_reading, reading_in, legal_length, convert_text}
use Rattle.codec.proofs.AlphaLaws.{digit_bytes_length}
use Rattle.codec.proofs.PartLaws.{digits_left, digits_right, blanks_go, digits_go, point_go, power_go}
use Rattle.codec.proofs.PartLaws.{Stops, stops_blanks, stops_power, power_blanks}
use Rattle.codec.proofs.PartLaws.{point_no_digit, point_exact, power_exact}
use Rattle.codec.proofs.FormLaws.{numeral_append, front_reads, text_front, form_of_parts, converts_form}
use Rattle.codec.proofs.TextLaws.{numeral_length, text_length_lem, point_long, legal_none, legal_some, reading_empty, reading_number, convert_whole}

-- How many bytes are read from each part on.

-- an exponent and the blanks behind it
unfoldable power_tail : ExponentPart → List ℕ → ℕ
power_tail p bs = length (power_bytes p) + blanks_in (drop (length (power_bytes p)) bs)

-- a point and what is behind it
unfoldable point_tail : PointPart → List ℕ → ℕ
point_tail f bs =
    let powered : List ℕ = drop (length (point_bytes f)) bs in
    length (point_bytes f) + power_tail (power_in powered) powered

-- integer digits and what is behind them
unfoldable digits_tail : List ℕ → List ℕ → ℕ
digits_tail ds bs =
    let pointed : List ℕ = drop (length ds) bs in
    length ds + point_tail (point_in (precision - length ds) pointed) pointed

-- and how many digits are read
unfoldable digits_count : List ℕ → List ℕ → ℕ
digits_count ds bs = length ds + length (fraction_digits (point_in (precision - length ds) (drop (length ds) bs)))

-- a numeral and the blanks behind it
unfoldable numeral_tail : List ℕ → ℕ
numeral_tail bs = length (numeral_bytes (numeral_in bs)) + blanks_in (drop (length (numeral_bytes (numeral_in bs))) bs)

-- it is that of the numeral's parts
numeral_tail_lem : (bs : List ℕ) → numeral_tail bs ≡ digits_tail (digits_in precision bs) bs
unfolding numeral_tail numeral_in power_tail point_tail digits_tail
numeral_tail_lem bs =
    let u = numeral_in bs in
    let i = length u.integer in
    let f = length (point_bytes u.fraction) in
    let p = length (power_bytes u.power) in
    let size : length (numeral_bytes u) ≡ i + f + p = omega (arith, numeral_length u) in
    let left : drop (length (numeral_bytes u)) bs ≡ drop p (drop f (drop i bs)) =
    ap (λ (n : ℕ). drop n bs) size
    ∙ sym (drop-drop p (i + f) bs)
    ∙ ap (λ (l : List ℕ). drop p l) (sym (drop-drop f i bs)) in
    omega (arith, size, ap blanks_in left)

-- and how many digits it has
numeral_count : (bs : List ℕ) → length (all_digits_of (numeral_in bs)) ≡ digits_count (digits_in precision bs) bs
unfolding numeral_in digits_count
numeral_count bs = length-append (numeral_in bs).integer (fraction_digits (numeral_in bs).fraction)

-- a sign and what is behind it
unfoldable sign_tail : SignPart → List ℕ → ℕ
sign_tail sign bs = sign_part_length sign + numeral_tail (drop (sign_part_length sign) bs)

-- and the digits behind it
unfoldable signed_count : SignPart → List ℕ → ℕ
signed_count sign bs = length (all_digits_of (numeral_in (drop (sign_part_length sign) bs)))

-- blanks and what is behind them
unfoldable blanks_tail : ℕ → List ℕ → ℕ
blanks_tail n bs = n + sign_tail (sign_part_in (drop n bs)) (drop n bs)

-- and the digits behind them
unfoldable all_count : ℕ → List ℕ → ℕ
all_count n bs = signed_count (sign_part_in (drop n bs)) (drop n bs)

-- all that is read
read_length : (bytes : List ℕ) → length (text_bytes (parts_in bytes)) ≡ blanks_tail (blanks_in bytes) bytes
unfolding parts_in numeral_tail sign_tail blanks_tail
read_length bytes = text_length_lem (parts_in bytes)

-- all digits that are read
read_count : (bytes : List ℕ) → length (all_digits_of (parts_in bytes).numeral) ≡ all_count (blanks_in bytes) bytes
unfolding parts_in signed_count all_count
read_count bytes = refl

-- The last part first: what a legal text has is read, and perhaps more.

-- an exponent and blanks are empty, or stop
empty_or_stops : (p : ExponentPart) (n : ℕ) (r : List ℕ)
    → (length (power_bytes p) + n ≡ 0) ⊎ Stops (power_bytes p ++ (times n blank_byte ++ r))
unfolding power_bytes
empty_or_stops no_exponent zero r = inl refl
empty_or_stops no_exponent (suc n) r = inr (stops_blanks n r)
empty_or_stops (exponent sign ds) n r = inr (stops_power sign ds (times n blank_byte ++ r))

-- the bytes of an exponent
power_size : (sign : Sign) (ds : List ℕ) → length (power_bytes (exponent sign ds)) ≡ suc (sign_length sign + length ds)
unfolding power_bytes
power_size sign ds = omega (arith, length-append (sign_bytes sign) (digit_bytes ds), digit_bytes_length ds)

-- an exponent and blanks
power_tail_lem : (p : ExponentPart) → PowerLegal p → (n : ℕ) (r : List ℕ) (bs : List ℕ) → bs ≡ power_bytes p ++ (times n blank_byte ++ r)
    → length (power_bytes p) + n ≤ power_tail (power_in bs) bs
unfolding power_bytes power_tail
power_tail_lem no_exponent h zero r bs e = omega arith
power_tail_lem no_exponent h (suc n) r bs e =
    let read : power_in bs ≡ no_exponent = ap power_in e ∙ power_blanks n r in
    rw read (omega (arith, ap blanks_in e ∙ blanks_go (suc n) r))
power_tail_lem (exponent sign ds) h zero r bs e =
    let more = digits_in (2 - length ds) (times 0 blank_byte ++ r) in
    let read : power_in bs ≡ exponent sign (ds ++ more) = ap power_in e ∙ power_go sign ds h (times 0 blank_byte ++ r) in
    rw read (omega (arith, power_size sign ds, power_size sign (ds ++ more), length-append ds more))
power_tail_lem (exponent sign ds) h (suc n) r bs e =
    let q = times (suc n) blank_byte ++ r in
    let read : power_in bs ≡ exponent sign ds = ap power_in e ∙ power_exact sign ds h q (stops_blanks n r) in
    let rest : drop (length (power_bytes (exponent sign ds))) bs ≡ q = ap (λ (l : List ℕ). drop (length (power_bytes (exponent sign ds))) l) e ∙ drop-append_seam (power_bytes (exponent sign ds)) q in
    rw read (omega (arith, ap blanks_in rest ∙ blanks_go (suc n) r))

-- the bytes of a point
point_size : (ds : List ℕ) → length (point_bytes (point ds)) ≡ suc (length ds)
unfolding point_bytes
point_size ds = ap suc (digit_bytes_length ds)

-- a point, or none, before an exponent and blanks that stop
point_stops : (f : PointPart) → Digits (fraction_digits f) → (most : ℕ) → length (fraction_digits f) ≤ most
    → (p : ExponentPart) → PowerLegal p → (n : ℕ) (r : List ℕ) (bs : List ℕ) → bs ≡ point_bytes f ++ (power_bytes p ++ (times n blank_byte ++ r))
    → Stops (power_bytes p ++ (times n blank_byte ++ r))
    → length (point_bytes f) + (length (power_bytes p) + n) ≤ point_tail (point_in most bs) bs
unfolding point_tail
point_stops f g most le p h n r bs e stops =
    let q = power_bytes p ++ (times n blank_byte ++ r) in
    let read : point_in most bs ≡ f = ap (point_in most) e ∙ point_exact f g most le q stops in
    let rest : drop (length (point_bytes f)) bs ≡ q = ap (λ (l : List ℕ). drop (length (point_bytes f)) l) e ∙ drop-append_seam (point_bytes f) q in
    let behind = power_tail_lem p h n r (drop (length (point_bytes f)) bs) rest in
    rw read (omega arith)

-- a point, or none, and what is behind it
point_tail_lem : (f : PointPart) → Digits (fraction_digits f) → (most : ℕ) → length (fraction_digits f) ≤ most
    → (p : ExponentPart) → PowerLegal p → (n : ℕ) (r : List ℕ) (bs : List ℕ) → bs ≡ point_bytes f ++ (power_bytes p ++ (times n blank_byte ++ r))
    → length (point_bytes f) + (length (power_bytes p) + n) ≤ point_tail (point_in most bs) bs
unfolding point_tail point_bytes fraction_digits
point_tail_lem no_point g most le p h n r bs e =
    ⊎_elim
    (λ (none : length (power_bytes p) + n ≡ 0). omega arith)
    (λ stops. point_stops no_point g most le p h n r bs e stops)
    (empty_or_stops p n r)
point_tail_lem (point fs) g most le p h n r bs e =
    ⊎_elim
    (λ (none : length (power_bytes p) + n ≡ 0).
    let q = power_bytes p ++ (times n blank_byte ++ r) in
    let more = digits_in (most - length fs) q in
    let read : point_in most bs ≡ point (fs ++ more) = ap (point_in most) e ∙ point_go fs g most le q in
    rw read (omega (arith, point_size fs, point_size (fs ++ more), length-append fs more)))
    (λ stops. point_stops (point fs) g most le p h n r bs e stops)
    (empty_or_stops p n r)

-- at least so many bytes and some digit are read from the integer digits on
record Enough (size : ℕ) (ds bs : List ℕ) : Type 0 where
  long : size ≤ digits_tail ds bs
  some : 1 ≤ digits_count ds bs

-- the digits of a point, or of none, are read
point_count : (f : PointPart) → Digits (fraction_digits f) → (most : ℕ) → length (fraction_digits f) ≤ most → (r bs : List ℕ) → bs ≡ point_bytes f ++ r
    → length (fraction_digits f) ≤ length (fraction_digits (point_in most bs))
unfolding fraction_digits
point_count no_point g most le r bs e = omega arith
point_count (point fs) g most le r bs e =
    let more = digits_in (most - length fs) r in
    let read : point_in most bs ≡ point (fs ++ more) = ap (point_in most) e ∙ point_go fs g most le r in
    rw read (omega (arith, length-append fs more))

-- integer digits that are read as they are
digits_exact : (ds : List ℕ) (f : PointPart) → Digits (fraction_digits f) → 1 ≤ length (ds ++ fraction_digits f) → length (ds ++ fraction_digits f) ≤ precision
    → (p : ExponentPart) → PowerLegal p → (n : ℕ) (r : List ℕ) (bs : List ℕ) → bs ≡ digit_bytes ds ++ (point_bytes f ++ (power_bytes p ++ (times n blank_byte ++ r)))
    → digits_in precision bs ≡ ds
    → Enough (length ds + (length (point_bytes f) + (length (power_bytes p) + n))) (digits_in precision bs) bs
unfolding digits_tail digits_count
digits_exact ds f g some few p h n r bs e read =
    let q = power_bytes p ++ (times n blank_byte ++ r) in
    let sizes = length-append ds (fraction_digits f) in
    let rest : drop (length ds) bs ≡ point_bytes f ++ q = ap (λ (l : List ℕ). drop (length ds) l) e ∙ drop_at (digit_bytes ds) (point_bytes f ++ q) (length ds) (digit_bytes_length ds) in
    let most = precision - length ds in
    let le : length (fraction_digits f) ≤ most = omega arith in
    let behind = point_tail_lem f g most le p h n r (drop (length ds) bs) rest in
    let count = point_count f g most le q (drop (length ds) bs) rest in
    rw read (record { long = omega arith; some = omega arith })

-- integer digits behind which nothing of the text stands
digits_last : (ds : List ℕ) → Digits ds → 1 ≤ length ds → length ds ≤ precision → (r : List ℕ) (bs : List ℕ) → bs ≡ digit_bytes ds ++ r
    → Enough (length ds) (digits_in precision bs) bs
unfolding digits_tail digits_count
digits_last ds g some few r bs e =
    let more = digits_in (precision - length ds) r in
    let read : digits_in precision bs ≡ ds ++ more = ap (digits_in precision) e ∙ digits_go ds g precision few r in
    let sizes = length-append ds more in
    rw read (record { long = omega arith; some = omega arith })

-- what stands behind the integer digits is empty or has no digit before other bytes
empty_or_none : (f : PointPart) (p : ExponentPart) (n : ℕ) (r : List ℕ)
    → (length (point_bytes f) + (length (power_bytes p) + n) ≡ 0) ⊎ ((most : ℕ) → digits_in most (point_bytes f ++ (power_bytes p ++ (times n blank_byte ++ r))) ≡ [])
unfolding point_bytes
empty_or_none no_point p n r =
    ⊎_elim
    (λ (none : length (power_bytes p) + n ≡ 0). inl (omega arith))
    (λ stops. inr stops.no_digits)
    (empty_or_stops p n r)
empty_or_none (point fs) p n r = inr (point_no_digit fs (power_bytes p ++ (times n blank_byte ++ r)))

-- the integer digits and what is behind them
digits_tail_lem : (ds : List ℕ) (f : PointPart) → Digits (ds ++ fraction_digits f) → 1 ≤ length (ds ++ fraction_digits f) → length (ds ++ fraction_digits f) ≤ precision
    → (p : ExponentPart) → PowerLegal p → (n : ℕ) (r : List ℕ) (bs : List ℕ) → bs ≡ digit_bytes ds ++ (point_bytes f ++ (power_bytes p ++ (times n blank_byte ++ r)))
    → Enough (length ds + (length (point_bytes f) + (length (power_bytes p) + n))) (digits_in precision bs) bs
digits_tail_lem ds f g some few p h n r bs e =
    let rest = point_bytes f ++ (power_bytes p ++ (times n blank_byte ++ r)) in
    let left = digits_left ds (fraction_digits f) g in
    let sizes = length-append ds (fraction_digits f) in
    let long = point_long f in
    ⊎_elim
    (λ (none : length (point_bytes f) + (length (power_bytes p) + n) ≡ 0).
    let same : length ds ≡ length ds + (length (point_bytes f) + (length (power_bytes p) + n)) = omega arith in
    subst (λ (k : ℕ). Enough k (digits_in precision bs) bs) same (digits_last ds left (omega arith) (omega arith) rest bs e))
    (λ (none : (most : ℕ) → digits_in most rest ≡ []).
    digits_exact ds f (digits_right ds (fraction_digits f) g) some few p h n r bs e
    (ap (digits_in precision) e
    ∙ digits_go ds left precision (omega arith) rest
    ∙ ap (λ (l : List ℕ). ds ++ l) (none (precision - length ds))
    ∙ append-nil ds))
    (empty_or_none f p n r)

-- at least so many bytes and some digit are read of a numeral and the blanks behind it
record NumeralCovered (size : ℕ) (bs : List ℕ) : Type 0 where
  long : size ≤ numeral_tail bs
  some : 1 ≤ length (all_digits_of (numeral_in bs))

-- a legal numeral and blanks at the front of bytes are read, and perhaps more
numeral_covered : (u : NumeralParts) → Legal u → (n : ℕ) (r : List ℕ)
    → NumeralCovered (length (numeral_bytes u) + n) (numeral_bytes u ++ (times n blank_byte ++ r))
numeral_covered u legal n r =
    let bs = numeral_bytes u ++ (times n blank_byte ++ r) in
    let enough =
    digits_tail_lem u.integer u.fraction legal.digits legal.some legal.few u.power legal.powers n r bs
    (numeral_append u (times n blank_byte ++ r)) in
    record {
      long = omega (arith, numeral_length u, numeral_tail_lem bs, enough.long);
      some = omega (arith, numeral_count bs, enough.some);
    }

-- at least so many bytes and some digit are read
record Covered (size : ℕ) (bytes : List ℕ) : Type 0 where
  long : size ≤ length (text_bytes (parts_in bytes))
  some : 1 ≤ length (all_digits_of (parts_in bytes).numeral)

-- a legal text at the front of bytes is read, and perhaps more
text_covered : (t : TextParts) → Legal t.numeral → (r : List ℕ) → Covered (length (text_bytes t)) (text_bytes t ++ r)
unfolding blanks_tail sign_tail all_count signed_count
text_covered t legal r =
    let bytes = text_bytes t ++ r in
    let unsigned = numeral_bytes t.numeral ++ (times t.behind blank_byte ++ r) in
    let f = front_reads t legal r in
    let covered = numeral_covered t.numeral legal t.behind r in
    let tail : blanks_tail (blanks_in bytes) bytes ≡ t.before + (sign_part_length t.sign + numeral_tail unsigned) =
    rw (f.reads_before, f.to_signed, f.reads_sign, f.to_unsigned) in
    let count : all_count (blanks_in bytes) bytes ≡ length (all_digits_of (numeral_in unsigned)) =
    rw (f.reads_before, f.to_signed, f.reads_sign, f.to_unsigned) in
    record {
      long = omega (arith, text_length_lem t, read_length bytes, tail, covered.long);
      some = omega (arith, read_count bytes, count, covered.some);
    }

-- a beginning that has the form is read, and perhaps more
beginning_covered : (bytes : List ℕ) (n : ℕ) (t : TextParts) → n ≤ length bytes → HasForm (take n bytes) t → Covered n bytes
beginning_covered bytes n t inside form =
    let size : length (text_bytes t) ≡ n = ap length (sym form.written) ∙ length-take-le n bytes inside in
    let whole : text_bytes t ++ drop n bytes ≡ bytes = ap (λ (l : List ℕ). l ++ drop n bytes) (sym form.written) ∙ take-append-drop n bytes in
    subst (λ (l : List ℕ). Covered n l) whole (subst (λ (k : ℕ). Covered k (text_bytes t ++ drop n bytes)) size (text_covered t form.legal (drop n bytes)))

-- Published: the legal length is that of the longest beginning that has the form, 0 if none.
pub longest : (bytes : List ℕ) → LongestForm bytes (legal_length bytes)
longest bytes =
    ⊎_elim
    (λ (none : length (all_digits_of (parts_in bytes).numeral) ≡ 0).
    let size = legal_none bytes none in
    record {
      inside = omega arith;
      is = λ some. absurd (some size);
      longest = λ n inside text. absurd (omega (arith, (beginning_covered bytes n text.0 inside text.1).some));
    })
    (λ (some : length (all_digits_of (parts_in bytes).numeral) ≡ 0 → ⊥).
    let size = legal_some bytes some in
    let front = text_front bytes in
    record {
      inside = omega (arith, length-append (text_bytes (parts_in bytes)) front.0, ap length front.1);
      is = λ _. (parts_in bytes, form_of_parts bytes some);
      longest = λ n inside text. omega (arith, (beginning_covered bytes n text.0 inside text.1).long);
    })
    (zero_or_not (length (all_digits_of (parts_in bytes).numeral)))

-- of two lengths of which each is the longest, neither is shorter
longest_least : {Kind : List ℕ → Type 0} {bytes : List ℕ} {a b : ℕ} → LongestOf Kind bytes a → LongestOf Kind bytes b → a ≤ b
longest_least {bytes = bytes} {a} {b} p q =
    ⊎_elim
    (λ (none : a ≡ 0). omega arith)
    (λ (some : a ≡ 0 → ⊥). q.longest a p.inside (p.is some))
    (zero_or_not a)

-- Published: one length is the longest.
pub longest_unique : {Kind : List ℕ → Type 0} {bytes : List ℕ} {a b : ℕ} → LongestOf Kind bytes a → LongestOf Kind bytes b → a ≡ b
longest_unique p q = le_antisymm (longest_least p q) (longest_least q p)

-- What is read of bytes, and converting.

-- no bytes have no legal length
pub empty_length : legal_length [] ≡ 0
empty_length = omega (arith, (longest []).inside)

-- and are read as no text number
pub empty_reading : reading_in [] ≡ no_reading
empty_reading = reading_empty [] empty_length

-- so they convert to 8
empty_converts : convert_text [] ≡ refused 8 0
empty_converts = convert_whole [] empty_length ∙ ap (λ (r : TextReading). r.number) empty_reading

-- Published: the number that is read is what the longest beginning converts to.
pub beginning_converts : (bytes : List ℕ) → convert_text (take (legal_length bytes) bytes) ≡ (reading_in bytes).number
beginning_converts bytes =
    ⊎_elim
    (λ (none : legal_length bytes ≡ 0).
    ap (λ (n : ℕ). convert_text (take n bytes)) none
    ∙ empty_converts
    ∙ sym (ap (λ (r : TextReading). r.number) (reading_empty bytes none)))
    (λ (some : legal_length bytes ≡ 0 → ⊥).
    converts_form (form_of_parts bytes (λ (z : length (all_digits_of (parts_in bytes).numeral) ≡ 0). some (legal_none bytes z)))
    ∙ sym (reading_number bytes some))
    (zero_or_not (legal_length bytes))
