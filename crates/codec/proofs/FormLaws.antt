-- Document 01, Alpha text: what is read of bytes are the parts of a text number, and the only ones; what converting gives.
-- Assumes nothing.
use Prim.Native.Nat.{ℕ, zero, suc, ◌+◌, ◌-◌, ◌<◌}
use mathlib.Core.Path.{◌≡◌, refl, ap, sym, subst, ◌∙◌}
use mathlib.Core.List.{List, [], ◌++◌, append-nil, append_assoc}
use mathlib.Core.Bool.{Bool, true, false}
use mathlib.Core.Logic.{⊎_elim}
use native.Mathlib.Omega.{arith}
use borrow.Author.Tests.{eqb-true}
use lib.Dec.{eqb}
use lib.ListN.{length, take, drop, length-append}
use lib.Seq.{take-append_seam, take-length, drop_at, drop-append_seam}
use Rattle.decimal.specs.declared.number.Number.{Number}
use Rattle.decimal.specs.Answer.{Answer, done, refused, pick}
use Rattle.decimal.specs.Digits.{precision, value_of}
use Rattle.decimal.specs.Number.{exponent_limit, normal}
use Rattle.decimal.specs.Image.{times}
use Rattle.decimal.proofs.BoolLaws.{zero_or_not}
use Rattle.decimal.proofs.DigitLaws.{digits_append}
use Rattle.decimal.proofs.MagnitudeLaws.{scaled_normal}
use Rattle.decimal.proofs.ImageLaws.{times_length}
use Rattle.codec.specs.Alpha.{blank_byte, digit_bytes}
use Rattle.codec.specs.Text.{ExponentPart, no_exponent, exponent, NumeralParts, TextParts, Legal, HasForm}
use Rattle.codec.specs.Text.{sign_part_bytes, fraction_digits, all_digits_of, point_bytes, power_bytes, numeral_bytes, text_bytes, PowerLegal, has_minus, power_value, text_value}
use Rattle.codec.specs.Text.{blanks_in, digits_in, sign_part_in, sign_part_length, point_in, power_in, numeral_in, parts_in, TextReading, reading_in, legal_length, convert_text}
use Rattle.codec.proofs.AlphaLaws.{digit_bytes_length}
use Rattle.codec.proofs.PartLaws.{digits_left, digits_right, blanks_go, digits_go}
use Rattle.codec.proofs.PartLaws.{Starts, Stops, stops_end, stops_blanks, stops_power, starts_body, sign_part_go, sign_part_no_blank, power_empty, power_blanks}
use Rattle.codec.proofs.PartLaws.{point_no_digits, point_exact, power_exact, blanks_read, digits_read, sign_part_read, point_read, power_read}
use Rattle.codec.proofs.TextLaws.{text_long, legal_none, legal_some, reading_empty, reading_number, convert_whole}

-- The parts of a text are read.

-- the bytes left before each part of a numeral, and the parts that are read of them
record NumeralReads (bytes : List ℕ) (u : NumeralParts) : Type 0 where
  pointed : List ℕ
  powered : List ℕ
  reads_integer : digits_in precision bytes ≡ u.integer
  to_pointed : drop (length u.integer) bytes ≡ pointed
  reads_fraction : point_in (precision - length u.integer) pointed ≡ u.fraction
  to_powered : drop (length (point_bytes u.fraction)) pointed ≡ powered
  reads_power : power_in powered ≡ u.power

-- they are the numeral
reads_numeral_parts : {bytes : List ℕ} {u : NumeralParts} → NumeralReads bytes u → numeral_in bytes ≡ u
unfolding numeral_in
reads_numeral_parts r = rw (r.reads_integer, r.to_pointed, r.reads_fraction, r.to_powered, r.reads_power)

-- the bytes left before each part of a text up to its numeral, and the parts that are read of them
pub record FrontReads (bytes unsigned : List ℕ) (t : TextParts) : Type 0 where
  pub signed : List ℕ
  pub reads_before : blanks_in bytes ≡ t.before
  pub to_signed : drop t.before bytes ≡ signed
  pub reads_sign : sign_part_in signed ≡ t.sign
  pub to_unsigned : drop (sign_part_length t.sign) signed ≡ unsigned

-- with the numeral and the blanks behind it they are all parts
reads_parts :
    {bytes unsigned left : List ℕ} {t : TextParts}
    → FrontReads bytes unsigned t
    → numeral_in unsigned ≡ t.numeral
    → drop (length (numeral_bytes t.numeral)) unsigned ≡ left
    → blanks_in left ≡ t.behind
    → parts_in bytes ≡ t
unfolding parts_in
reads_parts f reads-numeral to-left reads-behind =
    rw (f.reads_before, f.to_signed, f.reads_sign, f.to_unsigned, reads-numeral, to-left, reads-behind)

-- Blanks and bytes behind them that end a text: what is read of it goes no further than its own blanks.
pub record Ends (n : ℕ) (r : List ℕ) : Type 0 where
  pub stops : Stops (times n blank_byte ++ r)
  pub no_power : power_in (times n blank_byte ++ r) ≡ no_exponent
  pub no_blank : blanks_in r ≡ 0

-- blanks, and bytes that begin with none
pub ends_blanks : (n : ℕ) (r : List ℕ) → blanks_in r ≡ 0 → Ends (suc n) r
ends_blanks n r h = record { stops = stops_blanks n r; no_power = power_blanks n r; no_blank = h }

-- blanks at the end
pub ends_last : (n : ℕ) → Ends n []
unfolding times
ends_last zero = record { stops = stops_end; no_power = power_empty; no_blank = refl }
ends_last (suc n) = ends_blanks n [] refl

-- an exponent before what stops
power_stops : (p : ExponentPart) (q : List ℕ) → Stops q → Stops (power_bytes p ++ q)
unfolding power_bytes
power_stops no_exponent q h = h
power_stops (exponent sign ds) q h = stops_power sign ds q

-- the exponent before what stops is read
power_back : (p : ExponentPart) → PowerLegal p → (q : List ℕ) → Stops q → power_in q ≡ no_exponent → power_in (power_bytes p ++ q) ≡ p
unfolding power_bytes
power_back no_exponent h q stops none = none
power_back (exponent sign ds) h q stops none = power_exact sign ds h q stops

-- bytes behind a numeral, part by part
pub numeral_append : (u : NumeralParts) (r : List ℕ)
    → numeral_bytes u ++ r ≡ digit_bytes u.integer ++ (point_bytes u.fraction ++ (power_bytes u.power ++ r))
unfolding numeral_bytes
numeral_append u r = simp append_assoc

-- bytes behind a text, part by part
pub text_append : (t : TextParts) (r : List ℕ)
    → text_bytes t ++ r
    ≡ times t.before blank_byte ++ (sign_part_bytes t.sign ++ (numeral_bytes t.numeral ++ (times t.behind blank_byte ++ r)))
unfolding text_bytes
text_append t r = simp append_assoc

-- a numeral begins with neither a sign nor a blank
pub starts_numeral : (u : NumeralParts) → Legal u → (r : List ℕ) → Starts (numeral_bytes u ++ r)
starts_numeral u legal r = rw (numeral_append u r) (starts_body u.integer u.fraction (power_bytes u.power ++ r) legal.some)

-- a numeral before bytes that stop it is read, whatever stands before it
pub numeral_before : (u : NumeralParts) → Legal u → (r : List ℕ) → Stops r → power_in r ≡ no_exponent → numeral_in (numeral_bytes u ++ r) ≡ u
numeral_before u legal r stops none =
    let powered = power_bytes u.power ++ r in
    let pointed = point_bytes u.fraction ++ powered in
    let fs = fraction_digits u.fraction in
    let stop = power_stops u.power r stops in
    let sizes = length-append u.integer fs in
    let few = legal.few in
    let most = precision - length u.integer in
    ap numeral_in (numeral_append u r)
    ∙ reads_numeral_parts
    (record {
      pointed = pointed;
      powered = powered;
      reads_integer =
          digits_go u.integer (digits_left u.integer fs legal.digits) precision (omega arith) pointed
          ∙ ap (λ (l : List ℕ). u.integer ++ l) (point_no_digits u.fraction powered stop most)
          ∙ append-nil u.integer;
      to_pointed = drop_at (digit_bytes u.integer) pointed (length u.integer) (digit_bytes_length u.integer);
      reads_fraction = point_exact u.fraction (digits_right u.integer fs legal.digits) most (omega arith) powered stop;
      to_powered = drop-append_seam (point_bytes u.fraction) powered;
      reads_power = power_back u.power legal.powers r stops none;
    })

-- what stands before the numeral of a text is read, whatever stands behind the text
pub front_reads :
    (t : TextParts)
    → Legal t.numeral
    → (r : List ℕ)
    → FrontReads (text_bytes t ++ r) (numeral_bytes t.numeral ++ (times t.behind blank_byte ++ r)) t
front_reads t legal r =
    let behind = times t.behind blank_byte ++ r in
    let unsigned = numeral_bytes t.numeral ++ behind in
    let signed = sign_part_bytes t.sign ++ unsigned in
    let starts = starts_numeral t.numeral legal behind in
    rw (text_append t r)
    (record {
      signed = signed;
      reads_before = omega (arith, blanks_go t.before signed, sign_part_no_blank t.sign unsigned starts);
      to_signed = drop_at (times t.before blank_byte) signed t.before (times_length t.before blank_byte);
      reads_sign = sign_part_go t.sign unsigned starts;
      to_unsigned = drop-append_seam (sign_part_bytes t.sign) unsigned;
    })

-- so is its sign, with the blanks behind it
pub sign_front : (t : TextParts) → Legal t.numeral → (r : List ℕ) → (parts_in (text_bytes t ++ r)).sign ≡ t.sign
unfolding parts_in
sign_front t legal r = let f = front_reads t legal r in rw (f.reads_before, f.to_signed) f.reads_sign

-- Published: the parts of a text are the ones that are read of it before bytes that end it.
pub parts_before : (t : TextParts) → Legal t.numeral → (r : List ℕ) → Ends t.behind r → parts_in (text_bytes t ++ r) ≡ t
parts_before t legal r ends =
    let behind = times t.behind blank_byte ++ r in
    reads_parts (front_reads t legal r) (numeral_before t.numeral legal behind ends.stops ends.no_power)
    (drop-append_seam (numeral_bytes t.numeral) behind)
    (omega (arith, blanks_go t.behind r, ends.no_blank))

-- Published: and of it alone, so a text has these parts only.
pub parts_of_form : {bytes : List ℕ} {t : TextParts} → HasForm bytes t → parts_in bytes ≡ t
parts_of_form {bytes} {t} form =
    ap parts_in (form.written ∙ sym (append-nil (text_bytes t))) ∙ parts_before t form.legal [] (ends_last t.behind)

-- Published: bytes have the form with one list of parts at most.
pub form_unique : {bytes : List ℕ} {t u : TextParts} → HasForm bytes t → HasForm bytes u → t ≡ u
form_unique a b = sym (parts_of_form a) ∙ parts_of_form b

-- What is read are the parts of a text.

-- the numeral that is read stands at the front of the bytes
pub numeral_front : (bytes : List ℕ)
    → numeral_bytes (numeral_in bytes) ++ drop (length (numeral_bytes (numeral_in bytes))) bytes ≡ bytes
unfolding numeral_in
numeral_front bytes =
    let u = numeral_in bytes in
    let integer = digits_in precision bytes in
    let pointed = drop (length integer) bytes in
    let most = precision - length integer in
    let fraction = point_in most pointed in
    let powered = drop (length (point_bytes fraction)) pointed in
    let rest = drop (length (power_bytes (power_in powered))) powered in
    let whole : numeral_bytes u ++ rest ≡ bytes =
    numeral_append u rest
    ∙ ap (λ (l : List ℕ). digit_bytes integer ++ (point_bytes fraction ++ l)) (power_read powered).front
    ∙ ap (λ (l : List ℕ). digit_bytes integer ++ l) (point_read most pointed).front
    ∙ (digits_read precision bytes).front in
    let left : drop (length (numeral_bytes u)) bytes ≡ rest =
    ap (λ (l : List ℕ). drop (length (numeral_bytes u)) l) (sym whole) ∙ drop-append_seam (numeral_bytes u) rest in
    ap (λ (l : List ℕ). numeral_bytes u ++ l) left ∙ whole

-- what is read stands at the front of the bytes
pub text_front : (bytes : List ℕ) → (r : List ℕ) × (text_bytes (parts_in bytes) ++ r ≡ bytes)
unfolding parts_in
text_front bytes =
    let before = blanks_in bytes in
    let signed = drop before bytes in
    let sign = sign_part_in signed in
    let unsigned = drop (sign_part_length sign) signed in
    let numeral = numeral_in unsigned in
    let left = drop (length (numeral_bytes numeral)) unsigned in
    let rest = drop (blanks_in left) left in (
      rest,
      text_append (parts_in bytes) rest
          ∙ ap (λ (l : List ℕ). times before blank_byte ++ (sign_part_bytes sign ++ (numeral_bytes numeral ++ l))) (blanks_read left)
          ∙ ap (λ (l : List ℕ). times before blank_byte ++ (sign_part_bytes sign ++ l)) (numeral_front unsigned)
          ∙ ap (λ (l : List ℕ). times before blank_byte ++ l) (sign_part_read signed)
          ∙ blanks_read bytes,
    )

-- a numeral that is read is legal, if it has some digit
pub numeral_legal : (bytes : List ℕ) → (length (all_digits_of (numeral_in bytes)) ≡ 0 → ⊥) → Legal (numeral_in bytes)
unfolding numeral_in
numeral_legal bytes some =
    let integer = digits_in precision bytes in
    let pointed = drop (length integer) bytes in
    let most = precision - length integer in
    let fraction = point_in most pointed in
    let powered = drop (length (point_bytes fraction)) pointed in
    let whole = digits_read precision bytes in
    let part = point_read most pointed in
    record {
      digits = digits_append integer (fraction_digits fraction) whole.digits part.digits;
      some = omega arith;
      few = omega (arith, length-append integer (fraction_digits fraction), whole.few, part.few);
      powers = (power_read powered).legal;
    }

-- so is the text's
read_legal : (bytes : List ℕ) → (length (all_digits_of (parts_in bytes).numeral) ≡ 0 → ⊥) → Legal (parts_in bytes).numeral
unfolding parts_in
read_legal bytes some =
    let signed = drop (blanks_in bytes) bytes in
    numeral_legal (drop (sign_part_length (sign_part_in signed)) signed) some

-- Published: what is read has the form, with the parts that are read.
pub form_of_parts : (bytes : List ℕ) → (length (all_digits_of (parts_in bytes).numeral) ≡ 0 → ⊥) → HasForm (take (legal_length bytes) bytes) (parts_in bytes)
form_of_parts bytes some =
    let text = text_bytes (parts_in bytes) in
    let front = text_front bytes in
    record {
      legal = read_legal bytes some;
      written =
          ap (λ (n : ℕ). take n bytes) (legal_some bytes some)
          ∙ ap (λ (l : List ℕ). take (length text) l) (sym front.1)
          ∙ take-append_seam text front.0;
    }

-- What converting gives.

-- the legal length of a text is its length
pub form_length : {bytes : List ℕ} {t : TextParts} → HasForm bytes t → legal_length bytes ≡ length bytes
form_length {bytes} {t} form =
    let parts = parts_of_form form in
    legal_some bytes (λ e. omega (arith, ap (λ (u : TextParts). length (all_digits_of u.numeral)) parts, form.legal.some))
    ∙ ap (λ (u : TextParts). length (text_bytes u)) parts
    ∙ ap length (sym form.written)

-- a text has some byte
pub form_some : {bytes : List ℕ} {t : TextParts} → HasForm bytes t → 0 < length bytes
form_some {bytes} {t} form = omega (arith, ap length form.written, text_long t, form.legal.some)

-- Published: a text converts to the value of its parts.
pub converts_form : {bytes : List ℕ} {t : TextParts} → HasForm bytes t → convert_text bytes ≡ text_value t
converts_form {bytes} {t} form =
    let size = form_length form in
    convert_whole bytes size ∙ reading_number bytes (λ e. omega (arith, form_some form)) ∙ ap text_value (parts_of_form form)

-- Published: bytes that have not the form convert to 8.
pub converts_none : (bytes : List ℕ) → ((t : TextParts) → HasForm bytes t → ⊥) → convert_text bytes ≡ refused 8 0
unfolding convert_text
converts_none bytes none = go (eqb (legal_length bytes) (length bytes)) refl
  where
    go : (whole : Bool) → eqb (legal_length bytes) (length bytes) ≡ whole → pick whole (reading_in bytes).number (refused 8 0) ≡ refused 8 0
    go false e = refl
    go true e =
        ⊎_elim
        (λ (empty : legal_length bytes ≡ 0). ap (λ (r : TextReading). r.number) (reading_empty bytes empty))
        (λ (some : legal_length bytes ≡ 0 → ⊥).
        let size = eqb-true (legal_length bytes) (length bytes) e in
        let all : take (legal_length bytes) bytes ≡ bytes = ap (λ (n : ℕ). take n bytes) size ∙ take-length bytes in
        absurd
        (none (parts_in bytes)
        (subst (λ (l : List ℕ). HasForm l (parts_in bytes)) all (form_of_parts bytes (λ z. some (legal_none bytes z))))))
        (zero_or_not (legal_length bytes))

-- a picked answer that is done is the first
picked_done : (whole : Bool) (a : Answer Number) {n : Number} → pick whole a (refused 8 0) ≡ done n → a ≡ done n
picked_done false a h = let z : ◌≡◌ {A = ℕ} 0 1 = cc in absurd (omega arith)
picked_done true a h = h

-- Published: what a text converts to is a number in normal form.
pub converts_normal : (bytes : List ℕ) {n : Number} → convert_text bytes ≡ done n → normal n ≡ true
unfolding convert_text text_value
converts_normal bytes {n} h =
    let t = parts_in bytes in
    let u = t.numeral in
    let read : (reading_in bytes).number ≡ done n = picked_done (eqb (legal_length bytes) (length bytes)) (reading_in bytes).number h in
    ⊎_elim
    (λ (empty : legal_length bytes ≡ 0).
    let eight : (reading_in bytes).number ≡ refused 8 0 = ap (λ (r : TextReading). r.number) (reading_empty bytes empty) in
    let z : ◌≡◌ {A = ℕ} 0 1 = cc in
    absurd (omega arith))
    (λ (some : legal_length bytes ≡ 0 → ⊥).
    scaled_normal 0 (has_minus t.sign) (value_of (all_digits_of u)) (power_value u.power) (exponent_limit + length (fraction_digits u.fraction))
    (sym (reading_number bytes some) ∙ read))
    (zero_or_not (legal_length bytes))
