-- Laws of reading a text number: what its parts are from a place on, the laws of the loops that read blanks and digits, and how the
-- parts make the whole. Assumes nothing.
use Prim.Native.Nat.{ℕ, zero, suc, ◌+◌, ◌-◌, ◌*◌, ◌^◌, ◌<◌, ◌≤◌, min}
use mathlib.Core.Path.{◌≡◌, refl, ap, sym, ◌∙◌}
use mathlib.Core.Logic.{◌⊎◌, inl, inr, ⊎_elim}
use mathlib.Core.List.{List, [], ◌∷◌, ◌++◌}
use mathlib.Core.Bool.{Bool, true, false, ◌&&◌}
use Rattle.std.specs.Char.{is_ascii_digit}
use Rattle.std.proofs.lemmas.List.{get_or-drop, get_or-take, length-take, take_rest}
use native.Mathlib.Nat.{mul_comm, mul_assoc, add-mul, mul-le-mul_right}
use native.Mathlib.Numerals.{add-one}
use native.Mathlib.Omega.{arith}
use borrow.Author.Tests.{ltb-true, ltb-false, lt-ltb, leb-true, eq-eqb, ne_eqb}
use lib.Dec.{ltb, leb, eqb, leb-suc-suc}
use lib.ListN.{length, take, drop, get_or, length-append, length-drop}
use lib.Seq.{drop-cons}
use Rattle.decimal.specs.declared.image.Sign.{Sign}
use Rattle.decimal.specs.declared.image.Sign.TheVariants.{Unsigned, Plus, Minus}
use Rattle.decimal.specs.declared.number.Number.{Number}
use Rattle.decimal.specs.Answer.{Answer, done, refused, ◌then◌, pick}
use Rattle.decimal.specs.Digits.{precision, Digits, value_of}
use Rattle.decimal.specs.Number.{exponent_limit, scaled_number}
use Rattle.decimal.specs.Image.{leading_sign, point_byte, sign_bytes, sign_of}
use Rattle.decimal.proofs.AnswerLaws.{then_next, then_refused}
use Rattle.decimal.proofs.BoolLaws.{and_true, zero_or_not}
use Rattle.decimal.proofs.PowerLaws.{pow10_add, pow10_suc, pow10_mono, times_ten, times_power}
use Rattle.decimal.proofs.DigitLaws.{le_or_lt, value_append, value_below}
use Rattle.decimal.proofs.ImageLaws.{times_length}
use Rattle.codec.specs.declared.text.Numeral.{Numeral}
use Rattle.codec.specs.Columns.{sign_count}
use Rattle.codec.specs.Alpha.{blank_byte, exponent_byte, zero_byte, digit_bytes}
use Rattle.codec.specs.Text.{PointPart, no_point, point, ExponentPart, no_exponent, exponent, NumeralParts, TextParts, fraction_digits, all_digits_of, sign_part_bytes, point_bytes, power_bytes, numeral_bytes, text_bytes, is_minus, power_value, text_value, blanks_in, is_digit, digits_in, sign_length, sign_part, sign_part_in, sign_part_length, point_in, power_of, power_in, numeral_in, parts_in, TextReading, no_reading, reading_of, reading_in, legal_length, TextNumber, read_text, convert_text, held_digits, DigitsFit, behind_value, SignFound, RunFound, FractionFound, PowerFound, NumeralFound}
use Rattle.codec.proofs.AlphaLaws.{digit_bytes_length, sign_bytes_length}
use Rattle.codec.proofs.PartLaws.{part_minus, sign_part_read}

-- Bytes that are digits.

-- a digit lies among the ten bytes from that of 0 on
pub digit_byte : (b : ℕ) → is_digit b ≡ true → (zero_byte ≤ b) × (b - zero_byte < 10)
digit_byte b h =
    let both = and_true (leb zero_byte b) (ltb b (zero_byte + 10)) h in
    let low = leb-true zero_byte b both.0 in
    let top = ltb-true b (zero_byte + 10) both.1 in
    (low, omega arith)

-- the library's test of a digit
pub ascii_digit : (b : ℕ) → is_ascii_digit b ≡ is_digit b
ascii_digit b = ap (λ (test : Bool). leb zero_byte b && test) (sym (leb-suc-suc b 57))

-- what a slice from a place on is
abbrev pub onward : ℕ → List ℕ → List ℕ
onward place bytes = take (length bytes - place) (drop place bytes)

-- What bytes begin with.

-- no sign where there is no byte
pub sign_none : (text : List ℕ) → length text ≡ 0 → Unsigned ≡ leading_sign text
unfolding leading_sign
sign_none [] h = refl
sign_none (b ∷ bs) h = absurd (omega arith)

-- no digit behind the end, or where none is asked for
pub digits_none : (most : ℕ) (bytes : List ℕ) → (length bytes ≡ 0) ⊎ (most ≡ 0) → digits_in most bytes ≡ []
unfolding digits_in
digits_none zero bytes h = refl
digits_none (suc most) [] h = refl
digits_none (suc most) (b ∷ bs) h = ⊎_elim (λ (e : length (b ∷ bs) ≡ 0). absurd (omega arith)) (λ (e : suc most ≡ 0). absurd (omega arith)) h

-- another byte ends the digits
pub digits_other : (most : ℕ) (bytes : List ℕ) → 0 < length bytes → is_digit (get_or bytes 0 0) ≡ false → digits_in most bytes ≡ []
unfolding digits_in
digits_other zero bytes h e = refl
digits_other (suc most) [] h e = refl
digits_other (suc most) (b ∷ bs) h e = rw e

-- a digit stands before the others
pub digits_more : (most place : ℕ) (text : List ℕ) → place < length text → is_digit (get_or text place 0) ≡ true
    → digits_in (suc most) (drop place text) ≡ (get_or text place 0 - zero_byte) ∷ digits_in most (drop (place + 1) text)
unfolding digits_in
digits_more most place text h e = rw (add-one place, drop-cons text place 0 h, e)

-- no byte, or another one: no point
pub point_none : (most : ℕ) (text : List ℕ) → (0 < length text → get_or text 0 0 ≡ point_byte → ⊥) → point_in most text ≡ no_point
unfolding point_in
point_none most [] h = refl
point_none most (b ∷ bs) h = rw (ne_eqb b point_byte (h (omega arith)))

-- a point and the digits behind it
pub point_some : (most : ℕ) (text : List ℕ) → 0 < length text → get_or text 0 0 ≡ point_byte
    → point_in most text ≡ point (digits_in most (drop 1 text))
unfolding point_in
point_some most [] h e = absurd (omega arith)
point_some most (b ∷ bs) h e = rw (eq-eqb b point_byte e)

-- no byte, or another one: no exponent
pub power_absent : (text : List ℕ) → (0 < length text → get_or text 0 0 ≡ exponent_byte → ⊥) → power_in text ≡ no_exponent
unfolding power_in
power_absent [] h = refl
power_absent (b ∷ bs) h = rw (ne_eqb b exponent_byte (h (omega arith)))

-- E, and what the sign and the digits behind it make
power_there : (text : List ℕ) → 0 < length text → get_or text 0 0 ≡ exponent_byte
    → power_in text ≡ power_of (leading_sign (drop 1 text)) (digits_in 2 (drop (sign_length (leading_sign (drop 1 text))) (drop 1 text)))
unfolding power_in
power_there [] h e = absurd (omega arith)
power_there (b ∷ bs) h e = rw (eq-eqb b exponent_byte e)

-- Values that are held.

-- a value with one digit more, where that is foreseen, is below the limit
pub held_fits : (value most : ℕ) → DigitsFit value (suc most) → value * 10 + 9 < 10 ^ held_digits
held_fits value most h = omega (arith, times_ten (value + 1) most, times_power (value + 1) most)

-- the value with a digit more is held with one digit less to come
pub held_more : (value digit most : ℕ) → digit < 10 → DigitsFit value (suc most) → DigitsFit (value * 10 + digit) most
held_more value digit most d h =
    let top = mul-le-mul_right {m = value * 10 + digit + 1} {n = (value + 1) * 10} (10 ^ most) (omega arith) in
    omega (arith, times_ten (value + 1) most, mul_assoc (value + 1) 10 (10 ^ most), mul_comm 10 (10 ^ most), pow10_suc most)

-- a digit goes from the digits to the value before them
pub behind_more : (value digit : ℕ) (ds : List ℕ) → behind_value value (digit ∷ ds) ≡ behind_value (value * 10 + digit) ds
unfolding value_of
behind_more value digit ds =
    omega (arith, times_ten value (length ds), add-mul (value * 10) digit (10 ^ length ds), mul_assoc value 10 (10 ^ length ds), mul_comm 10 (10 ^ length ds))

-- The loop that reads digits: what was read and what is left make the whole.

-- the digits read before a count, and those from there on
pub record Running (text : List ℕ) (most start value count : ℕ) : Type 0 where
  pub held : DigitsFit value (most - count)
  pub counts : count + length (digits_in (most - count) (drop count text)) ≡ length (digits_in most text)
  pub values : behind_value value (digits_in (most - count) (drop count text)) ≡ behind_value start (digits_in most text)

module _ {text : List ℕ} {most start value count size : ℕ} (r : Running text most start value count) (cut : size ≡ min most (length text)) where
  -- where no digit is left
  running_ends : digits_in (most - count) (drop count text) ≡ [] → RunFound text most start value count
  unfolding value_of
  running_ends none =
      let valued : behind_value value (digits_in (most - count) (drop count text)) ≡ behind_value value [] = ap (behind_value value) none in
      record {
        counted = omega (arith, ap length none, r.counts);
        valued = omega (arith, valued, r.values);
      }

  -- behind the last byte, or the last digit that is asked for
  pub running_full : length (take size text) ≤ count → count ≤ length (take size text) → RunFound text most start value (length (take size text))
  running_full low top =
      let full : count ≡ length (take size text) = omega arith in
      let long : length (take size text) ≡ min size (length text) = length-take size text in
      rw (← full)
      (running_ends
      (digits_none (most - count) (drop count text)
      (⊎_elim
      (λ (g : most ≤ length text). inr (omega arith))
      (λ (g : length text < most). inl (omega (arith, length-drop count text)))
      (le_or_lt most (length text)))))

  module _ (there : count < length (take size text)) where
    -- the byte at hand
    abbrev byte : ℕ
    byte = get_or (take size text) count 0

    -- it is among the bytes that are asked for
    within : (count < most) × (count < length text)
    within = let long = length-take size text in (omega arith, omega arith)

    -- it is the text's
    same : byte ≡ get_or text count 0
    same = get_or-take size text count 0 (let long = length-take size text in omega arith)

    -- another byte than a digit
    pub running_other : is_ascii_digit byte ≡ false → RunFound text most start value count
    running_other other =
        let first : get_or (drop count text) 0 0 ≡ byte = get_or-drop count text 0 0 ∙ ap (λ (k : ℕ). get_or text k 0) (omega arith) ∙ sym same in
        running_ends
        (digits_other (most - count) (drop count text) (let t = within.1 in omega (arith, length-drop count text))
        (ap is_digit first ∙ sym (ascii_digit byte) ∙ other))

    -- one digit more is within what the code holds
    pub running_fits : is_ascii_digit byte ≡ true → (value * 10 + 9 < 10 ^ held_digits) × (zero_byte ≤ byte) × (byte - zero_byte < 10)
    running_fits digit =
        let more = within.0 in
        let left : most - count ≡ suc (most - (count + 1)) = omega arith in
        let ten = digit_byte byte (sym (ascii_digit byte) ∙ digit) in
        (held_fits value (most - (count + 1)) (rw left at r.held), ten.0, ten.1)

    -- after one digit more
    pub running_turns : is_ascii_digit byte ≡ true → Running text most start (value * 10 + (byte - zero_byte)) (count + 1)
    running_turns digit =
        let more = within.0 in
        let left : most - count ≡ suc (most - (count + 1)) = omega arith in
        let is : is_digit byte ≡ true = sym (ascii_digit byte) ∙ digit in
        let ds = digits_in (most - (count + 1)) (drop (count + 1) text) in
        let step : digits_in (most - count) (drop count text) ≡ (byte - zero_byte) ∷ ds =
        ap (λ (n : ℕ). digits_in n (drop count text)) left
        ∙ digits_more (most - (count + 1)) count text within.1 (ap is_digit (sym same) ∙ is)
        ∙ ap (λ (b : ℕ). (b - zero_byte) ∷ ds) (sym same) in
        let valued : behind_value value (digits_in (most - count) (drop count text)) ≡ behind_value (value * 10 + (byte - zero_byte)) ds =
        ap (behind_value value) step ∙ behind_more value (byte - zero_byte) ds in
        record {
          held = held_more value (byte - zero_byte) (most - (count + 1)) (digit_byte byte is).1 (rw left at r.held);
          counts = omega (arith, ap length step, r.counts);
          values = sym valued ∙ r.values;
        }

-- What is read is digits, and no part runs past the bytes.

-- a digit before digits makes digits, and so does none
digit_step : (b : ℕ) (ds : List ℕ) (test : Bool) → is_digit b ≡ test → Digits ds → Digits (pick test ((b - zero_byte) ∷ ds) [])
unfolding Digits
digit_step b ds true h rest = ((digit_byte b h).1, rest)
digit_step b ds false h rest = tt

-- the digits that bytes begin with are digits
pub digits_in_digits : (most : ℕ) (bytes : List ℕ) → Digits (digits_in most bytes)
unfolding Digits digits_in
digits_in_digits zero bytes = tt
digits_in_digits (suc most) [] = tt
digits_in_digits (suc most) (b ∷ bs) = digit_step b (digits_in most bs) (is_digit b) refl (digits_in_digits most bs)

-- one digit more is at most one more
one_more : (test : Bool) (d : ℕ) (ds : List ℕ) → length (pick test (d ∷ ds) []) ≤ suc (length ds)
one_more true d ds = omega arith
one_more false d ds = omega arith

-- they are at most as many as are asked for
pub digits_in_few : (most : ℕ) (bytes : List ℕ) → length (digits_in most bytes) ≤ most
unfolding digits_in
digits_in_few zero bytes = omega arith
digits_in_few (suc most) [] = omega arith
digits_in_few (suc most) (b ∷ bs) = omega (arith, one_more (is_digit b) (b - zero_byte) (digits_in most bs), digits_in_few most bs)

-- they are at most as many as the bytes
pub digits_in_within : (most : ℕ) (bytes : List ℕ) → length (digits_in most bytes) ≤ length bytes
unfolding digits_in
digits_in_within zero bytes = omega arith
digits_in_within (suc most) [] = omega arith
digits_in_within (suc most) (b ∷ bs) = omega (arith, one_more (is_digit b) (b - zero_byte) (digits_in most bs), digits_in_within most bs)

-- a sign is at most one byte
pub sign_short : (sign : Sign) → sign_length sign ≤ 1
unfolding sign_bytes
sign_short Unsigned = omega arith
sign_short Plus = omega arith
sign_short Minus = omega arith

-- the sign is within the bytes
pub sign_within : (bytes : List ℕ) → sign_length (leading_sign bytes) ≤ length bytes
unfolding sign_bytes leading_sign
sign_within [] = omega arith
sign_within (b ∷ bs) = omega (arith, sign_short (sign_of b))

-- the code's count of a sign's bytes
pub signs_found : (bytes : List ℕ) {sign : Sign} {signs : ℕ} → sign ≡ leading_sign bytes → signs ≡ sign_count sign
    → (signs ≡ sign_length sign) × (signs ≤ length bytes)
signs_found bytes {sign} said counted =
    let long = counted ∙ sym (sign_bytes_length sign) in
    (long, omega (arith, long ∙ ap sign_length said, sign_within bytes))

-- no sign and no blank behind it
part_none : (sign : Sign) (blanks : ℕ) → sign_count sign ≡ 0 → sign_part_length (sign_part sign blanks) ≡ 0
unfolding sign_part_bytes sign_part
part_none Unsigned blanks h = refl
part_none Plus blanks h = absurd (omega arith)
part_none Minus blanks h = absurd (omega arith)

-- a sign and the blanks behind it
part_some : (sign : Sign) (blanks : ℕ) → (sign_count sign ≡ 0 → ⊥) → sign_part_length (sign_part sign blanks) ≡ sign_count sign + blanks
unfolding sign_part_bytes sign_part
part_some Unsigned blanks h = absurd (h refl)
part_some Plus blanks h = omega (arith, times_length blanks blank_byte)
part_some Minus blanks h = omega (arith, times_length blanks blank_byte)

-- the sign and the blanks are within the bytes
pub sign_part_within : (bytes : List ℕ) → sign_part_length (sign_part_in bytes) ≤ length bytes
sign_part_within bytes =
    omega (
      arith,
      ap length (sign_part_read bytes),
      length-append (sign_part_bytes (sign_part_in bytes)) (drop (sign_part_length (sign_part_in bytes)) bytes),
    )

module _ (bytes : List ℕ) {sign : Sign} {signs : ℕ} (said : sign ≡ leading_sign bytes) (counted : signs ≡ sign_count sign) where
  -- where no sign is counted, nothing is used
  pub spaced_none : {minus : Bool} {blanks : ℕ} → minus ≡ is_minus sign → signs ≡ 0 → blanks ≡ 0 → SignFound bytes minus (signs + blanks)
  unfolding sign_part_in
  spaced_none is none bare =
      let blanks = blanks_in (drop (sign_length (leading_sign bytes)) bytes) in
      record {
        valued = is ∙ ap is_minus said ∙ sym (part_minus (leading_sign bytes) blanks);
        spanned = omega (arith, bare, part_none (leading_sign bytes) blanks (sym (ap sign_count said) ∙ sym counted ∙ none));
      }

  -- else it and the blanks behind it are
  pub spaced_some : {minus : Bool} {blanks : ℕ} → minus ≡ is_minus sign → (signs ≡ 0 → ⊥) → blanks ≡ blanks_in (onward signs bytes)
      → SignFound bytes minus (signs + blanks)
  unfolding sign_part_in
  spaced_some {minus} {blanks} is some run =
      let size : signs ≡ sign_length (leading_sign bytes) = (signs_found bytes said counted).0 ∙ ap sign_length said in
      let all : blanks ≡ blanks_in (drop (sign_length (leading_sign bytes)) bytes) =
      run ∙ ap blanks_in (take_rest bytes signs) ∙ ap (λ (n : ℕ). blanks_in (drop n bytes)) size in
      let count : sign_count (leading_sign bytes) ≡ signs = sym (counted ∙ ap sign_count said) in
      record {
        valued = is ∙ ap is_minus said ∙ sym (part_minus (leading_sign bytes) (blanks_in (drop (sign_length (leading_sign bytes)) bytes)));
        spanned =
            omega (
              arith,
              all,
              count,
              part_some (leading_sign bytes) (blanks_in (drop (sign_length (leading_sign bytes)) bytes)) (λ e. some (sym count ∙ e)),
            );
      }

-- what is found of a sign is within the bytes
pub sign_inside : {bytes : List ℕ} {minus : Bool} {used : ℕ} → SignFound bytes minus used → used ≤ length bytes
sign_inside {bytes} s = omega (arith, s.spanned, sign_part_within bytes)

-- a point and digits are one byte more than the digits, or none
point_short : (test : Bool) (ds : List ℕ) → length (point_bytes (pick test (point ds) no_point)) ≤ suc (length ds)
unfolding point_bytes
point_short true ds = omega (arith, digit_bytes_length ds)
point_short false ds = omega arith

-- the point and the digits behind it are within the bytes
pub point_within : (most : ℕ) (bytes : List ℕ) → length (point_bytes (point_in most bytes)) ≤ length bytes
unfolding point_in point_bytes
point_within most [] = omega arith
point_within most (b ∷ bs) = omega (arith, point_short (eqb b point_byte) (digits_in most bs), digits_in_within most bs)

-- the digits behind a point, or none
fraction_short : (test : Bool) (ds : List ℕ) → length (fraction_digits (pick test (point ds) no_point)) ≤ length ds
unfolding fraction_digits
fraction_short true ds = omega arith
fraction_short false ds = omega arith

-- the digits behind the point are at most as many as are asked for
pub fraction_few : (most : ℕ) (bytes : List ℕ) → length (fraction_digits (point_in most bytes)) ≤ most
unfolding point_in fraction_digits
fraction_few most [] = omega arith
fraction_few most (b ∷ bs) = omega (arith, fraction_short (eqb b point_byte) (digits_in most bs), digits_in_few most bs)

-- an exponent is E, its sign and its digits, or nothing
power_short : (test : Bool) (sign : Sign) (ds : List ℕ)
    → length (power_bytes (pick test (power_of sign ds) no_exponent)) ≤ suc (sign_length sign + length ds)
unfolding power_bytes power_of
power_short true sign [] = omega arith
power_short true sign (d ∷ ds) = omega (arith, length-append (sign_bytes sign) (digit_bytes (d ∷ ds)), digit_bytes_length (d ∷ ds))
power_short false sign ds = omega arith

-- the exponent is within the bytes
pub power_within : (bytes : List ℕ) → length (power_bytes (power_in bytes)) ≤ length bytes
unfolding power_in power_bytes
power_within [] = omega arith
power_within (b ∷ bs) =
    let sign = leading_sign bs in
    let rest = drop (sign_length sign) bs in
    omega (arith, power_short (eqb b exponent_byte) sign (digits_in 2 rest), digits_in_within 2 rest, length-drop (sign_length sign) bs, sign_within bs)

-- What the helpers find.

-- a run keeps to its count and to the bytes
pub run_few : {bytes : List ℕ} {most start value count : ℕ} → RunFound bytes most start value count → (count ≤ most) × (count ≤ length bytes)
run_few {bytes} {most} r = (omega (arith, r.counted, digits_in_few most bytes), omega (arith, r.counted, digits_in_within most bytes))

-- the value of a run keeps to its count
pub run_below : {bytes : List ℕ} {most value count : ℕ} → RunFound bytes most 0 value count → value < 10 ^ count
run_below {bytes} {most} {value} {count} r =
    let power : 10 ^ count ≡ 10 ^ length (digits_in most bytes) = ap (λ (n : ℕ). 10 ^ n) r.counted in
    omega (arith, power, r.valued, value_below (digits_in most bytes) (digits_in_digits most bytes))

-- the digits behind the point are held too
pub run_held : {bytes : List ℕ} {value count : ℕ} → RunFound bytes precision 0 value count → DigitsFit value (precision - count)
run_held {bytes} {value} {count} r =
    let few = (run_few r).0 in
    let low : value + 1 ≤ 10 ^ count = omega (arith, run_below r) in
    let most = mul-le-mul_right {m = value + 1} {n = 10 ^ count} (10 ^ (precision - count)) low in
    let sum : count + (precision - count) ≡ precision = omega arith in
    let all : 10 ^ (count + (precision - count)) ≡ 10 ^ precision = ap (λ (n : ℕ). 10 ^ n) sum in
    omega (arith, most, all, pow10_add count (precision - count))

-- no point: no digit, and the value stays
pub fraction_none : {most : ℕ} (text : List ℕ) (start : ℕ) → (0 < length text → get_or text 0 0 ≡ point_byte → ⊥)
    → FractionFound text most start start 0 0
unfolding fraction_digits point_bytes value_of
fraction_none {most} text start other =
    let none = point_none most text other in
    let digits : fraction_digits (point_in most text) ≡ [] = ap fraction_digits none in
    let value : behind_value start (fraction_digits (point_in most text)) ≡ behind_value start [] = ap (behind_value start) digits in
    record {
      counted = sym (ap length digits);
      valued = omega (arith, value);
      spanned = sym (ap (λ (p : PointPart). length (point_bytes p)) none);
    }

-- a point and the run behind it
pub fraction_some : {most start value count : ℕ} (text : List ℕ) → 0 < length text → get_or text 0 0 ≡ point_byte
    → RunFound (onward 1 text) most start value count → FractionFound text most start value count (count + 1)
unfolding fraction_digits point_bytes
fraction_some {most} {start} {value} {count} text there mark r =
    let rest = onward 1 text in
    let here : point_in most text ≡ point (digits_in most rest) = point_some most text there mark ∙ ap (λ (l : List ℕ). point (digits_in most l)) (sym (take_rest text 1)) in
    let digits : fraction_digits (point_in most text) ≡ digits_in most rest = ap fraction_digits here in
    let span : length (point_bytes (point_in most text)) ≡ suc (length (digit_bytes (digits_in most rest))) =
    ap (λ (p : PointPart). length (point_bytes p)) here in
    record {
      counted = r.counted ∙ sym (ap length digits);
      valued = r.valued ∙ sym (ap (behind_value start) digits);
      spanned = omega (arith, span, digit_bytes_length (digits_in most rest), r.counted);
    }

-- they and the point are within the bytes
pub fraction_inside : {bytes : List ℕ} {most start value count used : ℕ} → FractionFound bytes most start value count used → used ≤ length bytes
fraction_inside {bytes} {most} f = omega (arith, f.spanned, point_within most bytes)

-- the digits behind the point keep to what is asked for
pub fraction_most : {bytes : List ℕ} {most start value count used : ℕ} → FractionFound bytes most start value count used → count ≤ most
fraction_most {bytes} {most} f = omega (arith, f.counted, fraction_few most bytes)

-- no exponent: 0, with the limit added
pub power_none : {bytes : List ℕ} → power_in bytes ≡ no_exponent → PowerFound bytes exponent_limit 0
unfolding power_value power_bytes
power_none {bytes} none =
    record {
      small = omega arith;
      valued = sym (ap power_value none);
      spanned = sym (ap (λ (p : ExponentPart). length (power_bytes p)) none);
    }

-- the value of two digits is below a hundred
pub run_exponent : {bytes : List ℕ} {value count : ℕ} → RunFound bytes 2 0 value count → value < 10 ^ 2
run_exponent r = let few = (run_few r).0 in omega (arith, run_below r, pow10_mono few)

-- an exponent of such a size is within its limits
power_limits : (minus : Bool) (size : ℕ) → size ≤ exponent_limit → pick minus (exponent_limit - size) (exponent_limit + size) ≤ 2 * exponent_limit
power_limits true size h = omega arith
power_limits false size h = omega arith

-- an exponent without a digit is none
power_empty : (sign : Sign) (ds : List ℕ) → length ds ≡ 0 → power_of sign ds ≡ no_exponent
unfolding power_of
power_empty sign [] h = refl
power_empty sign (d ∷ ds) h = absurd (omega arith)

-- an exponent with a digit is one
power_full : (sign : Sign) (ds : List ℕ) → (length ds ≡ 0 → ⊥) → power_of sign ds ≡ exponent sign ds
unfolding power_of
power_full sign [] h = absurd (h refl)
power_full sign (d ∷ ds) h = refl

-- the exponent is within the bytes
pub power_inside : {bytes : List ℕ} {up used : ℕ} → PowerFound bytes up used → used ≤ length bytes
power_inside {bytes} p = omega (arith, p.spanned, power_within bytes)

module _ (text : List ℕ) (there : 0 < length text) (letter : get_or text 0 0 ≡ exponent_byte) {sign : Sign} {signs value count : ℕ}
    (said : sign ≡ leading_sign (onward 1 text)) (counted : signs ≡ sign_count sign) (run : RunFound (onward signs (onward 1 text)) 2 0 value count) where
  -- the digits behind the sign
  abbrev digits : List ℕ
  digits = digits_in 2 (onward signs (onward 1 text))

  -- the sign's bytes
  long : signs ≡ sign_length sign
  long = (signs_found (onward 1 text) said counted).0

  -- the exponent is what the sign and the digits make
  power_run : power_in text ≡ power_of sign digits
  power_run =
      let behind : drop 1 text ≡ onward 1 text = sym (take_rest text 1) in
      let left : drop signs (onward 1 text) ≡ onward signs (onward 1 text) = sym (take_rest (onward 1 text) signs) in
      let size : sign_length (leading_sign (onward 1 text)) ≡ signs = sym (long ∙ ap sign_length said) in
      power_there text there letter
      ∙ ap (λ (l : List ℕ). power_of (leading_sign l) (digits_in 2 (drop (sign_length (leading_sign l)) l))) behind
      ∙ (λ i. power_of (sym said i) (digits_in 2 (drop (size i) (onward 1 text))))
      ∙ ap (λ (l : List ℕ). power_of sign (digits_in 2 l)) left

  -- E without a digit behind it
  pub power_bare : count ≡ 0 → PowerFound text exponent_limit 0
  power_bare none = power_none (power_run ∙ power_empty sign digits (sym run.counted ∙ none))

  -- E with a sign and digits
  pub power_some : (count ≡ 0 → ⊥) → {minus : Bool} → minus ≡ is_minus sign
      → PowerFound text (pick minus (exponent_limit - value) (exponent_limit + value)) (1 + signs + count)
  unfolding power_value power_bytes
  power_some some {minus} is =
      let all : power_in text ≡ exponent sign digits = power_run ∙ power_full sign digits (λ h. some (run.counted ∙ h)) in
      let size : value ≡ value_of digits = omega (arith, run.valued) in
      let up : pick minus (exponent_limit - value) (exponent_limit + value) ≡ power_value (exponent sign digits) =
      λ i. pick (is i) (exponent_limit - size i) (exponent_limit + size i) in
      let span : length (power_bytes (power_in text)) ≡ suc (length (sign_bytes sign ++ digit_bytes digits)) =
      ap (λ (p : ExponentPart). length (power_bytes p)) all in
      record {
        small = power_limits minus value (omega (arith, run_exponent run));
        valued = up ∙ sym (ap power_value all);
        spanned = omega (arith, span, length-append (sign_bytes sign) (digit_bytes digits), digit_bytes_length digits, run.counted, long);
      }

-- Lengths.

-- the length of a numeral is the sum of its parts' lengths
pub numeral_length : (u : NumeralParts)
    → length (numeral_bytes u) ≡ length u.integer + (length (point_bytes u.fraction) + length (power_bytes u.power))
unfolding numeral_bytes
numeral_length u = simp (length-append, digit_bytes_length)

-- the length of a text is the sum of its parts' lengths
pub text_length_lem : (t : TextParts) → length (text_bytes t) ≡ t.before + (sign_part_length t.sign + (length (numeral_bytes t.numeral) + t.behind))
unfolding text_bytes
text_length_lem t = simp (length-append, times_length)

-- the bytes of a point are at least its digits
pub point_long : (p : PointPart) → length (fraction_digits p) ≤ length (point_bytes p)
unfolding fraction_digits point_bytes
point_long no_point = omega arith
point_long (point ds) = omega (arith, digit_bytes_length ds)

-- a text is at least as long as its digits are many
pub text_long : (t : TextParts) → length (all_digits_of t.numeral) ≤ length (text_bytes t)
text_long t =
    let u = t.numeral in
    omega (arith, text_length_lem t, numeral_length u, length-append u.integer (fraction_digits u.fraction), point_long u.fraction)

-- The parts of a numeral, one behind the other: the parts of numeralIn, by name.

-- the digits before the point
unfoldable pub integer_in : List ℕ → List ℕ
integer_in bytes = digits_in precision bytes

-- the bytes behind them
unfoldable pub pointed_in : List ℕ → List ℕ
pointed_in bytes = drop (length (integer_in bytes)) bytes

-- the point and the digits behind it
unfoldable pub fraction_in : List ℕ → PointPart
fraction_in bytes = point_in (precision - length (integer_in bytes)) (pointed_in bytes)

-- the bytes behind them
unfoldable pub powered_in : List ℕ → List ℕ
powered_in bytes = drop (length (point_bytes (fraction_in bytes))) (pointed_in bytes)

-- the numeral is within the bytes
pub numeral_within : (bytes : List ℕ) → length (numeral_bytes (numeral_in bytes)) ≤ length bytes
unfolding numeral_in powered_in fraction_in pointed_in integer_in
numeral_within bytes =
    omega (
      arith,
      numeral_length (numeral_in bytes),
      digits_in_within precision bytes,
      length-drop (length (integer_in bytes)) bytes,
      point_within (precision - length (integer_in bytes)) (pointed_in bytes),
      length-drop (length (point_bytes (fraction_in bytes))) (pointed_in bytes),
      power_within (powered_in bytes),
    )

-- what is read of a numeral is within the bytes
pub numeral_inside : {bytes : List ℕ} {n : Numeral} → NumeralFound bytes n → n.used ≤ length bytes
numeral_inside {bytes} r = omega (arith, r.spanned, numeral_within bytes)

module _ (bytes : List ℕ) {value count whole places points : ℕ} (integer : RunFound bytes precision 0 value count)
    (part : FractionFound (onward count bytes) (precision - count) value whole places points) where
  -- the bytes behind the digits before the point
  to_point : onward count bytes ≡ pointed_in bytes
  unfolding pointed_in integer_in
  to_point = take_rest bytes count ∙ ap (λ (n : ℕ). drop n bytes) integer.counted

  -- the point and the digits there
  fraction : FractionFound (pointed_in bytes) (precision - length (integer_in bytes)) value whole places points
  unfolding integer_in
  fraction = rw (← integer.counted, ← to_point) part

  -- the digits are those before the point and those behind it
  digits_found : length (all_digits_of (numeral_in bytes)) ≡ count + places
  unfolding numeral_in fraction_in pointed_in integer_in
  digits_found = length-append (integer_in bytes) (fraction_digits (fraction_in bytes)) ∙ omega (arith, integer.counted, fraction.counted)

  -- their value is that of the two runs
  value_found : value_of (all_digits_of (numeral_in bytes)) ≡ whole
  unfolding numeral_in fraction_in pointed_in integer_in
  value_found =
      let before : value ≡ value_of (integer_in bytes) = omega (arith, integer.valued) in
      value_append (integer_in bytes) (fraction_digits (fraction_in bytes))
      ∙ sym (fraction.valued ∙ ap (λ (v : ℕ). behind_value v (fraction_digits (fraction_in bytes))) before)

  -- the parts make the numeral
  pub numeral_found : {up powers : ℕ} → PowerFound (onward points (onward count bytes)) up powers
      → NumeralFound bytes (record { count = count + places; value = whole; places = places; up = up; used = count + points + powers })
  unfolding numeral_in powered_in fraction_in pointed_in integer_in
  numeral_found found =
      let to_power : onward points (onward count bytes) ≡ powered_in bytes =
      take_rest (onward count bytes) points ∙ (λ i. drop (fraction.spanned i) (to_point i)) in
      let power = rw to_power at found in
      record {
        counted = sym digits_found;
        valued = sym value_found;
        few = omega (arith, fraction_most fraction);
        placed = fraction.counted;
        small = power.small;
        powered = power.valued;
        spanned = omega (arith, numeral_length (numeral_in bytes), integer.counted, fraction.spanned, power.spanned);
      }

-- Whether a numeral has a digit.

-- bytes begin with digits where the first is one
pub first_digit : (bytes : List ℕ) → 0 < length bytes → is_ascii_digit (get_or bytes 0 0) ≡ ltb 0 (length (digits_in precision bytes))
unfolding digits_in
first_digit [] h = absurd (omega arith)
first_digit (b ∷ bs) h = ascii_digit b ∙ go (is_digit b)
  where
    go : (test : Bool) → test ≡ ltb 0 (length (pick test ((b - zero_byte) ∷ digits_in 12 bs) []))
    go true = sym (lt-ltb 0 (suc (length (digits_in 12 bs))) (omega arith))
    go false = refl

-- where no byte stands they begin with none
pub first_absent : (bytes : List ℕ) → length bytes < 1 → false ≡ ltb 0 (length (digits_in precision bytes))
unfolding digits_in
first_absent [] h = refl
first_absent (b ∷ bs) h = absurd (omega arith)

-- where none stands first the digits are those behind the point
digits_pointed : (bytes : List ℕ) → digits_in precision bytes ≡ [] → all_digits_of (numeral_in bytes) ≡ fraction_digits (point_in precision bytes)
unfolding numeral_in
digits_pointed bytes none = rw none

-- behind a point that stands first
pub digit_behind_point : (text : List ℕ) {some : Bool} → 0 < length text → get_or text 0 0 ≡ point_byte
    → some ≡ ltb 0 (length (digits_in precision (onward 1 text)))
    → some ≡ ltb 0 (length (all_digits_of (numeral_in text)))
unfolding fraction_digits
digit_behind_point text h e w =
    let all : all_digits_of (numeral_in text) ≡ digits_in precision (drop 1 text) =
    digits_pointed text (digits_other precision text h (ap is_digit e)) ∙ ap fraction_digits (point_some precision text h e) in
    w
    ∙ ap (λ (l : List ℕ). ltb 0 (length (digits_in precision l))) (take_rest text 1)
    ∙ ap (λ (l : List ℕ). ltb 0 (length l)) (sym all)

-- where no byte stands
pub digit_absent : (text : List ℕ) → length text < 1 → false ≡ ltb 0 (length (all_digits_of (numeral_in text)))
unfolding numeral_in digits_in point_in fraction_digits
digit_absent [] h = refl
digit_absent (b ∷ bs) h = absurd (omega arith)

-- where no point stands first
pub digit_first : (text : List ℕ) {some : Bool} → (0 < length text → get_or text 0 0 ≡ point_byte → ⊥)
    → some ≡ ltb 0 (length (digits_in precision text))
    → some ≡ ltb 0 (length (all_digits_of (numeral_in text)))
unfolding numeral_in fraction_digits
digit_first text {some} other w = go (digits_in precision text) refl
  where
    go : (ds : List ℕ) → digits_in precision text ≡ ds → some ≡ ltb 0 (length (all_digits_of (numeral_in text)))
    go [] e =
        let all : all_digits_of (numeral_in text) ≡ [] = digits_pointed text e ∙ ap fraction_digits (point_none precision text other) in
        w ∙ ap (λ (l : List ℕ). ltb 0 (length l)) (e ∙ sym all)
    go (d ∷ ds) e =
        let some_digits : 0 < length (digits_in precision text) = omega (arith, ap length e) in
        let more : 0 < length (all_digits_of (numeral_in text)) =
        omega (arith, some_digits, length-append (digits_in precision text) (fraction_digits (numeral_in text).fraction)) in
        w
        ∙ lt-ltb 0 (length (digits_in precision text)) some_digits
        ∙ sym (lt-ltb 0 (length (all_digits_of (numeral_in text))) more)

-- The parts of a text, one behind the other: the parts of parts_in, by name.

-- the bytes behind the blanks
unfoldable pub signed_in : List ℕ → List ℕ
signed_in text = drop (blanks_in text) text

-- the bytes behind the sign and its blanks
unfoldable pub unsigned_in : List ℕ → List ℕ
unsigned_in text = drop (sign_part_length (sign_part_in (signed_in text))) (signed_in text)

-- the bytes behind the numeral
unfoldable pub end_in : List ℕ → List ℕ
end_in text = drop (length (numeral_bytes (numeral_in (unsigned_in text)))) (unsigned_in text)

-- The whole.

module _ (text : List ℕ) where
  -- without a digit there is no text number
  pub reading_none : length (all_digits_of (parts_in text).numeral) ≡ 0 → reading_in text ≡ no_reading
  unfolding reading_in
  reading_none none = rw (eq-eqb (length (all_digits_of (parts_in text).numeral)) 0 none)

  -- with a digit it is that of the parts
  pub reading_some : (length (all_digits_of (parts_in text).numeral) ≡ 0 → ⊥) → reading_in text ≡ reading_of (parts_in text)
  unfolding reading_in
  reading_some some = rw (ne_eqb (length (all_digits_of (parts_in text).numeral)) 0 some)

  -- the length of none
  pub legal_none : length (all_digits_of (parts_in text).numeral) ≡ 0 → legal_length text ≡ 0
  legal_none none = ap (λ (r : TextReading). r.used) (reading_none none)

  -- the length of the parts
  pub legal_some : (length (all_digits_of (parts_in text).numeral) ≡ 0 → ⊥) → legal_length text ≡ length (text_bytes (parts_in text))
  legal_some some = ap (λ (r : TextReading). r.used) (reading_some some)

  -- where the length is 0 there is no digit
  pub legal_digits : legal_length text ≡ 0 → length (all_digits_of (parts_in text).numeral) ≡ 0
  legal_digits none =
      ⊎_elim
      (λ (zero : length (all_digits_of (parts_in text).numeral) ≡ 0). zero)
      (λ (some : length (all_digits_of (parts_in text).numeral) ≡ 0 → ⊥). omega (arith, legal_some some, text_long (parts_in text)))
      (zero_or_not (length (all_digits_of (parts_in text).numeral)))

  -- so there is no text number
  pub reading_empty : legal_length text ≡ 0 → reading_in text ≡ no_reading
  reading_empty none = reading_none (legal_digits none)

  -- else its number is that of the parts
  pub reading_number : (legal_length text ≡ 0 → ⊥) → (reading_in text).number ≡ text_value (parts_in text)
  reading_number some =
      ap (λ (r : TextReading). r.number) (reading_some (λ (z : length (all_digits_of (parts_in text).numeral) ≡ 0). some (legal_none z)))

  -- a text that is a text number to its end has the number that is read
  pub convert_whole : legal_length text ≡ length text → convert_text text ≡ (reading_in text).number
  unfolding convert_text
  convert_whole whole = rw (eq-eqb (legal_length text) (length text) whole)

  -- another text has none
  pub convert_other : (legal_length text ≡ length text → ⊥) → convert_text text ≡ refused 8 0
  unfolding convert_text
  convert_other other = rw (ne_eqb (legal_length text) (length text) other)

  module _ {before signs : ℕ} {minus some : Bool} (first : before ≡ blanks_in text) (said : SignFound (onward before text) minus signs)
      (digits : some ≡ ltb 0 (length (all_digits_of (numeral_in (onward signs (onward before text)))))) where
    -- the bytes behind the blanks
    to_signed : onward before text ≡ signed_in text
    unfolding signed_in
    to_signed = take_rest text before ∙ ap (λ (n : ℕ). drop n text) first

    -- the sign there
    signed : SignFound (signed_in text) minus signs
    signed = rw to_signed at said

    -- the bytes behind it
    to_unsigned : onward signs (onward before text) ≡ unsigned_in text
    unfolding unsigned_in
    to_unsigned = take_rest (onward before text) signs ∙ (λ i. drop (signed.spanned i) (to_signed i))

    -- no digit stands there
    pub read_none : some ≡ false → no_reading ≡ reading_in text
    unfolding parts_in unsigned_in signed_in
    read_none none =
        let empty = ltb-false 0 (length (all_digits_of (numeral_in (onward signs (onward before text))))) (sym digits ∙ none) in
        sym (reading_none (omega (arith, empty, ap (λ (l : List ℕ). length (all_digits_of (numeral_in l))) to_unsigned)))

    -- digits stand there, and the parts make the text
    pub read_some : {n : Numeral} {behind : ℕ} {number : Answer Number}
        → some ≡ true
        → NumeralFound (onward signs (onward before text)) n
        → behind ≡ blanks_in (onward n.used (onward signs (onward before text)))
        → number ≡ scaled_number 0 minus n.value n.up (exponent_limit + n.places)
        → ◌≡◌ {A = TextReading} (record { used = before + signs + n.used + behind; number = number }) (reading_in text)
    unfolding parts_in end_in unsigned_in signed_in text_value
    read_some {n} {behind} {number} is found last scaled =
        let t = parts_in text in
        let numeral : NumeralFound (unsigned_in text) n = rw to_unsigned at found in
        let more = ltb-true 0 (length (all_digits_of (numeral_in (onward signs (onward before text))))) (sym digits ∙ is) in
        let same = ap (λ (l : List ℕ). length (all_digits_of (numeral_in l))) to_unsigned in
        let there : length (all_digits_of t.numeral) ≡ 0 → ⊥ = λ h. omega (arith, more, same, h) in
        let to_end : onward n.used (onward signs (onward before text)) ≡ end_in text =
        take_rest (onward signs (onward before text)) n.used ∙ (λ i. drop (numeral.spanned i) (to_unsigned i)) in
        let down_is = ap (λ (k : ℕ). exponent_limit + k) numeral.placed in
        let value-is : number ≡ text_value t = scaled ∙ (λ i. scaled_number 0 (signed.valued i) (numeral.valued i) (numeral.powered i) (down_is i)) in
        let size_is : before + signs + n.used + behind ≡ length (text_bytes t) =
        omega (arith, text_length_lem t, first, signed.spanned, numeral.spanned, last ∙ ap blanks_in to_end) in
        (λ i. record { used = size_is i; number = value-is i }) ∙ sym (reading_some there)

-- What an answer that is the reading of bytes says.

module _ (bytes : List ℕ) {used : ℕ} {number : Answer Number} (e : ◌≡◌ {A = TextReading} (record { used = used; number = number }) (reading_in bytes)) where
  -- its length
  pub read_used_lem : used ≡ legal_length bytes
  read_used_lem = ap (λ (r : TextReading). r.used) e

  -- its number
  pub read_number : (reading_in bytes).number ≡ number
  read_number = sym (ap (λ (r : TextReading). r.number) e)

-- What reading a text number gives, by what bytes are read as.

module _ (bytes : List ℕ) where
  -- nothing where the legal length is 0
  pub reads_none : legal_length bytes ≡ 0 → read_text bytes ≡ refused 8 0
  unfolding read_text
  reads_none none = rw (eq-eqb (legal_length bytes) 0 none)

  -- a number with the legal length
  abbrev with_length : Number → Answer TextNumber
  with_length n = done (record { number = n; used = legal_length bytes })

  -- it is the number with the legal length, also where that is 0 and there is none
  reads_then : read_text bytes ≡ ((reading_in bytes).number then with_length)
  unfolding read_text
  reads_then =
      ⊎_elim
      (λ (none : legal_length bytes ≡ 0).
      reads_none none ∙ sym (then_refused with_length (ap (λ (r : TextReading). r.number) (reading_empty bytes none))))
      (λ (some : legal_length bytes ≡ 0 → ⊥). rw (ne_eqb (legal_length bytes) 0 some))
      (zero_or_not (legal_length bytes))

  -- a number
  pub reads_number : {n : Number} {used : ℕ} → used ≡ legal_length bytes → (reading_in bytes).number ≡ done n
      → read_text bytes ≡ done (record { number = n; used = used })
  reads_number {n} size e = reads_then ∙ then_next with_length e ∙ (λ i. done (record { number = n; used = sym size i }))

  -- a refusal
  pub reads_refused : {number place : ℕ} → (reading_in bytes).number ≡ refused number place → read_text bytes ≡ refused number place
  reads_refused e = reads_then ∙ then_refused with_length e
