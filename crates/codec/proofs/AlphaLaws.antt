-- Laws of alpha texts: their length, how their parts are written one behind the other, and when a number has one. Assumes nothing.
use Prim.Native.Nat.{ℕ, zero, suc, ◌+◌, ◌-◌, ◌*◌, ◌/◌, ◌%◌, ◌^◌, ◌<◌, ◌≤◌}
use mathlib.Core.Path.{◌≡◌, refl, ap, ap₂, sym, ◌∙◌}
use mathlib.Core.List.{List, [], ◌∷◌, ◌++◌}
use mathlib.Core.Bool.{Bool, true, false}
use native.Mathlib.Omega.{arith}
use native.Mathlib.Nat.{mod-eq_of_lt, div-one}
use lib.Dec.{ltb}
use lib.ListN.{length, get_or, set, length-append, length-set}
use Rattle.decimal.specs.declared.image.Sign.{Sign}
use Rattle.decimal.specs.declared.image.Sign.TheVariants.{Unsigned, Plus, Minus}
use Rattle.decimal.specs.declared.image.Image.{Image}
use Rattle.decimal.specs.declared.number.Number.{Number}
use Rattle.decimal.specs.Answer.{Answer, done, refused, ◌then◌, pick}
use Rattle.decimal.specs.Digits.{precision, digits_of, value_of, halves_in}
use Rattle.decimal.specs.Number.{exponent_limit}
use Rattle.decimal.specs.Image.{hash_byte, plus_byte, minus_byte, point_byte, sign_bytes, times, fraction_bytes, up_bytes, image_bytes, read_image}
use Rattle.decimal.specs.Truncation.{Truncated, truncation}
use Rattle.decimal.proofs.DigitLaws.{digits_length}
use Rattle.decimal.proofs.PackedLaws.{halves_length, half_at, shifted_halves}
use Rattle.decimal.proofs.ImageLaws.{times_length, read_done}
use Rattle.decimal.proofs.AnswerLaws.{never, one_answer}
use Rattle.codec.specs.Answers.{stored_in, within, sized}
use Rattle.decimal.specs.Cuts.{cut_of, IsCut}
use Rattle.codec.proofs.BufferLaws.{front_more, front_all}
use Rattle.codec.specs.Columns.{sign_count}
use Rattle.codec.proofs.ContentsLaws.{sign_few}
use Rattle.codec.specs.Packing.{exponent_size}
use Rattle.codec.specs.Alpha.{zero_byte, exponent_byte, digit_bytes, sign_shown, sign_text, fraction_text, exponent_text, alpha_text, alpha_under, alpha_of, writing_alpha_under, writing_alpha, zero_at, fraction_length, exponent_length, tail_length, text_length}

-- Lengths.

-- a byte for each digit
pub digit_bytes_length : (ds : List ℕ) → length (digit_bytes ds) ≡ length ds
unfolding digit_bytes
digit_bytes_length [] = refl
digit_bytes_length (d ∷ ds) = ap suc (digit_bytes_length ds)

-- so many digits, so many bytes
shown_length : (n k : ℕ) → length (digit_bytes (digits_of n k)) ≡ n
shown_length n k = digit_bytes_length (digits_of n k) ∙ digits_length n k

-- a sign is one byte
pub sign_text_length : (s : Sign) (negative : Bool) → length (sign_text s negative) ≡ sign_count s
unfolding sign_text
sign_text_length Unsigned negative = refl
sign_text_length Plus negative = refl
sign_text_length Minus negative = refl

-- no fraction, no byte
pub fraction_none : (f : ℕ) → f ≡ 0 → fraction_length f ≡ 0
unfolding fraction_length
fraction_none zero h = refl
fraction_none (suc f) h = absurd (omega arith)

-- the point, and a byte for each digit
pub fraction_some : (f : ℕ) → (f ≡ 0 → ⊥) → fraction_length f ≡ f + 1
unfolding fraction_length
fraction_some zero h = absurd (h refl)
fraction_some (suc f) h = omega arith

-- at most so many
pub fraction_few : (f : ℕ) → fraction_length f ≤ f + 1
unfolding fraction_length
fraction_few zero = omega arith
fraction_few (suc f) = omega arith

-- the digits are one less
pub fraction_less : (f : ℕ) {m : ℕ} → m ≡ fraction_length f → m - 1 ≡ f
unfolding fraction_length
fraction_less zero e = omega arith
fraction_less (suc f) e = omega arith

-- so the length is that of so many digits
pub fraction_same : (f : ℕ) {m : ℕ} → m ≡ fraction_length f → m ≡ fraction_length (m - 1)
fraction_same f e = e ∙ ap fraction_length (sym (fraction_less f e))

-- the fraction has its length
pub fraction_text_length : (f whole : ℕ) → length (fraction_text f whole) ≡ fraction_length f
unfolding fraction_text fraction_length
fraction_text_length zero whole = refl
fraction_text_length (suc f) whole = ap suc (shown_length (suc f) whole)

-- the exponent has its length
pub exponent_text_length : (e : Bool) (t : Truncated) → length (exponent_text e t) ≡ exponent_length e
unfolding exponent_text exponent_length
exponent_text_length true t = ap (λ (n : ℕ). suc (suc n)) (shown_length 2 (exponent_size t))
exponent_text_length false t = refl

-- at most four bytes
pub exponent_few : (e : Bool) → exponent_length e ≤ 4
unfolding exponent_length
exponent_few true = omega arith
exponent_few false = omega arith

-- the parts of a text are few bytes, with the sign
pub ruleset parts_few = (fraction_few, exponent_few, sign_few)

-- what stands behind the digits before the point
abbrev tail_text : Image → Truncated → List ℕ
tail_text im t = fraction_text im.fraction t.whole ++ exponent_text im.exponential t

-- and its length
tail_text_length : (im : Image) (t : Truncated) → length (tail_text im t) ≡ tail_length im
unfolding tail_length
tail_text_length im t =
    length-append (fraction_text im.fraction t.whole) (exponent_text im.exponential t)
    ∙ ap₂ ◌+◌ (fraction_text_length im.fraction t.whole) (exponent_text_length im.exponential t)

module _ (im : Image) (t : Truncated) where
  -- the digits before the point
  abbrev pub integer_text : List ℕ
  integer_text = digit_bytes (digits_of im.integer (t.whole / 10 ^ im.fraction))

  -- a text has the length that the code finds
  pub text_length_lem : length (alpha_text im t) ≡ text_length im
  unfolding alpha_text text_length
  text_length_lem =
      omega (
        arith,
        length-append (sign_text im.sign t.negative) (integer_text ++ tail_text im t),
        length-append integer_text (tail_text im t),
        sign_text_length im.sign t.negative,
        shown_length im.integer (t.whole / 10 ^ im.fraction),
        tail_text_length im t,
      )

-- an image's sign has the length of the text's
pub sign_bytes_length : (s : Sign) → length (sign_bytes s) ≡ sign_count s
unfolding sign_bytes
sign_bytes_length Unsigned = refl
sign_bytes_length Plus = refl
sign_bytes_length Minus = refl

-- an image's fraction has the length of the text's
fraction_bytes_length : (f : ℕ) → length (fraction_bytes f) ≡ fraction_length f
unfolding fraction_bytes fraction_length
fraction_bytes_length zero = refl
fraction_bytes_length (suc f) = ap suc (times_length (suc f) hash_byte)

-- the four 5E bytes have the length of the text's exponent
up_bytes_length : (e : Bool) → length (up_bytes e) ≡ exponent_length e
unfolding up_bytes exponent_length times
up_bytes_length true = refl
up_bytes_length false = refl

-- and so has its image
pub image_length : (im : Image) → length (image_bytes im) ≡ text_length im
unfolding image_bytes text_length tail_length
image_length im =
    let hashes# = times im.integer hash_byte in
    let behind = fraction_bytes im.fraction in
    let ups = up_bytes im.exponential in
    omega (
      arith,
      length-append (sign_bytes im.sign) (hashes# ++ (behind ++ ups)),
      length-append hashes# (behind ++ ups),
      length-append behind ups,
      sign_bytes_length im.sign,
      times_length im.integer hash_byte,
      fraction_bytes_length im.fraction,
      up_bytes_length im.exponential,
    )

-- and so have the bytes that are read as it
read_length : (place : ℕ) (bytes : List ℕ) {im : Image} → read_image place bytes ≡ done im → length bytes ≡ text_length im
read_length place bytes {im} read = ap length (read_done place bytes im read).0.rendered ∙ image_length im

-- Digits as half bytes.

-- the byte of a digit
digit_byte_at : (ds : List ℕ) (i : ℕ) → i < length ds → get_or (digit_bytes ds) i 0 ≡ zero_byte + get_or ds i 0
unfolding digit_bytes
digit_byte_at [] i h = absurd (omega arith)
digit_byte_at (d ∷ ds) zero h = refl
digit_byte_at (d ∷ ds) (suc i) h = digit_byte_at ds i (omega arith)

-- so many half bytes, so many bytes
pub half_bytes_length : (n k : ℕ) → length (digit_bytes (halves_in n k)) ≡ n
half_bytes_length n k = digit_bytes_length (halves_in n k) ∙ halves_length n k

-- one of them
pub half_byte_at : (n k i : ℕ) → i < n → get_or (digit_bytes (halves_in n k)) i 0 ≡ zero_byte + k / 2 ^ (4 * (n - 1 - i)) % 2 ^ 4
half_byte_at n k i h =
    digit_byte_at (halves_in n k) i (omega (arith, halves_length n k)) ∙ ap (λ (d : ℕ). zero_byte + d) (half_at n k i h)

-- the byte of a negative number's sign
pub minus_shown : (s : Sign) {negative : Bool} → negative ≡ true → minus_byte ≡ sign_shown s negative
unfolding sign_shown
minus_shown Unsigned e = rw e
minus_shown Plus e = rw e
minus_shown Minus e = rw e

-- a sign's text is its byte, where the image has a sign
sign_first : (s : Sign) (negative : Bool) → 0 < sign_count s → sign_shown s negative ≡ get_or (sign_text s negative) 0 0
unfolding sign_text sign_shown
sign_first Unsigned negative h = absurd (omega arith)
sign_first Plus negative h = refl
sign_first Minus negative h = refl

-- The parts of a text.

-- the sign, where there is one
pub sign_filled :
    (s : Sign) (negative : Bool) (target : List ℕ) {v : ℕ}
    → length target ≡ sign_count s
    → 0 < length target
    → v ≡ sign_shown s negative
    → set target 0 v ≡ sign_text s negative
sign_filled s negative target {v} same some e =
    let long : length target ≡ length (sign_text s negative) = same ∙ sym (sign_text_length s negative) in
    front_all (sign_text s negative) (set target 0 v) (length-set target 0 v ∙ long) 1 (front_more (sign_text s negative) target long 0 refl some (e ∙ sign_first s negative (omega arith)))
    (omega (arith, length-set target 0 v, sign_few s))

-- the point and the digits behind it
pub fraction_filled : (f whole : ℕ) {n : ℕ} {bytes : List ℕ} → suc n ≡ fraction_length f → bytes ≡ digit_bytes (digits_of n whole) → point_byte ∷ bytes ≡ fraction_text f whole
unfolding fraction_text fraction_length
fraction_filled zero whole h e = absurd (omega arith)
fraction_filled (suc f) whole {n} h e =
    let same : n ≡ suc f = omega arith in
    ap (λ (l : List ℕ). point_byte ∷ l) (e ∙ ap (λ (m : ℕ). digit_bytes (digits_of m whole)) same)

-- where a part has no bytes, its target is that part
pub nothing_filled : (bytes target : List ℕ) → length target ≡ length bytes → length target ≡ 0 → target ≡ bytes
nothing_filled bytes target same none = front_all bytes target same 0 refl (omega arith)

-- the exponent's four bytes
pub exponent_shown :
    (x : ℕ) {size sign tens ones : ℕ}
    → size ≡ pick (ltb x exponent_limit) (exponent_limit - x) (x - exponent_limit)
    → size ≤ exponent_limit
    → sign ≡ pick (ltb x exponent_limit) minus_byte plus_byte
    → tens ≡ zero_byte + size / 10
    → ones ≡ zero_byte + size % 10
    → (exponent_byte ∷ (sign ∷ (tens ∷ (ones ∷ [])))) ≡ exponent_text true (zero_at x)
unfolding exponent_text digit_bytes digits_of exponent_size
exponent_shown x {size} {sign} {tens} {ones} e small signed first last =
    let few : size / 10 < 10 = omega arith in
    let tens# = first ∙ ap (λ (k : ℕ). zero_byte + k) (sym (mod-eq_of_lt few)) ∙ ap (λ (k : ℕ). zero_byte + k / 10 % 10) e in
    let ones# = last ∙ ap (λ (k : ℕ). zero_byte + k % 10) (sym (div-one size) ∙ ap (λ (k : ℕ). k / 1) e) in
    λ i. exponent_byte ∷ (signed i ∷ (tens# i ∷ (ones# i ∷ [])))

-- the exponent is that of x
exponent_alike : (e : Bool) (t : Truncated) → exponent_text e (zero_at t.x) ≡ exponent_text e t
unfolding exponent_text exponent_size
exponent_alike true t = refl
exponent_alike false t = refl

-- the text is its parts, one behind the other
pub text_filled :
    {im : Image} {negative : Bool} {halves x : ℕ} {signs digits point exponent : List ℕ} {n m : ℕ}
    → IsCut im negative halves x
    → signs ≡ sign_text im.sign negative
    → n ≡ im.integer
    → digits ≡ digit_bytes (halves_in n (halves / 2 ^ (4 * im.fraction)))
    → m ≡ fraction_length im.fraction
    → point ≡ fraction_text (m - 1) (value_of (halves_in precision halves))
    → exponent ≡ exponent_text im.exponential (zero_at x)
    → signs ++ (digits ++ (point ++ exponent)) ≡ alpha_text im (cut_of negative halves x)
unfolding alpha_text
text_filled {im} {negative} {halves} {x} {n = n} {m} is signed many digited long pointed raised =
    let whole : ℕ = value_of (halves_in precision halves) in
    let shown =
    ap₂ (λ (k h : ℕ). halves_in k (h / 2 ^ (4 * im.fraction))) many is.digits ∙ shifted_halves precision im.integer im.fraction whole is.size in
    rw (signed, digited, shown, pointed, fraction_less im.fraction long, raised, exponent_alike im.exponential (cut_of negative halves x)) refl

-- What a call that writes answers, and the buffer behind it.

module _ (a : Answer (List ℕ)) (buffer : List ℕ) where
  -- refused: no byte changes
  pub refused_answers : {number place : ℕ} → a ≡ refused number place → (refused number place ≡ sized a) × (buffer ≡ stored_in a buffer)
  unfolding sized stored_in
  refused_answers h = (sym (ap sized h), sym (ap (λ (b : Answer (List ℕ)). stored_in b buffer) h))

  -- not refused: the bytes are written
  pub done_answers :
      {bytes after : List ℕ} {size : ℕ}
      → a ≡ done bytes
      → length bytes ≡ size
      → after ≡ stored_in (done bytes) buffer
      → (done size ≡ sized a) × (after ≡ stored_in a buffer)
  unfolding sized
  done_answers h e stored =
      (sym (ap sized h ∙ ap {B = Answer ℕ} done e), stored ∙ sym (ap (λ (b : Answer (List ℕ)). stored_in b buffer) h))

-- What a number's text is, and when it is refused.

module _ (im : Image) (n : Number) where
  -- under an image that is read 3, 4 and 5 are the number's
  pub under_refused : {number place : ℕ} → truncation 0 im n ≡ refused number place → alpha_under im n ≡ refused number place
  unfolding alpha_under ◌then◌
  under_refused h = rw h

  -- else there is a text
  pub under_done : {t : Truncated} → truncation 0 im n ≡ done t → alpha_under im n ≡ done (alpha_text im t)
  unfolding alpha_under alpha_text ◌then◌
  under_done h = rw h

  -- Published: the text has the length that the image says.
  pub alpha_under_length : {text : List ℕ} → alpha_under im n ≡ done text → length text ≡ text_length im
  alpha_under_length {text} h = go (truncation 0 im n) refl
    where
      go : (a : Answer Truncated) → truncation 0 im n ≡ a → length text ≡ text_length im
      go (done t) e = ap length (one_answer h (under_done e)) ∙ text_length_lem im t
      go (refused number place) e = never (under_refused e) h

  module _ (room : ℕ) where
    -- a number that has no text is refused as that says
    pub writing_under_refused : {number place : ℕ} → alpha_under im n ≡ refused number place → writing_alpha_under im n room ≡ refused number place
    unfolding writing_alpha_under ◌then◌
    writing_under_refused h = rw h

    -- any other is refused with 6, or written
    pub writing_under_made : {t : Truncated} → truncation 0 im n ≡ done t → writing_alpha_under im n room ≡ within room (alpha_text im t)
    unfolding writing_alpha_under ◌then◌
    writing_under_made h = rw (under_done h)

module _ (bytes : List ℕ) (n : Number) where
  -- 1 and 2 come first
  pub alpha_image : {number place : ℕ} → read_image 0 bytes ≡ refused number place → alpha_of bytes n ≡ refused number place
  unfolding alpha_of ◌then◌
  alpha_image h = rw h

  module _ (im : Image) (read : read_image 0 bytes ≡ done im) where
    -- else the answer is that under the image
    pub alpha_read : alpha_of bytes n ≡ alpha_under im n
    unfolding alpha_of ◌then◌
    alpha_read = rw read

    -- so is the call's
    pub writing_read : (room : ℕ) → writing_alpha bytes n room ≡ writing_alpha_under im n room
    unfolding writing_alpha writing_alpha_under
    writing_read room = ap (λ (a : Answer (List ℕ)). a then within room) alpha_read

  -- Published: the text has the image's length.
  pub alpha_length : {text : List ℕ} → alpha_of bytes n ≡ done text → length text ≡ length bytes
  alpha_length {text} h = go (read_image 0 bytes) refl
    where
      go : (a : Answer Image) → read_image 0 bytes ≡ a → length text ≡ length bytes
      go (done im) read = alpha_under_length im n (sym (alpha_read im read) ∙ h) ∙ sym (read_length 0 bytes read)
      go (refused number place) read = never (alpha_image read) h

  module _ (room : ℕ) where
    -- a number that has no text is refused as that says
    pub writing_refused : {number place : ℕ} → alpha_of bytes n ≡ refused number place → writing_alpha bytes n room ≡ refused number place
    unfolding writing_alpha ◌then◌
    writing_refused h = rw h
