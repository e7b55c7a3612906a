-- Document 01, Images: the reader accepts exactly the grammar, and gives its sign, i, f and kind.
-- Each image runs to its own counts, and what is accepted is an image (ImageTails). Assumes nothing.
use Rattle.std.proofs.Common.{◌≡◌, ℕ, zero, suc, ◌+◌, ◌<◌, ◌≤◌, Bool, true, false, eqb, ltb, ◌⊎◌, List, [], ◌∷◌, ◌++◌, length, get_or, sym, refl, ap, ◌∙◌, inl, inr, arith, ltb-false, ltb-true, le-ltb, lt-ltb, eq-eqb, ne_eqb}
use mathlib.Core.Path.{subst⁻¹}
use mathlib.Core.Bool.{false≢true}
use borrow.Author.Tests.{eqb-false}
use Rattle.decimal.specs.declared.image.Sign.{Sign}
use Rattle.decimal.specs.declared.image.Sign.TheVariants.{Unsigned, Plus, Minus}
use Rattle.decimal.specs.declared.image.Image.{Image}
use Rattle.decimal.specs.declared.image.Scan.{Scan}
use Rattle.decimal.specs.Answer.{Answer, done, refused}
use Rattle.decimal.specs.Digits.{precision}
use Rattle.decimal.specs.Image.{State, Start, Signed, Integer, Comma, Point, Fraction, Up, Stopped, state_of}
use Rattle.decimal.specs.Image.{plus_byte, minus_byte, hash_byte, point_byte}
use Rattle.decimal.specs.Image.{sign_bytes, times, fraction_bytes, up_bytes, image_bytes, hashes, IsImage}
use Rattle.decimal.specs.Image.{next_state, run_state, is_image, is_exponential, integer_hash, fraction_hash, counted, integers_from, fractions_from}
use Rattle.decimal.specs.Image.{sign_of, leading_sign, check_digits, check_image, scanned_image, Scanned, read_image, ReadsAs, within, too_many, no_image}
use Rattle.decimal.proofs.AnswerLaws.{never, never_done, one_answer}
use Rattle.decimal.proofs.ImageTails.{key, some_image}

-- n times a byte are n bytes
pub times_length : (n b : ℕ) → length (times n b) ≡ n
unfolding times
times_length zero b = refl
times_length (suc n) b = ap suc (times_length n b)

-- An image runs to its counts.

-- bytes read from a state on are accepted, with this kind and these counts
record ImageRun (s : State) (bs : List ℕ) (kind : Bool) (before behind : ℕ) : Type 0 where
  accepted : is_image (run_state s bs) ≡ true
  exponential : is_exponential (run_state s bs) ≡ kind
  integers : integers_from s bs ≡ before
  fractions : fractions_from s bs ≡ behind

-- one byte more in front
over : (s : State) (b : ℕ) {bs : List ℕ} {kind : Bool} {before behind : ℕ} → ImageRun (next_state s b) bs kind before behind
    → ImageRun s (b ∷ bs) kind (counted (integer_hash (next_state s b)) before) (counted (fraction_hash (next_state s b)) behind)
unfolding run_state integers_from fractions_from
over s b r =
    record {
      accepted = r.accepted;
      exponential = r.exponential;
      integers = ap (counted (integer_hash (next_state s b))) r.integers;
      fractions = ap (counted (fraction_hash (next_state s b))) r.fractions;
    }

fraction_run : (behind : ℕ) (kind : Bool) → ImageRun (Fraction false) (times behind hash_byte ++ up_bytes kind) kind 0 behind
unfolding run_state next_state integers_from fractions_from times up_bytes
fraction_run zero true = record { accepted = refl; exponential = refl; integers = refl; fractions = refl }
fraction_run zero false = record { accepted = refl; exponential = refl; integers = refl; fractions = refl }
fraction_run (suc n) kind = over (Fraction false) hash_byte (fraction_run n kind)

-- the bytes behind the sign
abbrev body_bytes : ℕ → ℕ → Bool → List ℕ
body_bytes before behind kind = times before hash_byte ++ (fraction_bytes behind ++ up_bytes kind)

integer_run : (before behind : ℕ) (kind : Bool) → ImageRun (Integer false) (body_bytes before behind kind) kind before behind
unfolding run_state next_state integers_from fractions_from times fraction_bytes up_bytes
integer_run zero zero true = record { accepted = refl; exponential = refl; integers = refl; fractions = refl }
integer_run zero zero false = record { accepted = refl; exponential = refl; integers = refl; fractions = refl }
integer_run zero (suc n) kind = over (Integer false) point_byte (over (Point false) hash_byte (fraction_run n kind))
integer_run (suc m) behind kind = over (Integer false) hash_byte (integer_run m behind kind)

start_run : (before behind : ℕ) (kind : Bool) → 0 < before + behind → ImageRun Start (body_bytes before behind kind) kind before behind
unfolding next_state times fraction_bytes
start_run zero zero kind h = absurd (omega arith)
start_run zero (suc n) kind h = over Start point_byte (over (Point false) hash_byte (fraction_run n kind))
start_run (suc m) behind kind h = over Start hash_byte (integer_run m behind kind)

signed_run : (before behind : ℕ) (kind : Bool) → 0 < before + behind → ImageRun Signed (body_bytes before behind kind) kind before behind
unfolding next_state times fraction_bytes
signed_run zero zero kind h = absurd (omega arith)
signed_run zero (suc n) kind h = over Signed point_byte (over (Point false) hash_byte (fraction_run n kind))
signed_run (suc m) behind kind h = over Signed hash_byte (integer_run m behind kind)

-- each image, with its sign
whole_run : (sign : Sign) (before behind : ℕ) (kind : Bool) → 0 < before + behind
    → ImageRun Start (sign_bytes sign ++ body_bytes before behind kind) kind before behind
unfolding next_state sign_bytes
whole_run Unsigned before behind kind h = start_run before behind kind h
whole_run Plus before behind kind h = over Start plus_byte (signed_run before behind kind h)
whole_run Minus before behind kind h = over Start minus_byte (signed_run before behind kind h)

-- the sign that is read
whole_sign : (sign : Sign) (before behind : ℕ) (kind : Bool) → 0 < before + behind
    → leading_sign (sign_bytes sign ++ body_bytes before behind kind) ≡ sign
unfolding leading_sign sign_bytes times fraction_bytes
whole_sign Unsigned zero zero kind h = absurd (omega arith)
whole_sign Unsigned zero (suc n) kind h = refl
whole_sign Unsigned (suc m) behind kind h = refl
whole_sign Plus before behind kind h = refl
whole_sign Minus before behind kind h = refl

-- The theorem.

-- each image is accepted, and read back with its sign, i, f and kind
pub scanned_complete : (im : Image) → 0 < hashes im
    → (is_image (run_state Start (image_bytes im)) ≡ true) × (scanned_image (image_bytes im) ≡ im)
unfolding image_bytes scanned_image
scanned_complete im h =
    let r = whole_run im.sign im.integer im.fraction im.exponential h in
    let s = whole_sign im.sign im.integer im.fraction im.exponential h in
    (r.accepted, λ k. record { sign = s k; integer = r.integers k; fraction = r.fractions k; exponential = r.exponential k })

-- the same of bytes that are an image
image_scanned : {bytes : List ℕ} {im : Image} → IsImage bytes im
    → (is_image (run_state Start bytes) ≡ true) × (scanned_image bytes ≡ im)
image_scanned {bytes} {im} r =
    subst⁻¹ (λ (l : List ℕ). (is_image (run_state Start l) ≡ true) × (scanned_image l ≡ im)) r.rendered
    (scanned_complete im r.nonempty)

-- bytes that are accepted are an image, the one that is read
pub scanned_sound : (bytes : List ℕ) → is_image (run_state Start bytes) ≡ true → IsImage bytes (scanned_image bytes)
scanned_sound bytes h =
    let r = some_image bytes h in
    subst⁻¹ (λ (im : Image). IsImage bytes im) (image_scanned r.holds).1 r.holds

-- bytes are one image at most
pub image_unique : {bytes : List ℕ} {a b : Image} → IsImage bytes a → IsImage bytes b → a ≡ b
image_unique r s = sym (image_scanned r).1 ∙ (image_scanned s).1

-- an image with no # is refused with 1
pub check_none : (place : ℕ) (im : Image) → hashes im ≡ 0 → check_image place im ≡ refused 1 place
unfolding check_image
check_none place im h = simp (eq-eqb (hashes im) 0 h)

-- one with more than precision is refused with 2
pub check_many : (place : ℕ) (im : Image) → precision < hashes im → check_image place im ≡ refused 2 place
unfolding check_image
check_many place im h =
    let n : hashes im ≡ 0 → ⊥ = λ e. omega arith in
    simp (ne_eqb (hashes im) 0 n, lt-ltb precision (hashes im) h)

-- any other is passed
pub check_within : (place : ℕ) (im : Image) → 0 < hashes im → hashes im ≤ precision → check_image place im ≡ done im
unfolding check_image
check_within place im p h =
    let n : hashes im ≡ 0 → ⊥ = λ e. omega arith in
    simp (ne_eqb (hashes im) 0 n, le-ltb precision (hashes im) h)

-- bytes that are an image are checked
pub reads_checked : (place : ℕ) {bytes : List ℕ} {im : Image} → IsImage bytes im → read_image place bytes ≡ check_image place im
unfolding read_image
reads_checked place r = let s = image_scanned r in rw (s.0, s.1)

-- an image of no more than precision # signs is read
pub reads_image : (place : ℕ) {bytes : List ℕ} {im : Image} → IsImage bytes im → hashes im ≤ precision → read_image place bytes ≡ done im
reads_image place {bytes} {im} r h = reads_checked place r ∙ check_within place im r.nonempty h

-- an image of more is refused with 2
pub reads_too_many : (place : ℕ) {bytes : List ℕ} {im : Image} → IsImage bytes im → precision < hashes im → read_image place bytes ≡ refused 2 place
reads_too_many place {bytes} {im} r h = reads_checked place r ∙ check_many place im h

-- where the machine does not accept, the answer is 1
pub reads_refused : (place : ℕ) (bytes : List ℕ) → is_image (run_state Start bytes) ≡ false → read_image place bytes ≡ refused 1 place
unfolding read_image
reads_refused place bytes h = rw h

-- bytes that are no image are refused with 1
pub reads_none : (place : ℕ) (bytes : List ℕ) → ((im : Image) → IsImage bytes im → ⊥) → read_image place bytes ≡ refused 1 place
reads_none place bytes none = go (is_image (run_state Start bytes)) refl
  where
    go : (t : Bool) → is_image (run_state Start bytes) ≡ t → read_image place bytes ≡ refused 1 place
    go true h = absurd (none (scanned_image bytes) (scanned_sound bytes h))
    go false h = reads_refused place bytes h

-- and there is no image
no_image_lem : (bytes : List ℕ) → is_image (run_state Start bytes) ≡ false → (im : Image) → IsImage bytes im → ⊥
no_image_lem bytes h im r = false≢true (sym h ∙ (image_scanned r).0)

-- bytes are read in one of the three ways
pub reads_exactly : (place : ℕ) (bytes : List ℕ) → ReadsAs place bytes
reads_exactly place bytes = go (is_image (run_state Start bytes)) refl
  where
    sized : IsImage bytes (scanned_image bytes) → (t : Bool) → ltb precision (hashes (scanned_image bytes)) ≡ t → ReadsAs place bytes
    sized r true h = let l = ltb-true _ _ h in too_many (scanned_image bytes) r l (reads_too_many place r l)
    sized r false h = let l = ltb-false _ _ h in within (scanned_image bytes) r l (reads_image place r l)

    go : (t : Bool) → is_image (run_state Start bytes) ≡ t → ReadsAs place bytes
    go true h = sized (scanned_sound bytes h) (ltb precision (hashes (scanned_image bytes))) refl
    go false h = no_image (no_image_lem bytes h) (reads_refused place bytes h)

-- what a check passes is the image itself, with at least one # and no more than precision
pub check_image_done : (place : ℕ) (im j : Image) → check_image place im ≡ done j → (j ≡ im) × (0 < hashes im) × (hashes im ≤ precision)
check_image_done place im j e = some (key (hashes im) 0)
  where
    few : 0 < hashes im → (t : Bool) → ltb precision (hashes im) ≡ t → (j ≡ im) × (0 < hashes im) × (hashes im ≤ precision)
    few p true h = never (check_many place im (ltb-true _ _ h)) e
    few p false h = let l = ltb-false _ _ h in (one_answer e (check_within place im p l), p, l)

    some : (hashes im ≡ 0) ⊎ (eqb (hashes im) 0 ≡ false) → (j ≡ im) × (0 < hashes im) × (hashes im ≤ precision)
    some (inl z) = never (check_none place im z) e
    some (inr n) =
        let m : hashes im ≡ 0 → ⊥ = eqb-false _ _ n in
        few (omega arith) (ltb precision (hashes im)) refl

-- what is read is the image that the bytes are, of no more than precision # signs
pub read_done : (place : ℕ) (bytes : List ℕ) (im : Image) → read_image place bytes ≡ done im → IsImage bytes im × (hashes im ≤ precision)
read_done place bytes im e = go (reads_exactly place bytes)
  where
    go : ReadsAs place bytes → IsImage bytes im × (hashes im ≤ precision)
    go (within j r h q) =
        subst⁻¹ (λ (i : Image). IsImage bytes i × (hashes i ≤ precision)) (one_answer e q) (r, h)
    go (too_many j r h q) = never q e
    go (no_image n q) = never q e

-- a byte that is no sign
pub unsigned : (b : ℕ) → (b ≡ plus_byte → ⊥) → (b ≡ minus_byte → ⊥) → sign_of b ≡ Unsigned
unsigned b p m = rw (ne_eqb b plus_byte p, ne_eqb b minus_byte m)

-- one byte counts once at most
pub hash_once : (s : State) {i f : ℕ} → i ≡ counted (integer_hash s) 0 → f ≡ counted (fraction_hash s) 0 → i + f ≤ 1
hash_once Start p q = omega arith
hash_once Signed p q = omega arith
hash_once (Integer g) p q = omega arith
hash_once Comma p q = omega arith
hash_once (Point g) p q = omega arith
hash_once (Fraction g) p q = omega arith
hash_once (Up n) p q = omega arith
hash_once Stopped p q = omega arith

-- so the # signs are no more than the bytes
pub hashes_from : (s : State) (bs : List ℕ) → integers_from s bs + fractions_from s bs ≤ length bs
unfolding integers_from fractions_from
hashes_from s [] = omega arith
hashes_from s (b ∷ bs) = go (next_state s b) (hashes_from (next_state s b) bs)
  where
    one : (t : Bool) (n : ℕ) → counted t n ≡ counted t 0 + n
    one true n = omega arith
    one false n = omega arith

    go : (t : State) → integers_from t bs + fractions_from t bs ≤ length bs
        → counted (integer_hash t) (integers_from t bs) + counted (fraction_hash t) (fractions_from t bs) ≤ suc (length bs)
    go t ih =
        let i = one (integer_hash t) (integers_from t bs) in
        let f = one (fraction_hash t) (fractions_from t bs) in
        let h : counted (integer_hash t) 0 + counted (fraction_hash t) 0 ≤ 1 = hash_once t refl refl in
        omega arith

-- The check of a count of # signs.

-- what it refuses is more, and refused with 2
pub digits_many : {number at_place : ℕ} (place n : ℕ) → refused number at_place ≡ check_digits place n
    → (precision < n) × (number ≡ 2) × (at_place ≡ place)
unfolding check_digits
digits_many {number} {at_place} place n = go (ltb precision n) refl
  where
    go : (t : Bool) → ltb precision n ≡ t → refused number at_place ≡ check_digits place n
        → (precision < n) × (number ≡ 2) × (at_place ≡ place)
    go true h e = let same : ◌≡◌ {A = Answer (Unit {0})} (refused number at_place) (refused 2 place) = e ∙ rw h in (ltb-true _ _ h, cc, cc)
    go false h e = never_done {number = number} {place = at_place} (e ∙ rw h)

-- What the reader makes of a scan.

-- bytes that are accepted are at least one
pub accepted_some : (bytes : List ℕ) → is_image (run_state Start bytes) ≡ true → 0 < length bytes
unfolding run_state
accepted_some [] h = absurd (false≢true h)
accepted_some (b ∷ bs) h = omega arith

-- the first of them says the sign
pub first_sign : (bytes : List ℕ) → 0 < length bytes → sign_of (get_or bytes 0 0) ≡ leading_sign bytes
unfolding leading_sign
first_sign [] h = absurd (omega arith)
first_sign (b ∷ bs) h = refl

module _ {bytes : List ℕ} {scan : Scan} (s : Scanned bytes scan) where
  -- where the last state is an image's, the bytes are accepted
  pub scan_accepted : {t : Bool} → is_image (state_of scan.state) ≡ t → is_image (run_state Start bytes) ≡ t
  scan_accepted h = sym (ap is_image s.ended) ∙ h

  -- a scan has no more # signs than bytes
  pub scan_few : scan.integer + scan.fraction ≤ length bytes
  scan_few = omega (arith, s.integers, s.fractions, hashes_from Start bytes)

  -- and with more than precision # signs they are refused with 2
  pub scan_many : (place : ℕ) → is_image (state_of scan.state) ≡ true → precision < scan.integer + scan.fraction
      → read_image place bytes ≡ refused 2 place
  unfolding scanned_image
  scan_many place h many =
      reads_too_many place (scanned_sound bytes (scan_accepted h)) (omega (arith, s.integers, s.fractions))

  -- with no more they are the image of the first byte's sign, the counts and the kind
  pub scan_image : (place : ℕ) {sign : Sign} {kind : Bool} → is_image (state_of scan.state) ≡ true
      → scan.integer + scan.fraction ≤ precision
      → sign ≡ sign_of (get_or bytes 0 0)
      → kind ≡ is_exponential (state_of scan.state)
      → read_image place bytes ≡ done (record { sign = sign; integer = scan.integer; fraction = scan.fraction; exponential = kind })
  unfolding scanned_image
  scan_image place {sign} {kind} h few p q =
      let accepted = scan_accepted h in
      let same : scanned_image bytes ≡ record { sign = sign; integer = scan.integer; fraction = scan.fraction; exponential = kind } =
      λ k.
      record {
        sign = sym (p ∙ first_sign bytes (accepted_some bytes accepted)) k;
        integer = sym s.integers k;
        fraction = sym s.fractions k;
        exponential = sym (q ∙ ap is_exponential s.ended) k;
      } in
      reads_image place (scanned_sound bytes accepted) (omega (arith, s.integers, s.fractions)) ∙ ap {B = Answer Image} done same
