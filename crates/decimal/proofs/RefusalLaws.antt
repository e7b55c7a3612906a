-- Which refusals an answer can be. Assumes nothing.
use Rattle.std.proofs.Common.{◌≡◌, ℕ, Bool, true, false, not, ◌&&◌, eqb, ltb, List, sym, refl, subst}
use Rattle.decimal.specs.declared.number.Number.{Number}
use Rattle.decimal.specs.Answer.{Answer, done, refused, ◌then◌, pick}
use Rattle.decimal.specs.Digits.{precision}
use Rattle.decimal.specs.declared.image.Image.{Image}
use Rattle.decimal.specs.Number.{normal, check_number, exponent_limit}
use Rattle.decimal.specs.Image.{Start, is_image, run_state, hashes, check_image, scanned_image, read_image}
use Rattle.decimal.specs.Truncation.{is_signed, exceeds, exponent_outside, truncation, limited, packable, packed_truncation}
use Rattle.decimal.proofs.AnswerLaws.{never_done}

-- an answer that, where it is a refusal, is one of a kind: of these numbers and places
pub record RefusesOnly {A : Type 0} (kind : ℕ → ℕ → Type 0) (a : Answer A) : Type 0 where
  pub each : {number place : ℕ} → a ≡ refused number place → kind number place

module _ {kind : ℕ → ℕ → Type 0} where
  -- one that is done
  pub only_done : {A : Type 0} {a : A} → RefusesOnly kind (done a)
  only_done = record { each = λ h. never_done (sym h) }

  -- one that is refused so
  pub only_refused : {A : Type 0} {number place : ℕ} → kind number place → RefusesOnly {A = A} kind (refused number place)
  only_refused {A} {number} {place} k = record { each = same }
    where
      same : {n p : ℕ} → ◌≡◌ {A = Answer A} (refused number place) (refused n p) → kind n p
      same {n} {p} h =
          let same_number : number ≡ n = cc in
          let same_place : place ≡ p = cc in
          subst (λ (x : ℕ). kind n x) same_place (subst (λ (x : ℕ). kind x place) same_number k)

  -- a choice
  pub only_choice : {A : Type 0} (test : Bool) {x y : Answer A} → RefusesOnly kind x → RefusesOnly kind y → RefusesOnly kind (pick test x y)
  only_choice true p q = p
  only_choice false p q = q

  -- a step after another
  pub only_then : {A B : Type 0} (a : Answer A) {f : A → Answer B} → RefusesOnly kind a → ((v : A) → RefusesOnly kind (f v)) → RefusesOnly kind (a then f)
  unfolding ◌then◌
  only_then (done v) p q = q v
  only_then (refused number place) p q = only_refused (p.each refl)

  -- checking an image gives 1 and 2 alone,
  check_refusals : (place : ℕ) (im : Image) → kind 1 place → kind 2 place → RefusesOnly kind (check_image place im)
  unfolding check_image
  check_refusals place im one two =
      only_choice (eqb (hashes im) 0) (only_refused one) (only_choice (ltb precision (hashes im)) (only_refused two) only_done)

  -- Published: and so does reading one;
  pub image_refusals : (place : ℕ) (bytes : List ℕ) → kind 1 place → kind 2 place → RefusesOnly kind (read_image place bytes)
  unfolding read_image
  image_refusals place bytes one two =
      only_choice (is_image (run_state Start bytes)) (check_refusals place (scanned_image bytes) one two) (only_refused one)

  -- checking a number 3.
  pub number_refusals : (place : ℕ) (n : Number) → kind 3 place → RefusesOnly kind (check_number place n)
  unfolding check_number
  number_refusals place n three = only_choice (normal n) only_done (only_refused three)

  -- Published: truncating a number to pack it gives 1 to 5 alone.
  pub packed_refusals :
      (place : ℕ) (im : Image) (n : Number)
      → kind 1 place
      → kind 2 place
      → kind 3 place
      → kind 4 place
      → kind 5 place
      → RefusesOnly kind (packed_truncation place im n)
  unfolding packed_truncation truncation limited packable
  packed_refusals place im n one two three four five =
      only_then (truncation place im n)
      (only_then (check_image place im) (check_refusals place im one two)
      (λ _. only_then (check_number place n) (number_refusals place n three)
      (λ _. only_choice im.exponential (only_choice (exponent_outside im n) (only_refused five) only_done)
      (only_choice (exceeds im n) (only_refused four) only_done))))
      (λ t. only_choice (not (is_signed im.sign) && ltb t.x exponent_limit) (only_refused five) only_done)
