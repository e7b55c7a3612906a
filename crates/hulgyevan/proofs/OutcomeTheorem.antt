-- The word of an answer tells it. Assumes nothing.
use Rattle.std.proofs.Common.{◌≡◌, ℕ, ◌/◌, ◌%◌, ◌<◌, Result, Ok, Err, refl, sym, ◌∙◌, arith}
use Rattle.decimal.specs.declared.refusal.Reason.{Reason}
use Rattle.decimal.specs.declared.refusal.Reason.TheVariants as reasons
use Rattle.decimal.specs.declared.refusal.Refusal.{Refusal}
use Rattle.decimal.specs.Answer.{Answer, done, refused, reason_number, meaning}
use Rattle.decimal.proofs.AnswerLaws.{never_done}
use Rattle.decimal.proofs.RefusalLaws.{RefusesOnly, only_done, only_refused}
use Rattle.hulgyevan.specs.Outcomes.{place_end, refusal_word, outcome, Told, Tells}

-- the number and the place that a refusal's word has
word_number : (number place : ℕ) → Told number place → refusal_word number place % 256 ≡ number
unfolding refusal_word
word_number number place t = let few = t.few in omega arith

word_place : (number place : ℕ) → Told number place → refusal_word number place / 256 ≡ place
unfolding refusal_word
word_place number place t = let few = t.few in let near = t.near in omega arith

word_some : (number place : ℕ) → Told number place → refusal_word number place ≡ 0 → ⊥
unfolding refusal_word
word_some number place t h = let some = t.some in omega arith

-- Published: an answer is told by its word where each refusal that it can be is.
pub outcome_tells : {A : Type 0} (a : Answer A) → RefusesOnly Told a → Tells a
unfolding outcome
outcome_tells (done value) only =
    record { zero = (λ h. (value, refl), λ h. refl); number = λ h. never_done (sym h); place = λ h. never_done (sym h) }
outcome_tells {A} (refused number place) only =
    record {
      zero = (λ h. absurd (word_some number place (only.each refl) h), λ h. never_done h.1);
      number = told_number;
      place = told_place;
    }
  where
    told_number : {n p : ℕ} → ◌≡◌ {A = Answer A} (refused number place) (refused n p) → refusal_word number place % 256 ≡ n
    told_number {n} {p} h = let same : number ≡ n = cc in word_number number place (only.each refl) ∙ same

    told_place : {n p : ℕ} → ◌≡◌ {A = Answer A} (refused number place) (refused n p) → refusal_word number place / 256 ≡ p
    told_place {n} {p} h = let same : place ≡ p = cc in word_place number place (only.each refl) ∙ same

-- every reason has such a number
reason_told : (reason : Reason) (place : ℕ) → place < place_end → Told (reason_number reason) place
reason_told reasons.NotAnImage place near = record { some = omega arith; few = omega arith; near = near }
reason_told reasons.TooManyDigits place near = record { some = omega arith; few = omega arith; near = near }
reason_told reasons.NotNormal place near = record { some = omega arith; few = omega arith; near = near }
reason_told reasons.Exceeds place near = record { some = omega arith; few = omega arith; near = near }
reason_told reasons.ExponentOutside place near = record { some = omega arith; few = omega arith; near = near }
reason_told reasons.NoRoom place near = record { some = omega arith; few = omega arith; near = near }
reason_told reasons.BadHalf place near = record { some = omega arith; few = omega arith; near = near }
reason_told reasons.NotText place near = record { some = omega arith; few = omega arith; near = near }
reason_told reasons.NoField place near = record { some = omega arith; few = omega arith; near = near }
reason_told reasons.WrongCount place near = record { some = omega arith; few = omega arith; near = near }
reason_told reasons.WrongLength place near = record { some = omega arith; few = omega arith; near = near }
reason_told reasons.NoRecord place near = record { some = omega arith; few = omega arith; near = near }
reason_told reasons.TextOutside place near = record { some = omega arith; few = omega arith; near = near }
reason_told reasons.PositionsFall place near = record { some = omega arith; few = omega arith; near = near }
reason_told reasons.RecordsFall place near = record { some = omega arith; few = omega arith; near = near }
reason_told reasons.WrongKind place near = record { some = omega arith; few = omega arith; near = near }
reason_told reasons.ContentsDiffer place near = record { some = omega arith; few = omega arith; near = near }
reason_told reasons.ReservationDiffers place near = record { some = omega arith; few = omega arith; near = near }

-- Published: so the word of what the code answers tells it, where the place is below 2^56.
pub result_tells : {A : Type 0} (r : Result A Refusal) → ((e : Refusal) → r ≡ Err e → e.place < place_end) → Tells (meaning r)
result_tells (Ok value) near = outcome_tells (done value) only_done
result_tells (Err e) near = outcome_tells (refused (reason_number e.reason) e.place) (only_refused (reason_told e.reason e.place (near e refl)))
