-- Laws of answers as words. Assumes nothing.
use Rattle.std.proofs.Common.{◌≡◌, ℕ, List, refl, sym, ap, ◌∙◌}
use Rattle.decimal.specs.Answer.{Answer, done, refused, mapped, ◌then◌}
use Rattle.decimal.proofs.AnswerLaws.{never_done}
use Rattle.codec.specs.Answers.{sized}
use Rattle.records.specs.Files.RecordFile.{new_length}
use Rattle.hulgyevan.specs.Outcomes.{refusal_word, outcome, value_or}

-- the word of an answer says nothing of its result

pub outcome_sized : (a : Answer (List ℕ)) → outcome (sized a) ≡ outcome a
unfolding outcome sized
outcome_sized (done bytes) = refl
outcome_sized (refused number place) = refl

pub outcome_mapped : {A B : Type 0} (f : A → B) (a : Answer A) → outcome (mapped f a) ≡ outcome a
unfolding outcome mapped
outcome_mapped f (done x) = refl
outcome_mapped f (refused number place) = refl

-- each case of an answer

pub outcome_done : {A : Type 0} {a : Answer A} {x : A} → done x ≡ a → outcome a ≡ 0
unfolding outcome
outcome_done h = sym (ap outcome h)

pub outcome_refused : {A : Type 0} {a : Answer A} {number place : ℕ} → refused number place ≡ a → outcome a ≡ refusal_word number place
unfolding outcome
outcome_refused h = sym (ap outcome h)

-- two steps of which the second gives the same in every case are the same
pub then_alike : {A B : Type 0} (a : Answer A) (f g : A → Answer B) → ((x : A) → a ≡ done x → f x ≡ g x) → (a then f) ≡ (a then g)
unfolding ◌then◌
then_alike (done x) f g h = h x refl
then_alike (refused number place) f g h = refl

-- nor of the used length with what is added
pub outcome_length : (used : ℕ) (a : Answer (List ℕ)) → outcome (new_length used a) ≡ outcome a
unfolding outcome new_length
outcome_length used (done body) = refl
outcome_length used (refused number place) = refl

-- An answer of whose result a length is given.

-- the call is done
pub sized_word : (a : Answer (List ℕ)) {size : ℕ} → done size ≡ sized a → outcome a ≡ 0
unfolding outcome
sized_word a h = sym (outcome_sized a) ∙ sym (ap outcome h)

pub sized_value : (a : Answer (List ℕ)) {size : ℕ} (before : ℕ) → done size ≡ sized a → value_or (sized a) before ≡ size
unfolding value_or
sized_value a before h = sym (ap (λ (x : Answer ℕ). value_or x before) h)

pub sized_other : (a : Answer (List ℕ)) {size : ℕ} (value before : ℕ) → done size ≡ sized a → value_or (mapped (λ _. value) a) before ≡ value
unfolding value_or mapped sized
sized_other (done bytes) value before h = refl
sized_other (refused number place) value before h = never_done (sym h)

-- or refused
pub unsized_word : (a : Answer (List ℕ)) {number place : ℕ} → refused number place ≡ sized a → outcome a ≡ refusal_word number place
unfolding outcome
unsized_word a h = sym (outcome_sized a) ∙ sym (ap outcome h)

pub unsized_value : (a : Answer (List ℕ)) {number place : ℕ} (before : ℕ) → refused number place ≡ sized a → value_or (sized a) before ≡ before
unfolding value_or
unsized_value a before h = sym (ap (λ (x : Answer ℕ). value_or x before) h)

pub unsized_other :
    (a : Answer (List ℕ)) {number place : ℕ} (value before : ℕ) → refused number place ≡ sized a → value_or (mapped (λ _. value) a) before ≡ before
unfolding value_or mapped sized
unsized_other (done bytes) value before h = never_done h
unsized_other (refused number place) value before h = refl
