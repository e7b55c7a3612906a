-- Laws of answers one after the other. Assumes nothing.
use Rattle.std.proofs.Common.{◌≡◌, ℕ, true, Result, Ok, Err, sym, refl, ap, ◌∙◌, ap₂, arith}
use Rattle.std.specs.Result.{IsErrAnd, is_ok}
use Rattle.decimal.specs.declared.refusal.Refusal.{Refusal}
use Rattle.decimal.specs.Answer.{Answer, done, refused, ◌then◌, mapped, reason_number, meaning}

-- a refused answer is not done
pub never_done : {A B : Type 0} {number place : ℕ} {a : A} → ◌≡◌ {A = Answer A} (refused number place) (done a) → B
never_done h = let z : ◌≡◌ {A = ℕ} 0 1 = cc in absurd (omega arith)

-- an answer is not refused and done
pub never : {A B : Type 0} {a : Answer A} {m : A} {number place : ℕ} → a ≡ refused number place → a ≡ done m → B
never p q = never_done (sym p ∙ q)

-- results are equal where the answers are
pub done_same : {A : Type 0} {m n : A} → ◌≡◌ {A = Answer A} (done m) (done n) → m ≡ n
done_same p = cc

-- an answer has one result
pub one_answer : {A : Type 0} {a : Answer A} {m n : A} → a ≡ done m → a ≡ done n → m ≡ n
one_answer p q = done_same (sym p ∙ q)

-- two steps that are done: the first is, and the second is of its result
pub record Both {A B : Type 0} (a : Answer A) (f : A → Answer B) (b : B) : Type 0 where
  pub value : A
  pub first : a ≡ done value
  pub second : f value ≡ done b

-- an answer of two steps that is done is both
pub then_done : {A B : Type 0} (a : Answer A) (f : A → Answer B) {b : B} → (a then f) ≡ done b → Both a f b
unfolding ◌then◌
then_done (done x) f h = record { value = x; first = refl; second = h }
then_done (refused x y) f h = never_done h

-- a check that is done, and what is done behind it
pub then_last : {A : Type 0} (r : Answer (Unit {0})) (s : Answer A) {a : A} → (r then λ _. s) ≡ done a → (r ≡ done tt) × (s ≡ done a)
unfolding ◌then◌
then_last (done tt) s h = (refl, h)
then_last (refused number place) s h = never_done h

-- behind a first step that is done, the answer is the second's
pub then_next : {A B : Type 0} (f : A → Answer B) {a : A} {r : Answer A} → r ≡ done a → (r then f) ≡ f a
unfolding ◌then◌
then_next f {a} e = ap (λ (x : Answer _). x then f) e

-- so two steps that are done are one
pub then_both : {A B : Type 0} {a : Answer A} {x : A} {b : B} (f : A → Answer B) → a ≡ done x → f x ≡ done b → (a then f) ≡ done b
then_both f p q = then_next f p ∙ q

-- a first step that is refused is the answer
pub then_refused : {A B : Type 0} (f : A → Answer B) {number place : ℕ} {r : Answer A} → r ≡ refused number place → (r then f) ≡ refused number place
unfolding ◌then◌
then_refused f {number} {place} e = ap (λ (x : Answer _). x then f) e

-- and it is the only refusal where nothing behind it refuses
pub refused_first :
    {A B : Type 0} (a : Answer A) (f : A → Answer B) {number place : ℕ}
    → ((x : A) → a ≡ done x → (b : B) × ((a then f) ≡ done b))
    → (a then f) ≡ refused number place
    → a ≡ refused number place
unfolding ◌then◌
refused_first (done x) f behind h = never h (behind x refl).1
refused_first (refused x y) f {number} {place} behind h =
    let same_number : x ≡ number = cc in let same_place : y ≡ place = cc in ap₂ refused same_number same_place

-- a second step that gives what it is given changes nothing
pub then_same : {A : Type 0} (a : Answer A) → (a then λ (x : A). done x) ≡ a
unfolding ◌then◌
then_same (done x) = refl
then_same (refused number place) = refl

-- three steps one after the other, however they are put together
pub then_then : {A B C : Type 0} (a : Answer A) (f : A → Answer B) (g : B → Answer C) → (a then λ (x : A). (f x then g)) ≡ ((a then f) then g)
unfolding ◌then◌
then_then (done x) f g = refl
then_then (refused number place) f g = refl

-- What is refused behind a `?` is refused as the call before it was.
pub passed_on : {A : Type 0} (r : Result A Refusal) (e : Refusal) → IsErrAnd r (λ (y : Refusal). y ≡ e) → meaning r ≡ refused (reason_number e.reason) e.place
passed_on (Ok a) e h = absurd h
passed_on (Err y) e h = ap (λ (e : Refusal). refused (reason_number e.reason) e.place) h

-- Another result of an answer.

-- that of one that is done
pub mapped_done : {A B : Type 0} (f : A → B) {a : Answer A} {x : A} → a ≡ done x → mapped f a ≡ done (f x)
unfolding mapped
mapped_done f e = ap (mapped f) e

-- one that is refused stays so
pub mapped_refused : {A B : Type 0} (f : A → B) {a : Answer A} {number place : ℕ} → a ≡ refused number place → mapped f a ≡ refused number place
unfolding mapped
mapped_refused f e = ap (mapped f) e

-- and back: an answer that is done behind a change was done before it
pub mapped_back : {A B : Type 0} (f : A → B) (a : Answer A) {y : B} → done y ≡ mapped f a → (x : A) × (a ≡ done x) × (y ≡ f x)
unfolding mapped
mapped_back f (done x) h = (x, refl, done_same h)
mapped_back f (refused number place) h = never_done (sym h)

-- and so was one that is refused
pub mapped_refused_back : {A B : Type 0} (f : A → B) (a : Answer A) {number place : ℕ} → refused number place ≡ mapped f a → a ≡ refused number place
unfolding mapped
mapped_refused_back f (done x) h = never_done h
mapped_refused_back f (refused x y) {number} {place} h =
    let same_number : x ≡ number = cc in let same_place : y ≡ place = cc in ap₂ refused same_number same_place

-- Whether a call was done, asked of its result.

-- it was, with what it gave
pub ok_given : {A : Type 0} (r : Result A Refusal) → is_ok r ≡ true → (x : A) × (meaning r ≡ done x)
ok_given (Ok x) h = (x, refl)
ok_given (Err e) h = cc
