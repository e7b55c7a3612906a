-- What a call answers: its result, or document 01's refusal number and place.
use Rattle.std.specs.Prelude.{ℕ, Bool, true, false, List, [], Result, Ok, Err}
use Rattle.decimal.specs.declared.refusal.Reason.{Reason}
use Rattle.decimal.specs.declared.refusal.Reason.TheVariants as reasons
use Rattle.decimal.specs.declared.refusal.Refusal.{Refusal}

infixl 20 ◌then◌
pub data Answer (A : Type 0) : Type 0 where
  done : A → Answer A
  refused : ℕ → ℕ → Answer A

-- the first refusal, else what the second step makes of the first one's result: a definition shows the order of its refusals
unfoldable pub ◌then◌ : {A B : Type 0} → Answer A → (A → Answer B) → Answer B
done a then f = f a
refused number place then f = refused number place

-- the first value where the test holds, else the second
abbrev pub pick : {A : Type 0} → Bool → A → A → A
pick true a b = a
pick false a b = b

-- what an answer gives, nothing where it is a refusal
unfoldable pub given : {A : Type 0} → Answer (List A) → List A
given (done xs) = xs
given (refused number place) = []

-- an answer without its result
unfoldable pub checked_only : {A : Type 0} → Answer A → Answer (Unit {0})
checked_only (done a) = done tt
checked_only (refused number place) = refused number place

-- an answer with another result, made of its own
unfoldable pub mapped : {A B : Type 0} → (A → B) → Answer A → Answer B
mapped f (done a) = done (f a)
mapped f (refused number place) = refused number place

-- the number of each of the code's reasons, in the table "When a call says no"
abbrev pub reason_number : Reason → ℕ
reason_number reasons.NotAnImage = 1
reason_number reasons.TooManyDigits = 2
reason_number reasons.NotNormal = 3
reason_number reasons.Exceeds = 4
reason_number reasons.ExponentOutside = 5
reason_number reasons.NoRoom = 6
reason_number reasons.BadHalf = 7
reason_number reasons.NotText = 8
reason_number reasons.NoField = 9
reason_number reasons.WrongCount = 10
reason_number reasons.WrongLength = 11
reason_number reasons.NoRecord = 12
reason_number reasons.TextOutside = 13
reason_number reasons.PositionsFall = 14
reason_number reasons.RecordsFall = 15
reason_number reasons.WrongKind = 16
reason_number reasons.ContentsDiffer = 17
reason_number reasons.ReservationDiffers = 18

-- each case of what a call returns, in document 01's numbers
abbrev pub meaning : {A : Type 0} → Result A Refusal → Answer A
meaning (Ok a) = done a
meaning (Err r) = refused (reason_number r.reason) r.place
