-- What a call for C answers: a word, and what stands where its pointers for results point.
use Rattle.std.specs.Prelude.{◌≡◌, ℕ, ◌+◌, ◌*◌, ◌/◌, ◌%◌, ◌^◌, ◌<◌, ◌≤◌, ◌↔◌}
use Rattle.decimal.specs.Answer.{Answer, done, refused}

-- the places that a word has room for are below this
abbrev pub place_end : ℕ
place_end = 2 ^ 56

-- the word of a refusal: its number, and 256 times its place
unfoldable pub refusal_word : ℕ → ℕ → ℕ
refusal_word number place = number + 256 * (place % place_end)

-- the word of an answer: 0 where the call is done
unfoldable pub outcome : {A : Type 0} → Answer A → ℕ
outcome (done a) = 0
outcome (refused number place) = refusal_word number place

-- what stands where a pointer for a result points, after the call: the result, and what stood there where the call is refused
unfoldable pub value_or : Answer ℕ → ℕ → ℕ
value_or (done value) before = value
value_or (refused number place) before = before

-- What a word tells of an answer: what is proved of the definitions above.

-- the numbers of refusals are from 1 on and below this
abbrev pub numbers_end : ℕ
numbers_end = 19

-- a refusal whose word tells it
pub record Told (number place : ℕ) : Type 0 where
  pub some : 1 ≤ number
  pub few : number < numbers_end
  pub near : place < place_end

-- the word of an answer tells whether the call is done, and where it isn't the number and the place
pub record Tells {A : Type 0} (a : Answer A) : Type 0 where
  -- 0 exactly where the call is done
  pub zero : (outcome a ≡ 0) ↔ ((value : A) × (a ≡ done value))
  -- the number is what is left when the word is divided by 256, and the place is the quotient
  pub number : {number place : ℕ} → a ≡ refused number place → outcome a % 256 ≡ number
  pub place : {number place : ℕ} → a ≡ refused number place → outcome a / 256 ≡ place

-- What the words of the calls tell (the proofs' PlaceTheorem).

-- every place that a call gives is below this: the last is that of a field in a line of 4,096 bytes
abbrev pub places_end : ℕ
places_end = 4096

-- a refusal that a call can give
pub record Near (number place : ℕ) : Type 0 where
  pub some : 1 ≤ number
  pub few : number < numbers_end
  pub near : place < places_end

-- the word of a call's answer tells it, and is small
pub record CallTells {A : Type 0} (a : Answer A) : Type 0 where
  pub tells : Tells a
  pub near : {number place : ℕ} → a ≡ refused number place → place < places_end
  pub small : outcome a < 2 ^ 20
