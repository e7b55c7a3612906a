-- A word tells its number and a number its word. Assumes nothing.
use Rattle.std.proofs.Common.{◌≡◌, ℕ, ◌+◌, ◌*◌, ◌/◌, ◌%◌, ◌^◌, ◌<◌, ◌≤◌, Bool, true, false, List, ◌∷◌, refl, sym, ap, ap₂, ◌∙◌, ⊎_elim, arith}
use Rattle.std.specs.Prelude.{leb}
use Rattle.std.proofs.lemmas.Bool.{le-leb, lt-leb}
use Rattle.decimal.specs.declared.number.Number.{Number}
use Rattle.decimal.specs.declared.remainder.Remainder.{Remainder}
use Rattle.decimal.specs.Answer.{done, pick}
use Rattle.decimal.specs.Number.{normal, magnitude}
use Rattle.decimal.specs.declared.image.Image.{Image}
use Rattle.decimal.specs.Truncation.{Truncated, truncation}
use Rattle.decimal.specs.Remainder.{remainder, cut_off, cut_power}
use Rattle.decimal.proofs.AnswerLaws.{then_done, done_same}
use Rattle.decimal.proofs.TruncationLaws.{truncation_fit}
use Rattle.decimal.proofs.RemainderLaws.{power_zero, power_some}
use Rattle.decimal.proofs.RemainderTheorem.{remainder_exactly}
use Rattle.decimal.proofs.BoolLaws.{zero_or_not}
use Rattle.decimal.proofs.DigitLaws.{le_or_lt}
use Rattle.decimal.proofs.NumberLaws.{number_path, normal_high, normal_top}
use Rattle.hulgyevan.specs.Words.{word_end, sign_bit, mantissa_end, exponent_end, number_in, fields_word, word_of, remainder_word, numbers_in, words_of, Held, AllHeld, no_number, one_number, AllWords, no_word, one_word}
use Rattle.hulgyevan.proofs.WordLaws.{fields_below}

-- the number of a word fills no more than its fields
pub word_held : (word : ℕ) → Held (number_in word)
unfolding number_in
word_held word = record { mantissa = omega arith; exponent = omega arith }

-- every word is the word of its number
pub word_back : (word : ℕ) → word < word_end → word_of (number_in word) ≡ word
unfolding word_of number_in fields_word
word_back word below =
    ⊎_elim (λ minus. rw (le-leb sign_bit word minus) (omega arith)) (λ plus. rw (lt-leb sign_bit word plus) (omega arith)) (le_or_lt sign_bit word)

-- a number's word is one
pub word_below : (n : Number) → word_of n < word_end
unfolding word_of fields_word
word_below n = go n.negative
  where
    go : (b : Bool) → pick b sign_bit 0 + (n.exponent % exponent_end * mantissa_end + n.mantissa % mantissa_end) < word_end
    go true = omega arith
    go false = omega arith

-- the three fields of a word

sign_back : (b : Bool) (fields : ℕ) → fields < sign_bit → leb sign_bit (pick b sign_bit 0 + fields) ≡ b
sign_back true fields below = le-leb sign_bit (sign_bit + fields) (omega arith)
sign_back false fields below = lt-leb sign_bit (0 + fields) (omega arith)

mantissa_back :
    (b : Bool) (e m : ℕ) → m < mantissa_end → (pick b sign_bit 0 + (e % exponent_end * mantissa_end + m % mantissa_end)) % mantissa_end ≡ m
mantissa_back true e m below = omega arith
mantissa_back false e m below = omega arith

exponent_back :
    (b : Bool) (e m : ℕ)
    → e < exponent_end
    → (pick b sign_bit 0 + (e % exponent_end * mantissa_end + m % mantissa_end)) / mantissa_end % exponent_end ≡ e
exponent_back true e m below = omega arith
exponent_back false e m below = omega arith

-- every number that fills no more than the fields is the number of its word
pub number_back : (n : Number) → Held n → number_in (word_of n) ≡ n
unfolding number_in word_of fields_word
number_back n held =
    number_path (sign_back n.negative (fields_word n.mantissa n.exponent) (fields_below n.mantissa n.exponent))
    (mantissa_back n.negative n.exponent n.mantissa held.mantissa)
    (exponent_back n.negative n.exponent n.mantissa held.exponent)

-- so is every number in normal form
pub normal_held : (n : Number) → normal n ≡ true → Held n
normal_held n form = record { mantissa = omega (arith, normal_high n form); exponent = omega (arith, normal_top n form) }

pub normal_back : (n : Number) → normal n ≡ true → number_in (word_of n) ≡ n
normal_back n form = number_back n (normal_held n form)

-- so two numbers in normal form with one word are the same
pub same_word : (n k : Number) → normal n ≡ true → normal k ≡ true → word_of n ≡ word_of k → n ≡ k
same_word n k first second same = sym (normal_back n first) ∙ ap number_in same ∙ normal_back k second

-- Lists.

-- each number of a list is the number of its word
pub numbers_back : {ns : List Number} → AllHeld ns → numbers_in (words_of ns) ≡ ns
numbers_back no_number = refl
numbers_back (one_number {n} held rest) = ap₂ ◌∷◌ (number_back n held) (numbers_back rest)

-- and each word of a list is the word of its number
pub words_back : {words : List ℕ} → AllWords words → words_of (numbers_in words) ≡ words
words_back no_word = refl
words_back (one_word {word} below rest) = ap₂ ◌∷◌ (word_back word below) (words_back rest)

-- Remainders.

-- a remainder that fills no more than the fields has the word of the plus number with these fields
pub remainder_back :
    (r : Remainder)
    → r.whole < mantissa_end
    → r.power < exponent_end
    → number_in (remainder_word r) ≡ record { negative = false; mantissa = r.whole; exponent = r.power }
unfolding remainder_word word_of
remainder_back r whole power =
    let same : remainder_word r ≡ word_of (record { negative = false; mantissa = r.whole; exponent = r.power }) = omega arith in
    ap number_in same ∙ number_back (record { negative = false; mantissa = r.whole; exponent = r.power }) (record { mantissa = whole; exponent = power })

-- so does each that truncation cuts off, and the number has its magnitude
pub cut_held :
    (place : ℕ) (im : Image) (n : Number) {r : Remainder}
    → remainder place im n ≡ done r
    → (r.whole < mantissa_end) × (r.power < exponent_end) × (magnitude (number_in (remainder_word r)) ≡ r.whole * 10 ^ r.power)
unfolding magnitude remainder cut_off
cut_held place im n {r} h =
    let b = then_done (truncation place im n) (λ (t : Truncated). done (cut_off im n t)) h in
    let held : r.power ≡ cut_power n = ap (λ (x : Remainder). x.power) (sym (done_same b.second)) in
    let top : cut_power n ≤ 198 =
    ⊎_elim (λ z. omega (arith, power_zero n z))
    (λ nz. omega (arith, power_some n nz, normal_top n (truncation_fit place im n b.first).number_checked)) (zero_or_not n.mantissa) in
    let below = (((remainder_exactly place im n).given r).0 h).2.below in
    let whole : r.whole < mantissa_end = omega arith in
    let power : r.power < exponent_end = omega arith in
    let back = remainder_back r whole power in
    (whole, power, λ i. (back i).mantissa * 10 ^ (back i).exponent)
