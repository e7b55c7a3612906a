-- A number as one word of 64 bits: bit 63 is its sign, bits 52 to 62 are its exponent, bits 0 to 51 its mantissa.
use Rattle.std.specs.Prelude.{ℕ, ◌+◌, ◌*◌, ◌/◌, ◌%◌, ◌^◌, ◌<◌, List, [], ◌∷◌, map, leb}
use Rattle.decimal.specs.declared.number.Number.{Number}
use Rattle.decimal.specs.declared.remainder.Remainder.{Remainder}
use Rattle.decimal.specs.Answer.{pick}

-- all words are below this
abbrev pub word_end : ℕ
word_end = 2 ^ 64

-- bit 63
abbrev pub sign_bit : ℕ
sign_bit = 2 ^ 63

-- the field of the mantissa holds what is below this, and the field of the exponent is counted in it
abbrev pub mantissa_end : ℕ
mantissa_end = 2 ^ 52

-- the field of the exponent holds what is below this
abbrev pub exponent_end : ℕ
exponent_end = 2 ^ 11

-- a number that fills no more than the fields of a word: one in normal form does (the proofs' WordTheorem)
pub record Held (n : Number) : Type 0 where
  pub mantissa : n.mantissa < mantissa_end
  pub exponent : n.exponent < exponent_end

-- the number of a word, which need not be in normal form: minus where bit 63 is 1
unfoldable pub number_in : ℕ → Number
number_in word =
    record {
      negative = leb sign_bit word;
      mantissa = word % mantissa_end;
      exponent = word / mantissa_end % exponent_end;
    }

-- the word of a mantissa and an exponent, of each what its field holds
unfoldable pub fields_word : ℕ → ℕ → ℕ
fields_word mantissa exponent = exponent % exponent_end * mantissa_end + mantissa % mantissa_end

-- the word of a number
unfoldable pub word_of : Number → ℕ
word_of n = pick n.negative sign_bit 0 + fields_word n.mantissa n.exponent

-- the word of a remainder: r as the mantissa, the power as the exponent, as they are held
unfoldable pub remainder_word : Remainder → ℕ
remainder_word r = fields_word r.whole r.power

-- the numbers of words, in order
abbrev pub numbers_in : List ℕ → List Number
numbers_in words = map number_in words

-- the words of numbers, in order
abbrev pub words_of : List Number → List ℕ
words_of ns = map word_of ns

-- the words of remainders, in order
abbrev pub remainder_words : List Remainder → List ℕ
remainder_words rs = map remainder_word rs

-- numbers of which none fills more than the fields
pub data AllHeld : List Number → Type 0 where
  no_number : AllHeld []
  one_number : {n : Number} {ns : List Number} → Held n → AllHeld ns → AllHeld (n ∷ ns)

-- words, each of 64 bits
pub data AllWords : List ℕ → Type 0 where
  no_word : AllWords []
  one_word : {word : ℕ} {words : List ℕ} → word < word_end → AllWords words → AllWords (word ∷ words)
