-- What the calls for texts give in words.
use Rattle.std.specs.Prelude.{ℕ, List}
use Rattle.decimal.specs.Answer.{Answer}
use Rattle.codec.specs.declared.text.TextNumber.{TextNumber}
use Rattle.codec.specs.declared.walking.Stop.{Stop}
use Rattle.codec.specs.Answers.{within}
use Rattle.codec.specs.Walking.{Walk, walk_meaning}
use Rattle.hulgyevan.specs.Words.{word_of, words_of}
use Rattle.hulgyevan.specs.Outcomes.{outcome}

-- the word of the number that a text begins with
abbrev pub read_word : TextNumber → ℕ
read_word read = word_of read.number

-- the bytes used
abbrev pub read_used : TextNumber → ℕ
read_used read = read.used

-- why reading stopped, as a word: 0 where the text ends, 8 where no text number begins, 10 before one too many, else the number's refusal
abbrev pub stop_word : Answer Stop → ℕ
stop_word answer = outcome (walk_meaning answer)

-- the numbers that were read in a slice of words: 6 where it is shorter than their list
unfoldable pub walk_words : Walk → ℕ → Answer (List ℕ)
walk_words walk room = within room (words_of walk.numbers)
