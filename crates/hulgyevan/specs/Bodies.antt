-- What the calls for contents and bodies give in words.
use Rattle.std.specs.Prelude.{ℕ, List, length, ltb}
use Rattle.std.specs.declared.cmp.Ordering.{Ordering}
use Rattle.std.specs.declared.cmp.Ordering.TheVariants.{Less, Equal, Greater}
use Rattle.decimal.specs.declared.number.Number.{Number}
use Rattle.decimal.specs.Answer.{Answer, done, refused, ◌then◌, pick}
use Rattle.codec.specs.Answers.{within}
use Rattle.codec.specs.Columns.{body_size}
use Rattle.codec.specs.Contents.{Table}
use Rattle.codec.specs.Packing.{packing}
use Rattle.codec.specs.Remainders.{packing_remainders}
use Rattle.codec.specs.Unpacking.{unpacking}
use Rattle.hulgyevan.specs.Words.{words_of, remainder_words}

-- an order as a word: 0 below, 1 equal, 2 above
abbrev pub order_word : Ordering → ℕ
order_word Less = 0
order_word Equal = 1
order_word Greater = 2

-- the count of a contents' columns
abbrev pub columns_of : Table → ℕ
columns_of table = length table.images

-- the length of a body under it
abbrev pub body_of : Table → ℕ
body_of table = body_size table.images

-- unpacking into a slice of words: 6, last, where it is shorter than the list
unfoldable pub unpacking_words : List ℕ → List ℕ → ℕ → Answer (List ℕ)
unpacking_words contents body room = unpacking contents body then λ ns. within room (words_of ns)

-- packing that gives the remainders too: 6, last, where the slice for them is shorter than the list
unfoldable pub packing_both : List ℕ → List Number → ℕ → ℕ → Answer (List ℕ)
packing_both contents ns room words_room =
    packing contents ns room then λ body. pick (ltb words_room (length ns)) (refused 6 0) (done body)

-- and the remainders' words
unfoldable pub remainders_both : List ℕ → List Number → ℕ → ℕ → Answer (List ℕ)
remainders_both contents ns room words_room =
    packing_remainders contents ns room then λ rs. within words_room (remainder_words rs)
