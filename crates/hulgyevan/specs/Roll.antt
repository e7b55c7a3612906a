-- What the calls for whole files of a roll give in words.
use Rattle.std.specs.Prelude.{ℕ, List, length, ltb}
use Rattle.decimal.specs.declared.number.Number.{Number}
use Rattle.decimal.specs.Answer.{Answer, done, refused, ◌then◌, pick}
use Rattle.rolls.specs.Searching.{Search, searching}

-- finding into a slice of sizes: 6, last, where it is shorter than the list
unfoldable pub finding : List ℕ → List Number → ℕ → Answer Search
finding file ps room = searching file ps then λ found. pick (ltb room (length found.records)) (refused 6 0) (done found)

-- the numbers of the records that were found
abbrev pub found_records : Search → List ℕ
found_records found = found.records

-- the count of comparisons
abbrev pub found_comparisons : Search → ℕ
found_comparisons found = found.comparisons
