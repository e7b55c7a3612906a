-- `numbers_of` meets its contract. The loop's invariant: the numbers of the words that it went over are in the list, and those are no more
-- than it has room for. Assumes nothing.
use Rattle.std.proofs.Common.{◌≡◌, ◌≤◌, take}
use Rattle.hulgyevan.specs.Words.{numbers_in}
use Rattle.hulgyevan.proofs.words.numbers_of.Given as goal

abbrev pub invariant-loop-word : goal.invariant-loop-word
invariant-loop-word g l = (l.numbers.items ≡ numbers_in (take l.word-index l.words)) × (l.word-index ≤ g.row.N)
