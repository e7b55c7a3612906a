-- `write_remainder_words` meets its contract. The loop's invariant: the first k words of the target are the remainders'. Assumes nothing.
use Rattle.std.proofs.Common.{◌≡◌, take}
use Rattle.hulgyevan.specs.Words.{remainder_words}
use Rattle.hulgyevan.proofs.words.write_remainder_words.Given as goal

abbrev pub invariant-loop-k : goal.invariant-loop-k
invariant-loop-k l = take l.k l.target ≡ remainder_words (take l.k l.remainders)
