-- `write_words` meets its contract. The loop's invariant: the first k words of the target are the numbers'. Assumes nothing.
use Rattle.std.proofs.Common.{◌≡◌, take}
use Rattle.hulgyevan.specs.Words.{words_of}
use Rattle.hulgyevan.proofs.words.write_words.Given as goal

abbrev pub invariant-loop-k : goal.invariant-loop-k
invariant-loop-k l = take l.k l.target ≡ words_of (take l.k l.numbers)
