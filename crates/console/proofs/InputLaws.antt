-- What a caller takes from the answer of reading. Assumes nothing.
use Rattle.std.proofs.Common.{◌≡◌, ℕ, List, Result, Ok, subst}
use Rattle.console.specs.Within.{IsPrefixLen, Within}

-- a count that reading gave is inside the buffer
pub read_inside : {E : Type 0} (buffer : List ℕ) {found : Result ℕ E} {size : ℕ} → found ≡ Ok size → Within found buffer → IsPrefixLen size buffer
read_inside buffer e h = subst (λ (r : Result ℕ _). Within r buffer) e h
