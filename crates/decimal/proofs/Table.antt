-- A table's rule: the list of a function's values, and what stands in it. A literal table is such a list by computation.
-- Assumes nothing.
use Rattle.std.proofs.Common.{◌≡◌, ℕ, zero, suc, ◌+◌, ◌<◌, List, [], ◌∷◌, get_or, ap, ◌∙◌, arith}

-- n values of f, the first at i
abbrev pub table_from : (ℕ → ℕ) → ℕ → ℕ → List ℕ
table_from f i zero = []
table_from f i (suc n) = f i ∷ table_from f (suc i) n

entry_from : (f : ℕ → ℕ) (i n k : ℕ) → k < n → get_or (table_from f i n) k 0 ≡ f (i + k)
entry_from f i zero k h = absurd (omega arith)
entry_from f i (suc n) zero h = ap f (omega arith)
entry_from f i (suc n) (suc k) h = entry_from f (suc i) n k (omega arith) ∙ ap f (omega arith)

-- the entry at k is the value at k
pub table_entry : (f : ℕ → ℕ) (n k : ℕ) → k < n → get_or (table_from f 0 n) k 0 ≡ f k
table_entry f n k h = entry_from f 0 n k h ∙ ap f (omega arith)
