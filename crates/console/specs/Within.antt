-- What reading promises of its count, and of the bytes where the reader's are known, as standard input's are not. Assumes nothing.
use Rattle.std.specs.Prelude.{◌≡◌, ℕ, ◌<◌, ◌≤◌, List, Option, Result, Ok, Err, length, take}
use Rattle.std.specs.Io.KnownBytes.{Consumes, IsAtEnd}

-- the first n bytes are there: n is in bounds, and they are n
abbrev pub IsPrefixLen : ℕ → List ℕ → Type 0
IsPrefixLen n bytes = (n ≤ length bytes) × (n ≡ length (take n bytes))

-- the bytes that were read stand at the start of a buffer; of a failed read nothing is said
abbrev pub Within : {E : Type 0} → Result ℕ E → List ℕ → Type 0
Within (Ok n) buffer = IsPrefixLen n buffer
Within (Err e) buffer = Unit {0}

-- the bytes that were read are the next ones that the reader had left, and a buffer that is not full took all of them
abbrev pub Reads : {E : Type 0} → Option (List ℕ) → Option (List ℕ) → Result ℕ E → List ℕ → Type 0
Reads old new (Ok n) buffer = Consumes old new (take n buffer) × (n < length buffer → IsAtEnd new)
Reads old new (Err e) buffer = Unit {0}
