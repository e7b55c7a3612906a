-- What the calls that write answer, and what they leave in a lent buffer.
use Rattle.std.specs.Prelude.{ℕ, ◌+◌, List, [], ◌++◌, length, take, drop, ltb}
use Rattle.decimal.specs.Answer.{Answer, done, refused, pick}

-- the length of what an answer gives
unfoldable pub sized : Answer (List ℕ) → Answer ℕ
sized (done bytes) = done (length bytes)
sized (refused number place) = refused number place

-- 6 where an answer is longer than the buffer
unfoldable pub within : ℕ → List ℕ → Answer (List ℕ)
within room bytes = pick (ltb room (length bytes)) (refused 6 0) (done bytes)

-- a lent buffer after a call: what the call writes stands at its start, and the bytes behind stay; a refused call changes nothing
unfoldable pub stored_in : Answer (List ℕ) → List ℕ → List ℕ
stored_in (done bytes) buffer = bytes ++ drop (length bytes) buffer
stored_in (refused number place) buffer = buffer

-- the part of a buffer that an answer says was written; nothing where the call was refused, or where the buffer is shorter than that
unfoldable pub written_part : Answer ℕ → List ℕ → List ℕ
written_part (done size) buffer = pick (ltb (length buffer) size) [] (take size buffer)
written_part (refused number place) buffer = []

-- a buffer with other bytes written over its own, from a place on
unfoldable pub written : List ℕ → ℕ → List ℕ → List ℕ
written buffer start bytes = take start buffer ++ bytes ++ drop (start + length bytes) buffer
