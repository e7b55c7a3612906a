-- What a caller reads of a buffer behind a writing call is what the call wrote. Assumes nothing.
use Prim.Native.Nat.{ℕ, ◌≤◌}
use mathlib.Core.Path.{◌≡◌, refl}
use mathlib.Core.List.{List, ◌++◌}
use native.Mathlib.Omega.{arith}
use borrow.Author.Tests.{le-ltb}
use lib.ListN.{length, drop, length-append}
use lib.Seq.{take_at}
use Rattle.decimal.specs.Answer.{Answer, done, refused, given}
use Rattle.codec.specs.Answers.{stored_in, sized, written_part}

-- Published: of the buffer that a call stored its answer in, the part by the answer's size is the bytes of the answer.
pub written_bytes : (a : Answer (List ℕ)) (buffer : List ℕ) → written_part (sized a) (stored_in a buffer) ≡ given a
unfolding written_part sized stored_in given
written_bytes (done bytes) buffer =
    let room : length bytes ≤ length (bytes ++ drop (length bytes) buffer) =
    omega (arith, length-append bytes (drop (length bytes) buffer)) in
    rw (le-ltb (length (bytes ++ drop (length bytes) buffer)) (length bytes) room)
    (take_at bytes (drop (length bytes) buffer) (length bytes) refl)
written_bytes (refused number place) buffer = refl
