-- Document 01, Record file: whole bodies, one behind the other, and the alpha texts of one.
use Rattle.std.specs.Prelude.{ℕ, zero, suc, ◌/◌, ◌%◌, List, [], ◌∷◌, length, take, drop, eqb}
use Rattle.decimal.specs.declared.image.Image.{Image}
use Rattle.decimal.specs.Answer.{Answer, done, refused, ◌then◌, pick}
use Rattle.codec.specs.Columns.{body_size}
use Rattle.codec.specs.Unpacking.{unpack_body}
use Rattle.codec.specs.Alpha.{alpha_texts, parted}
use Rattle.codec.specs.Answers.{within}

-- so many bodies, one behind the other
unfoldable pub bodies : ℕ → ℕ → List ℕ → List (List ℕ)
bodies zero size bytes = []
bodies (suc n) size bytes = take size bytes ∷ bodies n size (drop size bytes)

-- bodies that can all be read: refused as the first bad one
unfoldable pub check_each : List Image → List (List ℕ) → Answer (Unit {0})
check_each ims [] = done tt
check_each ims (body ∷ bs) = unpack_body ims body then λ ns. check_each ims bs

-- bytes that are whole bodies which can all be read: 11 for a body of another length, a last one included, then 7 and the column within
-- the first bad one
unfoldable pub check_bodies : List Image → List ℕ → Answer (Unit {0})
check_bodies ims bytes =
    pick (eqb (length bytes % body_size ims) 0)
    (check_each ims (bodies (length bytes / body_size ims) (body_size ims) bytes))
    (refused 11 0)

-- the alpha texts of a body's numbers, parted by one blank
unfoldable pub body_text : List Image → List ℕ → Answer (List ℕ)
body_text ims body = unpack_body ims body then λ ns. (alpha_texts ims ns then λ texts. done (parted texts))

-- the same into a buffer with so much room: last 6
unfoldable pub writing_texts : List Image → List ℕ → ℕ → Answer (List ℕ)
writing_texts ims body room = body_text ims body then within room
