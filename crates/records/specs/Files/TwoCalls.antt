-- Document 02, (vii), as laws: what the two calls do together, and what may happen between them.
use Rattle.std.specs.Prelude.{ℕ, ◌-◌, ◌≤◌, ◌≡◌, List, length, take}
use Rattle.decimal.specs.declared.number.Number.{Number}
use Rattle.decimal.specs.Answer.{Answer, done, refused, ◌then◌}
use Rattle.codec.specs.Columns.{body_size}
use Rattle.codec.specs.Contents.{Table, read_contents}
use Rattle.codec.specs.Answers.{within}
use Rattle.codec.specs.Packing.{pack_list}
use Rattle.records.specs.declared.files.reserving.Reservation.{Reservation}
use Rattle.records.specs.Files.RecordFile.{added, new_length, written_behind, shown}
use Rattle.records.specs.Files.Adding.{file_after, AddRefusable}
use Rattle.records.specs.Files.Reserving.{reserved, read_for, filled}

-- The two calls with nothing between them.

-- what they answer: the refusal of the first, else the answer of the second
abbrev pub answer_of_both : List ℕ → ℕ → List Number → Answer ℕ
answer_of_both buffer used ns = reserved buffer used then λ r. new_length used (filled buffer used r ns)

-- the buffer after them, by the answer of the first: one that is refused is not followed by the second
unfoldable pub bytes_of_both : List ℕ → ℕ → List Number → Answer Reservation → List ℕ
bytes_of_both buffer used ns (done r) = written_behind used (filled buffer used r ns) buffer
bytes_of_both buffer used ns (refused number place) = buffer

-- "The two with nothing between them equal the old add"
pub record EqualsAdd (buffer : List ℕ) (used : ℕ) (ns : List Number) : Type 0 where
  pub answer : answer_of_both buffer used ns ≡ new_length used (added buffer used ns)
  pub bytes : bytes_of_both buffer used ns (reserved buffer used) ≡ written_behind used (added buffer used ns) buffer

-- "where the body would go and how many bytes it fills": the part that show gives for the record that is added
pub record Foretells (buffer : List ℕ) (used : ℕ) (r : Reservation) (body : List ℕ) : Type 0 where
  pub start : r.start ≡ used
  pub size : length body ≡ r.size
  pub number : ℕ
  pub shows : shown (file_after buffer used body) number ≡ done (record { start = r.start; size = r.size })

-- Between the two calls.

-- the body for an answer and a list, of the file's own bytes: what stands behind them plays no part in it
unfoldable pub body_for : List ℕ → Reservation → List Number → Answer (List ℕ)
body_for file r ns = read_for r file then λ table. pack_list table.images ns

-- two buffers with the same file in their first bytes
pub record SameFile (used : ℕ) (one other : List ℕ) : Type 0 where
  pub bytes : take used one ≡ take used other
  pub inside : used ≤ length one
  pub inside_other : used ≤ length other

-- both are answered the same, but for room: the same place, and the same body or refusal of the file that they have
pub record SameButRoom (used : ℕ) (one other : List ℕ) (r : Reservation) (ns : List Number) : Type 0 where
  pub first : reserved one used ≡ reserved other used
  pub written : filled one used r ns ≡ (body_for (take used one) r ns then within (length one - used))
  pub written_other : filled other used r ns ≡ (body_for (take used one) r ns then within (length other - used))

-- "the file's used length, or the body's size under its contents, is not the one in the answer"
pub record Differs (buffer : List ℕ) (used : ℕ) (r : Reservation) : Type 0 where
  pub inside : used ≤ length buffer
  pub table : Table
  pub reads : read_contents (take used buffer) ≡ done table
  pub differs : (used ≡ r.start) × (body_size table.images ≡ r.size) → ⊥

-- the refusals that the second call can give: those of the old one, and 18 with place 0
pub data WriteRefusable : ℕ → ℕ → Type 0 where
  old : {number place : ℕ} → AddRefusable number place → WriteRefusable number place
  other_place : WriteRefusable 18 0
