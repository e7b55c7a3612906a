-- What the print loops have written into the buffer. Assumes nothing.
use Prim.Native.Nat.{ℕ, ◌+◌, ◌-◌, ◌<◌, ◌≤◌}
use mathlib.Core.Path.{◌≡◌, refl, ap, ap₂, sym, ◌∙◌, subst}
use mathlib.Core.List.{List, [], ◌∷◌}
use native.Mathlib.Omega.{arith}
use lib.ListN.{length, take, drop, get_or, set}
use lib.Seq.{take_all, length-take-le}
use borrow.Rule.Slice.PartMut.{put_mid}
use Rattle.codec.specs.Answers.{written}
use Rattle.codec.proofs.ComingLaws.{written_byte, lent_written}
use Rattle.codec.proofs.BufferLaws.{written_none, written_next, written_length}
use Rattle.records.specs.declared.lines.fields.Element.{Element}
use Rattle.records.specs.Lines.Fields.{element_bytes, element_spills}
use Rattle.codec.specs.Walking.{line_end}
use Rattle.records.specs.Lines.Printing.{literals, Print, print_from, LineReady}
use Rattle.records.proofs.LineProofs.PrintLaws.{Step, literals_front, step_element, step_length_lem, step_line, step_literals}
use Rattle.records.proofs.LineProofs.BoundLaws.{ready_field}
use Rattle.records.specs.declared.lines.line_fields.Field.{Field}
use Rattle.records.proofs.LineProofs.LineFieldLaws.{NextField}
use Rattle.records.proofs.LineProofs.PlaceLaws.{Place, Stands, element_size, first_left, front_next, next_part, place_ends, place_literals, zero_element}

-- The buffer.

-- a buffer into which so many bytes of the whole were written
pub record Writing (entry texts line : List ℕ) (es : List Element) (out : ℕ) (buffer : List ℕ) : Type 0 where
  pub room : length (print_from texts line line es).bytes ≤ length entry
  pub holds : buffer ≡ written entry 0 (take out (print_from texts line line es).bytes)

-- before the first byte
pub writing_starts : (entry texts line : List ℕ) (es : List Element) → length (print_from texts line line es).bytes ≤ length entry
    → Writing entry texts line es 0 entry
writing_starts entry texts line es h = record { room = h; holds = sym (written_none entry) }

module _ {entry texts line : List ℕ} {es : List Element} {p : Print} {out : ℕ} {buffer : List ℕ} (w : Writing entry texts line es out buffer)
    (h : Stands (print_from texts line line es) out p) where
  -- what was written is as long as counted
  front_size : length (take out (print_from texts line line es).bytes) ≡ out
  front_size = length-take-le out (print_from texts line line es).bytes (omega (arith, h.size))

  -- the buffer keeps its length
  pub writing_length : length buffer ≡ length entry
  writing_length =
      ap length w.holds ∙ written_length entry 0 (take out (print_from texts line line es).bytes) (omega (arith, front_size, w.room, h.size))

  -- a step has room
  pub writing_room : {q : Print} {b : List ℕ} {s : ℕ} → Step p b s q → out + length b ≤ length buffer
  writing_room st = omega (arith, writing_length, step_length_lem st, h.size, w.room)

  -- one step on
  pub writing_next : {q : Print} {b next : List ℕ} {s : ℕ} (n : ℕ) → Step p b s q → length b ≡ n → next ≡ written buffer out b
      → Writing entry texts line es (out + n) next
  writing_next {q} {b} {next} {s} n st l e =
      let front : List ℕ = take out (print_from texts line line es).bytes in
      let place : 0 + length front ≡ out = omega (arith, front_size) in
      record {
        room = w.room;
        holds =
            e
            ∙ ap₂ (λ (x : List ℕ) (k : ℕ). written x k b) w.holds (sym place)
            ∙ written_next entry 0 front b (omega (arith, place, step_length_lem st, h.size, w.room))
            ∙ ap (written entry 0) (sym (front_next n h st l));
      }

module _ {line texts : List ℕ} {es left : List Element} {from out : ℕ} {entry buffer : List ℕ}
    (w : Writing entry texts line es out buffer) (p : Place line es left from out) where
  -- the literal bytes have room
  pub literals_room : {start : ℕ} → start ≡ from + length (literals (drop from line)) → out + (start - from) ≤ length buffer
  literals_room {start} first =
      omega (arith, writing_room w (p.stands texts) (step_literals texts line left from start first))

  -- the literal bytes are written
  pub writing_literals : {start : ℕ} {lent : List ℕ} → start ≡ from + length (literals (drop from line))
      → lent ≡ take (start - from) (drop from line)
      → Writing entry texts line es (out + (start - from)) (put_mid out (out + (start - from) - out) buffer lent)
  writing_literals {start} {lent} first e =
      let n : start - from ≡ length (literals (drop from line)) = omega arith in
      let m : out + (start - from) - out ≡ length (literals (drop from line)) = omega arith in
      writing_next w (p.stands texts) (start - from)
      (step_literals texts line left from start first)
      (sym n)
      (lent_written buffer out (literals (drop from line)) m (e ∙ ap (λ (k : ℕ). take k (drop from line)) n ∙ (literals_front (drop from line)).1))

  -- 0A has room
  pub line_room : LineReady line es → 0 < length left → from ≡ length line → out < length buffer
  line_room r h over =
      omega (arith, writing_room w (p.stands texts) (step_line texts line left from h (ready_field line es r (omega (arith, p.within))) over))

  -- 0A is written
  pub writing_line : {next : List ℕ} → LineReady line es → 0 < length left → from ≡ length line → next ≡ set buffer out line_end
      → Writing entry texts line es (out + 1) next
  writing_line {next} r h over e =
      writing_next w (p.stands texts) 1
      (step_line texts line left from h (ready_field line es r (omega (arith, p.within))) over)
      refl
      (e ∙ written_byte buffer out line_end (line_room r h over))

  -- all is written
  pub writing_ends : length left ≡ 0 → literals (drop from line) ≡ []
      → buffer ≡ written entry 0 (print_from texts line line es).bytes
  writing_ends u n =
      w.holds
      ∙ ap (written entry 0)
      (take_all out (print_from texts line line es).bytes (omega (arith, place_ends p u n texts)))

-- One turn of the inner loop.

module _ {line texts : List ℕ} {es left : List Element} {next from out : ℕ} {entry buffer lent : List ℕ} {f : Field}
    (w : Writing entry texts line es out buffer) (p : Place line es left from out) (x : NextField line next from f) (h : 0 < length left)
    (literal : lent ≡ take (f.start - from) (drop from line)) where
  -- the first element left, behind the literal bytes
  first_place : Place line es (get_or left 0 zero_element ∷ take (length left - 1) (drop 1 left)) f.start (out + (f.start - from))
  first_place = subst (λ (l : List Element). Place line es l f.start (out + (f.start - from))) (first_left left h) (place_literals p x.first)

  -- its step
  first_step : Step (print_from texts line (drop f.start line) (get_or left 0 zero_element ∷ take (length left - 1) (drop 1 left)))
      (element_bytes texts (take f.length (drop f.start line)) (get_or left 0 zero_element))
      (element_spills (take f.length (drop f.start line)) (get_or left 0 zero_element))
      (print_from texts line (drop (f.start + f.length) line) (take (length left - 1) (drop 1 left)))
  first_step = step_element texts line (get_or left 0 zero_element) (take (length left - 1) (drop 1 left)) f.start x.found x.some

  -- the buffer with the literal bytes
  abbrev filled : List ℕ
  filled = put_mid out (out + (f.start - from) - out) buffer lent

  -- it has room
  pub element_room : out + (f.start - from) + f.length ≤ length filled
  element_room =
      omega (
        arith,
        writing_room (writing_literals w p x.first literal) (first_place.stands texts) first_step,
        element_size texts line (get_or left 0 zero_element) f.start x.found x.some,
      )

  -- it is written
  pub writing_element : {part : List ℕ}
      → part ≡ element_bytes texts (take (f.start + f.length - f.start) (drop f.start line)) (get_or left 0 zero_element)
      → Writing entry texts line es (out + (f.start - from) + f.length)
      (put_mid (out + (f.start - from)) (out + (f.start - from) + f.length - (out + (f.start - from))) filled part)
  writing_element {part} k =
      let long = element_size texts line (get_or left 0 zero_element) f.start x.found x.some in
      writing_next (writing_literals w p x.first literal) (first_place.stands texts) f.length
      first_step
      long
      (lent_written filled (out + (f.start - from)) _ (omega (arith, long)) (rw (next_part x) at k))
