-- A body written at the place of a record is that record's, and the other records of the file stay. Assumes nothing.
use Prim.Native.Nat.{ℕ, suc, ◌+◌, ◌-◌, ◌*◌, ◌/◌, ◌%◌, ◌<◌, ◌≤◌}
use mathlib.Core.Path.{◌≡◌, refl, ap, sym, ◌∙◌}
use mathlib.Core.List.{List, ◌++◌}
use native.Mathlib.Omega.{arith}
use native.Mathlib.Nat.{suc-mul, mul-le-mul_right}
use lib.ListN.{length, take, drop, length-append, length-drop, take-append-drop}
use lib.Seq.{length-take-le, take-length, take-append-le, drop-append-le, drop_at, drop-drop}
use lib.Dec.{ltb}
use mathlib.Core.Bool.{Bool, true, false}
use borrow.Author.Tests.{ltb-true, ltb-false}
use Rattle.decimal.specs.Answer.{done}
use Rattle.codec.specs.Columns.{body_size}
use Rattle.codec.specs.Contents.{Table}
use Rattle.codec.specs.Answers.{written}
use Rattle.codec.proofs.FrontLaws.{contents_same}
use Rattle.codec.proofs.BufferLaws.{written_length}
use Rattle.records.specs.Files.RecordFile.{read_file, record_count, part_of, shown_part}
use Rattle.records.specs.Files.Adding.{Replaces}
use Rattle.records.proofs.FileProofs.FileLaws.{file_done, file_told, record_inside, shown_there}

-- Parts of bytes with others written over them.

-- a part of the first bytes
first_part : (p q : List ℕ) (k m : ℕ) → k + m ≤ length p → take m (drop k (p ++ q)) ≡ take m (drop k p)
first_part p q k m h =
    ap (take m) (drop-append-le k p q (omega arith)) ∙ take-append-le m (drop k p) q (omega (arith, length-drop k p))

module _ (bytes : List ℕ) (start : ℕ) (middle : List ℕ) (h : start + length middle ≤ length bytes) where
  -- the length of what stands before the written bytes
  front_length : length (take start bytes) ≡ start
  front_length = length-take-le start bytes (omega arith)

  -- and with them
  both_length : length (take start bytes ++ middle) ≡ start + length middle
  both_length = length-append (take start bytes) middle ∙ ap (λ (k : ℕ). k + length middle) front_length

  -- the written bytes
  written_there : take (length middle) (drop start (written bytes start middle)) ≡ middle
  unfolding written
  written_there =
      first_part (take start bytes ++ middle) (drop (start + length middle) bytes) start (length middle) (omega (arith, both_length))
      ∙ ap (take (length middle)) (drop_at (take start bytes) middle start front_length)
      ∙ take-length middle

  -- a part before them stays
  written_before : (k m : ℕ) → k + m ≤ start → take m (drop k (written bytes start middle)) ≡ take m (drop k bytes)
  unfolding written
  written_before k m b =
      let inside : k + m ≤ length (take start bytes) = omega (arith, front_length) in
      first_part (take start bytes ++ middle) (drop (start + length middle) bytes) k m (omega (arith, both_length))
      ∙ first_part (take start bytes) middle k m inside
      ∙ sym (first_part (take start bytes) (drop start bytes) k m inside)
      ∙ ap (λ (l : List ℕ). take m (drop k l)) (take-append-drop start bytes)

  -- and so do the bytes behind them
  written_behind : (k : ℕ) → start + length middle ≤ k → drop k (written bytes start middle) ≡ drop k bytes
  unfolding written
  written_behind k b =
      let n : ℕ = start + length middle in
      let split : n + (k - n) ≡ k = omega arith in
      ap (λ (i : ℕ). drop i (take start bytes ++ middle ++ drop n bytes)) (sym split)
      ∙ sym (drop-drop (k - n) n (take start bytes ++ middle ++ drop n bytes))
      ∙ ap (drop (k - n)) (drop_at (take start bytes ++ middle) (drop n bytes) n both_length)
      ∙ drop-drop (k - n) n bytes
      ∙ ap (λ (i : ℕ). drop i bytes) split

module _ (file : List ℕ) (r : ℕ) (body : List ℕ) (table : Table) (reads : read_file file ≡ done table) (h : r < record_count table file)
    (long : length body ≡ body_size table.images) where
  -- the size of a body
  abbrev size : ℕ
  size = body_size table.images

  -- the place of record r
  abbrev start : ℕ
  start = table.size + r * body_size table.images

  -- the file with the body there
  abbrev after : List ℕ
  after = written file start body

  -- it is within the file
  inside : start + length body ≤ length file
  inside = omega (arith, record_inside file r reads h)

  -- the file keeps its length
  same_length : length after ≡ length file
  same_length = written_length file start body inside

  -- its contents
  same_reads : read_file after ≡ done table
  same_reads =
      let told = file_told file reads in
      file_done after (contents_same file after told.contents (written_before file start body inside 0 table.size (omega arith)))
      (ap (λ (k : ℕ). (k - table.size) % size) same_length ∙ told.whole)

  -- and the count of its records
  same_count : record_count table after ≡ record_count table file
  unfolding record_count
  same_count = ap (λ (k : ℕ). (k - table.size) / size) same_length

  -- a record's part of each
  part_of_lem : (bytes : List ℕ) (s : ℕ) → read_file bytes ≡ done table → s < record_count table bytes
      → shown_part bytes s ≡ take size (drop (table.size + s * size) bytes)
  unfolding part_of
  part_of_lem bytes s q l = ap (part_of bytes) (shown_there bytes s q l)

  -- record r is the body
  own_part : shown_part after r ≡ body
  own_part =
      part_of_lem after r same_reads (omega (arith, same_count))
      ∙ ap (λ (k : ℕ). take k (drop start after)) (sym long)
      ∙ written_there file start body inside

  -- another record stands before it or behind it, and stays
  other_part : (s : ℕ) → s < record_count table file → (s ≡ r → ⊥) → shown_part after s ≡ shown_part file s
  other_part s l n =
      part_of_lem after s same_reads (omega (arith, same_count))
      ∙ go (ltb s r) refl
      ∙ sym (part_of_lem file s reads l)
    where
      go : (t : Bool) → ltb s r ≡ t → take size (drop (table.size + s * size) after) ≡ take size (drop (table.size + s * size) file)
      go true e =
          let least : suc s * size ≤ r * size = mul-le-mul_right size (ltb-true s r e) in
          written_before file start body inside (table.size + s * size) size (omega (arith, suc-mul s size))
      go false e =
          let above : r ≤ s = ltb-false s r e in
          let least : suc r * size ≤ s * size = mul-le-mul_right size (omega arith) in
          ap (take size) (written_behind file start body inside (table.size + s * size) (omega (arith, suc-mul r size)))

-- A body written at the place of record r is that record's, and the other records stay.
pub replacing :
    (file : List ℕ) (r : ℕ) (body : List ℕ) {table : Table}
    → read_file file ≡ done table
    → r < record_count table file
    → length body ≡ body_size table.images
    → Replaces table r body file (written file (table.size + r * body_size table.images) body)
replacing file r body {table} reads h long =
    record {
      length_same = same_length file r body table reads h long;
      reads_after = same_reads file r body table reads h long;
      counted = same_count file r body table reads h long;
      part = own_part file r body table reads h long;
      unchanged = other_part file r body table reads h long;
    }
