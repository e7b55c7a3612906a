-- Laws of the code's record file, from the fact that it carries. Assumes nothing.
use Prim.Native.Nat.{ℕ, ◌+◌, ◌-◌, ◌*◌, ◌<◌, ◌≤◌}
use mathlib.Core.Path.{◌≡◌, refl, sym, subst}
use mathlib.Core.List.{List}
use native.Mathlib.Omega.{arith}
use lib.ListN.{length, take, drop}
use Rattle.std.proofs.Common.{Result, Ok, Err, IfOk}
use Rattle.std.specs.Borrow.{Bor}
use Rattle.std.specs.declared.ops.Range.{Range}
use Rattle.decimal.specs.declared.refusal.Refusal.{Refusal}
use Rattle.decimal.specs.Answer.{Answer, done, refused, mapped, meaning}
use Rattle.decimal.proofs.AnswerLaws.{done_same, never_done, mapped_back, mapped_refused_back}
use Rattle.codec.specs.Columns.{body_size}
use Rattle.records.specs.declared.files.record_file.RecordFile.{RecordFile}
use Rattle.records.specs.Files.RecordFile.{Part, record_count, range_of, now_of, shown, part_of, shown_part, shown_bodies}
use Rattle.records.specs.Files.Tables.{table_in, bytes_in}
use Rattle.records.proofs.FileProofs.FileLaws.{FileRead, file_told, shown_none, shown_there, record_inside}

module _ (f : RecordFile) where
  -- what it tells
  pub held : FileRead (bytes_in f) (table_in f)
  held = file_told (bytes_in f) f.reads

  -- its contents is within it, and a body is not empty
  pub held_within : (table_in f).size ≤ length (bytes_in f)
  held_within = held.within

  pub held_some : 0 < body_size (table_in f).images
  held_some = held.some

  module _ (index : ℕ) where
    -- where there is no such record
    pub place_none : record_count (table_in f) (bytes_in f) ≤ index → shown (bytes_in f) index ≡ refused 12 0
    place_none l = shown_none (bytes_in f) index f.reads l

    module _ (l : index < record_count (table_in f) (bytes_in f)) where
      -- and where there is, its body ends within the file
      pub held_inside : (table_in f).size + index * body_size (table_in f).images + body_size (table_in f).images ≤ length (bytes_in f)
      held_inside = record_inside (bytes_in f) index f.reads l

      pub place_there :
          shown (bytes_in f) index
          ≡ done (record { start = (table_in f).size + index * body_size (table_in f).images; size = body_size (table_in f).images })
      place_there = shown_there (bytes_in f) index f.reads l

-- the part at a range that the code found
part_made :
    (file : List ℕ) (a : Answer Part) {p : Part}
    → a ≡ done p
    → done (take (p.start + p.size - p.start) (drop p.start file)) ≡ mapped (λ (p : Part). take p.size (drop p.start file)) a
unfolding mapped
part_made file a {p} h =
    let n : p.start + p.size - p.start ≡ p.size = omega arith in
    rw (h, n) refl

pub part_there : (file : List ℕ) (index : ℕ) {q : Range ℕ} → done q ≡ mapped range_of (shown file index) → done (take (q.end - q.start) (drop q.start file)) ≡ shown_bodies file index
unfolding shown_bodies
part_there file index {q} h =
    let t = mapped_back range_of (shown file index) h in
    subst (λ (x : Range ℕ). done (take (x.end - x.start) (drop x.start file)) ≡ shown_bodies file index) (sym t.2) (part_made file (shown file index) t.1)

pub part_none : (file : List ℕ) (index : ℕ) {x y : ℕ} → refused x y ≡ mapped range_of (shown file index) → shown_bodies file index ≡ refused x y
unfolding shown_bodies mapped
part_none file index h = rw (mapped_refused_back range_of (shown file index) h)

-- what showing gives is the part that the theorems speak of
pub part_given : (file : List ℕ) (index : ℕ) {body : List ℕ} → done body ≡ shown_bodies file index → body ≡ shown_part file index
unfolding shown_bodies mapped part_of
part_given file index {body} h = go (shown file index) h
  where
    go :
        (a : Answer Part)
        → done body ≡ mapped (λ (p : Part). take p.size (drop p.start file)) a
        → body ≡ part_of file a
    go (done p) e = done_same e
    go (refused number place) e = never_done (sym e)

pub given_part :
    (file : List ℕ) (index : ℕ) (r : Result (Bor (List ℕ)) Refusal)
    → mapped now_of (meaning r) ≡ shown_bodies file index
    → IfOk r (λ body. body.now ≡ shown_part file index)
unfolding mapped
given_part file index (Ok body) h = part_given file index h
given_part file index (Err refusal) h = tt
