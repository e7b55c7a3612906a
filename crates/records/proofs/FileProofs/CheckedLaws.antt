-- Laws of the code's checked file, from the fact that it carries. Assumes nothing.
use Rattle.std.proofs.Common.{◌≡◌, ℕ, ◌-◌, ◌/◌, ◌%◌, List, [], ◌∷◌, ◌++◌, length, drop, length-drop, refl, sym, ap, ◌∙◌}
use Rattle.decimal.specs.declared.image.Image.{Image}
use Rattle.decimal.specs.declared.number.Number.{Number}
use Rattle.decimal.specs.Answer.{Answer, done, refused, ◌then◌}
use Rattle.codec.specs.Columns.{Sound, body_size}
use Rattle.codec.specs.Contents.{Table}
use Rattle.codec.specs.Unpacking.{unpack_body}
use Rattle.codec.specs.Bodies.{bodies, check_each, check_bodies}
use Rattle.codec.specs.Bodies.{check_each}
use Rattle.decimal.proofs.AnswerLaws.{then_done}
use Rattle.codec.proofs.ContentsLaws.{contents_sound}
use Rattle.codec.proofs.LineLaws.{unpacked_texts}
use Rattle.codec.proofs.BodiesLaws.{bodies_whole}
use Rattle.records.specs.declared.files.checked_file.CheckedFile.{CheckedFile}
use Rattle.records.specs.Files.RecordFile.{read_file, record_count, bodies_in}
use Rattle.records.specs.Files.CheckedFile.{checked_table, checked_bytes}
use Rattle.records.specs.Files.Listing.{record_line, record_lines, checked_file}
use Rattle.records.proofs.FileProofs.FileLaws.{file_told}
use Rattle.records.proofs.FileProofs.RecordLinesLaws.{FileListed, file_listed, lines_refused, lines_next, then_added}

pub listed_file : (c : CheckedFile) → FileListed (checked_bytes c) (checked_table c)
listed_file c = file_listed (checked_bytes c) c.checked

-- Reading the bodies says whether a file is refused: no text is asked for.

module _ {ims : List Image} (s : Sound ims) {C : Type 0} (c : C) where
  -- one body, by what it is read as
  line_as_read :
      (b : List ℕ) (bs : List (List ℕ)) (a : Answer (List Number))
      → unpack_body ims b ≡ a
      → (record_lines ims bs then λ _. done c) ≡ (check_each ims bs then λ _. done c)
      → (record_lines ims (b ∷ bs) then λ _. done c) ≡ (check_each ims (b ∷ bs) then λ _. done c)
  unfolding check_each ◌then◌
  line_as_read b bs (refused x y) h others = ap (λ (a : Answer (List ℕ)). a then λ _. done c) (lines_refused ims b bs h) ∙ rw h
  line_as_read b bs (done ns) h others =
      let texts = unpacked_texts s.all b h in
      ap (λ (a : Answer (List ℕ)). a then λ _. done c) (lines_next ims b bs h texts.1)
      ∙ then_added (record_lines ims bs) (λ (lines : List ℕ). record_line texts.0 ++ lines) c
      ∙ rw h others

  -- the lines of bodies are refused as they are
  lines_as_read : (bs : List (List ℕ)) → (record_lines ims bs then λ _. done c) ≡ (check_each ims bs then λ _. done c)
  unfolding record_lines check_each ◌then◌
  lines_as_read [] = refl
  lines_as_read (b ∷ bs) = line_as_read b bs (unpack_body ims b) refl (lines_as_read bs)

-- so a file is checked by reading its bodies
abbrev bodies_checked : List ℕ → Table → Answer Table
bodies_checked file table = check_each table.images (bodies_in table file) then λ _. done table

file_as_read : (file : List ℕ) (a : Answer Table) → read_file file ≡ a → checked_file file ≡ (a then bodies_checked file)
unfolding checked_file ◌then◌
file_as_read file (refused x y) h = rw h
file_as_read file (done table) h = rw h (lines_as_read (contents_sound file (file_told file h).contents) table (bodies_in table file))

pub checked_read :
    (file : List ℕ) → checked_file file ≡ (read_file file then λ table. (check_each table.images (bodies_in table file) then λ _. done table))
checked_read file = file_as_read file (read_file file) refl

-- The bodies of a file that is read are whole.
module _ (file : List ℕ) {table : Table} (read : read_file file ≡ done table) where
  bodies_are : check_bodies table.images (drop table.size file) ≡ check_each table.images (bodies_in table file)
  unfolding bodies_in record_count
  bodies_are =
      let told = file_told file read in
      let long : length (drop table.size file) ≡ length file - table.size = length-drop table.size file in
      bodies_whole table.images (drop table.size file) (ap (λ (n : ℕ). n % body_size table.images) long ∙ told.whole)
      ∙ ap (λ (n : ℕ). check_each table.images (bodies (n / body_size table.images) (body_size table.images) (drop table.size file))) long

  -- so a check of them all decides
  each_checked : checked_file file ≡ (check_each table.images (bodies_in table file) then λ _. done table)
  unfolding ◌then◌
  each_checked = checked_read file ∙ rw read refl

  file_checked : {a : Answer (Unit {0})} → a ≡ check_bodies table.images (drop table.size file) → checked_file file ≡ (a then λ _. done table)
  file_checked {a} h = each_checked ∙ ap (λ (b : Answer (Unit {0})). b then λ _. done table) (sym (h ∙ bodies_are))

  pub bodies_bad : {x y : ℕ} → refused x y ≡ check_bodies table.images (drop table.size file) → checked_file file ≡ refused x y
  unfolding ◌then◌
  bodies_bad h = file_checked h

  pub bodies_good : done tt ≡ check_bodies table.images (drop table.size file) → checked_file file ≡ done table
  unfolding ◌then◌
  bodies_good h = file_checked h

-- and those of a checked file can all be read
pub all_read : (c : CheckedFile) → check_each (checked_table c).images (bodies_in (checked_table c) (checked_bytes c)) ≡ done tt
all_read c =
    (then_done (check_each (checked_table c).images (bodies_in (checked_table c) (checked_bytes c))) (λ (u : Unit {0}). done (checked_table c))
    (sym (each_checked (checked_bytes c) c.file.reads) ∙ c.checked)).first
