-- A file cut short: a last body of which bytes are missing, as a power cut in the middle of an add leaves it.
use Rattle.std.specs.Prelude.{ℕ, ◌+◌, ◌-◌, ◌*◌, ◌%◌, ◌<◌, ◌≤◌, ◌≡◌, List, length, take, drop}
use Rattle.decimal.specs.declared.number.Number.{Number}
use Rattle.decimal.specs.Answer.{Answer, done, ◌then◌}
use Rattle.codec.specs.Answers.{within, written}
use Rattle.codec.specs.Columns.{body_size}
use Rattle.codec.specs.Contents.{Table, read_contents}
use Rattle.codec.specs.Packing.{pack_list}
use Rattle.records.specs.declared.files.whole.WholeLength.{WholeLength}
use Rattle.records.specs.Files.RecordFile.{read_file, record_count, read_used, added, shown, shown_part}

-- a used length whose bodies are whole: the contents, then so many bodies
pub record WholeBodies (table : Table) (used : ℕ) : Type 0 where
  pub count : ℕ
  pub fills : used ≡ table.size + count * body_size table.images

-- "the longest used length whose bodies are whole", "and the count of bytes behind it", of a file whose contents is read
pub record IsWhole (file : List ℕ) (w : WholeLength) : Type 0 where
  pub table : Table
  pub contents : read_contents file ≡ done table
  pub whole : WholeBodies table w.length
  pub inside : w.length ≤ length file
  pub longest : (used : ℕ) → WholeBodies table used → used ≤ length file → used ≤ w.length
  pub behind : w.length + w.behind ≡ length file

-- the two numbers, computed: so many bytes stand behind the last whole body
unfoldable pub whole_in : Table → List ℕ → WholeLength
whole_in table file =
    record {
      length = length file - (length file - table.size) % body_size table.images;
      behind = (length file - table.size) % body_size table.images;
    }

-- the call: refused as the contents at the front of the file is
unfoldable pub whole_length_of : List ℕ → Answer WholeLength
whole_length_of file = read_contents file then λ table. done (whole_in table file)

-- The law: what stands when a file is cut to its whole length.

-- the file that is left
abbrev pub cut_to : WholeLength → List ℕ → List ℕ
cut_to w file = take w.length file

-- it is a file of the same contents, so no call refuses it with 11 for its bodies, and has all the records that were whole
pub record CutBack (file : List ℕ) (w : WholeLength) : Type 0 where
  pub table : Table
  pub contents : read_contents file ≡ done table
  pub reads : read_file (cut_to w file) ≡ done table
  pub counted : record_count table (cut_to w file) ≡ record_count table file
  -- each is shown where it stood, with the bytes that it had
  pub shows :
      (r : ℕ)
      → r < record_count table file
      → shown (cut_to w file) r ≡ done (record { start = table.size + r * body_size table.images; size = body_size table.images })
  pub part :
      (r : ℕ)
      → r < record_count table file
      → shown_part (cut_to w file) r ≡ take (body_size table.images) (drop (table.size + r * body_size table.images) file)

-- with the file in the first bytes of a buffer, the whole length is a used length behind which a record is added, of any list that packs and
-- finds room
pub record AddsBehind (file buffer : List ℕ) (w : WholeLength) : Type 0 where
  pub table : Table
  pub contents : read_contents file ≡ done table
  pub reads : read_used buffer w.length ≡ done table
  pub adds : (ns : List Number) → added buffer w.length ns ≡ (pack_list table.images ns then within (length buffer - w.length))

-- what adding a record has written where only so many bytes of its body were: the used length, and so many bytes of the body
abbrev pub cut_in_add : List ℕ → ℕ → List ℕ → ℕ → List ℕ
cut_in_add buffer used body count = take (used + count) (written buffer used body)
