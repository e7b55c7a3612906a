-- Laws of the lines of a file's records: what a file whose bodies can all be read tells, and what the loop that writes their
-- lines holds. Assumes nothing.
use Rattle.std.proofs.Common.{◌≡◌, ℕ, suc, ◌+◌, ◌-◌, ◌*◌, ◌<◌, ◌≤◌, List, [], ◌∷◌, ◌++◌, length, drop, refl, ap, ap₂, sym, subst, ◌∙◌, length-append, arith}
use Rattle.decimal.specs.declared.image.Image.{Image}
use Rattle.decimal.specs.declared.number.Number.{Number}
use Rattle.decimal.specs.Answer.{Answer, done, refused, ◌then◌, given, checked_only}
use Rattle.decimal.proofs.AnswerLaws.{then_done, done_same}
use Rattle.codec.specs.Columns.{body_size}
use Rattle.codec.specs.Contents.{Table}
use Rattle.codec.specs.Unpacking.{unpack_body}
use Rattle.codec.specs.Bodies.{body_text}
use Rattle.codec.specs.Alpha.{alpha_texts, line_length}
use Rattle.codec.proofs.ContentsLaws.{contents_sound}
use Rattle.codec.specs.Columns.{Sound}
use Rattle.codec.proofs.LineLaws.{texts_length, unpacked_count}
use Rattle.codec.proofs.FrontLaws.{contents_size}
use Rattle.codec.specs.Bodies.{bodies}
use Rattle.records.specs.Files.RecordFile.{read_file, record_count, bodies_in}
use Rattle.records.specs.Files.Listing.{columns_word, records_word, count_line, record_line, record_lines, file_lines, listing_of, listing, checked_file, lines_of, body_line}
use Rattle.records.proofs.FileProofs.FileLaws.{file_told}
use Rattle.codec.proofs.ComingLaws.{lent_written, Coming, coming_starts, coming_room, coming_bytes, coming_ends}
use borrow.Rule.Slice.PartMut.{put_mid}
use Rattle.codec.proofs.BodiesLaws.{Ahead, bodies_ahead, bodies_over, bodies_count}
use Rattle.records.proofs.FileProofs.BodiesLaws.{file_reaches}
use Rattle.records.proofs.FileProofs.RecordLaws.{line_length_lem}

-- The lines of records, one body after the other.

module _ (ims : List Image) (b : List ℕ) (bs : List (List ℕ)) where
  -- a body that is refused
  pub lines_refused : {x y : ℕ} → unpack_body ims b ≡ refused x y → record_lines ims (b ∷ bs) ≡ refused x y
  unfolding record_lines ◌then◌
  lines_refused h = rw h

  -- a body that is read
  pub lines_next :
      {ns : List Number} {texts : List (List ℕ)}
      → unpack_body ims b ≡ done ns
      → alpha_texts ims ns ≡ done texts
      → record_lines ims (b ∷ bs) ≡ (record_lines ims bs then λ lines. done (record_line texts ++ lines))
  unfolding record_lines ◌then◌
  lines_next h e = rw (h, e)

-- lines that exist: the first record's, and the others'
pub record LinesStep (ims : List Image) (b : List ℕ) (bs : List (List ℕ)) (lines : List ℕ) : Type 0 where
  pub numbers : List Number
  pub texts : List (List ℕ)
  pub others : List ℕ
  pub unpacks : unpack_body ims b ≡ done numbers
  pub shows : alpha_texts ims numbers ≡ done texts
  pub rest : record_lines ims bs ≡ done others
  pub joined : record_line texts ++ others ≡ lines

pub lines_view :
    (ims : List Image) (b : List ℕ) (bs : List (List ℕ)) {lines : List ℕ} → record_lines ims (b ∷ bs) ≡ done lines → LinesStep ims b bs lines
unfolding record_lines
lines_view ims b bs {lines} h =
    let one = then_done (unpack_body ims b) (λ (ns : List Number). alpha_texts ims ns then shown) h in
    let two = then_done (alpha_texts ims one.value) shown one.second in
    let three = then_done (record_lines ims bs) (λ (others : List ℕ). done (record_line two.value ++ others)) two.second in
    record {
      numbers = one.value;
      texts = two.value;
      others = three.value;
      unpacks = one.first;
      shows = two.first;
      rest = three.first;
      joined = done_same three.second;
    }
  where
    shown : List (List ℕ) → Answer (List ℕ)
    shown texts = record_lines ims bs then λ others. done (record_line texts ++ others)

-- every record's line has the same length
step_length :
    (ims : List Image)
    → Sound ims
    → {b : List ℕ} {bs : List (List ℕ)} {lines : List ℕ} (v : LinesStep ims b bs lines)
    → length (record_line v.texts) ≡ line_length ims
step_length ims s {b} v =
    omega (arith, line_length_lem v.texts, texts_length s.all v.numbers s.low (unpacked_count ims b v.unpacks) v.shows)

lines_length :
    (ims : List Image)
    → Sound ims
    → (bs : List (List ℕ)) {lines : List ℕ}
    → record_lines ims bs ≡ done lines
    → length lines ≡ length bs * line_length ims
unfolding record_lines
lines_length ims s [] {lines} h = let z : [] ≡ lines = cc in omega (arith, ap length z)
lines_length ims s (b ∷ bs) {lines} h =
    let v = lines_view ims b bs h in
    omega (
      arith,
      ap length v.joined,
      length-append (record_line v.texts) v.others,
      step_length ims s v,
      lines_length ims s bs v.rest,
    )

-- A file whose bodies can all be read, by the contents that the code has of it.

-- the count of its records
abbrev pub records_of : List ℕ → Table → ℕ
records_of file r = record_count r file

-- the first line of its listing, the last, and the whole
abbrev pub first_line : Table → List ℕ
first_line r = count_line columns_word (length r.images)

abbrev pub last_line : List ℕ → Table → List ℕ
last_line file r = count_line records_word (records_of file r)

abbrev pub listing_text : List ℕ → Table → List ℕ
listing_text file r = first_line r ++ (lines_of file ++ last_line file r)

-- what such a file tells
pub record FileListed (file : List ℕ) (r : Table) : Type 0 where
  pub sound : Sound r.images
  pub some : 0 < (body_size r.images)
  pub within : r.size ≤ length file
  pub size : r.size ≡ suc (line_length r.images)
  pub reaches : length (drop r.size file) ≡ records_of file r * (body_size r.images)
  pub lines : record_lines r.images (bodies (records_of file r) (body_size r.images) (drop r.size file)) ≡ done (lines_of file)
  pub lists : listing file ≡ done (listing_text file r)

-- the lines of a file that is read
lines_of_lem :
    (file : List ℕ) {table : Table} {lines : List ℕ}
    → read_file file ≡ done table
    → file_lines table file ≡ done lines
    → lines_of file ≡ lines
unfolding lines_of given ◌then◌
lines_of_lem file h e = rw (h, e)

-- and its listing
lists_lem :
    (file : List ℕ) {table : Table} {lines : List ℕ}
    → read_file file ≡ done table
    → file_lines table file ≡ done lines
    → listing file ≡ done (listing_of table file lines)
unfolding listing ◌then◌
lists_lem file h e = rw (h, e)

pub file_listed : (file : List ℕ) {table : Table} → checked_file file ≡ done table → FileListed file table
unfolding checked_file listing_of record_count bodies_in
file_listed file {table} h =
    let one = then_done (read_file file) (λ (t : Table). file_lines t file then λ (lines : List ℕ). done t) h in
    let two = then_done (file_lines one.value file) (λ (lines : List ℕ). done one.value) one.second in
    let same : one.value ≡ table = done_same two.second in
    let reads : read_file file ≡ done table = one.first ∙ ap {B = Answer Table} done same in
    let first : file_lines table file ≡ done two.value = ap (λ (t : Table). file_lines t file) (sym same) ∙ two.first in
    let lines : file_lines table file ≡ done (lines_of file) = first ∙ ap {B = Answer (List ℕ)} done (sym (lines_of_lem file reads first)) in
    let told = file_told file reads in
    record {
      sound = contents_sound file told.contents;
      some = told.some;
      within = told.within;
      size = contents_size file told.contents;
      reaches = file_reaches told;
      lines = lines;
      lists = lists_lem file reads lines;
    }

-- its lines are as long as the contents without its first byte, each
pub listed_length : {file : List ℕ} {r : Table} → FileListed file r → length (lines_of file) ≡ records_of file r * (r.size - 1)
listed_length {file} {r} l =
    let line : line_length r.images ≡ r.size - 1 = omega (arith, l.size) in
    lines_length r.images l.sound (bodies (records_of file r) (body_size r.images) (drop r.size file)) l.lines
    ∙ ap₂ (λ (x y : ℕ). x * y) (bodies_count (records_of file r) (body_size r.images) (drop r.size file)) line

-- a file that is refused is so before its bodies are read
pub checked_refused : (file : List ℕ) {x y : ℕ} → read_file file ≡ refused x y → checked_file file ≡ refused x y
unfolding checked_file ◌then◌
checked_refused file h = rw h

-- what follows a step that only adds to what is given
pub then_added : {A B C : Type 0} (a : Answer A) (f : A → B) (c : C) → ((a then λ t. done (f t)) then λ l. done c) ≡ (a then λ t. done c)
unfolding ◌then◌
then_added (done t) f c = refl
then_added (refused x y) f c = refl

-- Writing the lines: those that are written, and those of the bodies that are left, are all.
pub record Lining (file : List ℕ) (r : Table) (now : List ℕ) (out : ℕ) (rest : List ℕ) : Type 0 where
  pub left : ℕ
  pub reaches : length rest ≡ left * (body_size r.images)
  pub after : List ℕ
  pub comes : record_lines r.images (bodies left (body_size r.images) rest) ≡ done after
  pub joined : Coming now out after (lines_of file)

-- at the first body
pub lining_starts : {file : List ℕ} {r : Table} → FileListed file r → (now : List ℕ) {rest : List ℕ} → rest ≡ drop r.size file → Lining file r now 0 rest
lining_starts {file} {r} f now e =
    subst (λ (rest : List ℕ). Lining file r now 0 rest) (sym e)
    (record { left = records_of file r; reaches = f.reaches; after = lines_of file; comes = f.lines; joined = coming_starts now (lines_of file) })

module _ {file : List ℕ} {r : Table} (f : FileListed file r) {now : List ℕ} {out : ℕ} {rest : List ℕ} (w : Lining file r now out rest)
    (long : length now ≡ length (lines_of file)) where
  -- at the end
  pub lining_ends : length rest < (body_size r.images) → now ≡ lines_of file
  unfolding record_lines bodies
  lining_ends l =
      let over = bodies_over (body_size r.images) rest w.left w.reaches l in
      let none : [] ≡ w.after = done_same (sym (ap (λ (k : ℕ). record_lines r.images (bodies k (body_size r.images) rest)) over) ∙ w.comes) in
      coming_ends (subst (λ (s : List ℕ). Coming now out s (lines_of file)) (sym none) w.joined) long

  -- a body is taken off the front
  module _ (body behind : List ℕ) (split : rest ≡ body ++ behind) (size : length body ≡ (body_size r.images)) where
    lining_ahead : Ahead (body_size r.images) w.left body behind
    lining_ahead = bodies_ahead (body_size r.images) w.left body behind f.some (ap length (sym split) ∙ w.reaches) size

    -- it is read, and its texts exist
    lining_step : LinesStep r.images body (bodies lining_ahead.others (body_size r.images) behind) w.after
    lining_step =
        lines_view r.images body (bodies lining_ahead.others (body_size r.images) behind)
        (ap (record_lines r.images) (sym lining_ahead.splits)
        ∙ ap (λ (bytes : List ℕ). record_lines r.images (bodies w.left (body_size r.images) bytes)) (sym split)
        ∙ w.comes)

    -- the line of it
    next_line : List ℕ
    next_line = record_line lining_step.texts

    -- is as long as the contents without its first byte
    next_length : length next_line ≡ r.size - 1
    unfolding next_line
    next_length = omega (arith, step_length r.images f.sound lining_step, f.size)

    -- it comes next, and then the others
    lining_next : Coming now out (next_line ++ lining_step.others) (lines_of file)
    unfolding next_line
    lining_next = subst (λ (s : List ℕ). Coming now out s (lines_of file)) (sym lining_step.joined) w.joined

    -- there is room for it
    pub lining_room : out + (r.size - 1) ≤ length now
    lining_room = omega (arith, coming_room next_line lining_step.others lining_next long, next_length)

    -- it can be read
    pub body_reads : checked_only (unpack_body r.images body) ≡ done tt
    unfolding checked_only
    body_reads = ap checked_only lining_step.unpacks

    -- and its line is that of its texts
    body_line_is : body_line r.images body ≡ next_line
    unfolding body_text record_line given next_line ◌then◌
    body_line_is = rw (lining_step.unpacks, lining_step.shows)

    -- it is written
    pub lining_turns :
        {line : List ℕ} {n m : ℕ}
        → line ≡ body_line r.images body
        → n ≡ r.size - 1
        → m ≡ r.size - 1
        → Lining file r (put_mid out n now line) (out + m) behind
    lining_turns same one two =
        record {
          left = lining_ahead.others;
          reaches = lining_ahead.reaches;
          after = lining_step.others;
          comes = lining_step.rest;
          joined =
              coming_bytes next_line lining_step.others lining_next long (two ∙ sym next_length)
              (lent_written now out next_line (one ∙ sym next_length) (same ∙ body_line_is));
        }
