-- Laws of a listing: its length, whether it fits a buffer, and what the program prints of it. Assumes nothing.
use Rattle.std.proofs.Common.{◌≡◌, ℕ, ◌+◌, ◌-◌, ◌*◌, ◌<◌, ◌≤◌, Bool, true, false, ltb, List, ◌++◌, length, ap, ap₂, sym, ◌∙◌, length-append, arith}
use borrow.Author.Tests.{ltb-true, ltb-false}
use Rattle.decimal.specs.Answer.{Answer, done, refused, ◌then◌}
use Rattle.decimal.proofs.AnswerLaws.{never_done, then_next}
use Rattle.codec.specs.Contents.{Table}
use Rattle.codec.specs.Answers.{within}
use Rattle.records.specs.Files.Writing.{decimal_text}
use Rattle.records.specs.Files.RecordFile.{read_file}
use Rattle.records.specs.Files.Listing.{columns_word, records_word, file_lines, listing_of, listing, listed, max_file, refusal_line, printed_of, report_of, checked_file, lines_of}
use Rattle.records.proofs.FileProofs.ReportLaws.{count_line_length, within_none, within_some, printed_long, printed_short, printed_refused, printed_within}
use Rattle.codec.proofs.LineLaws.{line_some}
use Rattle.records.proofs.FileProofs.RecordLinesLaws.{records_of, first_line, last_line, listing_text, FileListed, listed_length}

-- A file that is refused.

-- a refusal is the same of whatever would be given
refused_as : {A B : Type 0} {x y v w : ℕ} → ◌≡◌ {A = Answer A} (refused x y) (refused v w) → ◌≡◌ {A = Answer B} (refused x y) (refused v w)
refused_as {A} {B} {x} {y} {v} {w} h =
    let p : x ≡ v = cc in
    let q : y ≡ w = cc in
    ap₂ {C = Answer B} refused p q

-- a refused step is refused whatever would follow
step_refused :
    {A B C : Type 0} (a : Answer A) (f : A → B) (g : A → C) {x y : ℕ}
    → (a then λ t. done (f t)) ≡ refused x y
    → (a then λ t. done (g t)) ≡ refused x y
unfolding ◌then◌
step_refused (done t) f g e = never_done (sym e)
step_refused (refused v w) f g e = refused_as e

-- and so are two steps
steps_refused :
    {A B C D : Type 0} (a : Answer A) (k : A → Answer B) (f : A → B → C) (g : A → B → D) {x y : ℕ}
    → (a then λ t. (k t then λ l. done (f t l))) ≡ refused x y
    → (a then λ t. (k t then λ l. done (g t l))) ≡ refused x y
unfolding ◌then◌
steps_refused (done t) k f g e = step_refused (k t) (f t) (g t) e
steps_refused (refused v w) k f g e = refused_as e

-- the listing is refused as the file is
listing_refused : (file : List ℕ) {x y : ℕ} → checked_file file ≡ refused x y → listing file ≡ refused x y
unfolding checked_file listing
listing_refused file h =
    steps_refused (read_file file) (λ (t : Table). file_lines t file) (λ (t : Table) (lines : List ℕ). t)
    (λ (t : Table) (lines : List ℕ). listing_of t file lines) h

-- and so is the call
pub listed_refused : (file : List ℕ) (room : ℕ) {x y : ℕ} → checked_file file ≡ refused x y → listed file room ≡ refused x y
unfolding listed ◌then◌
listed_refused file room h = rw (listing_refused file h)

-- The listing of a file whose bodies can all be read, in a buffer.

module _ {file : List ℕ} {r : Table} (f : FileListed file r) where
  -- how long it is
  pub listing_length :
      length (listing_text file r)
      ≡ 18 + length (decimal_text (length r.images)) + length (decimal_text (records_of file r)) + records_of file r * (r.size - 1)
  listing_length =
      omega (
        arith,
        length-append (first_line r) (lines_of file ++ last_line file r),
        length-append (lines_of file) (last_line file r),
        count_line_length columns_word (length r.images),
        count_line_length records_word (records_of file r),
        listed_length f,
      )

  -- a line has a byte at least
  pub listed_some : 1 < r.size
  listed_some = omega (arith, f.size, line_some r.images f.sound)

  -- what the code measures
  module _
      (room : ℕ) {count n line one two : ℕ} {longer : Bool}
      (counted : count ≡ length r.images)
      (many : n ≡ records_of file r)
      (each : line ≡ r.size - 1)
      (columns : one ≡ length (decimal_text count))
      (records : two ≡ length (decimal_text n))
      (test : longer ≡ ltb room (9 + one + (9 + two) + n * line)) where
    -- as long as all lines
    pub measured_lines : n * line ≡ length (lines_of file)
    measured_lines = ap₂ (λ (x y : ℕ). x * y) many each ∙ sym (listed_length f)

    -- is the length of the listing
    pub measured : length (listing_text file r) ≡ 9 + one + n * line + (9 + two)
    measured =
        let all : n * line ≡ records_of file r * (r.size - 1) = ap₂ (λ (x y : ℕ). x * y) many each in
        omega (
          arith,
          listing_length,
          all,
          columns ∙ ap (λ (n : ℕ). length (decimal_text n)) counted,
          records ∙ ap (λ (n : ℕ). length (decimal_text n)) many,
        )

    -- the listing is longer than the room
    pub measured_long : longer ≡ true → listed file room ≡ refused 6 0
    unfolding listed
    measured_long e =
        let long = ltb-true room (9 + one + (9 + two) + n * line) (sym test ∙ e) in
        then_next (within room) f.lists ∙ within_none room (listing_text file r) (omega (arith, measured))

    -- or it is not
    pub measured_short : longer ≡ false → 9 + one + n * line + (9 + two) ≤ room
    measured_short e =
        let short = ltb-false room (9 + one + (9 + two) + n * line) (sym test ∙ e) in
        omega arith

    pub measured_done : longer ≡ false → listed file room ≡ done (listing_text file r)
    unfolding listed
    measured_done e =
        let short = measured_short e in
        then_next (within room) f.lists ∙ within_some room (listing_text file r) (omega (arith, measured))

-- What the program prints.

module _ (input : List ℕ) where
  -- of a file that is too long
  pub report_long : max_file < length input → report_of input ≡ refusal_line 11 0
  unfolding report_of
  report_long h = printed_long (listing input) (length input) h

  -- of another
  pub report_short : length input ≤ max_file → report_of input ≡ printed_of (listing input)
  unfolding report_of
  report_short h = printed_short (listing input) (length input) h

  module _ (few : length input ≤ max_file) where
    -- a refusal
    pub report_refused : {x y : ℕ} → checked_file input ≡ refused x y → report_of input ≡ refusal_line x y
    report_refused h = report_short few ∙ printed_refused (listing input) (listing_refused input h)

    -- or a listing, as the call gives it
    pub report_same : {r : Table} → FileListed input r → (room : ℕ) → listed input room ≡ within room (report_of input)
    unfolding listed
    report_same l room = printed_within (listing input) room l.lists ∙ ap (within room) (sym (report_short few))
