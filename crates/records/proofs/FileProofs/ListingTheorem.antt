-- How long what the listing program prints is at most: its buffer is never too short. Assumes nothing.
use Rattle.std.proofs.Common.{◌≡◌, ℕ, ◌+◌, ◌-◌, ◌*◌, ◌≤◌, List, length, refl, ap, ⊎_elim, length-drop, arith}
use native.Mathlib.Nat.{mul-le-mul_left}
use Rattle.decimal.specs.Answer.{done, ◌then◌}
use Rattle.decimal.proofs.AnswerLaws.{then_done, one_answer}
use Rattle.decimal.proofs.DigitLaws.{le_or_lt}
use Rattle.codec.specs.Columns.{body_size}
use Rattle.codec.specs.Contents.{Table}
use Rattle.codec.specs.Answers.{within}
use Rattle.codec.specs.Alpha.{line_length}
use Rattle.codec.proofs.LineLaws.{line_bound}
use Rattle.records.specs.Files.RecordFile.{read_file}
use Rattle.records.specs.Files.Listing.{file_lines, listing_of, listing, max_file, max_report, report_of, checked_file}
use Rattle.records.proofs.WritingLaws.{decimal_few}
use Rattle.records.proofs.FileProofs.ReportLaws.{refusal_few, within_some, printed_few}
use Rattle.records.proofs.FileProofs.RecordLinesLaws.{records_of, listing_text, FileListed, file_listed}
use Rattle.records.proofs.FileProofs.ListingLaws.{listing_length, report_long, report_short}

-- the listing of a file whose bodies can all be read
listed_bound : {file : List ℕ} {r : Table} → FileListed file r → (body_size r.images) ≡ body_size r.images → length (listing_text file r) ≤ 4 * length file + 64
listed_bound {file} {r} f same =
    let n : ℕ = records_of file r in
    let line : ℕ = line_length r.images in
    let few : r.size - 1 ≡ line = omega (arith, f.size) in
    let lines : n * (r.size - 1) ≡ n * line = ap (λ (k : ℕ). n * k) few in
    let bodies : n * (body_size r.images) ≡ n * body_size r.images = ap (λ (k : ℕ). n * k) same in
    let most : n * line ≤ n * (4 * body_size r.images) = mul-le-mul_left n (line_bound f.sound.all) in
    omega (arith, listing_length f, decimal_few (length r.images), decimal_few n, f.reaches, length-drop r.size file)

-- a listing tells that the bodies can all be read
checked_done : (file : List ℕ) {bytes : List ℕ} → listing file ≡ done bytes → (table : Table) × (checked_file file ≡ done table)
unfolding listing checked_file ◌then◌
checked_done file h =
    let one = then_done (read_file file) (λ (t : Table). file_lines t file then λ (lines : List ℕ). done (listing_of t file lines)) h in
    let two = then_done (file_lines one.value file) (λ (lines : List ℕ). done (listing_of one.value file lines)) one.second in
    (one.value, made one.first two.first)
  where
    made :
        {t : Table} {lines : List ℕ}
        → read_file file ≡ done t
        → file_lines t file ≡ done lines
        → (read_file file then λ t. (file_lines t file then λ lines. done t)) ≡ done t
    made p q = rw (p, q)

-- Published: a listing is at most four times as long as the file, and 64 bytes.
pub listing_bound : (file : List ℕ) {bytes : List ℕ} → listing file ≡ done bytes → length bytes ≤ 4 * length file + 64
listing_bound file {bytes} h =
    let c = checked_done file h in
    let l = file_listed file c.1 in
    omega (arith, ap length (one_answer l.lists h), listed_bound l refl)

-- Published: what the program prints is at most four times as long as the longest file, and 64 bytes.
pub report_bound : (input : List ℕ) → length (report_of input) ≤ max_report
report_bound input =
    ⊎_elim
    (λ few.
    let printed = printed_few max_report (omega arith) (listing input) (λ bytes h. omega (arith, listing_bound input h, few)) in
    omega (arith, ap length (report_short input few), printed))
    (λ many. omega (arith, ap length (report_long input many), refusal_few 11 0))
    (le_or_lt (length input) max_file)

-- Published: so a buffer of that length has room for it.
pub report_fits : (input : List ℕ) (room : ℕ) → max_report ≤ room → within room (report_of input) ≡ done (report_of input)
report_fits input room h = within_some room (report_of input) (omega (arith, report_bound input))
