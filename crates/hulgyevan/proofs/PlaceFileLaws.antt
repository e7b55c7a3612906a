-- Which refusals texts, print lines, record files and whole files of a roll can be: numbers from 1 to 18, and places below 4,096.
-- Assumes nothing.
use Rattle.std.proofs.Common.{◌≡◌, ℕ, zero, suc, ◌+◌, ◌-◌, ◌%◌, ◌<◌, ◌≤◌, Bool, true, false, ◌&&◌, List, [], ◌∷◌, length, take, drop, refl, sym, ◌∙◌, arith}
use Rattle.std.specs.Prelude.{ltb, leb, eqb, pred}
use Rattle.std.proofs.lemmas.Bool.{leb-true}
use Rattle.decimal.specs.declared.image.Image.{Image}
use Rattle.decimal.specs.declared.number.Number.{Number}
use Rattle.decimal.specs.Answer.{Answer, done, refused, ◌then◌, pick}
use Rattle.decimal.specs.Digits.{precision}
use Rattle.decimal.specs.Number.{normal, check_number}
use Rattle.decimal.specs.Image.{hashes, image_bytes, scanned_image, read_image}
use Rattle.decimal.specs.Truncation.{truncation}
use Rattle.decimal.proofs.AnswerLaws.{never_done}
use Rattle.decimal.proofs.BoolLaws.{and_true}
use Rattle.decimal.proofs.RefusalLaws.{RefusesOnly, only_done, only_refused, only_choice, only_then, number_refusals}
use Rattle.codec.specs.declared.walking.Stop.{Stop}
use Rattle.codec.specs.declared.walking.Stop.TheVariants as gives
use Rattle.codec.specs.Answers.{within}
use Rattle.codec.specs.Alpha.{alpha_under, alpha_of, alpha_texts}
use Rattle.codec.specs.Columns.{body_size}
use Rattle.codec.specs.Contents.{Table, read_contents}
use Rattle.codec.specs.Lists.{max_columns}
use Rattle.codec.specs.Packing.{pack_list}
use Rattle.codec.specs.Text.{TextParts, text_value, all_digits_of, parts_in, no_reading, reading_of, reading_in, legal_length}
use Rattle.codec.specs.Unpacking.{unpack_body}
use Rattle.codec.specs.Walking.{Walk, stop_before, stopped, with_number, numbers_in, walking, walk_meaning}
use Rattle.codec.proofs.ContentsLaws.{contents_sound}
use Rattle.records.specs.declared.lines.fields.Element.{Element}
use Rattle.records.specs.declared.lines.fields.Element.TheVariants as element
use Rattle.records.specs.declared.files.reserving.Reservation.{Reservation}
use Rattle.records.specs.Files.RecordFile.{read_file, read_used, bodies_in}
use Rattle.records.specs.Files.Listing.{record_lines}
use Rattle.records.specs.Lines.Printing.{max_elements, max_line, check_counts, check_fields, check_element, check_elements}
use Rattle.records.specs.Files.Reserving.{check_place, read_for, read_reserved}
use Rattle.records.specs.Lines.Scanning.{field_length}
use Rattle.records.proofs.FileProofs.FileLaws.{file_told, used_told}
use Rattle.records.proofs.FileProofs.ReserveLaws.{read_same}
use Rattle.rolls.specs.Searching.{max_positions, first_columns_of, first_columns_in, check_numbers}
use Rattle.rolls.specs.Merging.{read_whole}
use Rattle.hulgyevan.specs.Outcomes.{places_end, Near}
use Rattle.hulgyevan.proofs.PlaceLaws.{near_at, near_zero, only_told, near_within, near_scaled, near_image, near_truncation, near_contents, near_list, near_body}

-- Alpha texts.

pub near_alpha : (image : List ℕ) (n : Number) → RefusesOnly Near (alpha_of image n)
unfolding alpha_of alpha_under
near_alpha image n =
    only_then (read_image 0 image) (near_image 0 image (omega arith))
    (λ im. only_then (truncation 0 im n) (near_truncation im n) (λ t. only_done))

near_texts : (ims : List Image) (ns : List Number) → RefusesOnly Near (alpha_texts ims ns)
unfolding alpha_texts
near_texts [] ns = only_done
near_texts (im ∷ ims) [] = only_done
near_texts (im ∷ ims) (n ∷ ns) =
    only_then (alpha_of (image_bytes im) n) (near_alpha (image_bytes im) n)
    (λ text. only_then (alpha_texts ims ns) (near_texts ims ns) (λ texts. only_done))

-- Text numbers.

near_value : (t : TextParts) → RefusesOnly Near (text_value t)
unfolding text_value
near_value t = near_scaled _ _ _ _

pub near_reading : (bytes : List ℕ) → RefusesOnly Near (reading_in bytes).number
unfolding reading_in
near_reading bytes = go (eqb (length (all_digits_of (parts_in bytes).numeral)) 0)
  where
    go : (b : Bool) → RefusesOnly Near (pick b no_reading (reading_of (parts_in bytes))).number
    go true = near_zero 8 refl
    go false = near_value (parts_in bytes)

near_with :
    (index place : ℕ) (a : Answer Number) (rest : Walk)
    → index < places_end
    → RefusesOnly Near a
    → RefusesOnly Near rest.answer
    → RefusesOnly Near (with_number index place a rest).answer
unfolding with_number stopped
near_with index place (done n) rest l first others = others
near_with index place (refused number other) rest l first others =
    let told = first.each refl in only_refused (record { some = told.some; few = told.few; near = l })

near_either :
    (b : Bool) (x y : Walk) → RefusesOnly Near x.answer → RefusesOnly Near y.answer → RefusesOnly Near (pick b x y).answer
near_either true x y p q = p
near_either false x y p q = q

near_walk : (left index place : ℕ) (bytes : List ℕ) → index + left ≤ max_columns → RefusesOnly Near (numbers_in left index place bytes).answer
unfolding numbers_in stopped
near_walk zero index place bytes l = only_done
near_walk (suc left) index place bytes l =
    near_either (eqb (legal_length bytes) 0) (stopped (done (stop_before bytes)) place) _ only_done
    (near_with index place (reading_in bytes).number _ (omega arith) (near_reading bytes)
    (near_walk left (suc index) (place + legal_length bytes) (drop (legal_length bytes) bytes) (omega arith)))

-- why reading stopped
pub near_stop : (text : List ℕ) (from : ℕ) → RefusesOnly Near (walk_meaning (walking text from).answer)
unfolding walking
near_stop text from = go (numbers_in max_columns 0 from (drop from text)).answer (near_walk max_columns 0 from (drop from text) (omega arith))
  where
    go : (a : Answer Stop) → RefusesOnly Near a → RefusesOnly Near (walk_meaning a)
    go (done gives.End) only = only_done
    go (done gives.NoNumber) only = near_zero 8 refl
    go (done gives.TooMany) only = near_zero 10 refl
    go (refused number place) only = only_refused (only.each refl)

-- Print lines.

pub near_fields : (index inside : ℕ) (line : List ℕ) → index + length line ≤ max_line → RefusesOnly Near (check_fields index inside line)
unfolding check_fields
near_fields index inside [] l = only_done
near_fields index (suc inside) (b ∷ bs) l = near_fields index inside bs (omega arith)
near_fields index zero (b ∷ bs) l =
    only_choice (eqb (field_length (b ∷ bs)) 0) (near_fields index 0 bs (omega arith))
    (only_choice (ltb precision (hashes (scanned_image (take (field_length (b ∷ bs)) (b ∷ bs))))) (only_refused (near_at 2 index refl (omega arith)))
    (near_fields (suc index) (pred (field_length (b ∷ bs))) bs (omega arith)))

near_element : (room index : ℕ) (e : Element) → index < places_end → RefusesOnly Near (check_element room index e)
unfolding check_element
near_element room index (element.Number n) l = only_choice (normal n) only_done (only_refused (near_at 3 index refl l))
near_element room index (element.Text start size) l = only_choice (leb (start + size) room) only_done (only_refused (near_at 13 index refl l))

pub near_elements : (room index : ℕ) (es : List Element) → index + length es ≤ max_elements → RefusesOnly Near (check_elements room index es)
unfolding check_elements
near_elements room index [] l = only_done
near_elements room index (e ∷ es) l =
    only_then (check_element room index e) (near_element room index e (omega arith)) (λ _. near_elements room (suc index) es (omega arith))

pub near_counts : (count size : ℕ) → RefusesOnly Near (check_counts count size)
unfolding check_counts
near_counts count size = only_choice (leb count max_elements && leb size max_line) only_done (near_zero 10 refl)

-- and what they say where they do not refuse
pub counts_told : (count size : ℕ) → check_counts count size ≡ done tt → (count ≤ max_elements) × (size ≤ max_line)
unfolding check_counts
counts_told count size h = go (leb count max_elements && leb size max_line) refl h
  where
    go :
        (b : Bool)
        → (leb count max_elements && leb size max_line) ≡ b
        → ◌≡◌ {A = Answer (Unit {0})} (pick b (done tt) (refused 10 0)) (done tt)
        → (count ≤ max_elements) × (size ≤ max_line)
    go true e p =
        let both = and_true (leb count max_elements) (leb size max_line) e in (leb-true count max_elements both.0, leb-true size max_line both.1)
    go false e p = never_done p

-- Record files.

pub near_file : (file : List ℕ) → RefusesOnly Near (read_file file)
unfolding read_file
near_file file =
    only_then (read_contents file) (near_contents file)
    (λ table. only_choice (eqb ((length file - table.size) % body_size table.images) 0) only_done (near_zero 11 refl))

pub near_used : (buffer : List ℕ) (used : ℕ) → RefusesOnly Near (read_used buffer used)
unfolding read_used
near_used buffer used = only_choice (ltb (length buffer) used) (near_zero 11 refl) (near_file (take used buffer))

-- of a file that is read there are no more columns than a contents has
pub file_few : (file : List ℕ) {table : Table} → read_file file ≡ done table → length table.images ≤ max_columns
file_few file h = (contents_sound file (file_told file h).contents).high

pub used_few : (buffer : List ℕ) (used : ℕ) {table : Table} → read_used buffer used ≡ done table → length table.images ≤ max_columns
used_few buffer used h = file_few (take used buffer) (used_told buffer used h).1

pub near_reserved : (buffer : List ℕ) (used : ℕ) (r : Reservation) → RefusesOnly Near (read_reserved buffer used r)
unfolding read_reserved read_for check_place
near_reserved buffer used r =
    let file = take used buffer in
    only_choice (ltb (length buffer) used) (near_zero 11 refl)
    (only_then (read_contents file) (near_contents file)
    (λ table. only_then (check_place (length file) (body_size table.images) r)
    (only_choice (eqb (length file) r.start && eqb (body_size table.images) r.size) only_done (near_zero 18 refl)) (λ _. near_file file)))

pub reserved_few :
    (buffer : List ℕ) (used : ℕ) (r : Reservation) {table : Table} → read_reserved buffer used r ≡ done table → length table.images ≤ max_columns
reserved_few buffer used r h = used_few buffer used (sym (read_same buffer used r h) ∙ h)

-- a list that is packed behind a used length
pub near_behind :
    (ims : List Image) (ns : List Number) (room : ℕ) → length ims ≤ max_columns → RefusesOnly Near (pack_list ims ns then within room)
near_behind ims ns room l = only_then (pack_list ims ns) (near_list ims ns l) (λ body. near_within room body)

pub near_lines : (ims : List Image) (bodies : List (List ℕ)) → length ims ≤ max_columns → RefusesOnly Near (record_lines ims bodies)
unfolding record_lines
near_lines ims [] l = only_done
near_lines ims (body ∷ bs) l =
    only_then (unpack_body ims body) (near_body ims body l)
    (λ ns. only_then (alpha_texts ims ns) (near_texts ims ns)
    (λ texts. only_then (record_lines ims bs) (near_lines ims bs l) (λ lines. only_done)))

-- Rolls.

pub near_first_columns : (ims : List Image) (bodies : List (List ℕ)) → length ims ≤ max_columns → RefusesOnly Near (first_columns_of ims bodies)
unfolding first_columns_of
near_first_columns ims [] l = only_done
near_first_columns ims (body ∷ bs) l =
    only_then (unpack_body ims body) (near_body ims body l)
    (λ ns. only_then (first_columns_of ims bs) (near_first_columns ims bs l) (λ columns. only_done))

pub near_whole : (file : List ℕ) → RefusesOnly Near (read_whole file)
unfolding read_whole
near_whole file =
    only_told (read_file file) (near_file file)
    (λ table h. only_then (first_columns_in table file) (near_first_columns table.images (bodies_in table file) (file_few file h)) (λ columns. only_done))

pub near_positions : (index : ℕ) (ps : List Number) → index + length ps ≤ max_positions → RefusesOnly Near (check_numbers index ps)
unfolding check_numbers
near_positions index [] l = only_done
near_positions index (p ∷ ps) l =
    only_then (check_number index p) (number_refusals index p (near_at 3 index refl (omega arith))) (λ _. near_positions (suc index) ps (omega arith))
