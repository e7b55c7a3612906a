-- Every call's word tells its answer: 0 exactly where the call is done, else the number and the place, which is below 4,096.
-- Assumes nothing.
use Rattle.std.proofs.Common.{◌≡◌, ℕ, bytes_eq, true, false, [], ◌∷◌, get_or, ◌-◌, ◌^◌, ◌<◌, ◌≤◌, Bool, not, ◌||◌, List, length, refl, arith, ℤ}
use Rattle.std.specs.Prelude.{ltb, leb, eqb}
use Rattle.std.proofs.lemmas.Bool.{leb-true}
use Rattle.decimal.specs.declared.image.Image.{Image}
use Rattle.decimal.specs.declared.number.Number.{Number}
use Rattle.decimal.specs.Answer.{Answer, done, refused, ◌then◌, pick}
use Rattle.decimal.specs.Number.{parts_number, scaled_number}
use Rattle.decimal.specs.Comparison.{comparison}
use Rattle.decimal.proofs.AnswerLaws.{never_done}
use Rattle.decimal.proofs.RefusalLaws.{RefusesOnly, only_done, only_choice, only_then}
use Rattle.codec.specs.Alpha.{alpha_of, writing_alpha}
use Rattle.codec.specs.Contents.{read_alone, read_contents}
use Rattle.codec.specs.Lists.{no_image}
use Rattle.codec.specs.Packing.{pack_list, body_of, packing}
use Rattle.codec.specs.Text.{reading_in, legal_length, read_text, convert_text}
use Rattle.codec.specs.Unpacking.{unpacking}
use Rattle.codec.specs.Walking.{Walk, walking, walk_meaning}
use Rattle.codec.proofs.ContentsLaws.{alone_sound}
use Rattle.records.specs.declared.lines.fields.Element.{Element}
use Rattle.records.specs.declared.files.reserving.Reservation.{Reservation}
use Rattle.records.specs.Lines.Fields.{read_marked, read_field}
use Rattle.records.specs.Files.RecordFile.{starting_file, read_file, read_used, record_count, bodies_in, added, shown}
use Rattle.records.specs.Files.Listing.{file_lines, listing, listed}
use Rattle.records.specs.Lines.Printing.{has_field, check_counts, check_fields, check_some, check_elements, printed, room_for, printing, forecasting}
use Rattle.records.specs.Files.Reserving.{reserved, read_reserved, filled}
use Rattle.rolls.specs.Searching.{max_positions, first_columns_in, check_count, check_numbers, check_kind, refuse_where, check_page, searching, is_unsigned_fixed}
use Rattle.rolls.specs.Falling.{fall}
use Rattle.rolls.specs.Merging.{read_whole, contents_in, check_pair, common_table, merged_file, merging}
use Rattle.hulgyevan.specs.Outcomes.{refusal_word, outcome, Told, Near, CallTells}
use Rattle.hulgyevan.specs.Words.{words_of}
use Rattle.hulgyevan.specs.Bodies.{unpacking_words, packing_both}
use Rattle.hulgyevan.specs.Texts.{walk_words}
use Rattle.hulgyevan.specs.Files.{answer_in}
use Rattle.hulgyevan.specs.Roll.{finding}
use Rattle.records.specs.Files.Entering.{entering}
use Rattle.records.specs.Files.WholeLength.{whole_length_of}
use Rattle.hulgyevan.proofs.PlaceEntryLaws.{near_entering}
use Rattle.hulgyevan.proofs.OutcomeTheorem.{outcome_tells}
use Rattle.hulgyevan.proofs.PlaceLaws.{near_zero, only_told, near_within, near_parts, near_scaled, near_comparison, near_contents, near_alone, near_list, near_body}
use Rattle.hulgyevan.proofs.PlaceFileLaws.{near_alpha, near_reading, near_stop, near_fields, near_elements, near_counts, counts_told, near_file, near_used, file_few, used_few, near_reserved, reserved_few, near_behind, near_lines, near_first_columns, near_whole, near_positions}

-- such a refusal is told by its word, which is small
near_told : {number place : ℕ} → Near number place → Told number place
near_told n = let some = n.some in let few = n.few in let near = n.near in record { some = some; few = few; near = omega arith }

near_small : (number place : ℕ) → Near number place → refusal_word number place < 2 ^ 20
unfolding refusal_word
near_small number place n = let few = n.few in let near = n.near in omega arith

outcome_small : {A : Type 0} (a : Answer A) → RefusesOnly Near a → outcome a < 2 ^ 20
unfolding outcome
outcome_small (done value) only = omega arith
outcome_small (refused number place) only = near_small number place (only.each refl)

-- an answer that refuses so alone
near_tells : {A : Type 0} (a : Answer A) → RefusesOnly Near a → CallTells a
near_tells a only =
    record {
      tells = outcome_tells a (record { each = λ h. near_told (only.each h) });
      near = λ h. (only.each h).near;
      small = outcome_small a only;
    }

-- The calls for numbers.

pub parts_tells : (negative : Bool) (mantissa : ℕ) (e : ℤ) → CallTells (parts_number 0 negative mantissa e)
parts_tells negative mantissa e = near_tells _ (near_parts negative mantissa e)

pub steps_tells : (negative : Bool) (steps : ℕ) → CallTells (scaled_number 0 negative steps 0 0)
steps_tells negative steps = near_tells _ (near_scaled negative steps 0 0)

pub comparison_tells : (a b : Number) → CallTells (comparison a b)
comparison_tells a b = near_tells _ (near_comparison a b)

-- The calls for contents and bodies.

pub contents_tells : (contents : List ℕ) → CallTells (read_alone contents)
contents_tells contents = near_tells _ (near_alone contents)

near_packing : (contents : List ℕ) (ns : List Number) (room : ℕ) → RefusesOnly Near (packing contents ns room)
unfolding packing body_of
near_packing contents ns room =
    only_then (read_alone contents then λ table. pack_list table.images ns)
    (only_told (read_alone contents) (near_alone contents) (λ table h. near_list table.images ns (alone_sound contents h).high))
    (λ body. near_within room body)

pub packing_tells : (contents : List ℕ) (ns : List Number) (room : ℕ) → CallTells (packing contents ns room)
packing_tells contents ns room = near_tells _ (near_packing contents ns room)

pub both_tells : (contents : List ℕ) (ns : List Number) (room words_room : ℕ) → CallTells (packing_both contents ns room words_room)
unfolding packing_both
both_tells contents ns room words_room =
    near_tells (packing_both contents ns room words_room)
    (only_then (packing contents ns room) (near_packing contents ns room)
    (λ body. only_choice (ltb words_room (length ns)) (near_zero 6 refl) only_done))

pub unpacking_tells : (contents body : List ℕ) (room : ℕ) → CallTells (unpacking_words contents body room)
unfolding unpacking_words unpacking
unpacking_tells contents body room =
    near_tells (unpacking_words contents body room)
    (only_then (unpacking contents body)
    (only_told (read_alone contents) (near_alone contents) (λ table h. near_body table.images body (alone_sound contents h).high))
    (λ ns. near_within room (words_of ns)))

pub alpha_tells : (image : List ℕ) (n : Number) (room : ℕ) → CallTells (writing_alpha image n room)
unfolding writing_alpha
alpha_tells image n room =
    near_tells (writing_alpha image n room) (only_then (alpha_of image n) (near_alpha image n) (λ text. near_within room text))

-- The calls for texts.

pub read_tells : (text : List ℕ) → CallTells (read_text text)
unfolding read_text
read_tells text =
    near_tells (read_text text)
    (only_choice (eqb (legal_length text) 0) (near_zero 8 refl) (only_then (reading_in text).number (near_reading text) (λ n. only_done)))

near_convert : (text : List ℕ) → RefusesOnly Near (convert_text text)
unfolding convert_text
near_convert text = only_choice (eqb (legal_length text) (length text)) (near_reading text) (near_zero 8 refl)

pub convert_tells : (text : List ℕ) → CallTells (convert_text text)
convert_tells text = near_tells _ (near_convert text)

pub walk_tells : (walk : Walk) (room : ℕ) → CallTells (walk_words walk room)
unfolding walk_words
walk_tells walk room = near_tells (walk_words walk room) (near_within room (words_of walk.numbers))

-- and the word of why reading stopped
pub stop_tells : (text : List ℕ) (from : ℕ) → CallTells (walk_meaning (walking text from).answer)
stop_tells text from = near_tells _ (near_stop text from)

-- The calls for print lines.

near_some : (line : List ℕ) (es : List Element) → RefusesOnly Near (check_some line es)
unfolding check_some
near_some line [] = only_done
near_some line (e ∷ es) = only_choice (has_field line) only_done (near_zero 9 refl)

pub printing_tells : (line : List ℕ) (es : List Element) (texts : List ℕ) (room : ℕ) → CallTells (printing line es texts room)
unfolding printing printed room_for
printing_tells line es texts room =
    near_tells (printing line es texts room)
    (only_then (printed line es texts)
    (only_told (check_counts (length es) (length line)) (near_counts (length es) (length line))
    (λ v h.
    let few = counts_told (length es) (length line) h in
    only_then (check_fields 0 0 line) (near_fields 0 0 line (omega (arith, few.1)))
    (λ _. only_then (check_some line es) (near_some line es)
    (λ _. only_then (check_elements (length texts) 0 es) (near_elements (length texts) 0 es (omega (arith, few.0))) (λ _. only_done)))))
    (λ p. only_choice (ltb room (length p.bytes)) (near_zero 6 refl) only_done))

pub forecast_tells : (count size : ℕ) → CallTells (forecasting count size)
unfolding forecasting
forecast_tells count size =
    near_tells (forecasting count size) (only_then (check_counts count size) (near_counts count size) (λ _. only_done))

pub field_tells : (field : List ℕ) → CallTells (read_field field)
unfolding read_marked
field_tells field = near_tells (read_field field) (near_convert _)

-- The calls for record files.

pub starting_tells : (contents : List ℕ) (room : ℕ) → CallTells (starting_file contents room)
unfolding starting_file
starting_tells contents room =
    near_tells (starting_file contents room) (only_then (read_alone contents) (near_alone contents) (λ table. near_within room contents))

pub file_tells : (file : List ℕ) → CallTells (read_file file)
file_tells file = near_tells _ (near_file file)

pub added_tells : (buffer : List ℕ) (used : ℕ) (ns : List Number) → CallTells (added buffer used ns)
unfolding added
added_tells buffer used ns =
    near_tells (added buffer used ns)
    (only_told (read_used buffer used) (near_used buffer used)
    (λ table h. near_behind table.images ns (length buffer - used) (used_few buffer used h)))

pub reserved_tells : (buffer : List ℕ) (used : ℕ) → CallTells (reserved buffer used)
unfolding reserved
reserved_tells buffer used = near_tells (reserved buffer used) (only_then (read_used buffer used) (near_used buffer used) (λ table. only_done))

pub filled_tells : (buffer : List ℕ) (used : ℕ) (r : Reservation) (ns : List Number) → CallTells (filled buffer used r ns)
unfolding filled
filled_tells buffer used r ns =
    near_tells (filled buffer used r ns)
    (only_told (read_reserved buffer used r) (near_reserved buffer used r)
    (λ table h. near_behind table.images ns (length buffer - used) (reserved_few buffer used r h)))

pub shown_tells : (file : List ℕ) (index : ℕ) → CallTells (shown file index)
unfolding shown
shown_tells file index =
    near_tells (shown file index)
    (only_then (read_file file) (near_file file) (λ table. only_choice (ltb index (record_count table file)) only_done (near_zero 12 refl)))

pub listed_tells : (file : List ℕ) (room : ℕ) → CallTells (listed file room)
unfolding listed listing
listed_tells file room =
    near_tells (listed file room)
    (only_then (listing file)
    (only_told (read_file file) (near_file file)
    (λ table h. only_then (file_lines table file) (near_lines table.images (bodies_in table file) (file_few file h)) (λ lines. only_done)))
    (λ bytes. near_within room bytes))

pub entering_tells : (contents text : List ℕ) (room : ℕ) → CallTells (answer_in (entering contents text room))
entering_tells contents text room = near_tells (answer_in (entering contents text room)) (near_entering contents text room)

pub whole_tells : (file : List ℕ) → CallTells (whole_length_of file)
unfolding whole_length_of
whole_tells file = near_tells (whole_length_of file) (only_then (read_contents file) (near_contents file) (λ table. only_done))

-- The calls for whole files of a roll.

near_where : (test : Bool) (number : ℕ) → RefusesOnly {A = Unit {0}} Near (refused number 0) → RefusesOnly Near (refuse_where test number)
unfolding refuse_where
near_where test number only = only_choice test only only_done

near_kind : (ims : List Image) → RefusesOnly Near (check_kind ims)
unfolding check_kind
near_kind ims = only_choice (is_unsigned_fixed (get_or ims 0 no_image)) only_done (near_zero 16 refl)

-- positions that are not refused with 10
count_told : (ps : List Number) → check_count ps ≡ done tt → length ps ≤ max_positions
unfolding check_count
count_told ps h = go (leb (length ps) max_positions) refl h
  where
    go : (b : Bool) → leb (length ps) max_positions ≡ b → ◌≡◌ {A = Answer (Unit {0})} (pick b (done tt) (refused 10 0)) (done tt) → length ps ≤ max_positions
    go true e p = leb-true (length ps) max_positions e
    go false e p = never_done p

near_page : (ims : List Image) (ps : List Number) (falling : Bool) → length ps ≤ max_positions → RefusesOnly Near (check_page ims ps falling)
unfolding check_page
near_page ims ps falling few =
    only_then (check_numbers 0 ps) (near_positions 0 ps (omega arith))
    (λ _. only_then (check_kind ims) (near_kind ims)
    (λ _. only_then (refuse_where (fall ps) 14) (near_where (fall ps) 14 (near_zero 14 refl)) (λ _. near_where falling 15 (near_zero 15 refl))))

near_searching : (file : List ℕ) (ps : List Number) → RefusesOnly Near (searching file ps)
unfolding searching check_count
near_searching file ps =
    only_told (read_file file) (near_file file)
    (λ table h. only_told (check_count ps) (only_choice (leb (length ps) max_positions) only_done (near_zero 10 refl))
    (λ v c. only_then (first_columns_in table file) (near_first_columns table.images (bodies_in table file) (file_few file h))
    (λ columns. only_then (check_page table.images ps (fall columns)) (near_page table.images ps (fall columns) (count_told ps c)) (λ _. only_done))))

pub finding_tells : (file : List ℕ) (ps : List Number) (room : ℕ) → CallTells (finding file ps room)
unfolding finding
finding_tells file ps room =
    near_tells (finding file ps room)
    (only_then (searching file ps) (near_searching file ps)
    (λ found. only_choice (ltb room (length found.records)) (near_zero 6 refl) only_done))

pub merging_tells : (first second : List ℕ) (room : ℕ) → CallTells (merging first second room)
unfolding merging merged_file common_table check_pair
merging_tells first second room =
    near_tells (merging first second room)
    (only_then (merged_file first second)
    (only_then (common_table first second)
    (only_then (read_whole first) (near_whole first)
    (λ one. only_then (read_whole second) (near_whole second)
    (λ two. only_then (check_pair (contents_in one.table first) (contents_in two.table second) one.table.images (one.falls || two.falls))
    (only_then (refuse_where (not (bytes_eq (contents_in one.table first) (contents_in two.table second))) 17) (near_where _ 17 (near_zero 17 refl))
    (λ _. only_then (check_kind one.table.images) (near_kind one.table.images) (λ _. near_where (one.falls || two.falls) 15 (near_zero 15 refl))))
    (λ _. only_done))))
    (λ table. only_done))
    (λ bytes. near_within room bytes))
