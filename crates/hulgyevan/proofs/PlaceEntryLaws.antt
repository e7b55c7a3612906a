-- Which refusals entering can be: numbers from 1 to 18, and places below 4,096. Assumes nothing.
use Rattle.std.proofs.Common.{◌≡◌, ℕ, zero, suc, ◌+◌, ◌<◌, ◌≤◌, Bool, true, false, List, [], ◌∷◌, ◌++◌, length, drop, arith, refl}
use Rattle.std.specs.Prelude.{bytes_eq, eqb}
use Rattle.std.specs.List.{concat}
use Rattle.decimal.specs.declared.image.Image.{Image}
use Rattle.decimal.specs.Answer.{Answer, done, refused, pick}
use Rattle.decimal.proofs.RefusalLaws.{RefusesOnly, only_done, only_refused, only_choice, only_then}
use Rattle.codec.specs.Answers.{within}
use Rattle.codec.specs.Contents.{Table, read_alone}
use Rattle.codec.specs.Lists.{max_columns}
use Rattle.codec.specs.Text.{read_text, reading_in, legal_length}
use Rattle.codec.proofs.ContentsLaws.{alone_count}
use Rattle.records.specs.Files.Listing.{columns_word}
use Rattle.records.specs.Files.Writing.{decimal_text}
use Rattle.records.specs.Files.Entering.{placed, is_parted, read_parted, numbers_of, read_line, line_body, Entry, entered, rejected, at_line, first_of, on_line, next_of, begins_with, check_count, is_foot, line_bodies, text_bodies, lines_in, entry_of, entering}
use Rattle.hulgyevan.specs.Outcomes.{places_end, Near}
use Rattle.hulgyevan.specs.Files.{answer_in}
use Rattle.hulgyevan.proofs.PlaceLaws.{near_at, near_zero, near_within, near_alone, near_list}
use Rattle.hulgyevan.proofs.PlaceFileLaws.{near_reading}

-- The numbers of a line.

near_read : (text : List ℕ) → RefusesOnly Near (read_text text)
unfolding read_text
near_read text =
    only_choice (eqb (legal_length text) 0) (near_zero 8 refl) (only_then (reading_in text).number (near_reading text) (λ n. only_done))

near_placed : {A : Type 0} (place : ℕ) (a : Answer A) → place < places_end → RefusesOnly Near a → RefusesOnly Near (placed place a)
unfolding placed
near_placed place (done a) l only = only_done
near_placed place (refused number other) l only =
    let told = only.each refl in only_refused (record { some = told.some; few = told.few; near = l })

near_parted : (index : ℕ) (text : List ℕ) → index < places_end → RefusesOnly Near (read_parted index text)
unfolding read_parted
near_parted index text l =
    only_then (placed index (read_text text)) (near_placed index (read_text text) l (near_read text))
    (λ t. only_choice (is_parted text t.used) only_done (only_refused (near_at 8 index refl l)))

near_numbers : (left index : ℕ) (bytes : List ℕ) → index + left ≤ max_columns → RefusesOnly Near (numbers_of left index bytes)
unfolding numbers_of
near_numbers left index [] few = only_done
near_numbers zero index (b ∷ bs) few = near_zero 10 refl
near_numbers (suc left) index (b ∷ bs) few =
    only_then (read_parted index (b ∷ bs)) (near_parted index (b ∷ bs) (omega (arith, few)))
    (λ t. only_then (numbers_of left (suc index) (drop t.used (b ∷ bs))) (near_numbers left (suc index) (drop t.used (b ∷ bs)) (omega (arith, few))) (λ ns. only_done))

near_line : (ims : List Image) (line : List ℕ) → length ims ≤ max_columns → RefusesOnly Near (line_body ims line)
unfolding line_body
near_line ims line few = only_then (read_line line) (near_numbers max_columns 0 line (omega arith)) (λ ns. near_list ims ns few)

near_count : (n : ℕ) (bytes : List ℕ) → RefusesOnly Near (check_count n bytes)
unfolding check_count
near_count n bytes = only_choice (bytes_eq bytes (decimal_text n)) only_done (near_zero 10 refl)

-- Steps of entering.

only_first : {A B : Type 0} (a : Answer A) (f : A → Entry B) → RefusesOnly Near a → ((x : A) → a ≡ done x → RefusesOnly Near (answer_in (f x))) → RefusesOnly Near (answer_in (first_of a f))
unfolding answer_in first_of
only_first (done x) f p q = q x refl
only_first (refused number place) f p q = only_refused (p.each refl)

only_line : {A B : Type 0} (line : ℕ) (a : Answer A) (f : A → Entry B) → RefusesOnly Near a → ((x : A) → RefusesOnly Near (answer_in (f x))) → RefusesOnly Near (answer_in (on_line line a f))
unfolding answer_in on_line
only_line line (done x) f p q = q x
only_line line (refused number place) f p q = only_refused (p.each refl)

only_next : {A B : Type 0} (e : Entry A) (f : A → Entry B) → RefusesOnly Near (answer_in e) → ((x : A) → RefusesOnly Near (answer_in (f x))) → RefusesOnly Near (answer_in (next_of e f))
unfolding answer_in next_of
only_next (entered x) f p q = q x
only_next (rejected number place) f p q = only_refused (p.each refl)
only_next (at_line line number place) f p q = only_refused (p.each refl)

only_entered : {A : Type 0} (a : A) → RefusesOnly Near (answer_in (entered a))
unfolding answer_in
only_entered a = only_done

only_either : {A : Type 0} (test : Bool) (x y : Entry A) → RefusesOnly Near (answer_in x) → RefusesOnly Near (answer_in y) → RefusesOnly Near (answer_in (pick test x y))
only_either true x y p q = p
only_either false x y p q = q

-- Lines.

near_bodies : (ims : List Image) (first k : ℕ) (lines : List (List ℕ)) → length ims ≤ max_columns → RefusesOnly Near (answer_in (line_bodies ims first k lines))
unfolding line_bodies
near_bodies ims first k [] few = only_entered []
near_bodies ims first k (line ∷ lines) few =
    only_either (is_foot line lines) _ _
    (only_line (first + k) (check_count k (drop 8 line)) (λ _. entered []) (near_count k (drop 8 line)) (λ _. only_entered []))
    (only_line (first + k) (line_body ims line) (λ body. next_of (line_bodies ims first (suc k) lines) (λ bs. entered (body ∷ bs))) (near_line ims line few)
    (λ body. only_next (line_bodies ims first (suc k) lines) (λ bs. entered (body ∷ bs)) (near_bodies ims first (suc k) lines few) (λ bs. only_entered (body ∷ bs))))

near_text : (ims : List Image) (lines : List (List ℕ)) → length ims ≤ max_columns → RefusesOnly Near (answer_in (text_bodies ims lines))
unfolding text_bodies
near_text ims [] few = only_entered []
near_text ims (line ∷ lines) few =
    only_either (begins_with columns_word line) _ _
    (only_line 1 (check_count (length ims) (drop 8 line)) (λ _. line_bodies ims 2 0 lines) (near_count (length ims) (drop 8 line)) (λ _. near_bodies ims 2 0 lines few))
    (near_bodies ims 1 0 (line ∷ lines) few)

-- The call.
pub near_entering : (contents text : List ℕ) (room : ℕ) → RefusesOnly Near (answer_in (entering contents text room))
unfolding entering entry_of
near_entering contents text room =
    only_next (entry_of contents text) (λ file. first_of (within room file) entered)
    (only_first (read_alone contents) (λ (table : Table). next_of (text_bodies table.images (lines_in text)) (λ bs. entered (contents ++ concat bs))) (near_alone contents)
    (λ table h. only_next (text_bodies table.images (lines_in text)) (λ bs. entered (contents ++ concat bs)) (near_text table.images (lines_in text) (alone_count contents h).1) (λ bs. only_entered (contents ++ concat bs))))
    (λ file. only_first (within room file) entered (near_within room file) (λ f e. only_entered f))
