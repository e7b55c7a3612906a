-- The refusals that the calls on whole files can give, and no others. Document 02, (iii): "Positions are numbers, compared by value as given, so 4 and 5 are never given", nor is 6; "these and all later numbers
-- carry place 0". Assumes nothing.
use Prim.Native.Nat.{ℕ, suc, ◌+◌, ◌≤◌}
use mathlib.Core.Path.{◌≡◌, refl, sym, ◌∙◌}
use mathlib.Core.Bool.{Bool, not, ◌||◌}
use mathlib.Core.List.{List, [], ◌∷◌}
use lib.Dec.{leb, ltb}
use Rattle.std.specs.Prelude.{bytes_eq}
use lib.ListN.{length, get_or}
use native.Mathlib.Omega.{arith}
use borrow.Author.Tests.{le-ltb}
use Rattle.decimal.specs.declared.image.Image.{Image}
use Rattle.decimal.specs.declared.number.Number.{Number}
use Rattle.decimal.specs.Answer.{Answer, done, refused, ◌then◌}
use Rattle.decimal.proofs.AnswerLaws.{never}
use Rattle.decimal.specs.Number.{check_number}
use Rattle.decimal.proofs.RefusalLaws.{RefusesOnly, only_done, only_refused, only_choice, only_then, number_refusals}
use Rattle.codec.specs.Lists.{no_image}
use Rattle.codec.specs.Unpacking.{unpack_body}
use Rattle.codec.proofs.RefusalLaws.{body_refusals}
use Rattle.records.specs.Files.RecordFile.{read_file, bodies_in}
use Rattle.records.proofs.FileProofs.RefusalLaws.{file_refusals}
use Rattle.rolls.specs.Falling.{fall}
use Rattle.rolls.specs.Searching.{max_positions, first_columns_of, first_columns_in, check_count, check_numbers, is_unsigned_fixed, check_kind, refuse_where, check_page, searching}
use Rattle.codec.specs.Answers.{within}
use Rattle.rolls.specs.Finding.{Refusable}
use Rattle.rolls.specs.Merging.{read_whole, contents_in, check_pair, common_table, merged_file, merging}
use Rattle.rolls.specs.MergedFiles.{PairRefusable, MergeRefusable}
use Rattle.rolls.proofs.MergedTheorem.{merged_exactly, length_added}

-- the records
first_columns_refusals :
    {R : ℕ → ℕ → Type 0} → ((column : ℕ) → R 7 column) → R 11 0 → (ims : List Image) (bs : List (List ℕ)) → RefusesOnly R (first_columns_of ims bs)
unfolding first_columns_of
first_columns_refusals half size ims [] = only_done
first_columns_refusals half size ims (b ∷ bs) =
    only_then (unpack_body ims b) (body_refusals half ims b size)
    (λ ns. only_then (first_columns_of ims bs) (first_columns_refusals half size ims bs) (λ columns. only_done))

-- the positions
numbers_refusals : (index : ℕ) (ps : List Number) → RefusesOnly Refusable (check_numbers index ps)
unfolding check_numbers
numbers_refusals index [] = only_done
numbers_refusals index (p ∷ ps) =
    only_then (check_number index p) (number_refusals index p Refusable.not_normal) (λ _. numbers_refusals (suc index) ps)

-- the page
page_refusals : (ims : List Image) (ps : List Number) (falls : Bool) → RefusesOnly Refusable (check_page ims ps falls)
unfolding check_page check_kind refuse_where
page_refusals ims ps falls =
    only_then (check_numbers 0 ps) (numbers_refusals 0 ps)
    (λ _. only_then (check_kind ims) (only_choice (is_unsigned_fixed (get_or ims 0 no_image)) only_done (only_refused Refusable.wrong_kind))
    (λ _. only_then (refuse_where (fall ps) 14) (only_choice (fall ps) (only_refused Refusable.positions_fall) only_done)
    (λ _. only_choice falls (only_refused Refusable.records_fall) only_done)))

-- the call
call_refusals : (file : List ℕ) (ps : List Number) → RefusesOnly Refusable (searching file ps)
unfolding searching check_count
call_refusals file ps =
    only_then (read_file file)
    (file_refusals (λ column. Refusable.no_image_lem) (λ column. Refusable.many_digits) Refusable.wrong_length file Refusable.wrong_count)
    (λ table. only_then (check_count ps) (only_choice (leb (length ps) max_positions) only_done (only_refused Refusable.wrong_count))
    (λ _. only_then (first_columns_in table file) (first_columns_refusals (λ column. Refusable.bad_half) Refusable.wrong_length table.images (bodies_in table file))
    (λ columns. only_then (check_page table.images ps (fall columns)) (page_refusals table.images ps (fall columns)) (λ _. only_done))))

-- Published: the call gives these refusals and no others.
pub search_refusals : (file : List ℕ) (ps : List Number) {number place : ℕ} → searching file ps ≡ refused number place → Refusable number place
search_refusals file ps h = (call_refusals file ps).each h

-- The call that merges.

-- a file read whole
whole_refusals : (file : List ℕ) → RefusesOnly PairRefusable (read_whole file)
unfolding read_whole
whole_refusals file =
    only_then (read_file file)
    (file_refusals (λ column. PairRefusable.no_image_lem) (λ column. PairRefusable.many_digits) PairRefusable.wrong_length file PairRefusable.wrong_count)
    (λ table. only_then (first_columns_in table file) (first_columns_refusals (λ column. PairRefusable.bad_half) PairRefusable.wrong_length table.images (bodies_in table file))
    (λ columns. only_done))

-- two files
pair_refusals : (contents other : List ℕ) (ims : List Image) (falls : Bool) → RefusesOnly PairRefusable (check_pair contents other ims falls)
unfolding check_pair check_kind refuse_where
pair_refusals contents other ims falls =
    only_then (refuse_where (not (bytes_eq contents other)) 17)
    (only_choice (not (bytes_eq contents other)) (only_refused PairRefusable.contents_differ) only_done)
    (λ _. only_then (check_kind ims) (only_choice (is_unsigned_fixed (get_or ims 0 no_image)) only_done (only_refused PairRefusable.wrong_kind))
    (λ _. only_choice falls (only_refused PairRefusable.records_fall) only_done))

-- the merged file
merged_refusals : (first second : List ℕ) → RefusesOnly PairRefusable (merged_file first second)
unfolding merged_file common_table
merged_refusals first second =
    only_then (common_table first second)
    (only_then (read_whole first) (whole_refusals first)
    (λ one. only_then (read_whole second) (whole_refusals second)
    (λ two. only_then (check_pair (contents_in one.table first) (contents_in two.table second) one.table.images (one.falls || two.falls))
    (pair_refusals (contents_in one.table first) (contents_in two.table second) one.table.images (one.falls || two.falls))
    (λ _. only_done))))
    (λ table. only_done)

-- the call
merging_refusals : (first second : List ℕ) (room : ℕ) → RefusesOnly MergeRefusable (merging first second room)
unfolding merging within
merging_refusals first second room =
    only_then (merged_file first second)
    (record { each = λ h. MergeRefusable.files ((merged_refusals first second).each h) })
    (λ file. only_choice (ltb room (length file)) (only_refused MergeRefusable.no_room) only_done)

-- Published: the call that merges gives these refusals and no others;
pub merge_refusals : (first second : List ℕ) (room : ℕ) {number place : ℕ} → merging first second room ≡ refused number place → MergeRefusable number place
merge_refusals first second room h = (merging_refusals first second room).each h

-- Published: and never 6 where the buffer is as long as both files together.
pub merge_room :
    (first second : List ℕ) (room : ℕ) {number place : ℕ}
    → length first + length second ≤ room
    → merging first second room ≡ refused number place
    → PairRefusable number place
unfolding merging within ◌then◌
merge_room first second room {number} {place} long h = go (merged_file first second) refl
  where
    go : (a : Answer (List ℕ)) → merged_file first second ≡ a → PairRefusable number place
    go (done file) e =
        let m = ((merged_exactly first second file).0 e).0 in
        never {m = file} h (rw (e, le-ltb room (length file) (omega (arith, length_added e m))) refl)
    go (refused x y) e = (merged_refusals first second).each (e ∙ (sym (rw e) ∙ h))
