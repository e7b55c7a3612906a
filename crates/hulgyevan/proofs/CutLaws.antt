-- Laws of lists that are too long: what the calls answer is the same where such a list is cut behind the first number too many.
-- Assumes nothing.
use Rattle.std.proofs.Common.{◌≡◌, ℕ, ◌+◌, ◌-◌, ◌≤◌, List, length, take, refl, sym, ap, ◌∙◌, ⊎_elim, arith}
use Rattle.std.proofs.lemmas.List.{length-map, length-take-le, take_all}
use Rattle.std.proofs.lemmas.Bool.{ne_eqb, lt-leb}
use Rattle.decimal.specs.declared.image.Image.{Image}
use Rattle.decimal.proofs.DigitLaws.{le_or_lt}
use Rattle.decimal.specs.declared.number.Number.{Number}
use Rattle.decimal.specs.Answer.{Answer, done, refused, ◌then◌}
use Rattle.decimal.proofs.AnswerLaws.{then_done}
use Rattle.codec.specs.Answers.{within}
use Rattle.codec.specs.Contents.{Table, read_alone}
use Rattle.codec.specs.Lists.{max_columns}
use Rattle.codec.specs.Packing.{pack_list, body_of, packing}
use Rattle.codec.specs.Remainders.{packing_remainders}
use Rattle.codec.proofs.PackLaws.{packs_length}
use Rattle.codec.proofs.RemainderLaws.{left_refused, body_packs}
use Rattle.codec.proofs.ContentsLaws.{alone_sound, contents_sound}
use Rattle.records.specs.declared.files.reserving.Reservation.{Reservation}
use Rattle.records.specs.Files.RecordFile.{read_file, read_used, added}
use Rattle.records.specs.Lines.Printing.{max_elements, check_counts, printed, printing}
use Rattle.rolls.specs.Searching.{max_positions, check_count, searching}
use Rattle.records.specs.Files.Reserving.{read_reserved, filled}
use Rattle.records.proofs.FileProofs.FileLaws.{used_told, file_told}
use Rattle.records.proofs.FileProofs.ReserveLaws.{read_same}
use Rattle.hulgyevan.specs.declared.lines.Element.{Element}
use Rattle.hulgyevan.specs.Lines.{element_in, elements_in}
use Rattle.hulgyevan.specs.Words.{number_in, numbers_in}
use Rattle.hulgyevan.proofs.OutcomeLaws.{then_alike}

-- one more than a contents has columns, a page has positions, and a line takes elements
abbrev pub list_cut : ℕ
list_cut = max_columns + 1

abbrev pub page_cut : ℕ
page_cut = max_positions + 1

abbrev pub line_cut : ℕ
line_cut = max_elements + 1

-- a list under images of which there are no more than a contents has
pub cut_list :
    (ims : List Image) (words : List ℕ)
    → length ims ≤ max_columns
    → pack_list ims (numbers_in (take list_cut words)) ≡ pack_list ims (numbers_in words)
unfolding pack_list
cut_list ims words few =
    ⊎_elim
    (λ short. ap (λ (ws : List ℕ). pack_list ims (numbers_in ws)) (take_all list_cut words short))
    (λ long.
    let cut = length-map (take list_cut words) number_in ∙ length-take-le list_cut words (omega arith) in
    let whole = length-map words number_in in
    rw (
      ne_eqb (length (numbers_in (take list_cut words))) (length ims) (λ e. omega arith),
      ne_eqb (length (numbers_in words)) (length ims) (λ e. omega arith),
    ))
    (le_or_lt (length words) list_cut)

-- packing
pub cut_packing : (contents words : List ℕ) (room : ℕ) → packing contents (numbers_in (take list_cut words)) room ≡ packing contents (numbers_in words) room
unfolding packing body_of
cut_packing contents words room =
    ap (λ (a : Answer (List ℕ)). a then within room)
    (then_alike (read_alone contents) _ _ (λ table h. cut_list table.images words (alone_sound contents h).high))

-- adding
pub cut_added : (buffer : List ℕ) (used : ℕ) (words : List ℕ) → added buffer used (numbers_in (take list_cut words)) ≡ added buffer used (numbers_in words)
unfolding added
cut_added buffer used words =
    then_alike (read_used buffer used) _ _
    (λ table h.
    ap (λ (a : Answer (List ℕ)). a then within (length buffer - used))
    (cut_list table.images words (contents_sound _ (file_told _ (used_told buffer used h).1).contents).high))

-- writing where a place was reserved
pub cut_filled :
    (buffer : List ℕ) (used : ℕ) (r : Reservation) (words : List ℕ)
    → filled buffer used r (numbers_in (take list_cut words)) ≡ filled buffer used r (numbers_in words)
unfolding filled
cut_filled buffer used r words =
    then_alike (read_reserved buffer used r) _ _
    (λ table h.
    ap (λ (a : Answer (List ℕ)). a then within (length buffer - used))
    (cut_list table.images words
    (contents_sound _ (file_told _ (used_told buffer used (sym (read_same buffer used r h) ∙ h)).1).contents).high))

-- a list that packs is no longer than a contents
packed_few : (contents : List ℕ) (ns : List Number) (room : ℕ) {body : List ℕ} → packing contents ns room ≡ done body → length ns ≤ max_columns
unfolding packing body_of
packed_few contents ns room h =
    let b = then_done (body_of contents ns) (within room) h in
    let t = then_done (read_alone contents) (λ (table : Table). pack_list table.images ns) b.first in
    let same = packs_length (body_packs contents ns room t.first h) in
    omega (arith, same, (alone_sound contents t.first).high)

-- and its remainders
pub cut_remainders :
    (contents words : List ℕ) (room : ℕ)
    → packing_remainders contents (numbers_in (take list_cut words)) room ≡ packing_remainders contents (numbers_in words) room
cut_remainders contents words room = go (packing contents (numbers_in words) room) refl
  where
    go :
        (a : Answer (List ℕ))
        → packing contents (numbers_in words) room ≡ a
        → packing_remainders contents (numbers_in (take list_cut words)) room ≡ packing_remainders contents (numbers_in words) room
    go (done body) e =
        let few = packed_few contents (numbers_in words) room e in
        ap (λ (ws : List ℕ). packing_remainders contents (numbers_in ws) room) (take_all list_cut words (omega (arith, length-map words number_in)))
    go (refused number place) e =
        left_refused contents (numbers_in (take list_cut words)) room (cut_packing contents words room ∙ e)
        ∙ sym (left_refused contents (numbers_in words) room e)

-- finding
pub cut_searching : (file words : List ℕ) → searching file (numbers_in (take page_cut words)) ≡ searching file (numbers_in words)
unfolding searching check_count ◌then◌
cut_searching file words =
    ⊎_elim
    (λ short. ap (λ (ws : List ℕ). searching file (numbers_in ws)) (take_all page_cut words short))
    (λ long.
    let cut = length-map (take page_cut words) number_in ∙ length-take-le page_cut words (omega arith) in
    let whole = length-map words number_in in
    then_alike (read_file file) _ _
    (λ table h.
    rw (
      lt-leb (length (numbers_in (take page_cut words))) max_positions (omega arith),
      lt-leb (length (numbers_in words)) max_positions (omega arith),
    ) refl))
    (le_or_lt (length words) page_cut)

-- printing
pub cut_printing :
    (line : List ℕ) (es : List Element) (texts : List ℕ) (room : ℕ)
    → printing line (elements_in (take line_cut es)) texts room ≡ printing line (elements_in es) texts room
unfolding printing printed check_counts ◌then◌
cut_printing line es texts room =
    ⊎_elim
    (λ short. ap (λ (xs : List Element). printing line (elements_in xs) texts room) (take_all line_cut es short))
    (λ long.
    let cut = length-map (take line_cut es) element_in ∙ length-take-le line_cut es (omega arith) in
    let whole = length-map es element_in in
    rw (
      lt-leb (length (elements_in (take line_cut es))) max_elements (omega arith),
      lt-leb (length (elements_in es)) max_elements (omega arith),
    ) refl)
    (le_or_lt (length es) line_cut)
