-- Words that pack are read back as words that pack to the same body. Assumes nothing.
use Rattle.std.proofs.Common.{◌≡◌, ℕ, suc, ◌≤◌, Bool, true, false, List, [], ◌∷◌, get_or, length, refl, sym, ap, ◌∙◌, arith}
use Rattle.std.specs.Prelude.{eqb}
use Rattle.std.proofs.lemmas.List.{length-map}
use Rattle.std.proofs.lemmas.Bool.{eqb-true, le-ltb}
use Rattle.decimal.specs.declared.image.Image.{Image}
use Rattle.decimal.specs.declared.number.Number.{Number}
use Rattle.decimal.specs.Answer.{done, refused, pick}
use Rattle.decimal.specs.Number.{zero_number, normal}
use Rattle.decimal.proofs.AnswerLaws.{never_done, then_next}
use Rattle.codec.specs.Answers.{within}
use Rattle.codec.specs.Contents.{Table}
use Rattle.codec.specs.Packing.{pack_columns, pack_list, body_of}
use Rattle.codec.specs.Unpacking.{unpack_body, unpacking}
use Rattle.codec.proofs.ReadBackTheorem.{contents_read_back, unpacked_normal}
use Rattle.hulgyevan.specs.Words.{number_in, word_of, numbers_in, words_of, AllHeld, no_number, one_number}
use Rattle.hulgyevan.specs.Bodies.{unpacking_words}
use Rattle.hulgyevan.proofs.WordTheorem.{normal_held, numbers_back}

-- a list that packs is as long as the images
list_length : (ims : List Image) (ns : List Number) {body : List ℕ} → pack_list ims ns ≡ done body → length ns ≡ length ims
unfolding pack_list
list_length ims ns {body} h = go (eqb (length ns) (length ims)) refl h
  where
    go : (b : Bool) → eqb (length ns) (length ims) ≡ b → pick b (pack_columns 0 ims ns) (refused 10 0) ≡ done body → length ns ≡ length ims
    go true e p = eqb-true (length ns) (length ims) e
    go false e p = never_done p

-- numbers in normal form fill no more than the fields of words
all_held : (ns : List Number) → ((i : ℕ) → normal (get_or ns i zero_number) ≡ true) → AllHeld ns
all_held [] form = no_number
all_held (n ∷ ns) form = one_number (normal_held n (form 0)) (all_held ns (λ i. form (suc i)))

-- a list that has room is given
within_fits : (room : ℕ) (list : List ℕ) → length list ≤ room → within room list ≡ done list
unfolding within
within_fits room list l = rw (le-ltb room (length list) l) refl

-- Published: where words pack, the body is read back into a slice of as many words, and those pack to it again.
pub words_read_back :
    (contents words : List ℕ) {body : List ℕ}
    → body_of contents (numbers_in words) ≡ done body
    → (backs : List ℕ) × (unpacking_words contents body (length words) ≡ done backs) × (body_of contents (numbers_in backs) ≡ done body)
unfolding unpacking_words unpacking body_of
words_read_back contents words {body} h =
    let b = contents_read_back contents h in
    let ims = b.0.images in
    let ts = b.2 in
    let read : unpack_body ims body ≡ done ts = sym (then_next (λ (t : Table). unpack_body t.images body) b.1) ∙ b.4 in
    let given : pack_list ims (numbers_in words) ≡ done body = sym (then_next (λ (t : Table). pack_list t.images (numbers_in words)) b.1) ∙ h in
    let again : pack_list ims ts ≡ done body = sym (then_next (λ (t : Table). pack_list t.images ts) b.1) ∙ b.5 in
    let same = numbers_back (all_held ts (unpacked_normal ims body read)) in
    let first = list_length ims (numbers_in words) given in
    let second = list_length ims ts again in
    let fits : length (words_of ts) ≤ length words = omega (arith, length-map ts word_of, length-map words number_in) in
    (words_of ts, then_next (λ (ns : List Number). within (length words) (words_of ns)) b.4 ∙ within_fits (length words) (words_of ts) fits, ap (body_of contents) same ∙ b.5)
