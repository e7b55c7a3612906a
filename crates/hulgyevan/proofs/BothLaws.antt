-- Laws of packing that gives the remainders too, in words. Assumes nothing.
use Rattle.std.proofs.Common.{◌≡◌, ℕ, Bool, true, false, ◌<◌, ◌≤◌, List, length, refl, sym, ap, ◌∙◌, arith}
use Rattle.std.specs.Prelude.{ltb}
use Rattle.std.proofs.lemmas.List.{length-map}
use Rattle.std.proofs.lemmas.Bool.{lt-ltb, le-ltb}
use Rattle.decimal.specs.declared.number.Number.{Number}
use Rattle.decimal.specs.declared.remainder.Remainder.{Remainder}
use Rattle.decimal.specs.Answer.{Answer, done, refused, ◌then◌, pick}
use Rattle.decimal.proofs.AnswerLaws.{then_done, then_same, then_next, then_refused, one_answer}
use Rattle.codec.specs.Answers.{within, stored_in}
use Rattle.codec.specs.Contents.{Table, read_alone}
use Rattle.codec.specs.Packing.{pack_list, body_of, packing}
use Rattle.codec.specs.Remainders.{packing_remainders}
use Rattle.codec.proofs.BodyLaws.{packed_length}
use Rattle.codec.proofs.ContentsLaws.{alone_told}
use Rattle.codec.proofs.FrontLaws.{contents_body}
use Rattle.codec.proofs.PackLaws.{packs_length}
use Rattle.codec.proofs.RemainderLaws.{body_packs, body_left, left_length}
use Rattle.hulgyevan.specs.Words.{number_in, remainder_word, numbers_in, remainder_words}
use Rattle.hulgyevan.specs.Bodies.{packing_both, remainders_both}

-- a body is not empty
body_some : (contents : List ℕ) (ns : List Number) {body : List ℕ} → body_of contents ns ≡ done body → 0 < length body
unfolding body_of
body_some contents ns h =
    let t = then_done (read_alone contents) (λ (table : Table). pack_list table.images ns) h in
    omega (arith, packed_length t.value.images ns t.second, contents_body contents (alone_told contents t.first).0)

-- as many remainders are given as numbers
remainders_count :
    (contents : List ℕ) (ns : List Number) (room : ℕ) {rs : List Remainder} → packing_remainders contents ns room ≡ done rs → length rs ≡ length ns
unfolding packing_remainders
remainders_count contents ns room h =
    let p = then_done (packing contents ns room) _ h in
    let b = then_done (read_alone contents) _ p.second in
    let same = packs_length (body_packs contents ns room b.first p.first) in
    ap length (one_answer h (body_left contents ns room b.first p.first)) ∙ left_length b.value.images ns same ∙ sym same

-- where the remainders have no room, a body that is not empty is refused as in an empty buffer
short_both :
    (a : Answer (List ℕ)) (room words_room count : ℕ)
    → words_room < count
    → ((body : List ℕ) → a ≡ done body → 0 < length body)
    → ((a then within room) then λ body. pick (ltb words_room count) (refused 6 0) (done body)) ≡ (a then within 0)
unfolding within ◌then◌
short_both (done body) room words_room count short some =
    rw (lt-ltb words_room count short, lt-ltb 0 (length body) (some body refl)) (go (ltb room (length body)))
  where
    none : List ℕ → Answer (List ℕ)
    none x = refused 6 0

    go : (b : Bool) → (pick b (refused 6 0) (done body) then none) ≡ refused 6 0
    go true = refl
    go false = refl
short_both (refused number place) room words_room count short some = refl

module _ (contents words : List ℕ) (room words_room : ℕ) where
  -- where the remainders have room, it is packing
  module _ (fits : length words ≤ words_room) where
    pub both_packs : packing_both contents (numbers_in words) room words_room ≡ packing contents (numbers_in words) room
    unfolding packing_both
    both_packs =
        rw (le-ltb words_room (length (numbers_in words)) (omega (arith, length-map words number_in)))
        (then_same (packing contents (numbers_in words) room))

  -- and the remainders are those of packing
  pub both_remainders :
      {rs : List Remainder}
      → done rs ≡ packing_remainders contents (numbers_in words) room
      → remainders_both contents (numbers_in words) room words_room ≡ within words_room (remainder_words rs)
  unfolding remainders_both
  both_remainders h = then_next (λ (rs : List Remainder). within words_room (remainder_words rs)) (sym h)

  pub both_none :
      {number place : ℕ}
      → refused number place ≡ packing_remainders contents (numbers_in words) room
      → (before : List ℕ)
      → stored_in (remainders_both contents (numbers_in words) room words_room) before ≡ before
  unfolding remainders_both stored_in
  both_none h before =
      ap (λ (a : Answer (List ℕ)). stored_in a before)
      (then_refused (λ (rs : List Remainder). within words_room (remainder_words rs)) (sym h))

  -- where they have none, it is packing into an empty buffer, which is refused
  module _ (short : words_room < length words) where
    pub both_empty : packing_both contents (numbers_in words) room words_room ≡ packing contents (numbers_in words) 0
    unfolding packing_both packing
    both_empty =
        short_both (body_of contents (numbers_in words)) room words_room (length (numbers_in words))
        (omega (arith, length-map words number_in))
        (λ body e. body_some contents (numbers_in words) e)

    pub both_stays : (buffer : List ℕ) → stored_in (packing_both contents (numbers_in words) room words_room) buffer ≡ buffer
    unfolding packing_both stored_in ◌then◌
    both_stays buffer =
        rw (lt-ltb words_room (length (numbers_in words)) (omega (arith, length-map words number_in)))
        (go (packing contents (numbers_in words) room))
      where
        go : (a : Answer (List ℕ)) → stored_in (a then λ body. refused 6 0) buffer ≡ buffer
        go (done body) = refl
        go (refused number place) = refl

    pub both_cut : (before : List ℕ) → stored_in (remainders_both contents (numbers_in words) room words_room) before ≡ before
    unfolding remainders_both stored_in within ◌then◌
    both_cut before = go (packing_remainders contents (numbers_in words) room) refl
      where
        go :
            (a : Answer (List Remainder))
            → packing_remainders contents (numbers_in words) room ≡ a
            → stored_in (a then λ rs. within words_room (remainder_words rs)) before ≡ before
        go (done rs) e =
            rw (lt-ltb words_room (length (remainder_words rs))
            (omega (arith, length-map rs remainder_word, length-map words number_in, remainders_count contents (numbers_in words) room e))) refl
        go (refused number place) e = refl
