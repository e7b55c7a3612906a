-- Laws of the calls for C, one for each case. Assumes nothing.
use Rattle.std.proofs.Common.{◌≡◌, ℕ, List, length, refl, sym, ap}
use Rattle.decimal.specs.Answer.{Answer, done, refused, mapped}
use Rattle.decimal.specs.declared.number.Number.{Number}
use Rattle.decimal.proofs.AnswerLaws.{mapped_refused_back, then_next, then_refused}
use Rattle.codec.specs.Columns.{body_size}
use Rattle.codec.specs.Contents.{Table}
use Rattle.codec.specs.declared.walking.TextNumbers.{TextNumbers}
use Rattle.codec.specs.Answers.{within}
use Rattle.codec.specs.Unpacking.{unpacking}
use Rattle.codec.specs.Walking.{Walk, walk_of}
use Rattle.records.specs.Files.RecordFile.{record_count}
use Rattle.hulgyevan.specs.Outcomes.{refusal_word, outcome, value_or}
use Rattle.hulgyevan.specs.Words.{words_of}
use Rattle.hulgyevan.specs.Bodies.{columns_of, body_of, unpacking_words}
use Rattle.hulgyevan.specs.Texts.{walk_words}
use Rattle.hulgyevan.specs.Files.{size_of_contents}
use Rattle.hulgyevan.proofs.OutcomeLaws.{outcome_refused, outcome_done}

-- what a refused call leaves where a pointer for a result points
pub value_refused :
    {A B : Type 0} (f : A → B) (g : A → ℕ) (a : Answer A) {number place : ℕ} (before : ℕ)
    → refused number place ≡ mapped f a
    → value_or (mapped g a) before ≡ before
unfolding value_or mapped
value_refused f g a before h = rw (mapped_refused_back f a h) refl

-- The contents that the code reads.
module _ (a : Answer Table) where
  pub table_refused : {number place : ℕ} → refused number place ≡ a → outcome a ≡ refusal_word number place
  table_refused h = outcome_refused h

  pub table_kept : {number place : ℕ} → refused number place ≡ a → (g : Table → ℕ) (before : ℕ) → value_or (mapped g a) before ≡ before
  unfolding value_or mapped
  table_kept h g before = rw (sym h) refl

  module _ {r : Table} (h : done r ≡ a) where
    pub table_word : outcome a ≡ 0
    table_word = outcome_done h

    module _ (before : ℕ) where
      pub table_columns : value_or (mapped columns_of a) before ≡ length r.images
      unfolding value_or mapped
      table_columns = ap (λ (x : Answer Table). value_or (mapped columns_of x) before) (sym h)

      pub table_body : value_or (mapped body_of a) before ≡ body_size r.images
      unfolding value_or mapped
      table_body = ap (λ (x : Answer Table). value_or (mapped body_of x) before) (sym h)

      pub table_size : value_or (mapped size_of_contents a) before ≡ r.size
      unfolding value_or mapped
      table_size = ap (λ (x : Answer Table). value_or (mapped size_of_contents x) before) (sym h)

      pub table_count : (file : List ℕ) → value_or (mapped (λ table. record_count table file) a) before ≡ record_count r file
      unfolding value_or mapped
      table_count file = ap (λ (x : Answer Table). value_or (mapped (λ table. record_count table file) x) before) (sym h)

-- The words of numbers that a text has.
module _ (walked : TextNumbers) (walk : Walk) (same : walk_of walked ≡ walk) (room : ℕ) where
  pub walk_stored : within room (words_of walked.numbers.items) ≡ walk_words walk room
  unfolding walk_words
  walk_stored = ap (λ (w : Walk). within room (words_of w.numbers)) same

-- The numbers of a body, in words.
module _ (contents body : List ℕ) (room : ℕ) where
  pub unpacked_refused :
      {number place : ℕ} → refused number place ≡ unpacking contents body → unpacking_words contents body room ≡ refused number place
  unfolding unpacking_words
  unpacked_refused h = then_refused (λ (ns : List Number). within room (words_of ns)) (sym h)

  pub unpacked_stored : {ns : List Number} → done ns ≡ unpacking contents body → unpacking_words contents body room ≡ within room (words_of ns)
  unfolding unpacking_words
  unpacked_stored h = then_next (λ (ns : List Number). within room (words_of ns)) (sym h)
