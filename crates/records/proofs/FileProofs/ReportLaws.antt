-- Laws of the lines of a listing, and of what the program prints of its answer. Assumes nothing.
use Prim.Native.Nat.{ℕ, suc, ◌+◌, ◌<◌, ◌≤◌}
use mathlib.Core.Path.{◌≡◌, refl, ap, sym, ◌∙◌}
use mathlib.Core.List.{List, [], ◌∷◌, ◌++◌}
use mathlib.Core.Bool.{Bool}
use native.Mathlib.Omega.{arith}
use borrow.Author.Tests.{lt-ltb, le-ltb}
use lib.Dec.{ltb}
use lib.ListN.{length, length-append}
use Rattle.decimal.specs.Answer.{Answer, done, refused, ◌then◌, pick}
use Rattle.decimal.specs.Digits.{digits_of}
use Rattle.codec.specs.Answers.{stored_in, within, sized}
use Rattle.codec.specs.Alpha.{blank_byte, digit_bytes}
use Rattle.codec.specs.Walking.{line_end}
use Rattle.records.specs.Files.Writing.{without_zeros, decimal_text}
use Rattle.records.specs.Files.Listing.{columns_word, records_word, refused_word, count_line, refusal_line, max_file, printed_of}
use Rattle.records.proofs.WritingLaws.{decimal_few}

-- The line of a count.

module _ (word : List ℕ) (n : ℕ) where
  -- the word, the count's digits and 0A
  pub count_line_length : length (count_line word n) ≡ suc (length word + length (decimal_text n))
  unfolding count_line
  count_line_length =
      omega (arith, length-append word (decimal_text n ++ (line_end ∷ [])), length-append (decimal_text n) (line_end ∷ []))

-- The line of a refusal.

module _ (number place : ℕ) where
  -- the word, the digits of both, a blank between them and 0A
  pub refusal_length : length (refusal_line number place) ≡ length refused_word + length (decimal_text number) + length (decimal_text place) + 2
  unfolding refusal_line
  refusal_length =
      let text = decimal_text place ++ (line_end ∷ []) in
      omega (
        arith,
        length-append (decimal_text number) (blank_byte ∷ text),
        length-append (decimal_text place) (line_end ∷ []),
      )

  -- at most 64 bytes
  pub refusal_few : length (refusal_line number place) ≤ 64
  refusal_few = omega (arith, refusal_length, decimal_few number, decimal_few place)

-- document 01's lines
pub record KnownLines : Type 0 where
  -- columns 1
  pub columns : count_line columns_word 1 ≡ 0x63 ∷ (0x6F ∷ (0x6C ∷ (0x75 ∷ (0x6D ∷ (0x6E ∷ (0x73 ∷ (0x20 ∷ (0x31 ∷ (0x0A ∷ [])))))))))
  -- records 1
  pub records : count_line records_word 1 ≡ 0x72 ∷ (0x65 ∷ (0x63 ∷ (0x6F ∷ (0x72 ∷ (0x64 ∷ (0x73 ∷ (0x20 ∷ (0x31 ∷ (0x0A ∷ [])))))))))
  -- refused 11 0
  pub empty :
      refusal_line 11 0
      ≡ 0x72 ∷ (0x65 ∷ (0x66 ∷ (0x75 ∷ (0x73 ∷ (0x65 ∷ (0x64 ∷ (0x20 ∷ (0x31 ∷ (0x31 ∷ (0x20 ∷ (0x30 ∷ (0x0A ∷ []))))))))))))

pub known_lines : KnownLines
unfolding count_line refusal_line decimal_text without_zeros digits_of digit_bytes
known_lines = record { columns = refl; records = refl; empty = refl }

-- Bytes into a buffer with so much room.

module _ (room : ℕ) (bytes : List ℕ) where
  -- longer ones are refused with 6
  pub within_none : room < length bytes → within room bytes ≡ refused 6 0
  unfolding within
  within_none h = ap (λ (t : Bool). pick t (refused 6 0) (done bytes)) (lt-ltb room (length bytes) h)

  -- others are given
  pub within_some : length bytes ≤ room → within room bytes ≡ done bytes
  unfolding within
  within_some h = ap (λ (t : Bool). pick t (refused 6 0) (done bytes)) (le-ltb room (length bytes) h)

-- What the program prints of its answer.

module _ (a : Answer (List ℕ)) where
  -- a refusal's line
  pub printed_refused : {number place : ℕ} → a ≡ refused number place → printed_of a ≡ refusal_line number place
  unfolding printed_of
  printed_refused h = ap printed_of h

  module _ (size : ℕ) where
    -- of an input that is too long, the line of its refusal
    pub printed_long : max_file < size → printed_of (pick (ltb max_file size) (refused 11 0) a) ≡ refusal_line 11 0
    unfolding printed_of
    printed_long h = ap (λ (t : Bool). printed_of (pick t (refused 11 0) a)) (lt-ltb max_file size h)

    -- of another, what is printed of its own answer
    pub printed_short : size ≤ max_file → printed_of (pick (ltb max_file size) (refused 11 0) a) ≡ printed_of a
    printed_short h = ap (λ (t : Bool). printed_of (pick t (refused 11 0) a)) (le-ltb max_file size h)

  -- bytes into a buffer with so much room: as the call that gives them
  pub printed_within : (room : ℕ) {bytes : List ℕ} → a ≡ done bytes → (a then within room) ≡ within room (printed_of a)
  unfolding printed_of ◌then◌
  printed_within room h =
      ap (λ (x : Answer (List ℕ)). x then within room) h ∙ ap (λ (x : Answer (List ℕ)). within room (printed_of x)) (sym h)

-- a limit of 64 bytes or more that the bytes keep to is kept
pub printed_few :
    (most : ℕ) → 64 ≤ most → (a : Answer (List ℕ)) → ((bytes : List ℕ) → a ≡ done bytes → length bytes ≤ most) → length (printed_of a) ≤ most
unfolding printed_of
printed_few most h (done bytes) few = few bytes refl
printed_few most h (refused number place) few = omega (arith, refusal_few number place)

-- a call that passes on what another answers, where both are to answer alike
pub same_answers :
    {a b : Answer (List ℕ)}
    → a ≡ b
    → {found : Answer ℕ} (buffer : List ℕ) {after : List ℕ}
    → (found ≡ sized a) × (after ≡ stored_in a buffer)
    → (found ≡ sized b) × (after ≡ stored_in b buffer)
same_answers e buffer (answer, bytes) = (answer ∙ ap sized e, bytes ∙ ap (λ (x : Answer (List ℕ)). stored_in x buffer) e)
