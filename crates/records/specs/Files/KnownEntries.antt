-- Entering records, on known values: the call's definition computed for some texts.
use Rattle.std.specs.Prelude.{ℕ, zero, suc, ◌≡◌, refl, List, [], ◌∷◌, ◌++◌}
use Rattle.decimal.specs.Answer.{◌then◌}
use Rattle.decimal.specs.Digits.{digits_of, value_of, zeros, leading_zeros}
use Rattle.decimal.specs.Number.{normal, magnitude, check_number, shifted_number, scaled_number}
use Rattle.decimal.specs.Image.{minus_byte, times, sign_bytes, next_state, run_state, integers_from, fractions_from, leading_sign, check_image}
use Rattle.decimal.specs.Image.{scanned_image, read_image}
use Rattle.decimal.specs.Truncation.{whole_of, exceeds, stored_exponent, truncated_to, limited, truncation, packable, packed_truncation}
use Rattle.codec.specs.Answers.{within}
use Rattle.codec.specs.Columns.{column_size, body_size}
use Rattle.codec.specs.Contents.{read_column, column_length, read_columns, columns_length, read_contents, read_alone}
use Rattle.codec.specs.Halves.{pack_halves}
use Rattle.codec.specs.Packing.{sign_halves, exponent_halves, column_halves, column_bytes, pack_columns, pack_list}
use Rattle.codec.specs.Alpha.{blank_byte, exponent_byte, digit_bytes}
use Rattle.codec.specs.Text.{fraction_digits, sign_part_bytes, point_bytes, power_bytes, numeral_bytes, text_bytes, is_minus, has_minus, power_value}
use Rattle.codec.specs.Text.{text_value, digits_in, sign_part, sign_part_in, point_in, power_of, power_in, numeral_in, parts_in, reading_in, read_text}
use Rattle.codec.specs.Walking.{line_end}
use Rattle.records.specs.Files.Writing.{without_zeros, decimal_text}
use Rattle.records.specs.Files.Listing.{columns_word, records_word}
use Rattle.records.specs.Files.Entering.{onto, lines_in, placed, is_parted, read_parted, numbers_of, line_body, Entry, entered, rejected, at_line, first_of}
use Rattle.records.specs.Files.Entering.{on_line, next_of, begins_with, check_count, is_foot, line_bodies, text_bodies, entry_of, entering}
use Rattle.records.specs.Files.KnownReservations.{bodies_of_one, bodies_of_two}

-- The parts of texts.

-- a line and the text behind it
pub line : List ℕ → List ℕ → List ℕ
line bytes text = bytes ++ (line_end ∷ text)

-- a listing's first line and its last one, with a count of one digit
pub head : ℕ → List ℕ → List ℕ
head n text = line (columns_word ++ digit_bytes (n ∷ [])) text

pub foot : ℕ → List ℕ → List ℕ
foot n text = line (records_word ++ digit_bytes (n ∷ [])) text

-- 05, 12, 100 and 99E99
pub five : List ℕ
five = digit_bytes (0 ∷ (5 ∷ []))

pub twelve : List ℕ
twelve = digit_bytes (1 ∷ (2 ∷ []))

pub hundred : List ℕ
hundred = digit_bytes (1 ∷ (0 ∷ (0 ∷ [])))

pub large : List ℕ
large = digit_bytes (9 ∷ (9 ∷ [])) ++ (exponent_byte ∷ digit_bytes (9 ∷ (9 ∷ [])))

-- a letter, which no number has
pub letter : List ℕ
letter = 0x78 ∷ []

-- two texts and the blank between them
pub pair : List ℕ → List ℕ → List ℕ
pair first second = first ++ (blank_byte ∷ second)

-- so many zeros, a blank behind each, before a text
pub zeros_before : ℕ → List ℕ → List ℕ
zeros_before zero text = text
zeros_before (suc n) text = pair (digit_bytes (0 ∷ [])) (zeros_before n text)

-- The files of two records, 05 and 12, under ##, and of one, 12 and 5, under ## and #.

pub five_twelve : List ℕ
five_twelve = bodies_of_one (0x05 ∷ (0x12 ∷ []))

pub twelve_and_five : List ℕ
twelve_and_five = bodies_of_two (0x12 ∷ (0x50 ∷ []))

-- a text entered under ##, and under ## and #, each with the room of such a file
abbrev pub Enters : List ℕ → Entry (List ℕ) → Type 0
Enters text entry = entering (bodies_of_one []) text 6 ≡ entry

abbrev pub EntersTwo : List ℕ → Entry (List ℕ) → Type 0
EntersTwo text entry = entering (bodies_of_two []) text 8 ≡ entry

-- the rows
pub record KnownEntries : Type 0 where
  -- a listing; its lines of records alone; without the last 0A
  pub listed : Enters (head 1 (line five (line twelve (foot 2 [])))) (entered five_twelve)
  pub bare : Enters (line five (line twelve [])) (entered five_twelve)
  pub not_ended : Enters (line five twelve) (entered five_twelve)
  -- blanks before, between and behind the numbers of a line
  pub blanks : EntersTwo (line (blank_byte ∷ pair twelve (pair (blank_byte ∷ five) [])) []) (entered twelve_and_five)
  -- another count in the first line, and in the last one; a listing's first line that is not the first
  pub head_differs : Enters (head 2 (line five [])) (at_line 1 10 0)
  pub foot_differs : Enters (line five (foot 2 [])) (at_line 2 10 0)
  pub head_behind : Enters (line five (head 1 [])) (at_line 2 8 0)
  -- a line without a number
  pub empty : Enters (line five (line [] [])) (at_line 2 10 0)
  -- numbers that no blank parts from what stands behind them: 12x, and 1-2 behind a number
  pub letter_behind : Enters (line (twelve ++ letter) []) (at_line 1 8 0)
  pub number_behind : EntersTwo (line (pair twelve (digit_bytes (1 ∷ []) ++ (minus_byte ∷ digit_bytes (2 ∷ [])))) []) (at_line 1 8 1)
  -- a number whose e is outside its limits, and one that exceeds its column
  pub outside : EntersTwo (line (pair twelve large) []) (at_line 1 5 1)
  pub exceeding : EntersTwo (line (pair twelve twelve) []) (at_line 1 4 1)
  -- bytes behind 16 numbers: 10, not the 8 of what they are
  pub many : Enters (line (zeros_before 16 letter) []) (at_line 1 10 0)
  -- the contents is first, then the first bad line, and the room is last
  pub contents_first : entering (1 ∷ (1 ∷ (0x58 ∷ []))) (line letter []) 0 ≡ rejected 1 0
  pub line_first : Enters (line five (line twelve (line hundred (line (twelve ++ letter) [])))) (at_line 3 4 0)
  pub no_room : Enters (line five (line twelve (line twelve []))) (rejected 6 0)

pub known_entries : KnownEntries
unfolding line head foot five twelve hundred large letter pair zeros_before five_twelve twelve_and_five bodies_of_one bodies_of_two onto
    lines_in placed is_parted read_parted numbers_of line_body first_of on_line next_of begins_with check_count is_foot line_bodies
    text_bodies entry_of entering without_zeros decimal_text times digit_bytes sign_bytes fraction_digits sign_part_bytes point_bytes
    power_bytes numeral_bytes text_bytes is_minus has_minus power_value text_value digits_in sign_part sign_part_in point_in power_of
    power_in numeral_in parts_in reading_in read_text value_of leading_zeros shifted_number scaled_number within read_alone read_contents
    read_columns read_column column_length columns_length read_image check_image scanned_image run_state next_state integers_from
    fractions_from leading_sign column_size body_size pack_list pack_columns packed_truncation truncation packable limited exceeds
    truncated_to whole_of stored_exponent check_number normal magnitude column_bytes column_halves sign_halves exponent_halves pack_halves
    digits_of zeros ◌then◌
known_entries =
    record {
      listed = refl;
      bare = refl;
      not_ended = refl;
      blanks = refl;
      head_differs = refl;
      foot_differs = refl;
      head_behind = refl;
      empty = refl;
      letter_behind = refl;
      number_behind = refl;
      outside = refl;
      exceeding = refl;
      many = refl;
      contents_first = refl;
      line_first = refl;
      no_room = refl;
    }
