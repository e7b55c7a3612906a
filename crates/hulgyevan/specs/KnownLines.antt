-- What the calls for texts and print lines give for known values, computed from the rules.
use Rattle.std.specs.Prelude.{◌≡◌, ℕ, ◌+◌, ◌*◌, ◌^◌, List, [], ◌∷◌, refl}
use Rattle.decimal.specs.Answer.{done, refused, ◌then◌, mapped}
use Rattle.decimal.specs.Digits.{digits_of, value_of, zeros, leading_zeros}
use Rattle.decimal.specs.Number.{normal, magnitude, check_number, shifted_number, scaled_number}
use Rattle.decimal.specs.Image.{hash_byte, times, sign_bytes, next_state, run_state, integers_from, fractions_from, leading_sign, check_image, scanned_image}
use Rattle.decimal.specs.Truncation.{whole_of, exceeds, exponent_outside, stored_exponent, truncated_to, limited, truncation}
use Rattle.codec.specs.Answers.{within}
use Rattle.codec.specs.Alpha.{blank_byte, digit_bytes}
use Rattle.codec.specs.Lists.{filled}
use Rattle.codec.specs.Text.{fraction_digits, sign_part_bytes, point_bytes, power_bytes, numeral_bytes, text_bytes, is_minus, has_minus, power_value, text_value, digits_in}
use Rattle.codec.specs.Text.{sign_part, sign_part_in, point_in, power_of, power_in, numeral_in, parts_in, reading_in, read_text}
use Rattle.codec.specs.Walking.{stop_before, stopped, with_number, numbers_in, walking}
use Rattle.records.specs.Lines.Scanning.{longest_from, field_length}
use Rattle.records.specs.Lines.Marks.{with_decimal}
use Rattle.records.specs.Lines.Fields.{sign_byte_of, fill_byte, fill_next, fill_bytes, shown_marked, number_marked, or_field, spilled_by, element_bytes, element_spills, text_in}
use Rattle.records.specs.Lines.Printing.{literals, first_field, behind_field, has_field, and_then, one_field, print_from, check_fields}
use Rattle.records.specs.Lines.Printing.{check_element, check_elements, check_some, check_counts, printed, room_for, printing}
use Rattle.hulgyevan.specs.declared.lines.Element.{Element}
use Rattle.hulgyevan.specs.Words.{number_in, fields_word, word_of}
use Rattle.hulgyevan.specs.Outcomes.{refusal_word, outcome}
use Rattle.hulgyevan.specs.Texts.{read_word, read_used, stop_word, walk_words}
use Rattle.hulgyevan.specs.Lines.{element_in, elements_in, printed_size, spilled_of}

-- the words of 7, 12 and 100
pub seven : ℕ
seven = 99 * 2 ^ 52 + 7000000000000

pub twelve : ℕ
twelve = 100 * 2 ^ 52 + 1200000000000

pub hundred : ℕ
hundred = 101 * 2 ^ 52 + 1000000000000

-- a number as an element, and a text
pub number_element : ℕ → Element
number_element word = record { kind = 0; number = word; start = 9; length = 9 }

pub text_element : ℕ → ℕ → Element
text_element start length = record { kind = 1; number = 0; start = start; length = length }

-- 12, a blank, and a letter behind it; 7, a blank, 12 and the letter
pub torn : List ℕ
torn = 0x31 ∷ (0x32 ∷ (blank_byte ∷ (0x78 ∷ [])))

pub seven_and_torn : List ℕ
seven_and_torn = 0x37 ∷ (blank_byte ∷ torn)

-- ##, a blank and ###
pub line : List ℕ
line = hash_byte ∷ (hash_byte ∷ (blank_byte ∷ (hash_byte ∷ (hash_byte ∷ (hash_byte ∷ [])))))

pub record KnownLines : Type 0 where
  -- a text: its number, and the bytes used, a blank behind it too
  pub text_number : mapped read_word (read_text torn) ≡ done twelve
  pub text_used : mapped read_used (read_text torn) ≡ done 3
  -- the numbers of a text, in a slice with room and in one with none; the letter is at 5
  pub text_numbers : walk_words (walking seven_and_torn 0) 2 ≡ done (seven ∷ (twelve ∷ []))
  pub text_room : walk_words (walking seven_and_torn 0) 1 ≡ refused 6 0
  pub text_place : (walking seven_and_torn 0).place ≡ 5
  pub text_stop : stop_word (walking seven_and_torn 0).answer ≡ 8
  -- a line with 12 and a text of one byte: 6 bytes, and none is spilled
  pub line_size : mapped printed_size (printing line (elements_in (number_element twelve ∷ (text_element 1 1 ∷ []))) torn 6) ≡ done 6
  pub line_spills : mapped spilled_of (printing line (elements_in (number_element twelve ∷ (text_element 1 1 ∷ []))) torn 6) ≡ done 0
  -- 100 is spilled, and the line ends before the second field
  pub short_size : mapped printed_size (printing line (elements_in (number_element hundred ∷ [])) torn 6) ≡ done 3
  pub short_spills : mapped spilled_of (printing line (elements_in (number_element hundred ∷ [])) torn 6) ≡ done 1
  -- a text that runs past the texts lent, and a word whose number is not in normal form
  pub text_outside : printing line (elements_in (number_element twelve ∷ (text_element 1 4 ∷ []))) torn 6 ≡ refused 13 1
  pub word_refused : printing line (elements_in (number_element 0 ∷ [])) torn 6 ≡ refused 3 0

pub known_lines : KnownLines
unfolding seven twelve hundred number_element text_element torn seven_and_torn line number_in fields_word word_of refusal_word outcome mapped walk_words
    element_in within digits_of value_of zeros leading_zeros normal magnitude check_number shifted_number scaled_number times sign_bytes next_state run_state
    integers_from fractions_from leading_sign check_image scanned_image whole_of exceeds exponent_outside stored_exponent truncated_to limited truncation
    digit_bytes fraction_digits sign_part_bytes point_bytes power_bytes text_bytes is_minus has_minus power_value text_value digits_in sign_part sign_part_in
    point_in power_of power_in parts_in numeral_bytes numeral_in reading_in read_text stop_before stopped with_number numbers_in walking longest_from
    field_length sign_byte_of fill_byte fill_next fill_bytes with_decimal shown_marked number_marked or_field spilled_by element_bytes element_spills literals
    first_field behind_field has_field and_then one_field print_from check_fields check_element check_elements check_some check_counts printed room_for
    printing text_in filled ◌then◌
known_lines =
    record {
      text_number = refl;
      text_used = refl;
      text_numbers = refl;
      text_room = refl;
      text_place = refl;
      text_stop = refl;
      line_size = refl;
      line_spills = refl;
      short_size = refl;
      short_spills = refl;
      text_outside = refl;
      word_refused = refl;
    }
