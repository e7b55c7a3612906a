-- What the calls for C give for known values, computed from the rules.
use Rattle.std.specs.Prelude.{◌≡◌, ℕ, ◌+◌, ◌-◌, ◌*◌, ◌^◌, List, [], ◌∷◌, refl}
use Rattle.decimal.specs.Answer.{done, refused, ◌then◌, mapped}
use Rattle.decimal.specs.Digits.{value_of, digits_of, leading_zeros, zeros}
use Rattle.decimal.specs.Number.{normal, magnitude, check_number, shifted_number, scaled_number}
use Rattle.decimal.specs.Image.{hash_byte, next_state, run_state, integers_from, fractions_from, leading_sign, check_image, scanned_image, read_image}
use Rattle.decimal.specs.Truncation.{whole_of, exceeds, exponent_outside, stored_exponent, truncated_to, limited, truncation, packable, packed_truncation, number_of}
use Rattle.decimal.specs.Remainder.{cut_power, cut_off}
use Rattle.decimal.specs.Comparison.{whole_order, signed_order, value_order}
use Rattle.codec.specs.Answers.{within}
use Rattle.codec.specs.Columns.{column_size, body_size}
use Rattle.codec.specs.Contents.{read_column, column_length, read_columns, columns_length, read_contents, read_alone}
use Rattle.codec.specs.Halves.{halves_of, pack_halves}
use Rattle.codec.specs.Packing.{sign_halves, exponent_halves, column_halves, column_bytes, pack_columns, pack_list, packing}
use Rattle.codec.specs.Packing as bodies
use Rattle.codec.specs.Remainders.{cut_columns, packing_remainders}
use Rattle.codec.specs.Unpacking.{all_digits, all_zero, sign_part, digit_part, exponent_part, pad_part, said_by, breaks_rules, as_half, parts_number, halves_number, unpack_column, unpack_columns, unpack_body, unpacking}
use Rattle.codec.specs.declared.walking.Stop.TheVariants as gives
use Rattle.records.specs.declared.lines.fields.Element.TheVariants as elements
use Rattle.records.specs.Files.RecordFile.{read_file, record_count, bodies_in, shown, read_used}
use Rattle.codec.specs.Bodies as whole
use Rattle.records.specs.Files.Reserving.{reserved}
use Rattle.rolls.specs.Falling.{at_most, fall}
use Rattle.rolls.specs.Searching.{first_columns_of, first_record, first_records, giving, comparing, walk, found, check_count, check_numbers, check_kind, refuse_where, check_page, searching}
use Rattle.hulgyevan.specs.declared.lines.Element.{Element}
use Rattle.hulgyevan.specs.Words.{number_in, numbers_in, fields_word, word_of, remainder_word}
use Rattle.hulgyevan.specs.Outcomes.{refusal_word, outcome}
use Rattle.hulgyevan.specs.Bodies.{columns_of, body_of, unpacking_words, packing_both, remainders_both}
use Rattle.hulgyevan.specs.Texts.{stop_word}
use Rattle.hulgyevan.specs.Lines.{element_in}
use Rattle.hulgyevan.specs.Files.{size_of_contents, reserved_start, reserved_size, part_start, part_size}
use Rattle.hulgyevan.specs.Roll.{finding, found_records, found_comparisons}

-- the contents with the column ##, and the one with the columns ## and ###, each with bytes behind it
pub one_column : List ℕ → List ℕ
one_column bytes = 1 ∷ (2 ∷ (hash_byte ∷ (hash_byte ∷ bytes)))

pub two_columns : List ℕ → List ℕ
two_columns bytes = 2 ∷ (2 ∷ (hash_byte ∷ (hash_byte ∷ (3 ∷ (hash_byte ∷ (hash_byte ∷ (hash_byte ∷ bytes)))))))

-- the words of 12, 12.7 and 100
pub twelve : ℕ
twelve = 100 * 2 ^ 52 + 1200000000000

pub more_than_twelve : ℕ
more_than_twelve = 100 * 2 ^ 52 + 1270000000000

pub hundred : ℕ
hundred = 101 * 2 ^ 52 + 1000000000000

-- a list of one word
pub only : ℕ → List ℕ
only word = word ∷ []

-- elements by their fields
pub element : ℕ → ℕ → Element
element kind number = record { kind = kind; number = number; start = 3; length = 4 }

pub record KnownCalls : Type 0 where
  -- a contents: its columns, and the length of a body
  pub columns : mapped columns_of (read_alone (two_columns [])) ≡ done 2
  pub body : mapped body_of (read_alone (two_columns [])) ≡ done 3
  -- a file: the length of its contents, and the count of its records
  pub contents : mapped size_of_contents (read_file (two_columns (0 ∷ (0 ∷ (0 ∷ []))))) ≡ done 8
  pub records : mapped (λ table. record_count table (two_columns (0 ∷ (0 ∷ (0 ∷ []))))) (read_file (two_columns (0 ∷ (0 ∷ (0 ∷ []))))) ≡ done 1
  -- packing with the remainder 0.7; 6 where the one or the other has no room, behind 4
  pub packed : packing_both (one_column []) (numbers_in (only more_than_twelve)) 1 1 ≡ done (only 0x12)
  pub remainder : remainders_both (one_column []) (numbers_in (only more_than_twelve)) 1 1 ≡ done (only (100 * 2 ^ 52 + 70000000000))
  pub no_body_room : packing_both (one_column []) (numbers_in (only more_than_twelve)) 0 1 ≡ refused 6 0
  pub no_remainder_room : packing_both (one_column []) (numbers_in (only more_than_twelve)) 1 0 ≡ refused 6 0
  pub no_remainder_given : remainders_both (one_column []) (numbers_in (only more_than_twelve)) 1 0 ≡ refused 6 0
  pub size_first : packing_both (one_column []) (numbers_in (only hundred)) 1 0 ≡ refused 4 0
  -- unpacking; 6 behind 7
  pub unpacked : unpacking_words (one_column []) (only 0x12) 1 ≡ done (only twelve)
  pub no_number_room : unpacking_words (one_column []) (only 0x12) 0 ≡ refused 6 0
  pub half_first : unpacking_words (one_column []) (only 0xA0) 0 ≡ refused 7 0
  -- lists keep their order
  pub order : numbers_in (twelve ∷ (hundred ∷ [])) ≡ number_in twelve ∷ (number_in hundred ∷ [])
  -- why reading a text stopped
  pub text_ended : stop_word (done gives.End) ≡ 0
  pub no_text_number : stop_word (done gives.NoNumber) ≡ 8
  pub too_many : stop_word (done gives.TooMany) ≡ 10
  pub outside : stop_word (refused 5 3) ≡ 773
  -- elements of kind 0 are numbers, all others texts
  pub number_element : element_in (element 0 twelve) ≡ elements.Number (number_in twelve)
  pub text_element : element_in (element 1 twelve) ≡ elements.Text 3 4
  pub other_element : element_in (element (2 ^ 64 - 1) twelve) ≡ elements.Text 3 4
  -- the second record of a file, and the place of the next
  pub second_start : mapped part_start (shown (one_column (0x05 ∷ (0x12 ∷ []))) 1) ≡ done 5
  pub second_size : mapped part_size (shown (one_column (0x05 ∷ (0x12 ∷ []))) 1) ≡ done 1
  pub next_start : mapped reserved_start (reserved (one_column (0x05 ∷ (0x12 ∷ []))) 5) ≡ done 5
  pub next_size : mapped reserved_size (reserved (one_column (0x05 ∷ (0x12 ∷ []))) 5) ≡ done 1
  -- 12 is found in the second record, with two comparisons; 6 last
  pub found_second : mapped found_records (finding (one_column (0x05 ∷ (0x12 ∷ []))) (numbers_in (only twelve)) 1) ≡ done (only 1)
  pub compared_twice : mapped found_comparisons (finding (one_column (0x05 ∷ (0x12 ∷ []))) (numbers_in (only twelve)) 1) ≡ done 2
  pub no_records_room : finding (one_column (0x05 ∷ (0x12 ∷ []))) (numbers_in (only twelve)) 0 ≡ refused 6 0
  pub fall_first : finding (one_column (0x12 ∷ (0x05 ∷ []))) (numbers_in (only twelve)) 0 ≡ refused 15 0

pub known_calls : KnownCalls
unfolding one_column two_columns twelve more_than_twelve hundred only element number_in fields_word word_of remainder_word refusal_word outcome mapped
    unpacking_words packing_both remainders_both element_in finding within read_contents read_alone read_columns read_column column_length columns_length
    read_image check_image scanned_image run_state next_state integers_from fractions_from leading_sign column_size body_size pack_list pack_columns packing
    bodies.body_of cut_columns packing_remainders cut_power cut_off packed_truncation truncation packable limited exceeds exponent_outside truncated_to whole_of stored_exponent check_number
    normal magnitude column_bytes column_halves sign_halves exponent_halves pack_halves digits_of value_of zeros leading_zeros shifted_number scaled_number
    number_of halves_of all_digits all_zero sign_part digit_part exponent_part pad_part said_by breaks_rules as_half parts_number halves_number
    unpack_column unpack_columns unpack_body unpacking read_file read_used record_count whole.bodies bodies_in shown reserved at_most fall first_columns_of
    first_record first_records giving comparing walk found check_count check_numbers check_kind refuse_where check_page searching whole_order signed_order
    value_order ◌then◌
known_calls =
    record {
      columns = refl;
      body = refl;
      contents = refl;
      records = refl;
      packed = refl;
      remainder = refl;
      no_body_room = refl;
      no_remainder_room = refl;
      no_remainder_given = refl;
      size_first = refl;
      unpacked = refl;
      no_number_room = refl;
      half_first = refl;
      order = refl;
      text_ended = refl;
      no_text_number = refl;
      too_many = refl;
      outside = refl;
      number_element = refl;
      text_element = refl;
      other_element = refl;
      second_start = refl;
      second_size = refl;
      next_start = refl;
      next_size = refl;
      found_second = refl;
      compared_twice = refl;
      no_records_room = refl;
      fall_first = refl;
    }
