-- Document 02, (iii), on known values: the call's definition computed for some files and positions.
use Rattle.std.specs.Prelude.{ℕ, ◌+◌, ◌-◌, ◌*◌, ◌^◌, ◌≡◌, refl, true, false, List, [], ◌∷◌}
use Rattle.decimal.specs.declared.number.Number.{Number}
use Rattle.decimal.specs.Answer.{Answer, done, refused, ◌then◌}
use Rattle.decimal.specs.Digits.{precision, value_of, leading_zeros}
use Rattle.decimal.specs.Number.{exponent_limit, zero_number, normal, magnitude, check_number, shifted_number, scaled_number}
use Rattle.decimal.specs.Image.{hash_byte, next_state, run_state, integers_from, fractions_from, leading_sign, check_image, scanned_image, read_image}
use Rattle.decimal.specs.Truncation.{number_of}
use Rattle.decimal.specs.Comparison.{whole_order, signed_order, value_order}
use Rattle.codec.specs.Lists.{filled}
use Rattle.codec.specs.Columns.{column_size, body_size}
use Rattle.codec.specs.Contents.{read_column, column_length, read_columns, columns_length, read_contents}
use Rattle.codec.specs.Halves.{halves_of}
use Rattle.codec.specs.Unpacking.{all_digits, all_zero, sign_part, digit_part, exponent_part, pad_part, said_by, breaks_rules, as_half, parts_number, halves_number, unpack_column, unpack_columns, unpack_body}
use Rattle.codec.specs.Bodies.{bodies}
use Rattle.records.specs.Files.RecordFile.{read_file, record_count, bodies_in}
use Rattle.rolls.specs.Falling.{at_most, fall}
use Rattle.rolls.specs.Searching.{first_columns_of, first_record, first_records, Search, giving, comparing, walk, found, check_count, check_numbers, check_kind, refuse_where, check_page, searching}

-- the number whose first digits are those of d, which has k digits; e is given with exponentLimit added; below zero or not
pub above : ℕ → ℕ → ℕ → Number
above d k e = record { negative = false; mantissa = d * 10 ^ (precision - k); exponent = e }

pub below : ℕ → ℕ → ℕ → Number
below d k e = record { negative = true; mantissa = d * 10 ^ (precision - k); exponent = e }

-- one
pub unity : Number
unity = above 1 1 exponent_limit

-- a file of one column ## with these bodies
unfoldable pub steps : List ℕ → List ℕ
steps bs = 1 ∷ (2 ∷ (hash_byte ∷ (hash_byte ∷ bs)))

-- what is found
pub gives : List ℕ → ℕ → Answer Search
gives rs n = done (record { records = rs; comparisons = n })

-- the rows
pub record KnownSearches : Type 0 where
  -- 5, 12, 12, 99 at −3, 0, 5, 5.001, 12, 12.5, 99, 99.1 and 10^99
  pub page :
      searching (steps (0x05 ∷ (0x12 ∷ (0x12 ∷ (0x99 ∷ [])))))
      (below 3 1 exponent_limit
      ∷ (zero_number
      ∷ (above 5 1 exponent_limit
      ∷ (above 5001 4 exponent_limit
      ∷ (above 12 2 (exponent_limit + 1)
      ∷ (above 125 3 (exponent_limit + 1)
      ∷ (above 99 2 (exponent_limit + 1) ∷ (above 991 3 (exponent_limit + 1) ∷ (above 1 1 (2 * exponent_limit) ∷ [])))))))))
      ≡ gives (0 ∷ (0 ∷ (0 ∷ (1 ∷ (1 ∷ (3 ∷ (3 ∷ (4 ∷ (4 ∷ []))))))))) 11
  -- no positions, no records
  pub no_positions : searching (steps (0x05 ∷ (0x12 ∷ []))) [] ≡ gives [] 0
  pub no_records : searching (steps []) (zero_number ∷ (unity ∷ [])) ≡ gives (0 ∷ (0 ∷ [])) 0
  -- 10^−99
  pub least : searching (steps (0x00 ∷ (0x01 ∷ []))) (above 1 1 0 ∷ []) ≡ gives (1 ∷ []) 2
  -- which refusal comes first: the file's, over 64 positions, a bad half, a position that is not in normal form
  pub torn : searching (1 ∷ (3 ∷ (hash_byte ∷ (hash_byte ∷ (hash_byte ∷ (0x01 ∷ [])))))) (filled 65 zero_number []) ≡ refused 11 0
  pub many : searching (steps (0x1A ∷ [])) (filled 65 zero_number []) ≡ refused 10 0
  pub half_first : searching (steps (0x1A ∷ [])) (above 1 precision exponent_limit ∷ []) ≡ refused 7 0
  -- a bad half, and a record that falls, behind the only position
  pub bad_half : searching (steps (0x05 ∷ (0x1A ∷ []))) (zero_number ∷ []) ≡ refused 7 0
  -- a bad half in the second column
  pub second_column : searching (2 ∷ (1 ∷ (hash_byte ∷ (1 ∷ (hash_byte ∷ (0x10 ∷ (0x2A ∷ []))))))) [] ≡ refused 7 1
  pub records_fall : searching (steps (0x05 ∷ (0x12 ∷ (0x11 ∷ [])))) (zero_number ∷ []) ≡ refused 15 0
  -- positions that fall, before records that fall; a position that is not in normal form, before that
  pub positions_fall : searching (steps (0x12 ∷ (0x05 ∷ []))) (unity ∷ (zero_number ∷ [])) ≡ refused 14 0
  pub not_normal : searching (steps (0x12 ∷ (0x05 ∷ []))) (unity ∷ (above 1 precision exponent_limit ∷ (zero_number ∷ []))) ≡ refused 3 1
  -- a first column +#, before positions that fall and records that fall
  pub signed : searching (1 ∷ (2 ∷ (0x2B ∷ (hash_byte ∷ [])))) (unity ∷ (zero_number ∷ [])) ≡ refused 16 0
  pub signed_first : searching (1 ∷ (2 ∷ (0x2B ∷ (hash_byte ∷ (0x05 ∷ (0x02 ∷ [])))))) [] ≡ refused 16 0

pub known_searches : KnownSearches
unfolding filled searching read_file read_contents read_columns read_column column_length columns_length read_image check_image scanned_image run_state next_state
    integers_from fractions_from leading_sign column_size body_size record_count bodies bodies_in first_columns_of unpack_body unpack_columns unpack_column halves_number
    halves_of all_digits all_zero sign_part digit_part exponent_part pad_part said_by breaks_rules as_half parts_number number_of scaled_number shifted_number
    leading_zeros value_of check_count check_numbers check_number normal check_kind refuse_where check_page fall at_most value_order signed_order whole_order
    magnitude unity found first_records first_record walk giving comparing ◌then◌ above below steps gives
known_searches =
    record {
      page = refl;
      no_positions = refl;
      no_records = refl;
      least = refl;
      torn = refl;
      many = refl;
      half_first = refl;
      bad_half = refl;
      second_column = refl;
      records_fall = refl;
      positions_fall = refl;
      not_normal = refl;
      signed = refl;
      signed_first = refl;
    }
