-- Numbers in fields under other marks than document 01's, computed from the rules.
use Rattle.std.specs.Prelude.{ℕ, ◌≡◌, refl, List, [], ◌∷◌, ◌++◌, false}
use Rattle.decimal.specs.Answer.{Answer, done, refused, ◌then◌}
use Rattle.decimal.specs.Digits.{digits_of, value_of, zeros, leading_zeros}
use Rattle.decimal.specs.Number.{normal, magnitude, check_number, shifted_number, scaled_number}
use Rattle.decimal.specs.Image.{hash_byte, point_byte, comma_byte, plus_byte, minus_byte, up_byte, ups, times, sign_bytes, next_state, run_state}
use Rattle.decimal.specs.Image.{integers_from, fractions_from, leading_sign, check_image, scanned_image}
use Rattle.decimal.specs.Truncation.{whole_of, exceeds, exponent_outside, stored_exponent, truncated_to, limited, truncation}
use Rattle.codec.specs.Packing.{exponent_size}
use Rattle.codec.specs.Alpha.{blank_byte, exponent_byte, digit_bytes, sign_text, fraction_text, exponent_text, alpha_text}
use Rattle.codec.specs.Text.{fraction_digits, sign_part_bytes, point_bytes, power_bytes, text_bytes, is_minus, has_minus, power_value, text_value, digits_in, sign_part, sign_part_in, point_in, power_of, power_in, numeral_bytes, numeral_in, parts_in, reading_in, convert_text}
use Rattle.records.specs.declared.lines.marks.Marks.{Marks}
use Rattle.records.specs.Lines.Marks.{with_decimal, is_dropped, read_byte, without_marks}
use Rattle.records.specs.Lines.Fields.{sign_byte_of, fill_byte, fill_next, fill_bytes, shown_marked, number_marked, read_marked}

-- a comma for the point, a point between thousands, and blanks
pub danish : Marks
danish = record { decimal = comma_byte; thousands = point_byte; filling = blank_byte }

-- the same with stars for suppressed zeros, and with an apostrophe between thousands
unfoldable pub starred : Marks
starred = record { decimal = comma_byte; thousands = point_byte; filling = 0x2A }

pub ticked : Marks
ticked = record { decimal = comma_byte; thousands = 0x27; filling = blank_byte }

-- #,###.#
unfoldable pub thousands_field : List ℕ
thousands_field = hash_byte ∷ (comma_byte ∷ (times 3 hash_byte ++ (point_byte ∷ (hash_byte ∷ []))))

-- −#.##↑↑↑↑
pub exponential_field : List ℕ
exponential_field = minus_byte ∷ (hash_byte ∷ (point_byte ∷ (times 2 hash_byte ++ times ups up_byte)))

-- a field printed under marks with the number whole / 10^down
pub field_under : Marks → List ℕ → ℕ → ℕ → Answer (List ℕ)
field_under m field whole down = scaled_number 0 false whole 0 down then λ n. number_marked m field n

-- 1.234,5
pub danish_bytes : List ℕ
danish_bytes = digit_bytes (1 ∷ []) ++ (point_byte ∷ (digit_bytes (2 ∷ (3 ∷ (4 ∷ []))) ++ (comma_byte ∷ digit_bytes (5 ∷ []))))

pub record KnownMarks : Type 0 where
  -- 1234.5, #,###.#: 1.234,5
  pub danish_field : field_under danish thousands_field 12345 1 ≡ done danish_bytes
  -- it is read back
  pub danish_read : read_marked danish danish_bytes ≡ scaled_number 0 false 12345 0 1
  -- but not where the point is no mark: 8
  pub ticked_read : read_marked ticked danish_bytes ≡ refused 8 0
  -- 34, #,###.#: three stars, 34,0
  pub starred_field :
      field_under starred thousands_field 34 0
      ≡ done (times 3 0x2A ++ (digit_bytes (3 ∷ (4 ∷ [])) ++ (comma_byte ∷ digit_bytes (0 ∷ []))))
  -- 12.195, −#.##↑↑↑↑: the blank of the sign, 1,21E+01
  pub starred_exponential :
      field_under starred exponential_field 12195 3
      ≡ done
      (blank_byte
      ∷ (digit_bytes (1 ∷ [])
      ++ (comma_byte ∷ (digit_bytes (2 ∷ (1 ∷ [])) ++ (exponent_byte ∷ (plus_byte ∷ digit_bytes (0 ∷ (1 ∷ []))))))))

-- all of them hold
pub known_marks : KnownMarks
unfolding danish starred ticked thousands_field exponential_field field_under danish_bytes ◌then◌ digits_of value_of zeros leading_zeros normal magnitude
    check_number shifted_number scaled_number times sign_bytes next_state run_state integers_from fractions_from leading_sign check_image scanned_image whole_of
    exceeds exponent_outside stored_exponent truncated_to limited truncation exponent_size digit_bytes sign_text fraction_text exponent_text alpha_text
    fraction_digits sign_part_bytes point_bytes power_bytes text_bytes is_minus has_minus power_value text_value digits_in sign_part sign_part_in point_in power_of power_in parts_in numeral_bytes
    numeral_in reading_in convert_text with_decimal is_dropped read_byte without_marks sign_byte_of fill_byte fill_next fill_bytes shown_marked number_marked read_marked
known_marks =
    record { danish_field = refl; danish_read = refl; ticked_read = refl; starred_field = refl; starred_exponential = refl }
