-- Document 01, Known values: the rows marked *, stated over the definitions that the calls promise, and computed from the rules.
use Rattle.std.specs.Prelude.{ℕ, ◌≡◌, refl, List, [], ◌∷◌, ◌++◌, Bool, true, false, length}
use Rattle.decimal.specs.Answer.{Answer, done, refused, ◌then◌}
use Rattle.decimal.specs.Digits.{digits_of, value_of, zeros, leading_zeros}
use Rattle.decimal.specs.Number.{normal, magnitude, check_number, shifted_number, scaled_number}
use Rattle.decimal.specs.Image.{hash_byte, point_byte, comma_byte, plus_byte, minus_byte, up_byte, ups, times, next_state, run_state}
use Rattle.decimal.specs.Image.{integers_from, fractions_from, leading_sign, check_image, scanned_image, read_image}
use Rattle.decimal.specs.Truncation.{whole_of, exceeds, exponent_outside, stored_exponent, truncated_to, limited, truncation, packable}
use Rattle.decimal.specs.Truncation.{packed_truncation, number_of}
use Rattle.codec.specs.Columns.{column_size, body_size}
use Rattle.codec.specs.Contents.{read_column, column_length, read_columns, columns_length, read_contents, read_alone}
use Rattle.codec.specs.Halves.{pack_halves, halves_of}
use Rattle.codec.specs.Packing.{exponent_size, sign_half, sign_halves, exponent_halves, column_halves, column_bytes, pack_columns, pack_list, body_of}
use Rattle.codec.specs.Unpacking.{all_digits, all_zero, sign_part, digit_part, exponent_part, pad_part, said_by, breaks_rules, as_half, parts_number, halves_number, unpack_column, unpack_columns, unpack_body, unpacking}
use Rattle.codec.specs.Alpha.{blank_byte, exponent_byte, digit_bytes, sign_text, fraction_text, exponent_text, alpha_text, alpha_under, alpha_of}
use Rattle.records.specs.declared.lines.fields.Element.TheVariants as element
use Rattle.records.specs.Lines.Scanning.{longest_from, field_length}
use Rattle.records.specs.Lines.Marks.{with_decimal}
use Rattle.records.specs.Lines.Fields.{sign_byte_of, fill_byte, fill_next, fill_bytes, shown_marked, number_marked, or_field, spilled_by, element_bytes}
use Rattle.records.specs.Lines.Fields.{element_spills}
use Rattle.records.specs.Lines.Printing.{literals, first_field, behind_field, has_field, Print, and_then, one_field, print_from, check_fields}
use Rattle.records.specs.Lines.Printing.{check_element, check_elements, check_some, check_counts, printed}

-- What a row gives: the number whole × 10^up / 10^down, negative or not, and the bytes of an image.

-- the table of contents with this one column
pub one_column : List ℕ → List ℕ
one_column image = 1 ∷ (length image ∷ image)

-- the alpha text
pub text_under : List ℕ → Bool → ℕ → ℕ → ℕ → Answer (List ℕ)
text_under image negative whole up down = scaled_number 0 negative whole up down then λ n. alpha_of image n

-- the body of the list of this one number under the contents of this one column
pub body_under : List ℕ → Bool → ℕ → ℕ → ℕ → Answer (List ℕ)
body_under image negative whole up down = scaled_number 0 negative whole up down then λ n. body_of (one_column image) (n ∷ [])

-- the line of this one field, printed with this one number
pub line_under : List ℕ → Bool → ℕ → ℕ → ℕ → Answer Print
line_under line negative whole up down = scaled_number 0 negative whole up down then λ n. printed line (element.Number n ∷ []) []

-- The parts of images and texts.

-- # signs
pub signs# : ℕ → List ℕ
signs# n = times n hash_byte

-- the four 5E bytes
pub ups↑↑↑↑ : List ℕ
ups↑↑↑↑ = times ups up_byte

-- the rows, in order; the bytes of bodies in hexadecimal
pub record KnownValues : Type 0 where
  -- 12.195, ###: 012; body 01 20
  pub whole_part_text : text_under (signs# 3) false 12195 0 3 ≡ done (digit_bytes (0 ∷ (1 ∷ (2 ∷ []))))
  pub whole_part_body : body_under (signs# 3) false 12195 0 3 ≡ done (0x01 ∷ (0x20 ∷ []))
  -- 24.39, +##.##: +24.39; body 02 43 90
  pub signed_text :
      text_under (plus_byte ∷ (signs# 2 ++ (point_byte ∷ signs# 2))) false 2439 0 2
      ≡ done (plus_byte ∷ (digit_bytes (2 ∷ (4 ∷ [])) ++ (point_byte ∷ digit_bytes (3 ∷ (9 ∷ [])))))
  pub signed_body :
      body_under (plus_byte ∷ (signs# 2 ++ (point_byte ∷ signs# 2))) false 2439 0 2 ≡ done (0x02 ∷ (0x43 ∷ (0x90 ∷ [])))
  -- 12.195, −#.##↑↑↑↑: blank, 1.21E+01; body 01 21 01
  pub exponential_text :
      text_under (minus_byte ∷ (signs# 1 ++ (point_byte ∷ (signs# 2 ++ ups↑↑↑↑)))) false 12195 0 3
      ≡ done
      (blank_byte
      ∷ (digit_bytes (1 ∷ [])
      ++ (point_byte ∷ (digit_bytes (2 ∷ (1 ∷ [])) ++ (exponent_byte ∷ (plus_byte ∷ digit_bytes (0 ∷ (1 ∷ []))))))))
  pub exponential_body :
      body_under (minus_byte ∷ (signs# 1 ++ (point_byte ∷ (signs# 2 ++ ups↑↑↑↑)))) false 12195 0 3
      ≡ done (0x01 ∷ (0x21 ∷ (0x01 ∷ [])))
  -- 12.195, ####.#####: 0012.19500; body 00 12 19 50 00
  pub wide_text :
      text_under (signs# 4 ++ (point_byte ∷ signs# 5)) false 12195 0 3
      ≡ done
      (digit_bytes (0 ∷ (0 ∷ (1 ∷ (2 ∷ [])))) ++ (point_byte ∷ digit_bytes (1 ∷ (9 ∷ (5 ∷ (0 ∷ (0 ∷ [])))))))
  pub wide_body :
      body_under (signs# 4 ++ (point_byte ∷ signs# 5)) false 12195 0 3
      ≡ done (0x00 ∷ (0x12 ∷ (0x19 ∷ (0x50 ∷ (0x00 ∷ [])))))
  -- −0.3, +#: +0; body 00
  pub no_minus_zero_text : text_under (plus_byte ∷ signs# 1) true 3 0 1 ≡ done (plus_byte ∷ digit_bytes (0 ∷ []))
  pub no_minus_zero_body : body_under (plus_byte ∷ signs# 1) true 3 0 1 ≡ done (0x00 ∷ [])
  -- 99.99 and 100, ##: 99; refused 4, as a text and as a body
  pub not_rounded_text : text_under (signs# 2) false 9999 0 2 ≡ done (digit_bytes (9 ∷ (9 ∷ [])))
  pub not_rounded_body : body_under (signs# 2) false 9999 0 2 ≡ done (0x99 ∷ [])
  pub too_large_text : text_under (signs# 2) false 1 2 0 ≡ refused 4 0
  pub too_large_body : body_under (signs# 2) false 1 2 0 ≡ refused 4 0
  -- 0.05, +#.#↑↑↑↑: body 85 00 20
  pub small_body :
      body_under (plus_byte ∷ (signs# 1 ++ (point_byte ∷ (signs# 1 ++ ups↑↑↑↑)))) false 5 0 2
      ≡ done (0x85 ∷ (0x00 ∷ (0x20 ∷ [])))
  -- 0.05, #.#↑↑↑↑: 5.0E-02; packing refused 5
  pub small_unsigned_text :
      text_under (signs# 1 ++ (point_byte ∷ (signs# 1 ++ ups↑↑↑↑))) false 5 0 2
      ≡ done
      (digit_bytes (5 ∷ [])
      ++ (point_byte ∷ (digit_bytes (0 ∷ []) ++ (exponent_byte ∷ (minus_byte ∷ digit_bytes (0 ∷ (2 ∷ [])))))))
  pub small_unsigned_body : body_under (signs# 1 ++ (point_byte ∷ (signs# 1 ++ ups↑↑↑↑))) false 5 0 2 ≡ refused 5 0
  -- −12, ##: 12; body 12
  pub magnitude_only_text : text_under (signs# 2) true 12 0 0 ≡ done (digit_bytes (1 ∷ (2 ∷ [])))
  pub magnitude_only_body : body_under (signs# 2) true 12 0 0 ≡ done (0x12 ∷ [])
  -- body 10, +#: refused 7
  pub minus_zero_body : unpacking (one_column (plus_byte ∷ signs# 1)) (0x10 ∷ []) ≡ refused 7 0
  -- 34, #,###.# printed: three blanks, 34.0
  pub blanks_line :
      line_under (signs# 1 ++ (comma_byte ∷ (signs# 3 ++ (point_byte ∷ signs# 1)))) false 34 0 0
      ≡ done
      (record {
        bytes = times 3 blank_byte ++ (digit_bytes (3 ∷ (4 ∷ [])) ++ (point_byte ∷ digit_bytes (0 ∷ [])));
        spilled = 0;
      })
  -- 1234, ## printed: ##, spilled 1
  pub spilled_line : line_under (signs# 2) false 1234 0 0 ≡ done (record { bytes = signs# 2; spilled = 1 })

-- all of them hold
pub known_values : KnownValues
unfolding one_column text_under body_under line_under signs# ups↑↑↑↑ times ◌then◌ digits_of value_of zeros leading_zeros normal magnitude check_number
    shifted_number scaled_number next_state run_state integers_from fractions_from leading_sign check_image scanned_image read_image whole_of exceeds
    exponent_outside stored_exponent truncated_to limited truncation packable packed_truncation number_of column_size body_size read_column
    column_length read_columns columns_length read_contents read_alone exponent_size sign_half sign_halves exponent_halves column_halves pack_halves
    column_bytes pack_columns pack_list body_of halves_of all_digits all_zero sign_part digit_part exponent_part pad_part said_by breaks_rules as_half
    parts_number halves_number unpack_column unpack_columns unpack_body unpacking digit_bytes sign_text fraction_text exponent_text alpha_text alpha_under alpha_of
    longest_from field_length sign_byte_of fill_byte fill_next fill_bytes with_decimal shown_marked number_marked or_field spilled_by element_bytes element_spills literals
    first_field behind_field has_field and_then one_field print_from check_fields check_element check_elements check_some check_counts printed
known_values =
    record {
      whole_part_text = refl;
      whole_part_body = refl;
      signed_text = refl;
      signed_body = refl;
      exponential_text = refl;
      exponential_body = refl;
      wide_text = refl;
      wide_body = refl;
      no_minus_zero_text = refl;
      no_minus_zero_body = refl;
      not_rounded_text = refl;
      not_rounded_body = refl;
      too_large_text = refl;
      too_large_body = refl;
      small_body = refl;
      small_unsigned_text = refl;
      small_unsigned_body = refl;
      magnitude_only_text = refl;
      magnitude_only_body = refl;
      minus_zero_body = refl;
      blanks_line = refl;
      spilled_line = refl;
    }
