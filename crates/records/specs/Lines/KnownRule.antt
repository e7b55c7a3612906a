-- Document 01, Print lines: numbers in fixed-point fields, computed from the sentence about them as it stands in FieldRule.
use Rattle.std.specs.Prelude.{ℕ, ◌≡◌, refl, List, [], ◌∷◌, ◌++◌, Bool, true, false}
use Rattle.decimal.specs.Answer.{Answer, done, refused, ◌then◌}
use Rattle.decimal.specs.Digits.{digits_of, leading_zeros}
use Rattle.decimal.specs.Number.{normal, magnitude, check_number, shifted_number, scaled_number}
use Rattle.decimal.specs.Image.{hash_byte, point_byte, comma_byte, plus_byte, minus_byte, times, next_state, run_state}
use Rattle.decimal.specs.Image.{integers_from, fractions_from, leading_sign, check_image, scanned_image}
use Rattle.decimal.specs.Truncation.{whole_of, exceeds, exponent_outside, stored_exponent, truncated_to, limited, truncation}
use Rattle.codec.specs.Alpha.{blank_byte, digit_bytes, sign_text, fraction_text, exponent_text, alpha_text}
use Rattle.records.specs.declared.lines.marks.Marks.{Marks}
use Rattle.records.specs.Lines.Marks.{document_marks, with_decimal}
use Rattle.records.specs.Lines.Fields.{hash_count}
use Rattle.records.specs.Lines.FieldRule.{integer_zeros, hidden_digits, without_commas, alpha_behind, rule_byte, bytes_from, rule_bytes, number_by_rule}
use Rattle.records.specs.Lines.KnownMarks.{starred, thousands_field}

-- # signs
pub few# : ℕ → List ℕ
few# n = times n hash_byte

-- #,###
pub four_field : List ℕ
four_field = few# 1 ++ (comma_byte ∷ few# 3)

-- #,###,###
pub seven_field : List ℕ
seven_field = four_field ++ (comma_byte ∷ few# 3)

-- a field printed under marks with the number whole / 10^down, negative or not
pub ruled_under : Marks → List ℕ → Bool → ℕ → ℕ → Answer (List ℕ)
ruled_under m field negative whole down = scaled_number 0 negative whole 0 down then λ n. number_by_rule m field n

-- the fields, each with a number
pub record KnownRule : Type 0 where
  -- 34, #,###.#: three blanks, 34.0
  pub blanks :
      ruled_under document_marks thousands_field false 34 0
      ≡ done (times 3 blank_byte ++ (digit_bytes (3 ∷ (4 ∷ [])) ++ (point_byte ∷ digit_bytes (0 ∷ []))))
  -- 34, #,###.# with stars: three stars, 34,0
  pub stars :
      ruled_under starred thousands_field false 34 0
      ≡ done (times 3 0x2A ++ (digit_bytes (3 ∷ (4 ∷ [])) ++ (comma_byte ∷ digit_bytes (0 ∷ []))))
  -- −5, +#,###: the sign keeps the first byte, four blanks, 5
  pub sign_first : ruled_under document_marks (plus_byte ∷ four_field) true 5 0 ≡ done (minus_byte ∷ (times 4 blank_byte ++ digit_bytes (5 ∷ [])))
  -- 5, +#,###
  pub plus_first : ruled_under document_marks (plus_byte ∷ four_field) false 5 0 ≡ done (plus_byte ∷ (times 4 blank_byte ++ digit_bytes (5 ∷ [])))
  -- 0, #,###,###: eight blanks, and the last digit
  pub last_digit : ruled_under document_marks seven_field false 0 0 ≡ done (times 8 blank_byte ++ digit_bytes (0 ∷ []))
  -- 1234567, #,###,###: 1,234,567
  pub two_commas :
      ruled_under document_marks seven_field false 1234567 0
      ≡ done
      (digit_bytes (1 ∷ [])
      ++ (comma_byte ∷ (digit_bytes (2 ∷ (3 ∷ (4 ∷ []))) ++ (comma_byte ∷ digit_bytes (5 ∷ (6 ∷ (7 ∷ [])))))))
  -- 10203, #,###,###: three blanks, 10,203: a zero behind a digit is no leading one
  pub inner_zeros :
      ruled_under document_marks seven_field false 10203 0
      ≡ done (times 3 blank_byte ++ (digit_bytes (1 ∷ (0 ∷ [])) ++ (comma_byte ∷ digit_bytes (2 ∷ (0 ∷ (3 ∷ []))))))
  -- 0.5, .##: no digit before the point
  pub only_fraction : ruled_under document_marks (point_byte ∷ few# 2) false 5 1 ≡ done (point_byte ∷ digit_bytes (5 ∷ (0 ∷ [])))
  -- 0.05, #.##: digits behind the point are all shown
  pub fraction_zeros : ruled_under document_marks (few# 1 ++ (point_byte ∷ few# 2)) false 5 2 ≡ done (digit_bytes (0 ∷ []) ++ (point_byte ∷ digit_bytes (0 ∷ (5 ∷ []))))
  -- 1234, #,###: 1,234
  pub one_comma : ruled_under document_marks four_field false 1234 0 ≡ done (digit_bytes (1 ∷ []) ++ (comma_byte ∷ digit_bytes (2 ∷ (3 ∷ (4 ∷ [])))))
  -- 12345, #,###: spilled
  pub spilled : ruled_under document_marks four_field false 12345 0 ≡ refused 4 0

-- all of them hold
pub known_rule : KnownRule
unfolding few# four_field seven_field ruled_under thousands_field starred ◌then◌ digits_of leading_zeros normal magnitude check_number shifted_number
    scaled_number times next_state run_state integers_from fractions_from leading_sign check_image scanned_image whole_of exceeds exponent_outside stored_exponent
    truncated_to limited truncation digit_bytes sign_text fraction_text exponent_text alpha_text with_decimal hash_count integer_zeros hidden_digits
    without_commas alpha_behind rule_byte bytes_from rule_bytes number_by_rule
known_rule =
    record {
      blanks = refl;
      stars = refl;
      sign_first = refl;
      plus_first = refl;
      last_digit = refl;
      two_commas = refl;
      inner_zeros = refl;
      only_fraction = refl;
      fraction_zeros = refl;
      one_comma = refl;
      spilled = refl;
    }
