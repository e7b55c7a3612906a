-- A file cut short, on known values: the call's definition computed for some files.
use Rattle.std.specs.Prelude.{ℕ, ◌≡◌, refl, [], ◌∷◌}
use Rattle.decimal.specs.Answer.{done, refused, ◌then◌}
use Rattle.decimal.specs.Image.{hash_byte, next_state, run_state, integers_from, fractions_from, leading_sign, check_image, scanned_image, read_image}
use Rattle.codec.specs.Columns.{column_size, body_size}
use Rattle.codec.specs.Contents.{read_column, column_length, read_columns, columns_length, read_contents}
use Rattle.records.specs.declared.files.whole.WholeLength.{WholeLength}
use Rattle.records.specs.Files.WholeLength.{whole_in, whole_length_of}
use Rattle.records.specs.Files.KnownReservations.{bodies_of_one, bodies_of_two}

-- a whole length and the bytes behind it
pub whole_and : ℕ → ℕ → WholeLength
whole_and length behind = record { length = length; behind = behind }

-- the rows
pub record KnownCuts : Type 0 where
  -- bodies of two bytes: a record that is cut short, two whole ones, and one behind which one is cut short
  pub torn : whole_length_of (bodies_of_two (0x05 ∷ [])) ≡ done (whole_and 6 1)
  pub two : whole_length_of (bodies_of_two (0x05 ∷ (0x10 ∷ (0x06 ∷ (0x20 ∷ []))))) ≡ done (whole_and 10 0)
  pub second_torn : whole_length_of (bodies_of_two (0x05 ∷ (0x10 ∷ (0x06 ∷ [])))) ≡ done (whole_and 8 1)
  -- no record; bodies of one byte are never torn
  pub none : whole_length_of (bodies_of_two []) ≡ done (whole_and 6 0)
  pub one : whole_length_of (bodies_of_one (0x05 ∷ [])) ≡ done (whole_and 5 0)
  -- a body's own bytes play no part
  pub any_bytes : whole_length_of (bodies_of_two (0xaa ∷ (0xff ∷ (0xff ∷ [])))) ≡ done (whole_and 8 1)
  -- no contents, one that is cut short, none of that count, one that has no image
  pub empty : whole_length_of [] ≡ refused 11 0
  pub contents_torn : whole_length_of (2 ∷ (2 ∷ (hash_byte ∷ (hash_byte ∷ (1 ∷ []))))) ≡ refused 11 0
  pub no_column : whole_length_of (0 ∷ []) ≡ refused 10 0
  pub no_image_lem : whole_length_of (2 ∷ (1 ∷ (hash_byte ∷ (1 ∷ (0x58 ∷ []))))) ≡ refused 1 1

pub known_cuts : KnownCuts
unfolding whole_length_of whole_in read_contents read_columns read_column column_length columns_length read_image check_image scanned_image run_state
    next_state integers_from fractions_from leading_sign column_size body_size ◌then◌ bodies_of_one bodies_of_two whole_and
known_cuts =
    record {
      torn = refl;
      two = refl;
      second_torn = refl;
      none = refl;
      one = refl;
      any_bytes = refl;
      empty = refl;
      contents_torn = refl;
      no_column = refl;
      no_image_lem = refl;
    }
