-- Document 02, (vii), on known values: the two calls' definitions computed for some buffers.
use Rattle.std.specs.Prelude.{ℕ, ◌≡◌, refl, List, [], ◌∷◌, false}
use Rattle.decimal.specs.declared.number.Number.{Number}
use Rattle.decimal.specs.Answer.{done, refused, ◌then◌}
use Rattle.decimal.specs.Digits.{digits_of, zeros}
use Rattle.decimal.specs.Number.{normal, magnitude, check_number}
use Rattle.decimal.specs.Image.{hash_byte, next_state, run_state, integers_from, fractions_from, leading_sign, check_image, scanned_image, read_image}
use Rattle.decimal.specs.Truncation.{whole_of, exceeds, stored_exponent, truncated_to, limited, truncation, packable, packed_truncation}
use Rattle.codec.specs.Answers.{within}
use Rattle.codec.specs.Columns.{column_size, body_size}
use Rattle.codec.specs.Contents.{read_column, column_length, read_columns, columns_length, read_contents}
use Rattle.codec.specs.Halves.{pack_halves}
use Rattle.codec.specs.Packing.{sign_halves, exponent_halves, column_halves, column_bytes, pack_columns, pack_list}
use Rattle.records.specs.declared.files.reserving.Reservation.{Reservation}
use Rattle.records.specs.Files.RecordFile.{read_file, read_used}
use Rattle.records.specs.Files.Reserving.{reserved, check_place, read_for, read_reserved, filled}

-- a file whose bodies have one byte, under the column ##, and one whose bodies have two, under ## and #
unfoldable pub bodies_of_one : List ℕ → List ℕ
bodies_of_one bs = 1 ∷ (2 ∷ (hash_byte ∷ (hash_byte ∷ bs)))

unfoldable pub bodies_of_two : List ℕ → List ℕ
bodies_of_two bs = 2 ∷ (2 ∷ (hash_byte ∷ (hash_byte ∷ (1 ∷ (hash_byte ∷ bs)))))

-- a place that was reserved
pub reservation : ℕ → ℕ → Reservation
reservation start size = record { start = start; size = size }

-- the numbers 12, 100, and 12 out of normal form
pub twelve : Number
twelve = record { negative = false; mantissa = 1200000000000; exponent = 100 }

pub hundred : Number
hundred = record { negative = false; mantissa = 1000000000000; exponent = 101 }

pub not_normal : Number
not_normal = record { negative = false; mantissa = 12; exponent = 99 }

-- the rows
pub record KnownReservations : Type 0 where
  -- the first call: behind a record, behind a file without one, and where no byte is left
  pub behind : reserved (bodies_of_one (0x05 ∷ (0 ∷ (0 ∷ [])))) 5 ≡ done (reservation 5 1)
  pub first : reserved (bodies_of_one (0x05 ∷ (0 ∷ (0 ∷ [])))) 4 ≡ done (reservation 4 1)
  pub no_room : reserved (bodies_of_one []) 4 ≡ done (reservation 4 1)
  -- a body of two columns, and a used length that cuts one
  pub wide : reserved (bodies_of_two (0x05 ∷ (0x10 ∷ []))) 8 ≡ done (reservation 8 2)
  pub torn : reserved (bodies_of_two (0x05 ∷ (0x10 ∷ []))) 7 ≡ refused 11 0
  -- a used length past the buffer; no contents
  pub past : reserved (bodies_of_one []) 5 ≡ refused 11 0
  pub none : reserved (bodies_of_one []) 0 ≡ refused 11 0
  pub no_column : reserved (0 ∷ []) 1 ≡ refused 10 0
  pub no_image_lem : reserved (1 ∷ (1 ∷ (0x58 ∷ []))) 3 ≡ refused 1 0
  -- the second call
  pub written : filled (bodies_of_one (0x05 ∷ (0 ∷ []))) 5 (reservation 5 1) (twelve ∷ []) ≡ done (0x12 ∷ [])
  -- another record was added, the contents has bodies of another size
  pub added_meanwhile : filled (bodies_of_one (0x05 ∷ (0 ∷ []))) 5 (reservation 4 1) (twelve ∷ []) ≡ refused 18 0
  pub other_contents : filled (bodies_of_one (0x05 ∷ (0 ∷ []))) 5 (reservation 5 2) (twelve ∷ []) ≡ refused 18 0
  -- which refusal comes first: 11 for the used length, the contents, 18, 11 for bodies, 10, the numbers, 6
  pub past_first : filled (bodies_of_one []) 5 (reservation 4 1) [] ≡ refused 11 0
  pub image_first : filled (1 ∷ (1 ∷ (0x58 ∷ []))) 3 (reservation 4 1) [] ≡ refused 1 0
  pub place_first : filled (bodies_of_two (0x05 ∷ [])) 7 (reservation 7 1) [] ≡ refused 18 0
  pub bodies_first : filled (bodies_of_two (0x05 ∷ [])) 7 (reservation 7 2) [] ≡ refused 11 0
  pub count_first : filled (bodies_of_one []) 4 (reservation 4 1) (hundred ∷ (hundred ∷ [])) ≡ refused 10 0
  pub number_first : filled (bodies_of_one []) 4 (reservation 4 1) (not_normal ∷ []) ≡ refused 3 0
  pub size_first : filled (bodies_of_one []) 4 (reservation 4 1) (hundred ∷ []) ≡ refused 4 0
  pub room_last : filled (bodies_of_one []) 4 (reservation 4 1) (twelve ∷ []) ≡ refused 6 0

pub known_reservations : KnownReservations
unfolding reserved filled read_reserved read_for check_place read_used read_file within read_contents read_columns read_column column_length columns_length
    read_image check_image scanned_image run_state next_state integers_from fractions_from leading_sign column_size body_size pack_list pack_columns
    packed_truncation truncation packable limited exceeds truncated_to whole_of stored_exponent check_number normal magnitude column_bytes column_halves
    sign_halves exponent_halves pack_halves digits_of zeros ◌then◌ bodies_of_one bodies_of_two reservation twelve hundred not_normal
known_reservations =
    record {
      behind = refl;
      first = refl;
      no_room = refl;
      wide = refl;
      torn = refl;
      past = refl;
      none = refl;
      no_column = refl;
      no_image_lem = refl;
      written = refl;
      added_meanwhile = refl;
      other_contents = refl;
      past_first = refl;
      image_first = refl;
      place_first = refl;
      bodies_first = refl;
      count_first = refl;
      number_first = refl;
      size_first = refl;
      room_last = refl;
    }
