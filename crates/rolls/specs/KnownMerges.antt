-- Document 02, (vi), on known values: the call's definition computed for some pairs of files.
use Rattle.std.specs.Prelude.{ℕ, ◌≡◌, refl, List, [], ◌∷◌}
use Rattle.decimal.specs.Answer.{done, refused, ◌then◌, given}
use Rattle.decimal.specs.Digits.{value_of, leading_zeros}
use Rattle.decimal.specs.Number.{magnitude, shifted_number, scaled_number}
use Rattle.decimal.specs.Image.{hash_byte, next_state, run_state, integers_from, fractions_from, leading_sign, check_image, scanned_image, read_image}
use Rattle.decimal.specs.Truncation.{number_of}
use Rattle.decimal.specs.Comparison.{whole_order, signed_order, value_order}
use Rattle.codec.specs.Answers.{within}
use Rattle.codec.specs.Columns.{column_size, body_size}
use Rattle.codec.specs.Contents.{read_column, column_length, read_columns, columns_length, read_contents}
use Rattle.codec.specs.Halves.{halves_of}
use Rattle.codec.specs.Unpacking.{all_digits, all_zero, sign_part, digit_part, exponent_part, pad_part, said_by, breaks_rules, as_half, parts_number, halves_number, unpack_column, unpack_columns, unpack_body}
use Rattle.codec.specs.Bodies.{bodies}
use Rattle.records.specs.Files.RecordFile.{read_file, record_count, bodies_in}
use Rattle.rolls.specs.Falling.{at_most, fall}
use Rattle.rolls.specs.Searching.{first_columns_of, check_kind, refuse_where}
use Rattle.rolls.specs.Merging.{first_column_of, merged, read_whole, check_pair, common_table, merged_file, merging}
use Rattle.rolls.specs.KnownSearches.{steps}

-- a file of two columns, ## and #, where the second tells the camera
pub letters : List ℕ → List ℕ
letters bs = 2 ∷ (2 ∷ (hash_byte ∷ (hash_byte ∷ (1 ∷ (hash_byte ∷ bs)))))

-- the rows
pub record KnownMerges : Type 0 where
  -- 3 and 5 of camera 1, 3, 4 and 5 of camera 2: at 3 and at 5 camera 1 stands first
  pub joined :
      merging (letters (0x03 ∷ (0x10 ∷ (0x05 ∷ (0x10 ∷ []))))) (letters (0x03 ∷ (0x20 ∷ (0x04 ∷ (0x20 ∷ (0x05 ∷ (0x20 ∷ []))))))) 16
      ≡ done (letters (0x03 ∷ (0x10 ∷ (0x03 ∷ (0x20 ∷ (0x04 ∷ (0x20 ∷ (0x05 ∷ (0x10 ∷ (0x05 ∷ (0x20 ∷ [])))))))))))
  -- the first camera's stand first though the bytes behind the first column are larger
  pub behind :
      merging (letters (0x03 ∷ (0x90 ∷ []))) (letters (0x03 ∷ (0x20 ∷ []))) 10 ≡ done (letters (0x03 ∷ (0x90 ∷ (0x03 ∷ (0x20 ∷ [])))))
  -- a record that both have twice stands there four times
  pub doubled :
      merging (steps (0x07 ∷ (0x07 ∷ []))) (steps (0x07 ∷ (0x07 ∷ []))) 8 ≡ done (steps (0x07 ∷ (0x07 ∷ (0x07 ∷ (0x07 ∷ [])))))
  -- no records on one side, on both
  pub first_empty : merging (steps []) (steps (0x01 ∷ (0x99 ∷ []))) 6 ≡ done (steps (0x01 ∷ (0x99 ∷ [])))
  pub second_empty : merging (steps (0x01 ∷ (0x99 ∷ []))) (steps []) 6 ≡ done (steps (0x01 ∷ (0x99 ∷ [])))
  pub both_empty : merging (steps []) (steps []) 4 ≡ done (steps [])
  -- a byte short
  pub short : merging (steps (0x01 ∷ [])) (steps (0x02 ∷ [])) 5 ≡ refused 6 0
  -- which refusal comes first: all of the first file's, all of the second's, other contents, another kind, falling records, room
  pub half_first : merging (steps (0x1A ∷ [])) [] 0 ≡ refused 7 0
  pub second_torn : merging (steps (0x02 ∷ (0x01 ∷ []))) (letters (0x03 ∷ [])) 0 ≡ refused 11 0
  pub second_half : merging (steps (0x02 ∷ (0x01 ∷ []))) (letters (0x03 ∷ (0xA0 ∷ []))) 0 ≡ refused 7 1
  pub contents_differ : merging (1 ∷ (2 ∷ (0x2B ∷ (hash_byte ∷ [])))) (steps (0x02 ∷ (0x01 ∷ []))) 0 ≡ refused 17 0
  pub signed : merging (1 ∷ (2 ∷ (0x2B ∷ (hash_byte ∷ (0x05 ∷ (0x02 ∷ [])))))) (1 ∷ (2 ∷ (0x2B ∷ (hash_byte ∷ [])))) 0 ≡ refused 16 0
  pub first_falls : merging (steps (0x02 ∷ (0x01 ∷ []))) (steps []) 0 ≡ refused 15 0
  pub second_falls : merging (steps []) (steps (0x02 ∷ (0x01 ∷ []))) 0 ≡ refused 15 0

pub known_merges : KnownMerges
unfolding merging merged_file common_table merged read_whole check_pair first_column_of given within read_file read_contents read_columns read_column column_length columns_length
    read_image check_image scanned_image run_state next_state integers_from fractions_from leading_sign column_size body_size record_count bodies bodies_in
    first_columns_of unpack_body unpack_columns unpack_column halves_number halves_of all_digits all_zero sign_part digit_part exponent_part pad_part said_by
    breaks_rules as_half parts_number number_of scaled_number shifted_number leading_zeros value_of check_kind refuse_where fall at_most value_order
    signed_order whole_order magnitude ◌then◌ letters steps
known_merges =
    record {
      joined = refl;
      behind = refl;
      doubled = refl;
      first_empty = refl;
      second_empty = refl;
      both_empty = refl;
      short = refl;
      half_first = refl;
      second_torn = refl;
      second_half = refl;
      contents_differ = refl;
      signed = refl;
      first_falls = refl;
      second_falls = refl;
    }
