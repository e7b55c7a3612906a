-- Document 01, Print lines: the lengths of the fields that some lines begin with, computed from the rules.
use Rattle.std.specs.Prelude.{ℕ, ◌≡◌, refl, List, [], ◌∷◌, ◌++◌}
use Rattle.decimal.specs.Image.{hash_byte, point_byte, comma_byte, plus_byte, minus_byte, up_byte, ups, times, next_state}
use Rattle.records.specs.Lines.Scanning.{longest_from, field_length}

-- # signs
pub hashes# : ℕ → List ℕ
hashes# n = times n hash_byte

-- 5E bytes
pub ups↑ : ℕ → List ℕ
ups↑ n = times n up_byte

-- the lines, one entry of this record each
pub record KnownFields : Type 0 where
  -- #,###↑↑↑↑: a field with a comma is fixed point
  pub comma_no_ups : field_length (hashes# 1 ++ (comma_byte ∷ (hashes# 3 ++ ups↑ ups))) ≡ 5
  -- #,###,###: single commas part the runs
  pub two_commas : field_length (hashes# 1 ++ (comma_byte ∷ (hashes# 3 ++ (comma_byte ∷ hashes# 3)))) ≡ 9
  -- #,,#: two commas in a row do not stand in a field
  pub double_comma : field_length (hashes# 1 ++ (comma_byte ∷ (comma_byte ∷ hashes# 1))) ≡ 1
  -- #.: a # follows the point
  pub last_point : field_length (hashes# 1 ++ (point_byte ∷ [])) ≡ 1
  -- #.#,#: no comma behind the point
  pub comma_behind_point : field_length (hashes# 1 ++ (point_byte ∷ (hashes# 1 ++ (comma_byte ∷ hashes# 1)))) ≡ 3
  -- #,.#: a # follows the comma
  pub comma_before_point : field_length (hashes# 1 ++ (comma_byte ∷ (point_byte ∷ hashes# 1))) ≡ 1
  -- ##↑↑↑↑↑: four of the 5E bytes
  pub five_ups : field_length (hashes# 2 ++ ups↑ 5) ≡ 6
  -- +-#: one sign, and a # behind it
  pub two_signs : field_length (plus_byte ∷ (minus_byte ∷ hashes# 1)) ≡ 0
  -- -#
  pub signed : field_length (minus_byte ∷ hashes# 1) ≡ 2
  -- ,#: a # stands before the comma
  pub leading_comma : field_length (comma_byte ∷ hashes# 1) ≡ 0
  -- the empty line
  pub empty : field_length [] ≡ 0

-- all of them hold
pub known_fields : KnownFields
unfolding hashes# ups↑ times next_state longest_from field_length
known_fields =
    record {
      comma_no_ups = refl;
      two_commas = refl;
      double_comma = refl;
      last_point = refl;
      comma_behind_point = refl;
      comma_before_point = refl;
      five_ups = refl;
      two_signs = refl;
      signed = refl;
      leading_comma = refl;
      empty = refl;
    }
