-- Document 02, (iii) and (vi): columns under an unsigned fixed-point image compared by their bytes.
use Rattle.std.specs.Prelude.{ℕ, suc, ◌%◌, ◌^◌, ◌≡◌, Bool, true, false, ◌&&◌, List, Option, Some, None, length, eqb, leb, ltb}
use Rattle.std.specs.Bool.{beq}
use Rattle.decimal.specs.declared.image.Image.{Image}
use Rattle.decimal.specs.declared.number.Number.{Number}
use Rattle.decimal.specs.Answer.{Answer, done, refused, pick}
use Rattle.decimal.specs.Comparison.{value_order, is_at_most}
use Rattle.decimal.specs.Digits.{packed_of}
use Rattle.decimal.specs.Number.{normal}
use Rattle.decimal.specs.Truncation.{Truncated, truncation, number_of}
use Rattle.codec.specs.Columns.{Checked, column_size}
use Rattle.codec.specs.Halves.{halves_of}
use Rattle.codec.specs.Order.{UnsignedFixed, Bytes}
use Rattle.codec.specs.Packing.{column_bytes}
use Rattle.codec.specs.Unpacking.{unpack_column}

-- a column's bytes as one whole number, the first byte highest
abbrev pub run_of : List ℕ → ℕ
run_of bytes = packed_of (halves_of bytes)

-- the same sign, mantissa and exponent
abbrev pub same_number : Number → Number → Bool
same_number a b = beq a.negative b.negative && (eqb a.mantissa b.mantissa && eqb a.exponent b.exponent)

-- whether a cut's number is the number that was cut
unfoldable pub stands_for : Answer Number → Number → Bool
stands_for (done m) p = same_number m p
stands_for (refused number place) p = false

-- a run, and one more where the number is above it; none where that is more than 64 bits hold
abbrev pub run_or_next : Bool → ℕ → Option ℕ
run_or_next same run = pick same (Some run) (pick (ltb (suc run) (2 ^ 64)) (Some (suc run)) None)

-- of a number's cut: the run of its column, of which the last eight bytes are kept, and one more where the cut's number is another
unfoldable pub least_cut : Image → Number → Answer Truncated → Option ℕ
least_cut im p (done t) = run_or_next (stands_for (number_of 0 im t) p) (run_of (column_bytes im t) % 2 ^ 64)
least_cut im p (refused number place) = None

-- the least run of the columns under an image whose numbers are at least a number: 0 for a number below zero, none for one that exceeds the
-- image or can't be cut, else from its cut
unfoldable pub least_of : Image → Number → Option ℕ
least_of im p = pick p.negative (Some 0) (least_cut im p (truncation 0 im p))

-- a run is at least the least one, where there is one
unfoldable pub reaches : Option ℕ → ℕ → Bool
reaches (Some least) run = leb least run
reaches None run = false

-- What least_of is for (the proofs' OrderingLaws): the columns under an unsigned fixed-point image whose numbers are at least a number are
-- those whose runs are at least the least one; none is, where there is none.
pub record LeastRun (im : Image) (p : Number) (least : Option ℕ) : Type 0 where
  pub tells :
      Checked im
      → UnsignedFixed im
      → normal p ≡ true
      → (column : ℕ) (bytes : List ℕ) (n : Number)
      → Bytes bytes
      → length bytes ≡ column_size im
      → unpack_column column im bytes ≡ done n
      → is_at_most (value_order p n) ≡ reaches least (run_of bytes)
