-- Document 01, Print lines: what a field is, and where the longest one that starts at a byte ends.
use Rattle.std.specs.Prelude.{ℕ, suc, ◌+◌, ◌<◌, ◌≤◌, ◌≡◌, List, [], ◌∷◌, ◌++◌, Bool, true, false, length, take, eqb}
use Rattle.decimal.specs.declared.image.Sign.{Sign}
use Rattle.decimal.specs.Image.{State, Start, Signed, Integer, Comma, Point, Fraction, Up, Stopped}
use Rattle.decimal.specs.Answer.{pick}
use Rattle.decimal.specs.Image.{hash_byte, comma_byte, ups, sign_bytes, times, fraction_bytes, up_bytes, next_state, scanned_image}
use Rattle.records.specs.declared.lines.scanning.Scanned.{Scanned}

-- The grammar. A field is an image; in fixed-point fields a single comma may stand directly between two # before the point (anywhere
-- between two #, if there is no point).

-- the parts of a field: the runs of # signs before the point, which single commas part, and the # signs behind it
pub record Field : Type 0 where
  pub sign : Sign
  pub runs : List ℕ
  pub fraction : ℕ
  pub exponential : Bool

-- runs of # signs, parted by single commas
unfoldable pub run_bytes : List ℕ → List ℕ
run_bytes [] = []
run_bytes (n ∷ []) = times n hash_byte
run_bytes (n ∷ (m ∷ ns)) = times n hash_byte ++ (comma_byte ∷ run_bytes (m ∷ ns))

-- the bytes of a field
unfoldable pub field_bytes : Field → List ℕ
field_bytes f =
    sign_bytes f.sign ++ (run_bytes f.runs ++ (fraction_bytes f.fraction ++ up_bytes f.exponential))

-- no run is empty
unfoldable pub Positive : List ℕ → Type 0
Positive [] = Unit {0}
Positive (n ∷ ns) = (0 < n) × Positive ns

-- all # signs of the runs
unfoldable pub total : List ℕ → ℕ
total [] = 0
total (n ∷ ns) = n + total ns

-- bytes are a field, and this one: a # stands in it, and an exponential field has no comma
pub record IsField (bytes : List ℕ) (f : Field) : Type 0 where
  pub rendered : bytes ≡ field_bytes f
  pub positive : Positive f.runs
  pub nonempty : 0 < total f.runs + f.fraction
  pub plain : f.exponential ≡ true → length f.runs ≤ 1

-- the longest beginning that is a field; 0 where there is none
pub record LongestField (bytes : List ℕ) (size : ℕ) : Type 0 where
  pub inside : size ≤ length bytes
  pub is_field : (size ≡ 0 → ⊥) → (f : Field) × IsField (take size bytes) f
  pub longest : (n : ℕ) (f : Field) → n ≤ length bytes → IsField (take n bytes) f → n ≤ size

-- The machine of images, on fields.

-- whether the bytes that led to a state are a field
abbrev pub is_field_state : State → Bool
is_field_state Start = false
is_field_state Signed = false
is_field_state (Integer g) = true
is_field_state Comma = false
is_field_state (Point g) = false
is_field_state (Fraction g) = true
is_field_state (Up n) = eqb n ups
is_field_state Stopped = false

-- whether no field begins so
abbrev pub is_stopped : State → Bool
is_stopped Start = false
is_stopped Signed = false
is_stopped (Integer g) = false
is_stopped Comma = false
is_stopped (Point g) = false
is_stopped (Fraction g) = false
is_stopped (Up n) = false
is_stopped Stopped = true

-- the longest length at which a state is a field's, from a state on that so many bytes led to; 0 where there is none
unfoldable pub longest_from : State → ℕ → List ℕ → ℕ
longest_from s read [] = 0
longest_from s read (b ∷ bs) =
    pick (eqb (longest_from (next_state s b) (suc read) bs) 0)
    (pick (is_field_state (next_state s b)) (suc read) 0)
    (longest_from (next_state s b) (suc read) bs)

-- the length of the field that bytes begin with, 0 where the first byte is literal
unfoldable pub field_length : List ℕ → ℕ
field_length bytes = longest_from Start 0 bytes

-- the field that bytes begin with: its length, and the # signs and the kind that the machine reads of it; nothing where the first byte is literal
unfoldable pub scanned_field : List ℕ → Scanned
scanned_field bytes =
    record {
      length = field_length bytes;
      integer = (scanned_image (take (field_length bytes) bytes)).integer;
      fraction = (scanned_image (take (field_length bytes) bytes)).fraction;
      exponential = (scanned_image (take (field_length bytes) bytes)).exponential;
    }
