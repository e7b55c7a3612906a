-- Document 01, Images: what an image is, and the machine that reads one.
use Rattle.std.specs.Prelude.{◌≡◌, ℕ, zero, suc, ◌+◌, ◌<◌, ◌≤◌, Bool, true, false, not, List, [], ◌∷◌, ◌++◌, ◌==◌, nat_lt}
use Rattle.decimal.specs.declared.image.Sign.{Sign}
use Rattle.decimal.specs.declared.image.Sign.TheVariants.{Unsigned, Plus, Minus}
use Rattle.decimal.specs.declared.image.Image.{Image}
use Rattle.decimal.specs.declared.image.Scan.{Scan}
use Rattle.decimal.specs.declared.machine.State.{State as CodeState}
use Rattle.decimal.specs.declared.machine.State.TheVariants as code
use Rattle.decimal.specs.Answer.{Answer, done, refused, pick}
use Rattle.decimal.specs.Digits.{precision}

-- the bytes of images and line images
abbrev pub plus_byte : ℕ
plus_byte = 0x2B

abbrev pub minus_byte : ℕ
minus_byte = 0x2D

abbrev pub hash_byte : ℕ
hash_byte = 0x23

abbrev pub point_byte : ℕ
point_byte = 0x2E

abbrev pub comma_byte : ℕ
comma_byte = 0x2C

abbrev pub up_byte : ℕ
up_byte = 0x5E

-- the count of 5E bytes in an exponential image
abbrev pub ups : ℕ
ups = 4

-- The grammar. An image is an optional + or −, then # signs with at most one point among or before them, which a # follows,
-- then optionally four 5E bytes; at least one # stands in it.

-- the bytes of a sign
unfoldable pub sign_bytes : Sign → List ℕ
sign_bytes Unsigned = []
sign_bytes Plus = plus_byte ∷ []
sign_bytes Minus = minus_byte ∷ []

-- n times a byte
unfoldable pub times : ℕ → ℕ → List ℕ
times zero b = []
times (suc n) b = b ∷ times n b

-- the point and the # signs behind it, of which there is at least one where there is a point
unfoldable pub fraction_bytes : ℕ → List ℕ
fraction_bytes zero = []
fraction_bytes (suc f) = point_byte ∷ times (suc f) hash_byte

-- the four 5E bytes, or none
unfoldable pub up_bytes : Bool → List ℕ
up_bytes true = times ups up_byte
up_bytes false = []

-- the bytes of an image
unfoldable pub image_bytes : Image → List ℕ
image_bytes im =
    sign_bytes im.sign ++ (times im.integer hash_byte ++ (fraction_bytes im.fraction ++ up_bytes im.exponential))

-- n = i + f, the count of # signs
abbrev pub hashes : Image → ℕ
hashes im = im.integer + im.fraction

-- bytes are an image, and this one
pub record IsImage (bytes : List ℕ) (im : Image) : Type 0 where
  pub rendered : bytes ≡ image_bytes im
  pub nonempty : 0 < hashes im

-- The machine, which print lines use too.

-- what was read of a field, from its first byte
pub data State : Type 0 where
  -- nothing
  Start : State
  -- a sign
  Signed : State
  -- # signs and no point, a # last; whether a comma stands among them
  Integer : Bool → State
  -- a comma last, which a # must follow
  Comma : State
  -- a point last, which a # must follow; whether a comma stands before it
  Point : Bool → State
  -- # signs behind a point; whether a comma stands before the point
  Fraction : Bool → State
  -- the count of 5E bytes behind the # signs; an image has four of them
  Up : ℕ → State
  -- no field begins with the bytes read
  Stopped : State

-- the state that each of the code's states stands for: the code has a state of its own for each flag and each count
abbrev pub state_of : CodeState → State
state_of code.Start = Start
state_of code.Signed = Signed
state_of code.Integer = Integer false
state_of code.Grouped = Integer true
state_of code.Comma = Comma
state_of code.Point = Point false
state_of code.GroupedPoint = Point true
state_of code.Fraction = Fraction false
state_of code.GroupedFraction = Fraction true
state_of code.FirstUp = Up 1
state_of code.SecondUp = Up 2
state_of code.ThirdUp = Up 3
state_of code.Exponential = Up ups
state_of code.Stopped = Stopped

-- after a sign, which only begins a field
abbrev pub after_sign : State → State
after_sign Start = Signed
after_sign Signed = Stopped
after_sign (Integer g) = Stopped
after_sign Comma = Stopped
after_sign (Point g) = Stopped
after_sign (Fraction g) = Stopped
after_sign (Up n) = Stopped
after_sign Stopped = Stopped

-- after a #
abbrev pub after_hash : State → State
after_hash Start = Integer false
after_hash Signed = Integer false
after_hash (Integer g) = Integer g
after_hash Comma = Integer true
after_hash (Point g) = Fraction g
after_hash (Fraction g) = Fraction g
after_hash (Up n) = Stopped
after_hash Stopped = Stopped

-- after a point, of which there is at most one
abbrev pub after_point : State → State
after_point Start = Point false
after_point Signed = Point false
after_point (Integer g) = Point g
after_point Comma = Stopped
after_point (Point g) = Stopped
after_point (Fraction g) = Stopped
after_point (Up n) = Stopped
after_point Stopped = Stopped

-- after a comma, which stands behind a # before the point
abbrev pub after_comma : State → State
after_comma Start = Stopped
after_comma Signed = Stopped
after_comma (Integer g) = Comma
after_comma Comma = Stopped
after_comma (Point g) = Stopped
after_comma (Fraction g) = Stopped
after_comma (Up n) = Stopped
after_comma Stopped = Stopped

-- after the first 5E byte behind # signs: a field with a comma can't be exponential
abbrev pub first_up : Bool → State
first_up grouped = pick grouped Stopped (Up 1)

-- after a 5E byte
abbrev pub after_up : State → State
after_up Start = Stopped
after_up Signed = Stopped
after_up (Integer g) = first_up g
after_up Comma = Stopped
after_up (Point g) = Stopped
after_up (Fraction g) = first_up g
after_up (Up n) = pick (nat_lt n ups) (Up (n + 1)) Stopped
after_up Stopped = Stopped

-- after a byte
unfoldable pub next_state : State → ℕ → State
next_state s b =
    pick (b == plus_byte)
    (after_sign s)
    (pick (b == minus_byte)
    (after_sign s)
    (pick (b == hash_byte)
    (after_hash s)
    (pick (b == point_byte) (after_point s) (pick (b == comma_byte) (after_comma s) (pick (b == up_byte) (after_up s) Stopped)))))

-- after bytes
unfoldable pub run_state : State → List ℕ → State
run_state s [] = s
run_state s (b ∷ bs) = run_state (next_state s b) bs

-- whether the bytes that led to a state are an image
abbrev pub is_image : State → Bool
is_image Start = false
is_image Signed = false
is_image (Integer g) = not g
is_image Comma = false
is_image (Point g) = false
is_image (Fraction g) = not g
is_image (Up n) = n == ups
is_image Stopped = false

-- whether the last byte is a # before the point
abbrev pub integer_hash : State → Bool
integer_hash Start = false
integer_hash Signed = false
integer_hash (Integer g) = true
integer_hash Comma = false
integer_hash (Point g) = false
integer_hash (Fraction g) = false
integer_hash (Up n) = false
integer_hash Stopped = false

-- whether the last byte is a # behind the point
abbrev pub fraction_hash : State → Bool
fraction_hash Start = false
fraction_hash Signed = false
fraction_hash (Integer g) = false
fraction_hash Comma = false
fraction_hash (Point g) = false
fraction_hash (Fraction g) = true
fraction_hash (Up n) = false
fraction_hash Stopped = false

-- whether the last byte is a 5E
abbrev pub is_exponential : State → Bool
is_exponential Start = false
is_exponential Signed = false
is_exponential (Integer g) = false
is_exponential Comma = false
is_exponential (Point g) = false
is_exponential (Fraction g) = false
is_exponential (Up n) = true
is_exponential Stopped = false

-- one more where the test holds
abbrev pub counted : Bool → ℕ → ℕ
counted true n = suc n
counted false n = n

-- the # signs before the point, of bytes read from a state on
unfoldable pub integers_from : State → List ℕ → ℕ
integers_from s [] = 0
integers_from s (b ∷ bs) = counted (integer_hash (next_state s b)) (integers_from (next_state s b) bs)

-- the # signs behind the point, of bytes read from a state on
unfoldable pub fractions_from : State → List ℕ → ℕ
fractions_from s [] = 0
fractions_from s (b ∷ bs) = counted (fraction_hash (next_state s b)) (fractions_from (next_state s b) bs)

-- how many bytes of one value bytes begin with
abbrev pub leading_run : ℕ → List ℕ → ℕ
leading_run byte [] = 0
leading_run byte (b ∷ bs) = pick (b == byte) (suc (leading_run byte bs)) 0

-- how many # signs bytes begin with
abbrev pub hashes_in : List ℕ → ℕ
hashes_in bytes = leading_run hash_byte bytes

-- the sign of a byte
abbrev pub sign_of : ℕ → Sign
sign_of b = pick (b == plus_byte) Plus (pick (b == minus_byte) Minus Unsigned)

-- the sign that bytes begin with
unfoldable pub leading_sign : List ℕ → Sign
leading_sign [] = Unsigned
leading_sign (b ∷ bs) = sign_of b

-- n is at most 13 (2)
unfoldable pub check_digits : ℕ → ℕ → Answer (Unit {0})
check_digits place n = pick (nat_lt precision n) (refused 2 place) (done tt)

-- an image with no # is none (1), and n is at most 13 (2)
unfoldable pub check_image : ℕ → Image → Answer Image
check_image place im =
    pick (hashes im == 0) (refused 1 place) (pick (nat_lt precision (hashes im)) (refused 2 place) (done im))

-- what the machine has read of bytes
unfoldable pub scanned_image : List ℕ → Image
scanned_image bytes =
    record {
      sign = leading_sign bytes;
      integer = integers_from Start bytes;
      fraction = fractions_from Start bytes;
      exponential = is_exponential (run_state Start bytes);
    }

-- the code's scan of bytes: the last state, and the # signs before and behind the point
pub record Scanned (bytes : List ℕ) (scan : Scan) : Type 0 where
  pub ended : state_of scan.state ≡ run_state Start bytes
  pub integers : scan.integer ≡ integers_from Start bytes
  pub fractions : scan.fraction ≡ fractions_from Start bytes

-- bytes read as an image: 1 where they are none, 2 where n is above 13
unfoldable pub read_image : ℕ → List ℕ → Answer Image
read_image place bytes = pick (is_image (run_state Start bytes)) (check_image place (scanned_image bytes)) (refused 1 place)

-- what bytes are read as: an image of at most 13 # signs, an image of more, or no image
pub data ReadsAs (place : ℕ) (bytes : List ℕ) : Type 0 where
  within : (im : Image) → IsImage bytes im → hashes im ≤ precision → read_image place bytes ≡ done im → ReadsAs place bytes
  too_many : (im : Image) → IsImage bytes im → precision < hashes im → read_image place bytes ≡ refused 2 place → ReadsAs place bytes
  no_image : ((im : Image) → IsImage bytes im → ⊥) → read_image place bytes ≡ refused 1 place → ReadsAs place bytes
