-- Which refusals the layers' definitions can be: numbers from 1 to 18, and places below 4,096. Assumes nothing.
use Rattle.std.proofs.Common.{◌≡◌, ℕ, zero, suc, ◌+◌, ◌-◌, ◌*◌, ◌^◌, ◌<◌, ◌≤◌, Bool, true, false, not, ◌&&◌, List, [], ◌∷◌, length, take, drop, refl, arith}
use Rattle.std.specs.Prelude.{ltb, leb, eqb, pos, negsuc, ℤ, ◌+ℤ◌, ◌==◌, nat_le, nat_lt}
use Rattle.std.proofs.lemmas.Bool.{leb-true, ltb-true}
use Rattle.decimal.specs.declared.image.Image.{Image}
use Rattle.decimal.specs.declared.number.Number.{Number}
use Rattle.decimal.specs.Answer.{Answer, done, refused, ◌then◌, pick}
use Rattle.decimal.specs.Digits.{precision, leading_zeros, value_of}
use Rattle.decimal.specs.Number.{exponent_limit, check_number, held_number, parts_number, shifted_number, scaled_number}
use Rattle.decimal.specs.Image.{hashes, check_image, read_image}
use Rattle.decimal.specs.Truncation.{exceeds, exponent_outside, limited, truncation, packed_truncation, number_of}
use Rattle.decimal.specs.Comparison.{comparison}
use Rattle.decimal.proofs.BoolLaws.{and_true}
use Rattle.decimal.proofs.RefusalLaws.{RefusesOnly, only_done, only_refused, only_choice, only_then, image_refusals, number_refusals, packed_refusals}
use Rattle.codec.specs.Answers.{within}
use Rattle.codec.specs.Columns.{column_size, body_size}
use Rattle.codec.specs.Contents.{read_column, column_length, read_columns, read_contents, read_alone}
use Rattle.codec.specs.Halves.{halves_of}
use Rattle.codec.specs.Lists.{any_of, max_columns}
use Rattle.codec.specs.Packing.{pack_columns, pack_list}
use Rattle.codec.specs.Unpacking.{all_digits, all_zero, sign_part, digit_part, exponent_part, pad_part, said_by, breaks_rules, as_half, halves_number, unpack_column, unpack_columns, unpack_body}
use Rattle.codec.specs.Unpacking as columns
use Rattle.hulgyevan.specs.Outcomes.{numbers_end, places_end, Near}

-- a refusal with a number from 1 to 18 and such a place
pub near_at : (number place : ℕ) → (leb 1 number && ltb number numbers_end) ≡ true → place < places_end → Near number place
near_at number place h l =
    let both = and_true (leb 1 number) (ltb number numbers_end) h in
    record { some = leb-true 1 number both.0; few = ltb-true number numbers_end both.1; near = l }

-- and with place 0
pub near_zero : {A : Type 0} (number : ℕ) → (leb 1 number && ltb number numbers_end) ≡ true → RefusesOnly {A = A} Near (refused number 0)
near_zero number h = only_refused (near_at number 0 h (omega arith))

-- a step after another, with what the first one gives
pub only_told :
    {A B : Type 0} {kind : ℕ → ℕ → Type 0} (a : Answer A) {f : A → Answer B}
    → RefusesOnly kind a
    → ((v : A) → a ≡ done v → RefusesOnly kind (f v))
    → RefusesOnly kind (a then f)
unfolding ◌then◌
only_told (done v) p q = q v refl
only_told (refused number place) p q = only_refused (p.each refl)

-- one or the other, with what the test says
pub only_test :
    {A : Type 0} {kind : ℕ → ℕ → Type 0} (test : Bool) {x y : Answer A}
    → (test ≡ true → RefusesOnly kind x)
    → (test ≡ false → RefusesOnly kind y)
    → RefusesOnly kind (pick test x y)
only_test true p q = p refl
only_test false p q = q refl

-- a room
pub near_within : (room : ℕ) (bytes : List ℕ) → RefusesOnly Near (within room bytes)
unfolding within
near_within room bytes = only_choice (ltb room (length bytes)) (near_zero 6 refl) only_done

-- Numbers.

pub near_parts : (negative : Bool) (mantissa : ℕ) (e : ℤ) → RefusesOnly Near (parts_number 0 negative mantissa e)
unfolding parts_number
near_parts negative mantissa e = go (e +ℤ pos exponent_limit)
  where
    go : (z : ℤ) → RefusesOnly Near (held_number 0 negative mantissa z)
    go (pos held) = number_refusals 0 _ (near_at 3 0 refl (omega arith))
    go (negsuc k) = near_zero 3 refl

pub near_scaled : (negative : Bool) (whole up down : ℕ) → RefusesOnly Near (scaled_number 0 negative whole up down)
unfolding scaled_number shifted_number
near_scaled negative whole up down =
    let zeros = leading_zeros precision whole in
    only_choice (nat_le (10 ^ precision) whole) (near_zero 3 refl)
    (only_choice (whole == 0) only_done
    (only_choice (nat_lt (exponent_limit + (precision - 1) + up) (down + zeros)) (near_zero 5 refl)
    (only_choice (nat_lt (2 * exponent_limit) (exponent_limit + (precision - 1) + up - (down + zeros))) (near_zero 5 refl) only_done)))

pub near_comparison : (a b : Number) → RefusesOnly Near (comparison a b)
unfolding comparison
near_comparison a b =
    only_then (check_number 0 a) (number_refusals 0 a (near_at 3 0 refl (omega arith)))
    (λ _. only_then (check_number 1 b) (number_refusals 1 b (near_at 3 1 refl (omega arith))) (λ _. only_done))

-- Images.

pub near_image : (place : ℕ) (bytes : List ℕ) → place < places_end → RefusesOnly Near (read_image place bytes)
near_image place bytes l = image_refusals place bytes (near_at 1 place refl l) (near_at 2 place refl l)

pub near_truncation : (im : Image) (n : Number) → RefusesOnly Near (truncation 0 im n)
unfolding truncation check_image limited
near_truncation im n =
    only_then (check_image 0 im) (only_choice (eqb (hashes im) 0) (near_zero 1 refl) (only_choice (ltb precision (hashes im)) (near_zero 2 refl) only_done))
    (λ _. only_then (check_number 0 n) (number_refusals 0 n (near_at 3 0 refl (omega arith)))
    (λ _. only_choice im.exponential (only_choice (exponent_outside im n) (near_zero 5 refl) only_done)
    (only_choice (exceeds im n) (near_zero 4 refl) only_done)))

-- A contents.

near_column : (column : ℕ) (bytes : List ℕ) → column < places_end → RefusesOnly Near (read_column column bytes)
unfolding read_column
near_column column [] l = near_zero 11 refl
near_column column (n ∷ bytes) l = only_choice (ltb (length bytes) n) (near_zero 11 refl) (near_image column (take n bytes) l)

near_columns : (left column : ℕ) (bytes : List ℕ) → column + left ≤ max_columns → RefusesOnly Near (read_columns left column bytes)
unfolding read_columns
near_columns zero column bytes l = only_done
near_columns (suc left) column bytes l =
    only_then (read_column column bytes) (near_column column bytes (omega arith))
    (λ im. only_then (read_columns left (suc column) (drop (column_length bytes) bytes))
    (near_columns left (suc column) (drop (column_length bytes) bytes) (omega arith)) (λ ims. only_done))

pub near_contents : (bytes : List ℕ) → RefusesOnly Near (read_contents bytes)
unfolding read_contents
near_contents [] = near_zero 11 refl
near_contents (count ∷ bytes) =
    only_test (leb 1 count && leb count max_columns)
    (λ t.
    let few = leb-true count max_columns (and_true (leb 1 count) (leb count max_columns) t).1 in
    only_then (read_columns count 0 bytes) (near_columns count 0 bytes (omega arith)) (λ ims. only_done))
    (λ _. near_zero 10 refl)

pub near_alone : (bytes : List ℕ) → RefusesOnly Near (read_alone bytes)
unfolding read_alone
near_alone bytes =
    only_then (read_contents bytes) (near_contents bytes) (λ table. only_choice (eqb table.size (length bytes)) only_done (near_zero 11 refl))

-- A list.

near_packed : (column : ℕ) (ims : List Image) (ns : List Number) → column + length ims ≤ max_columns → RefusesOnly Near (pack_columns column ims ns)
unfolding pack_columns
near_packed column [] ns l = only_done
near_packed column (im ∷ ims) [] l = only_done
near_packed column (im ∷ ims) (n ∷ ns) l =
    let near : column < places_end = omega arith in
    only_then (packed_truncation column im n)
    (packed_refusals column im n (near_at 1 column refl near) (near_at 2 column refl near) (near_at 3 column refl near) (near_at 4 column refl near)
    (near_at 5 column refl near))
    (λ t. only_then (pack_columns (suc column) ims ns) (near_packed (suc column) ims ns (omega arith)) (λ rest. only_done))

pub near_list : (ims : List Image) (ns : List Number) → length ims ≤ max_columns → RefusesOnly Near (pack_list ims ns)
unfolding pack_list
near_list ims ns l = only_choice (eqb (length ns) (length ims)) (near_packed 0 ims ns (omega arith)) (near_zero 10 refl)

-- A body.

near_half : (column : ℕ) (a : Answer Number) → column < places_end → RefusesOnly Near (as_half column a)
unfolding as_half
near_half column (done n) l = only_done
near_half column (refused number place) l = only_refused (near_at 7 column refl l)

near_number : (column : ℕ) (im : Image) (bytes : List ℕ) → column < places_end → RefusesOnly Near (unpack_column column im bytes)
unfolding unpack_column halves_number columns.parts_number
near_number column im bytes l =
    let hs = halves_of bytes in
    let sign = sign_part im.sign hs in
    let whole = value_of (digit_part im hs) in
    let size = value_of (exponent_part im hs) in
    only_choice (any_of (not (all_digits (digit_part im hs)) ∷ (not (all_digits (exponent_part im hs)) ∷ (not (all_zero (pad_part im hs)) ∷ []))))
    (only_refused (near_at 7 column refl l))
    (only_choice (breaks_rules im sign whole size) (only_refused (near_at 7 column refl l))
    (near_half column (number_of column im (said_by sign whole size)) l))

near_numbers : (column : ℕ) (ims : List Image) (bytes : List ℕ) → column + length ims ≤ max_columns → RefusesOnly Near (unpack_columns column ims bytes)
unfolding unpack_columns
near_numbers column [] bytes l = only_done
near_numbers column (im ∷ ims) bytes l =
    only_then (unpack_column column im (take (column_size im) bytes)) (near_number column im (take (column_size im) bytes) (omega arith))
    (λ n. only_then (unpack_columns (suc column) ims (drop (column_size im) bytes)) (near_numbers (suc column) ims (drop (column_size im) bytes) (omega arith))
    (λ ns. only_done))

pub near_body : (ims : List Image) (body : List ℕ) → length ims ≤ max_columns → RefusesOnly Near (unpack_body ims body)
unfolding unpack_body
near_body ims body l = only_choice (eqb (length body) (body_size ims)) (near_numbers 0 ims body (omega arith)) (near_zero 11 refl)
