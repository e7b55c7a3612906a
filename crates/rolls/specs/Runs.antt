-- Bodies of one size, one behind the other, and their first columns as runs of half bytes: what the code's helpers ask and find.
use Rattle.std.specs.Prelude.{ℕ, suc, ◌/◌, ◌%◌, ◌^◌, ◌≡◌, Bool, false, not, ◌||◌, List, [], ◌∷◌, Option, length, map, get_or, take, leb}
use Rattle.decimal.specs.declared.image.Image.{Image}
use Rattle.decimal.specs.declared.number.Number.{Number}
use Rattle.decimal.specs.Answer.{done, pick}
use Rattle.codec.specs.Columns.{body_size, Sound}
use Rattle.codec.specs.Lists.{no_image}
use Rattle.codec.specs.Order.{UnsignedFixed}
use Rattle.codec.specs.Ordering.{run_of, reaches}
use Rattle.codec.specs.Bodies.{bodies}
use Rattle.rolls.specs.Searching.{first_columns_of}

-- all bodies of this size in bytes that are bodies one behind the other
abbrev pub all_bodies : ℕ → List ℕ → List (List ℕ)
all_bodies size bytes = bodies (length bytes / size) size bytes

-- the run of so many bytes at the front, as the code holds it
abbrev pub run_at : ℕ → List ℕ → ℕ
run_at width bytes = run_of (take width bytes) % 2 ^ 64

-- the runs of the first columns of bodies, so many bytes each
abbrev pub runs_in : ℕ → ℕ → List ℕ → List ℕ
runs_in width size bytes = map (run_at width) (all_bodies size bytes)

-- whether runs fall: some run is below the one before it
unfoldable pub runs_fall : List ℕ → Bool
runs_fall [] = false
runs_fall (a ∷ []) = false
runs_fall (a ∷ (b ∷ rs)) = not (leb a b) || runs_fall (b ∷ rs)

-- how many runs stand before the first that reaches the least one
unfoldable pub first_reaching : Option ℕ → List ℕ → ℕ
first_reaching least [] = 0
first_reaching least (r ∷ rs) = pick (reaches least r) 0 (suc (first_reaching least rs))

-- bodies that can all be read, whose first column is unsigned fixed point
pub record Ordered (ims : List Image) (bytes : List ℕ) : Type 0 where
  pub sound : Sound ims
  pub kind : UnsignedFixed (get_or ims 0 no_image)
  pub whole : length bytes % body_size ims ≡ 0
  pub columns : List Number
  pub read : first_columns_of ims (all_bodies (body_size ims) bytes) ≡ done columns
