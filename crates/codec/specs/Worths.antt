-- The worth of each value of a packed byte.
use Rattle.std.specs.Prelude.{ℕ, ◌+◌, ◌*◌, ◌/◌, ◌%◌, ◌<◌, ◌≡◌, List, ◌&&◌, get_or, ltb}
use Rattle.decimal.specs.Answer.{pick}

-- the worth of a packed byte: ten times its high half plus its low half, 255 where a half is above 9
unfoldable pub worth_of : ℕ → ℕ
worth_of b = pick (ltb (b / 16) 10 && ltb (b % 16) 10) (b / 16 * 10 + b % 16) 255

-- a table of the worths of all packed bytes
pub record IsWorths (table : List ℕ) : Type 0 where
  pub worth_at : (b : ℕ) → b < 256 → get_or table b 0 ≡ worth_of b
