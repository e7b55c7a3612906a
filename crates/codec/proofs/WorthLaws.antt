-- The table of worths has the worth of each byte, and a worth is what the byte's two halves are read to. Assumes nothing.
use Prim.Native.Nat.{ℕ, ◌+◌, ◌*◌, ◌/◌, ◌%◌}
use mathlib.Core.Path.{◌≡◌, refl, ap, ◌∙◌}
use mathlib.Core.List.{[], ◌∷◌}
use mathlib.Core.Bool.{Bool, true, false, not}
use native.Mathlib.Omega.{arith}
use borrow.Author.Tests.{ltb-true, eq-eqb, ne_eqb}
use lib.Dec.{ltb, eqb}
use Rattle.std.specs.Bool.{then_some}
use Rattle.decimal.specs.Answer.{Answer, done}
use Rattle.decimal.proofs.Table.{table_entry}
use Rattle.codec.specs.Halves.{halves_of}
use Rattle.codec.specs.Unpacking.{read_on, run_meaning}
use Rattle.codec.specs.Worths.{IsWorths, worth_of}
use Rattle.codec.specs.declared.worths.TheConstants.{WORTHS}

-- the table is computed whole
pub worths_right : IsWorths WORTHS
unfolding worth_of
worths_right = record { worth_at = λ b h. table_entry worth_of 256 b h }

-- a worth that is not 255 is what the halves are read to; with 255 a half is no digit
pub worth_read :
    (b : ℕ) {w none : ℕ} → w ≡ worth_of b → none ≡ 255 → run_meaning (then_some (not (eqb w none)) w) ≡ read_on 0 (halves_of (b ∷ []))
unfolding worth_of read_on halves_of
worth_read b {w} {none} worth said = go (ltb (b / 16) 10) (ltb (b % 16) 10) refl refl
  where
    go : (x y : Bool) → ltb (b / 16) 10 ≡ x → ltb (b % 16) 10 ≡ y → run_meaning (then_some (not (eqb w none)) w) ≡ read_on 0 (halves_of (b ∷ []))
    go true true p q =
        let value : w ≡ b / 16 * 10 + b % 16 = worth ∙ rw (p, q) in
        let some : w ≡ none → ⊥ = λ e. omega (arith, ltb-true (b / 16) 10 p, ltb-true (b % 16) 10 q) in
        rw (p, q, ne_eqb w none some) (ap {B = Answer ℕ} done (omega arith))
    go true false p q = let value : w ≡ 255 = worth ∙ rw (p, q) in rw (p, q, eq-eqb w none (omega arith))
    go false y p q = let value : w ≡ 255 = worth ∙ rw p in rw (p, eq-eqb w none (omega arith))
