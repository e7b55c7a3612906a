-- `check_normal` meets its contract. The loop's invariant: the positions that are left are refused as all of them are. Assumes nothing.
use Rattle.std.specs.Prelude.{◌≡◌, drop}
use Rattle.rolls.specs.Searching.{check_numbers}
use Rattle.rolls.proofs.searching.check_normal.Given as goal

abbrev pub invariant-loop-index : goal.invariant-loop-index
invariant-loop-index l = check_numbers 0 l.positions ≡ check_numbers l.index (drop l.index l.positions)
