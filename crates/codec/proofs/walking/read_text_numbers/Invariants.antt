-- `read_text_numbers` meets its contract. The loop's invariant is `Collecting`: the numbers that are read, with those that are left, are the
-- whole. The measure is the room that is left. Assumes nothing.
use Rattle.std.specs.Prelude.{◌-◌, length}
use Rattle.codec.specs.Lists.{max_columns}
use Rattle.codec.proofs.WalkLaws.{Collecting}
use Rattle.codec.proofs.walking.read_text_numbers.Given as goal

abbrev pub invariant-loop-numbers : goal.invariant-loop-numbers
invariant-loop-numbers l = Collecting l.text l.from l.numbers.items l.place

abbrev pub decreases-loop-numbers : goal.decreases-loop-numbers
decreases-loop-numbers l = max_columns - length l.numbers.items
