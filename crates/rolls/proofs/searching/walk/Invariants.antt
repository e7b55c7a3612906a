-- `walk` meets its contract. The loop's invariant is `Walking`: what is found for the positions before, and what the walk finds for the others
-- in the bodies that are left, is the whole; and a number at hand is the first column of the next of these. Assumes nothing.
use Rattle.std.specs.Prelude.{◌≡◌, take, IfSome}
use Rattle.codec.specs.Columns.{body_size}
use Rattle.rolls.specs.Merging.{first_column_of}
use Rattle.rolls.proofs.WalkLaws.{Walking}
use Rattle.rolls.proofs.searching.walk.Given as goal

abbrev pub invariant-loop-position : goal.invariant-loop-position
invariant-loop-position l = record {
  walking : Walking l.contents.images l.bodies l.positions l.left l.position-index l.record l.comparisons l.records.items;
  front : IfSome l.front (λ number. number ≡ first_column_of l.contents.images (take (body_size l.contents.images) l.left));
}
