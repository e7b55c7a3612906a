-- `Contents::is_readable_body` meets its contract. The loop's invariant: the columns so far can be read, and no half byte of the others is above 9.
-- Assumes nothing.
use mathlib.Core.Path.{◌≡◌}
use mathlib.Core.Bool.{true}
use Rattle.codec.specs.Halves.{halves_of}
use Rattle.codec.specs.Unpacking.{all_digits}
use Rattle.codec.proofs.UnpackLaws.{CheckingColumns}
use Rattle.codec.proofs.contents.Contents.is_readable_body.Given as goal

abbrev pub invariant-loop-image : goal.invariant-loop-image
invariant-loop-image l = record {
  checking : CheckingColumns l.images l.body l.rest l.image-index;
  digits : all_digits (halves_of l.rest) ≡ true;
}
