-- `Contents::check_block` meets its contract. The loop's invariant: whether the bodies that are left can be read says whether all can.
-- Assumes nothing.
use Rattle.std.specs.Prelude.{◌≡◌, true}
use Rattle.std.specs.Slice.Iter.{chunks_exact_rest, chunks_exact_size}
use Rattle.codec.specs.Columns.{body_size}
use Rattle.codec.specs.Halves.{halves_of}
use Rattle.codec.specs.Unpacking.{all_digits}
use Rattle.codec.proofs.BodiesLaws.{CheckingBodies}
use Rattle.codec.proofs.contents.Contents.check_block.Given as goal

abbrev pub invariant-loop-body : goal.invariant-loop-body
invariant-loop-body l = record {
  checking : CheckingBodies l.self.images l.bodies (chunks_exact_rest l.body-iterator);
  digits : l.digits ≡ true → all_digits (halves_of (chunks_exact_rest l.body-iterator)) ≡ true;
  size : chunks_exact_size l.body-iterator ≡ body_size l.self.images;
}
