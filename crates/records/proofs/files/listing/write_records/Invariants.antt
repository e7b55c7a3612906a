-- `write_records` meets its contract. The loop's invariant: the lines that are written, and those of the bodies that are left, are all.
-- Assumes nothing.
use Rattle.std.specs.Prelude.{◌≡◌}
use Rattle.std.specs.Slice.Iter.{chunks_exact_rest, chunks_exact_size}
use Rattle.codec.specs.Columns.{body_size}
use Rattle.records.specs.Files.CheckedFile.{checked_table, checked_bytes}
use Rattle.records.proofs.FileProofs.RecordLinesLaws.{Lining}
use Rattle.records.proofs.files.listing.write_records.Given as goal

abbrev pub invariant-loop-bytes : goal.invariant-loop-bytes
invariant-loop-bytes l = record {
  lining : Lining (checked_bytes l.checked) (checked_table l.checked) l.target l.out (chunks_exact_rest l.bytes-iterator);
  size : chunks_exact_size l.bytes-iterator ≡ body_size (checked_table l.checked).images;
}
