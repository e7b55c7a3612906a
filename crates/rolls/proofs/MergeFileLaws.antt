-- Laws of a file that is made of a contents and bodies. Assumes nothing.
use Rattle.std.proofs.Common.{◌≡◌, ℕ, List, length, drop}
use Rattle.std.specs.List.{concat}
use Rattle.decimal.specs.Answer.{done}
use Rattle.codec.specs.Columns.{body_size}
use Rattle.codec.specs.Contents.{Table, read_alone}
use Rattle.codec.proofs.FrontLaws.{contents_alone}
use Rattle.records.specs.Files.RecordFile.{read_file, record_count, bodies_in}
use Rattle.records.proofs.FileProofs.FileLaws.{file_told}
use Rattle.rolls.specs.Merging.{contents_in, file_with}
use Rattle.records.proofs.FileProofs.JoinedLaws as joined
use Rattle.records.proofs.FileProofs.JoinedLaws.{Each, each_so, each_first, each_others}
use Rattle.records.proofs.FileProofs.JoinedLaws.{Sized, joined_length, joined_bodies}

-- A file made of the contents of another and bodies.

module _ (file : List ℕ) {table : Table} (reads : read_file file ≡ done table) (bs : List (List ℕ)) (sized : Each (Sized (body_size table.images)) bs) where
  abbrev made : List ℕ
  made = file_with (contents_in table file) bs

  alone : read_alone (contents_in table file) ≡ done table
  alone = contents_alone file (file_told file reads).contents

  -- the contents stands at the front
  pub made_contents : contents_in table made ≡ contents_in table file
  made_contents = joined.made_contents (contents_in table file) alone bs sized

  -- and the bodies behind it
  pub made_behind : drop table.size made ≡ concat bs
  made_behind = joined.made_behind (contents_in table file) alone bs sized

  -- so it is a file with the same contents,
  pub made_reads : read_file made ≡ done table
  made_reads = joined.made_reads (contents_in table file) alone bs sized

  -- of as many records,
  pub made_count : record_count table made ≡ length bs
  made_count = joined.made_count (contents_in table file) alone bs sized

  -- which have these bodies
  pub made_bodies : bodies_in table made ≡ bs
  made_bodies = joined.made_bodies (contents_in table file) alone bs sized
