-- `list_checked` meets its contract: the listing's length is what the code measures, and its three parts are written one behind the
-- other. Assumes nothing.
use Rattle.std.proofs.Common.{ℕ, ◌+◌, ◌-◌, length, ap, ◌∙◌, arith}
use Rattle.std.proofs.lemmas.List.{length-take-le}
use Rattle.codec.specs.Contents.{Table}
use Rattle.records.specs.Files.Listing.{records_word}
use Rattle.records.proofs.FileProofs.ReportLaws.{count_line_length}
use Rattle.records.proofs.FileProofs.CheckedLaws.{listed_file}
use Rattle.records.proofs.FileProofs.ListingLaws.{listed_some, measured_short}
use Rattle.records.proofs.files.listing.list_checked.Goals as goal

pub overflow_sub-line : goal.overflow_sub-line
overflow_sub-line c = omega (arith, c.size-line.ensures, ap (λ (t : Table). t.size) c.contents-contents.ensures.contents, listed_some (listed_file c.args.checked.now))

pub is_longer-requires : goal.is_longer-requires
is_longer-requires c = omega (arith, c.size-line.ensures, ap (λ (t : Table). t.size) c.contents-contents.ensures.contents, listed_some (listed_file c.args.checked.now))

pub write_count-requires-2 : goal.write_count-requires-2
write_count-requires-2 c =
    let a = c.args in
    let short = measured_short (listed_file c.args.checked.now) (length a.buffer.now) (ap length c.images-columns.ensures.images ∙ ap (λ (t : Table). length t.images) c.contents-contents.ensures.contents) c.count-records.ensures (ap (λ (k : ℕ). k - 1) (c.size-line.ensures ∙ ap (λ (t : Table). t.size) c.contents-contents.ensures.contents)) c.decimal_length-first.ensures c.decimal_length-last.ensures c.is_longer.ensures c.if-is_longer.false in
    let last = c.split_at_mut-lines.result.1.now in
    omega (
      arith,
      length-take-le (9 + c.decimal_length-last.result) last (omega (arith, short, c.split_at_mut-head.ensures.back_len, c.split_at_mut-lines.ensures.back_len)),
      c.decimal_length-last.ensures,
      count_line_length records_word c.count-records.result,
    )
