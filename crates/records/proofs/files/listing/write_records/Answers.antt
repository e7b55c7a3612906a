-- `write_records` meets its contract: the line of each body is written behind those of the bodies before. Assumes nothing.
use Rattle.std.proofs.Common.{◌≡◌, ℕ, ◌-◌, ◌+◌, ap, sym, subst, ◌∙◌, arith}
use Rattle.decimal.specs.Answer.{done, checked_only}
use Rattle.decimal.proofs.AnswerLaws.{never_done}
use Rattle.codec.specs.Columns.{Sound}
use Rattle.codec.specs.Alpha.{line_length}
use Rattle.codec.specs.Contents.{Table}
use Rattle.codec.specs.Unpacking.{unpack_body}
use Rattle.records.specs.Files.Listing.{body_line}
use Rattle.codec.proofs.ComingLaws.{lent_length}
use Rattle.codec.proofs.BodiesLaws.{pieces_start, pieces_some}
use Rattle.records.proofs.FileProofs.RecordLinesLaws.{lining_starts, lining_room, body_reads, lining_turns, lining_ends}
use Rattle.records.proofs.FileProofs.CheckedLaws.{listed_file}
use Rattle.records.proofs.files.listing.write_records.Goals as goal

pub overflow_sub-line : goal.overflow_sub-line
overflow_sub-line c = omega (arith, c.size-line.ensures, ap (λ (t : Table). t.size) c.contents-contents.ensures.contents, (listed_file c.args.checked.now).size)

pub loop-bytes-init : goal.loop-bytes-init
loop-bytes-init c =
    let iterates = c.into_iter-bytes-iterator.ensures.into_iter_gives in
    record {
      lining = rw iterates (lining_starts (listed_file c.args.checked.now) c.args.target.now c.bodies-bytes-items.ensures.rest);
      size = pieces_start iterates c.bodies-bytes-items.ensures.size;
    }

pub loop-bytes-init-derived : goal.loop-bytes-init-derived
loop-bytes-init-derived c = pieces_some c.into_iter-bytes-iterator.ensures.into_iter_gives c.bodies-bytes-items.ensures.size (listed_file c.args.checked.now).some

pub overflow_add-end : goal.overflow_add-end
overflow_add-end c =
    let l = c.loop-bytes.invariant in
    let steps = c.in-Some.ensures.steps in
    let own = ap (λ (t : Table). t.size) c.contents-contents.ensures.contents in
    omega (arith, c.size-line.ensures, own, lining_room (listed_file c.args.checked.now) l.lining (omega (arith, c.requires)) _ _ steps.1.0 (steps.1.1 ∙ l.size))

pub invariant_of-body : goal.invariant_of-body
invariant_of-body c =
    let l = c.loop-bytes.invariant in
    let steps = c.in-Some.ensures.steps in
    let reads = body_reads (listed_file c.args.checked.now) l.lining (omega (arith, c.requires)) _ _ steps.1.0 (steps.1.1 ∙ l.size) in
    record { reads = subst (λ (t : Table). checked_only (unpack_body t.images c.in-Some.bytes.now) ≡ done tt) (sym c.contents-contents.ensures.contents) reads }

pub slice_bounds-write_record-end : goal.slice_bounds-write_record-end
slice_bounds-write_record-end c =
    let l = c.loop-bytes.invariant in
    let steps = c.in-Some.ensures.steps in
    let own = ap (λ (t : Table). t.size) c.contents-contents.ensures.contents in
    omega (arith, c.size-line.ensures, own, lining_room (listed_file c.args.checked.now) l.lining (omega (arith, c.requires)) _ _ steps.1.0 (steps.1.1 ∙ l.size))

pub write_record-requires : goal.write_record-requires
write_record-requires c =
    let f = listed_file c.args.checked.now in
    let l = c.loop-bytes in
    let steps = c.in-Some.ensures.steps in
    let n : ℕ = l.out + (c.size-line.result - 1) - l.out in
    let own = ap (λ (t : Table). t.size) c.contents-contents.ensures.contents in
    let room = lining_room f l.invariant.lining (omega (arith, c.requires)) _ _ steps.1.0 (steps.1.1 ∙ l.invariant.size) in
    let images = ap (λ (t : Table). line_length t.images) c.contents-contents.ensures.contents in (
      subst (λ (t : Table). Sound t.images) (sym c.contents-contents.ensures.contents) f.sound,
      omega (arith, own, f.size, images, c.size-line.ensures, lent_length l.target l.out n (omega (arith, c.size-line.ensures, own, room))),
    )

pub returns-in_err-write_record : goal.returns-in_err-write_record
returns-in_err-write_record c = never_done c.in_err-write_record.ensures.answer

pub loop-bytes-preserved : goal.loop-bytes-preserved
loop-bytes-preserved c =
    let l = c.loop-bytes.invariant in
    let steps = c.in-Some.ensures.steps in
    let own = ap (λ (t : Table). t.size) c.contents-contents.ensures.contents in
    record {
      lining =
          lining_turns (listed_file c.args.checked.now) l.lining (omega (arith, c.requires)) _ _ steps.1.0 (steps.1.1 ∙ l.size)
          (c.write_record.ensures.bytes ∙ ap (λ (t : Table). body_line t.images c.in-Some.bytes.now) c.contents-contents.ensures.contents)
          (omega (arith, c.size-line.ensures, own)) (ap (λ (k : ℕ). k - 1) (c.size-line.ensures ∙ own));
      size = steps.0 ∙ l.size;
    }

pub returns-clause-bytes : goal.returns-clause-bytes
returns-clause-bytes c =
    let l = c.loop-bytes.invariant in
    lining_ends (listed_file c.args.checked.now) l.lining (omega (arith, c.requires)) (omega (arith, c.in-None.ensures.steps.1.0, l.size))
