-- `write_bodies` meets its contract: the body of each line is written behind those of the lines before. Assumes nothing.
use Rattle.std.proofs.Common.{ℕ, ◌+◌, ◌-◌, refl, arith}
use Rattle.decimal.proofs.AnswerLaws.{never_done}
use Rattle.codec.proofs.ComingLaws.{lent_length}
use Rattle.records.proofs.FileProofs.EntryLaws.{fill_starts, fill_room, fill_has, fill_turns}
use Rattle.records.proofs.files.entering.write_bodies.Goals as goal

pub loop-out-init : goal.loop-out-init
loop-out-init c = fill_starts c.requires

pub slice_bounds-write_body-end : goal.slice_bounds-write_body-end
slice_bounds-write_body-end c = fill_room c.requires c.loop-out.invariant c.loop-out-test.true

pub write_body-requires : goal.write_body-requires
write_body-requires c =
    let l = c.loop-out in
    let room = fill_room c.requires l.invariant c.loop-out-test.true in
    let n : ℕ = l.out + c.args.body - l.out in
    fill_has c.requires l.invariant c.loop-out-test.true c.split_line.ensures.line _ (omega (arith, lent_length l.target l.out n (omega (arith, room))))

pub returns-in_err-write_body : goal.returns-in_err-write_body
returns-in_err-write_body c = never_done c.in_err-write_body.ensures.answer

pub loop-out-preserved : goal.loop-out-preserved
loop-out-preserved c =
    fill_turns c.requires c.loop-out.invariant c.loop-out-test.true c.split_line.ensures.line c.write_body.ensures.bytes (omega arith) refl
    c.split_line.ensures.behind
