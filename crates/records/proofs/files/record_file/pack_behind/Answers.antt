-- `pack_behind` meets its contract: refused as packing is, else the body stands behind the used length. Assumes nothing.
use Rattle.std.proofs.Common.{ap, ◌∙◌, arith}
use Rattle.decimal.specs.Answer.{meaning}
use Rattle.decimal.proofs.AnswerLaws.{passed_on}
use Rattle.records.proofs.FileProofs.FileLaws.{packs_bytes, packs_room, packs_stopped, packs_done}
use Rattle.records.proofs.files.record_file.pack_behind.Goals as goal

pub returns-in_err-size : goal.returns-in_err-size
returns-in_err-size c =
    let a = c.args in
    record {
      answer =
          passed_on _ _ c.from_residual.ensures.1
          ∙ packs_stopped a.contents.now.images a.numbers.now a.buffer.now a.used c.pack.ensures.answer (ap meaning c.in_err-size.was);
      bytes = packs_bytes a.contents.now.images a.numbers.now a.buffer.now a.used c.pack.ensures.bytes;
    }

pub overflow_add-result : goal.overflow_add-result
overflow_add-result c =
    let a = c.args in
    let room = packs_room a.contents.now.images a.numbers.now a.buffer.now a.used c.pack.ensures.answer c.requires (ap meaning c.in_ok-size.was) in
    omega arith

pub returns : goal.returns
returns c =
    let a = c.args in
    record {
      answer = packs_done a.contents.now.images a.numbers.now a.buffer.now a.used c.pack.ensures.answer (ap meaning c.in_ok-size.was);
      bytes = packs_bytes a.contents.now.images a.numbers.now a.buffer.now a.used c.pack.ensures.bytes;
    }
