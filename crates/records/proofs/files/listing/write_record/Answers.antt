-- `write_record` meets its contract: the texts have room with a byte more, which is the line's end. Assumes nothing.
use Rattle.records.proofs.FileProofs.RecordLaws.{texts_stored, end_inside, line_ends}
use Rattle.records.proofs.files.listing.write_record.Goals as goal

pub returns-in_err-size : goal.returns-in_err-size
returns-in_err-size c =
    let body = c.args.body.now in
    texts_stored c.requires.0 body.bytes.now body.reads c.args.target.now c.requires.1 c.in_err-size.ensures.answer

pub bounds-target-size : goal.bounds-target-size
bounds-target-size c =
    let body = c.args.body.now in
    end_inside c.requires.0 body.bytes.now body.reads c.args.target.now c.requires.1 c.in_ok-size.ensures.answer c.write_texts.ensures.bytes

pub returns-clause-bytes : goal.returns-clause-bytes
returns-clause-bytes c =
    let body = c.args.body.now in
    line_ends c.requires.0 body.bytes.now body.reads c.args.target.now c.requires.1 c.in_ok-size.ensures.answer c.write_texts.ensures.bytes
