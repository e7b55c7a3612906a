-- `begins_digit` meets its contract: the first byte is a digit. Assumes nothing.
use Rattle.std.proofs.Common.{◌∙◌, arith}
use Rattle.codec.proofs.TextLaws.{first_digit, first_absent}
use Rattle.codec.proofs.text.begins_digit.Goals as goal

pub returns-in-empty : goal.returns-in-empty
returns-in-empty c = first_absent c.args.text.now (omega arith)

pub returns-in-len1-up : goal.returns-in-len1-up
returns-in-len1-up c = c.is_ascii_digit.ensures.value ∙ first_digit c.args.text.now (omega arith)
