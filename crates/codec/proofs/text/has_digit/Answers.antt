-- `has_digit` meets its contract, by the laws of a numeral that begins with a point, or with another byte. Assumes nothing.
use Rattle.std.proofs.Common.{◌∙◌, arith}
use Rattle.codec.proofs.TextLaws.{first_digit, digit_behind_point, digit_first, digit_absent}
use Rattle.codec.proofs.text.has_digit.Goals as goal

pub returns-in-empty : goal.returns-in-empty
returns-in-empty c = digit_absent c.args.text.now (omega arith)

pub returns-then-first-eq46 : goal.returns-then-first-eq46
returns-then-first-eq46 c = digit_behind_point c.args.text.now (omega arith) c.if-first-eq46.true c.begins_digit.ensures

pub returns-else-first-eq46 : goal.returns-else-first-eq46
returns-else-first-eq46 c =
    digit_first c.args.text.now (λ h e. c.if-first-eq46.false e) (c.is_ascii_digit.ensures.value ∙ first_digit c.args.text.now (omega arith))
