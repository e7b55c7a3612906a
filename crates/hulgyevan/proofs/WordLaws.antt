-- Laws of words: round trips of numbers and words. Assumes nothing.
use Rattle.std.proofs.Common.{ℕ, ◌<◌, arith}
use Rattle.hulgyevan.specs.Words.{sign_bit, fields_word}

-- two fields are below the bit of the sign
pub fields_below : (mantissa exponent : ℕ) → fields_word mantissa exponent < sign_bit
unfolding fields_word
fields_below mantissa exponent = omega arith
