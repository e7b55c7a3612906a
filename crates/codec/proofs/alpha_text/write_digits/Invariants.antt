-- `write_digits` meets its contract. The loop's invariant: the first bytes of the target are the digits', and the run is moved left past
-- them. Assumes nothing.
use Prim.Native.Nat.{◌+◌, ◌-◌, ◌*◌, ◌%◌, ◌^◌}
use mathlib.Core.Path.{◌≡◌}
use lib.ListN.{take, length}
use Rattle.decimal.specs.Digits.{halves_in}
use Rattle.codec.specs.Alpha.{digit_bytes}
use Rattle.codec.proofs.alpha_text.write_digits.Given as goal

abbrev pub invariant-loop-byte : goal.invariant-loop-byte
invariant-loop-byte l = record {
  written : take l.byte-index l.target ≡ take l.byte-index (digit_bytes (halves_in (length l.initial.target) l.run));
  moved : l.left ≡ l.run * 2 ^ (64 - 4 * length l.initial.target + 4 * l.byte-index) % 2 ^ 64;
}
