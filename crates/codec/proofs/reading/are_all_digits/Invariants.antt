-- `are_all_digits` meets its contract. The loop's invariant: no mark is set so far where the bytes so far are digits. Assumes nothing.
use mathlib.Core.Path.{◌≡◌}
use lib.Dec.{eqb}
use lib.ListN.{take}
use Rattle.codec.specs.Halves.{halves_of}
use Rattle.codec.specs.Unpacking.{all_digits}
use Rattle.codec.proofs.reading.are_all_digits.Given as goal

abbrev pub invariant-loop-byte : goal.invariant-loop-byte
invariant-loop-byte l = eqb l.above 0 ≡ all_digits (halves_of (take l.byte-index l.bytes))
