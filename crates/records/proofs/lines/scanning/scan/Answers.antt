-- `lines::scanning::scan` meets its contract: the length of the field that is scanned. Assumes nothing.
use Prim.Native.Nat.{◌≤◌}
use native.Mathlib.Omega.{arith}
use mathlib.Core.Path.{ap, sym, ◌∙◌}
use lib.ListN.{length, drop_of_length-le}
use Rattle.std.proofs.lemmas.List.{take_rest}
use Rattle.records.specs.Lines.Scanning.{field_length}
use Rattle.records.proofs.LineProofs.CheckLaws.{no_bytes_field}
use Rattle.records.proofs.LineProofs.ScanLaws.{scanned_length}
use Rattle.records.proofs.lines.scanning.scan.Goals as goal

pub returns-in-Some : goal.returns-in-Some
returns-in-Some c =
    scanned_length _ c.scan_field.ensures ∙ ap field_length (c.in-Some.ensures.lookup.0.2 ∙ take_rest c.args.line.now c.args.at)

pub returns-in-None : goal.returns-in-None
returns-in-None c =
    let h = c.in-None.ensures.lookup in
    let past : length c.args.line.now ≤ c.args.at = omega arith in
    sym (ap field_length (drop_of_length-le c.args.line.now past) ∙ no_bytes_field)
