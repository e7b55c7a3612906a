-- `lines::printing::measure` meets its contract: what is counted so far is `Place`. Assumes nothing.
use native.Mathlib.Omega.{arith}
use mathlib.Core.Path.{refl, sym, ◌∙◌}
use borrow.Author.Tests.{eqb-true, eqb-false}
use Rattle.records.proofs.LineProofs.PlaceLaws.{literals_at, place_ends, place_line, place_literals, place_next, place_small, place_starts, pass_starts, pass_field, pass_next, pass_over, pass_fewer}
use Rattle.records.proofs.lines.printing.measure.Goals as goal

pub lines-init : goal.lines-init
lines-init c = place_starts _ _

pub loop-field-init : goal.loop-field-init
loop-field-init c = record { place = c.lines.invariant; pass = pass_starts _ c.lines.invariant.within }

pub overflow_sub-bytes : goal.overflow_sub-bytes
overflow_sub-bytes c =
    let x = pass_field c.requires.1 c.loop-field.invariant.pass c.loop-field-test.true in
    omega (arith, x.first, c.from-start.ensures)

pub overflow_add-bytes : goal.overflow_add-bytes
overflow_add-bytes c =
    let x = pass_field c.requires.1 c.loop-field.invariant.pass c.loop-field-test.true in
    omega (arith, place_small c.loop-field.invariant.place c.requires.0, x.there, c.requires.0.short, c.from-start.ensures)

pub overflow_add-bytes-in-loop-field : goal.overflow_add-bytes-in-loop-field
overflow_add-bytes-in-loop-field c =
    let x = pass_field c.requires.1 c.loop-field.invariant.pass c.loop-field-test.true in
    omega (arith, place_small c.loop-field.invariant.place c.requires.0, x.there, x.on.inside, c.requires.0.short, c.from-start.ensures, c.from-length.ensures)

pub loop-field-preserved : goal.loop-field-preserved
loop-field-preserved c =
    let x = pass_field c.requires.1 c.loop-field.invariant.pass c.loop-field-test.true in
    rw (c.from-start.ensures, c.from-length.ensures)
    (record {
      place = place_next x c.loop-field.invariant.place c.in-len1-up.len_at_least;
      pass = pass_next c.requires.1 c.loop-field.invariant.pass c.loop-field-test.true c.in-len1-up.len_at_least;
    })

pub overflow_add-bytes-in-lines : goal.overflow_add-bytes-in-lines
overflow_add-bytes-in-lines c =
    omega (arith, place_small c.loop-field.invariant.place c.requires.0, c.requires.0.short)

pub overflow_add-bytes-in-lines-2 : goal.overflow_add-bytes-in-lines-2
overflow_add-bytes-in-lines-2 c =
    omega (arith, place_small c.loop-field.invariant.place c.requires.0, c.requires.0.short)

pub lines-smaller : goal.lines-smaller
lines-smaller c =
    pass_fewer c.requires.1 c.loop-field.invariant.pass c.requires.0 c.loop-field-test.false
    (eqb-false _ _ (sym c.is_empty.ensures ∙ c.if-is_empty.false))

pub lines-preserved : goal.lines-preserved
lines-preserved c =
    let some = eqb-false _ _ (sym c.is_empty.ensures ∙ c.if-is_empty.false) in
    let over = pass_over c.requires.1 c.loop-field.invariant.pass c.requires.0 c.loop-field-test.false in
    place_line (place_literals c.loop-field.invariant.place over) c.requires.0 (omega arith) refl

pub returns-in_default : goal.returns-in_default
returns-in_default c =
    let x = pass_field c.requires.1 c.loop-field.invariant.pass c.loop-field-test.true in
    rw c.from-start.ensures (place_ends (place_literals c.loop-field.invariant.place x.first) (omega (arith, c.in_default.len_below)) (literals_at c.args.line.now c.loop-field.at x.first))

pub returns-then-is_empty : goal.returns-then-is_empty
returns-then-is_empty c =
    let over = pass_over c.requires.1 c.loop-field.invariant.pass c.requires.0 c.loop-field-test.false in
    place_ends (place_literals c.loop-field.invariant.place over) (eqb-true _ _ (sym c.is_empty.ensures ∙ c.if-is_empty.true)) (literals_at c.args.line.now c.loop-field.at over)
