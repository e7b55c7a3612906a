-- `lines::printing::write_lines` meets its contract: what is written so far is `Writing`, and what stands in the line is `Place`. Assumes nothing.
use Prim.Native.Nat.{◌+◌, ◌<◌, ◌-◌}
use native.Mathlib.Omega.{arith}
use mathlib.Core.Path.{◌≡◌, ap, sym, ◌∙◌, refl}
use borrow.Author.Tests.{eqb-true, eqb-false}
use lib.ListN.{length, get_or}
use Rattle.decimal.specs.Image.{scanned_image}
use Rattle.records.proofs.LineProofs.LineFieldLaws.{no_field}
use Rattle.records.proofs.LineProofs.PlaceLaws.{place_starts, place_literals, place_next, place_line, literals_at, checked_left, next_part, next_ready, spills_start, spills_line, spills_literals, spills_next, spills_counted, spills_end, pass_starts, pass_field, pass_next, pass_over, pass_fewer}
use Rattle.codec.proofs.ComingLaws.{lent_length}
use Rattle.records.proofs.LineProofs.PrintBufferLaws.{writing_starts, literals_room, writing_literals, element_room, writing_element, line_room, writing_line, writing_ends}
use Rattle.records.proofs.lines.printing.write_lines.Goals as goal

pub lines-init : goal.lines-init
lines-init c =
    record {
      place = place_starts _ _;
      checked = record { index = 0; fine = c.requires.0.elements };
      spills = spills_start _ _;
      writing = writing_starts _ _ _ _ c.requires.0.fits;
    }

pub loop-field-init : goal.loop-field-init
loop-field-init c =
    record {
      place = c.lines.invariant.place;
      checked = c.lines.invariant.checked;
      spills = c.lines.invariant.spills;
      pass = pass_starts _ c.lines.invariant.place.within;
      writing = λ entry w. w;
    }

pub overflow_sub-front : goal.overflow_sub-front
overflow_sub-front c =
    let x = pass_field c.requires.1 c.loop-field.invariant.pass c.loop-field-test.true in
    omega (arith, x.first, c.from-start.ensures)

pub slice_bounds-copy_from_slice-end : goal.slice_bounds-copy_from_slice-end
slice_bounds-copy_from_slice-end c =
    let i = c.loop-field.invariant in
    let x = pass_field c.requires.1 i.pass c.loop-field-test.true in
    omega (arith, literals_room (i.writing _ c.lines.invariant.writing) i.place x.first, c.from-start.ensures)

pub slice_bounds-copy_from_slice-count-in-loop-field : goal.slice_bounds-copy_from_slice-count-in-loop-field
slice_bounds-copy_from_slice-count-in-loop-field c =
    let x = pass_field c.requires.1 c.loop-field.invariant.pass c.loop-field-test.true in
    omega (arith, x.first, c.from-start.ensures)

pub slice_bounds-copy_from_slice-start-in-loop-field : goal.slice_bounds-copy_from_slice-start-in-loop-field
slice_bounds-copy_from_slice-start-in-loop-field c =
    let x = pass_field c.requires.1 c.loop-field.invariant.pass c.loop-field-test.true in
    omega (arith, x.first, c.from-start.ensures)

pub slice_bounds-copy_from_slice-end-in-loop-field : goal.slice_bounds-copy_from_slice-end-in-loop-field
slice_bounds-copy_from_slice-end-in-loop-field c =
    let x = pass_field c.requires.1 c.loop-field.invariant.pass c.loop-field-test.true in
    omega (arith, x.there, c.from-start.ensures)

pub slice_bounds-write_element-end : goal.slice_bounds-write_element-end
slice_bounds-write_element-end c =
    let x = pass_field c.requires.1 c.loop-field.invariant.pass c.loop-field-test.true in
    omega (arith, x.on.inside, c.from-start.ensures, c.from-length.ensures)

pub slice_bounds-write_element-end-in-loop-field : goal.slice_bounds-write_element-end-in-loop-field
slice_bounds-write_element-end-in-loop-field c =
    let i = c.loop-field.invariant in
    let x = pass_field c.requires.1 i.pass c.loop-field-test.true in
    rw (c.from-start.ensures, c.from-length.ensures) (omega (arith, element_room (i.writing _ c.lines.invariant.writing) i.place x c.in-len1-up.len_at_least (rw c.from-start.ensures at c.copy_from_slice.ensures.after)))

pub write_element-is_spilled-requires : goal.write_element-is_spilled-requires
write_element-is_spilled-requires c =
    let i = c.loop-field.invariant in
    let x = pass_field c.requires.1 i.pass c.loop-field-test.true in
    let more = c.in-len1-up.len_at_least in
    let f = get_or c.args.fields.now c.loop-field.field-index no_field in
    let fits = element_room (i.writing _ c.lines.invariant.writing) i.place x more (rw c.from-start.ensures at c.copy_from_slice.ensures.after) in
    let out = c.loop-field.out + (f.start - c.loop-field.at) in
    let same : out + f.length - out ≡ f.start + f.length - f.start = omega arith in
    rw (c.from-start.ensures, c.from-length.ensures) (
      record { ready = next_ready x c.requires.0.fields; read = x.image_read ∙ ap scanned_image (sym (next_part x)) },
      (checked_left _ more i.checked).0,
      lent_length _ out (out + f.length - out) (omega (arith, fits)) ∙ same ∙ sym (lent_length c.args.line.now f.start (f.start + f.length - f.start) (omega (arith, x.on.inside))),
    )

pub loop-field-preserved : goal.loop-field-preserved
loop-field-preserved c =
    let i = c.loop-field.invariant in
    let x = pass_field c.requires.1 i.pass c.loop-field-test.true in
    let more = c.in-len1-up.len_at_least in
    rw (c.from-start.ensures, c.from-length.ensures)
    (record {
      place = place_next x i.place more;
      checked = (checked_left _ more i.checked).1;
      spills = spills_next x i.spills more (spills_counted _ _ (rw (c.from-start.ensures, c.from-length.ensures) at c.write_element-is_spilled.ensures.spilled) c.from-spilled.ensures);
      pass = pass_next c.requires.1 i.pass c.loop-field-test.true more;
      writing = λ entry w. writing_element (i.writing entry w) i.place x more (rw c.from-start.ensures at c.copy_from_slice.ensures.after) (rw (c.from-start.ensures, c.from-length.ensures) at c.write_element-is_spilled.ensures.bytes);
    })

pub overflow_add-spilled : goal.overflow_add-spilled
overflow_add-spilled c =
    let i = c.loop-field.invariant in
    let x = pass_field c.requires.1 i.pass c.loop-field-test.true in
    let more = c.in-len1-up.len_at_least in
    let next = spills_next x i.spills more (spills_counted _ _ (rw (c.from-start.ensures, c.from-length.ensures) at c.write_element-is_spilled.ensures.spilled) c.from-spilled.ensures) in
    omega (arith, next.few, c.requires.0.ready.few)

pub slice_bounds-copy_from_slice-end-in-lines : goal.slice_bounds-copy_from_slice-end-in-lines
slice_bounds-copy_from_slice-end-in-lines c =
    let i = c.loop-field.invariant in
    let over = pass_over c.requires.1 i.pass c.requires.0.ready c.loop-field-test.false in
    omega (arith, literals_room (i.writing _ c.lines.invariant.writing) i.place over)

pub bounds-buffer-out : goal.bounds-buffer-out
bounds-buffer-out c =
    let i = c.loop-field.invariant in
    let over = pass_over c.requires.1 i.pass c.requires.0.ready c.loop-field-test.false in
    let more = eqb-false _ _ (sym c.is_empty.ensures ∙ c.if-is_empty.false) in
    line_room (writing_literals (i.writing _ c.lines.invariant.writing) i.place over c.copy_from_slice-in-lines.ensures.after) (place_literals i.place over)
    c.requires.0.ready (omega arith) refl

pub lines-smaller : goal.lines-smaller
lines-smaller c =
    pass_fewer c.requires.1 c.loop-field.invariant.pass c.requires.0.ready c.loop-field-test.false
    (eqb-false _ _ (sym c.is_empty.ensures ∙ c.if-is_empty.false))

pub lines-preserved : goal.lines-preserved
lines-preserved c =
    let i = c.loop-field.invariant in
    let over = pass_over c.requires.1 i.pass c.requires.0.ready c.loop-field-test.false in
    let no = eqb-false _ _ (sym c.is_empty.ensures ∙ c.if-is_empty.false) in
    let more : 0 < length c.loop-field.left.now = omega arith in
    record {
      place = place_line (place_literals i.place over) c.requires.0.ready more refl;
      checked = i.checked;
      spills = spills_line (spills_literals i.spills over) c.requires.0.ready more refl;
      writing =
          writing_line (writing_literals (i.writing _ c.lines.invariant.writing) i.place over c.copy_from_slice-in-lines.ensures.after)
          (place_literals i.place over) c.requires.0.ready more refl refl;
    }

pub returns-in_default : goal.returns-in_default
returns-in_default c =
    let i = c.loop-field.invariant in
    let x = pass_field c.requires.1 i.pass c.loop-field-test.true in
    let none = c.in_default.len_below in
    rw c.from-start.ensures
    (record {
      bytes =
          writing_ends (writing_literals (i.writing _ c.lines.invariant.writing) i.place x.first (rw c.from-start.ensures at c.copy_from_slice.ensures.after))
          (place_literals i.place x.first) (omega arith) (literals_at c.args.line.now c.loop-field.at x.first);
      spilled = spills_end i.spills (omega arith) c.args.texts.now;
    })

pub returns-then-is_empty : goal.returns-then-is_empty
returns-then-is_empty c =
    let i = c.loop-field.invariant in
    let over = pass_over c.requires.1 i.pass c.requires.0.ready c.loop-field-test.false in
    let none = eqb-true _ _ (sym c.is_empty.ensures ∙ c.if-is_empty.true) in
    record {
      bytes =
          writing_ends (writing_literals (i.writing _ c.lines.invariant.writing) i.place over c.copy_from_slice-in-lines.ensures.after)
          (place_literals i.place over) none (literals_at c.args.line.now c.loop-field.at over);
      spilled = spills_end i.spills none c.args.texts.now;
    }
