-- `lines::scanning::scan_field` meets its contract: what was scanned of the bytes so far is `Onward`. Assumes nothing.
use native.Mathlib.Omega.{arith}
use mathlib.Core.Path.{ap, refl, sym, ◌∙◌}
use mathlib.Core.Bool.{false≢true}
use mathlib.Core.Logic.{⊎_elim}
use Rattle.decimal.specs.Image.{state_of}
use Rattle.records.specs.Lines.Scanning.{is_stopped}
use Rattle.records.proofs.LineProofs.ScanLaws.{onward_starts, onward_stops, onward_within, onward_step, onward_integer, onward_fraction, onward_exponential, onward_none, onward_ends, no_field_state, step_is}
use Rattle.records.proofs.lines.scanning.scan_field.Goals as goal
use Rattle.records.proofs.lines.scanning.scan_field.Goals.{in-Stopped, in_default-matches}

pub loop-rest-init : goal.loop-rest-init
loop-rest-init c = onward_starts c.args.bytes.now

pub slice_bounds-rest-count : goal.slice_bounds-rest-count
slice_bounds-rest-count c = onward_within c.loop-rest.invariant (omega arith) c.next_state-state.ensures (step_is c.loop-rest.rest.now (omega arith) c.step_size-step.ensures)

pub slice_bounds-rest-start : goal.slice_bounds-rest-start
slice_bounds-rest-start c =
    let inside = onward_within c.loop-rest.invariant (omega arith) c.next_state-state.ensures {size = c.step_size-step.result} (step_is c.loop-rest.rest.now (omega arith) c.step_size-step.ensures) in
    omega arith

pub overflow_add-read : goal.overflow_add-read
overflow_add-read c =
    let k = onward_step c.loop-rest.invariant (omega arith) c.next_state-state.ensures {size = c.step_size-step.result} (step_is c.loop-rest.rest.now (omega arith) c.step_size-step.ensures) in
    omega (arith, k.inside)

pub overflow_add-scanned : goal.overflow_add-scanned
overflow_add-scanned c =
    let k = onward_step c.loop-rest.invariant (omega arith) c.next_state-state.ensures {size = c.step_size-step.result} (step_is c.loop-rest.rest.now (omega arith) c.step_size-step.ensures) in
    omega (arith, k.inside, c.loop-rest.invariant.scanning.few)

pub overflow_add-scanned-in-Fraction : goal.overflow_add-scanned-in-Fraction
overflow_add-scanned-in-Fraction c =
    let k = onward_step c.loop-rest.invariant (omega arith) c.next_state-state.ensures {size = c.step_size-step.result} (step_is c.loop-rest.rest.now (omega arith) c.step_size-step.ensures) in
    omega (arith, k.inside, c.loop-rest.invariant.scanning.few)

pub loop-rest-preserved-in-Integer : goal.loop-rest-preserved-in-Integer
loop-rest-preserved-in-Integer c =
    ⊎_elim
    (λ is. onward_integer c.loop-rest.invariant (omega arith) c.next_state-state.ensures {size = c.step_size-step.result} (step_is c.loop-rest.rest.now (omega arith) c.step_size-step.ensures) (ap state_of is) refl)
    (λ is. onward_integer c.loop-rest.invariant (omega arith) c.next_state-state.ensures {size = c.step_size-step.result} (step_is c.loop-rest.rest.now (omega arith) c.step_size-step.ensures) (ap state_of is) refl)
    c.in-Integer.is

pub loop-rest-preserved-in-Fraction : goal.loop-rest-preserved-in-Fraction
loop-rest-preserved-in-Fraction c =
    ⊎_elim
    (λ is. onward_fraction c.loop-rest.invariant (omega arith) c.next_state-state.ensures {size = c.step_size-step.result} (step_is c.loop-rest.rest.now (omega arith) c.step_size-step.ensures) (ap state_of is) refl)
    (λ is. onward_fraction c.loop-rest.invariant (omega arith) c.next_state-state.ensures {size = c.step_size-step.result} (step_is c.loop-rest.rest.now (omega arith) c.step_size-step.ensures) (ap state_of is) refl)
    c.in-Fraction.is

pub loop-rest-preserved-in-Exponential : goal.loop-rest-preserved-in-Exponential
loop-rest-preserved-in-Exponential c =
    onward_exponential c.loop-rest.invariant (omega arith) c.next_state-state.ensures {size = c.step_size-step.result} (step_is c.loop-rest.rest.now (omega arith) c.step_size-step.ensures) (ap state_of c.in-Exponential.is) refl

pub returns-then-matches : goal.returns-then-matches
returns-then-matches c =
    elim c.match-matches.branch [
      | in-Stopped w ↦ onward_stops c.loop-rest.invariant (omega arith) c.next_state-state.ensures (ap (λ s. is_stopped (state_of s)) w.in-Stopped.is)
      | in_default-matches w ↦ absurd (false≢true (sym w.matches-is ∙ c.if-matches.true))
    ]

pub loop-rest-preserved : goal.loop-rest-preserved
loop-rest-preserved c =
    let d = c.in_default-state in
    onward_none c.loop-rest.invariant (omega arith) c.next_state-state.ensures {size = c.step_size-step.result} (step_is c.loop-rest.rest.now (omega arith) c.step_size-step.ensures) refl
    (no_field_state _ d.not-Integer d.not-Grouped d.not-Fraction d.not-GroupedFraction d.not-Exponential)

pub returns : goal.returns
returns c = onward_ends c.loop-rest.invariant (omega arith)
