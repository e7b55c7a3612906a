-- `image::scan_bytes` meets its contract. The loop's invariant is `Reading`: what was read and what is left make the whole.
-- The measure is the length of what is left. Assumes nothing.
use Rattle.std.proofs.Common.{◌≡◌, ℕ, ◌+◌, drop, length, ap, ◌∙◌, arith}
use Rattle.std.proofs.lemmas.List.{take_rest, drop-drop, length-drop}
use Rattle.decimal.specs.Image.{hashes_in}
use Rattle.decimal.proofs.StepLaws.{reading_starts, reading_run, reading_other, reading_ends}
use Rattle.decimal.proofs.image.scan_bytes.Goals as goal

pub loop-rest-init : goal.loop-rest-init
loop-rest-init c = reading_starts c.args.bytes.now

pub returns : goal.returns
returns c = reading_ends c.loop-rest.rest.now c.loop-rest.invariant (omega arith)

pub loop-rest-preserved : goal.loop-rest-preserved
loop-rest-preserved c =
    rw (take_rest c.loop-rest.rest.now 1)
    (reading_other c.loop-rest.rest.now c.loop-rest.invariant (omega arith) c.next_state-state.ensures c.if-first-eq35.false)

pub loop-rest-preserved-then-first-eq35 : goal.loop-rest-preserved-then-first-eq35
loop-rest-preserved-then-first-eq35 c =
    let stepped =
    reading_run {more = c.leading_run-more.result} c.loop-rest.rest.now c.loop-rest.invariant (omega arith) c.next_state-state.ensures
    c.if-first-eq35.true (c.leading_run-more.ensures ∙ ap hashes_in (take_rest c.loop-rest.rest.now 1)) c.hash_counts-before.ensures.integer
    c.hash_counts-before.ensures.fraction in
    let rest = c.loop-rest.rest.now in
    let more = c.leading_run-more.result in
    let joined : drop more (drop 1 rest) ≡ drop (more + 1) rest = drop-drop more 1 rest ∙ ap (λ (k : ℕ). drop k rest) (omega arith) in
    rw (take_rest rest 1) (rw (take_rest (drop 1 rest) more, joined) stepped.reading)

pub overflow_add-integer : goal.overflow_add-integer
overflow_add-integer c =
    let stepped =
    reading_run {more = c.leading_run-more.result} c.loop-rest.rest.now c.loop-rest.invariant (omega arith) c.next_state-state.ensures
    c.if-first-eq35.true (c.leading_run-more.ensures ∙ ap hashes_in (take_rest c.loop-rest.rest.now 1)) c.hash_counts-before.ensures.integer
    c.hash_counts-before.ensures.fraction in
    omega (arith, stepped.inside)

pub overflow_mul-integer : goal.overflow_mul-integer
overflow_mul-integer c =
    let stepped =
    reading_run {more = c.leading_run-more.result} c.loop-rest.rest.now c.loop-rest.invariant (omega arith) c.next_state-state.ensures
    c.if-first-eq35.true (c.leading_run-more.ensures ∙ ap hashes_in (take_rest c.loop-rest.rest.now 1)) c.hash_counts-before.ensures.integer
    c.hash_counts-before.ensures.fraction in
    omega (arith, stepped.few)

pub overflow_add-integer-then-first-eq35 : goal.overflow_add-integer-then-first-eq35
overflow_add-integer-then-first-eq35 c =
    let stepped =
    reading_run {more = c.leading_run-more.result} c.loop-rest.rest.now c.loop-rest.invariant (omega arith) c.next_state-state.ensures
    c.if-first-eq35.true (c.leading_run-more.ensures ∙ ap hashes_in (take_rest c.loop-rest.rest.now 1)) c.hash_counts-before.ensures.integer
    c.hash_counts-before.ensures.fraction in
    omega (arith, stepped.few)

pub overflow_add-fraction : goal.overflow_add-fraction
overflow_add-fraction c =
    let stepped =
    reading_run {more = c.leading_run-more.result} c.loop-rest.rest.now c.loop-rest.invariant (omega arith) c.next_state-state.ensures
    c.if-first-eq35.true (c.leading_run-more.ensures ∙ ap hashes_in (take_rest c.loop-rest.rest.now 1)) c.hash_counts-before.ensures.integer
    c.hash_counts-before.ensures.fraction in
    omega (arith, stepped.inside)

pub overflow_mul-fraction : goal.overflow_mul-fraction
overflow_mul-fraction c =
    let stepped =
    reading_run {more = c.leading_run-more.result} c.loop-rest.rest.now c.loop-rest.invariant (omega arith) c.next_state-state.ensures
    c.if-first-eq35.true (c.leading_run-more.ensures ∙ ap hashes_in (take_rest c.loop-rest.rest.now 1)) c.hash_counts-before.ensures.integer
    c.hash_counts-before.ensures.fraction in
    omega (arith, stepped.few)

pub overflow_add-fraction-then-first-eq35 : goal.overflow_add-fraction-then-first-eq35
overflow_add-fraction-then-first-eq35 c =
    let stepped =
    reading_run {more = c.leading_run-more.result} c.loop-rest.rest.now c.loop-rest.invariant (omega arith) c.next_state-state.ensures
    c.if-first-eq35.true (c.leading_run-more.ensures ∙ ap hashes_in (take_rest c.loop-rest.rest.now 1)) c.hash_counts-before.ensures.integer
    c.hash_counts-before.ensures.fraction in
    omega (arith, stepped.few)

pub slice_bounds-rest-count : goal.slice_bounds-rest-count
slice_bounds-rest-count c =
    let stepped =
    reading_run {more = c.leading_run-more.result} c.loop-rest.rest.now c.loop-rest.invariant (omega arith) c.next_state-state.ensures
    c.if-first-eq35.true (c.leading_run-more.ensures ∙ ap hashes_in (take_rest c.loop-rest.rest.now 1)) c.hash_counts-before.ensures.integer
    c.hash_counts-before.ensures.fraction in
    let left = ap length (take_rest c.loop-rest.rest.now 1) in
    omega (arith, stepped.inside, left, length-drop 1 c.loop-rest.rest.now)

pub slice_bounds-rest-start : goal.slice_bounds-rest-start
slice_bounds-rest-start c =
    let stepped =
    reading_run {more = c.leading_run-more.result} c.loop-rest.rest.now c.loop-rest.invariant (omega arith) c.next_state-state.ensures
    c.if-first-eq35.true (c.leading_run-more.ensures ∙ ap hashes_in (take_rest c.loop-rest.rest.now 1)) c.hash_counts-before.ensures.integer
    c.hash_counts-before.ensures.fraction in
    let left = ap length (take_rest c.loop-rest.rest.now 1) in
    omega (arith, stepped.inside, left, length-drop 1 c.loop-rest.rest.now)
