-- `decimal::digits::subtract` meets its contract: what is taken off the word held is 16 times the multiple of the power, less so many.
-- Assumes nothing.
use Rattle.std.proofs.Common.{◌≡◌, ℕ, zero, suc, ◌+◌, ◌-◌, ◌*◌, ◌%◌, ◌^◌, ◌<◌, ◌≤◌, refl, ap, ◌∙◌, inl, inr, mod-eq_of_lt, arith}
use native.Mathlib.Nat.{div-add-mod}
use lib.Arith.{digits_div, digits_mod}
use Rattle.decimal.specs.Digits.{digit_in, rest_in}
use Rattle.decimal.proofs.digits.subtract.Goals as goal

-- a number's two parts are its own
parts : (rest digit : ℕ) {held : ℕ} → digit < 16 → held ≡ rest * 16 + digit → (rest_in held ≡ rest) × (digit_in held ≡ digit)
parts rest digit small same = rw same (digits_div rest small, digits_mod rest small)

-- so many times 16 powers less 1
units : (times power : ℕ) → 0 < power → times * (power * 16 - 1) + times ≡ 16 * (times * power)
units times zero some = absurd (omega arith)
units times (suc n) some = let less : suc n * 16 - 1 ≡ 16 * n + 15 = omega arith in rw less (omega arith)

-- what is held behind a multiple taken off
taken_off :
    (held times power : ℕ) {multiple : ℕ}
    → digit_in held + times < 16
    → multiple + times ≡ 16 * (times * power)
    → multiple ≤ held
    → (rest_in (held - multiple) + times * power ≡ rest_in held) × (digit_in (held - multiple) ≡ digit_in held + times)
taken_off held times power {multiple} small units enough =
    let split = div-add-mod held 16 in
    let more : times * power ≤ rest_in held = omega arith in
    let now = parts (rest_in held - times * power) (digit_in held + times) {held = held - multiple} (omega arith) (omega arith) in
    (omega (arith, now.0), now.1)

-- the multiple as the code has it
made :
    (times power : ℕ) → 0 < power → 16 * power < 2 ^ 64 → times * (power * 16 % 2 ^ 64 - 1) + times ≡ 16 * (times * power)
made times power some small =
    let exact : power * 16 % 2 ^ 64 ≡ power * 16 = mod-eq_of_lt (omega arith) in
    ap (λ (n : ℕ). times * (n - 1) + times) exact ∙ units times power some

pub overflow_sub-multiple : goal.overflow_sub-multiple
overflow_sub-multiple c =
    let exact : c.args.power * 16 % 2 ^ 64 ≡ c.args.power * 16 = mod-eq_of_lt (omega arith) in
    omega (arith, exact)

pub overflow_mul-multiple : goal.overflow_mul-multiple
overflow_mul-multiple c =
    let units = made c.args.times c.args.power (omega arith) (omega arith) in
    omega (arith, units)

pub returns-then-is_less : goal.returns-then-is_less
returns-then-is_less c =
    let a = c.args in
    let units = made a.times a.power (omega arith) (omega arith) in
    let split = div-add-mod a.taken.held 16 in
    record { counted = refl; result = inr (omega (arith, units, c.if-is_less.true), refl) }

pub returns-else-is_less : goal.returns-else-is_less
returns-else-is_less c =
    let a = c.args in
    let units = made a.times a.power (omega arith) (omega arith) in
    record { counted = refl; result = inl (taken_off a.taken.held a.times a.power c.requires.digit units (omega arith)) }
