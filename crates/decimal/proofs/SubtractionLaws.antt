-- Laws of the subtractions by which a digit is taken off: each one halves the multiple of the power that what is left is below.
-- Assumes nothing.
use Rattle.std.proofs.Common.{◌≡◌, ℕ, ◌+◌, ◌*◌, ◌<◌, ◌≤◌, ap, ◌∙◌, ◌%◌, ◌^◌, refl, ⊎_elim, add-mul, mul-le-mul_right, zero-mul, mod-eq_of_lt, arith}
use Rattle.decimal.specs.declared.digits.Taken.{Taken}
use Rattle.decimal.specs.Digits.{Multiple, one_power, two_powers, four_powers, eight_powers, Subtractions, no_subtraction, taken_off, not_taken_off, digit_in, rest_in, Subtracts, TakesDigit}
use Rattle.decimal.proofs.DigitLaws.{le_or_lt}

-- a digit so far: it and what is left make the whole number, what is left is below so many times the power, and so many subtractions were made
record SoFar (power whole top count : ℕ) (taken : Taken) : Type 0 where
  made : Subtractions power whole taken.subtractions (digit_in taken.held) (rest_in taken.held)
  sum : digit_in taken.held * power + rest_in taken.held ≡ whole
  below : rest_in taken.held < top * power
  small : digit_in taken.held + top ≤ 16
  counted : taken.subtractions ≡ count

-- a subtraction of a multiple halves what the rest is below
next :
    {power whole times count : ℕ} {before after : Taken}
    → Multiple times
    → SoFar power whole (times + times) count before
    → Subtracts power times before after
    → SoFar power whole times (count + 1) after
next {power} {whole} {times} {count} {before} {after} multiple s t =
    let twice = add-mul times times power in
    ⊎_elim
    (λ off.
    let more = ap (λ (d : ℕ). d * power) off.1 ∙ add-mul (digit_in before.held) times power in
    record {
      made = rw (t.counted, off.1) (taken_off {after = rest_in after.held} s.made multiple off.0);
      sum = omega (arith, more);
      below = omega arith;
      small = omega arith;
      counted = omega (arith, t.counted, s.counted);
    })
    (λ stays.
    record {
      made = rw (t.counted, stays.1) (not_taken_off s.made multiple stays.0);
      sum = rw stays.1 s.sum;
      below = rw stays.1 stays.0;
      small = rw stays.1 (omega arith);
      counted = omega (arith, t.counted, s.counted);
    })
    t.result

-- before the first one
none_made : {power whole : ℕ} {none : Taken} → whole < 16 * power → none.held ≡ whole * 16 → none.subtractions ≡ 0 → SoFar power whole 16 0 none
none_made {power} {whole} {none} small held none_counted =
    let rest : rest_in none.held ≡ whole = omega arith in
    let digit : digit_in none.held ≡ 0 = omega arith in
    record {
      made = rw (none_counted, rest, digit) no_subtraction;
      sum = rw (rest, digit) (omega (arith, zero-mul power));
      below = rw rest small;
      small = rw digit (omega arith);
      counted = none_counted;
    }

-- so a digit is taken off by subtractions of 8, 4, 2 and 1 times the power
pub four_subtractions :
    {power whole : ℕ} {first second third taken : Taken}
    → Subtracts power 1 third taken
    → Subtracts power 2 second third
    → Subtracts power 4 first second
    → Subtracts power 8 (record { held = whole * 16 % 2 ^ 64; subtractions = 0 }) first
    → (whole < 10 * power) × (10 * power < 2 ^ 60)
    → TakesDigit power whole taken
four_subtractions {power} {whole} {first} {second} {third} {taken} one two four eight bounds =
    let high = bounds.0 in
    let exact : whole * 16 % 2 ^ 64 ≡ whole * 16 = mod-eq_of_lt (omega arith) in
    let s : SoFar power whole 1 4 taken = next one_power (next two_powers (next four_powers (next eight_powers (none_made (omega arith) exact refl) eight) four) two) one in
    record {
      made = s.made;
      few = omega (arith, s.counted);
      sum = s.sum;
      below = omega (arith, s.below);
      small = ⊎_elim (λ ten. absurd (omega (arith, mul-le-mul_right power ten, s.sum))) (λ few. omega arith) (le_or_lt 10 (digit_in taken.held));
    }
