-- Words of known numbers, and numbers of known words, computed from the rules.
use Rattle.std.specs.Prelude.{◌≡◌, ℕ, ◌+◌, ◌*◌, ◌^◌, Bool, true, false, ◌-◌, pos, neg_ℤ, refl}
use Rattle.decimal.specs.Answer.{Answer, done, refused, ◌then◌, mapped}
use Rattle.decimal.specs.Digits.{leading_zeros}
use Rattle.decimal.specs.Number.{zero_number, largest_number, normal, magnitude, check_number, shifted_number, scaled_number, parts_number}
use Rattle.decimal.specs.Remainder.{zero_remainder}
use Rattle.decimal.specs.Comparison.{whole_order, signed_order, value_order, comparison}
use Rattle.hulgyevan.specs.Words.{number_in, fields_word, word_of, remainder_word}
use Rattle.hulgyevan.specs.Outcomes.{refusal_word, outcome, value_or}
use Rattle.hulgyevan.specs.Bodies.{order_word}

-- the word of a count of steps
pub steps_word : Bool → ℕ → Answer ℕ
steps_word negative steps = mapped word_of (scaled_number 0 negative steps 0 0)

pub record KnownWords : Type 0 where
  -- zero is the word whose bits 52 to 62 are 99
  pub zero : word_of zero_number ≡ 99 * 2 ^ 52
  -- 16,777,216 and 16,777,217 steps: e is 7
  pub last_single : steps_word false 16777216 ≡ done (106 * 2 ^ 52 + 1677721600000)
  pub next_step : steps_word false 16777217 ≡ done (106 * 2 ^ 52 + 1677721700000)
  -- one step below zero: bit 63 is 1
  pub minus_step : steps_word true 1 ≡ done (2 ^ 63 + 99 * 2 ^ 52 + 1000000000000)
  -- the largest magnitude
  pub largest : word_of largest_number ≡ 198 * 2 ^ 52 + 9999999999999
  -- the smallest, 10^−99: its exponent field is 0
  pub smallest : mapped word_of (parts_number 0 false 1000000000000 (neg_ℤ (pos 99))) ≡ done 1000000000000
  -- the remainder of zero has power 0
  pub no_remainder : remainder_word zero_remainder ≡ 111 * 2 ^ 52
  -- the word 0 is no number in normal form
  pub all_zeros : number_in 0 ≡ record { negative = false; mantissa = 0; exponent = 0 }
  pub not_normal : normal (number_in 0) ≡ false
  -- nor is the word of which all bits are 1
  pub all_ones : number_in (2 ^ 64 - 1) ≡ record { negative = true; mantissa = 2 ^ 52 - 1; exponent = 2047 }

-- the words that calls answer with
pub record KnownOutcomes : Type 0 where
  -- done
  pub done_word : outcome {A = ℕ} (done 5) ≡ 0
  pub done_value : value_or (done 5) 7 ≡ 5
  -- refused with 4 in column 2
  pub column : outcome {A = ℕ} (refused 4 2) ≡ 516
  pub stays : value_or (refused 4 2) 7 ≡ 7
  -- two words compared: below, equal, above, and 3 for the first or the second
  pub below : mapped order_word (comparison (number_in (106 * 2 ^ 52 + 1677721600000)) (number_in (106 * 2 ^ 52 + 1677721700000))) ≡ done 0
  pub equal : mapped order_word (comparison (number_in (99 * 2 ^ 52)) (number_in (99 * 2 ^ 52))) ≡ done 1
  pub above : mapped order_word (comparison (number_in (99 * 2 ^ 52)) (number_in (2 ^ 63 + 99 * 2 ^ 52 + 1000000000000))) ≡ done 2
  pub first_refused : outcome (comparison (number_in 0) (number_in (99 * 2 ^ 52))) ≡ 3
  pub second_refused : outcome (comparison (number_in (99 * 2 ^ 52)) (number_in 0)) ≡ 259

pub known_words : KnownWords
unfolding steps_word number_in fields_word word_of remainder_word mapped leading_zeros normal check_number shifted_number scaled_number parts_number
known_words =
    record {
      zero = refl;
      last_single = refl;
      next_step = refl;
      minus_step = refl;
      largest = refl;
      smallest = refl;
      no_remainder = refl;
      all_zeros = refl;
      not_normal = refl;
      all_ones = refl;
    }

pub known_outcomes : KnownOutcomes
unfolding number_in refusal_word outcome value_or mapped ◌then◌ normal magnitude check_number whole_order signed_order value_order comparison
known_outcomes =
    record {
      done_word = refl;
      done_value = refl;
      column = refl;
      stays = refl;
      below = refl;
      equal = refl;
      above = refl;
      first_refused = refl;
      second_refused = refl;
    }
