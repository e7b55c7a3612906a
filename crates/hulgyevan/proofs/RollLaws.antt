-- Laws of finding, in words. Assumes nothing.
use Rattle.std.proofs.Common.{◌≡◌, ℕ, ◌<◌, ◌≤◌, List, length, refl, sym, ap}
use Rattle.std.proofs.lemmas.Bool.{lt-ltb, le-ltb}
use Rattle.decimal.specs.declared.number.Number.{Number}
use Rattle.decimal.specs.Answer.{Answer, done, refused, ◌then◌, mapped}
use Rattle.codec.specs.Answers.{stored_in}
use Rattle.rolls.specs.Searching.{Search, searching}
use Rattle.hulgyevan.specs.Outcomes.{refusal_word, outcome, value_or}
use Rattle.hulgyevan.specs.Roll.{finding, found_records, found_comparisons}

-- what a call that is refused answers, and leaves
pub record FindsNothing (a : Answer Search) (number place : ℕ) (sizes : List ℕ) (before : ℕ) : Type 0 where
  pub word : refusal_word number place ≡ outcome a
  pub records : sizes ≡ stored_in (mapped found_records a) sizes
  pub comparisons : before ≡ value_or (mapped found_comparisons a) before

-- what a call that is done answers, and leaves
pub record FindsAll (a : Answer Search) (found : Search) (sizes : List ℕ) (before : ℕ) : Type 0 where
  pub word : 0 ≡ outcome a
  pub records : stored_in (done found.records) sizes ≡ stored_in (mapped found_records a) sizes
  pub comparisons : found.comparisons ≡ value_or (mapped found_comparisons a) before

nothing_found :
    {a : Answer Search} {number place : ℕ} (records : List ℕ) (comparisons : ℕ) → a ≡ refused number place → FindsNothing a number place records comparisons
unfolding outcome stored_in mapped value_or
nothing_found records comparisons h =
    record {
      word = sym (ap outcome h);
      records = sym (ap (λ (a : Answer Search). stored_in (mapped found_records a) records) h);
      comparisons = sym (ap (λ (a : Answer Search). value_or (mapped found_comparisons a) comparisons) h);
    }

all_found : {a : Answer Search} {found : Search} (records : List ℕ) (comparisons : ℕ) → a ≡ done found → FindsAll a found records comparisons
unfolding outcome mapped value_or
all_found records comparisons h =
    record {
      word = sym (ap outcome h);
      records = sym (ap (λ (a : Answer Search). stored_in (mapped found_records a) records) h);
      comparisons = sym (ap (λ (a : Answer Search). value_or (mapped found_comparisons a) comparisons) h);
    }

module _ (file : List ℕ) (ns : List Number) (records : List ℕ) (comparisons : ℕ) where
  -- refused as the search is
  pub finds_refused :
      {number place : ℕ}
      → refused number place ≡ searching file ns
      → FindsNothing (finding file ns (length records)) number place records comparisons
  unfolding finding ◌then◌
  finds_refused h = nothing_found records comparisons (rw (sym h) refl)

  module _ {found : Search} (h : done found ≡ searching file ns) where
    -- then with 6
    pub finds_long : length records < length found.records → FindsNothing (finding file ns (length records)) 6 0 records comparisons
    unfolding finding ◌then◌
    finds_long l = nothing_found records comparisons (rw (sym h) (rw (lt-ltb (length records) (length found.records) l) refl))

    -- else what is found
    pub finds_done : length found.records ≤ length records → FindsAll (finding file ns (length records)) found records comparisons
    unfolding finding ◌then◌
    finds_done l = all_found records comparisons (rw (sym h) (rw (le-ltb (length records) (length found.records) l) refl))
