-- Laws of printing, in words. Assumes nothing.
use Rattle.std.proofs.Common.{◌≡◌, ℕ, sym, ap, ◌∙◌}
use Rattle.decimal.specs.Answer.{Answer, done, refused, mapped}
use Rattle.decimal.proofs.AnswerLaws.{mapped_back, mapped_refused_back}
use Rattle.records.specs.declared.lines.printing.Printed.{Printed}
use Rattle.records.specs.Lines.Printing.{Print, printed_of}
use Rattle.hulgyevan.specs.Outcomes.{refusal_word, outcome, value_or}
use Rattle.hulgyevan.specs.Lines.{printed_size, spilled_of}
use Rattle.hulgyevan.proofs.OutcomeLaws.{outcome_done, outcome_refused}

module _ (a : Answer Print) where
  -- refused as the line is
  pub printed_refused : {number place : ℕ} → refused number place ≡ mapped printed_of a → outcome a ≡ refusal_word number place
  printed_refused h = outcome_refused (sym (mapped_refused_back printed_of a h))

  module _ {p : Printed} (h : done p ≡ mapped printed_of a) where
    -- else what the code has printed
    pub printed_word : outcome a ≡ 0
    printed_word = outcome_done (sym (mapped_back printed_of a h).1)

    pub printed_bytes : (before : ℕ) → value_or (mapped printed_size a) before ≡ p.bytes
    unfolding value_or mapped
    printed_bytes before =
        let t = mapped_back printed_of a h in
        ap (λ (x : Answer Print). value_or (mapped printed_size x) before) t.1 ∙ sym (ap (λ (r : Printed). r.bytes) t.2)

    pub printed_spilled : (before : ℕ) → value_or (mapped spilled_of a) before ≡ p.spilled
    unfolding value_or mapped
    printed_spilled before =
        let t = mapped_back printed_of a h in
        ap (λ (x : Answer Print). value_or (mapped spilled_of x) before) t.1 ∙ sym (ap (λ (r : Printed). r.spilled) t.2)
