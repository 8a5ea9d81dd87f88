use Rattle.std.proofs.Common.{◌≡◌, ℕ, ℤ, pos, refl, inl, inr}
use Rattle.kernel_terms.specs.Statements.{Stmt, Sent, ReceiveWaits, Received}
use Rattle.kernel_rules.specs.Worked.Variables.{forms_around}
use Rattle.domain_core.specs.definitions.runs.Systems.{WaitsToSend, WaitsToReceive}
use Rattle.domain_core.specs.EndRows.{Each, waiting_send}
use Rattle.domain_core.proofs.lemmas.runs.WorkedRuns.{either}
use Rattle.domain_core.proofs.rows.ends_wait_in_each_form.Goals as goal

n : ⊥ → ⊥
n x = x

-- what waits, or doesn't, does so in each form
sends_around : (c : ℕ) (v : ℤ) (p : Stmt) → WaitsToSend c v p → Each (λ q. WaitsToSend c v q) (forms_around p)
sends_around c v p h = (inl h, (inr h, (inl h, (inr h, (inl h, (inr h, (h, (inl h, (inr h, (h, (h, (h, (h, (h, (h, tt)))))))))))))))

no_send_around : (c : ℕ) (v : ℤ) (p : Stmt) → (WaitsToSend c v p → ⊥) → Each (λ q. WaitsToSend c v q → ⊥) (forms_around p)
no_send_around c v p f = (either f n, (either n f, (either f n, (either n f, (either f n, (either n f, (f, (either f n, (either n f, (f, (f, (f, (f, (f, (f, tt)))))))))))))))

receives_around : (c : ℕ) (p : Stmt) → WaitsToReceive c p → Each (λ q. WaitsToReceive c q) (forms_around p)
receives_around c p h = (inl h, (inr h, (inl h, (inr h, (inl h, (inr h, (h, (inl h, (inr h, (h, (h, (h, (h, (h, (h, tt)))))))))))))))

no_receive_around : (c : ℕ) (p : Stmt) → (WaitsToReceive c p → ⊥) → Each (λ q. WaitsToReceive c q → ⊥) (forms_around p)
no_receive_around c p f = (either f n, (either n f, (either f n, (either n f, (either f n, (either n f, (f, (either f n, (either n f, (f, (f, (f, (f, (f, (f, tt)))))))))))))))

one_not_zero : ◌≡◌ {A = ℕ} 1 0 → ⊥
one_not_zero e = cc

zero_not_one : ◌≡◌ {A = ℕ} 0 1 → ⊥
zero_not_one e = cc

five_not_six : pos 5 ≡ pos 6 → ⊥
five_not_six e = cc

six_not_five : pos 6 ≡ pos 5 → ⊥
six_not_five e = cc

pub returns : goal.returns
returns c = record {
  sends = sends_around 0 (pos 5) waiting_send (refl, refl);
  other_value = no_send_around 0 (pos 6) waiting_send (λ h. five_not_six h.1);
  other_channel = no_send_around 1 (pos 5) waiting_send (λ h. zero_not_one h.0);
  sends_no_more = no_send_around 0 (pos 5) (Sent 0) n;
  no_send = (n, (n, (n, (n, (n, (n, (n, ((λ h. one_not_zero h.0), ((λ h. six_not_five h.1), (n, (n, (n, tt))))))))))));
  receives = receives_around 0 (ReceiveWaits 0) refl;
  on_other_channel = no_receive_around 1 (ReceiveWaits 0) zero_not_one;
  receives_no_more = no_receive_around 0 (Received 0) n;
  no_receive = (n, (n, (n, (n, (n, (n, (n, (n, (n, (one_not_zero, (n, tt)))))))))));
}
