use Rattle.std.proofs.Common.{◌≡◌, ℕ, pos, refl, inr, arith}
use Rattle.kernel_terms.specs.Statements.{Trap, ReceiveWaits}
use Rattle.domain_core.specs.Rows.{rendezvous}
use Rattle.domain_core.specs.EndRows.{left_with, in_second_branch, in_local, waiting_send}
use Rattle.domain_core.proofs.lemmas.runs.WorkedRuns.{either, joined, join_step}
use Rattle.domain_core.proofs.rows.joins_complete_ends_in_parts.Goals as goal

n : ⊥ → ⊥
n x = x

six_not_five : pos 6 ≡ pos 5 → ⊥
six_not_five e = cc

one_not_zero : ◌≡◌ {A = ℕ} 1 0 → ⊥
one_not_zero e = cc

pub returns : goal.returns
returns c = record {
  second_branch = record {
    new = joined rendezvous 0 (pos 5) (left_with (in_second_branch waiting_send) (in_second_branch (ReceiveWaits 0)));
    step = (omega arith, join_step rendezvous 0 (pos 5) (left_with (in_second_branch waiting_send) (in_second_branch (ReceiveWaits 0))) (inr (refl, refl)) (inr refl));
    sender = refl;
    receiver = refl;
  };
  trap = record {
    new = joined rendezvous 0 (pos 5) (left_with (Trap waiting_send) (Trap (ReceiveWaits 0)));
    step = (omega arith, join_step rendezvous 0 (pos 5) (left_with (Trap waiting_send) (Trap (ReceiveWaits 0))) (refl, refl) refl);
    sender = refl;
    receiver = refl;
  };
  local = record {
    new = joined rendezvous 0 (pos 5) (left_with (in_local waiting_send) (in_local (ReceiveWaits 0)));
    step = (omega arith, join_step rendezvous 0 (pos 5) (left_with (in_local waiting_send) (in_local (ReceiveWaits 0))) (refl, refl) refl);
    sender = refl;
    receiver = refl;
  };
  no_sender_in_branch = λ sent received h. either n n h.step.1.sends;
  no_receiver_in_branch = λ sent received h. either n n h.step.1.receives;
  no_sender_in_trap = λ sent received h. h.step.1.sends;
  no_receiver_in_trap = λ sent received h. h.step.1.receives;
  no_sender_in_local = λ sent received h. six_not_five h.step.1.sends.1;
  no_receiver_in_local = λ sent received h. one_not_zero h.step.1.receives;
}
