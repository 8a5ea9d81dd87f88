use Rattle.std.proofs.Common.{◌≡◌, ℕ, ◌<◌, length, get_or, None, false}
use Rattle.domain_core.specs.definitions.step.EndCalls.{stands_after}
use Rattle.domain_core.proofs.step.end_state.stand_all.Given as goal

abbrev pub invariant-loop-at : goal.invariant-loop-at
invariant-loop-at l = record {
  standing : (k : ℕ) → k < l.at → get_or l.standing.items k false ≡ stands_after (get_or l.asks k None) (get_or l.answers k None);
  len : length l.standing.items ≡ length l.initial.standing.items;
}
