use Rattle.std.proofs.Common.{◌≡◌, ℕ, ◌<◌, length, get_or, drop, None}
use Rattle.domain_core.specs.definitions.step.EndCalls.{end_at}
use Rattle.domain_core.specs.step.EndPlaces.{ask_of, first_of}
use Rattle.domain_core.specs.definitions.step.Domains.{register_at}
use Rattle.domain_core.proofs.step.end_state.ask_all.Given as goal

abbrev pub invariant-loop-place : goal.invariant-loop-place
invariant-loop-place l = record {
  asks : (k : ℕ) → k < length l.list → first_of (get_or l.asks.items k None) (ask_of (drop l.place-index l.places) k (end_at l.list k).side (register_at l.registers)) ≡ ask_of l.places k (end_at l.list k).side (register_at l.registers);
  len : length l.asks.items ≡ length l.list;
}
