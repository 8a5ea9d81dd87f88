use Rattle.std.proofs.Common.{◌≡◌, length, drop}
use Rattle.domain_core.specs.step.EndPlaces.{is_joined, met_where}
use Rattle.domain_core.specs.definitions.step.Domains.{register_at}
use Rattle.domain_core.proofs.step.end_state.meet_all.Given as goal

abbrev pub invariant-loop-place : goal.invariant-loop-place
invariant-loop-place l = record {
  met : met_where (is_joined l.answers) (drop l.place-index l.places) (register_at l.registers.items) ≡ met_where (is_joined l.answers) l.places (register_at l.initial.registers.items);
  len : length l.registers.items ≡ length l.initial.registers.items;
}
