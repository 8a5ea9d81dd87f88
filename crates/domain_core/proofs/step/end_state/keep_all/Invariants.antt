use Rattle.std.proofs.Common.{◌≡◌, ◌≤◌, length}
use Rattle.domain_core.specs.definitions.step.EndRegisters.{receivers_before}
use Rattle.domain_core.specs.step.EndPlaces.{kept}
use Rattle.domain_core.specs.definitions.step.Domains.{register_at}
use Rattle.domain_core.proofs.step.end_state.keep_all.Given as goal

abbrev pub invariant-loop-at : goal.invariant-loop-at
invariant-loop-at l = record {
  registers : register_at l.registers.items ≡ kept l.list l.last l.answers l.at (register_at l.initial.registers.items);
  len : length l.registers.items ≡ length l.initial.registers.items;
  before : l.before ≡ receivers_before l.list l.at;
  few : l.before ≤ l.at;
}
