use Rattle.std.proofs.Common.{◌≡◌, ◌+◌, drop}
use Rattle.domain_core.specs.definitions.step.EndRegisters.{end_number}
use Rattle.domain_core.proofs.equations.sites.end_number.Given as goal

abbrev pub invariant-loop-end : goal.invariant-loop-end
invariant-loop-end l = record {
  number : l.number ≡ l.end-index;
  rest : end_number l.ends l.channel ≡ l.number + end_number (drop l.end-index l.ends) l.channel;
}
