use Rattle.std.proofs.Common.{◌≡◌, ◌≤◌, ◌^◌}
use Rattle.domain_core.specs.step.Answers.{raised}
use Rattle.domain_core.proofs.step.end_state.raised.Given as goal

abbrev pub invariant-loop-at : goal.invariant-loop-at
invariant-loop-at l = record {
  value : l.greatest ≡ raised l.answers l.at l.stamp;
  limit : l.greatest ≤ 2 ^ 62;
}
