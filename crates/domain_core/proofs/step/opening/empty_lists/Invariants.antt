use Rattle.std.proofs.Common.{◌≡◌, []}
use Rattle.std.specs.Prelude.{replicate}
use Rattle.domain_core.specs.step.JoinLists.{joins_in}
use Rattle.domain_core.proofs.step.opening.empty_lists.Given as goal

abbrev pub invariant-loop-at : goal.invariant-loop-at
invariant-loop-at l = joins_in l.lists.items ≡ replicate l.at []
