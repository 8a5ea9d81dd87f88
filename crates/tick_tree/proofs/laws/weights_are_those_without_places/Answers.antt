use Rattle.std.proofs.Common.{sym, ◌∙◌}
use Rattle.tick_tree.specs.definitions.Weight.{nowhere}
use Rattle.tick_tree.proofs.TreeWeights.{weight-starting, weight-resuming}
use Rattle.tick_tree.proofs.laws.weights_are_those_without_places.Goals as goal

pub returns : goal.returns
returns c = record {
  starting = λ at n p. weight-starting at n p ∙ sym (weight-starting nowhere 0 p);
  resuming = λ at n p. weight-resuming at n p ∙ sym (weight-resuming nowhere 0 p);
}
