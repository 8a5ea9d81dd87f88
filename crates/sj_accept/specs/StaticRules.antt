-- The static rules on the statements of domains.
use Rattle.std.specs.Prelude.{◌≤◌, List, [], ◌∷◌}
use Rattle.kernel_terms.specs.Statements.{Stmt}
use Rattle.kernel_terms.specs.MayEnd.{LoopsWait}
use Rattle.tick_tree.specs.definitions.Weight.{weight_of, most_weight}

abbrev pub AllLoopsWait : List Stmt → Type 0
AllLoopsWait [] = Unit {0}
AllLoopsWait (p ∷ ps) = LoopsWait p × AllLoopsWait ps

pub record KeepsStaticRules (p : Stmt) : Type 0 where
  pub loops : LoopsWait p
  pub weight : weight_of p ≤ most_weight

abbrev pub AllKeepStaticRules : List Stmt → Type 0
AllKeepStaticRules [] = Unit {0}
AllKeepStaticRules (p ∷ ps) = KeepsStaticRules p × AllKeepStaticRules ps
