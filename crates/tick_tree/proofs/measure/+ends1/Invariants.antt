use Rattle.std.proofs.Common.{◌≡◌, true, map, drop}
use Rattle.std.specs.List.{list_all}
use Rattle.kernel_terms.specs.Statements.{statement}
use Rattle.tick_tree.specs.definitions.Exits.{exits_fit}
use Rattle.tick_tree.specs.Measures.{IsPassed}
use Rattle.tick_tree.proofs.measure.+ends1.Given as goal

abbrev pub invariant-some_end1-loop-i : goal.invariant-some_end1-loop-i
invariant-some_end1-loop-i l = list_all exits_fit (map statement l.parts) ≡ true → IsPassed (map statement (drop l.i l.parts))
