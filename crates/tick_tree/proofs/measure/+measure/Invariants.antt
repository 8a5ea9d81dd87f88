use Rattle.std.proofs.Common.{◌≡◌, true, map, drop}
use Rattle.std.specs.List.{list_all}
use Rattle.kernel_terms.specs.Statements.{statement, sequence_from, parallel_from}
use Rattle.tick_tree.specs.definitions.Exits.{exits_fit}
use Rattle.tick_tree.specs.Measures.{IsMeasureOfParts}
use Rattle.tick_tree.proofs.measure.+measure.Given as goal

abbrev pub invariant-all_in_turn-loop-i : goal.invariant-all_in_turn-loop-i
invariant-all_in_turn-loop-i l = list_all exits_fit (map statement l.parts) ≡ true → IsMeasureOfParts sequence_from (map statement (drop l.i l.parts)) l.rest

abbrev pub invariant-all_beside-loop-i : goal.invariant-all_beside-loop-i
invariant-all_beside-loop-i l = list_all exits_fit (map statement l.parts) ≡ true → IsMeasureOfParts parallel_from (map statement (drop l.i l.parts)) l.rest
