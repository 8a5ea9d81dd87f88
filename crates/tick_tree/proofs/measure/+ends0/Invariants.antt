use Rattle.std.proofs.Common.{◌≡◌, true, map, drop}
use Rattle.std.specs.List.{list_all}
use Rattle.kernel_terms.specs.Statements.{statement}
use Rattle.kernel_terms.specs.MayEnd.{ends0}
use Rattle.tick_tree.specs.definitions.Exits.{exits_fit}
use Rattle.tick_tree.proofs.measure.+ends0.Given as goal

abbrev pub invariant-all_end0-loop-i : goal.invariant-all_end0-loop-i
invariant-all_end0-loop-i l = list_all exits_fit (map statement l.parts) ≡ true → list_all ends0 (map statement l.parts) ≡ list_all ends0 (map statement (drop l.i l.parts))
