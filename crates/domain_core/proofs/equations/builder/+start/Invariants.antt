use Rattle.std.proofs.Common.{◌≡◌, ◌+◌, map, drop, length}
use Rattle.domain_core.specs.equations.BuiltForms.{plain}
use Rattle.domain_core.specs.equations.CircuitLists.{registers_of, start_list}
use Rattle.domain_core.proofs.lemmas.equations.CircuitBuilding.{ComesTo}
use Rattle.domain_core.proofs.equations.builder.+start.Given as goal

abbrev pub invariant-start_all-loop-at : goal.invariant-start_all-loop-at
invariant-start_all-loop-at l =
    ComesTo l.initial.parts l.parts (start_list (map plain l.list) (length l.initial.parts.equations.items) l.initial.done l.initial.next) (start_list (map plain (drop l.at l.list)) (length l.parts.equations.items) l.done l.next)
    × (l.next + registers_of (map plain (drop l.at l.list)) ≡ l.initial.next + registers_of (map plain l.list))
