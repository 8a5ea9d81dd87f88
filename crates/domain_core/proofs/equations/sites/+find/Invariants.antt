use Rattle.std.proofs.Common.{◌≡◌, ◌+◌, map, drop}
use Rattle.domain_core.specs.equations.BuiltForms.{plain}
use Rattle.domain_core.specs.equations.CircuitLists.{registers_of}
use Rattle.domain_core.proofs.lemmas.equations.PlaceLists.{FindsRest}
use Rattle.domain_core.proofs.equations.sites.+find.Given as goal

abbrev pub invariant-find_all-loop-term : goal.invariant-find_all-loop-term
invariant-find_all-loop-term l =
    FindsRest l.initial.found l.found l.ends (map plain l.list) (map plain (drop l.term-index l.list)) l.register l.next
    × (l.next + registers_of (map plain (drop l.term-index l.list)) ≡ l.register + registers_of (map plain l.list))
