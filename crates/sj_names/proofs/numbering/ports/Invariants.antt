use Rattle.std.proofs.Common.{◌≡◌, ◌++◌, drop}
use Rattle.sj_names.specs.definitions.NumberedTrees.{numbered_ports}
use Rattle.sj_names.specs.VisibleNames.{scope_of}
use Rattle.sj_names.proofs.numbering.ports.Given as goal

abbrev pub invariant-loop-part : goal.invariant-loop-part
invariant-loop-part l =
    ((numbered_ports l.ports (scope_of l.initial.names)).value ≡ l.numbered.items ++ (numbered_ports (drop l.part-index l.ports) (scope_of l.names)).value)
    × ((numbered_ports l.ports (scope_of l.initial.names)).scope ≡ (numbered_ports (drop l.part-index l.ports) (scope_of l.names)).scope)
