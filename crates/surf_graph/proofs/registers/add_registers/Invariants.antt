use Rattle.surf_graph.proofs.OwnSets.{RegistersLeft}
use Rattle.surf_graph.proofs.registers.add_registers.Given as goal

abbrev pub invariant-loop-r : goal.invariant-loop-r
invariant-loop-r l = RegistersLeft l.fn.builder l.builder l.fn.next.items l.next.items l.kinds l.sets l.r
