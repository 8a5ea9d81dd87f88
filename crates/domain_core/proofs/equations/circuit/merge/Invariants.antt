use Rattle.std.proofs.Common.{take}
use Rattle.domain_core.specs.equations.BuiltCodes.{Merges}
use Rattle.domain_core.proofs.equations.circuit.merge.Given as goal

abbrev pub invariant-loop-pair : goal.invariant-loop-pair
invariant-loop-pair l = Merges l.initial.equations.items l.equations.items l.wires.items (take l.pair-index l.pairs) l.count
