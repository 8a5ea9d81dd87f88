use Rattle.std.proofs.Common.{◌≡◌, ◌++◌, map, drop}
use Rattle.std.specs.Prelude.{slice_index}
use Rattle.domain_core.proofs.equations.circuit.pick.Given as goal

abbrev pub invariant-loop-number : goal.invariant-loop-number
invariant-loop-number l = l.picked.items ++ map (slice_index l.wires) (drop l.number-index l.numbers) ≡ map (slice_index l.wires) l.numbers
