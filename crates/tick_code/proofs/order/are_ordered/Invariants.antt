use Rattle.std.proofs.Common.{◌↔◌, drop}
use Rattle.wire_code.specs.Formulas.{IsOrdered}
use Rattle.tick_code.proofs.order.are_ordered.Given as goal

abbrev pub invariant-loop-next : goal.invariant-loop-next
invariant-loop-next l = IsOrdered 0 l.equations ↔ IsOrdered l.next (drop l.next l.equations)
