use Rattle.std.proofs.Common.{◌≡◌, ◌++◌, drop}
use Rattle.java_types.proofs.ports.copied_ports.Given as goal

abbrev pub invariant-loop-port : goal.invariant-loop-port
invariant-loop-port l = l.ports ≡ l.copies.items ++ drop l.port-index l.ports
