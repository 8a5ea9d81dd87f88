use Rattle.std.proofs.Common.{◌≡◌, drop}
use Rattle.std.specs.List.{flat_map}
use Rattle.java_types.specs.definitions.TypedTrees.{port_failures}
use Rattle.java_types.proofs.ports.first_port_failure.Given as goal

abbrev pub invariant-loop-port : goal.invariant-loop-port
invariant-loop-port l = flat_map port_failures l.ports ≡ flat_map port_failures (drop l.port-index l.ports)
