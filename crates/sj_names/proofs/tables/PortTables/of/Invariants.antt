use Rattle.std.proofs.Common.{◌≡◌, ◌++◌, drop, length}
use Rattle.sj_names.specs.definitions.DeclaredTables.{port_signals, port_channels}
use Rattle.sj_names.specs.DomainNames.{names_in}
use Rattle.sj_names.proofs.tables.PortTables.of.Given as goal

abbrev pub invariant-loop-port : goal.invariant-loop-port
invariant-loop-port l =
    (port_signals (names_in l.domains) 0 l.ports ≡ l.tables.signals.items ++ port_signals (names_in l.domains) (length l.tables.signals.items) (drop l.port-index l.ports))
    × (port_channels (names_in l.domains) 0 l.ports ≡ l.tables.channels.items ++ port_channels (names_in l.domains) (length l.tables.channels.items) (drop l.port-index l.ports))
