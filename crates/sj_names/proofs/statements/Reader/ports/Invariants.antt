use Rattle.std.proofs.Common.{◌≡◌, drop, map}
use Rattle.sj_names.specs.definitions.Mentions.{behind, in_order, port_part}
use Rattle.sj_names.specs.ToldNames.{told_of}
use Rattle.sj_names.proofs.statements.Reader.ports.Given as goal

abbrev pub invariant-loop-port : goal.invariant-loop-port
invariant-loop-port l = behind (told_of l.initial.self) (in_order (map port_part l.ports)) ≡ behind (told_of l.self) (in_order (map port_part (drop l.port-index l.ports)))
