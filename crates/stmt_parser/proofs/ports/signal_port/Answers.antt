use Rattle.stmt_parser.proofs.InterfaceLemmas.{signal-port-reads}
use Rattle.stmt_parser.proofs.ports.signal_port.Goals as goal

pub returns-in-Ok : goal.returns-in-Ok
returns-in-Ok c = signal-port-reads c.args.source.now c.args.tokens.now c.args.rest.now c.in-Ok.read.rest.now c.args.first.now c.args.direction c.args.depth c.in-Ok.read.value c.requires.is c.requires.role c.in-Ok.ensures
