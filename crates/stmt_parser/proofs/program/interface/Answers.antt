use Rattle.stmt_parser.proofs.ProgramLemmas.{interface-reads}
use Rattle.stmt_parser.proofs.program.interface.Goals as goal

pub returns-in-Ok-expect-4 : goal.returns-in-Ok-expect-4
returns-in-Ok-expect-4 c = interface-reads c.args.source.now c.args.tokens.now c.in-Ok.system.rest.now c.in-Ok-expect.open.rest.now c.in-Ok-expect-2.word.rest.now c.in-Ok-expect-3.inner.rest.now c.in-Ok-read_ports.read.rest.now c.in-Ok-expect-4.close.rest.now c.in-Ok.system.value c.in-Ok-expect.open.value c.in-Ok-expect-2.word.value c.in-Ok-expect-3.inner.value c.in-Ok-expect-4.close.value c.in-Ok-read_ports.read.value.items c.in-Ok.ensures c.in-Ok-expect.ensures c.in-Ok-expect-2.ensures c.in-Ok-expect-3.ensures c.in-Ok-read_ports.ensures c.in-Ok-expect-4.ensures
