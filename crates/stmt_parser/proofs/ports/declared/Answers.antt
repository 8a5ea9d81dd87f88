use Rattle.std.proofs.Common.{refl}
use Rattle.stmt_parser.proofs.InterfaceLemmas.{pure-reads, valued-port, declared-absent}
use Rattle.stmt_parser.proofs.ports.declared.Goals as goal

pub returns-in-Ok : goal.returns-in-Ok
returns-in-Ok c = pure-reads c.args.source.now c.args.tokens.now c.in-Some.keyword.rest.now c.in-Ok.read.rest.now c.in-Some.keyword.value c.args.depth c.in-Ok.read.value c.in-Some.ensures c.in-Ok.ensures

pub returns-in_default-kind_at : goal.returns-in_default-kind_at
returns-in_default-kind_at c = declared-absent c.args.tokens.now c.args.depth _ c.in_default.ensures c.in_default-kind_at.ensures refl

pub returns-in-Ok-read_valued : goal.returns-in-Ok-read_valued
returns-in-Ok-read_valued c = valued-port c.args.source.now c.args.tokens.now c.in-Some-kind_at.kinded.rest.now c.in-Ok-expect.keyword.rest.now c.in-Ok-read_valued.read.rest.now c.in-Some-kind_at.kinded.value c.in-Ok-expect.keyword.value c.args.depth c.in-Ok-read_valued.read.value c.in_default.ensures c.in-Some-kind_at.ensures c.in-Ok-expect.ensures c.in-Ok-read_valued.ensures
