use Rattle.stmt_parser.proofs.InterfaceLemmas.{channel-reads}
use Rattle.stmt_parser.proofs.ports.channel_port.Goals as goal

pub returns-in-Ok-read_name_end : goal.returns-in-Ok-read_name_end
returns-in-Ok-read_name_end c = channel-reads c.args.source.now c.args.tokens.now c.args.rest.now c.in-Ok.keyword.rest.now c.in-Ok-read_name_end.read.rest.now c.args.first.now c.in-Ok.keyword.value c.args.kind c.args.depth c.in-Ok-read_name_end.read.value c.requires.is c.requires.role c.in-Ok.ensures c.in-Ok-read_name_end.ensures
