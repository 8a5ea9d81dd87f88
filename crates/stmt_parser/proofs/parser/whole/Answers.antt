use Rattle.stmt_parser.proofs.ProgramLemmas.{is-tree, left-over, stops, nothing-left, some-left}
use Rattle.stmt_parser.proofs.parser.whole.Goals as goal

pub returns-in-empty : goal.returns-in-empty
returns-in-empty c = is-tree c.args.source.now c.args.tokens.now c.in-Ok.read.rest.now c.in-Ok.read.value c.in-Ok.ensures (nothing-left c.in-Ok.read.rest.now c.in-empty.len_below)

pub returns-in-Ok : goal.returns-in-Ok
returns-in-Ok c = left-over c.args.source.now c.args.tokens.now c.in-Ok.read.rest.now c.in-Ok.read.value c.in-Ok.ensures (some-left c.in-Ok.read.rest.now c.in-len1-up.len_at_least)

pub returns : goal.returns
returns c = stops c.args.tokens.now c.in-Err.stop c.in-Err.ensures
