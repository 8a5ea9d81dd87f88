use Rattle.expr_parser.proofs.LongestLemmas.{is-test, test-stops}
use Rattle.expr_parser.proofs.parse.longest_test.Goals as goal

pub returns-in-Ok : goal.returns-in-Ok
returns-in-Ok c = is-test c.args.source.now c.args.tokens.now c.args.depth c.in-Ok.read.value.operators c.in-Ok.read.value.tree c.in-Ok.read.rest.now c.in-Ok.ensures

pub returns-in-Err : goal.returns-in-Err
returns-in-Err c = test-stops c.args.tokens.now c.args.depth c.in-Err.stop c.in-Err.ensures
