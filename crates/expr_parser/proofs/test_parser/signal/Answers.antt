use Rattle.std.proofs.Common.{ap}
use Rattle.sj_ast.specs.declared.test.Test as signal_test
use Rattle.expr_parser.proofs.TestOperandLemmas.{signal-reads}
use Rattle.expr_parser.proofs.test_parser.signal.Goals as goal

pub returns-in-Ok : goal.returns-in-Ok
returns-in-Ok c =
    signal-reads c.args.source.now c.args.tokens.now c.args.rest.now c.args.first.now c.args.depth c.args.operators (signal_test.Signal c.args.first.now.start c.in-Ok.name) c.requires.is c.requires.role (ap (signal_test.Signal c.args.first.now.start) c.in-Ok.ensures)
