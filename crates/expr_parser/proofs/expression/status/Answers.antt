use Rattle.std.proofs.Common.{ap}
use Rattle.sj_ast.specs.declared.expression.Raw as raw
use Rattle.expr_parser.proofs.OperandLemmas.{status-reads, status-refused}
use Rattle.expr_parser.proofs.expression.status.Goals as goal

pub returns-in_default : goal.returns-in_default
returns-in_default c = record { fails = λ k. status-refused c.args.tokens.now c.args.rest.now c.args.first.now c.args.depth c.args.operators c.requires.is c.requires.role c.in_default.ensures k }

pub returns-in-Ok : goal.returns-in-Ok
returns-in-Ok c =
    status-reads c.args.source.now c.args.tokens.now c.args.rest.now c.in-Some.named.rest.now c.args.first.now c.in-Some.named.value c.args.depth c.args.operators (raw.Status c.args.first.now.start c.in-Some.named.value.start c.in-Ok.name)
    c.requires.is c.requires.role c.in-Some.ensures (ap (raw.Status c.args.first.now.start c.in-Some.named.value.start) c.in-Ok.ensures)
