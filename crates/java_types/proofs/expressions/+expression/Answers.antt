use Rattle.std.proofs.Common.{rules}
use Rattle.java_types.proofs.ExpressionLemmas.{right_fails}
use Rattle.java_types.proofs.expressions.+expression.Goals as goal

pub returns-in_err-right-in-Binary : goal.returns-in_err-right-in-Binary
returns-in_err-right-in-Binary t c =
    let fails = right_fails c.args.tables.now c.args.raw.now c.in-Binary.at c.in-Binary.op c.get-in-Binary.result.now c.get-in-Binary-2.result.now c.in_ok-left-in-Binary.left c.in_err-right-in-Binary.field-0.0
    (cc) c.in_ok-left-in-Binary.ensures c.in_err-right-in-Binary.ensures
    in search rules
