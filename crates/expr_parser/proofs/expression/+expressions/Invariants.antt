use Rattle.std.proofs.Common.{◌+◌, ◌*◌, length}
use Rattle.expr_parser.specs.Reading.{ReadsFront}
use Rattle.expr_parser.proofs.expression.+expressions.Given as goal

abbrev pub decreases-cast : goal.decreases-cast
decreases-cast l = 5 * length l.rest.now + 4

abbrev pub decreases-expression : goal.decreases-expression
decreases-expression l = 5 * length l.tokens.now + 2

abbrev pub decreases-group : goal.decreases-group
decreases-group l = 5 * length l.rest.now + 3

abbrev pub decreases-grow : goal.decreases-grow
decreases-grow l = 5 * length l.tokens.now + 1

abbrev pub decreases-minus : goal.decreases-minus
decreases-minus l = 5 * length l.rest.now + 4

abbrev pub decreases-opened : goal.decreases-opened
decreases-opened l = 5 * length l.rest.now + 4

abbrev pub decreases-operand : goal.decreases-operand
decreases-operand l = 5 * length l.tokens.now

abbrev pub decreases-prefix : goal.decreases-prefix
decreases-prefix l = 5 * length l.rest.now + 4

abbrev pub invariant-expression-loop-alloc : goal.invariant-expression-loop-alloc
invariant-expression-loop-alloc l = ReadsFront l.source l.tokens l.depth l.operators l.least l.read.value.tree l.read.value.operators l.read.rest.now

abbrev pub decreases-expression-loop-alloc : goal.decreases-expression-loop-alloc
decreases-expression-loop-alloc l = length l.read.rest.now
