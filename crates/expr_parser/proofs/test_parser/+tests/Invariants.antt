use Rattle.std.proofs.Common.{◌+◌, ◌*◌, length}
use Rattle.expr_parser.specs.Reading.{ReadsTestFront}
use Rattle.expr_parser.proofs.test_parser.+tests.Given as goal

abbrev pub decreases-not : goal.decreases-not
decreases-not l = 5 * length l.rest.now + 4

abbrev pub decreases-test_from : goal.decreases-test_from
decreases-test_from l = 5 * length l.tokens.now + 2

abbrev pub decreases-test_group : goal.decreases-test_group
decreases-test_group l = 5 * length l.rest.now + 3

abbrev pub decreases-grow_test : goal.decreases-grow_test
decreases-grow_test l = 5 * length l.tokens.now + 1

abbrev pub decreases-test_operand : goal.decreases-test_operand
decreases-test_operand l = 5 * length l.tokens.now

abbrev pub invariant-test_from-loop-alloc : goal.invariant-test_from-loop-alloc
invariant-test_from-loop-alloc l = ReadsTestFront l.source l.tokens l.depth l.operators l.least l.read.value.tree l.read.value.operators l.read.rest.now

abbrev pub decreases-test_from-loop-alloc : goal.decreases-test_from-loop-alloc
decreases-test_from-loop-alloc l = length l.read.rest.now
