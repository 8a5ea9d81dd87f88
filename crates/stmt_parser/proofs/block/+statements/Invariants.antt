use Rattle.std.proofs.Common.{◌+◌, ◌*◌, length}
use Rattle.stmt_parser.specs.Reading.{ReadsStmts, ReadsBeside}
use Rattle.stmt_parser.proofs.block.+statements.Given as goal

abbrev pub decreases-braces : goal.decreases-braces
decreases-braces l = 8 * length l.tokens.now + 0

abbrev pub decreases-boxed_braces : goal.decreases-boxed_braces
decreases-boxed_braces l = 8 * length l.tokens.now + 1

abbrev pub decreases-par : goal.decreases-par
decreases-par l = 8 * length l.tokens.now + 1

abbrev pub decreases-statement : goal.decreases-statement
decreases-statement l = 8 * length l.tokens.now + 2

abbrev pub decreases-inside : goal.decreases-inside
decreases-inside l = 8 * length l.tokens.now + 3

abbrev pub decreases-form : goal.decreases-form
decreases-form l = 8 * length l.rest.now + 6

abbrev pub decreases-branch : goal.decreases-branch
decreases-branch l = 8 * length l.rest.now + 5

abbrev pub decreases-present : goal.decreases-present
decreases-present l = 8 * length l.rest.now + 5

abbrev pub decreases-repeat : goal.decreases-repeat
decreases-repeat l = 8 * length l.rest.now + 5

abbrev pub decreases-guarded : goal.decreases-guarded
decreases-guarded l = 8 * length l.rest.now + 5

abbrev pub decreases-weak : goal.decreases-weak
decreases-weak l = 8 * length l.rest.now + 5

abbrev pub decreases-trap : goal.decreases-trap
decreases-trap l = 8 * length l.rest.now + 5

abbrev pub decreases-looped : goal.decreases-looped
decreases-looped l = 8 * length l.rest.now + 5

abbrev pub decreases-other : goal.decreases-other
decreases-other l = 8 * length l.tokens.now + 4

abbrev pub decreases-others : goal.decreases-others
decreases-others l = 8 * length l.tokens.now + 4

abbrev pub invariant-inside-loop-alloc : goal.invariant-inside-loop-alloc
invariant-inside-loop-alloc l = ReadsStmts l.source l.tokens (l.depth + 1) l.statements.items l.rest

abbrev pub decreases-inside-loop-alloc : goal.decreases-inside-loop-alloc
decreases-inside-loop-alloc l = length l.rest

abbrev pub invariant-others-loop-sign : goal.invariant-others-loop-sign
invariant-others-loop-sign l = ReadsBeside l.source l.tokens l.between l.depth l.blocks.items l.rest

abbrev pub decreases-others-loop-sign : goal.decreases-others-loop-sign
decreases-others-loop-sign l = length l.rest
