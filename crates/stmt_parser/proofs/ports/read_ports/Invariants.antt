use Rattle.std.proofs.Common.{length}
use Rattle.stmt_parser.specs.Reading.{ReadsPortsSoFar}
use Rattle.stmt_parser.proofs.ports.read_ports.Given as goal

abbrev pub invariant-loop-alloc : goal.invariant-loop-alloc
invariant-loop-alloc l = ReadsPortsSoFar l.source l.tokens l.depth l.ports.items l.rest

abbrev pub decreases-loop-alloc : goal.decreases-loop-alloc
decreases-loop-alloc l = length l.rest
