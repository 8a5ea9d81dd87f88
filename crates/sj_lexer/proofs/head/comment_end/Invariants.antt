use Rattle.std.proofs.Common.{◌≡◌, ◌+◌, length, option_map}
use Rattle.sj_lexer.specs.definitions.Heads.{comment_end}
use Rattle.sj_lexer.proofs.head.comment_end.Given as goal

abbrev pub invariant-loop-rest : goal.invariant-loop-rest
invariant-loop-rest l = (comment_end l.bytes ≡ option_map (λ n. n + l.passed) (comment_end l.rest)) × (l.passed + length l.rest ≡ length l.bytes)

abbrev pub decreases-loop-rest : goal.decreases-loop-rest
decreases-loop-rest l = length l.rest
