use Rattle.std.proofs.Common.{length}
use Rattle.sj_lexer.specs.Lexing.{HasRead}
use Rattle.sj_lexer.proofs.lexer.lex.Given as goal

abbrev pub invariant-loop-rest : goal.invariant-loop-rest
invariant-loop-rest l = HasRead l.source l.tokens.items l.rest l.at

abbrev pub decreases-loop-rest : goal.decreases-loop-rest
decreases-loop-rest l = length l.rest
