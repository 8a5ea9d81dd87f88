-- The tree that a source is.
use Rattle.std.specs.Prelude.{ℕ, List}
use Rattle.sj_lexer.specs.declared.token.Token.{Token}
use Rattle.sj_lexer.specs.definitions.Readings.{AreTokens}
use Rattle.sj_grammar.specs.definitions.SourceTrees.{SourceTree}
use Rattle.stmt_parser.specs.definitions.Parsing.{IsTreeOf}

-- the source's tokens are a program of the grammar, within the limits, and this is its tree
pub record IsParsed (source : List ℕ) (tree : SourceTree) : Type 0 where
  pub tokens : List Token
  pub are : AreTokens source tokens
  pub parsed : IsTreeOf source tokens tree
