-- The tree of a source that is an expression, a test, a block or a program.
use Rattle.std.specs.Prelude.{◌≡◌, ℕ, List, []}
use Rattle.sj_lexer.specs.declared.token.Token.{Token}
use Rattle.sj_lexer.specs.definitions.Readings.{AreTokens}
use Rattle.sj_ast.specs.declared.name.Name.{Name}
use Rattle.sj_ast.specs.declared.expression.Raw as raw
use Rattle.sj_ast.specs.declared.test.Test as signal_test
use Rattle.sj_ast.specs.declared.statement.Tree.{Tree}
use Rattle.sj_grammar.specs.definitions.Expressions.{print, IsExpr}
use Rattle.sj_grammar.specs.definitions.Tests.{print_test, IsTest}
use Rattle.sj_grammar.specs.definitions.Statements.{print_block, IsBlock}
use Rattle.sj_grammar.specs.definitions.Programs.{print_program, IsProgram}
use Rattle.sj_grammar.specs.definitions.Trees.{raw_of, test_of, SourceBlock, block_of, tree_of}

-- the source's tokens are a sentence of the grammar, and this is its tree
pub record IsMadeOf {S T : Type 0} (Is : S → Type 0) (print_all : S → List Token →
    List Token) (made : List ℕ → S → T) (source : List ℕ) (tree : T) : Type 0 where
  pub tokens : List Token
  pub are : AreTokens source tokens
  pub sentence : S
  pub is_sentence : Is sentence
  pub printed : print_all sentence [] ≡ tokens
  pub stands : tree ≡ made source sentence

abbrev pub SourceTree : Type 0
SourceTree = Tree Name (raw.Raw Name)

abbrev pub IsExpressionOf : List ℕ → raw.Raw Name → Type 0
IsExpressionOf = IsMadeOf IsExpr print raw_of

abbrev pub IsTestOf : List ℕ → signal_test.Test Name → Type 0
IsTestOf = IsMadeOf IsTest print_test test_of

abbrev pub IsBlockOf : List ℕ → SourceBlock → Type 0
IsBlockOf = IsMadeOf IsBlock print_block block_of

abbrev pub IsProgramOf : List ℕ → SourceTree → Type 0
IsProgramOf = IsMadeOf IsProgram print_program tree_of

-- and no tree of the source

abbrev pub IsNoExpressionOf : List ℕ → raw.Raw Name → Type 0
IsNoExpressionOf source tree = IsExpressionOf source tree → ⊥

abbrev pub IsNoTestOf : List ℕ → signal_test.Test Name → Type 0
IsNoTestOf source tree = IsTestOf source tree → ⊥

abbrev pub IsNoBlockOf : List ℕ → SourceBlock → Type 0
IsNoBlockOf source tree = IsBlockOf source tree → ⊥

abbrev pub IsNoProgramOf : List ℕ → SourceTree → Type 0
IsNoProgramOf source tree = IsProgramOf source tree → ⊥
