-- Tokens that are an expression, a test or a program, and those that begin one.
use Rattle.std.specs.Prelude.{◌≡◌, List, [], ◌++◌}
use Rattle.sj_lexer.specs.declared.token.Token.{Token}
use Rattle.sj_grammar.specs.definitions.Expressions.{Expr, print, IsExpr}
use Rattle.sj_grammar.specs.definitions.Tests.{Test, print_test, IsTest}
use Rattle.sj_grammar.specs.definitions.Programs.{Program, print_program, IsProgram}

pub record AreExpression (tokens : List Token) : Type 0 where
  pub tree : Expr
  pub is_expr : IsExpr tree
  pub printed : print tree [] ≡ tokens

pub record AreTest (tokens : List Token) : Type 0 where
  pub tree : Test
  pub is_test : IsTest tree
  pub printed : print_test tree [] ≡ tokens

pub record AreProgram (tokens : List Token) : Type 0 where
  pub tree : Program
  pub is_program : IsProgram tree
  pub printed : print_program tree [] ≡ tokens

-- with some tokens after them they are one
pub record BeginExpression (tokens : List Token) : Type 0 where
  pub more : List Token
  pub whole : AreExpression (tokens ++ more)

pub record BeginTest (tokens : List Token) : Type 0 where
  pub more : List Token
  pub whole : AreTest (tokens ++ more)

pub record BeginProgram (tokens : List Token) : Type 0 where
  pub more : List Token
  pub whole : AreProgram (tokens ++ more)
