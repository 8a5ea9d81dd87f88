-- The program that tokens are, or the first token that can't be one of it.
use Rattle.std.specs.Prelude.{◌≡◌, ℕ, List, [], ◌∷◌, ◌++◌, length}
use Rattle.sj_lexer.specs.declared.token.Token.{Token}
use Rattle.sj_ast.specs.declared.name.Name as ast_name
use Rattle.sj_ast.specs.declared.expression.Raw as raw
use Rattle.sj_ast.specs.declared.statement.Tree.{Tree}
use Rattle.sj_grammar.specs.definitions.Programs.{Program, print_program, IsProgram}
use Rattle.sj_grammar.specs.definitions.Sentences.{AreProgram, BeginProgram}
use Rattle.sj_grammar.specs.definitions.Trees.{tree_of}
use Rattle.sj_grammar.specs.definitions.Machine.{program}
use Rattle.sj_grammar.specs.definitions.Limits.{IsWithin, IsTooDeepBehind}
use Rattle.expr_parser.specs.declared.parse.ParseError.{ParseError}
use Rattle.expr_parser.specs.declared.parse.ParseError.TheVariants as error
use Rattle.expr_parser.specs.definitions.Longest.{IsLongest, place_of}

-- the tokens are a program of the grammar, within the limits, and this is its tree
pub record IsTreeOf (source : List ℕ) (tokens : List Token)
    (tree : Tree ast_name.Name (raw.Raw ast_name.Name)) : Type 0 where
  pub sentence : Program
  pub is_program : IsProgram sentence
  pub printed : print_program sentence [] ≡ tokens
  pub stands : tree ≡ tree_of source sentence
  pub within : IsWithin program 0 0 tokens []

-- The run begins a program, and with the token after it it begins none. Where no token is after it, it is none.
pub record IsRefused (tokens run rest : List Token) : Type 0 where
  pub is : tokens ≡ run ++ rest
  pub longest : IsLongest BeginProgram run rest
  pub none : rest ≡ [] → AreProgram run → ⊥
  pub within : IsWithin program 0 0 run rest

-- the first token that is too deep, up to which the tokens begin a program
pub record IsTooDeep (tokens run rest : List Token) : Type 0 where
  pub token : Token
  pub after : List Token
  pub at : rest ≡ token ∷ after
  pub is : tokens ≡ run ++ rest
  pub begins : BeginProgram (run ++ token ∷ [])
  pub deep : IsTooDeepBehind program 0 0 run token after

pub record SyntaxAt (source : List ℕ) (tokens : List Token) (place : ℕ) : Type 0 where
  pub run : List Token
  pub rest : List Token
  pub refused : IsRefused tokens run rest
  pub place_is : place ≡ place_of rest (length source)

pub record TooDeepAt (source : List ℕ) (tokens : List Token) (place : ℕ) : Type 0 where
  pub run : List Token
  pub rest : List Token
  pub refused : IsTooDeep tokens run rest
  pub place_is : place ≡ place_of rest (length source)

-- want of memory may come at any place
abbrev pub IsNoProgram : List ℕ → List Token → ParseError → Type 0
IsNoProgram source tokens (error.Syntax at) = SyntaxAt source tokens at
IsNoProgram source tokens (error.TooDeep at) = TooDeepAt source tokens at
IsNoProgram source tokens error.NoMemory = Unit {0}
