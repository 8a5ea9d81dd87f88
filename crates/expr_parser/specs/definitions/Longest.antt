-- The longest run of tokens that begins an expression or a test, and the limits.
use Rattle.std.specs.Prelude.{◌≡◌, ℕ, ◌+◌, Bool, true, false, List, [], ◌∷◌, ◌++◌, length, drop}
use Rattle.sj_lexer.specs.declared.token.Token.{Token}
use Rattle.sj_ast.specs.declared.name.Name.{Name}
use Rattle.sj_ast.specs.declared.expression.Raw as raw
use Rattle.sj_ast.specs.declared.test.Test as signal_test
use Rattle.sj_grammar.specs.definitions.Expressions.{Expr, print, IsExpr}
use Rattle.sj_grammar.specs.definitions.Tests.{Test, print_test, IsTest}
use Rattle.sj_grammar.specs.definitions.Trees.{raw_of, test_of}
use Rattle.sj_grammar.specs.definitions.Sentences.{BeginExpression, BeginTest}
use Rattle.sj_grammar.specs.definitions.Counts.{AreWithin, IsOverBehind}
use Rattle.expr_parser.specs.declared.parse.ParseError.{ParseError}
use Rattle.expr_parser.specs.declared.parse.ParseError.TheVariants as error

-- the run begins a sentence, and with the token after it it begins none
pub record IsLongest (Begin : List Token → Type 0) (run rest : List Token) : Type 0 where
  pub begins : Begin run
  pub ends : (t : Token) (more : List Token) → rest ≡ t ∷ more → Begin (run ++ t ∷ []) → ⊥

-- the longest run is this expression
pub record IsExpression (source : List ℕ) (tokens : List Token) (depth : ℕ) (tree : raw.Raw Name)
    (run rest : List Token) : Type 0 where
  pub expr : Expr
  pub is_expr : IsExpr expr
  pub printed : print expr [] ≡ run
  pub stands : tree ≡ raw_of source expr
  pub is : tokens ≡ run ++ rest
  pub longest : IsLongest BeginExpression run rest
  pub within : AreWithin true depth 0 run rest

-- the longest run is this test
pub record IsSignalTest (source : List ℕ) (tokens : List Token) (depth : ℕ)
    (tree : signal_test.Test Name) (run rest : List Token) : Type 0 where
  pub test : Test
  pub is_test : IsTest test
  pub printed : print_test test [] ≡ run
  pub stands : tree ≡ test_of source test
  pub is : tokens ≡ run ++ rest
  pub longest : IsLongest BeginTest run rest
  pub within : AreWithin false depth 0 run rest

-- the longest run is no whole sentence
pub record IsRefused (Begin Are : List Token →
    Type 0) (casts : Bool) (tokens : List Token) (depth : ℕ) (run rest : List Token) : Type 0 where
  pub is : tokens ≡ run ++ rest
  pub longest : IsLongest Begin run rest
  pub none : Are run → ⊥
  pub within : AreWithin casts depth 0 run rest

-- the first token that is too deep, up to which the tokens begin a sentence
pub record IsTooDeep (Begin : List Token →
    Type 0) (casts : Bool) (tokens : List Token) (depth : ℕ) (run rest : List Token) : Type 0 where
  pub token : Token
  pub after : List Token
  pub at : rest ≡ token ∷ after
  pub is : tokens ≡ run ++ rest
  pub begins : Begin (run ++ token ∷ [])
  pub deep : IsOverBehind casts depth 0 run token after

-- where the first of these tokens stands, or the end of the source
abbrev pub place_of : List Token → ℕ → ℕ
place_of [] end_of_source = end_of_source
place_of (t ∷ ts) end_of_source = t.start

-- the expression from a token on, and the number of the token after it
pub record ReadsExpression (source : List ℕ) (tokens : List Token) (from depth : ℕ)
    (tree : raw.Raw Name) (number : ℕ) : Type 0 where
  pub run : List Token
  pub rest : List Token
  pub whole : IsExpression source (drop from tokens) depth tree run rest
  pub number_is : number ≡ from + length run

pub record ReadsTest (source : List ℕ) (tokens : List Token) (from depth : ℕ)
    (tree : signal_test.Test Name) (number : ℕ) : Type 0 where
  pub run : List Token
  pub rest : List Token
  pub whole : IsSignalTest source (drop from tokens) depth tree run rest
  pub number_is : number ≡ from + length run

pub record SyntaxAt (Begin Are : List Token →
    Type 0) (casts : Bool) (source : List ℕ) (tokens : List Token) (from depth place : ℕ) : Type 0
  where
    pub run : List Token
    pub rest : List Token
    pub refused : IsRefused Begin Are casts (drop from tokens) depth run rest
    pub place_is : place ≡ place_of (drop (from + length run) tokens) (length source)

pub record TooDeepAt (Begin : List Token →
    Type 0) (casts : Bool) (source : List ℕ) (tokens : List Token) (from depth place : ℕ) : Type 0
  where
    pub run : List Token
    pub rest : List Token
    pub refused : IsTooDeep Begin casts (drop from tokens) depth run rest
    pub place_is : place ≡ place_of (drop (from + length run) tokens) (length source)

-- want of memory may come at any place
abbrev pub FailsFrom : (Begin Are : List Token → Type 0) → Bool → List ℕ → List Token → ℕ → ℕ →
    ParseError → Type 0
FailsFrom Begin Are casts source tokens from depth (error.Syntax at) =
    SyntaxAt Begin Are casts source tokens from depth at
FailsFrom Begin Are casts source tokens from depth (error.TooDeep at) =
    TooDeepAt Begin casts source tokens from depth at
FailsFrom Begin Are casts source tokens from depth error.NoMemory = Unit {0}
