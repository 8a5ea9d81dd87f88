-- What the functions of the parser answer.
use Rattle.std.specs.Prelude.{◌≡◌, ℕ, ◌≤◌, ◌<◌, Bool, true, false, List, [], ◌∷◌, ◌++◌, Option, Some, None, length}
use Rattle.java_values.specs.declared.kind.Kind.{Kind}
use Rattle.java_values.specs.declared.op.Op2.{Op2}
use Rattle.sj_lexer.specs.declared.token.Class.{Class}
use Rattle.sj_lexer.specs.declared.token.Token.{Token}
use Rattle.sj_ast.specs.declared.name.Name.{Name}
use Rattle.sj_ast.specs.declared.expression.Raw as raw
use Rattle.sj_ast.specs.declared.test.Test as signal_test
use Rattle.sj_grammar.specs.declared.role.Join.{Join}
use Rattle.sj_grammar.specs.definitions.Classes.{same}
use Rattle.sj_grammar.specs.definitions.Roles.{is_edge, kind_of, infix_of, level_of, join_of, join_level, has}
use Rattle.sj_grammar.specs.definitions.Expressions.{Expr, print, level, IsExpr}
use Rattle.sj_grammar.specs.definitions.Tests.{Test, print_test, test_level, IsTest}
use Rattle.sj_grammar.specs.definitions.Trees.{raw_of, test_of, joined}
use Rattle.sj_grammar.specs.definitions.Machine.{Symbol, Operand, More, TestOperand, MoreTest}
use Rattle.sj_grammar.specs.definitions.Walks.{Outcome, Refused, TooDeep, walk}
use Rattle.expr_parser.specs.definitions.Longest.{IsExpression, IsSignalTest, IsRefused, IsTooDeep}
use Rattle.expr_parser.specs.declared.read.Stop.{Stop}
use Rattle.expr_parser.specs.declared.read.Stop.TheVariants as stop_at

-- the first of the tokens isn't of the class
pub record IsNotFirst (c : Class) (tokens : List Token) : Type 0 where
  pub none : (t : Token) (rest : List Token) → tokens ≡ t ∷ rest → same c t.class ≡ false

pub record NoFirstEdge (tokens : List Token) : Type 0 where
  pub none : (t : Token) (rest : List Token) → tokens ≡ t ∷ rest → is_edge t.class ≡ false

pub record NoFirstKind (tokens : List Token) : Type 0 where
  pub none : (t : Token) (rest : List Token) → tokens ≡ t ∷ rest → has (kind_of t.class) ≡ false

-- this is the first of them
pub record IsFirst (c : Class) (tokens : List Token) (token : Token) (rest : List Token) : Type 0
  where
    pub is : tokens ≡ token ∷ rest
    pub class_is : same c token.class ≡ true

pub record IsFirstEdge (tokens : List Token) (token : Token) (rest : List Token) : Type 0 where
  pub is : tokens ≡ token ∷ rest
  pub edge : is_edge token.class ≡ true

pub record IsFirstKind (tokens : List Token) (kind : Kind) (rest : List Token) : Type 0 where
  pub token : Token
  pub is : tokens ≡ token ∷ rest
  pub kind_is : kind_of token.class ≡ Some kind

abbrev pub operator_level : Option Op2 → ℕ
operator_level None = 0
operator_level (Some op) = level_of op

abbrev pub infix_level : List Token → ℕ
infix_level [] = 0
infix_level (t ∷ ts) = operator_level (infix_of t.class)

abbrev pub test_operator_level : Option Join → ℕ
test_operator_level None = 0
test_operator_level (Some join) = join_level join

abbrev pub join_level_of : List Token → ℕ
join_level_of [] = 0
join_level_of (t ∷ ts) = test_operator_level (join_of t.class)

abbrev pub Fails : Stop → Outcome → Type 0
Fails (stop_at.Syntax bad) w = w ≡ Refused bad.now
Fails (stop_at.TooDeep bad) w = w ≡ TooDeep bad.now
Fails stop_at.NoMemory w = Unit {0}

-- the reading of these symbols stops there, whatever is to come after them
pub record FailsAt (front : List Symbol) (tokens : List Token) (d n : ℕ) (stop : Stop) : Type 0
  where
    pub fails : (k : List Symbol) → Fails stop (walk (front ++ k) d n tokens)

-- the tokens are those of an operand and those after it, with so many operators then
pub record ReadsOperand (source : List ℕ) (tokens : List Token) (d n : ℕ) (tree : raw.Raw Name)
    (m : ℕ) (rest : List Token) : Type 0 where
  pub expr : Expr
  pub stands : tree ≡ raw_of source expr
  pub is_expr : IsExpr expr
  pub height : level expr ≡ 11
  pub printed : tokens ≡ print expr rest
  pub walks : (k : List Symbol) → walk (Operand ∷ k) d n tokens ≡ walk k d m rest
  pub shorter : length rest < length tokens

-- the same of an expression of at least a level, which an operator of at most its level may follow
pub record ReadsFront (source : List ℕ) (tokens : List Token) (d n least : ℕ) (tree : raw.Raw Name)
    (m : ℕ) (rest : List Token) : Type 0 where
  pub expr : Expr
  pub stands : tree ≡ raw_of source expr
  pub is_expr : IsExpr expr
  pub at_least : least ≤ level expr
  pub printed : tokens ≡ print expr rest
  pub walks : (k : List Symbol) → walk (Operand ∷ More ∷ k) d n tokens ≡ walk (More ∷ k) d m rest
  pub shorter : length rest < length tokens
  pub next : infix_level rest ≤ level expr

-- the same of an expression, which no operator of at least the level follows
pub record ReadsFrom (source : List ℕ) (tokens : List Token) (d n least : ℕ) (tree : raw.Raw Name)
    (m : ℕ) (rest : List Token) : Type 0 where
  pub front : ReadsFront source tokens d n least tree m rest
  pub ends : infix_level rest < least

-- one operator and operand more
pub record Grows (source : List ℕ) (tokens : List Token) (d n : ℕ) (old new : raw.Raw Name) (m : ℕ)
    (rest : List Token) : Type 0 where
  pub op : Op2
  pub token : Token
  pub right : Expr
  pub op_is : infix_of token.class ≡ Some op
  pub right_is : IsExpr right
  pub higher : level_of op < level right
  pub stands : new ≡ raw.Binary token.start op old (raw_of source right)
  pub printed : tokens ≡ token ∷ print right rest
  pub walks : (k : List Symbol) → walk (More ∷ k) d n tokens ≡ walk (More ∷ k) d m rest
  pub shorter : length rest < length tokens
  pub next : infix_level rest ≤ level_of op

-- the same of tests
pub record ReadsTestOperand (source : List ℕ) (tokens : List Token) (d n : ℕ)
    (tree : signal_test.Test Name) (m : ℕ) (rest : List Token) : Type 0 where
  pub test : Test
  pub stands : tree ≡ test_of source test
  pub is_test : IsTest test
  pub height : test_level test ≡ 3
  pub printed : tokens ≡ print_test test rest
  pub walks : (k : List Symbol) → walk (TestOperand ∷ k) d n tokens ≡ walk k d m rest
  pub shorter : length rest < length tokens

pub record ReadsTestFront (source : List ℕ) (tokens : List Token) (d n least : ℕ)
    (tree : signal_test.Test Name) (m : ℕ) (rest : List Token) : Type 0 where
  pub test : Test
  pub stands : tree ≡ test_of source test
  pub is_test : IsTest test
  pub at_least : least ≤ test_level test
  pub printed : tokens ≡ print_test test rest
  pub walks : (k : List Symbol) →
      walk (TestOperand ∷ MoreTest ∷ k) d n tokens ≡ walk (MoreTest ∷ k) d m rest
  pub shorter : length rest < length tokens
  pub next : join_level_of rest ≤ test_level test

pub record ReadsTestFrom (source : List ℕ) (tokens : List Token) (d n least : ℕ)
    (tree : signal_test.Test Name) (m : ℕ) (rest : List Token) : Type 0 where
  pub front : ReadsTestFront source tokens d n least tree m rest
  pub ends : join_level_of rest < least

pub record TestGrows (source : List ℕ) (tokens : List Token) (d n : ℕ)
    (old new : signal_test.Test Name) (m : ℕ) (rest : List Token) : Type 0 where
  pub join : Join
  pub token : Token
  pub right : Test
  pub join_is : join_of token.class ≡ Some join
  pub right_is : IsTest right
  pub higher : join_level join < test_level right
  pub stands : new ≡ joined join token.start old (test_of source right)
  pub printed : tokens ≡ token ∷ print_test right rest
  pub walks : (k : List Symbol) → walk (MoreTest ∷ k) d n tokens ≡ walk (MoreTest ∷ k) d m rest
  pub shorter : length rest < length tokens
  pub next : join_level_of rest ≤ join_level join

-- an answer of the longest run, whichever it is
pub record ExpressionBefore (source : List ℕ) (tokens : List Token) (depth : ℕ)
    (tree : raw.Raw Name) (rest : List Token) : Type 0 where
  pub run : List Token
  pub whole : IsExpression source tokens depth tree run rest

pub record TestBefore (source : List ℕ) (tokens : List Token) (depth : ℕ)
    (tree : signal_test.Test Name) (rest : List Token) : Type 0 where
  pub run : List Token
  pub whole : IsSignalTest source tokens depth tree run rest

pub record RefusedBefore (Begin Are : List Token →
    Type 0) (casts : Bool) (tokens : List Token) (depth : ℕ) (rest : List Token) : Type 0 where
  pub run : List Token
  pub refused : IsRefused Begin Are casts tokens depth run rest

pub record TooDeepBefore (Begin : List Token →
    Type 0) (casts : Bool) (tokens : List Token) (depth : ℕ) (rest : List Token) : Type 0 where
  pub run : List Token
  pub refused : IsTooDeep Begin casts tokens depth run rest

-- where the longest run stops
abbrev pub Stops : (Begin Are : List Token → Type 0) → Bool → List Token → ℕ → Stop → Type 0
Stops Begin Are casts tokens depth (stop_at.Syntax bad) =
    RefusedBefore Begin Are casts tokens depth bad.now
Stops Begin Are casts tokens depth (stop_at.TooDeep bad) =
    TooDeepBefore Begin casts tokens depth bad.now
Stops Begin Are casts tokens depth stop_at.NoMemory = Unit {0}
