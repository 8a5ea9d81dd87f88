-- What the functions of the parser answer.
use Rattle.std.specs.Prelude.{◌≡◌, ℕ, ◌+◌, ◌≤◌, ◌<◌, Bool, true, false, ◌||◌, List, [], ◌∷◌, ◌++◌, Option, Some, length}
use Rattle.sj_lexer.specs.declared.token.Class.{Class}
use Rattle.sj_lexer.specs.declared.token.Class.TheVariants.{Reserved, Name, Mark}
use Rattle.sj_lexer.specs.declared.token.Mark as sign
use Rattle.sj_lexer.specs.declared.token.Mark.TheVariants as mark
use Rattle.sj_lexer.specs.declared.token.Word.TheVariants as word
use Rattle.sj_lexer.specs.declared.token.Token.{Token}
use Rattle.java_values.specs.declared.kind.Kind.{Kind}
use Rattle.java_values.specs.declared.op.Op2.{Op2}
use Rattle.sj_ast.specs.declared.name.Name as ast_name
use Rattle.sj_ast.specs.declared.expression.Raw as raw
use Rattle.sj_ast.specs.declared.test.Test as signal_test
use Rattle.sj_ast.specs.declared.port.Combination.{Combination}
use Rattle.sj_ast.specs.declared.port.CombineOperator.{CombineOperator}
use Rattle.sj_ast.specs.declared.port.Signal.{Signal}
use Rattle.sj_ast.specs.declared.port.Port as port
use Rattle.sj_ast.specs.declared.statement.Tree.{Tree}
use Rattle.sj_grammar.specs.declared.role.Start.{Start}
use Rattle.sj_grammar.specs.declared.role.Start.TheVariants as start
use Rattle.sj_grammar.specs.definitions.Roles.{start_of, assign_of, combine_of, direction_of, kind_of, has}
use Rattle.sj_grammar.specs.definitions.Expressions.{Expr, print, IsExpr, IsMark, IsWord, IsName}
use Rattle.sj_grammar.specs.definitions.Tests.{Test, print_test, IsTest}
use Rattle.sj_grammar.specs.definitions.Statements.{Declared, print_declared, IsDeclared, Given, print_given, IsGiven, Guard, print_guard, IsGuard, Combined, print_combined, IsCombined, Stmt, Stmts, Block, Other, Others, print_stmt, print_stmts, print_block, print_other, print_others, IsStmt, IsStmts, IsBlock, IsOther, IsOthers}
use Rattle.sj_grammar.specs.definitions.Programs.{Port, Ports, Program, print_port, print_ports, print_program, IsPort, IsPorts, IsProgram}
use Rattle.sj_grammar.specs.definitions.Trees.{name_of, raw_of, test_of, value_of, is_at_once, guard_test, combination_of, signal_of, SourceStmt, SourceBlock, stmt_of, stmts_of, block_of, other_of, others_of, port_of, ports_of, tree_of}
use Rattle.sj_grammar.specs.definitions.Machine.{Symbol, T, Operand, More, TestOperand, MoreTest, ImmediatePart, InBraces, Statements, OthersPart, ElsePart, ValuePart, AssignSign, AfterKind, CombinePart, CombineSign, PortList, SignalPart, program}
use Rattle.sj_grammar.specs.definitions.Walks.{walk}
use Rattle.expr_parser.specs.declared.read.Stop.{Stop}
use Rattle.expr_parser.specs.declared.read.Stop.TheVariants as stop_at
use Rattle.expr_parser.specs.Reading.{IsFirst, Fails}
use Rattle.stmt_parser.specs.definitions.Parsing.{IsRefused, IsTooDeep}

-- whatever is to come after them, these symbols are read up to the rest, with so many levels and operators before and after
pub record Goes (front : List Symbol) (ts : List Token) (d n : ℕ) (rest : List Token) (e m : ℕ) :
    Type 0 where
  pub goes : (k : List Symbol) → walk (front ++ k) d n ts ≡ walk k e m rest

-- the first token isn't of the class, which is where the reading stops
pub record Lacks (c : Class) (ts : List Token) (s : Stop) : Type 0 where
  pub fails : (k : List Symbol) (d n : ℕ) → Fails s (walk (T c ∷ k) d n ts)

-- what follows the first token of a statement that isn't a block
abbrev pub tail_of : Start → List Symbol
tail_of start.Empty = []
tail_of start.Braces = []
tail_of start.Still = T (Mark mark.Semicolon) ∷ []
tail_of start.Emit = T Name ∷ ValuePart ∷ T (Mark mark.Semicolon) ∷ []
tail_of start.Signal = T Name ∷ T (Mark mark.Semicolon) ∷ []
tail_of (start.Kind kind) = AfterKind ∷ []
tail_of start.Name = AssignSign ∷ Operand ∷ More ∷ T (Mark mark.Semicolon) ∷ []
tail_of start.If =
    T (Mark mark.OpenParen) ∷ Operand ∷ More ∷ T (Mark mark.CloseParen) ∷ InBraces ∷ ElsePart ∷ []
tail_of start.Present =
    T (Mark mark.OpenParen) ∷ TestOperand ∷ MoreTest ∷ T (Mark mark.CloseParen) ∷ InBraces ∷
    ElsePart ∷ []
tail_of start.While =
    T (Mark mark.OpenParen) ∷ T (Reserved word.True) ∷ T (Mark mark.CloseParen) ∷ InBraces ∷ []
tail_of start.Weak =
    T (Reserved word.Abort) ∷ T (Mark mark.OpenParen) ∷ ImmediatePart ∷ TestOperand ∷ MoreTest ∷
    T (Mark mark.CloseParen) ∷ InBraces ∷ []
tail_of start.Guarded =
    T (Mark mark.OpenParen) ∷ ImmediatePart ∷ TestOperand ∷ MoreTest ∷ T (Mark mark.CloseParen) ∷
    InBraces ∷ []
tail_of start.Trap = T (Mark mark.OpenParen) ∷ T Name ∷ T (Mark mark.CloseParen) ∷ InBraces ∷ []
tail_of start.Exit =
    T (Mark mark.OpenParen) ∷ T Name ∷ T (Mark mark.CloseParen) ∷ T (Mark mark.Semicolon) ∷ []
tail_of start.Send =
    T Name ∷ T (Mark mark.OpenParen) ∷ Operand ∷ More ∷ T (Mark mark.CloseParen) ∷
    T (Mark mark.Semicolon) ∷ []
tail_of start.Receive = T Name ∷ T (Mark mark.Semicolon) ∷ []
tail_of start.Await =
    T (Mark mark.OpenParen) ∷ ImmediatePart ∷ TestOperand ∷ MoreTest ∷ T (Mark mark.CloseParen) ∷
    T (Mark mark.Semicolon) ∷ []
tail_of start.Loop =
    InBraces ∷ T (Reserved word.Each) ∷ T (Mark mark.OpenParen) ∷ TestOperand ∷ MoreTest ∷
    T (Mark mark.CloseParen) ∷ T (Mark mark.Semicolon) ∷ []
tail_of start.Nothing = []

-- NAME
pub record ReadsName (source : List ℕ) (ts : List Token) (name : ast_name.Name) (rest : List Token)
    : Type 0 where
  pub token : Token
  pub first : IsFirst Name ts token rest
  pub stands : name ≡ name_of source token

-- `(` NAME `)`
pub record ReadsNamed (source : List ℕ) (ts : List Token) (d : ℕ) (name : ast_name.Name)
    (rest : List Token) : Type 0 where
  pub open_paren : Token
  pub token : Token
  pub close_paren : Token
  pub opens : IsMark mark.OpenParen open_paren
  pub named : IsName token
  pub closes : IsMark mark.CloseParen close_paren
  pub stands : name ≡ name_of source token
  pub printed : ts ≡ open_paren ∷ token ∷ close_paren ∷ rest
  pub goes : Goes (T (Mark mark.OpenParen) ∷ T Name ∷ T (Mark mark.CloseParen) ∷ []) ts d 0 rest d 0

-- NAME `;`
pub record ReadsNameEnd (source : List ℕ) (ts : List Token) (d : ℕ) (name : ast_name.Name)
    (rest : List Token) : Type 0 where
  pub token : Token
  pub semicolon : Token
  pub named : IsName token
  pub ends : IsMark mark.Semicolon semicolon
  pub stands : name ≡ name_of source token
  pub printed : ts ≡ token ∷ semicolon ∷ rest
  pub goes : Goes (T Name ∷ T (Mark mark.Semicolon) ∷ []) ts d 0 rest d 0

-- the sign of a combination
pub record ReadsCombineSign (ts : List Token) (d : ℕ) (op : CombineOperator) (at : ℕ)
    (rest : List Token) : Type 0 where
  pub token : Token
  pub sign_is : combine_of token.class ≡ Some op
  pub place : at ≡ token.start
  pub printed : ts ≡ token ∷ rest
  pub after : ℕ
  pub goes : Goes (CombineSign ∷ []) ts d 0 rest d after

-- the sign of an assignment
pub record ReadsAssignSign (ts : List Token) (d : ℕ) (op : Option Op2) (at : ℕ) (rest : List Token)
    : Type 0 where
  pub token : Token
  pub sign_is : assign_of token.class ≡ Some op
  pub place : at ≡ token.start
  pub printed : ts ≡ token ∷ rest
  pub goes : Goes (AssignSign ∷ []) ts d 0 rest d 0

-- an expression, which no operator follows
pub record ReadsValue (source : List ℕ) (ts : List Token) (d : ℕ) (tree : raw.Raw ast_name.Name)
    (rest : List Token) : Type 0 where
  pub expr : Expr
  pub is_expr : IsExpr expr
  pub stands : tree ≡ raw_of source expr
  pub printed : ts ≡ print expr rest
  pub after : ℕ
  pub goes : Goes (Operand ∷ More ∷ []) ts d 0 rest d after
  pub shorter : length rest < length ts

-- a test, which no operator follows
pub record ReadsTest (source : List ℕ) (ts : List Token) (d : ℕ)
    (tree : signal_test.Test ast_name.Name) (rest : List Token) : Type 0 where
  pub test : Test
  pub is_test : IsTest test
  pub stands : tree ≡ test_of source test
  pub printed : ts ≡ print_test test rest
  pub after : ℕ
  pub goes : Goes (TestOperand ∷ MoreTest ∷ []) ts d 0 rest d after
  pub shorter : length rest < length ts

-- an expression and `)`, one level deeper
pub record ReadsClosed (source : List ℕ) (ts : List Token) (d : ℕ) (tree : raw.Raw ast_name.Name)
    (rest : List Token) : Type 0 where
  pub expr : Expr
  pub close_paren : Token
  pub is_expr : IsExpr expr
  pub closes : IsMark mark.CloseParen close_paren
  pub stands : tree ≡ raw_of source expr
  pub printed : ts ≡ print expr (close_paren ∷ rest)
  pub after : ℕ
  pub goes : Goes (Operand ∷ More ∷ T (Mark mark.CloseParen) ∷ []) ts (d + 1) 0 rest d after
  pub shorter : length rest < length ts

-- a test and `)`, one level deeper
pub record ReadsClosedTest (source : List ℕ) (ts : List Token) (d : ℕ)
    (tree : signal_test.Test ast_name.Name) (rest : List Token) : Type 0 where
  pub test : Test
  pub close_paren : Token
  pub is_test : IsTest test
  pub closes : IsMark mark.CloseParen close_paren
  pub stands : tree ≡ test_of source test
  pub printed : ts ≡ print_test test (close_paren ∷ rest)
  pub after : ℕ
  pub goes : Goes (TestOperand ∷ MoreTest ∷ T (Mark mark.CloseParen) ∷ []) ts (d + 1) 0 rest d after
  pub shorter : length rest < length ts

-- `(` expression `)`
pub record ReadsParens (source : List ℕ) (ts : List Token) (d : ℕ) (tree : raw.Raw ast_name.Name)
    (rest : List Token) : Type 0 where
  pub open_paren : Token
  pub expr : Expr
  pub close_paren : Token
  pub opens : IsMark mark.OpenParen open_paren
  pub is_expr : IsExpr expr
  pub closes : IsMark mark.CloseParen close_paren
  pub stands : tree ≡ raw_of source expr
  pub printed : ts ≡ open_paren ∷ print expr (close_paren ∷ rest)
  pub after : ℕ
  pub goes : Goes (T (Mark mark.OpenParen) ∷ Operand ∷ More ∷ T (Mark mark.CloseParen) ∷
      []) ts d 0 rest d after
  pub shorter : length rest < length ts

-- `(` test `)`
pub record ReadsTestParens (source : List ℕ) (ts : List Token) (d : ℕ)
    (tree : signal_test.Test ast_name.Name) (rest : List Token) : Type 0 where
  pub open_paren : Token
  pub test : Test
  pub close_paren : Token
  pub opens : IsMark mark.OpenParen open_paren
  pub is_test : IsTest test
  pub closes : IsMark mark.CloseParen close_paren
  pub stands : tree ≡ test_of source test
  pub printed : ts ≡ open_paren ∷ print_test test (close_paren ∷ rest)
  pub after : ℕ
  pub goes : Goes (T (Mark mark.OpenParen) ∷ TestOperand ∷ MoreTest ∷ T (Mark mark.CloseParen) ∷
      []) ts d 0 rest d after
  pub shorter : length rest < length ts

-- `(` [ `immediate` ] test `)`
pub record ReadsGuard (source : List ℕ) (ts : List Token) (d : ℕ) (at_once : Bool)
    (tree : signal_test.Test ast_name.Name) (rest : List Token) : Type 0 where
  pub guard : Guard
  pub is_guard : IsGuard guard
  pub once : at_once ≡ is_at_once guard
  pub stands : tree ≡ guard_test source guard
  pub printed : ts ≡ print_guard guard rest
  pub after : ℕ
  pub goes : Goes (T (Mark mark.OpenParen) ∷ ImmediatePart ∷ TestOperand ∷ MoreTest ∷
      T (Mark mark.CloseParen) ∷ []) ts d 0 rest d after
  pub shorter : length rest < length ts

-- `(` `true` `)`
pub record ReadsTrue (ts : List Token) (d : ℕ) (rest : List Token) : Type 0 where
  pub open_paren : Token
  pub truth : Token
  pub close_paren : Token
  pub opens : IsMark mark.OpenParen open_paren
  pub holds : IsWord word.True truth
  pub closes : IsMark mark.CloseParen close_paren
  pub printed : ts ≡ open_paren ∷ truth ∷ close_paren ∷ rest
  pub goes : Goes (T (Mark mark.OpenParen) ∷ T (Reserved word.True) ∷ T (Mark mark.CloseParen) ∷
      []) ts d 0 rest d 0

-- [ `(` expression `)` ]
pub record ReadsGiven (source : List ℕ) (ts : List Token) (d : ℕ)
    (found : Option (raw.Raw ast_name.Name)) (rest : List Token) : Type 0 where
  pub given : Given
  pub is_given : IsGiven given
  pub stands : found ≡ value_of source given
  pub printed : ts ≡ print_given given rest
  pub after : ℕ
  pub goes : Goes (ValuePart ∷ []) ts d 0 rest d after
  pub no_longer : length rest ≤ length ts

-- the symbol stands for no token there
pub record Skips (s : Symbol) (ts : List Token) : Type 0 where
  pub skips : (k : List Symbol) (d n : ℕ) → walk (s ∷ k) d n ts ≡ walk k d n ts

-- [ `combine` operator ]
pub record ReadsCombined (ts : List Token) (d : ℕ) (found : Option Combination) (rest : List Token)
    : Type 0 where
  pub combined : Combined
  pub is_combined : IsCombined combined
  pub stands : found ≡ combination_of combined
  pub printed : ts ≡ print_combined combined rest
  pub after : ℕ
  pub goes : Goes (CombinePart ∷ []) ts d 0 rest d after
  pub no_longer : length rest ≤ length ts

-- NAME [ `combine` operator ] `;`, behind a kind and `signal`
pub record ReadsValued (source : List ℕ) (kind : Kind) (ts : List Token) (d : ℕ)
    (signal : Signal ast_name.Name) (rest : List Token) : Type 0 where
  pub token : Token
  pub combined : Combined
  pub semicolon : Token
  pub named : IsName token
  pub is_combined : IsCombined combined
  pub ends : IsMark mark.Semicolon semicolon
  pub stands : signal ≡
      record {
        at = token.start;
        name = name_of source token;
        valued = Some (record { kind = kind; combine = combination_of combined });
      }
  pub printed : ts ≡ token ∷ print_combined combined (semicolon ∷ rest)
  pub goes : Goes (T Name ∷ CombinePart ∷ T (Mark mark.Semicolon) ∷ []) ts d 0 rest d 0
  pub no_longer : length rest ≤ length ts

-- a statement behind its first token
pub record ReadsForm (source : List ℕ) (first : Token) (s : Start) (ts : List Token) (d : ℕ)
    (tree : SourceStmt) (rest : List Token) : Type 0 where
  pub stmt : Stmt
  pub is_stmt : IsStmt stmt
  pub stands : tree ≡ stmt_of source stmt
  pub printed : first ∷ ts ≡ print_stmt stmt rest
  pub goes : Goes (tail_of s) ts d 0 rest d 0
  pub no_longer : length rest ≤ length ts

abbrev pub is_start : Start → Bool
is_start start.Nothing = false
is_start _ = true

-- a statement that isn't a block begins so
abbrev pub is_form : Start → Bool
is_form start.Nothing = false
is_form start.Braces = false
is_form _ = true

abbrev pub begins_statement : List Token → Bool
begins_statement [] = false
begins_statement (t ∷ ts) = is_start (start_of t.class)

pub record ReadsStmt (source : List ℕ) (ts : List Token) (d : ℕ) (tree : SourceStmt)
    (rest : List Token) : Type 0 where
  pub stmt : Stmt
  pub is_stmt : IsStmt stmt
  pub stands : tree ≡ stmt_of source stmt
  pub printed : ts ≡ print_stmt stmt rest
  pub walks : (k : List Symbol) → walk (Statements ∷ k) d 0 ts ≡ walk (Statements ∷ k) d 0 rest
  pub shorter : length rest < length ts

-- statements one after another, at the level in the block
pub record ReadsStmts (source : List ℕ) (ts : List Token) (d : ℕ) (trees : List SourceStmt)
    (rest : List Token) : Type 0 where
  pub stmts : Stmts
  pub are_stmts : IsStmts stmts
  pub stands : trees ≡ stmts_of source stmts
  pub printed : ts ≡ print_stmts stmts rest
  pub walks : (k : List Symbol) → walk (Statements ∷ k) d 0 ts ≡ walk (Statements ∷ k) d 0 rest
  pub no_longer : length rest ≤ length ts

-- a block behind its `{`
pub record ReadsInside (source : List ℕ) (ts : List Token) (d : ℕ) (trees : List SourceStmt)
    (rest : List Token) : Type 0 where
  pub stmts : Stmts
  pub close_brace : Token
  pub are_stmts : IsStmts stmts
  pub closes : IsMark mark.CloseBrace close_brace
  pub stands : trees ≡ stmts_of source stmts
  pub printed : ts ≡ print_stmts stmts (close_brace ∷ rest)
  pub goes : Goes (Statements ∷ T (Mark mark.CloseBrace) ∷ []) ts (d + 1) 0 rest d 0
  pub shorter : length rest < length ts

pub record ReadsBraces (source : List ℕ) (ts : List Token) (d : ℕ) (tree : SourceBlock)
    (rest : List Token) : Type 0 where
  pub block : Block
  pub is_block : IsBlock block
  pub stands : tree ≡ block_of source block
  pub printed : ts ≡ print_block block rest
  pub walks : (k : List Symbol) (m : ℕ) → walk (InBraces ∷ k) d m ts ≡ walk k d 0 rest
  pub shorter : length rest < length ts

pub record FailsBraces (ts : List Token) (d : ℕ) (s : Stop) : Type 0 where
  pub fails : (k : List Symbol) (m : ℕ) → Fails s (walk (InBraces ∷ k) d m ts)

pub record ReadsOther (source : List ℕ) (ts : List Token) (d : ℕ) (found : Option SourceBlock)
    (rest : List Token) : Type 0 where
  pub other : Other
  pub is_other : IsOther other
  pub stands : found ≡ other_of source other
  pub printed : ts ≡ print_other other rest
  pub goes : Goes (ElsePart ∷ []) ts d 0 rest d 0
  pub no_longer : length rest ≤ length ts

pub record ReadsOthers (source : List ℕ) (ts : List Token) (m : sign.Mark) (d : ℕ)
    (trees : List SourceBlock) (rest : List Token) : Type 0 where
  pub others : Others
  pub are_others : IsOthers m others
  pub stands : trees ≡ others_of source others
  pub printed : ts ≡ print_others others rest
  pub goes : Goes (OthersPart m ∷ []) ts d 0 rest d 0
  pub no_longer : length rest ≤ length ts

-- `||` within a block, and `><` between domains
abbrev pub is_between : sign.Mark → Bool
is_between mark.Either = true
is_between mark.Beside = true
is_between _ = false

-- further blocks so far
pub record ReadsBeside (source : List ℕ) (ts : List Token) (m : sign.Mark) (d : ℕ)
    (trees : List SourceBlock) (rest : List Token) : Type 0 where
  pub others : Others
  pub are_others : IsOthers m others
  pub stands : trees ≡ others_of source others
  pub printed : ts ≡ print_others others rest
  pub walks : (k : List Symbol) → walk (OthersPart m ∷ k) d 0 ts ≡ walk (OthersPart m ∷ k) d 0 rest
  pub no_longer : length rest ≤ length ts

abbrev pub begins_port : List Token → Bool
begins_port [] = false
begins_port (t ∷ ts) = has (direction_of t.class) || has (kind_of t.class)

-- a signal's declaration
pub record ReadsDeclared (source : List ℕ) (ts : List Token) (d : ℕ) (signal : Signal ast_name.Name)
    (rest : List Token) : Type 0 where
  pub declared : Declared
  pub is_declared : IsDeclared declared
  pub stands : signal ≡ signal_of source declared
  pub printed : ts ≡ print_declared declared rest
  pub goes : Goes (SignalPart ∷ []) ts d 0 rest d 0
  pub shorter : length rest < length ts

pub record ReadsPort (source : List ℕ) (ts : List Token) (d : ℕ) (tree : port.Port ast_name.Name)
    (rest : List Token) : Type 0 where
  pub port : Port
  pub is_port : IsPort port
  pub stands : tree ≡ port_of source port
  pub printed : ts ≡ print_port port rest
  pub walks : (k : List Symbol) → walk (PortList ∷ k) d 0 ts ≡ walk (PortList ∷ k) d 0 rest
  pub shorter : length rest < length ts

-- ports so far
pub record ReadsPortsSoFar (source : List ℕ) (ts : List Token) (d : ℕ)
    (trees : List (port.Port ast_name.Name)) (rest : List Token) : Type 0 where
  pub ports : Ports
  pub are_ports : IsPorts ports
  pub stands : trees ≡ ports_of source ports
  pub printed : ts ≡ print_ports ports rest
  pub walks : (k : List Symbol) → walk (PortList ∷ k) d 0 ts ≡ walk (PortList ∷ k) d 0 rest
  pub no_longer : length rest ≤ length ts

-- ports, which no port follows
pub record ReadsPorts (source : List ℕ) (ts : List Token) (d : ℕ)
    (trees : List (port.Port ast_name.Name)) (rest : List Token) : Type 0 where
  pub front : ReadsPortsSoFar source ts d trees rest
  pub skips : Skips PortList rest

-- `system` `{` `interface` `{` { port } `}`
pub record ReadsInterface (source : List ℕ) (ts : List Token)
    (trees : List (port.Port ast_name.Name)) (rest : List Token) : Type 0 where
  pub system : Token
  pub open_system : Token
  pub interface : Token
  pub open_ports : Token
  pub ports : Ports
  pub close_ports : Token
  pub is_system : IsWord word.System system
  pub opens_system : IsMark mark.OpenBrace open_system
  pub is_interface : IsWord word.Interface interface
  pub opens_ports : IsMark mark.OpenBrace open_ports
  pub are_ports : IsPorts ports
  pub closes_ports : IsMark mark.CloseBrace close_ports
  pub stands : trees ≡ ports_of source ports
  pub printed : ts ≡
      system ∷ open_system ∷ interface ∷ open_ports ∷ print_ports ports (close_ports ∷ rest)
  pub goes : Goes (T (Reserved word.System) ∷ T (Mark mark.OpenBrace) ∷
      T (Reserved word.Interface) ∷ T (Mark mark.OpenBrace) ∷ PortList ∷ T (Mark mark.CloseBrace) ∷
      []) ts 0 0 rest 1 0

-- block { `><` block } `}`
pub record ReadsDomains (source : List ℕ) (ts : List Token) (trees : List SourceBlock)
    (rest : List Token) : Type 0 where
  pub first : Block
  pub others : Others
  pub close_system : Token
  pub is_first : IsBlock first
  pub are_others : IsOthers mark.Beside others
  pub closes_system : IsMark mark.CloseBrace close_system
  pub stands : trees ≡ block_of source first ∷ others_of source others
  pub printed : ts ≡ print_block first (print_others others (close_system ∷ rest))
  pub goes : Goes (InBraces ∷ OthersPart mark.Beside ∷ T (Mark mark.CloseBrace) ∷
      []) ts 1 0 rest 0 0

pub record ReadsProgram (source : List ℕ) (ts : List Token)
    (tree : Tree ast_name.Name (raw.Raw ast_name.Name)) (rest : List Token) : Type 0 where
  pub tree_is : Program
  pub is_program : IsProgram tree_is
  pub stands : tree ≡ tree_of source tree_is
  pub printed : ts ≡ print_program tree_is rest
  pub goes : Goes program ts 0 0 rest 0 0

pub record RefusedBefore (tokens rest : List Token) : Type 0 where
  pub run : List Token
  pub refused : IsRefused tokens run rest

pub record TooDeepBefore (tokens rest : List Token) : Type 0 where
  pub run : List Token
  pub refused : IsTooDeep tokens run rest

-- where the longest run stops
abbrev pub Stops : List Token → Stop → Type 0
Stops tokens (stop_at.Syntax bad) = RefusedBefore tokens bad.now
Stops tokens (stop_at.TooDeep bad) = TooDeepBefore tokens bad.now
Stops tokens stop_at.NoMemory = Unit {0}
