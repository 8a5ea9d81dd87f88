-- The grammar of statements, as the tokens of each tree.
use Rattle.std.specs.Prelude.{◌≡◌, true, List, ◌∷◌, Option, Some}
use Rattle.java_values.specs.declared.kind.Kind.{Kind}
use Rattle.java_values.specs.declared.op.Op2.{Op2}
use Rattle.sj_ast.specs.declared.port.CombineOperator.{CombineOperator}
use Rattle.sj_lexer.specs.declared.token.Mark as sign
use Rattle.sj_lexer.specs.declared.token.Mark.TheVariants as mark
use Rattle.sj_lexer.specs.declared.token.Word.TheVariants as word
use Rattle.sj_lexer.specs.declared.token.Token.{Token}
use Rattle.sj_grammar.specs.definitions.Roles.{kind_of, assign_of, combine_of, is_still, is_emission, is_guarded}
use Rattle.sj_grammar.specs.definitions.Expressions.{Expr, print, IsMark, IsWord, IsName, IsExpr}
use Rattle.sj_grammar.specs.definitions.Tests.{Test, print_test, IsTest}

-- [ `(` expression `)` ]
pub data Given : Type 0 where
  NoValue : Given
  Value : (open_paren : Token) (value : Expr) (close_paren : Token) → Given

abbrev pub print_given : Given → List Token → List Token
print_given NoValue after = after
print_given (Value o e c) after = o ∷ print e (c ∷ after)

abbrev pub IsGiven : Given → Type 0
IsGiven NoValue = Unit {0}
IsGiven (Value o e c) = IsMark mark.OpenParen o × IsExpr e × IsMark mark.CloseParen c

-- `(` [ `immediate` ] test `)`
pub data Guard : Type 0 where
  Later : (open_paren : Token) (test : Test) (close_paren : Token) → Guard
  AtOnce : (open_paren immediate : Token) (test : Test) (close_paren : Token) → Guard

abbrev pub print_guard : Guard → List Token → List Token
print_guard (Later o t c) after = o ∷ print_test t (c ∷ after)
print_guard (AtOnce o i t c) after = o ∷ i ∷ print_test t (c ∷ after)

abbrev pub IsGuard : Guard → Type 0
IsGuard (Later o t c) = IsMark mark.OpenParen o × IsTest t × IsMark mark.CloseParen c
IsGuard (AtOnce o i t c) =
    IsMark mark.OpenParen o × IsWord word.Immediate i × IsTest t × IsMark mark.CloseParen c

-- [ `combine` operator ]
pub data Combined : Type 0 where
  NotCombined : Combined
  CombinedBy : (operator : CombineOperator) (keyword token : Token) → Combined

abbrev pub print_combined : Combined → List Token → List Token
print_combined NotCombined after = after
print_combined (CombinedBy op w t) after = w ∷ t ∷ after

abbrev pub IsCombined : Combined → Type 0
IsCombined NotCombined = Unit {0}
IsCombined (CombinedBy op w t) = IsWord word.Combine w × (combine_of t.class ≡ Some op)

-- `signal` NAME `;` | kind `signal` NAME [ `combine` operator ] `;`
pub data Declared : Type 0 where
  Pure : (keyword name semicolon : Token) → Declared
  Valued : (kind : Kind) (kind_word keyword name : Token) (combined : Combined) (semicolon : Token)
      → Declared

abbrev pub print_declared : Declared → List Token → List Token
print_declared (Pure w n s) after = w ∷ n ∷ s ∷ after
print_declared (Valued k v w n c s) after = v ∷ w ∷ n ∷ print_combined c (s ∷ after)

abbrev pub IsDeclared : Declared → Type 0
IsDeclared (Pure w n s) = IsWord word.Signal w × IsName n × IsMark mark.Semicolon s
IsDeclared (Valued k v w n c s) =
    (kind_of v.class ≡ Some k) × IsWord word.Signal w × IsName n × IsCombined c ×
    IsMark mark.Semicolon s

mutual
  pub data Stmt : Type 0 where
    EmptyStmt : (semicolon : Token) → Stmt
    ParStmt : (first : Block) (others : Others) → Stmt
    StillStmt : (keyword semicolon : Token) → Stmt
    EmitStmt : (keyword name : Token) (given : Given) (semicolon : Token) → Stmt
    SignalStmt : (signal : Declared) → Stmt
    VariableStmt : (kind : Kind) (kind_word name token : Token) (value : Expr) (semicolon : Token) →
        Stmt
    AssignStmt : (op : Option Op2) (name token : Token) (value : Expr) (semicolon : Token) → Stmt
    IfStmt : (keyword open_paren : Token) (value : Expr) (close_paren : Token) (body : Block)
        (other : Other) → Stmt
    PresentStmt : (keyword open_paren : Token) (test : Test) (close_paren : Token) (body : Block)
        (other : Other) → Stmt
    WhileStmt : (keyword open_paren truth close_paren : Token) (body : Block) → Stmt
    GuardedStmt : (keyword : Token) (guard : Guard) (body : Block) → Stmt
    WeakStmt : (weak keyword : Token) (guard : Guard) (body : Block) → Stmt
    TrapStmt : (keyword open_paren name close_paren : Token) (body : Block) → Stmt
    ExitStmt : (keyword open_paren name close_paren semicolon : Token) → Stmt
    SendStmt : (keyword name open_paren : Token) (value : Expr) (close_paren semicolon : Token) →
        Stmt
    ReceiveStmt : (keyword name semicolon : Token) → Stmt
    AwaitStmt : (keyword : Token) (guard : Guard) (semicolon : Token) → Stmt
    LoopStmt : (keyword : Token) (body : Block) (each open_paren : Token) (test : Test)
        (close_paren semicolon : Token) → Stmt

  pub data Stmts : Type 0 where
    Done : Stmts
    Then : (first : Stmt) (rest : Stmts) → Stmts

  pub data Block : Type 0 where
    Braces : (open_brace : Token) (stmts : Stmts) (close_brace : Token) → Block

  pub data Other : Type 0 where
    NoElse : Other
    ElseBlock : (keyword : Token) (other : Block) → Other

  pub data Others : Type 0 where
    NoOther : Others
    Beside : (token : Token) (other : Block) (rest : Others) → Others

abbrev mutual
  -- `;` | block { `||` block } | `pause` `;` | `halt` `;` | ( `emit` | `sustain` ) NAME [ `(` expression `)` ] `;` | signal
  -- | kind NAME `=` expression `;` | NAME assign expression `;` | `if` `(` expression `)` block [ `else` block ]
  -- | `present` `(` test `)` block [ `else` block ] | `while` `(` `true` `)` block
  -- | ( [ `weak` ] `abort` | `suspend` | `every` ) `(` [ `immediate` ] test `)` block | `trap` `(` NAME `)` block
  -- | `exit` `(` NAME `)` `;` | `send` NAME `(` expression `)` `;` | `receive` NAME `;`
  -- | `await` `(` [ `immediate` ] test `)` `;` | `loop` block `each` `(` test `)` `;`
  pub print_stmt : Stmt → List Token → List Token
  print_stmt (EmptyStmt s) after = s ∷ after
  print_stmt (ParStmt b o) after = print_block b (print_others o after)
  print_stmt (StillStmt w s) after = w ∷ s ∷ after
  print_stmt (EmitStmt w n v s) after = w ∷ n ∷ print_given v (s ∷ after)
  print_stmt (SignalStmt d) after = print_declared d after
  print_stmt (VariableStmt k v n t e s) after = v ∷ n ∷ t ∷ print e (s ∷ after)
  print_stmt (AssignStmt op n t e s) after = n ∷ t ∷ print e (s ∷ after)
  print_stmt (IfStmt w o e c b other) after =
      w ∷ o ∷ print e (c ∷ print_block b (print_other other after))
  print_stmt (PresentStmt w o t c b other) after =
      w ∷ o ∷ print_test t (c ∷ print_block b (print_other other after))
  print_stmt (WhileStmt w o t c b) after = w ∷ o ∷ t ∷ c ∷ print_block b after
  print_stmt (GuardedStmt w g b) after = w ∷ print_guard g (print_block b after)
  print_stmt (WeakStmt v w g b) after = v ∷ w ∷ print_guard g (print_block b after)
  print_stmt (TrapStmt w o n c b) after = w ∷ o ∷ n ∷ c ∷ print_block b after
  print_stmt (ExitStmt w o n c s) after = w ∷ o ∷ n ∷ c ∷ s ∷ after
  print_stmt (SendStmt w n o e c s) after = w ∷ n ∷ o ∷ print e (c ∷ s ∷ after)
  print_stmt (ReceiveStmt w n s) after = w ∷ n ∷ s ∷ after
  print_stmt (AwaitStmt w g s) after = w ∷ print_guard g (s ∷ after)
  print_stmt (LoopStmt w b v o t c s) after =
      w ∷ print_block b (v ∷ o ∷ print_test t (c ∷ s ∷ after))

  -- { statement }
  pub print_stmts : Stmts → List Token → List Token
  print_stmts Done after = after
  print_stmts (Then s ss) after = print_stmt s (print_stmts ss after)

  -- `{` { statement } `}`
  pub print_block : Block → List Token → List Token
  print_block (Braces o ss c) after = o ∷ print_stmts ss (c ∷ after)

  -- [ `else` block ]
  pub print_other : Other → List Token → List Token
  print_other NoElse after = after
  print_other (ElseBlock w b) after = w ∷ print_block b after

  -- further blocks, each after a sign
  pub print_others : Others → List Token → List Token
  print_others NoOther after = after
  print_others (Beside t b o) after = t ∷ print_block b (print_others o after)

-- each token is the right one, and each part one of the grammar
abbrev mutual
  pub IsStmt : Stmt → Type 0
  IsStmt (EmptyStmt s) = IsMark mark.Semicolon s
  IsStmt (ParStmt b o) = IsBlock b × IsOthers mark.Either o
  IsStmt (StillStmt w s) = (is_still w.class ≡ true) × IsMark mark.Semicolon s
  IsStmt (EmitStmt w n v s) =
      (is_emission w.class ≡ true) × IsName n × IsGiven v × IsMark mark.Semicolon s
  IsStmt (SignalStmt d) = IsDeclared d
  IsStmt (VariableStmt k v n t e s) =
      (kind_of v.class ≡ Some k) × IsName n × IsMark mark.Assign t × IsExpr e ×
      IsMark mark.Semicolon s
  IsStmt (AssignStmt op n t e s) =
      IsName n × (assign_of t.class ≡ Some op) × IsExpr e × IsMark mark.Semicolon s
  IsStmt (IfStmt w o e c b other) =
      IsWord word.If w × IsMark mark.OpenParen o × IsExpr e × IsMark mark.CloseParen c × IsBlock b ×
      IsOther other
  IsStmt (PresentStmt w o t c b other) =
      IsWord word.Present w × IsMark mark.OpenParen o × IsTest t × IsMark mark.CloseParen c ×
      IsBlock b × IsOther other
  IsStmt (WhileStmt w o t c b) =
      IsWord word.While w × IsMark mark.OpenParen o × IsWord word.True t ×
      IsMark mark.CloseParen c × IsBlock b
  IsStmt (GuardedStmt w g b) = (is_guarded w.class ≡ true) × IsGuard g × IsBlock b
  IsStmt (WeakStmt v w g b) = IsWord word.Weak v × IsWord word.Abort w × IsGuard g × IsBlock b
  IsStmt (TrapStmt w o n c b) =
      IsWord word.Trap w × IsMark mark.OpenParen o × IsName n × IsMark mark.CloseParen c × IsBlock b
  IsStmt (ExitStmt w o n c s) =
      IsWord word.Exit w × IsMark mark.OpenParen o × IsName n × IsMark mark.CloseParen c ×
      IsMark mark.Semicolon s
  IsStmt (SendStmt w n o e c s) =
      IsWord word.Send w × IsName n × IsMark mark.OpenParen o × IsExpr e ×
      IsMark mark.CloseParen c × IsMark mark.Semicolon s
  IsStmt (ReceiveStmt w n s) = IsWord word.Receive w × IsName n × IsMark mark.Semicolon s
  IsStmt (AwaitStmt w g s) = IsWord word.Await w × IsGuard g × IsMark mark.Semicolon s
  IsStmt (LoopStmt w b v o t c s) =
      IsWord word.Loop w × IsBlock b × IsWord word.Each v × IsMark mark.OpenParen o × IsTest t ×
      IsMark mark.CloseParen c × IsMark mark.Semicolon s

  pub IsStmts : Stmts → Type 0
  IsStmts Done = Unit {0}
  IsStmts (Then s ss) = IsStmt s × IsStmts ss

  pub IsBlock : Block → Type 0
  IsBlock (Braces o ss c) = IsMark mark.OpenBrace o × IsStmts ss × IsMark mark.CloseBrace c

  pub IsOther : Other → Type 0
  IsOther NoElse = Unit {0}
  IsOther (ElseBlock w b) = IsWord word.Else w × IsBlock b

  -- the sign is `||` within a block, and `><` between domains
  pub IsOthers : sign.Mark → Others → Type 0
  IsOthers m NoOther = Unit {0}
  IsOthers m (Beside t b o) = IsMark m t × IsBlock b × IsOthers m o
