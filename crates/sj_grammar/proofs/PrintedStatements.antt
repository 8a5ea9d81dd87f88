-- What statements and programs print can be read.
use Rattle.std.proofs.Common.{◌≡◌, true, false, cond, List, [], ◌∷◌, Option, Some, None, ap, refl, sym, ◌∙◌}
use Rattle.java_values.specs.declared.kind.Kind.{Kind}
use Rattle.java_values.specs.declared.op.Op2.{Op2}
use Rattle.sj_ast.specs.declared.port.CombineOperator.{CombineOperator}
use Rattle.sj_ast.specs.declared.port.Direction.{Direction}
use Rattle.sj_lexer.specs.declared.token.Class.{Class}
use Rattle.sj_lexer.specs.declared.token.Class.TheVariants.{Reserved, Name, Mark}
use Rattle.sj_lexer.specs.declared.token.Mark as sign
use Rattle.sj_lexer.specs.declared.token.Mark.TheVariants as mark
use Rattle.sj_lexer.specs.declared.token.Word.TheVariants as word
use Rattle.sj_lexer.specs.declared.token.Token.{Token}
use Rattle.sj_grammar.specs.declared.role.Start.{Start}
use Rattle.sj_grammar.specs.declared.role.Start.TheVariants as start
use Rattle.sj_grammar.specs.definitions.Classes.{same}
use Rattle.sj_grammar.specs.definitions.Roles.{start_of, test_lead_of, kind_of, assign_of, combine_of, direction_of, has}
use Rattle.sj_grammar.specs.definitions.Expressions.{Expr, print, IsExpr}
use Rattle.sj_grammar.specs.definitions.Tests.{Test, SignalTest, NotTest, GroupTest, JoinTest, print_test, IsTest}
use Rattle.sj_grammar.specs.definitions.Statements.{Given, NoValue, Value, print_given, IsGiven, Guard, Later, AtOnce, print_guard, IsGuard, Combined, NotCombined, CombinedBy, print_combined, IsCombined, Declared, Pure, Valued, print_declared, IsDeclared, Stmt, EmptyStmt, ParStmt, StillStmt, EmitStmt, SignalStmt, VariableStmt, AssignStmt, IfStmt, PresentStmt, WhileStmt, GuardedStmt, WeakStmt, TrapStmt, ExitStmt, SendStmt, ReceiveStmt, AwaitStmt, LoopStmt, Stmts, Done, Then, Block, Braces, Other, NoElse, ElseBlock, Others, NoOther, Beside, print_stmt, print_stmts, print_block, print_other, print_others, IsStmt, IsStmts, IsBlock, IsOther, IsOthers}
use Rattle.sj_grammar.specs.definitions.Programs.{Port, SignalPort, ChannelPort, print_port, IsPort, Ports, NoPort, PortThen, print_ports, IsPorts, Program, print_program, IsProgram}
use Rattle.sj_grammar.specs.definitions.Machine.{Symbol, T, Operand, More, TestOperand, MoreTest, ImmediatePart, InBraces, Statements, OthersPart, ElsePart, ValuePart, AssignSign, CombinePart, CombineSign, PortList, SignalPart, guard_then, start_step, or_else, next, steps, program}
use Rattle.sj_grammar.proofs.EqualClasses.{same-itself}
use Rattle.sj_grammar.proofs.ClassRoles.{still-start, emission-start, guarded-start, kind-start, begins, begins-no-else, begins-no-either, tests, tests-no-immediate, kind-no-direction, kind-no-signal, second-false}
use Rattle.sj_grammar.proofs.PrintedExpressions.{Goes, then, stays, one, read, alike, same-tokens, expr-read, test-read}

-- the tokens begin with one that goes on with no statement
pub record Plainly (ts : List Token) : Type 0 where
  pub first : Token
  pub after : List Token
  pub is : ts ≡ first ∷ after
  pub no_else : same (Reserved word.Else) first.class ≡ false
  pub no_either : same (Mark mark.Either) first.class ≡ false

pub plain-class : (t : Token) (ts : List Token) (c : Class) → t.class ≡ c → same (Reserved word.Else) c ≡ false → same (Mark mark.Either) c ≡ false → Plainly (t ∷ ts)
plain-class t ts c h g e = record { first = t; after = ts; is = refl; no_else = ap (same (Reserved word.Else)) h ∙ g; no_either = ap (same (Mark mark.Either)) h ∙ e }

plain-start : (t : Token) (ts : List Token) (x : Start) → start_of t.class ≡ x → begins x ≡ true → Plainly (t ∷ ts)
plain-start t ts x h g =
    let b : begins (start_of t.class) ≡ true = ap begins h ∙ g in
    record {
      first = t;
      after = ts;
      is = refl;
      no_else = second-false (begins (start_of t.class)) (same (Reserved word.Else) t.class) (begins-no-else t.class) b;
      no_either = second-false (begins (start_of t.class)) (same (Mark mark.Either) t.class) (begins-no-either t.class) b;
    }

plain-declared : (d : Declared) (more : List Token) → IsDeclared d → Plainly (print_declared d more)
plain-declared (Pure w n s) more h = plain-class w (n ∷ s ∷ more) (Reserved word.Signal) h.0 refl refl
plain-declared (Valued k v w n c s) more h = plain-start v (w ∷ n ∷ print_combined c (s ∷ more)) (start.Kind k) (kind-start v.class k h.0) refl

plain-stmt : (s : Stmt) (more : List Token) → IsStmt s → Plainly (print_stmt s more)
plain-stmt (EmptyStmt s) more h = plain-class s more (Mark mark.Semicolon) h refl refl
plain-stmt (ParStmt (Braces o ss c) others) more h = plain-class o (print_stmts ss (c ∷ print_others others more)) (Mark mark.OpenBrace) h.0.0 refl refl
plain-stmt (StillStmt w s) more h = plain-start w (s ∷ more) start.Still (still-start w.class h.0) refl
plain-stmt (EmitStmt w n v s) more h = plain-start w (n ∷ print_given v (s ∷ more)) start.Emit (emission-start w.class h.0) refl
plain-stmt (SignalStmt d) more h = plain-declared d more h
plain-stmt (VariableStmt k v n t e s) more h = plain-start v (n ∷ t ∷ print e (s ∷ more)) (start.Kind k) (kind-start v.class k h.0) refl
plain-stmt (AssignStmt op n t e s) more h = plain-class n (t ∷ print e (s ∷ more)) Name h.0 refl refl
plain-stmt (IfStmt w o e c b other) more h = plain-class w (o ∷ print e (c ∷ print_block b (print_other other more))) (Reserved word.If) h.0 refl refl
plain-stmt (PresentStmt w o t c b other) more h = plain-class w (o ∷ print_test t (c ∷ print_block b (print_other other more))) (Reserved word.Present) h.0 refl refl
plain-stmt (WhileStmt w o t c b) more h = plain-class w (o ∷ t ∷ c ∷ print_block b more) (Reserved word.While) h.0 refl refl
plain-stmt (GuardedStmt w g b) more h = plain-start w (print_guard g (print_block b more)) start.Guarded (guarded-start w.class h.0) refl
plain-stmt (WeakStmt v w g b) more h = plain-class v (w ∷ print_guard g (print_block b more)) (Reserved word.Weak) h.0 refl refl
plain-stmt (TrapStmt w o n c b) more h = plain-class w (o ∷ n ∷ c ∷ print_block b more) (Reserved word.Trap) h.0 refl refl
plain-stmt (ExitStmt w o n c s) more h = plain-class w (o ∷ n ∷ c ∷ s ∷ more) (Reserved word.Exit) h.0 refl refl
plain-stmt (SendStmt w n o e c s) more h = plain-class w (n ∷ o ∷ print e (c ∷ s ∷ more)) (Reserved word.Send) h.0 refl refl
plain-stmt (ReceiveStmt w n s) more h = plain-class w (n ∷ s ∷ more) (Reserved word.Receive) h.0 refl refl
plain-stmt (AwaitStmt w g s) more h = plain-class w (print_guard g (s ∷ more)) (Reserved word.Await) h.0 refl refl
plain-stmt (LoopStmt w b v o t c s) more h = plain-class w (print_block b (v ∷ o ∷ print_test t (c ∷ s ∷ more))) (Reserved word.Loop) h.0 refl refl

pub plain-stmts : (ss : Stmts) (c : Token) (more : List Token) → IsStmts ss → c.class ≡ Mark mark.CloseBrace → Plainly (print_stmts ss (c ∷ more))
plain-stmts Done c more h g = plain-class c more (Mark mark.CloseBrace) g refl refl
plain-stmts (Then s ss) c more h g = plain-stmt s (print_stmts ss (c ∷ more)) h.0

-- parts of statements
expr-goes : {k : List Symbol} {more : List Token} (e : Expr) → IsExpr e → Goes (Operand ∷ More ∷ k) (print e more) (More ∷ k) more
expr-goes {k} {more} e h = let s = expr-read e h in s.expr k more

test-goes : {k : List Symbol} {more : List Token} (e : Test) → IsTest e → Goes (TestOperand ∷ MoreTest ∷ k) (print_test e more) (MoreTest ∷ k) more
test-goes {k} {more} e h = let s = test-read e h in s.test k more

given-goes : {k : List Symbol} {more : List Token} (v : Given) (s : Token) → IsGiven v → s.class ≡ Mark mark.Semicolon → Goes (ValuePart ∷ T (Mark mark.Semicolon) ∷ k) (print_given v (s ∷ more)) k more
given-goes NoValue s h g = read (Mark mark.Semicolon) g refl
given-goes (Value o e c) s h g = then (read (Mark mark.OpenParen) h.0 refl) (then (expr-goes e h.1) (then (read (Mark mark.CloseParen) h.2 refl) (read (Mark mark.Semicolon) g refl)))

pub record TestLeads (ts : List Token) : Type 0 where
  pub first : Token
  pub after : List Token
  pub is : ts ≡ first ∷ after
  pub lead : tests (test_lead_of first.class) ≡ true

leads-by : (t : Token) (c : Class) → t.class ≡ c → tests (test_lead_of c) ≡ true → tests (test_lead_of t.class) ≡ true
leads-by t c h g = ap (λ x. tests (test_lead_of x)) h ∙ g

pub leads-test : (e : Test) (more : List Token) → IsTest e → TestLeads (print_test e more)
leads-test (SignalTest n) more h = record { first = n; after = more; is = refl; lead = leads-by n Name h refl }
leads-test (NotTest b e) more h = record { first = b; after = print_test e more; is = refl; lead = leads-by b (Mark mark.Bang) h.0 refl }
leads-test (GroupTest o e c) more h = record { first = o; after = print_test e (c ∷ more); is = refl; lead = leads-by o (Mark mark.OpenParen) h.0 refl }
leads-test (JoinTest j t l r) more h = leads-test l (t ∷ print_test r more) h.3

next-immediate : (c : Class) (k : List Symbol) → same (Reserved word.Immediate) c ≡ false → next (ImmediatePart ∷ k) c ≡ next k c
next-immediate c k h = rw h refl

not-immediate : {k : List Symbol} {ts : List Token} → TestLeads ts → Goes (ImmediatePart ∷ k) ts k ts
not-immediate {k} {ts} l =
    then (same-tokens l.is)
    (then (alike (next-immediate l.first.class k (second-false (tests (test_lead_of l.first.class)) (same (Reserved word.Immediate) l.first.class) (tests-no-immediate l.first.class) l.lead))) (same-tokens (sym l.is)))

guard-goes : {k : List Symbol} {more : List Token} (g : Guard) → IsGuard g → Goes (guard_then k) (print_guard g more) k more
guard-goes {k} {more} (Later o t c) h = then (read (Mark mark.OpenParen) h.0 refl) (then (not-immediate (leads-test t (c ∷ more) h.1)) (then (test-goes t h.1) (read (Mark mark.CloseParen) h.2 refl)))
guard-goes {k} {more} (AtOnce o i t c) h = then (read (Mark mark.OpenParen) h.0 refl) (then (read (Reserved word.Immediate) h.1 refl) (then (test-goes t h.2) (read (Mark mark.CloseParen) h.3 refl)))

next-combine : (c : Class) (op : CombineOperator) (k : List Symbol) → combine_of c ≡ Some op → next (CombineSign ∷ k) c ≡ Some k
next-combine c op k h = rw h refl

combined-goes : {k : List Symbol} {more : List Token} (c : Combined) (s : Token) → IsCombined c → s.class ≡ Mark mark.Semicolon → Goes (CombinePart ∷ T (Mark mark.Semicolon) ∷ k) (print_combined c (s ∷ more)) k more
combined-goes NotCombined s h g = read (Mark mark.Semicolon) g refl
combined-goes {k} (CombinedBy op w t) s h g = then (read (Reserved word.Combine) h.0 refl) (then (one (next-combine t.class op (T (Mark mark.Semicolon) ∷ k) h.1)) (read (Mark mark.Semicolon) g refl))

next-start : (x : Start) (c : Class) (k : List Symbol) → start_of c ≡ x → next (Statements ∷ k) c ≡ or_else (start_step x (Statements ∷ k)) (cond true (next k c) None)
next-start x c k h = rw h refl

next-assign : (c : Class) (op : Option Op2) (k : List Symbol) → assign_of c ≡ Some op → next (AssignSign ∷ k) c ≡ Some k
next-assign c op k h = rw h refl

declared-goes : {k : List Symbol} {more : List Token} (d : Declared) → IsDeclared d → Goes (Statements ∷ k) (print_declared d more) (Statements ∷ k) more
declared-goes (Pure w n s) h = then (read (Reserved word.Signal) h.0 refl) (then (read Name h.1 refl) (read (Mark mark.Semicolon) h.2 refl))
declared-goes {k} (Valued kind v w n c s) h =
    then (one (next-start (start.Kind kind) v.class k (kind-start v.class kind h.0)))
    (then (read (Reserved word.Signal) h.1 refl) (then (read Name h.2 refl) (combined-goes c s h.3 h.4)))

next-else : (c : Class) (k : List Symbol) → same (Reserved word.Else) c ≡ false → next (ElsePart ∷ k) c ≡ next k c
next-else c k h = rw h refl

pub next-others : (m : sign.Mark) (c : Class) (k : List Symbol) → same (Mark m) c ≡ false → next (OthersPart m ∷ k) c ≡ next k c
next-others m c k h = rw h refl

next-beside : (m : sign.Mark) (k : List Symbol) → next (OthersPart m ∷ k) (Mark m) ≡ Some (InBraces ∷ OthersPart m ∷ k)
next-beside m k = let h = same-itself m in rw h refl

no-else : {k : List Symbol} {ts : List Token} → Plainly ts → Goes (ElsePart ∷ k) ts k ts
no-else {k} p = then (same-tokens p.is) (then (alike (next-else p.first.class k p.no_else)) (same-tokens (sym p.is)))

-- the tokens begin with one that isn't this sign
pub record NoSign (m : sign.Mark) (ts : List Token) : Type 0 where
  pub first : Token
  pub after : List Token
  pub is : ts ≡ first ∷ after
  pub none : same (Mark m) first.class ≡ false

pub no-either : {ts : List Token} → Plainly ts → NoSign mark.Either ts
no-either p = record { first = p.first; after = p.after; is = p.is; none = p.no_either }

no-others : {k : List Symbol} {ts : List Token} (m : sign.Mark) → NoSign m ts → Goes (OthersPart m ∷ k) ts k ts
no-others {k} m p = then (same-tokens p.is) (then (alike (next-others m p.first.class k p.none)) (same-tokens (sym p.is)))

-- statements
mutual
  pub stmt-goes : {k : List Symbol} {more : List Token} (s : Stmt) → IsStmt s → Plainly more → Goes (Statements ∷ k) (print_stmt s more) (Statements ∷ k) more
  stmt-goes (EmptyStmt s) h p = read (Mark mark.Semicolon) h refl
  stmt-goes {k} (ParStmt (Braces o ss c) others) h p = then (read (Mark mark.OpenBrace) h.0.0 refl) (then (stmts-goes ss c h.0.1 h.0.2) (others-goes mark.Either others h.1 (no-either p)))
  stmt-goes {k} (StillStmt w s) h p = then (one (next-start start.Still w.class k (still-start w.class h.0))) (read (Mark mark.Semicolon) h.1 refl)
  stmt-goes {k} (EmitStmt w n v s) h p = then (one (next-start start.Emit w.class k (emission-start w.class h.0))) (then (read Name h.1 refl) (given-goes v s h.2 h.3))
  stmt-goes (SignalStmt d) h p = declared-goes d h
  stmt-goes {k} (VariableStmt kind v n t e s) h p =
      then (one (next-start (start.Kind kind) v.class k (kind-start v.class kind h.0)))
      (then (read Name h.1 refl) (then (read (Mark mark.Assign) h.2 refl) (then (expr-goes e h.3) (read (Mark mark.Semicolon) h.4 refl))))
  stmt-goes {k} (AssignStmt op n t e s) h p =
      then (read Name h.0 refl) (then (one (next-assign t.class op (Operand ∷ More ∷ T (Mark mark.Semicolon) ∷ Statements ∷ k) h.1)) (then (expr-goes e h.2) (read (Mark mark.Semicolon) h.3 refl)))
  stmt-goes (IfStmt w o e c b other) h p =
      then (read (Reserved word.If) h.0 refl)
      (then (read (Mark mark.OpenParen) h.1 refl) (then (expr-goes e h.2) (then (read (Mark mark.CloseParen) h.3 refl) (then (block-goes b h.4) (other-goes other h.5 p)))))
  stmt-goes (PresentStmt w o t c b other) h p =
      then (read (Reserved word.Present) h.0 refl)
      (then (read (Mark mark.OpenParen) h.1 refl) (then (test-goes t h.2) (then (read (Mark mark.CloseParen) h.3 refl) (then (block-goes b h.4) (other-goes other h.5 p)))))
  stmt-goes (WhileStmt w o t c b) h p =
      then (read (Reserved word.While) h.0 refl) (then (read (Mark mark.OpenParen) h.1 refl) (then (read (Reserved word.True) h.2 refl) (then (read (Mark mark.CloseParen) h.3 refl) (block-goes b h.4))))
  stmt-goes {k} (GuardedStmt w g b) h p = then (one (next-start start.Guarded w.class k (guarded-start w.class h.0))) (then (guard-goes g h.1) (block-goes b h.2))
  stmt-goes (WeakStmt v w g b) h p = then (read (Reserved word.Weak) h.0 refl) (then (read (Reserved word.Abort) h.1 refl) (then (guard-goes g h.2) (block-goes b h.3)))
  stmt-goes (TrapStmt w o n c b) h p =
      then (read (Reserved word.Trap) h.0 refl) (then (read (Mark mark.OpenParen) h.1 refl) (then (read Name h.2 refl) (then (read (Mark mark.CloseParen) h.3 refl) (block-goes b h.4))))
  stmt-goes (ExitStmt w o n c s) h p =
      then (read (Reserved word.Exit) h.0 refl) (then (read (Mark mark.OpenParen) h.1 refl) (then (read Name h.2 refl) (then (read (Mark mark.CloseParen) h.3 refl) (read (Mark mark.Semicolon) h.4 refl))))
  stmt-goes (SendStmt w n o e c s) h p =
      then (read (Reserved word.Send) h.0 refl)
      (then (read Name h.1 refl) (then (read (Mark mark.OpenParen) h.2 refl) (then (expr-goes e h.3) (then (read (Mark mark.CloseParen) h.4 refl) (read (Mark mark.Semicolon) h.5 refl)))))
  stmt-goes (ReceiveStmt w n s) h p = then (read (Reserved word.Receive) h.0 refl) (then (read Name h.1 refl) (read (Mark mark.Semicolon) h.2 refl))
  stmt-goes (AwaitStmt w g s) h p = then (read (Reserved word.Await) h.0 refl) (then (guard-goes g h.1) (read (Mark mark.Semicolon) h.2 refl))
  stmt-goes (LoopStmt w b v o t c s) h p =
      then (read (Reserved word.Loop) h.0 refl)
      (then (block-goes b h.1) (then (read (Reserved word.Each) h.2 refl) (then (read (Mark mark.OpenParen) h.3 refl) (then (test-goes t h.4) (then (read (Mark mark.CloseParen) h.5 refl) (read (Mark mark.Semicolon) h.6 refl))))))

  pub stmts-goes : {k : List Symbol} {more : List Token} (ss : Stmts) (c : Token) → IsStmts ss → c.class ≡ Mark mark.CloseBrace → Goes (Statements ∷ T (Mark mark.CloseBrace) ∷ k) (print_stmts ss (c ∷ more)) k more
  stmts-goes Done c h g = read (Mark mark.CloseBrace) g refl
  stmts-goes {k} {more} (Then s ss) c h g = then (stmt-goes s h.0 (plain-stmts ss c more h.1 g)) (stmts-goes ss c h.1 g)

  pub block-goes : {k : List Symbol} {more : List Token} (b : Block) → IsBlock b → Goes (InBraces ∷ k) (print_block b more) k more
  block-goes (Braces o ss c) h = then (read (Mark mark.OpenBrace) h.0 refl) (stmts-goes ss c h.1 h.2)

  pub other-goes : {k : List Symbol} {more : List Token} (o : Other) → IsOther o → Plainly more → Goes (ElsePart ∷ k) (print_other o more) k more
  other-goes NoElse h p = no-else p
  other-goes (ElseBlock w b) h p = then (read (Reserved word.Else) h.0 refl) (block-goes b h.1)

  pub others-goes : {k : List Symbol} {more : List Token} (m : sign.Mark) (o : Others) → IsOthers m o → NoSign m more → Goes (OthersPart m ∷ k) (print_others o more) k more
  others-goes m NoOther h p = no-others m p
  others-goes {k} m (Beside t b o) h p = then (read (Mark m) h.0 (next-beside m k)) (then (block-goes b h.1) (others-goes m o h.2 p))

-- programs
next-signal : (c : Class) (kind : Kind) (k : List Symbol) → kind_of c ≡ Some kind → same (Reserved word.Signal) c ≡ false → next (SignalPart ∷ k) c ≡ Some (T (Reserved word.Signal) ∷ T Name ∷ CombinePart ∷ T (Mark mark.Semicolon) ∷ k)
next-signal c kind k h g = rw (h, g) refl

next-direction : (c : Class) (d : Direction) (k : List Symbol) → direction_of c ≡ Some d → next (PortList ∷ k) c ≡ Some (SignalPart ∷ PortList ∷ k)
next-direction c d k h = rw h refl

next-channel : (c : Class) (kind : Kind) (k : List Symbol) → kind_of c ≡ Some kind → has (direction_of c) ≡ false → next (PortList ∷ k) c ≡ Some (T (Reserved word.Channel) ∷ T Name ∷ T (Mark mark.Semicolon) ∷ PortList ∷ k)
next-channel c kind k h g = rw (h, g) refl

kind-first : (c : Class) (kind : Kind) → kind_of c ≡ Some kind → has (kind_of c) ≡ true
kind-first c kind h = ap has h

signal-goes : {k : List Symbol} {more : List Token} (d : Declared) → IsDeclared d → Goes (SignalPart ∷ k) (print_declared d more) k more
signal-goes (Pure w n s) h = then (read (Reserved word.Signal) h.0 refl) (then (read Name h.1 refl) (read (Mark mark.Semicolon) h.2 refl))
signal-goes {k} (Valued kind v w n c s) h =
    then (one (next-signal v.class kind k h.0 (second-false (has (kind_of v.class)) (same (Reserved word.Signal) v.class) (kind-no-signal v.class) (kind-first v.class kind h.0))))
    (then (read (Reserved word.Signal) h.1 refl) (then (read Name h.2 refl) (combined-goes c s h.3 h.4)))

port-goes : {k : List Symbol} {more : List Token} (p : Port) → IsPort p → Goes (PortList ∷ k) (print_port p more) (PortList ∷ k) more
port-goes {k} (SignalPort d w s) h = then (one (next-direction w.class d k h.0)) (signal-goes s h.1)
port-goes {k} (ChannelPort kind v w n s) h =
    then (one (next-channel v.class kind k h.0 (second-false (has (kind_of v.class)) (has (direction_of v.class)) (kind-no-direction v.class) (kind-first v.class kind h.0))))
    (then (read (Reserved word.Channel) h.1 refl) (then (read Name h.2 refl) (read (Mark mark.Semicolon) h.3 refl)))

ports-goes : {k : List Symbol} {more : List Token} (ps : Ports) → IsPorts ps → Goes (PortList ∷ k) (print_ports ps more) (PortList ∷ k) more
ports-goes {k} {more} NoPort h = stays (PortList ∷ k) more
ports-goes (PortThen p ps) h = then (port-goes p h.0) (ports-goes ps h.1)

end-no-beside : (c : Token) (more : List Token) → c.class ≡ Mark mark.CloseBrace → NoSign mark.Beside (c ∷ more)
end-no-beside c more h = record { first = c; after = more; is = refl; none = ap (same (Mark mark.Beside)) h }

program-goes : (p : Program) (more : List Token) → IsProgram p → Goes program (print_program p more) [] more
program-goes p more h =
    then (read (Reserved word.System) h.system refl)
    (then (read (Mark mark.OpenBrace) h.open_system refl) (then (read (Reserved word.Interface) h.interface refl) (then (read (Mark mark.OpenBrace) h.open_ports refl)
    (then (ports-goes p.ports h.ports) (then (read (Mark mark.CloseBrace) h.close_ports refl) (then (block-goes p.first h.first)
    (then (others-goes mark.Beside p.others h.others (end-no-beside p.close_system more h.close_system)) (read (Mark mark.CloseBrace) h.close_system refl))))))))

-- a program is read to its end
pub whole-program : (p : Program) → IsProgram p → steps program (print_program p []) ≡ Some []
whole-program p h = let g = program-goes p [] h in g.goes
