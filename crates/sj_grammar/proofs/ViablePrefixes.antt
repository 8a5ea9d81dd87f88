-- Tokens that can be read begin a sentence.
use Rattle.std.proofs.Common.{◌≡◌, Bool, true, false, ◌&&◌, cond, List, [], ◌∷◌, ◌++◌, Option, Some, None, ap, refl, sym, ◌∙◌, subst, append-nil}
use Rattle.java_values.specs.declared.kind.Kind.{Kind}
use Rattle.java_values.specs.declared.op.Op1.TheVariants as op1
use Rattle.java_values.specs.declared.op.Op2.{Op2}
use Rattle.sj_ast.specs.declared.port.Direction.{Direction}
use Rattle.sj_lexer.specs.declared.token.Class.{Class}
use Rattle.sj_lexer.specs.declared.token.Class.TheVariants.{Reserved, Name, Mark}
use Rattle.sj_lexer.specs.declared.token.Mark as sign
use Rattle.sj_lexer.specs.declared.token.Mark.TheVariants as mark
use Rattle.sj_lexer.specs.declared.token.Word.TheVariants as word
use Rattle.sj_lexer.specs.declared.token.Token.{Token}
use Rattle.sj_grammar.specs.declared.role.Join.{Join}
use Rattle.sj_grammar.specs.declared.role.Lead.{Lead}
use Rattle.sj_grammar.specs.declared.role.Lead.TheVariants as lead
use Rattle.sj_grammar.specs.declared.role.TestLead.{TestLead}
use Rattle.sj_grammar.specs.declared.role.TestLead.TheVariants as test_lead
use Rattle.sj_grammar.specs.declared.role.Start.{Start}
use Rattle.sj_grammar.specs.declared.role.Start.TheVariants as start
use Rattle.sj_grammar.specs.definitions.Classes.{same}
use Rattle.sj_grammar.specs.definitions.Roles.{lead_of, test_lead_of, start_of, is_edge, sign_of, infix_of, kind_of, join_of, assign_of, combine_of, direction_of, has}
use Rattle.sj_grammar.specs.definitions.Expressions.{Expr, Atom, Least, Status, Prefix, Cast, Group, print, level, IsMark, IsWord, IsExpr, insert}
use Rattle.sj_grammar.specs.definitions.Tests.{Test, SignalTest, NotTest, GroupTest, print_test, test_level, IsTest, insert_test}
use Rattle.sj_grammar.specs.definitions.Statements.{Given, NoValue, Value, print_given, IsGiven, Guard, Later, AtOnce, print_guard, IsGuard, Combined, NotCombined, CombinedBy, print_combined, IsCombined, Declared, Pure, Valued, print_declared, IsDeclared, Stmt, EmptyStmt, ParStmt, StillStmt, EmitStmt, SignalStmt, VariableStmt, AssignStmt, IfStmt, PresentStmt, WhileStmt, GuardedStmt, WeakStmt, TrapStmt, ExitStmt, SendStmt, ReceiveStmt, AwaitStmt, LoopStmt, Stmts, Done, Then, Block, Braces, Other, NoElse, ElseBlock, Others, NoOther, Beside, print_stmt, print_stmts, print_block, print_other, print_others, IsStmt, IsStmts, IsBlock, IsOther, IsOthers}
use Rattle.sj_grammar.specs.definitions.Programs.{SignalPort, ChannelPort, Ports, NoPort, PortThen, print_ports, IsPorts}
use Rattle.sj_grammar.specs.definitions.Sentences.{AreExpression, AreTest, AreProgram, BeginExpression, BeginTest, BeginProgram}
use Rattle.sj_grammar.specs.definitions.Machine.{Symbol, T, Operand, AfterMinus, AfterOpen, More, TestOperand, MoreTest, ImmediatePart, InBraces, Statements, OthersPart, ElsePart, ValuePart, AssignSign, AfterKind, CombinePart, CombineSign, PortList, SignalPart, lead_step, test_step, guard_then, start_step, expand, may_end, or_else, next, all_end, steps, expression, test, program}
use Rattle.sj_grammar.proofs.EqualClasses.{same-class}
use Rattle.sj_grammar.proofs.ClassRoles.{LeadIs, lead-is, TestLeadIs, test-lead-is, StartIs, start-is}
use Rattle.sj_grammar.proofs.OperatorInsertion.{insert-is, insert-print, insert_test-is, insert_test-print}

-- a part of a sentence, and then tokens with the property
pub record In (A : Type 0) (Is : A → Type 0) (show : A → List Token → List Token) (K : List Token → Type 0) (ts : List Token) : Type 0 where
  pub tree : A
  pub is : Is tree
  pub after : List Token
  pub printed : ts ≡ show tree after
  pub holds : K after

abbrev show_token : Token → List Token → List Token
show_token t after = t ∷ after

abbrev TokenIn : (Token → Type 0) → (List Token → Type 0) → List Token → Type 0
TokenIn P K ts = In Token P show_token K ts

abbrev IsOperand : Expr → Type 0
IsOperand e = IsExpr e × (level e ≡ 11)

abbrev OperandIn : (List Token → Type 0) → List Token → Type 0
OperandIn K ts = In Expr IsOperand print K ts

abbrev IsTestOperand : Test → Type 0
IsTestOperand e = IsTest e × (test_level e ≡ 3)

abbrev TestOperandIn : (List Token → Type 0) → List Token → Type 0
TestOperandIn K ts = In Test IsTestOperand print_test K ts

-- the tokens complete the expression before them
pub record Joined (K : List Token → Type 0) (e : Expr) (ts : List Token) : Type 0 where
  pub tree : Expr
  pub is : IsExpr tree
  pub after : List Token
  pub printed : print e ts ≡ print tree after
  pub holds : K after

pub record TestJoined (K : List Token → Type 0) (e : Test) (ts : List Token) : Type 0 where
  pub tree : Test
  pub is : IsTest tree
  pub after : List Token
  pub printed : print_test e ts ≡ print_test tree after
  pub holds : K after

-- [ `immediate` ]
abbrev show_optional : Option Token → List Token → List Token
show_optional None after = after
show_optional (Some t) after = t ∷ after

abbrev IsImmediate : Option Token → Type 0
IsImmediate None = Unit {0}
IsImmediate (Some t) = IsWord word.Immediate t

abbrev StmtIn : (List Token → Type 0) → List Token → Type 0
StmtIn K ts = In Stmt IsStmt print_stmt K ts

-- what symbols stand for
abbrev pub Means : Symbol → (List Token → Type 0) → List Token → Type 0
Means (T c) K ts = TokenIn (λ t. t.class ≡ c) K ts
Means Operand K ts = OperandIn K ts
Means AfterMinus K ts = (m : Token) → IsMark mark.Minus m → OperandIn K (m ∷ ts)
Means AfterOpen K ts = (o : Token) → IsMark mark.OpenParen o → OperandIn K (o ∷ ts)
Means More K ts = (e : Expr) → IsExpr e → Joined K e ts
Means TestOperand K ts = TestOperandIn K ts
Means MoreTest K ts = (e : Test) → IsTest e → TestJoined K e ts
Means ImmediatePart K ts = In (Option Token) IsImmediate show_optional K ts
Means InBraces K ts = In Block IsBlock print_block K ts
Means Statements K ts = In Stmts IsStmts print_stmts K ts
Means (OthersPart m) K ts = In Others (IsOthers m) print_others K ts
Means ElsePart K ts = In Other IsOther print_other K ts
Means ValuePart K ts = In Given IsGiven print_given K ts
Means AssignSign K ts = TokenIn (λ t. has (assign_of t.class) ≡ true) K ts
Means AfterKind K ts = (kind : Kind) (v : Token) → kind_of v.class ≡ Some kind → StmtIn K (v ∷ ts)
Means CombinePart K ts = In Combined IsCombined print_combined K ts
Means CombineSign K ts = TokenIn (λ t. has (combine_of t.class) ≡ true) K ts
Means PortList K ts = In Ports IsPorts print_ports K ts
Means SignalPart K ts = In Declared IsDeclared print_declared K ts

abbrev pub MeansAll : List Symbol → (List Token → Type 0) → List Token → Type 0
MeansAll [] K ts = K ts
MeansAll (s ∷ k) K ts = Means s (MeansAll k K) ts

moved : (x j : List Symbol) (K : List Token → Type 0) (ts : List Token) → Some x ≡ Some j → MeansAll j K ts → MeansAll x K ts
moved x j K ts h m = let P : List Symbol → Type 0 = λ k. MeansAll k K ts in let e : j ≡ x = cc in subst P e m

-- the same tokens before other ones
pub cons : (t : Token) {ts us : List Token} → ts ≡ us → t ∷ ts ≡ t ∷ us
cons t h = ap (λ x. t ∷ x) h

pub value-of : {A : Type 0} (o : Option A) → has o ≡ true → (x : A) × (o ≡ Some x)
value-of (Some x) h = (x, refl)
value-of None h = absurd (cc)

-- expressions
lead-means : (l : Lead) (t : Token) (k j : List Symbol) (K : List Token → Type 0) (ts : List Token) → LeadIs l t.class → lead_step l k ≡ Some j → MeansAll j K ts → OperandIn (MeansAll k K) (t ∷ ts)
lead-means lead.Atom t k j K ts e h m = record { tree = Atom t; is = (e, refl); after = ts; printed = refl; holds = moved k j K ts h m }
lead-means lead.Hash t k j K ts e h m =
    let n = moved (T Name ∷ k) j K ts h m in
    record { tree = Status t n.tree; is = ((e, n.is), refl); after = n.after; printed = cons t n.printed; holds = n.holds }
lead-means (lead.Prefix op) t k j K ts e h m =
    let o = moved (Operand ∷ k) j K ts h m in
    record { tree = Prefix op t o.tree; is = ((e, o.is.1, o.is.0), refl); after = o.after; printed = cons t o.printed; holds = o.holds }
lead-means lead.Minus t k j K ts e h m = moved (AfterMinus ∷ k) j K ts h m t e
lead-means lead.Open t k j K ts e h m = moved (AfterOpen ∷ k) j K ts h m t e
lead-means lead.Nothing t k j K ts e h m = absurd (cc)

minus-means : (b : Bool) (t : Token) (k j : List Symbol) (K : List Token → Type 0) (ts : List Token) → is_edge t.class ≡ b → cond b (Some k) (lead_step (lead_of t.class) k) ≡ Some j → MeansAll j K ts
    → (m : Token) → IsMark mark.Minus m → OperandIn (MeansAll k K) (m ∷ t ∷ ts)
minus-means true t k j K ts e h m s g = record { tree = Least s t; is = ((g, e), refl); after = ts; printed = refl; holds = moved k j K ts h m }
minus-means false t k j K ts e h m s g =
    let o = lead-means (lead_of t.class) t k j K ts (lead-is t.class) h m in
    record { tree = Prefix op1.Minus s o.tree; is = ((ap sign_of g, o.is.1, o.is.0), refl); after = o.after; printed = cons s o.printed; holds = o.holds }

open-means : (o : Option Kind) (t : Token) (k j : List Symbol) (K : List Token → Type 0) (ts : List Token) → kind_of t.class ≡ o
    → cond (has o) (Some (T (Mark mark.CloseParen) ∷ Operand ∷ k)) (lead_step (lead_of t.class) (More ∷ T (Mark mark.CloseParen) ∷ k)) ≡ Some j → MeansAll j K ts
    → (p : Token) → IsMark mark.OpenParen p → OperandIn (MeansAll k K) (p ∷ t ∷ ts)
open-means (Some kind) t k j K ts e h m p g =
    let c = moved (T (Mark mark.CloseParen) ∷ Operand ∷ k) j K ts h m in
    let o = c.holds in
    record { tree = Cast kind p t c.tree o.tree; is = ((g, e, c.is, o.is.1, o.is.0), refl); after = o.after; printed = cons p (cons t (c.printed ∙ cons c.tree o.printed)); holds = o.holds }
open-means None t k j K ts e h m p g =
    let o = lead-means (lead_of t.class) t (More ∷ T (Mark mark.CloseParen) ∷ k) j K ts (lead-is t.class) h m in
    let f = o.holds o.tree o.is.0 in
    let c = f.holds in
    record { tree = Group p f.tree c.tree; is = ((g, f.is, c.is), refl); after = c.after; printed = cons p (o.printed ∙ f.printed ∙ ap (print f.tree) c.printed); holds = c.holds }

more-means : (o : Option Op2) (t : Token) (k j : List Symbol) (K : List Token → Type 0) (ts : List Token) → infix_of t.class ≡ o → cond (has o) (Some (Operand ∷ More ∷ k)) None ≡ Some j → MeansAll j K ts
    → (e : Expr) → IsExpr e → Joined (MeansAll k K) e (t ∷ ts)
more-means (Some op) t k j K ts i h m e x =
    let o = moved (Operand ∷ More ∷ k) j K ts h m in
    let f = o.holds (insert e op t o.tree) (insert-is e op t o.tree x o.is.0 o.is.1 i) in
    record { tree = f.tree; is = f.is; after = f.after; printed = ap (λ y. print e (t ∷ y)) o.printed ∙ sym (insert-print e op t o.tree o.after) ∙ f.printed; holds = f.holds }
more-means None t k j K ts i h m e x = absurd (cc)

-- tests
test-means : (l : TestLead) (t : Token) (k j : List Symbol) (K : List Token → Type 0) (ts : List Token) → TestLeadIs l t.class → test_step l k ≡ Some j → MeansAll j K ts → TestOperandIn (MeansAll k K) (t ∷ ts)
test-means test_lead.Signal t k j K ts e h m = record { tree = SignalTest t; is = (e, refl); after = ts; printed = refl; holds = moved k j K ts h m }
test-means test_lead.Not t k j K ts e h m =
    let o = moved (TestOperand ∷ k) j K ts h m in
    record { tree = NotTest t o.tree; is = ((e, o.is.1, o.is.0), refl); after = o.after; printed = cons t o.printed; holds = o.holds }
test-means test_lead.Open t k j K ts e h m =
    let o = moved (TestOperand ∷ MoreTest ∷ T (Mark mark.CloseParen) ∷ k) j K ts h m in
    let f = o.holds o.tree o.is.0 in
    let c = f.holds in
    record { tree = GroupTest t f.tree c.tree; is = ((e, f.is, c.is), refl); after = c.after; printed = cons t (o.printed ∙ f.printed ∙ ap (print_test f.tree) c.printed); holds = c.holds }
test-means test_lead.Nothing t k j K ts e h m = absurd (cc)

more_test-means : (o : Option Join) (t : Token) (k j : List Symbol) (K : List Token → Type 0) (ts : List Token) → join_of t.class ≡ o → cond (has o) (Some (TestOperand ∷ MoreTest ∷ k)) None ≡ Some j → MeansAll j K ts
    → (e : Test) → IsTest e → TestJoined (MeansAll k K) e (t ∷ ts)
more_test-means (Some op) t k j K ts i h m e x =
    let o = moved (TestOperand ∷ MoreTest ∷ k) j K ts h m in
    let f = o.holds (insert_test e op t o.tree) (insert_test-is e op t o.tree x o.is.0 o.is.1 i) in
    record { tree = f.tree; is = f.is; after = f.after; printed = ap (λ y. print_test e (t ∷ y)) o.printed ∙ sym (insert_test-print e op t o.tree o.after) ∙ f.printed; holds = f.holds }
more_test-means None t k j K ts i h m e x = absurd (cc)

-- an expression and a test where their symbols stand
expr-in : (K : List Token → Type 0) (k : List Symbol) (ts : List Token) → MeansAll (Operand ∷ More ∷ k) K ts → In Expr IsExpr print (MeansAll k K) ts
expr-in K k ts o = let f = o.holds o.tree o.is.0 in record { tree = f.tree; is = f.is; after = f.after; printed = o.printed ∙ f.printed; holds = f.holds }

test-in : (K : List Token → Type 0) (k : List Symbol) (ts : List Token) → MeansAll (TestOperand ∷ MoreTest ∷ k) K ts → In Test IsTest print_test (MeansAll k K) ts
test-in K k ts o = let f = o.holds o.tree o.is.0 in record { tree = f.tree; is = f.is; after = f.after; printed = o.printed ∙ f.printed; holds = f.holds }

-- `(` [ `immediate` ] test `)`
abbrev guard_of : Token → Option Token → Test → Token → Guard
guard_of o None t c = Later o t c
guard_of o (Some i) t c = AtOnce o i t c

guard-print : (o : Token) (i : Option Token) (t : Test) (c : Token) (after : List Token) → o ∷ show_optional i (print_test t (c ∷ after)) ≡ print_guard (guard_of o i t c) after
guard-print o None t c after = refl
guard-print o (Some i) t c after = refl

guard-is : (o : Token) (i : Option Token) (t : Test) (c : Token) → IsMark mark.OpenParen o → IsImmediate i → IsTest t → IsMark mark.CloseParen c → IsGuard (guard_of o i t c)
guard-is o None t c h g e f = (h, e, f)
guard-is o (Some i) t c h g e f = (h, g, e, f)

guard-in : (K : List Token → Type 0) (k : List Symbol) (ts : List Token) → MeansAll (guard_then k) K ts → In Guard IsGuard print_guard (MeansAll k K) ts
guard-in K k ts o =
    let i = o.holds in
    let t = test-in K (T (Mark mark.CloseParen) ∷ k) i.after i.holds in
    let c = t.holds in
    record {
      tree = guard_of o.tree i.tree t.tree c.tree;
      is = guard-is o.tree i.tree t.tree c.tree o.is i.is t.is c.is;
      after = c.after;
      printed = o.printed ∙ cons o.tree (i.printed ∙ ap (show_optional i.tree) (t.printed ∙ ap (print_test t.tree) c.printed)) ∙ guard-print o.tree i.tree t.tree c.tree c.after;
      holds = c.holds;
    }

-- statements
start-means : (x : Start) (t : Token) (k j : List Symbol) (K : List Token → Type 0) (ts : List Token) → StartIs x t.class → start_step x k ≡ Some j → MeansAll j K ts → StmtIn (MeansAll k K) (t ∷ ts)
start-means start.Empty t k j K ts e h m = record { tree = EmptyStmt t; is = e; after = ts; printed = refl; holds = moved k j K ts h m }
start-means start.Braces t k j K ts e h m =
    let b = moved (Statements ∷ T (Mark mark.CloseBrace) ∷ OthersPart mark.Either ∷ k) j K ts h m in
    let c = b.holds in
    let o = c.holds in
    record {
      tree = ParStmt (Braces t b.tree c.tree) o.tree;
      is = ((e, b.is, c.is), o.is);
      after = o.after;
      printed = cons t (b.printed ∙ ap (print_stmts b.tree) (c.printed ∙ cons c.tree o.printed));
      holds = o.holds;
    }
start-means start.Still t k j K ts e h m =
    let s = moved (T (Mark mark.Semicolon) ∷ k) j K ts h m in
    record { tree = StillStmt t s.tree; is = (e, s.is); after = s.after; printed = cons t s.printed; holds = s.holds }
start-means start.Emit t k j K ts e h m =
    let n = moved (T Name ∷ ValuePart ∷ T (Mark mark.Semicolon) ∷ k) j K ts h m in
    let v = n.holds in
    let s = v.holds in
    record {
      tree = EmitStmt t n.tree v.tree s.tree;
      is = (e, n.is, v.is, s.is);
      after = s.after;
      printed = cons t (n.printed ∙ cons n.tree (v.printed ∙ ap (print_given v.tree) s.printed));
      holds = s.holds;
    }
start-means start.Signal t k j K ts e h m =
    let n = moved (T Name ∷ T (Mark mark.Semicolon) ∷ k) j K ts h m in
    let s = n.holds in
    record { tree = SignalStmt (Pure t n.tree s.tree); is = (e, n.is, s.is); after = s.after; printed = cons t (n.printed ∙ cons n.tree s.printed); holds = s.holds }
start-means (start.Kind kind) t k j K ts e h m = moved (AfterKind ∷ k) j K ts h m kind t e
start-means start.Name t k j K ts e h m =
    let a = moved (AssignSign ∷ Operand ∷ More ∷ T (Mark mark.Semicolon) ∷ k) j K ts h m in
    let x = expr-in K (T (Mark mark.Semicolon) ∷ k) a.after a.holds in
    let s = x.holds in
    let op = value-of (assign_of a.tree.class) a.is in
    record {
      tree = AssignStmt op.0 t a.tree x.tree s.tree;
      is = (e, op.1, x.is, s.is);
      after = s.after;
      printed = cons t (a.printed ∙ cons a.tree (x.printed ∙ ap (print x.tree) s.printed));
      holds = s.holds;
    }
start-means start.If t k j K ts e h m =
    let o = moved (T (Mark mark.OpenParen) ∷ Operand ∷ More ∷ T (Mark mark.CloseParen) ∷ InBraces ∷ ElsePart ∷ k) j K ts h m in
    let x = expr-in K (T (Mark mark.CloseParen) ∷ InBraces ∷ ElsePart ∷ k) o.after o.holds in
    let c = x.holds in
    let b = c.holds in
    let other = b.holds in
    record {
      tree = IfStmt t o.tree x.tree c.tree b.tree other.tree;
      is = (e, o.is, x.is, c.is, b.is, other.is);
      after = other.after;
      printed = cons t (o.printed ∙ cons o.tree (x.printed ∙ ap (print x.tree) (c.printed ∙ cons c.tree (b.printed ∙ ap (print_block b.tree) other.printed))));
      holds = other.holds;
    }
start-means start.Present t k j K ts e h m =
    let o = moved (T (Mark mark.OpenParen) ∷ TestOperand ∷ MoreTest ∷ T (Mark mark.CloseParen) ∷ InBraces ∷ ElsePart ∷ k) j K ts h m in
    let x = test-in K (T (Mark mark.CloseParen) ∷ InBraces ∷ ElsePart ∷ k) o.after o.holds in
    let c = x.holds in
    let b = c.holds in
    let other = b.holds in
    record {
      tree = PresentStmt t o.tree x.tree c.tree b.tree other.tree;
      is = (e, o.is, x.is, c.is, b.is, other.is);
      after = other.after;
      printed = cons t (o.printed ∙ cons o.tree (x.printed ∙ ap (print_test x.tree) (c.printed ∙ cons c.tree (b.printed ∙ ap (print_block b.tree) other.printed))));
      holds = other.holds;
    }
start-means start.While t k j K ts e h m =
    let o = moved (T (Mark mark.OpenParen) ∷ T (Reserved word.True) ∷ T (Mark mark.CloseParen) ∷ InBraces ∷ k) j K ts h m in
    let x = o.holds in
    let c = x.holds in
    let b = c.holds in
    record {
      tree = WhileStmt t o.tree x.tree c.tree b.tree;
      is = (e, o.is, x.is, c.is, b.is);
      after = b.after;
      printed = cons t (o.printed ∙ cons o.tree (x.printed ∙ cons x.tree (c.printed ∙ cons c.tree b.printed)));
      holds = b.holds;
    }
start-means start.Weak t k j K ts e h m =
    let a = moved (T (Reserved word.Abort) ∷ guard_then (InBraces ∷ k)) j K ts h m in
    let g = guard-in K (InBraces ∷ k) a.after a.holds in
    let b = g.holds in
    record {
      tree = WeakStmt t a.tree g.tree b.tree;
      is = (e, a.is, g.is, b.is);
      after = b.after;
      printed = cons t (a.printed ∙ cons a.tree (g.printed ∙ ap (print_guard g.tree) b.printed));
      holds = b.holds;
    }
start-means start.Guarded t k j K ts e h m =
    let g = guard-in K (InBraces ∷ k) ts (moved (guard_then (InBraces ∷ k)) j K ts h m) in
    let b = g.holds in
    record { tree = GuardedStmt t g.tree b.tree; is = (e, g.is, b.is); after = b.after; printed = cons t (g.printed ∙ ap (print_guard g.tree) b.printed); holds = b.holds }
start-means start.Trap t k j K ts e h m =
    let o = moved (T (Mark mark.OpenParen) ∷ T Name ∷ T (Mark mark.CloseParen) ∷ InBraces ∷ k) j K ts h m in
    let x = o.holds in
    let c = x.holds in
    let b = c.holds in
    record {
      tree = TrapStmt t o.tree x.tree c.tree b.tree;
      is = (e, o.is, x.is, c.is, b.is);
      after = b.after;
      printed = cons t (o.printed ∙ cons o.tree (x.printed ∙ cons x.tree (c.printed ∙ cons c.tree b.printed)));
      holds = b.holds;
    }
start-means start.Exit t k j K ts e h m =
    let o = moved (T (Mark mark.OpenParen) ∷ T Name ∷ T (Mark mark.CloseParen) ∷ T (Mark mark.Semicolon) ∷ k) j K ts h m in
    let x = o.holds in
    let c = x.holds in
    let s = c.holds in
    record {
      tree = ExitStmt t o.tree x.tree c.tree s.tree;
      is = (e, o.is, x.is, c.is, s.is);
      after = s.after;
      printed = cons t (o.printed ∙ cons o.tree (x.printed ∙ cons x.tree (c.printed ∙ cons c.tree s.printed)));
      holds = s.holds;
    }
start-means start.Send t k j K ts e h m =
    let n = moved (T Name ∷ T (Mark mark.OpenParen) ∷ Operand ∷ More ∷ T (Mark mark.CloseParen) ∷ T (Mark mark.Semicolon) ∷ k) j K ts h m in
    let o = n.holds in
    let x = expr-in K (T (Mark mark.CloseParen) ∷ T (Mark mark.Semicolon) ∷ k) o.after o.holds in
    let c = x.holds in
    let s = c.holds in
    record {
      tree = SendStmt t n.tree o.tree x.tree c.tree s.tree;
      is = (e, n.is, o.is, x.is, c.is, s.is);
      after = s.after;
      printed = cons t (n.printed ∙ cons n.tree (o.printed ∙ cons o.tree (x.printed ∙ ap (print x.tree) (c.printed ∙ cons c.tree s.printed))));
      holds = s.holds;
    }
start-means start.Receive t k j K ts e h m =
    let n = moved (T Name ∷ T (Mark mark.Semicolon) ∷ k) j K ts h m in
    let s = n.holds in
    record { tree = ReceiveStmt t n.tree s.tree; is = (e, n.is, s.is); after = s.after; printed = cons t (n.printed ∙ cons n.tree s.printed); holds = s.holds }
start-means start.Await t k j K ts e h m =
    let g = guard-in K (T (Mark mark.Semicolon) ∷ k) ts (moved (guard_then (T (Mark mark.Semicolon) ∷ k)) j K ts h m) in
    let s = g.holds in
    record { tree = AwaitStmt t g.tree s.tree; is = (e, g.is, s.is); after = s.after; printed = cons t (g.printed ∙ ap (print_guard g.tree) s.printed); holds = s.holds }
start-means start.Loop t k j K ts e h m =
    let b = moved (InBraces ∷ T (Reserved word.Each) ∷ T (Mark mark.OpenParen) ∷ TestOperand ∷ MoreTest ∷ T (Mark mark.CloseParen) ∷ T (Mark mark.Semicolon) ∷ k) j K ts h m in
    let v = b.holds in
    let o = v.holds in
    let x = test-in K (T (Mark mark.CloseParen) ∷ T (Mark mark.Semicolon) ∷ k) o.after o.holds in
    let c = x.holds in
    let s = c.holds in
    record {
      tree = LoopStmt t b.tree v.tree o.tree x.tree c.tree s.tree;
      is = (e, b.is, v.is, o.is, x.is, c.is, s.is);
      after = s.after;
      printed = cons t (b.printed ∙ ap (print_block b.tree) (v.printed ∙ cons v.tree (o.printed ∙ cons o.tree (x.printed ∙ ap (print_test x.tree) (c.printed ∙ cons c.tree s.printed)))));
      holds = s.holds;
    }
start-means start.Nothing t k j K ts e h m = absurd (cc)

one-more : (K : List Token → Type 0) (ts : List Token) → StmtIn (In Stmts IsStmts print_stmts K) ts → In Stmts IsStmts print_stmts K ts
one-more K ts s = let r = s.holds in record { tree = Then s.tree r.tree; is = (s.is, r.is); after = r.after; printed = s.printed ∙ ap (print_stmt s.tree) r.printed; holds = r.holds }

-- one token of a class
token-means : (b : Bool) (c : Class) (t : Token) (k j : List Symbol) (K : List Token → Type 0) (ts : List Token) → same c t.class ≡ b → cond b (Some k) None ≡ Some j → MeansAll j K ts → TokenIn (λ u. u.class ≡ c) (MeansAll k K) (t ∷ ts)
token-means true c t k j K ts e h m = record { tree = t; is = same-class c t.class e; after = ts; printed = refl; holds = moved k j K ts h m }
token-means false c t k j K ts e h m = absurd (cc)

immediate-means : (b : Bool) (t : Token) (k j : List Symbol) (K : List Token → Type 0) (ts : List Token) → same (Reserved word.Immediate) t.class ≡ b → cond b (Some k) None ≡ Some j → MeansAll j K ts
    → In (Option Token) IsImmediate show_optional (MeansAll k K) (t ∷ ts)
immediate-means true t k j K ts e h m = record { tree = Some t; is = same-class (Reserved word.Immediate) t.class e; after = ts; printed = refl; holds = moved k j K ts h m }
immediate-means false t k j K ts e h m = absurd (cc)

braces-means : (b : Bool) (t : Token) (k j : List Symbol) (K : List Token → Type 0) (ts : List Token) → same (Mark mark.OpenBrace) t.class ≡ b → cond b (Some (Statements ∷ T (Mark mark.CloseBrace) ∷ k)) None ≡ Some j → MeansAll j K ts
    → In Block IsBlock print_block (MeansAll k K) (t ∷ ts)
braces-means true t k j K ts e h m =
    let b = moved (Statements ∷ T (Mark mark.CloseBrace) ∷ k) j K ts h m in
    let c = b.holds in
    record { tree = Braces t b.tree c.tree; is = (same-class (Mark mark.OpenBrace) t.class e, b.is, c.is); after = c.after; printed = cons t (b.printed ∙ ap (print_stmts b.tree) c.printed); holds = c.holds }
braces-means false t k j K ts e h m = absurd (cc)

others-means : (b : Bool) (s : sign.Mark) (t : Token) (k j : List Symbol) (K : List Token → Type 0) (ts : List Token) → same (Mark s) t.class ≡ b → cond b (Some (InBraces ∷ OthersPart s ∷ k)) None ≡ Some j → MeansAll j K ts
    → In Others (IsOthers s) print_others (MeansAll k K) (t ∷ ts)
others-means true s t k j K ts e h m =
    let b = moved (InBraces ∷ OthersPart s ∷ k) j K ts h m in
    let o = b.holds in
    record { tree = Beside t b.tree o.tree; is = (same-class (Mark s) t.class e, b.is, o.is); after = o.after; printed = cons t (b.printed ∙ ap (print_block b.tree) o.printed); holds = o.holds }
others-means false s t k j K ts e h m = absurd (cc)

else-means : (b : Bool) (t : Token) (k j : List Symbol) (K : List Token → Type 0) (ts : List Token) → same (Reserved word.Else) t.class ≡ b → cond b (Some (InBraces ∷ k)) None ≡ Some j → MeansAll j K ts
    → In Other IsOther print_other (MeansAll k K) (t ∷ ts)
else-means true t k j K ts e h m =
    let b = moved (InBraces ∷ k) j K ts h m in
    record { tree = ElseBlock t b.tree; is = (same-class (Reserved word.Else) t.class e, b.is); after = b.after; printed = cons t b.printed; holds = b.holds }
else-means false t k j K ts e h m = absurd (cc)

given-means : (b : Bool) (t : Token) (k j : List Symbol) (K : List Token → Type 0) (ts : List Token) → same (Mark mark.OpenParen) t.class ≡ b → cond b (Some (Operand ∷ More ∷ T (Mark mark.CloseParen) ∷ k)) None ≡ Some j → MeansAll j K ts
    → In Given IsGiven print_given (MeansAll k K) (t ∷ ts)
given-means true t k j K ts e h m =
    let x = expr-in K (T (Mark mark.CloseParen) ∷ k) ts (moved (Operand ∷ More ∷ T (Mark mark.CloseParen) ∷ k) j K ts h m) in
    let c = x.holds in
    record { tree = Value t x.tree c.tree; is = (same-class (Mark mark.OpenParen) t.class e, x.is, c.is); after = c.after; printed = cons t (x.printed ∙ ap (print x.tree) c.printed); holds = c.holds }
given-means false t k j K ts e h m = absurd (cc)

sign-means : (b : Bool) (t : Token) (k j : List Symbol) (K : List Token → Type 0) (ts : List Token) → has (assign_of t.class) ≡ b → cond b (Some k) None ≡ Some j → MeansAll j K ts
    → TokenIn (λ u. has (assign_of u.class) ≡ true) (MeansAll k K) (t ∷ ts)
sign-means true t k j K ts e h m = record { tree = t; is = e; after = ts; printed = refl; holds = moved k j K ts h m }
sign-means false t k j K ts e h m = absurd (cc)

operator-means : (b : Bool) (t : Token) (k j : List Symbol) (K : List Token → Type 0) (ts : List Token) → has (combine_of t.class) ≡ b → cond b (Some k) None ≡ Some j → MeansAll j K ts
    → TokenIn (λ u. has (combine_of u.class) ≡ true) (MeansAll k K) (t ∷ ts)
operator-means true t k j K ts e h m = record { tree = t; is = e; after = ts; printed = refl; holds = moved k j K ts h m }
operator-means false t k j K ts e h m = absurd (cc)

combined-means : (b : Bool) (t : Token) (k j : List Symbol) (K : List Token → Type 0) (ts : List Token) → same (Reserved word.Combine) t.class ≡ b → cond b (Some (CombineSign ∷ k)) None ≡ Some j → MeansAll j K ts
    → In Combined IsCombined print_combined (MeansAll k K) (t ∷ ts)
combined-means true t k j K ts e h m =
    let s = moved (CombineSign ∷ k) j K ts h m in
    let op = value-of (combine_of s.tree.class) s.is in
    record { tree = CombinedBy op.0 t s.tree; is = (same-class (Reserved word.Combine) t.class e, op.1); after = s.after; printed = cons t s.printed; holds = s.holds }
combined-means false t k j K ts e h m = absurd (cc)

-- NAME [ `combine` operator ] `;` after a kind and `signal`
valued-in : (kind : Kind) (v w : Token) (k : List Symbol) (K : List Token → Type 0) (ts : List Token) → kind_of v.class ≡ Some kind → IsWord word.Signal w → MeansAll (T Name ∷ CombinePart ∷ T (Mark mark.Semicolon) ∷ k) K ts
    → In Declared IsDeclared print_declared (MeansAll k K) (v ∷ w ∷ ts)
valued-in kind v w k K ts h g n =
    let c = n.holds in
    let s = c.holds in
    record {
      tree = Valued kind v w n.tree c.tree s.tree;
      is = (h, g, n.is, c.is, s.is);
      after = s.after;
      printed = cons v (cons w (n.printed ∙ cons n.tree (c.printed ∙ ap (print_combined c.tree) s.printed)));
      holds = s.holds;
    }

kind-means : (a b : Bool) (t : Token) (k j : List Symbol) (K : List Token → Type 0) (ts : List Token) → same (Reserved word.Signal) t.class ≡ a → same Name t.class ≡ b
    → cond a (Some (T Name ∷ CombinePart ∷ T (Mark mark.Semicolon) ∷ k)) (cond b (Some (T (Mark mark.Assign) ∷ Operand ∷ More ∷ T (Mark mark.Semicolon) ∷ k)) None) ≡ Some j → MeansAll j K ts
    → (kind : Kind) (v : Token) → kind_of v.class ≡ Some kind → StmtIn (MeansAll k K) (v ∷ t ∷ ts)
kind-means true b t k j K ts e f h m kind v g =
    let d = valued-in kind v t k K ts g (same-class (Reserved word.Signal) t.class e) (moved (T Name ∷ CombinePart ∷ T (Mark mark.Semicolon) ∷ k) j K ts h m) in
    record { tree = SignalStmt d.tree; is = d.is; after = d.after; printed = d.printed; holds = d.holds }
kind-means false true t k j K ts e f h m kind v g =
    let a = moved (T (Mark mark.Assign) ∷ Operand ∷ More ∷ T (Mark mark.Semicolon) ∷ k) j K ts h m in
    let x = expr-in K (T (Mark mark.Semicolon) ∷ k) a.after a.holds in
    let s = x.holds in
    record {
      tree = VariableStmt kind v t a.tree x.tree s.tree;
      is = (g, same-class Name t.class f, a.is, x.is, s.is);
      after = s.after;
      printed = cons v (cons t (a.printed ∙ cons a.tree (x.printed ∙ ap (print x.tree) s.printed)));
      holds = s.holds;
    }
kind-means false false t k j K ts e f h m kind v g = absurd (cc)

-- the interface
signal-means : (a : Bool) (o : Option Kind) (t : Token) (k j : List Symbol) (K : List Token → Type 0) (ts : List Token) → same (Reserved word.Signal) t.class ≡ a → kind_of t.class ≡ o
    → cond a (Some (T Name ∷ T (Mark mark.Semicolon) ∷ k)) (cond (has o) (Some (T (Reserved word.Signal) ∷ T Name ∷ CombinePart ∷ T (Mark mark.Semicolon) ∷ k)) None) ≡ Some j → MeansAll j K ts
    → In Declared IsDeclared print_declared (MeansAll k K) (t ∷ ts)
signal-means true o t k j K ts e f h m =
    let n = moved (T Name ∷ T (Mark mark.Semicolon) ∷ k) j K ts h m in
    let s = n.holds in
    record { tree = Pure t n.tree s.tree; is = (same-class (Reserved word.Signal) t.class e, n.is, s.is); after = s.after; printed = cons t (n.printed ∙ cons n.tree s.printed); holds = s.holds }
signal-means false (Some kind) t k j K ts e f h m =
    let w = moved (T (Reserved word.Signal) ∷ T Name ∷ CombinePart ∷ T (Mark mark.Semicolon) ∷ k) j K ts h m in
    let d = valued-in kind t w.tree k K w.after f w.is w.holds in
    record { tree = d.tree; is = d.is; after = d.after; printed = cons t w.printed ∙ d.printed; holds = d.holds }
signal-means false None t k j K ts e f h m = absurd (cc)

ports-means : (o : Option Direction) (p : Option Kind) (t : Token) (k j : List Symbol) (K : List Token → Type 0) (ts : List Token) → direction_of t.class ≡ o → kind_of t.class ≡ p
    → cond (has o) (Some (SignalPart ∷ PortList ∷ k)) (cond (has p) (Some (T (Reserved word.Channel) ∷ T Name ∷ T (Mark mark.Semicolon) ∷ PortList ∷ k)) None) ≡ Some j → MeansAll j K ts
    → In Ports IsPorts print_ports (MeansAll k K) (t ∷ ts)
ports-means (Some d) p t k j K ts e f h m =
    let s = moved (SignalPart ∷ PortList ∷ k) j K ts h m in
    let r = s.holds in
    record { tree = PortThen (SignalPort d t s.tree) r.tree; is = ((e, s.is), r.is); after = r.after; printed = cons t (s.printed ∙ ap (print_declared s.tree) r.printed); holds = r.holds }
ports-means None (Some kind) t k j K ts e f h m =
    let w = moved (T (Reserved word.Channel) ∷ T Name ∷ T (Mark mark.Semicolon) ∷ PortList ∷ k) j K ts h m in
    let n = w.holds in
    let s = n.holds in
    let r = s.holds in
    record {
      tree = PortThen (ChannelPort kind t w.tree n.tree s.tree) r.tree;
      is = ((f, w.is, n.is, s.is), r.is);
      after = r.after;
      printed = cons t (w.printed ∙ cons w.tree (n.printed ∙ cons n.tree (s.printed ∙ cons s.tree r.printed)));
      holds = r.holds;
    }
ports-means None None t k j K ts e f h m = absurd (cc)

expand-means : (s : Symbol) (t : Token) (k j : List Symbol) (K : List Token → Type 0) (ts : List Token) → expand s t.class k ≡ Some j → MeansAll j K ts → Means s (MeansAll k K) (t ∷ ts)
expand-means (T c) t k j K ts h m = token-means (same c t.class) c t k j K ts refl h m
expand-means Operand t k j K ts h m = lead-means (lead_of t.class) t k j K ts (lead-is t.class) h m
expand-means AfterMinus t k j K ts h m = minus-means (is_edge t.class) t k j K ts refl h m
expand-means AfterOpen t k j K ts h m = open-means (kind_of t.class) t k j K ts refl h m
expand-means More t k j K ts h m = more-means (infix_of t.class) t k j K ts refl h m
expand-means TestOperand t k j K ts h m = test-means (test_lead_of t.class) t k j K ts (test-lead-is t.class) h m
expand-means MoreTest t k j K ts h m = more_test-means (join_of t.class) t k j K ts refl h m
expand-means ImmediatePart t k j K ts h m = immediate-means (same (Reserved word.Immediate) t.class) t k j K ts refl h m
expand-means InBraces t k j K ts h m = braces-means (same (Mark mark.OpenBrace) t.class) t k j K ts refl h m
expand-means Statements t k j K ts h m = one-more (MeansAll k K) (t ∷ ts) (start-means (start_of t.class) t (Statements ∷ k) j K ts (start-is t.class) h m)
expand-means (OthersPart s) t k j K ts h m = others-means (same (Mark s) t.class) s t k j K ts refl h m
expand-means ElsePart t k j K ts h m = else-means (same (Reserved word.Else) t.class) t k j K ts refl h m
expand-means ValuePart t k j K ts h m = given-means (same (Mark mark.OpenParen) t.class) t k j K ts refl h m
expand-means AssignSign t k j K ts h m = sign-means (has (assign_of t.class)) t k j K ts refl h m
expand-means AfterKind t k j K ts h m = kind-means (same (Reserved word.Signal) t.class) (same Name t.class) t k j K ts refl refl h m
expand-means CombinePart t k j K ts h m = combined-means (same (Reserved word.Combine) t.class) t k j K ts refl h m
expand-means CombineSign t k j K ts h m = operator-means (has (combine_of t.class)) t k j K ts refl h m
expand-means PortList t k j K ts h m = ports-means (direction_of t.class) (kind_of t.class) t k j K ts refl refl h m
expand-means SignalPart t k j K ts h m = signal-means (same (Reserved word.Signal) t.class) (kind_of t.class) t k j K ts refl refl h m

end-means : (s : Symbol) (K : List Token → Type 0) (ts : List Token) → may_end s ≡ true → K ts → Means s K ts
end-means More K ts h m = λ e x. record { tree = e; is = x; after = ts; printed = refl; holds = m }
end-means MoreTest K ts h m = λ e x. record { tree = e; is = x; after = ts; printed = refl; holds = m }
end-means ImmediatePart K ts h m = record { tree = None; is = tt; after = ts; printed = refl; holds = m }
end-means Statements K ts h m = record { tree = Done; is = tt; after = ts; printed = refl; holds = m }
end-means (OthersPart s) K ts h m = record { tree = NoOther; is = tt; after = ts; printed = refl; holds = m }
end-means ElsePart K ts h m = record { tree = NoElse; is = tt; after = ts; printed = refl; holds = m }
end-means ValuePart K ts h m = record { tree = NoValue; is = tt; after = ts; printed = refl; holds = m }
end-means CombinePart K ts h m = record { tree = NotCombined; is = tt; after = ts; printed = refl; holds = m }
end-means PortList K ts h m = record { tree = NoPort; is = tt; after = ts; printed = refl; holds = m }
end-means _ K ts h m = absurd (cc)

next-cases : (o : Option (List Symbol)) (b : Bool) (s : Symbol) (t : Token) (k j : List Symbol) (K : List Token → Type 0) (ts : List Token) → expand s t.class k ≡ o → may_end s ≡ b
    → or_else o (cond b (next k t.class) None) ≡ Some j → MeansAll j K ts → (next k t.class ≡ Some j → MeansAll k K (t ∷ ts)) → Means s (MeansAll k K) (t ∷ ts)
next-cases (Some x) b s t k j K ts e f h m r = expand-means s t k x K ts e (moved x j K ts h m)
next-cases None true s t k j K ts e f h m r = end-means s (MeansAll k K) (t ∷ ts) f (r h)
next-cases None false s t k j K ts e f h m r = absurd (cc)

pub next-means : (k : List Symbol) (t : Token) (j : List Symbol) (K : List Token → Type 0) (ts : List Token) → next k t.class ≡ Some j → MeansAll j K ts → MeansAll k K (t ∷ ts)
next-means [] t j K ts h m = absurd (cc)
next-means (s ∷ k) t j K ts h m = next-cases (expand s t.class k) (may_end s) s t k j K ts refl refl h m (λ g. next-means k t j K ts g m)

steps-cases : (o : Option (List Symbol)) (k : List Symbol) (t : Token) (ts : List Token) (j : List Symbol) (K : List Token → Type 0) (rest : List Token) → next k t.class ≡ o
    → elim o [ None ↦ None | Some i ↦ steps i ts ] ≡ Some j → ((i : List Symbol) → steps i ts ≡ Some j → MeansAll i K (ts ++ rest)) → MeansAll k K (t ∷ (ts ++ rest))
steps-cases None k t ts j K rest e h r = absurd (cc)
steps-cases (Some i) k t ts j K rest e h r = next-means k t i K (ts ++ rest) e (r i h)

pub steps-mean : (ts : List Token) (k j : List Symbol) (K : List Token → Type 0) (rest : List Token) → steps k ts ≡ Some j → MeansAll j K rest → MeansAll k K (ts ++ rest)
steps-mean [] k j K rest h m = moved k j K rest h m
steps-mean (t ∷ ts) k j K rest h m = steps-cases (next k t.class) k t ts j K rest refl h (λ i g. steps-mean ts i j K rest g m)

abbrev pub IsNothing : List Token → Type 0
IsNothing ts = ts ≡ []

-- a token of the class
abbrev of : Class → Token
of c = record { class = c; start = 0; end = 0 }

-- tokens that the symbols stand for
pub record Closing (k : List Symbol) : Type 0 where
  pub tokens : List Token
  pub mean : MeansAll k IsNothing tokens

closed : (s : Symbol) (k : List Symbol) → Closing k → Closing (s ∷ k)
closed (T c) k r = record { tokens = of c ∷ r.tokens; mean = record { tree = of c; is = refl; after = r.tokens; printed = refl; holds = r.mean } }
closed Operand k r = record { tokens = of Name ∷ r.tokens; mean = record { tree = Atom (of Name); is = (refl, refl); after = r.tokens; printed = refl; holds = r.mean } }
closed AfterMinus k r = record { tokens = of Name ∷ r.tokens; mean = λ m h. record { tree = Prefix op1.Minus m (Atom (of Name)); is = ((ap sign_of h, refl, refl), refl); after = r.tokens; printed = refl; holds = r.mean } }
closed AfterOpen k r = record {
  tokens = of Name ∷ of (Mark mark.CloseParen) ∷ r.tokens;
  mean = λ o h. record { tree = Group o (Atom (of Name)) (of (Mark mark.CloseParen)); is = ((h, refl, refl), refl); after = r.tokens; printed = refl; holds = r.mean };
}
closed TestOperand k r = record { tokens = of Name ∷ r.tokens; mean = record { tree = SignalTest (of Name); is = (refl, refl); after = r.tokens; printed = refl; holds = r.mean } }
closed InBraces k r = record {
  tokens = of (Mark mark.OpenBrace) ∷ of (Mark mark.CloseBrace) ∷ r.tokens;
  mean = record { tree = Braces (of (Mark mark.OpenBrace)) Done (of (Mark mark.CloseBrace)); is = (refl, tt, refl); after = r.tokens; printed = refl; holds = r.mean };
}
closed AssignSign k r = record { tokens = of (Mark mark.Assign) ∷ r.tokens; mean = record { tree = of (Mark mark.Assign); is = refl; after = r.tokens; printed = refl; holds = r.mean } }
closed AfterKind k r = record {
  tokens = of Name ∷ of (Mark mark.Assign) ∷ of Name ∷ of (Mark mark.Semicolon) ∷ r.tokens;
  mean = λ kind v h. record {
    tree = VariableStmt kind v (of Name) (of (Mark mark.Assign)) (Atom (of Name)) (of (Mark mark.Semicolon));
    is = (h, refl, refl, refl, refl);
    after = r.tokens;
    printed = refl;
    holds = r.mean;
  };
}
closed CombineSign k r = record { tokens = of (Mark mark.Plus) ∷ r.tokens; mean = record { tree = of (Mark mark.Plus); is = refl; after = r.tokens; printed = refl; holds = r.mean } }
closed SignalPart k r = record {
  tokens = of (Reserved word.Signal) ∷ of Name ∷ of (Mark mark.Semicolon) ∷ r.tokens;
  mean = record { tree = Pure (of (Reserved word.Signal)) (of Name) (of (Mark mark.Semicolon)); is = (refl, refl, refl); after = r.tokens; printed = refl; holds = r.mean };
}
closed More k r = record { tokens = r.tokens; mean = end-means More (MeansAll k IsNothing) r.tokens refl r.mean }
closed MoreTest k r = record { tokens = r.tokens; mean = end-means MoreTest (MeansAll k IsNothing) r.tokens refl r.mean }
closed ImmediatePart k r = record { tokens = r.tokens; mean = end-means ImmediatePart (MeansAll k IsNothing) r.tokens refl r.mean }
closed Statements k r = record { tokens = r.tokens; mean = end-means Statements (MeansAll k IsNothing) r.tokens refl r.mean }
closed (OthersPart s) k r = record { tokens = r.tokens; mean = end-means (OthersPart s) (MeansAll k IsNothing) r.tokens refl r.mean }
closed ElsePart k r = record { tokens = r.tokens; mean = end-means ElsePart (MeansAll k IsNothing) r.tokens refl r.mean }
closed ValuePart k r = record { tokens = r.tokens; mean = end-means ValuePart (MeansAll k IsNothing) r.tokens refl r.mean }
closed CombinePart k r = record { tokens = r.tokens; mean = end-means CombinePart (MeansAll k IsNothing) r.tokens refl r.mean }
closed PortList k r = record { tokens = r.tokens; mean = end-means PortList (MeansAll k IsNothing) r.tokens refl r.mean }

pub closing : (k : List Symbol) → Closing k
closing [] = record { tokens = []; mean = refl }
closing (s ∷ k) = closed s k (closing k)

-- symbols that may stand for no token
pub all-end : (k : List Symbol) → all_end k ≡ true → MeansAll k IsNothing []
all-end [] h = refl
all-end (s ∷ k) h = ends-first (may_end s) s k refl h (λ g. all-end k g)
  where
    ends-first : (b : Bool) (s : Symbol) (k : List Symbol) → may_end s ≡ b → (b && all_end k) ≡ true → (all_end k ≡ true → MeansAll k IsNothing []) → Means s (MeansAll k IsNothing) []
    ends-first true s k e h r = end-means s (MeansAll k IsNothing) [] e (r h)
    ends-first false s k e h r = absurd (cc)

expression-is : (ts : List Token) → MeansAll expression IsNothing ts → AreExpression ts
expression-is ts m = let x = expr-in IsNothing [] ts m in record { tree = x.tree; is_expr = x.is; printed = sym (x.printed ∙ ap (print x.tree) x.holds) }

test-is : (ts : List Token) → MeansAll test IsNothing ts → AreTest ts
test-is ts m = let x = test-in IsNothing [] ts m in record { tree = x.tree; is_test = x.is; printed = sym (x.printed ∙ ap (print_test x.tree) x.holds) }

program-is : (ts : List Token) → MeansAll program IsNothing ts → AreProgram ts
program-is ts s =
    let o = s.holds in
    let i = o.holds in
    let q = i.holds in
    let p = q.holds in
    let c = p.holds in
    let b = c.holds in
    let r = b.holds in
    let e = r.holds in
    record {
      tree = record { system = s.tree; open_system = o.tree; interface = i.tree; open_ports = q.tree; ports = p.tree; close_ports = c.tree; first = b.tree; others = r.tree; close_system = e.tree };
      is_program = record { system = s.is; open_system = o.is; interface = i.is; open_ports = q.is; ports = p.is; close_ports = c.is; first = b.is; others = r.is; close_system = e.is };
      printed = sym (s.printed ∙ cons s.tree (o.printed ∙ cons o.tree (i.printed ∙ cons i.tree (q.printed ∙ cons q.tree (p.printed ∙ ap (print_ports p.tree) (c.printed ∙ cons c.tree (b.printed ∙ ap (print_block b.tree) (r.printed ∙ ap (print_others r.tree) (e.printed ∙ cons e.tree e.holds)))))))));
    }

-- what can be read, with more tokens, is what the symbols stand for
pub begun-means : (k : List Symbol) (run : List Token) (j : List Symbol) → steps k run ≡ Some j → (more : List Token) × MeansAll k IsNothing (run ++ more)
begun-means k run j h = let c = closing j in (c.tokens, steps-mean run k j IsNothing c.tokens h c.mean)

pub begin-expression : (run : List Token) (j : List Symbol) → steps expression run ≡ Some j → BeginExpression run
begin-expression run j h = let m = begun-means expression run j h in record { more = m.0; whole = expression-is (run ++ m.0) m.1 }

pub begin-test : (run : List Token) (j : List Symbol) → steps test run ≡ Some j → BeginTest run
begin-test run j h = let m = begun-means test run j h in record { more = m.0; whole = test-is (run ++ m.0) m.1 }

pub begin-program : (run : List Token) (j : List Symbol) → steps program run ≡ Some j → BeginProgram run
begin-program run j h = let m = begun-means program run j h in record { more = m.0; whole = program-is (run ++ m.0) m.1 }

-- what can be read to an end is what the symbols stand for
pub whole-means : (k : List Symbol) (run : List Token) (j : List Symbol) → steps k run ≡ Some j → all_end j ≡ true → MeansAll k IsNothing run
whole-means k run j h e = let P : List Token → Type 0 = λ ts. MeansAll k IsNothing ts in subst P (append-nil run) (steps-mean run k j IsNothing [] h (all-end j e))

pub whole-expression : (run : List Token) (j : List Symbol) → steps expression run ≡ Some j → all_end j ≡ true → AreExpression run
whole-expression run j h e = expression-is run (whole-means expression run j h e)

pub whole-test : (run : List Token) (j : List Symbol) → steps test run ≡ Some j → all_end j ≡ true → AreTest run
whole-test run j h e = test-is run (whole-means test run j h e)

pub whole-program : (run : List Token) (j : List Symbol) → steps program run ≡ Some j → all_end j ≡ true → AreProgram run
whole-program run j h e = program-is run (whole-means program run j h e)
