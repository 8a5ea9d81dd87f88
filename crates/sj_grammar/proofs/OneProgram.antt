-- Tokens are printed by one program alone.
use Rattle.std.proofs.Common.{◌≡◌, ℕ, Bool, true, false, ◌==◌, ◌||◌, List, [], ◌∷◌, Option, Some, ap, refl, sym, ◌∙◌}
use Rattle.std.proofs.lemmas.Bool.{eq-eqb}
use Rattle.java_values.specs.declared.kind.Kind.{Kind}
use Rattle.sj_ast.specs.declared.port.Direction.{Direction}
use Rattle.sj_lexer.specs.declared.token.Class.{Class}
use Rattle.sj_lexer.specs.declared.token.Class.TheVariants.{Reserved, Name, Mark}
use Rattle.sj_lexer.specs.declared.token.Mark as sign
use Rattle.sj_lexer.specs.declared.token.Mark.TheVariants as mark
use Rattle.sj_lexer.specs.declared.token.Word.TheVariants as word
use Rattle.sj_lexer.specs.declared.token.Token.{Token}
use Rattle.sj_grammar.specs.declared.role.Start.{Start}
use Rattle.sj_grammar.specs.declared.role.Start.TheVariants as start
use Rattle.sj_grammar.specs.definitions.Classes.{same}
use Rattle.sj_grammar.specs.definitions.Roles.{start_of, kind_of, assign_of, combine_of, direction_of, infix_of, join_of, test_lead_of, has}
use Rattle.sj_grammar.specs.definitions.Expressions.{Expr, print, IsExpr}
use Rattle.sj_grammar.specs.definitions.Tests.{Test, print_test, IsTest}
use Rattle.sj_grammar.specs.definitions.Statements.{Given, NoValue, Value, print_given, IsGiven, Guard, Later, AtOnce, print_guard, IsGuard, Combined, NotCombined, CombinedBy, print_combined, IsCombined, Declared, Pure, Valued, print_declared, IsDeclared, Stmt, EmptyStmt, ParStmt, StillStmt, EmitStmt, SignalStmt, VariableStmt, AssignStmt, IfStmt, PresentStmt, WhileStmt, GuardedStmt, WeakStmt, TrapStmt, ExitStmt, SendStmt, ReceiveStmt, AwaitStmt, LoopStmt, Stmts, Done, Then, Block, Braces, Other, NoElse, ElseBlock, Others, NoOther, Beside, print_stmt, print_stmts, print_block, print_other, print_others, IsStmt, IsStmts, IsBlock, IsOther, IsOthers}
use Rattle.sj_grammar.specs.definitions.Programs.{Port, SignalPort, ChannelPort, print_port, IsPort, Ports, NoPort, PortThen, print_ports, IsPorts, Program, print_program, IsProgram}
use Rattle.sj_grammar.proofs.EqualClasses.{same-itself}
use Rattle.sj_grammar.proofs.ClassRoles.{still-start, emission-start, guarded-start, kind-start, tests, tests-no-immediate, kind-no-direction, second-false}
use Rattle.sj_grammar.proofs.PrintedStatements.{Plainly, leads-test, NoSign, plain-stmts, no-either}
use Rattle.sj_grammar.proofs.OneExpression.{NoInfix, expr-same, parts}
use Rattle.sj_grammar.proofs.OneTest.{NoJoin, test-same, parts as test-parts}

both : {t u : Token} {ts us : List Token} → t ∷ ts ≡ u ∷ us → (t ≡ u) × (ts ≡ us)
both h = (cc, cc)

no-infix : (c : Token) (a : List Token) (d : Class) → c.class ≡ d → has (infix_of d) ≡ false → NoInfix (c ∷ a)
no-infix c a d h g = record { none = λ t more e. (let s = both e in sym (ap (λ z. has (infix_of z.class)) s.0) ∙ ap (λ z. has (infix_of z)) h ∙ g) }

no-join : (c : Token) (a : List Token) (d : Class) → c.class ≡ d → has (join_of d) ≡ false → NoJoin (c ∷ a)
no-join c a d h g = record { none = λ t more e. (let s = both e in sym (ap (λ z. has (join_of z.class)) s.0) ∙ ap (λ z. has (join_of z)) h ∙ g) }

-- an expression before a token that isn't an operator
value-same : (e f : Expr) (c u : Token) {a b : List Token} (d : Class) → IsExpr e → IsExpr f → c.class ≡ d → u.class ≡ d → has (infix_of d) ≡ false → print e (c ∷ a) ≡ print f (u ∷ b) → (e ≡ f) × (c ∷ a ≡ u ∷ b)
value-same e f c u {a} {b} d h g x y n q = expr-same e f (c ∷ a) (u ∷ b) (parts e h) h g (no-infix c a d x n) (no-infix u b d y n) q

tested-same : (e f : Test) (c u : Token) {a b : List Token} → IsTest e → IsTest f → c.class ≡ Mark mark.CloseParen → u.class ≡ Mark mark.CloseParen → print_test e (c ∷ a) ≡ print_test f (u ∷ b) → (e ≡ f) × (c ∷ a ≡ u ∷ b)
tested-same e f c u {a} {b} h g x y q = test-same e f (c ∷ a) (u ∷ b) (test-parts e h) h g (no-join c a (Mark mark.CloseParen) x refl) (no-join u b (Mark mark.CloseParen) y refl) q

-- two classes of one token
one-class : (t u : Token) (c d : Class) → t ≡ u → t.class ≡ c → u.class ≡ d → c ≡ d
one-class t u c d e h g = sym h ∙ ap (λ z. z.class) e ∙ g

differ : (c d : Class) → c ≡ d → same c c ≡ true → same c d ≡ false → ⊥
differ c d h g e = let q = ap (same c) h in cc

-- [ `(` expression `)` ] `;`
given-same : (v x : Given) (s u : Token) {a b : List Token} → IsGiven v → IsGiven x → s.class ≡ Mark mark.Semicolon → u.class ≡ Mark mark.Semicolon → print_given v (s ∷ a) ≡ print_given x (u ∷ b) → (v ≡ x) × (s ∷ a ≡ u ∷ b)
given-same NoValue NoValue s u h g m n q = (refl, q)
given-same NoValue (Value o e c) s u h g m n q = let r = both q in absurd (differ (Mark mark.Semicolon) (Mark mark.OpenParen) (one-class s o (Mark mark.Semicolon) (Mark mark.OpenParen) r.0 m g.0) refl refl)
given-same (Value o e c) NoValue s u h g m n q = let r = both q in absurd (differ (Mark mark.OpenParen) (Mark mark.Semicolon) (one-class o u (Mark mark.OpenParen) (Mark mark.Semicolon) r.0 h.0 n) refl refl)
given-same (Value o e c) (Value p f d) s u h g m n q =
    let r = both q in
    let x = value-same e f c d (Mark mark.CloseParen) h.1 g.1 h.2 g.2 refl r.1 in
    let y = both x.1 in
    (ap (λ z. Value z e c) r.0 ∙ ap (λ z. Value p z c) x.0 ∙ ap (Value p f) y.0, y.1)

-- `(` [ `immediate` ] test `)`
not-immediate : (e : Test) (a : List Token) (t : Token) (ts : List Token) → IsTest e → print_test e a ≡ t ∷ ts → t.class ≡ Reserved word.Immediate → ⊥
not-immediate e a t ts h q g =
    let l = leads-test e a h in
    let s = both (sym l.is ∙ q) in
    let n = second-false (tests (test_lead_of l.first.class)) (same (Reserved word.Immediate) l.first.class) (tests-no-immediate l.first.class) l.lead in
    let m : same (Reserved word.Immediate) l.first.class ≡ true = ap (λ z. same (Reserved word.Immediate) z.class) s.0 ∙ ap (same (Reserved word.Immediate)) g in
    cc

guard-same : (x y : Guard) {a b : List Token} → IsGuard x → IsGuard y → print_guard x a ≡ print_guard y b → (x ≡ y) × (a ≡ b)
guard-same (Later o e c) (Later p f d) h g q =
    let r = both q in
    let x = tested-same e f c d h.1 g.1 h.2 g.2 r.1 in
    let y = both x.1 in
    (ap (λ z. Later z e c) r.0 ∙ ap (λ z. Later p z c) x.0 ∙ ap (Later p f) y.0, y.1)
guard-same (Later o e c) (AtOnce p i f d) {a} {b} h g q = let r = both q in absurd (not-immediate e (c ∷ a) i (print_test f (d ∷ b)) h.1 r.1 g.1)
guard-same (AtOnce o i e c) (Later p f d) {a} {b} h g q = let r = both q in absurd (not-immediate f (d ∷ b) i (print_test e (c ∷ a)) g.1 (sym r.1) h.1)
guard-same (AtOnce o i e c) (AtOnce p j f d) h g q =
    let r = both q in
    let k = both r.1 in
    let x = tested-same e f c d h.2 g.2 h.3 g.3 k.1 in
    let y = both x.1 in
    (ap (λ z. AtOnce z i e c) r.0 ∙ ap (λ z. AtOnce p z e c) k.0 ∙ ap (λ z. AtOnce p j z c) x.0 ∙ ap (AtOnce p j f) y.0, y.1)

-- what tables tell of one token
some-same : {A : Type 0} (f : Class → Option A) (t u : Token) (x y : A) → t ≡ u → f t.class ≡ Some x → f u.class ≡ Some y → x ≡ y
some-same f t u x y h g i = let e : Some x ≡ Some y = sym g ∙ ap (λ z. f z.class) h ∙ i in cc

combined-same : (c d : Combined) (s u : Token) {a b : List Token} → IsCombined c → IsCombined d → s.class ≡ Mark mark.Semicolon → u.class ≡ Mark mark.Semicolon → print_combined c (s ∷ a) ≡ print_combined d (u ∷ b) → (c ≡ d) × (s ∷ a ≡ u ∷ b)
combined-same NotCombined NotCombined s u h g m n q = (refl, q)
combined-same NotCombined (CombinedBy op w t) s u h g m n q = let r = both q in absurd (differ (Mark mark.Semicolon) (Reserved word.Combine) (one-class s w (Mark mark.Semicolon) (Reserved word.Combine) r.0 m g.0) refl refl)
combined-same (CombinedBy op w t) NotCombined s u h g m n q = let r = both q in absurd (differ (Mark mark.Semicolon) (Reserved word.Combine) (one-class u w (Mark mark.Semicolon) (Reserved word.Combine) (sym r.0) n h.0) refl refl)
combined-same (CombinedBy op w t) (CombinedBy p v k) s u h g m n q =
    let r = both q in
    let x = both r.1 in
    (ap (λ z. CombinedBy z w t) (some-same combine_of t k op p x.0 h.1 g.1) ∙ ap (λ z. CombinedBy p z t) r.0 ∙ ap (CombinedBy p v) x.0, x.1)

signal-no-kind : (t u : Token) (kind : Kind) → t ≡ u → t.class ≡ Reserved word.Signal → kind_of u.class ≡ Some kind → ⊥
signal-no-kind t u kind e h g = let x = ap (λ z. has (kind_of z.class)) e in let y = ap (λ z. has (kind_of z)) h in let z = ap has g in cc

declared-same : (d e : Declared) {a b : List Token} → IsDeclared d → IsDeclared e → print_declared d a ≡ print_declared e b → (d ≡ e) × (a ≡ b)
declared-same (Pure w n s) (Pure v m u) h g q =
    let r = both q in
    let x = both r.1 in
    let y = both x.1 in
    (ap (λ z. Pure z n s) r.0 ∙ ap (λ z. Pure v z s) x.0 ∙ ap (Pure v m) y.0, y.1)
declared-same (Pure w n s) (Valued k v x m c u) h g q = let r = both q in absurd (signal-no-kind w v k r.0 h.0 g.0)
declared-same (Valued k v x m c u) (Pure w n s) h g q = let r = both q in absurd (signal-no-kind w v k (sym r.0) g.0 h.0)
declared-same (Valued k v w n c s) (Valued l x y m d u) h g q =
    let r = both q in
    let i = both r.1 in
    let j = both i.1 in
    let o = combined-same c d s u h.3 g.3 h.4 g.4 j.1 in
    let p = both o.1 in
    (ap (λ z. Valued z v w n c s) (some-same kind_of v x k l r.0 h.0 g.0) ∙ ap (λ z. Valued l z w n c s) r.0 ∙ ap (λ z. Valued l x z n c s) i.0 ∙ ap (λ z. Valued l x y z c s) j.0 ∙ ap (λ z. Valued l x y m z s) o.0 ∙ ap (Valued l x y m d) p.0, p.1)

-- which form a statement has, by its first token
abbrev start_group : Start → ℕ
start_group start.Empty = 0
start_group start.Braces = 1
start_group start.Still = 2
start_group start.Emit = 3
start_group start.Signal = 4
start_group (start.Kind kind) = 5
start_group start.Name = 6
start_group start.If = 7
start_group start.Present = 8
start_group start.While = 9
start_group start.Guarded = 10
start_group start.Weak = 11
start_group start.Trap = 12
start_group start.Exit = 13
start_group start.Send = 14
start_group start.Receive = 15
start_group start.Await = 16
start_group start.Loop = 17
start_group start.Nothing = 18

abbrev form_of : Stmt → ℕ
form_of (EmptyStmt s) = 0
form_of (ParStmt b o) = 1
form_of (StillStmt w s) = 2
form_of (EmitStmt w n v s) = 3
form_of (SignalStmt (Pure w n s)) = 4
form_of (SignalStmt (Valued k v w n c s)) = 5
form_of (VariableStmt k v n t e s) = 5
form_of (AssignStmt op n t e s) = 6
form_of (IfStmt w o e c b other) = 7
form_of (PresentStmt w o t c b other) = 8
form_of (WhileStmt w o t c b) = 9
form_of (GuardedStmt w g b) = 10
form_of (WeakStmt v w g b) = 11
form_of (TrapStmt w o n c b) = 12
form_of (ExitStmt w o n c s) = 13
form_of (SendStmt w n o e c s) = 14
form_of (ReceiveStmt w n s) = 15
form_of (AwaitStmt w g s) = 16
form_of (LoopStmt w b v o t c s) = 17

record Begun (s : Stmt) (a : List Token) : Type 0 where
  pub token : Token
  pub after : List Token
  pub is : print_stmt s a ≡ token ∷ after
  pub form : start_group (start_of token.class) ≡ form_of s

by-class : (t : Token) (c : Class) (n : ℕ) → t.class ≡ c → start_group (start_of c) ≡ n → start_group (start_of t.class) ≡ n
by-class t c n h g = ap (λ z. start_group (start_of z)) h ∙ g

begun : (s : Stmt) (a : List Token) → IsStmt s → Begun s a
begun (EmptyStmt s) a h = record { token = s; after = a; is = refl; form = by-class s (Mark mark.Semicolon) 0 h refl }
begun (ParStmt (Braces o ss c) others) a h = record { token = o; after = print_stmts ss (c ∷ print_others others a); is = refl; form = by-class o (Mark mark.OpenBrace) 1 h.0.0 refl }
begun (StillStmt w s) a h = record { token = w; after = s ∷ a; is = refl; form = ap start_group (still-start w.class h.0) }
begun (EmitStmt w n v s) a h = record { token = w; after = n ∷ print_given v (s ∷ a); is = refl; form = ap start_group (emission-start w.class h.0) }
begun (SignalStmt (Pure w n s)) a h = record { token = w; after = n ∷ s ∷ a; is = refl; form = by-class w (Reserved word.Signal) 4 h.0 refl }
begun (SignalStmt (Valued k v w n c s)) a h = record { token = v; after = w ∷ n ∷ print_combined c (s ∷ a); is = refl; form = ap start_group (kind-start v.class k h.0) }
begun (VariableStmt k v n t e s) a h = record { token = v; after = n ∷ t ∷ print e (s ∷ a); is = refl; form = ap start_group (kind-start v.class k h.0) }
begun (AssignStmt op n t e s) a h = record { token = n; after = t ∷ print e (s ∷ a); is = refl; form = by-class n Name 6 h.0 refl }
begun (IfStmt w o e c b other) a h = record { token = w; after = o ∷ print e (c ∷ print_block b (print_other other a)); is = refl; form = by-class w (Reserved word.If) 7 h.0 refl }
begun (PresentStmt w o t c b other) a h = record { token = w; after = o ∷ print_test t (c ∷ print_block b (print_other other a)); is = refl; form = by-class w (Reserved word.Present) 8 h.0 refl }
begun (WhileStmt w o t c b) a h = record { token = w; after = o ∷ t ∷ c ∷ print_block b a; is = refl; form = by-class w (Reserved word.While) 9 h.0 refl }
begun (GuardedStmt w g b) a h = record { token = w; after = print_guard g (print_block b a); is = refl; form = ap start_group (guarded-start w.class h.0) }
begun (WeakStmt v w g b) a h = record { token = v; after = w ∷ print_guard g (print_block b a); is = refl; form = by-class v (Reserved word.Weak) 11 h.0 refl }
begun (TrapStmt w o n c b) a h = record { token = w; after = o ∷ n ∷ c ∷ print_block b a; is = refl; form = by-class w (Reserved word.Trap) 12 h.0 refl }
begun (ExitStmt w o n c s) a h = record { token = w; after = o ∷ n ∷ c ∷ s ∷ a; is = refl; form = by-class w (Reserved word.Exit) 13 h.0 refl }
begun (SendStmt w n o e c s) a h = record { token = w; after = n ∷ o ∷ print e (c ∷ s ∷ a); is = refl; form = by-class w (Reserved word.Send) 14 h.0 refl }
begun (ReceiveStmt w n s) a h = record { token = w; after = n ∷ s ∷ a; is = refl; form = by-class w (Reserved word.Receive) 15 h.0 refl }
begun (AwaitStmt w g s) a h = record { token = w; after = print_guard g (s ∷ a); is = refl; form = by-class w (Reserved word.Await) 16 h.0 refl }
begun (LoopStmt w b v o t c s) a h = record { token = w; after = print_block b (v ∷ o ∷ print_test t (c ∷ s ∷ a)); is = refl; form = by-class w (Reserved word.Loop) 17 h.0 refl }

clash : (s u : Stmt) (a b : List Token) → IsStmt s → IsStmt u → print_stmt s a ≡ print_stmt u b → (form_of s == form_of u) ≡ false → ⊥
clash s u a b h g q n =
    let x = begun s a h in
    let y = begun u b g in
    let r = both (sym x.is ∙ q ∙ y.is) in
    let e : form_of s ≡ form_of u = sym x.form ∙ ap (λ z. start_group (start_of z.class)) r.0 ∙ y.form in
    let f = eq-eqb (form_of s) (form_of u) e in
    cc

not-nothing : (u : Stmt) → (form_of u == 18) ≡ false
not-nothing (SignalStmt (Pure w n s)) = refl
not-nothing _ = refl

no-stmt : (c : Token) (a : List Token) (u : Stmt) (b : List Token) → c.class ≡ Mark mark.CloseBrace → IsStmt u → c ∷ a ≡ print_stmt u b → ⊥
no-stmt c a u b h g q =
    let y = begun u b g in
    let r = both (q ∙ y.is) in
    let e : form_of u ≡ 18 = sym y.form ∙ sym (ap (λ z. start_group (start_of z.class)) r.0) ∙ by-class c (Mark mark.CloseBrace) 18 h refl in
    let f = eq-eqb (form_of u) 18 e in
    let n = not-nothing u in
    cc

no-else : (a : List Token) (w : Token) (b : List Token) → Plainly a → w.class ≡ Reserved word.Else → a ≡ w ∷ b → ⊥
no-else a w b p h q =
    let r = both (sym p.is ∙ q) in
    let x : same (Reserved word.Else) p.first.class ≡ true = ap (λ z. same (Reserved word.Else) z.class) r.0 ∙ ap (same (Reserved word.Else)) h in
    let y = p.no_else in
    cc

no-sign : (m : sign.Mark) (a : List Token) (w : Token) (b : List Token) → NoSign m a → w.class ≡ Mark m → a ≡ w ∷ b → ⊥
no-sign m a w b p h q =
    let r = both (sym p.is ∙ q) in
    let x : same (Mark m) p.first.class ≡ true = ap (λ z. same (Mark m) z.class) r.0 ∙ ap (same (Mark m)) h ∙ same-itself m in
    let y = p.none in
    cc

mutual
  pub stmt-same : (s u : Stmt) {a b : List Token} → IsStmt s → IsStmt u → Plainly a → Plainly b → print_stmt s a ≡ print_stmt u b → (s ≡ u) × (a ≡ b)
  stmt-same (EmptyStmt s1) (EmptyStmt s2) h g m n q =
      let r0 = both q in
      (ap (λ z. EmptyStmt z) r0.0, r0.1)
  stmt-same (EmptyStmt s1) (SignalStmt (Pure w9 n9 s9)) {a} {b} h g m n q = absurd (clash (EmptyStmt s1) (SignalStmt (Pure w9 n9 s9)) a b h g q refl)
  stmt-same (EmptyStmt s1) u {a} {b} h g m n q = absurd (clash (EmptyStmt s1) u a b h g q refl)
  stmt-same (ParStmt b1 o1) (ParStmt b2 o2) h g m n q =
      let r0 = block-same b1 b2 h.0 g.0 q in
      let r1 = others-same mark.Either o1 o2 h.1 g.1 (no-either m) (no-either n) r0.1 in
      (ap (λ z. ParStmt z o1) r0.0 ∙ ap (λ z. ParStmt b2 z) r1.0, r1.1)
  stmt-same (ParStmt b1 o1) (SignalStmt (Pure w9 n9 s9)) {a} {b} h g m n q = absurd (clash (ParStmt b1 o1) (SignalStmt (Pure w9 n9 s9)) a b h g q refl)
  stmt-same (ParStmt b1 o1) u {a} {b} h g m n q = absurd (clash (ParStmt b1 o1) u a b h g q refl)
  stmt-same (StillStmt w1 s1) (StillStmt w2 s2) h g m n q =
      let r0 = both q in
      let r1 = both r0.1 in
      (ap (λ z. StillStmt z s1) r0.0 ∙ ap (λ z. StillStmt w2 z) r1.0, r1.1)
  stmt-same (StillStmt w1 s1) (SignalStmt (Pure w9 n9 s9)) {a} {b} h g m n q = absurd (clash (StillStmt w1 s1) (SignalStmt (Pure w9 n9 s9)) a b h g q refl)
  stmt-same (StillStmt w1 s1) u {a} {b} h g m n q = absurd (clash (StillStmt w1 s1) u a b h g q refl)
  stmt-same (EmitStmt w1 n1 v1 s1) (EmitStmt w2 n2 v2 s2) h g m n q =
      let r0 = both q in
      let r1 = both r0.1 in
      let r2 = given-same v1 v2 s1 s2 h.2 g.2 h.3 g.3 r1.1 in
      let r3 = both r2.1 in
      (ap (λ z. EmitStmt z n1 v1 s1) r0.0 ∙ ap (λ z. EmitStmt w2 z v1 s1) r1.0 ∙ ap (λ z. EmitStmt w2 n2 z s1) r2.0 ∙ ap (λ z. EmitStmt w2 n2 v2 z) r3.0, r3.1)
  stmt-same (EmitStmt w1 n1 v1 s1) (SignalStmt (Pure w9 n9 s9)) {a} {b} h g m n q = absurd (clash (EmitStmt w1 n1 v1 s1) (SignalStmt (Pure w9 n9 s9)) a b h g q refl)
  stmt-same (EmitStmt w1 n1 v1 s1) u {a} {b} h g m n q = absurd (clash (EmitStmt w1 n1 v1 s1) u a b h g q refl)
  stmt-same (SignalStmt d1) (SignalStmt d2) h g m n q =
      let r0 = declared-same d1 d2 h g q in
      (ap (λ z. SignalStmt z) r0.0, r0.1)
  stmt-same (SignalStmt (Pure w1 n1 s1)) u {a} {b} h g m n q = absurd (clash (SignalStmt (Pure w1 n1 s1)) u a b h g q refl)
  stmt-same (SignalStmt (Valued k1 v1 w1 n1 c1 s1)) (VariableStmt k2 v2 n2 t2 e2 s2) h g m n q = let r = both q in let i = both r.1 in absurd (differ (Reserved word.Signal) Name (one-class w1 n2 (Reserved word.Signal) Name i.0 h.1 g.1) refl refl)
  stmt-same (SignalStmt (Valued k1 v1 w1 n1 c1 s1)) u {a} {b} h g m n q = absurd (clash (SignalStmt (Valued k1 v1 w1 n1 c1 s1)) u a b h g q refl)
  stmt-same (VariableStmt k1 v1 n1 t1 e1 s1) (VariableStmt k2 v2 n2 t2 e2 s2) h g m n q =
      let r0 = both q in
      let r1 = both r0.1 in
      let r2 = both r1.1 in
      let r3 = value-same e1 e2 s1 s2 (Mark mark.Semicolon) h.3 g.3 h.4 g.4 refl r2.1 in
      let r4 = both r3.1 in
      (ap (λ z. VariableStmt z v1 n1 t1 e1 s1) (some-same kind_of v1 v2 k1 k2 r0.0 h.0 g.0) ∙ ap (λ z. VariableStmt k2 z n1 t1 e1 s1) r0.0 ∙ ap (λ z. VariableStmt k2 v2 z t1 e1 s1) r1.0 ∙ ap (λ z. VariableStmt k2 v2 n2 z e1 s1) r2.0 ∙ ap (λ z. VariableStmt k2 v2 n2 t2 z s1) r3.0 ∙ ap (λ z. VariableStmt k2 v2 n2 t2 e2 z) r4.0, r4.1)
  stmt-same (VariableStmt k1 v1 n1 t1 e1 s1) (SignalStmt (Valued k2 v2 w2 n2 c2 s2)) h g m n q = let r = both q in let i = both r.1 in absurd (differ (Reserved word.Signal) Name (one-class w2 n1 (Reserved word.Signal) Name (sym i.0) g.1 h.1) refl refl)
  stmt-same (VariableStmt k1 v1 n1 t1 e1 s1) (SignalStmt (Pure w2 n2 s2)) {a} {b} h g m n q = absurd (clash (VariableStmt k1 v1 n1 t1 e1 s1) (SignalStmt (Pure w2 n2 s2)) a b h g q refl)
  stmt-same (VariableStmt k1 v1 n1 t1 e1 s1) u {a} {b} h g m n q = absurd (clash (VariableStmt k1 v1 n1 t1 e1 s1) u a b h g q refl)
  stmt-same (AssignStmt op1 n1 t1 e1 s1) (AssignStmt op2 n2 t2 e2 s2) h g m n q =
      let r0 = both q in
      let r1 = both r0.1 in
      let r2 = value-same e1 e2 s1 s2 (Mark mark.Semicolon) h.2 g.2 h.3 g.3 refl r1.1 in
      let r3 = both r2.1 in
      (ap (λ z. AssignStmt z n1 t1 e1 s1) (some-same assign_of t1 t2 op1 op2 r1.0 h.1 g.1) ∙ ap (λ z. AssignStmt op2 z t1 e1 s1) r0.0 ∙ ap (λ z. AssignStmt op2 n2 z e1 s1) r1.0 ∙ ap (λ z. AssignStmt op2 n2 t2 z s1) r2.0 ∙ ap (λ z. AssignStmt op2 n2 t2 e2 z) r3.0, r3.1)
  stmt-same (AssignStmt op1 n1 t1 e1 s1) (SignalStmt (Pure w9 n9 s9)) {a} {b} h g m n q = absurd (clash (AssignStmt op1 n1 t1 e1 s1) (SignalStmt (Pure w9 n9 s9)) a b h g q refl)
  stmt-same (AssignStmt op1 n1 t1 e1 s1) u {a} {b} h g m n q = absurd (clash (AssignStmt op1 n1 t1 e1 s1) u a b h g q refl)
  stmt-same (IfStmt w1 o1 e1 c1 b1 x1) (IfStmt w2 o2 e2 c2 b2 x2) h g m n q =
      let r0 = both q in
      let r1 = both r0.1 in
      let r2 = value-same e1 e2 c1 c2 (Mark mark.CloseParen) h.2 g.2 h.3 g.3 refl r1.1 in
      let r3 = both r2.1 in
      let r4 = block-same b1 b2 h.4 g.4 r3.1 in
      let r5 = other-same x1 x2 h.5 g.5 m n r4.1 in
      (ap (λ z. IfStmt z o1 e1 c1 b1 x1) r0.0 ∙ ap (λ z. IfStmt w2 z e1 c1 b1 x1) r1.0 ∙ ap (λ z. IfStmt w2 o2 z c1 b1 x1) r2.0 ∙ ap (λ z. IfStmt w2 o2 e2 z b1 x1) r3.0 ∙ ap (λ z. IfStmt w2 o2 e2 c2 z x1) r4.0 ∙ ap (λ z. IfStmt w2 o2 e2 c2 b2 z) r5.0, r5.1)
  stmt-same (IfStmt w1 o1 e1 c1 b1 x1) (SignalStmt (Pure w9 n9 s9)) {a} {b} h g m n q = absurd (clash (IfStmt w1 o1 e1 c1 b1 x1) (SignalStmt (Pure w9 n9 s9)) a b h g q refl)
  stmt-same (IfStmt w1 o1 e1 c1 b1 x1) u {a} {b} h g m n q = absurd (clash (IfStmt w1 o1 e1 c1 b1 x1) u a b h g q refl)
  stmt-same (PresentStmt w1 o1 e1 c1 b1 x1) (PresentStmt w2 o2 e2 c2 b2 x2) h g m n q =
      let r0 = both q in
      let r1 = both r0.1 in
      let r2 = tested-same e1 e2 c1 c2 h.2 g.2 h.3 g.3 r1.1 in
      let r3 = both r2.1 in
      let r4 = block-same b1 b2 h.4 g.4 r3.1 in
      let r5 = other-same x1 x2 h.5 g.5 m n r4.1 in
      (ap (λ z. PresentStmt z o1 e1 c1 b1 x1) r0.0 ∙ ap (λ z. PresentStmt w2 z e1 c1 b1 x1) r1.0 ∙ ap (λ z. PresentStmt w2 o2 z c1 b1 x1) r2.0 ∙ ap (λ z. PresentStmt w2 o2 e2 z b1 x1) r3.0 ∙ ap (λ z. PresentStmt w2 o2 e2 c2 z x1) r4.0 ∙ ap (λ z. PresentStmt w2 o2 e2 c2 b2 z) r5.0, r5.1)
  stmt-same (PresentStmt w1 o1 e1 c1 b1 x1) (SignalStmt (Pure w9 n9 s9)) {a} {b} h g m n q = absurd (clash (PresentStmt w1 o1 e1 c1 b1 x1) (SignalStmt (Pure w9 n9 s9)) a b h g q refl)
  stmt-same (PresentStmt w1 o1 e1 c1 b1 x1) u {a} {b} h g m n q = absurd (clash (PresentStmt w1 o1 e1 c1 b1 x1) u a b h g q refl)
  stmt-same (WhileStmt w1 o1 t1 c1 b1) (WhileStmt w2 o2 t2 c2 b2) h g m n q =
      let r0 = both q in
      let r1 = both r0.1 in
      let r2 = both r1.1 in
      let r3 = both r2.1 in
      let r4 = block-same b1 b2 h.4 g.4 r3.1 in
      (ap (λ z. WhileStmt z o1 t1 c1 b1) r0.0 ∙ ap (λ z. WhileStmt w2 z t1 c1 b1) r1.0 ∙ ap (λ z. WhileStmt w2 o2 z c1 b1) r2.0 ∙ ap (λ z. WhileStmt w2 o2 t2 z b1) r3.0 ∙ ap (λ z. WhileStmt w2 o2 t2 c2 z) r4.0, r4.1)
  stmt-same (WhileStmt w1 o1 t1 c1 b1) (SignalStmt (Pure w9 n9 s9)) {a} {b} h g m n q = absurd (clash (WhileStmt w1 o1 t1 c1 b1) (SignalStmt (Pure w9 n9 s9)) a b h g q refl)
  stmt-same (WhileStmt w1 o1 t1 c1 b1) u {a} {b} h g m n q = absurd (clash (WhileStmt w1 o1 t1 c1 b1) u a b h g q refl)
  stmt-same (GuardedStmt w1 y1 b1) (GuardedStmt w2 y2 b2) h g m n q =
      let r0 = both q in
      let r1 = guard-same y1 y2 h.1 g.1 r0.1 in
      let r2 = block-same b1 b2 h.2 g.2 r1.1 in
      (ap (λ z. GuardedStmt z y1 b1) r0.0 ∙ ap (λ z. GuardedStmt w2 z b1) r1.0 ∙ ap (λ z. GuardedStmt w2 y2 z) r2.0, r2.1)
  stmt-same (GuardedStmt w1 y1 b1) (SignalStmt (Pure w9 n9 s9)) {a} {b} h g m n q = absurd (clash (GuardedStmt w1 y1 b1) (SignalStmt (Pure w9 n9 s9)) a b h g q refl)
  stmt-same (GuardedStmt w1 y1 b1) u {a} {b} h g m n q = absurd (clash (GuardedStmt w1 y1 b1) u a b h g q refl)
  stmt-same (WeakStmt v1 w1 y1 b1) (WeakStmt v2 w2 y2 b2) h g m n q =
      let r0 = both q in
      let r1 = both r0.1 in
      let r2 = guard-same y1 y2 h.2 g.2 r1.1 in
      let r3 = block-same b1 b2 h.3 g.3 r2.1 in
      (ap (λ z. WeakStmt z w1 y1 b1) r0.0 ∙ ap (λ z. WeakStmt v2 z y1 b1) r1.0 ∙ ap (λ z. WeakStmt v2 w2 z b1) r2.0 ∙ ap (λ z. WeakStmt v2 w2 y2 z) r3.0, r3.1)
  stmt-same (WeakStmt v1 w1 y1 b1) (SignalStmt (Pure w9 n9 s9)) {a} {b} h g m n q = absurd (clash (WeakStmt v1 w1 y1 b1) (SignalStmt (Pure w9 n9 s9)) a b h g q refl)
  stmt-same (WeakStmt v1 w1 y1 b1) u {a} {b} h g m n q = absurd (clash (WeakStmt v1 w1 y1 b1) u a b h g q refl)
  stmt-same (TrapStmt w1 o1 n1 c1 b1) (TrapStmt w2 o2 n2 c2 b2) h g m n q =
      let r0 = both q in
      let r1 = both r0.1 in
      let r2 = both r1.1 in
      let r3 = both r2.1 in
      let r4 = block-same b1 b2 h.4 g.4 r3.1 in
      (ap (λ z. TrapStmt z o1 n1 c1 b1) r0.0 ∙ ap (λ z. TrapStmt w2 z n1 c1 b1) r1.0 ∙ ap (λ z. TrapStmt w2 o2 z c1 b1) r2.0 ∙ ap (λ z. TrapStmt w2 o2 n2 z b1) r3.0 ∙ ap (λ z. TrapStmt w2 o2 n2 c2 z) r4.0, r4.1)
  stmt-same (TrapStmt w1 o1 n1 c1 b1) (SignalStmt (Pure w9 n9 s9)) {a} {b} h g m n q = absurd (clash (TrapStmt w1 o1 n1 c1 b1) (SignalStmt (Pure w9 n9 s9)) a b h g q refl)
  stmt-same (TrapStmt w1 o1 n1 c1 b1) u {a} {b} h g m n q = absurd (clash (TrapStmt w1 o1 n1 c1 b1) u a b h g q refl)
  stmt-same (ExitStmt w1 o1 n1 c1 s1) (ExitStmt w2 o2 n2 c2 s2) h g m n q =
      let r0 = both q in
      let r1 = both r0.1 in
      let r2 = both r1.1 in
      let r3 = both r2.1 in
      let r4 = both r3.1 in
      (ap (λ z. ExitStmt z o1 n1 c1 s1) r0.0 ∙ ap (λ z. ExitStmt w2 z n1 c1 s1) r1.0 ∙ ap (λ z. ExitStmt w2 o2 z c1 s1) r2.0 ∙ ap (λ z. ExitStmt w2 o2 n2 z s1) r3.0 ∙ ap (λ z. ExitStmt w2 o2 n2 c2 z) r4.0, r4.1)
  stmt-same (ExitStmt w1 o1 n1 c1 s1) (SignalStmt (Pure w9 n9 s9)) {a} {b} h g m n q = absurd (clash (ExitStmt w1 o1 n1 c1 s1) (SignalStmt (Pure w9 n9 s9)) a b h g q refl)
  stmt-same (ExitStmt w1 o1 n1 c1 s1) u {a} {b} h g m n q = absurd (clash (ExitStmt w1 o1 n1 c1 s1) u a b h g q refl)
  stmt-same (SendStmt w1 n1 o1 e1 c1 s1) (SendStmt w2 n2 o2 e2 c2 s2) h g m n q =
      let r0 = both q in
      let r1 = both r0.1 in
      let r2 = both r1.1 in
      let r3 = value-same e1 e2 c1 c2 (Mark mark.CloseParen) h.3 g.3 h.4 g.4 refl r2.1 in
      let r4 = both r3.1 in
      let r5 = both r4.1 in
      (ap (λ z. SendStmt z n1 o1 e1 c1 s1) r0.0 ∙ ap (λ z. SendStmt w2 z o1 e1 c1 s1) r1.0 ∙ ap (λ z. SendStmt w2 n2 z e1 c1 s1) r2.0 ∙ ap (λ z. SendStmt w2 n2 o2 z c1 s1) r3.0 ∙ ap (λ z. SendStmt w2 n2 o2 e2 z s1) r4.0 ∙ ap (λ z. SendStmt w2 n2 o2 e2 c2 z) r5.0, r5.1)
  stmt-same (SendStmt w1 n1 o1 e1 c1 s1) (SignalStmt (Pure w9 n9 s9)) {a} {b} h g m n q = absurd (clash (SendStmt w1 n1 o1 e1 c1 s1) (SignalStmt (Pure w9 n9 s9)) a b h g q refl)
  stmt-same (SendStmt w1 n1 o1 e1 c1 s1) u {a} {b} h g m n q = absurd (clash (SendStmt w1 n1 o1 e1 c1 s1) u a b h g q refl)
  stmt-same (ReceiveStmt w1 n1 s1) (ReceiveStmt w2 n2 s2) h g m n q =
      let r0 = both q in
      let r1 = both r0.1 in
      let r2 = both r1.1 in
      (ap (λ z. ReceiveStmt z n1 s1) r0.0 ∙ ap (λ z. ReceiveStmt w2 z s1) r1.0 ∙ ap (λ z. ReceiveStmt w2 n2 z) r2.0, r2.1)
  stmt-same (ReceiveStmt w1 n1 s1) (SignalStmt (Pure w9 n9 s9)) {a} {b} h g m n q = absurd (clash (ReceiveStmt w1 n1 s1) (SignalStmt (Pure w9 n9 s9)) a b h g q refl)
  stmt-same (ReceiveStmt w1 n1 s1) u {a} {b} h g m n q = absurd (clash (ReceiveStmt w1 n1 s1) u a b h g q refl)
  stmt-same (AwaitStmt w1 y1 s1) (AwaitStmt w2 y2 s2) h g m n q =
      let r0 = both q in
      let r1 = guard-same y1 y2 h.1 g.1 r0.1 in
      let r2 = both r1.1 in
      (ap (λ z. AwaitStmt z y1 s1) r0.0 ∙ ap (λ z. AwaitStmt w2 z s1) r1.0 ∙ ap (λ z. AwaitStmt w2 y2 z) r2.0, r2.1)
  stmt-same (AwaitStmt w1 y1 s1) (SignalStmt (Pure w9 n9 s9)) {a} {b} h g m n q = absurd (clash (AwaitStmt w1 y1 s1) (SignalStmt (Pure w9 n9 s9)) a b h g q refl)
  stmt-same (AwaitStmt w1 y1 s1) u {a} {b} h g m n q = absurd (clash (AwaitStmt w1 y1 s1) u a b h g q refl)
  stmt-same (LoopStmt w1 b1 v1 o1 e1 c1 s1) (LoopStmt w2 b2 v2 o2 e2 c2 s2) h g m n q =
      let r0 = both q in
      let r1 = block-same b1 b2 h.1 g.1 r0.1 in
      let r2 = both r1.1 in
      let r3 = both r2.1 in
      let r4 = tested-same e1 e2 c1 c2 h.4 g.4 h.5 g.5 r3.1 in
      let r5 = both r4.1 in
      let r6 = both r5.1 in
      (ap (λ z. LoopStmt z b1 v1 o1 e1 c1 s1) r0.0 ∙ ap (λ z. LoopStmt w2 z v1 o1 e1 c1 s1) r1.0 ∙ ap (λ z. LoopStmt w2 b2 z o1 e1 c1 s1) r2.0 ∙ ap (λ z. LoopStmt w2 b2 v2 z e1 c1 s1) r3.0 ∙ ap (λ z. LoopStmt w2 b2 v2 o2 z c1 s1) r4.0 ∙ ap (λ z. LoopStmt w2 b2 v2 o2 e2 z s1) r5.0 ∙ ap (λ z. LoopStmt w2 b2 v2 o2 e2 c2 z) r6.0, r6.1)
  stmt-same (LoopStmt w1 b1 v1 o1 e1 c1 s1) (SignalStmt (Pure w9 n9 s9)) {a} {b} h g m n q = absurd (clash (LoopStmt w1 b1 v1 o1 e1 c1 s1) (SignalStmt (Pure w9 n9 s9)) a b h g q refl)
  stmt-same (LoopStmt w1 b1 v1 o1 e1 c1 s1) u {a} {b} h g m n q = absurd (clash (LoopStmt w1 b1 v1 o1 e1 c1 s1) u a b h g q refl)

  pub stmts-same : (ss us : Stmts) (c d : Token) {a b : List Token} → IsStmts ss → IsStmts us → c.class ≡ Mark mark.CloseBrace → d.class ≡ Mark mark.CloseBrace → print_stmts ss (c ∷ a) ≡ print_stmts us (d ∷ b) → (ss ≡ us) × (c ∷ a ≡ d ∷ b)
  stmts-same Done Done c d h g m n q = (refl, q)
  stmts-same Done (Then u us) c d {a} {b} h g m n q = absurd (no-stmt c a u (print_stmts us (d ∷ b)) m g.0 q)
  stmts-same (Then s ss) Done c d {a} {b} h g m n q = absurd (no-stmt d b s (print_stmts ss (c ∷ a)) n h.0 (sym q))
  stmts-same (Then s ss) (Then u us) c d {a} {b} h g m n q =
      let r = stmt-same s u h.0 g.0 (plain-stmts ss c a h.1 m) (plain-stmts us d b g.1 n) q in
      let i = stmts-same ss us c d h.1 g.1 m n r.1 in
      (ap (λ z. Then z ss) r.0 ∙ ap (Then u) i.0, i.1)

  pub block-same : (x y : Block) {a b : List Token} → IsBlock x → IsBlock y → print_block x a ≡ print_block y b → (x ≡ y) × (a ≡ b)
  block-same (Braces o ss c) (Braces p us d) h g q =
      let r = both q in
      let i = stmts-same ss us c d h.1 g.1 h.2 g.2 r.1 in
      let j = both i.1 in
      (ap (λ z. Braces z ss c) r.0 ∙ ap (λ z. Braces p z c) i.0 ∙ ap (Braces p us) j.0, j.1)

  pub other-same : (x y : Other) {a b : List Token} → IsOther x → IsOther y → Plainly a → Plainly b → print_other x a ≡ print_other y b → (x ≡ y) × (a ≡ b)
  other-same NoElse NoElse h g m n q = (refl, q)
  other-same NoElse (ElseBlock w k) {a} {b} h g m n q = absurd (no-else a w (print_block k b) m g.0 q)
  other-same (ElseBlock w k) NoElse {a} {b} h g m n q = absurd (no-else b w (print_block k a) n h.0 (sym q))
  other-same (ElseBlock w k) (ElseBlock v l) h g m n q =
      let r = both q in
      let i = block-same k l h.1 g.1 r.1 in
      (ap (λ z. ElseBlock z k) r.0 ∙ ap (ElseBlock v) i.0, i.1)

  pub others-same : (s : sign.Mark) (x y : Others) {a b : List Token} → IsOthers s x → IsOthers s y → NoSign s a → NoSign s b → print_others x a ≡ print_others y b → (x ≡ y) × (a ≡ b)
  others-same s NoOther NoOther h g m n q = (refl, q)
  others-same s NoOther (Beside t k o) {a} {b} h g m n q = absurd (no-sign s a t (print_block k (print_others o b)) m g.0 q)
  others-same s (Beside t k o) NoOther {a} {b} h g m n q = absurd (no-sign s b t (print_block k (print_others o a)) n h.0 (sym q))
  others-same s (Beside t k o) (Beside u l p) h g m n q =
      let r = both q in
      let i = block-same k l h.1 g.1 r.1 in
      let j = others-same s o p h.2 g.2 m n i.1 in
      (ap (λ z. Beside z k o) r.0 ∙ ap (λ z. Beside u z o) i.0 ∙ ap (Beside u l) j.0, j.1)

-- the interface
direction-no-kind : (t u : Token) (d : Direction) (kind : Kind) → t ≡ u → direction_of t.class ≡ Some d → kind_of u.class ≡ Some kind → ⊥
direction-no-kind t u d kind e h g =
    let n = second-false (has (kind_of u.class)) (has (direction_of u.class)) (kind-no-direction u.class) (ap has g) in
    let x : has (direction_of u.class) ≡ true = sym (ap (λ z. has (direction_of z.class)) e) ∙ ap has h in
    cc

port-same : (x y : Port) {a b : List Token} → IsPort x → IsPort y → print_port x a ≡ print_port y b → (x ≡ y) × (a ≡ b)
port-same (SignalPort d w s) (SignalPort e v u) h g q =
    let r = both q in
    let i = declared-same s u h.1 g.1 r.1 in
    (ap (λ z. SignalPort z w s) (some-same direction_of w v d e r.0 h.0 g.0) ∙ ap (λ z. SignalPort e z s) r.0 ∙ ap (SignalPort e v) i.0, i.1)
port-same (ChannelPort k v w n s) (ChannelPort l x y m u) h g q =
    let r = both q in
    let i = both r.1 in
    let j = both i.1 in
    let t = both j.1 in
    (ap (λ z. ChannelPort z v w n s) (some-same kind_of v x k l r.0 h.0 g.0) ∙ ap (λ z. ChannelPort l z w n s) r.0 ∙ ap (λ z. ChannelPort l x z n s) i.0 ∙ ap (λ z. ChannelPort l x y z s) j.0 ∙ ap (ChannelPort l x y m) t.0, t.1)
port-same (SignalPort d w s) (ChannelPort k v x n u) h g q = let r = both q in absurd (direction-no-kind w v d k r.0 h.0 g.0)
port-same (ChannelPort k v x n u) (SignalPort d w s) h g q = let r = both q in absurd (direction-no-kind w v d k (sym r.0) g.0 h.0)

-- which ports begin with a token
record PortBegun (p : Port) (a : List Token) : Type 0 where
  pub token : Token
  pub after : List Token
  pub is : print_port p a ≡ token ∷ after
  pub begins : (has (direction_of token.class) || has (kind_of token.class)) ≡ true

kind-begins : (b c : Bool) → c ≡ true → (b || c) ≡ true
kind-begins true c h = refl
kind-begins false c h = h

port-begun : (p : Port) (a : List Token) → IsPort p → PortBegun p a
port-begun (SignalPort d w s) a h = record { token = w; after = print_declared s a; is = refl; begins = ap (λ z. has z || has (kind_of w.class)) h.0 }
port-begun (ChannelPort k v w n s) a h = record { token = v; after = w ∷ n ∷ s ∷ a; is = refl; begins = kind-begins (has (direction_of v.class)) (has (kind_of v.class)) (ap has h.0) }

no-port : (c : Token) (a : List Token) (p : Port) (b : List Token) → c.class ≡ Mark mark.CloseBrace → IsPort p → c ∷ a ≡ print_port p b → ⊥
no-port c a p b h g q =
    let y = port-begun p b g in
    let r = both (q ∙ y.is) in
    let e : (has (direction_of c.class) || has (kind_of c.class)) ≡ true = ap (λ z. has (direction_of z.class) || has (kind_of z.class)) r.0 ∙ y.begins in
    let f : (has (direction_of c.class) || has (kind_of c.class)) ≡ false = ap (λ z. has (direction_of z) || has (kind_of z)) h in
    cc

ports-same : (x y : Ports) (c d : Token) {a b : List Token} → IsPorts x → IsPorts y → c.class ≡ Mark mark.CloseBrace → d.class ≡ Mark mark.CloseBrace → print_ports x (c ∷ a) ≡ print_ports y (d ∷ b) → (x ≡ y) × (c ∷ a ≡ d ∷ b)
ports-same NoPort NoPort c d h g m n q = (refl, q)
ports-same NoPort (PortThen p ps) c d {a} {b} h g m n q = absurd (no-port c a p (print_ports ps (d ∷ b)) m g.0 q)
ports-same (PortThen p ps) NoPort c d {a} {b} h g m n q = absurd (no-port d b p (print_ports ps (c ∷ a)) n h.0 (sym q))
ports-same (PortThen p ps) (PortThen r rs) c d h g m n q =
    let i = port-same p r h.0 g.0 q in
    let j = ports-same ps rs c d h.1 g.1 m n i.1 in
    (ap (λ z. PortThen z ps) i.0 ∙ ap (PortThen r) j.0, j.1)

-- programs
closing-no-beside : (c : Token) (a : List Token) → c.class ≡ Mark mark.CloseBrace → NoSign mark.Beside (c ∷ a)
closing-no-beside c a h = record { first = c; after = a; is = refl; none = ap (same (Mark mark.Beside)) h }

program-parts : (p r : Program) → p.system ≡ r.system → p.open_system ≡ r.open_system → p.interface ≡ r.interface → p.open_ports ≡ r.open_ports → p.ports ≡ r.ports → p.close_ports ≡ r.close_ports → p.first ≡ r.first → p.others ≡ r.others
    → p.close_system ≡ r.close_system → p ≡ r
program-parts p r a b c d e f g h i =
    ap (λ z. record { system = z; open_system = p.open_system; interface = p.interface; open_ports = p.open_ports; ports = p.ports; close_ports = p.close_ports; first = p.first; others = p.others; close_system = p.close_system }) a
    ∙ ap (λ z. record { system = r.system; open_system = z; interface = p.interface; open_ports = p.open_ports; ports = p.ports; close_ports = p.close_ports; first = p.first; others = p.others; close_system = p.close_system }) b
    ∙ ap (λ z. record { system = r.system; open_system = r.open_system; interface = z; open_ports = p.open_ports; ports = p.ports; close_ports = p.close_ports; first = p.first; others = p.others; close_system = p.close_system }) c
    ∙ ap (λ z. record { system = r.system; open_system = r.open_system; interface = r.interface; open_ports = z; ports = p.ports; close_ports = p.close_ports; first = p.first; others = p.others; close_system = p.close_system }) d
    ∙ ap (λ z. record { system = r.system; open_system = r.open_system; interface = r.interface; open_ports = r.open_ports; ports = z; close_ports = p.close_ports; first = p.first; others = p.others; close_system = p.close_system }) e
    ∙ ap (λ z. record { system = r.system; open_system = r.open_system; interface = r.interface; open_ports = r.open_ports; ports = r.ports; close_ports = z; first = p.first; others = p.others; close_system = p.close_system }) f
    ∙ ap (λ z. record { system = r.system; open_system = r.open_system; interface = r.interface; open_ports = r.open_ports; ports = r.ports; close_ports = r.close_ports; first = z; others = p.others; close_system = p.close_system }) g
    ∙ ap (λ z. record { system = r.system; open_system = r.open_system; interface = r.interface; open_ports = r.open_ports; ports = r.ports; close_ports = r.close_ports; first = r.first; others = z; close_system = p.close_system }) h
    ∙ ap (λ z. record { system = r.system; open_system = r.open_system; interface = r.interface; open_ports = r.open_ports; ports = r.ports; close_ports = r.close_ports; first = r.first; others = r.others; close_system = z }) i

pub one-program : (p r : Program) → IsProgram p → IsProgram r → print_program p [] ≡ print_program r [] → p ≡ r
one-program p r h g q =
    let a = both q in
    let b = both a.1 in
    let c = both b.1 in
    let d = both c.1 in
    let e = ports-same p.ports r.ports p.close_ports r.close_ports h.ports g.ports h.close_ports g.close_ports d.1 in
    let f = both e.1 in
    let i = block-same p.first r.first h.first g.first f.1 in
    let j = others-same mark.Beside p.others r.others h.others g.others (closing-no-beside p.close_system [] h.close_system) (closing-no-beside r.close_system [] g.close_system) i.1 in
    let k = both j.1 in
    program-parts p r a.0 b.0 c.0 d.0 e.0 f.0 i.0 j.0 k.0
