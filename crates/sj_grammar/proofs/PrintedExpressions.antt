-- What sentences print can be read.
use Rattle.std.proofs.Common.{◌≡◌, true, false, List, [], ◌∷◌, ◌++◌, Option, Some, None, ap, refl, sym, ◌∙◌, arith}
use Rattle.java_values.specs.declared.kind.Kind.{Kind}
use Rattle.java_values.specs.declared.op.Op1.{Op1}
use Rattle.java_values.specs.declared.op.Op1.TheVariants as op1
use Rattle.java_values.specs.declared.op.Op2.{Op2}
use Rattle.sj_lexer.specs.declared.token.Class.{Class}
use Rattle.sj_lexer.specs.declared.token.Class.TheVariants.{Name, Mark}
use Rattle.sj_lexer.specs.declared.token.Mark.TheVariants as mark
use Rattle.sj_lexer.specs.declared.token.Token.{Token}
use Rattle.sj_grammar.specs.declared.role.Join.{Join}
use Rattle.sj_grammar.specs.declared.role.Lead.{Lead}
use Rattle.sj_grammar.specs.declared.role.Lead.TheVariants as lead
use Rattle.sj_grammar.specs.definitions.Roles.{lead_of, is_atom, is_edge, sign_of, infix_of, kind_of, join_of, has}
use Rattle.sj_grammar.specs.definitions.Expressions.{Expr, Atom, Least, Status, Prefix, Cast, Group, Infix, print, level, IsExpr}
use Rattle.sj_grammar.specs.definitions.Tests.{Test, SignalTest, NotTest, GroupTest, JoinTest, print_test, test_level, IsTest}
use Rattle.sj_grammar.specs.definitions.Machine.{Symbol, T, Operand, AfterMinus, AfterOpen, More, TestOperand, MoreTest, lead_step, or_else, next, steps, expression, test}
use Rattle.sj_grammar.proofs.ClassRoles.{atom-lead, sign_lead, sign-leads, leads, leads-no-kind, leads-no-edge, second-false}
use Rattle.sj_grammar.proofs.OperatorInsertion.{level-small, join-small}

-- from these symbols and tokens the machine comes to those
pub record Goes (k : List Symbol) (ts : List Token) (j : List Symbol) (us : List Token) : Type 0 where
  pub goes : steps k ts ≡ steps j us

pub then : {k j i : List Symbol} {ts us vs : List Token} → Goes k ts j us → Goes j us i vs → Goes k ts i vs
then a b = record { goes = a.goes ∙ b.goes }

pub stays : (k : List Symbol) (ts : List Token) → Goes k ts k ts
stays k ts = record { goes = refl }

steps-at : (o : Option (List Symbol)) (k : List Symbol) (t : Token) (ts : List Token) → next k t.class ≡ o → steps k (t ∷ ts) ≡ elim o as (λ _. Option (List Symbol)) [ None ↦ None | Some i ↦ steps i ts ]
steps-at o k t ts h = ap (λ (x : Option (List Symbol)). elim x as (λ _. Option (List Symbol)) [ None ↦ None | Some i ↦ steps i ts ]) h

pub steps-some : (k : List Symbol) (t : Token) (ts : List Token) (i : List Symbol) → next k t.class ≡ Some i → steps k (t ∷ ts) ≡ steps i ts
steps-some k t ts i h = steps-at (Some i) k t ts h

-- one token
pub one : {k : List Symbol} {t : Token} {ts : List Token} {j : List Symbol} → next k t.class ≡ Some j → Goes k (t ∷ ts) j ts
one {k} {t} {ts} {j} h = record { goes = steps-some k t ts j h }

-- one token of this class
pub read : {k : List Symbol} {t : Token} {ts : List Token} {j : List Symbol} (c : Class) → t.class ≡ c → next k c ≡ Some j → Goes k (t ∷ ts) j ts
read {k} {t} {ts} {j} c h g = record { goes = steps-some k t ts j (ap (next k) h ∙ g) }

-- the first token tells the symbols not apart
pub alike : {k j : List Symbol} {t : Token} {ts : List Token} → next k t.class ≡ next j t.class → Goes k (t ∷ ts) j (t ∷ ts)
alike {k} {j} {t} {ts} h = record { goes = steps-at (next j t.class) k t ts h }

pub same-tokens : {k : List Symbol} {ts us : List Token} → ts ≡ us → Goes k ts k us
same-tokens {k} h = record { goes = ap (steps k) h }

-- expressions
pub record Leads (ts : List Token) : Type 0 where
  pub first : Token
  pub after : List Token
  pub is : ts ≡ first ∷ after
  pub lead : leads (lead_of first.class) ≡ true

pub leads-atom : (t : Token) → is_atom t.class ≡ true → leads (lead_of t.class) ≡ true
leads-atom t h = ap leads (atom-lead t.class h)

leads-class : (t : Token) (c : Class) → t.class ≡ c → leads (lead_of c) ≡ true → leads (lead_of t.class) ≡ true
leads-class t c h g = ap (λ x. leads (lead_of x)) h ∙ g

leads-op : (op : Op1) → leads (sign_lead op) ≡ true
leads-op op1.Minus = refl
leads-op _ = refl

leads-sign : (t : Token) (op : Op1) → sign_of t.class ≡ Some op → leads (lead_of t.class) ≡ true
leads-sign t op h = ap leads (sign-leads t.class op h) ∙ leads-op op

pub leads-expr : (e : Expr) (more : List Token) → IsExpr e → Leads (print e more)
leads-expr (Atom t) more h = record { first = t; after = more; is = refl; lead = leads-atom t h }
leads-expr (Least m e) more h = record { first = m; after = e ∷ more; is = refl; lead = leads-class m (Mark mark.Minus) h.0 refl }
leads-expr (Status a n) more h = record { first = a; after = n ∷ more; is = refl; lead = leads-class a (Mark mark.Hash) h.0 refl }
leads-expr (Prefix op t e) more h = record { first = t; after = print e more; is = refl; lead = leads-sign t op h.0 }
leads-expr (Cast k o w c e) more h = record { first = o; after = w ∷ c ∷ print e more; is = refl; lead = leads-class o (Mark mark.OpenParen) h.0 refl }
leads-expr (Group o e c) more h = record { first = o; after = print e (c ∷ more); is = refl; lead = leads-class o (Mark mark.OpenParen) h.0 refl }
leads-expr (Infix op t l r) more h = leads-expr l (t ∷ print r more) h.3

pub next-minus : (c : Class) (k : List Symbol) → is_edge c ≡ false → next (AfterMinus ∷ k) c ≡ next (Operand ∷ k) c
next-minus c k h = rw h refl

pub next-open : (c : Class) (k : List Symbol) → has (kind_of c) ≡ false → next (AfterOpen ∷ k) c ≡ next (Operand ∷ More ∷ T (Mark mark.CloseParen) ∷ k) c
next-open c k h = rw h refl

pub next-lead : (l : Lead) (c : Class) (k : List Symbol) → lead_of c ≡ l → next (Operand ∷ k) c ≡ or_else (lead_step l k) None
next-lead l c k h = rw h refl

pub next-more : (c : Class) (op : Op2) (k : List Symbol) → infix_of c ≡ Some op → next (More ∷ k) c ≡ Some (Operand ∷ More ∷ k)
next-more c op k h = rw h refl

pub next-edge : (c : Class) (k : List Symbol) → is_edge c ≡ true → next (AfterMinus ∷ k) c ≡ Some k
next-edge c k h = rw h refl

pub next-kind : (c : Class) (kind : Kind) (k : List Symbol) → kind_of c ≡ Some kind → next (AfterOpen ∷ k) c ≡ Some (T (Mark mark.CloseParen) ∷ Operand ∷ k)
next-kind c kind k h = rw h refl

after-minus : {k : List Symbol} {ts : List Token} → Leads ts → Goes (AfterMinus ∷ k) ts (Operand ∷ k) ts
after-minus {k} {ts} l =
    then (same-tokens l.is) (then (alike (next-minus l.first.class k (second-false (leads (lead_of l.first.class)) (is_edge l.first.class) (leads-no-edge l.first.class) l.lead))) (same-tokens (sym l.is)))

after-open : {k : List Symbol} {ts : List Token} → Leads ts → Goes (AfterOpen ∷ k) ts (Operand ∷ More ∷ T (Mark mark.CloseParen) ∷ k) ts
after-open {k} {ts} l =
    then (same-tokens l.is) (then (alike (next-open l.first.class k (second-false (leads (lead_of l.first.class)) (has (kind_of l.first.class)) (leads-no-kind l.first.class) l.lead))) (same-tokens (sym l.is)))

lead-sign : (op : Op1) (t : Token) (k : List Symbol) (more : List Token) → lead_of t.class ≡ sign_lead op → Leads more → Goes (Operand ∷ k) (t ∷ more) (Operand ∷ k) more
lead-sign op1.Minus t k more h d = then (one (next-lead lead.Minus t.class k h)) (after-minus d)
lead-sign op1.Plus t k more h d = one (next-lead (lead.Prefix op1.Plus) t.class k h)
lead-sign op1.BitNot t k more h d = one (next-lead (lead.Prefix op1.BitNot) t.class k h)
lead-sign op1.Not t k more h d = one (next-lead (lead.Prefix op1.Not) t.class k h)

-- the expression's tokens are read, and nothing else is read with them
pub record ExprRead (e : Expr) : Type 0 where
  pub expr : (k : List Symbol) (more : List Token) → Goes (Operand ∷ More ∷ k) (print e more) (More ∷ k) more
  pub operand : level e ≡ 11 → (k : List Symbol) (more : List Token) → Goes (Operand ∷ k) (print e more) k more

as_operand : (e : Expr) → ((k : List Symbol) (more : List Token) → Goes (Operand ∷ k) (print e more) k more) → ExprRead e
as_operand e f = record { expr = λ k more. f (More ∷ k) more; operand = λ h. f }

pub expr-read : (e : Expr) → IsExpr e → ExprRead e
expr-read (Atom t) h = as_operand (Atom t) (λ k more. one (next-lead lead.Atom t.class k (atom-lead t.class h)))
expr-read (Least m e) h = as_operand (Least m e) (λ k more. then (read (Mark mark.Minus) h.0 refl) (one (next-edge e.class k h.1)))
expr-read (Status a n) h = as_operand (Status a n) (λ k more. then (read (Mark mark.Hash) h.0 refl) (read Name h.1 refl))
expr-read (Prefix op t e) h = let r = expr-read e h.2 in as_operand (Prefix op t e) (λ k more. then (lead-sign op t k (print e more) (sign-leads t.class op h.0) (leads-expr e more h.2)) (r.operand h.1 k more))
expr-read (Cast kind o w c e) h =
    let r = expr-read e h.4 in
    as_operand (Cast kind o w c e) (λ k more. then (read (Mark mark.OpenParen) h.0 refl) (then (one (next-kind w.class kind k h.1)) (then (read (Mark mark.CloseParen) h.2 refl) (r.operand h.3 k more))))
expr-read (Group o e c) h =
    let r = expr-read e h.1 in
    as_operand (Group o e c) (λ k more. then (read (Mark mark.OpenParen) h.0 refl) (then (after-open (leads-expr e (c ∷ more) h.1)) (then (r.expr (T (Mark mark.CloseParen) ∷ k) (c ∷ more)) (read (Mark mark.CloseParen) h.2 refl))))
expr-read (Infix op t l r) h =
    let a = expr-read l h.3 in
    let b = expr-read r h.4 in
    record {
      expr = λ k more. then (a.expr k (t ∷ print r more)) (then (one (next-more t.class op k h.0)) (b.expr k more));
      operand = λ g. absurd (let q = level-small op in omega arith);
    }

-- tests
pub next-join : (c : Class) (j : Join) (k : List Symbol) → join_of c ≡ Some j → next (MoreTest ∷ k) c ≡ Some (TestOperand ∷ MoreTest ∷ k)
next-join c j k h = rw h refl

pub record TestRead (e : Test) : Type 0 where
  pub test : (k : List Symbol) (more : List Token) → Goes (TestOperand ∷ MoreTest ∷ k) (print_test e more) (MoreTest ∷ k) more
  pub operand : test_level e ≡ 3 → (k : List Symbol) (more : List Token) → Goes (TestOperand ∷ k) (print_test e more) k more

as_test_operand : (e : Test) → ((k : List Symbol) (more : List Token) → Goes (TestOperand ∷ k) (print_test e more) k more) → TestRead e
as_test_operand e f = record { test = λ k more. f (MoreTest ∷ k) more; operand = λ h. f }

pub test-read : (e : Test) → IsTest e → TestRead e
test-read (SignalTest n) h = as_test_operand (SignalTest n) (λ k more. read Name h refl)
test-read (NotTest b e) h = let r = test-read e h.2 in as_test_operand (NotTest b e) (λ k more. then (read (Mark mark.Bang) h.0 refl) (r.operand h.1 k more))
test-read (GroupTest o e c) h =
    let r = test-read e h.1 in
    as_test_operand (GroupTest o e c) (λ k more. then (read (Mark mark.OpenParen) h.0 refl) (then (r.test (T (Mark mark.CloseParen) ∷ k) (c ∷ more)) (read (Mark mark.CloseParen) h.2 refl)))
test-read (JoinTest j t l r) h =
    let a = test-read l h.3 in
    let b = test-read r h.4 in
    record {
      test = λ k more. then (a.test k (t ∷ print_test r more)) (then (one (next-join t.class j k h.0)) (b.test k more));
      operand = λ g. absurd (let q = join-small j in omega arith);
    }

-- an expression and a test are read to their ends
pub whole-expr : (e : Expr) → IsExpr e → steps expression (print e []) ≡ Some (More ∷ [])
whole-expr e h = let s = expr-read e h in let g = s.expr [] [] in g.goes

pub whole-test : (e : Test) → IsTest e → steps test (print_test e []) ≡ Some (MoreTest ∷ [])
whole-test e h = let s = test-read e h in let g = s.test [] [] in g.goes

pub record ReadTo (k : List Symbol) (a : List Token) : Type 0 where
  pub left : List Symbol
  pub is : steps k a ≡ Some left

prefix-cases : (o : Option (List Symbol)) (k : List Symbol) (t : Token) (a b : List Token) (j : List Symbol) → next k t.class ≡ o → elim o [ None ↦ None | Some i ↦ steps i (a ++ b) ] ≡ Some j
    → ((i : List Symbol) → steps i (a ++ b) ≡ Some j → ReadTo i a) → ReadTo k (t ∷ a)
prefix-cases None k t a b j e h r = absurd (cc)
prefix-cases (Some i) k t a b j e h r = let q = r i h in record { left = q.left; is = steps-some k t a i e ∙ q.is }

-- a prefix of what can be read can be read
pub prefix-reads : (a b : List Token) (k j : List Symbol) → steps k (a ++ b) ≡ Some j → ReadTo k a
prefix-reads [] b k j h = record { left = k; is = refl }
prefix-reads (t ∷ a) b k j h = prefix-cases (next k t.class) k t a b j refl h (λ i g. prefix-reads a b i j g)
