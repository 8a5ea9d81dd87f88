-- Tokens are printed by one expression alone.
use Rattle.std.proofs.Common.{◌≡◌, ℕ, ◌+◌, ◌≤◌, Bool, true, false, nat_lt, cond, List, [], ◌∷◌, ◌++◌, Some, ap, refl, sym, ◌∙◌, subst, arith}
use Rattle.std.proofs.lemmas.Bool.{ltb-true, lt-ltb}
use Rattle.java_values.specs.declared.kind.Kind.{Kind}
use Rattle.java_values.specs.declared.op.Op1.{Op1}
use Rattle.java_values.specs.declared.op.Op1.TheVariants as op1
use Rattle.java_values.specs.declared.op.Op2.{Op2}
use Rattle.sj_lexer.specs.declared.token.Class.{Class}
use Rattle.sj_lexer.specs.declared.token.Class.TheVariants.{Mark}
use Rattle.sj_lexer.specs.declared.token.Mark.TheVariants as mark
use Rattle.sj_lexer.specs.declared.token.Token.{Token}
use Rattle.sj_grammar.specs.declared.role.Lead.{Lead}
use Rattle.sj_grammar.specs.declared.role.Lead.TheVariants as lead
use Rattle.sj_grammar.specs.definitions.Roles.{lead_of, is_edge, sign_of, infix_of, kind_of, level_of, has}
use Rattle.sj_grammar.specs.definitions.Expressions.{Expr, Atom, Least, Status, Prefix, Cast, Group, Infix, print, level, IsExpr, insert}
use Rattle.sj_grammar.proofs.ClassRoles.{atom-lead, sign_lead, sign-leads, leads, leads-no-kind, leads-no-edge, second-false}
use Rattle.sj_grammar.proofs.OperatorInsertion.{level-small}
use Rattle.sj_grammar.proofs.PrintedExpressions.{leads-expr}

-- an operator, and the operand to its right
pub record Link : Type 0 where
  pub op : Op2
  pub token : Token
  pub operand : Expr

-- an expression as its first operand and the links after it
abbrev head : Expr → Expr
head (Infix op t l r) = head l
head e = e

abbrev tail : Expr → List Link
tail (Infix op t l r) = tail l ++ record { op = op; token = t; operand = head r } ∷ tail r
tail _ = []

abbrev prints : List Link → List Token → List Token
prints [] a = a
prints (x ∷ xs) a = x.token ∷ print x.operand (prints xs a)

prints-append : (xs ys : List Link) (a : List Token) → prints (xs ++ ys) a ≡ prints xs (prints ys a)
prints-append [] ys a = refl
prints-append (x ∷ xs) ys a = ap (λ z. x.token ∷ print x.operand z) (prints-append xs ys a)

print-links : (e : Expr) (a : List Token) → print e a ≡ print (head e) (prints (tail e) a)
print-links (Infix op t l r) a =
    print-links l (t ∷ print r a) ∙ ap (λ z. print (head l) (prints (tail l) (t ∷ z))) (print-links r a)
    ∙ sym (ap (print (head l)) (prints-append (tail l) (record { op = op; token = t; operand = head r } ∷ tail r) a))
print-links _ a = refl

-- the expression of a first operand and links
abbrev build : Expr → List Link → Expr
build e [] = e
build e (x ∷ xs) = build (insert e x.op x.token x.operand) xs

build-append : (e : Expr) (xs ys : List Link) → build e (xs ++ ys) ≡ build (build e xs) ys
build-append e [] ys = refl
build-append e (x ∷ xs) ys = build-append (insert e x.op x.token x.operand) xs ys

abbrev AllAtLeast : ℕ → List Link → Type 0
AllAtLeast m [] = Unit {0}
AllAtLeast m (x ∷ xs) = (m ≤ level_of x.op) × AllAtLeast m xs

all-append : (m : ℕ) (xs ys : List Link) → AllAtLeast m xs → AllAtLeast m ys → AllAtLeast m (xs ++ ys)
all-append m [] ys h g = g
all-append m (x ∷ xs) ys h g = (h.0, all-append m xs ys h.1 g)

at-least : (e : Expr) (m : ℕ) → IsExpr e → m ≤ level e → AllAtLeast m (tail e)
at-least (Infix op t l r) m h g =
    all-append m (tail l) (record { op = op; token = t; operand = head r } ∷ tail r) (at-least l m h.3 (let q = h.1 in omega arith)) (g, at-least r m h.4 (let q = h.2 in omega arith))
at-least (Atom t) m h g = tt
at-least (Least a b) m h g = tt
at-least (Status a b) m h g = tt
at-least (Prefix op t e) m h g = tt
at-least (Cast k o w c e) m h g = tt
at-least (Group o e c) m h g = tt

not-less : (a b : ℕ) → b ≤ a → nat_lt a b ≡ false
not-less a b h = grind (arith, ltb-true)

insert-right : (b : Bool) (p : Op2) (s : Token) (l r : Expr) (x : Link) → nat_lt (level_of p) (level_of x.op) ≡ b → b ≡ true → insert (Infix p s l r) x.op x.token x.operand ≡ Infix p s l (insert r x.op x.token x.operand)
insert-right b p s l r x h g = ap (λ c. cond c (Infix p s l (insert r x.op x.token x.operand)) (Infix x.op x.token (Infix p s l r) x.operand)) (h ∙ g)

build-right : (xs : List Link) (p : Op2) (s : Token) (l r : Expr) → AllAtLeast (level_of p + 1) xs → build (Infix p s l r) xs ≡ Infix p s l (build r xs)
build-right [] p s l r h = refl
build-right (x ∷ xs) p s l r h =
    ap (λ e. build e xs) (insert-right (nat_lt (level_of p) (level_of x.op)) p s l r x refl (lt-ltb (level_of p) (level_of x.op) (let q = h.0 in omega arith)))
    ∙ build-right xs p s l (insert r x.op x.token x.operand) h.1

insert-first : (l : Expr) (op : Op2) (t : Token) (u : Expr) → level_of op ≤ level l → insert l op t u ≡ Infix op t l u
insert-first (Infix p s l r) op t u h = ap (λ c. cond c (Infix p s l (insert r op t u)) (Infix op t (Infix p s l r) u)) (not-less (level_of p) (level_of op) h)
insert-first (Atom a) op t u h = refl
insert-first (Least a b) op t u h = refl
insert-first (Status a b) op t u h = refl
insert-first (Prefix p s e) op t u h = refl
insert-first (Cast k o w c e) op t u h = refl
insert-first (Group o e c) op t u h = refl

rebuilt : (e : Expr) → IsExpr e → build (head e) (tail e) ≡ e
rebuilt (Infix op t l r) h =
    build-append (head l) (tail l) (record { op = op; token = t; operand = head r } ∷ tail r)
    ∙ ap (λ z. build (insert z op t (head r)) (tail r)) (rebuilt l h.3)
    ∙ ap (λ z. build z (tail r)) (insert-first l op t (head r) h.1)
    ∙ build-right (tail r) op t l (head r) (at-least r (level_of op + 1) h.4 (let q = h.2 in omega arith))
    ∙ ap (Infix op t l) (rebuilt r h.4)
rebuilt (Atom t) h = refl
rebuilt (Least a b) h = refl
rebuilt (Status a b) h = refl
rebuilt (Prefix op t e) h = refl
rebuilt (Cast k o w c e) h = refl
rebuilt (Group o e c) h = refl

-- what heads and links are
head-is : (e : Expr) → IsExpr e → IsExpr (head e) × (level (head e) ≡ 11)
head-is (Infix op t l r) h = head-is l h.3
head-is (Atom t) h = (h, refl)
head-is (Least a b) h = (h, refl)
head-is (Status a b) h = (h, refl)
head-is (Prefix op t e) h = (h, refl)
head-is (Cast k o w c e) h = (h, refl)
head-is (Group o e c) h = (h, refl)

abbrev IsLink : Link → Type 0
IsLink x = (infix_of x.token.class ≡ Some x.op) × IsExpr x.operand × (level x.operand ≡ 11)

abbrev AreLinks : List Link → Type 0
AreLinks [] = Unit {0}
AreLinks (x ∷ xs) = IsLink x × AreLinks xs

links-append : (xs ys : List Link) → AreLinks xs → AreLinks ys → AreLinks (xs ++ ys)
links-append [] ys h g = g
links-append (x ∷ xs) ys h g = (h.0, links-append xs ys h.1 g)

tail-is : (e : Expr) → IsExpr e → AreLinks (tail e)
tail-is (Infix op t l r) h = let q = head-is r h.4 in links-append (tail l) (record { op = op; token = t; operand = head r } ∷ tail r) (tail-is l h.3) ((h.0, q.0, q.1), tail-is r h.4)
tail-is (Atom t) h = tt
tail-is (Least a b) h = tt
tail-is (Status a b) h = tt
tail-is (Prefix op t e) h = tt
tail-is (Cast k o w c e) h = tt
tail-is (Group o e c) h = tt

-- no other operand prints these tokens
pub record Alone (e : Expr) : Type 0 where
  pub only : (f : Expr) (a b : List Token) → IsExpr f → level f ≡ 11 → print e a ≡ print f b → (e ≡ f) × (a ≡ b)

abbrev AllAlone : List Link → Type 0
AllAlone [] = Unit {0}
AllAlone (x ∷ xs) = Alone x.operand × AllAlone xs

alone-append : (xs ys : List Link) → AllAlone xs → AllAlone ys → AllAlone (xs ++ ys)
alone-append [] ys h g = g
alone-append (x ∷ xs) ys h g = (h.0, alone-append xs ys h.1 g)

pub record Parts (e : Expr) : Type 0 where
  pub first : Alone (head e)
  pub links : AllAlone (tail e)

-- the tokens begin with no operator
pub record NoInfix (ts : List Token) : Type 0 where
  pub none : (t : Token) (more : List Token) → ts ≡ t ∷ more → has (infix_of t.class) ≡ false

pub first-same : (t u : Token) (ts us : List Token) → t ∷ ts ≡ u ∷ us → (t ≡ u) × (ts ≡ us)
first-same t u ts us h = (cc, cc)

link-same : (x y : Link) → x.op ≡ y.op → x.token ≡ y.token → x.operand ≡ y.operand → x ≡ y
link-same x y a b c =
    ap (λ z. record { op = z; token = x.token; operand = x.operand }) a ∙ ap (λ z. record { op = y.op; token = z; operand = x.operand }) b ∙ ap (λ z. record { op = y.op; token = y.token; operand = z }) c

op-same : (t u : Token) (p q : Op2) → t ≡ u → infix_of t.class ≡ Some p → infix_of u.class ≡ Some q → p ≡ q
op-same t u p q h g i = let e : Some p ≡ Some q = sym g ∙ ap (λ z. infix_of z.class) h ∙ i in cc

no-link : (ts us : List Token) (x : Link) → NoInfix ts → IsLink x → ts ≡ x.token ∷ us → ⊥
no-link ts us x h g e = let a = h.none x.token us e in let b = ap has g.0 in cc

links-same : (xs ys : List Link) (a b : List Token) → AllAlone xs → AreLinks xs → AreLinks ys → NoInfix a → NoInfix b → prints xs a ≡ prints ys b → (xs ≡ ys) × (a ≡ b)
links-same [] [] a b h g i m n e = (refl, e)
links-same [] (y ∷ ys) a b h g i m n e = absurd (no-link a (print y.operand (prints ys b)) y m i.0 e)
links-same (x ∷ xs) [] a b h g i m n e = absurd (no-link b (print x.operand (prints xs a)) x n g.0 (sym e))
links-same (x ∷ xs) (y ∷ ys) a b h g i m n e =
    let s = first-same x.token y.token (print x.operand (prints xs a)) (print y.operand (prints ys b)) e in
    let o = h.0.only y.operand (prints xs a) (prints ys b) i.0.1 i.0.2 s.1 in
    let r = links-same xs ys a b h.1 g.1 i.1 m n o.1 in
    (ap (λ z. z ∷ xs) (link-same x y (op-same x.token y.token x.op y.op s.0 g.0.0 i.0.0) s.0 o.0) ∙ ap (λ z. y ∷ z) r.0, r.1)

pub expr-same : (e f : Expr) (a b : List Token) → Parts e → IsExpr e → IsExpr f → NoInfix a → NoInfix b → print e a ≡ print f b → (e ≡ f) × (a ≡ b)
expr-same e f a b p h g m n q =
    let k = head-is f g in
    let o = p.first.only (head f) (prints (tail e) a) (prints (tail f) b) k.0 k.1 (sym (print-links e a) ∙ q ∙ print-links f b) in
    let r = links-same (tail e) (tail f) a b p.links (tail-is e h) (tail-is f g) m n o.1 in
    (sym (rebuilt e h) ∙ ap (λ z. build z (tail e)) o.0 ∙ ap (build (head f)) r.0 ∙ rebuilt f g, r.1)

-- which form an operand has, by its first token
abbrev group_of : Lead → ℕ
group_of lead.Atom = 0
group_of lead.Hash = 1
group_of (lead.Prefix op) = 2
group_of lead.Minus = 2
group_of lead.Open = 3
group_of lead.Nothing = 4

abbrev group_at : Expr → ℕ
group_at (Atom t) = 0
group_at (Status h n) = 1
group_at (Prefix op t e) = 2
group_at (Least m e) = 2
group_at (Cast k o w c e) = 3
group_at (Group o e c) = 3
group_at (Infix op t l r) = group_at l

sign-group : (op : Op1) → group_of (sign_lead op) ≡ 2
sign-group op1.Minus = refl
sign-group _ = refl

record First (e : Expr) (a : List Token) : Type 0 where
  pub token : Token
  pub after : List Token
  pub is : print e a ≡ token ∷ after
  pub group : group_of (lead_of token.class) ≡ group_at e

class-group : (t : Token) (c : Class) (n : ℕ) → t.class ≡ c → group_of (lead_of c) ≡ n → group_of (lead_of t.class) ≡ n
class-group t c n h g = ap (λ z. group_of (lead_of z)) h ∙ g

first : (e : Expr) (a : List Token) → IsExpr e → First e a
first (Atom t) a h = record { token = t; after = a; is = refl; group = ap group_of (atom-lead t.class h) }
first (Least m e) a h = record { token = m; after = e ∷ a; is = refl; group = class-group m (Mark mark.Minus) 2 h.0 refl }
first (Status t n) a h = record { token = t; after = n ∷ a; is = refl; group = class-group t (Mark mark.Hash) 1 h.0 refl }
first (Prefix op t e) a h = record { token = t; after = print e a; is = refl; group = ap group_of (sign-leads t.class op h.0) ∙ sign-group op }
first (Cast k o w c e) a h = record { token = o; after = w ∷ c ∷ print e a; is = refl; group = class-group o (Mark mark.OpenParen) 3 h.0 refl }
first (Group o e c) a h = record { token = o; after = print e (c ∷ a); is = refl; group = class-group o (Mark mark.OpenParen) 3 h.0 refl }
first (Infix op t l r) a h = let f = first l (t ∷ print r a) h.3 in record { token = f.token; after = f.after; is = f.is; group = f.group }

groups-same : (e f : Expr) (a b : List Token) → IsExpr e → IsExpr f → print e a ≡ print f b → group_at e ≡ group_at f
groups-same e f a b h g q =
    let x = first e a h in
    let y = first f b g in
    let s = first-same x.token y.token x.after y.after (sym x.is ∙ q ∙ y.is) in
    sym x.group ∙ ap (λ z. group_of (lead_of z.class)) s.0 ∙ y.group

-- the tokens of an expression begin with no number that is one only behind a minus, and with no kind
no-edge : (e : Expr) (a : List Token) (t : Token) (ts : List Token) → IsExpr e → print e a ≡ t ∷ ts → is_edge t.class ≡ true → ⊥
no-edge e a t ts h q g =
    let l = leads-expr e a h in
    let s = first-same l.first t l.after ts (sym l.is ∙ q) in
    let n = second-false (leads (lead_of l.first.class)) (is_edge l.first.class) (leads-no-edge l.first.class) l.lead in
    let m : is_edge l.first.class ≡ true = ap (λ z. is_edge z.class) s.0 ∙ g in
    cc

no-kind : (e : Expr) (a : List Token) (t : Token) (ts : List Token) → IsExpr e → print e a ≡ t ∷ ts → has (kind_of t.class) ≡ true → ⊥
no-kind e a t ts h q g =
    let l = leads-expr e a h in
    let s = first-same l.first t l.after ts (sym l.is ∙ q) in
    let n = second-false (leads (lead_of l.first.class)) (has (kind_of l.first.class)) (leads-no-kind l.first.class) l.lead in
    let m : has (kind_of l.first.class) ≡ true = ap (λ z. has (kind_of z.class)) s.0 ∙ g in
    cc

other-form : (m n : ℕ) → m ≡ n → nat_lt m n ≡ true → ⊥
other-form m n h g = let a = ltb-true m n g in omega arith

not-operand : (op : Op2) → level_of op ≡ 11 → ⊥
not-operand op h = let q = level-small op in omega arith

atom-only : (t : Token) (f : Expr) (a b : List Token) → IsExpr (Atom t) → IsExpr f → level f ≡ 11 → t ∷ a ≡ print f b → (Atom t ≡ f) × (a ≡ b)
atom-only t (Atom u) a b h g v q = let s = first-same t u a b q in (ap Atom s.0, s.1)
atom-only t (Least m e) a b h g v q = absurd (other-form 0 2 (groups-same (Atom t) (Least m e) a b h g q) refl)
atom-only t (Status m n) a b h g v q = absurd (other-form 0 1 (groups-same (Atom t) (Status m n) a b h g q) refl)
atom-only t (Prefix op u e) a b h g v q = absurd (other-form 0 2 (groups-same (Atom t) (Prefix op u e) a b h g q) refl)
atom-only t (Cast k o w c e) a b h g v q = absurd (other-form 0 3 (groups-same (Atom t) (Cast k o w c e) a b h g q) refl)
atom-only t (Group o e c) a b h g v q = absurd (other-form 0 3 (groups-same (Atom t) (Group o e c) a b h g q) refl)
atom-only t (Infix op u l r) a b h g v q = absurd (not-operand op v)

status-only : (t n : Token) (f : Expr) (a b : List Token) → IsExpr (Status t n) → IsExpr f → level f ≡ 11 → t ∷ n ∷ a ≡ print f b → (Status t n ≡ f) × (a ≡ b)
status-only t n (Status u m) a b h g v q =
    let s = first-same t u (n ∷ a) (m ∷ b) q in
    let r = first-same n m a b s.1 in
    (ap (λ x. Status x n) s.0 ∙ ap (Status u) r.0, r.1)
status-only t n (Atom u) a b h g v q = absurd (other-form 0 1 (sym (groups-same (Status t n) (Atom u) a b h g q)) refl)
status-only t n (Least m e) a b h g v q = absurd (other-form 1 2 (groups-same (Status t n) (Least m e) a b h g q) refl)
status-only t n (Prefix op u e) a b h g v q = absurd (other-form 1 2 (groups-same (Status t n) (Prefix op u e) a b h g q) refl)
status-only t n (Cast k o w c e) a b h g v q = absurd (other-form 1 3 (groups-same (Status t n) (Cast k o w c e) a b h g q) refl)
status-only t n (Group o e c) a b h g v q = absurd (other-form 1 3 (groups-same (Status t n) (Group o e c) a b h g q) refl)
status-only t n (Infix op u l r) a b h g v q = absurd (not-operand op v)

least-only : (m e : Token) (f : Expr) (a b : List Token) → IsExpr (Least m e) → IsExpr f → level f ≡ 11 → m ∷ e ∷ a ≡ print f b → (Least m e ≡ f) × (a ≡ b)
least-only m e (Least n d) a b h g v q =
    let s = first-same m n (e ∷ a) (d ∷ b) q in
    let r = first-same e d a b s.1 in
    (ap (λ x. Least x e) s.0 ∙ ap (Least n) r.0, r.1)
least-only m e (Prefix op u x) a b h g v q = let s = first-same m u (e ∷ a) (print x b) q in absurd (no-edge x b e a g.2 (sym s.1) h.1)
least-only m e (Atom u) a b h g v q = absurd (other-form 0 2 (sym (groups-same (Least m e) (Atom u) a b h g q)) refl)
least-only m e (Status t n) a b h g v q = absurd (other-form 1 2 (sym (groups-same (Least m e) (Status t n) a b h g q)) refl)
least-only m e (Cast k o w c x) a b h g v q = absurd (other-form 2 3 (groups-same (Least m e) (Cast k o w c x) a b h g q) refl)
least-only m e (Group o x c) a b h g v q = absurd (other-form 2 3 (groups-same (Least m e) (Group o x c) a b h g q) refl)
least-only m e (Infix op u l r) a b h g v q = absurd (not-operand op v)

signs-same : (t u : Token) (p q : Op1) → t ≡ u → sign_of t.class ≡ Some p → sign_of u.class ≡ Some q → p ≡ q
signs-same t u p q h g i = let e : Some p ≡ Some q = sym g ∙ ap (λ z. sign_of z.class) h ∙ i in cc

prefix-only : (op : Op1) (t : Token) (e : Expr) (f : Expr) (a b : List Token) → Alone e → IsExpr (Prefix op t e) → IsExpr f → level f ≡ 11 → t ∷ print e a ≡ print f b → (Prefix op t e ≡ f) × (a ≡ b)
prefix-only op t e (Prefix p u x) a b l h g v q =
    let s = first-same t u (print e a) (print x b) q in
    let o = l.only x a b g.2 g.1 s.1 in
    (ap (λ z. Prefix z t e) (signs-same t u op p s.0 h.0 g.0) ∙ ap (λ z. Prefix p z e) s.0 ∙ ap (Prefix p u) o.0, o.1)
prefix-only op t e (Least m d) a b l h g v q = let s = first-same t m (print e a) (d ∷ b) q in absurd (no-edge e a d b h.2 s.1 g.1)
prefix-only op t e (Atom u) a b l h g v q = absurd (other-form 0 2 (sym (groups-same (Prefix op t e) (Atom u) a b h g q)) refl)
prefix-only op t e (Status u n) a b l h g v q = absurd (other-form 1 2 (sym (groups-same (Prefix op t e) (Status u n) a b h g q)) refl)
prefix-only op t e (Cast k o w c x) a b l h g v q = absurd (other-form 2 3 (groups-same (Prefix op t e) (Cast k o w c x) a b h g q) refl)
prefix-only op t e (Group o x c) a b l h g v q = absurd (other-form 2 3 (groups-same (Prefix op t e) (Group o x c) a b h g q) refl)
prefix-only op t e (Infix p u x r) a b l h g v q = absurd (not-operand p v)

kinds-same : (t u : Token) (p q : Kind) → t ≡ u → kind_of t.class ≡ Some p → kind_of u.class ≡ Some q → p ≡ q
kinds-same t u p q h g i = let e : Some p ≡ Some q = sym g ∙ ap (λ z. kind_of z.class) h ∙ i in cc

cast-only : (k : Kind) (o w c : Token) (e : Expr) (f : Expr) (a b : List Token) → Alone e → IsExpr (Cast k o w c e) → IsExpr f → level f ≡ 11 → o ∷ w ∷ c ∷ print e a ≡ print f b → (Cast k o w c e ≡ f) × (a ≡ b)
cast-only k o w c e (Cast i p v d x) a b l h g n q =
    let s = first-same o p (w ∷ c ∷ print e a) (v ∷ d ∷ print x b) q in
    let r = first-same w v (c ∷ print e a) (d ∷ print x b) s.1 in
    let y = first-same c d (print e a) (print x b) r.1 in
    let z = l.only x a b g.4 g.3 y.1 in
    (ap (λ u. Cast u o w c e) (kinds-same w v k i r.0 h.1 g.1) ∙ ap (λ u. Cast i u w c e) s.0 ∙ ap (λ u. Cast i p u c e) r.0 ∙ ap (λ u. Cast i p v u e) y.0 ∙ ap (Cast i p v d) z.0, z.1)
cast-only k o w c e (Group p x d) a b l h g n q = let s = first-same o p (w ∷ c ∷ print e a) (print x (d ∷ b)) q in absurd (no-kind x (d ∷ b) w (c ∷ print e a) g.1 (sym s.1) (ap has h.1))
cast-only k o w c e (Atom u) a b l h g n q = absurd (other-form 0 3 (sym (groups-same (Cast k o w c e) (Atom u) a b h g q)) refl)
cast-only k o w c e (Least m d) a b l h g n q = absurd (other-form 2 3 (sym (groups-same (Cast k o w c e) (Least m d) a b h g q)) refl)
cast-only k o w c e (Status u m) a b l h g n q = absurd (other-form 1 3 (sym (groups-same (Cast k o w c e) (Status u m) a b h g q)) refl)
cast-only k o w c e (Prefix p u x) a b l h g n q = absurd (other-form 2 3 (sym (groups-same (Cast k o w c e) (Prefix p u x) a b h g q)) refl)
cast-only k o w c e (Infix p u x r) a b l h g n q = absurd (not-operand p n)

closes : (c : Token) (a : List Token) → c.class ≡ Mark mark.CloseParen → NoInfix (c ∷ a)
closes c a h = record { none = λ t more e. (let s = first-same c t a more e in sym (ap (λ z. has (infix_of z.class)) s.0) ∙ ap (λ z. has (infix_of z)) h) }

group-only : (o : Token) (e : Expr) (c : Token) (f : Expr) (a b : List Token) → Parts e → IsExpr (Group o e c) → IsExpr f → level f ≡ 11 → o ∷ print e (c ∷ a) ≡ print f b → (Group o e c ≡ f) × (a ≡ b)
group-only o e c (Group p x d) a b l h g n q =
    let s = first-same o p (print e (c ∷ a)) (print x (d ∷ b)) q in
    let r = expr-same e x (c ∷ a) (d ∷ b) l h.1 g.1 (closes c a h.2) (closes d b g.2) s.1 in
    let y = first-same c d a b r.1 in
    (ap (λ u. Group u e c) s.0 ∙ ap (λ u. Group p u c) r.0 ∙ ap (Group p x) y.0, y.1)
group-only o e c (Cast k p w d x) a b l h g n q = let s = first-same o p (print e (c ∷ a)) (w ∷ d ∷ print x b) q in absurd (no-kind e (c ∷ a) w (d ∷ print x b) h.1 s.1 (ap has g.1))
group-only o e c (Atom u) a b l h g n q = absurd (other-form 0 3 (sym (groups-same (Group o e c) (Atom u) a b h g q)) refl)
group-only o e c (Least m d) a b l h g n q = absurd (other-form 2 3 (sym (groups-same (Group o e c) (Least m d) a b h g q)) refl)
group-only o e c (Status u m) a b l h g n q = absurd (other-form 1 3 (sym (groups-same (Group o e c) (Status u m) a b h g q)) refl)
group-only o e c (Prefix p u x) a b l h g n q = absurd (other-form 2 3 (sym (groups-same (Group o e c) (Prefix p u x) a b h g q)) refl)
group-only o e c (Infix p u x r) a b l h g n q = absurd (not-operand p n)

head-operand : (e : Expr) → level e ≡ 11 → head e ≡ e
head-operand (Infix op t l r) h = absurd (not-operand op h)
head-operand _ h = refl

alone : (e : Expr) → level e ≡ 11 → Parts e → Alone e
alone e h p = subst Alone (head-operand e h) p.first

pub parts : (e : Expr) → IsExpr e → Parts e
parts (Atom t) h = record { first = record { only = λ f a b g v q. atom-only t f a b h g v q }; links = tt }
parts (Status t n) h = record { first = record { only = λ f a b g v q. status-only t n f a b h g v q }; links = tt }
parts (Least m e) h = record { first = record { only = λ f a b g v q. least-only m e f a b h g v q }; links = tt }
parts (Prefix op t e) h = let l = alone e h.1 (parts e h.2) in record { first = record { only = λ f a b g v q. prefix-only op t e f a b l h g v q }; links = tt }
parts (Cast k o w c e) h = let l = alone e h.3 (parts e h.4) in record { first = record { only = λ f a b g v q. cast-only k o w c e f a b l h g v q }; links = tt }
parts (Group o e c) h = let p = parts e h.1 in record { first = record { only = λ f a b g v q. group-only o e c f a b p h g v q }; links = tt }
parts (Infix op t l r) h =
    let p = parts l h.3 in
    let q = parts r h.4 in
    record { first = p.first; links = alone-append (tail l) (record { op = op; token = t; operand = head r } ∷ tail r) p.links (q.first, q.links) }

nothing-follows : NoInfix []
nothing-follows = record { none = λ t more e. absurd (cc) }

pub one-expression : (e f : Expr) → IsExpr e → IsExpr f → print e [] ≡ print f [] → e ≡ f
one-expression e f h g q = let r = expr-same e f [] [] (parts e h) h g nothing-follows nothing-follows q in r.0
