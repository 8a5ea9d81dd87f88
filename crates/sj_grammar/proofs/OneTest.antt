-- Tokens are printed by one test alone.
use Rattle.std.proofs.Common.{◌≡◌, ℕ, ◌+◌, ◌≤◌, Bool, true, false, nat_lt, cond, List, [], ◌∷◌, ◌++◌, Some, ap, refl, sym, ◌∙◌, subst, arith}
use Rattle.std.proofs.lemmas.Bool.{ltb-true, lt-ltb}
use Rattle.sj_lexer.specs.declared.token.Class.{Class}
use Rattle.sj_lexer.specs.declared.token.Class.TheVariants.{Name, Mark}
use Rattle.sj_lexer.specs.declared.token.Mark.TheVariants as mark
use Rattle.sj_lexer.specs.declared.token.Token.{Token}
use Rattle.sj_grammar.specs.declared.role.Join.{Join}
use Rattle.sj_grammar.specs.declared.role.TestLead.{TestLead}
use Rattle.sj_grammar.specs.declared.role.TestLead.TheVariants as test_lead
use Rattle.sj_grammar.specs.definitions.Roles.{test_lead_of, join_of, join_level, has}
use Rattle.sj_grammar.specs.definitions.Tests.{Test, SignalTest, NotTest, GroupTest, JoinTest, print_test, test_level, IsTest, insert_test}
use Rattle.sj_grammar.proofs.OperatorInsertion.{join-small}
use Rattle.sj_grammar.proofs.OneExpression.{first-same}

-- an operator, and the operand to its right
pub record Link : Type 0 where
  pub join : Join
  pub token : Token
  pub operand : Test

-- a test as its first operand and the links after it
abbrev head : Test → Test
head (JoinTest j t l r) = head l
head e = e

abbrev tail : Test → List Link
tail (JoinTest j t l r) = tail l ++ record { join = j; token = t; operand = head r } ∷ tail r
tail _ = []

abbrev prints : List Link → List Token → List Token
prints [] a = a
prints (x ∷ xs) a = x.token ∷ print_test x.operand (prints xs a)

prints-append : (xs ys : List Link) (a : List Token) → prints (xs ++ ys) a ≡ prints xs (prints ys a)
prints-append [] ys a = refl
prints-append (x ∷ xs) ys a = ap (λ z. x.token ∷ print_test x.operand z) (prints-append xs ys a)

print-links : (e : Test) (a : List Token) → print_test e a ≡ print_test (head e) (prints (tail e) a)
print-links (JoinTest j t l r) a =
    print-links l (t ∷ print_test r a) ∙ ap (λ z. print_test (head l) (prints (tail l) (t ∷ z))) (print-links r a)
    ∙ sym (ap (print_test (head l)) (prints-append (tail l) (record { join = j; token = t; operand = head r } ∷ tail r) a))
print-links _ a = refl

-- the test of a first operand and links
abbrev build : Test → List Link → Test
build e [] = e
build e (x ∷ xs) = build (insert_test e x.join x.token x.operand) xs

build-append : (e : Test) (xs ys : List Link) → build e (xs ++ ys) ≡ build (build e xs) ys
build-append e [] ys = refl
build-append e (x ∷ xs) ys = build-append (insert_test e x.join x.token x.operand) xs ys

abbrev AllAtLeast : ℕ → List Link → Type 0
AllAtLeast m [] = Unit {0}
AllAtLeast m (x ∷ xs) = (m ≤ join_level x.join) × AllAtLeast m xs

all-append : (m : ℕ) (xs ys : List Link) → AllAtLeast m xs → AllAtLeast m ys → AllAtLeast m (xs ++ ys)
all-append m [] ys h g = g
all-append m (x ∷ xs) ys h g = (h.0, all-append m xs ys h.1 g)

at-least : (e : Test) (m : ℕ) → IsTest e → m ≤ test_level e → AllAtLeast m (tail e)
at-least (JoinTest j t l r) m h g =
    all-append m (tail l) (record { join = j; token = t; operand = head r } ∷ tail r) (at-least l m h.3 (let q = h.1 in omega arith)) (g, at-least r m h.4 (let q = h.2 in omega arith))
at-least (SignalTest n) m h g = tt
at-least (NotTest b e) m h g = tt
at-least (GroupTest o e c) m h g = tt

not-less : (a b : ℕ) → b ≤ a → nat_lt a b ≡ false
not-less a b h = grind (arith, ltb-true)

insert-right : (b : Bool) (p : Join) (s : Token) (l r : Test) (x : Link) → nat_lt (join_level p) (join_level x.join) ≡ b → b ≡ true → insert_test (JoinTest p s l r) x.join x.token x.operand ≡ JoinTest p s l (insert_test r x.join x.token x.operand)
insert-right b p s l r x h g = ap (λ c. cond c (JoinTest p s l (insert_test r x.join x.token x.operand)) (JoinTest x.join x.token (JoinTest p s l r) x.operand)) (h ∙ g)

build-right : (xs : List Link) (p : Join) (s : Token) (l r : Test) → AllAtLeast (join_level p + 1) xs → build (JoinTest p s l r) xs ≡ JoinTest p s l (build r xs)
build-right [] p s l r h = refl
build-right (x ∷ xs) p s l r h =
    ap (λ e. build e xs) (insert-right (nat_lt (join_level p) (join_level x.join)) p s l r x refl (lt-ltb (join_level p) (join_level x.join) (let q = h.0 in omega arith)))
    ∙ build-right xs p s l (insert_test r x.join x.token x.operand) h.1

insert-first : (l : Test) (j : Join) (t : Token) (u : Test) → join_level j ≤ test_level l → insert_test l j t u ≡ JoinTest j t l u
insert-first (JoinTest p s l r) j t u h = ap (λ c. cond c (JoinTest p s l (insert_test r j t u)) (JoinTest j t (JoinTest p s l r) u)) (not-less (join_level p) (join_level j) h)
insert-first (SignalTest n) j t u h = refl
insert-first (NotTest b e) j t u h = refl
insert-first (GroupTest o e c) j t u h = refl

rebuilt : (e : Test) → IsTest e → build (head e) (tail e) ≡ e
rebuilt (JoinTest j t l r) h =
    build-append (head l) (tail l) (record { join = j; token = t; operand = head r } ∷ tail r)
    ∙ ap (λ z. build (insert_test z j t (head r)) (tail r)) (rebuilt l h.3)
    ∙ ap (λ z. build z (tail r)) (insert-first l j t (head r) h.1)
    ∙ build-right (tail r) j t l (head r) (at-least r (join_level j + 1) h.4 (let q = h.2 in omega arith))
    ∙ ap (JoinTest j t l) (rebuilt r h.4)
rebuilt (SignalTest n) h = refl
rebuilt (NotTest b e) h = refl
rebuilt (GroupTest o e c) h = refl

-- what heads and links are
head-is : (e : Test) → IsTest e → IsTest (head e) × (test_level (head e) ≡ 3)
head-is (JoinTest j t l r) h = head-is l h.3
head-is (SignalTest n) h = (h, refl)
head-is (NotTest b e) h = (h, refl)
head-is (GroupTest o e c) h = (h, refl)

abbrev IsLink : Link → Type 0
IsLink x = (join_of x.token.class ≡ Some x.join) × IsTest x.operand × (test_level x.operand ≡ 3)

abbrev AreLinks : List Link → Type 0
AreLinks [] = Unit {0}
AreLinks (x ∷ xs) = IsLink x × AreLinks xs

links-append : (xs ys : List Link) → AreLinks xs → AreLinks ys → AreLinks (xs ++ ys)
links-append [] ys h g = g
links-append (x ∷ xs) ys h g = (h.0, links-append xs ys h.1 g)

tail-is : (e : Test) → IsTest e → AreLinks (tail e)
tail-is (JoinTest j t l r) h = let q = head-is r h.4 in links-append (tail l) (record { join = j; token = t; operand = head r } ∷ tail r) (tail-is l h.3) ((h.0, q.0, q.1), tail-is r h.4)
tail-is (SignalTest n) h = tt
tail-is (NotTest b e) h = tt
tail-is (GroupTest o e c) h = tt

-- no other operand prints these tokens
pub record Alone (e : Test) : Type 0 where
  pub only : (f : Test) (a b : List Token) → IsTest f → test_level f ≡ 3 → print_test e a ≡ print_test f b → (e ≡ f) × (a ≡ b)

abbrev AllAlone : List Link → Type 0
AllAlone [] = Unit {0}
AllAlone (x ∷ xs) = Alone x.operand × AllAlone xs

alone-append : (xs ys : List Link) → AllAlone xs → AllAlone ys → AllAlone (xs ++ ys)
alone-append [] ys h g = g
alone-append (x ∷ xs) ys h g = (h.0, alone-append xs ys h.1 g)

pub record Parts (e : Test) : Type 0 where
  pub first : Alone (head e)
  pub links : AllAlone (tail e)

-- the tokens begin with no operator
pub record NoJoin (ts : List Token) : Type 0 where
  pub none : (t : Token) (more : List Token) → ts ≡ t ∷ more → has (join_of t.class) ≡ false

link-same : (x y : Link) → x.join ≡ y.join → x.token ≡ y.token → x.operand ≡ y.operand → x ≡ y
link-same x y a b c =
    ap (λ z. record { join = z; token = x.token; operand = x.operand }) a ∙ ap (λ z. record { join = y.join; token = z; operand = x.operand }) b ∙ ap (λ z. record { join = y.join; token = y.token; operand = z }) c

join-same : (t u : Token) (p q : Join) → t ≡ u → join_of t.class ≡ Some p → join_of u.class ≡ Some q → p ≡ q
join-same t u p q h g i = let e : Some p ≡ Some q = sym g ∙ ap (λ z. join_of z.class) h ∙ i in cc

no-link : (ts us : List Token) (x : Link) → NoJoin ts → IsLink x → ts ≡ x.token ∷ us → ⊥
no-link ts us x h g e = let a = h.none x.token us e in let b = ap has g.0 in cc

links-same : (xs ys : List Link) (a b : List Token) → AllAlone xs → AreLinks xs → AreLinks ys → NoJoin a → NoJoin b → prints xs a ≡ prints ys b → (xs ≡ ys) × (a ≡ b)
links-same [] [] a b h g i m n e = (refl, e)
links-same [] (y ∷ ys) a b h g i m n e = absurd (no-link a (print_test y.operand (prints ys b)) y m i.0 e)
links-same (x ∷ xs) [] a b h g i m n e = absurd (no-link b (print_test x.operand (prints xs a)) x n g.0 (sym e))
links-same (x ∷ xs) (y ∷ ys) a b h g i m n e =
    let s = first-same x.token y.token (print_test x.operand (prints xs a)) (print_test y.operand (prints ys b)) e in
    let o = h.0.only y.operand (prints xs a) (prints ys b) i.0.1 i.0.2 s.1 in
    let r = links-same xs ys a b h.1 g.1 i.1 m n o.1 in
    (ap (λ z. z ∷ xs) (link-same x y (join-same x.token y.token x.join y.join s.0 g.0.0 i.0.0) s.0 o.0) ∙ ap (λ z. y ∷ z) r.0, r.1)

pub test-same : (e f : Test) (a b : List Token) → Parts e → IsTest e → IsTest f → NoJoin a → NoJoin b → print_test e a ≡ print_test f b → (e ≡ f) × (a ≡ b)
test-same e f a b p h g m n q =
    let k = head-is f g in
    let o = p.first.only (head f) (prints (tail e) a) (prints (tail f) b) k.0 k.1 (sym (print-links e a) ∙ q ∙ print-links f b) in
    let r = links-same (tail e) (tail f) a b p.links (tail-is e h) (tail-is f g) m n o.1 in
    (sym (rebuilt e h) ∙ ap (λ z. build z (tail e)) o.0 ∙ ap (build (head f)) r.0 ∙ rebuilt f g, r.1)

-- which form an operand has, by its first token
abbrev group_of : TestLead → ℕ
group_of test_lead.Signal = 0
group_of test_lead.Not = 1
group_of test_lead.Open = 2
group_of test_lead.Nothing = 3

other-form : (t u : Token) (c d : Class) (m n : ℕ) → t ≡ u → t.class ≡ c → u.class ≡ d → group_of (test_lead_of c) ≡ m → group_of (test_lead_of d) ≡ n → nat_lt m n ≡ true → ⊥
other-form t u c d m n e h g i j l =
    let q : c ≡ d = sym h ∙ ap (λ z. z.class) e ∙ g in
    let r : m ≡ n = sym i ∙ ap (λ z. group_of (test_lead_of z)) q ∙ j in
    let a = ltb-true m n l in
    omega arith

not-operand : (j : Join) → join_level j ≡ 3 → ⊥
not-operand j h = let q = join-small j in omega arith

signal-only : (n : Token) (f : Test) (a b : List Token) → IsTest (SignalTest n) → IsTest f → test_level f ≡ 3 → n ∷ a ≡ print_test f b → (SignalTest n ≡ f) × (a ≡ b)
signal-only n (SignalTest m) a b h g v q = let s = first-same n m a b q in (ap SignalTest s.0, s.1)
signal-only n (NotTest u e) a b h g v q = let s = first-same n u a (print_test e b) q in absurd (other-form n u Name (Mark mark.Bang) 0 1 s.0 h g.0 refl refl refl)
signal-only n (GroupTest o e c) a b h g v q = let s = first-same n o a (print_test e (c ∷ b)) q in absurd (other-form n o Name (Mark mark.OpenParen) 0 2 s.0 h g.0 refl refl refl)
signal-only n (JoinTest j t l r) a b h g v q = absurd (not-operand j v)

not-only : (u : Token) (e : Test) (f : Test) (a b : List Token) → Alone e → IsTest (NotTest u e) → IsTest f → test_level f ≡ 3 → u ∷ print_test e a ≡ print_test f b → (NotTest u e ≡ f) × (a ≡ b)
not-only u e (NotTest v x) a b l h g n q =
    let s = first-same u v (print_test e a) (print_test x b) q in
    let o = l.only x a b g.2 g.1 s.1 in
    (ap (λ z. NotTest z e) s.0 ∙ ap (NotTest v) o.0, o.1)
not-only u e (SignalTest m) a b l h g n q = let s = first-same u m (print_test e a) b q in absurd (other-form m u Name (Mark mark.Bang) 0 1 (sym s.0) g h.0 refl refl refl)
not-only u e (GroupTest o x c) a b l h g n q = let s = first-same u o (print_test e a) (print_test x (c ∷ b)) q in absurd (other-form u o (Mark mark.Bang) (Mark mark.OpenParen) 1 2 s.0 h.0 g.0 refl refl refl)
not-only u e (JoinTest j t x r) a b l h g n q = absurd (not-operand j n)

pub closes : (c : Token) (a : List Token) → c.class ≡ Mark mark.CloseParen → NoJoin (c ∷ a)
closes c a h = record { none = λ t more e. (let s = first-same c t a more e in sym (ap (λ z. has (join_of z.class)) s.0) ∙ ap (λ z. has (join_of z)) h) }

group-only : (o : Token) (e : Test) (c : Token) (f : Test) (a b : List Token) → Parts e → IsTest (GroupTest o e c) → IsTest f → test_level f ≡ 3 → o ∷ print_test e (c ∷ a) ≡ print_test f b → (GroupTest o e c ≡ f) × (a ≡ b)
group-only o e c (GroupTest p x d) a b l h g n q =
    let s = first-same o p (print_test e (c ∷ a)) (print_test x (d ∷ b)) q in
    let r = test-same e x (c ∷ a) (d ∷ b) l h.1 g.1 (closes c a h.2) (closes d b g.2) s.1 in
    let y = first-same c d a b r.1 in
    (ap (λ u. GroupTest u e c) s.0 ∙ ap (λ u. GroupTest p u c) r.0 ∙ ap (GroupTest p x) y.0, y.1)
group-only o e c (SignalTest m) a b l h g n q = let s = first-same o m (print_test e (c ∷ a)) b q in absurd (other-form m o Name (Mark mark.OpenParen) 0 2 (sym s.0) g h.0 refl refl refl)
group-only o e c (NotTest u x) a b l h g n q = let s = first-same o u (print_test e (c ∷ a)) (print_test x b) q in absurd (other-form u o (Mark mark.Bang) (Mark mark.OpenParen) 1 2 (sym s.0) g.0 h.0 refl refl refl)
group-only o e c (JoinTest j t x r) a b l h g n q = absurd (not-operand j n)

head-operand : (e : Test) → test_level e ≡ 3 → head e ≡ e
head-operand (JoinTest j t l r) h = absurd (not-operand j h)
head-operand _ h = refl

alone : (e : Test) → test_level e ≡ 3 → Parts e → Alone e
alone e h p = subst Alone (head-operand e h) p.first

pub parts : (e : Test) → IsTest e → Parts e
parts (SignalTest n) h = record { first = record { only = λ f a b g v q. signal-only n f a b h g v q }; links = tt }
parts (NotTest u e) h = let l = alone e h.1 (parts e h.2) in record { first = record { only = λ f a b g v q. not-only u e f a b l h g v q }; links = tt }
parts (GroupTest o e c) h = let p = parts e h.1 in record { first = record { only = λ f a b g v q. group-only o e c f a b p h g v q }; links = tt }
parts (JoinTest j t l r) h =
    let p = parts l h.3 in
    let q = parts r h.4 in
    record { first = p.first; links = alone-append (tail l) (record { join = j; token = t; operand = head r } ∷ tail r) p.links (q.first, q.links) }

nothing-follows : NoJoin []
nothing-follows = record { none = λ t more e. absurd (cc) }

pub one-test : (e f : Test) → IsTest e → IsTest f → print_test e [] ≡ print_test f [] → e ≡ f
one-test e f h g q = let r = test-same e f [] [] (parts e h) h g nothing-follows nothing-follows q in r.0
