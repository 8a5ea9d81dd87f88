-- One more operator and operand in a tree.
use Rattle.std.proofs.Common.{◌≡◌, ℕ, ◌≤◌, ◌<◌, Bool, true, false, nat_lt, cond, List, ◌∷◌, Some, ap, refl, arith}
use Rattle.std.proofs.lemmas.Bool.{ltb-true, lt-ltb}
use Rattle.java_values.specs.declared.op.Op2.{Op2}
use Rattle.java_values.specs.declared.op.Op2.TheVariants as op2
use Rattle.sj_lexer.specs.declared.token.Token.{Token}
use Rattle.sj_grammar.specs.declared.role.Join.{Join}
use Rattle.sj_grammar.specs.declared.role.Join.TheVariants as join
use Rattle.sj_grammar.specs.definitions.Roles.{infix_of, level_of, join_of, join_level}
use Rattle.sj_grammar.specs.definitions.Expressions.{Expr, Atom, Least, Status, Prefix, Cast, Group, Infix, print, level, IsExpr, insert}
use Rattle.sj_grammar.specs.definitions.Tests.{Test, SignalTest, NotTest, GroupTest, JoinTest, print_test, test_level, IsTest, insert_test}

pub level-small : (op : Op2) → level_of op < 11
level-small op2.Add = omega arith
level-small _ = omega arith

pub join-small : (j : Join) → join_level j < 3
join-small join.Either = omega arith
join-small join.Both = omega arith

not-less : (a b : ℕ) → nat_lt a b ≡ false → b ≤ a
not-less a b h = grind (arith, lt-ltb)

insert-level : (e : Expr) (op : Op2) (t : Token) (u : Expr) (m : ℕ) → m < level e → m < level_of op → m < level (insert e op t u)
insert-level (Infix p s l r) op t u m h g = elim (nat_lt (level_of p) (level_of op)) as (λ b. m < level (cond b (Infix p s l (insert r op t u)) (Infix op t (Infix p s l r) u))) [ true ↦ h | false ↦ g ]
insert-level _ op t u m h g = g

pub insert-print : (e : Expr) (op : Op2) (t : Token) (u : Expr) (after : List Token) → print (insert e op t u) after ≡ print e (t ∷ print u after)
insert-print (Infix p s l r) op t u after =
    elim (nat_lt (level_of p) (level_of op)) as (λ b. print (cond b (Infix p s l (insert r op t u)) (Infix op t (Infix p s l r) u)) after ≡ print l (s ∷ print r (t ∷ print u after)))
    [ true ↦ ap (λ x. print l (s ∷ x)) (insert-print r op t u after) | false ↦ refl ]
insert-print _ op t u after = refl

insert-infix : (b : Bool) (p : Op2) (s : Token) (l r : Expr) (op : Op2) (t : Token) (u : Expr) → nat_lt (level_of p) (level_of op) ≡ b → IsExpr (Infix p s l r) → IsExpr u → level u ≡ 11 → infix_of t.class ≡ Some op
    → IsExpr (insert r op t u) → IsExpr (cond b (Infix p s l (insert r op t u)) (Infix op t (Infix p s l r) u))
insert-infix true p s l r op t u e h g v w i = (h.0, h.1, insert-level r op t u (level_of p) h.2 (ltb-true (level_of p) (level_of op) e), h.3, i)
insert-infix false p s l r op t u e h g v w i = (w, not-less (level_of p) (level_of op) e, (let q = level-small op in omega arith), h, g)

pub insert-is : (e : Expr) (op : Op2) (t : Token) (u : Expr) → IsExpr e → IsExpr u → level u ≡ 11 → infix_of t.class ≡ Some op → IsExpr (insert e op t u)
insert-is (Infix p s l r) op t u h g v w = insert-infix (nat_lt (level_of p) (level_of op)) p s l r op t u refl h g v w (insert-is r op t u h.4 g v w)
insert-is (Atom a) op t u h g v w = (w, (let q = level-small op in omega arith), (let q = level-small op in omega arith), h, g)
insert-is (Least m e) op t u h g v w = (w, (let q = level-small op in omega arith), (let q = level-small op in omega arith), h, g)
insert-is (Status a n) op t u h g v w = (w, (let q = level-small op in omega arith), (let q = level-small op in omega arith), h, g)
insert-is (Prefix p s x) op t u h g v w = (w, (let q = level-small op in omega arith), (let q = level-small op in omega arith), h, g)
insert-is (Cast k o x c e) op t u h g v w = (w, (let q = level-small op in omega arith), (let q = level-small op in omega arith), h, g)
insert-is (Group o x c) op t u h g v w = (w, (let q = level-small op in omega arith), (let q = level-small op in omega arith), h, g)

insert_test-level : (e : Test) (j : Join) (t : Token) (u : Test) (m : ℕ) → m < test_level e → m < join_level j → m < test_level (insert_test e j t u)
insert_test-level (JoinTest i s l r) j t u m h g = elim (nat_lt (join_level i) (join_level j)) as (λ b. m < test_level (cond b (JoinTest i s l (insert_test r j t u)) (JoinTest j t (JoinTest i s l r) u))) [ true ↦ h | false ↦ g ]
insert_test-level _ j t u m h g = g

pub insert_test-print : (e : Test) (j : Join) (t : Token) (u : Test) (after : List Token) → print_test (insert_test e j t u) after ≡ print_test e (t ∷ print_test u after)
insert_test-print (JoinTest i s l r) j t u after =
    elim (nat_lt (join_level i) (join_level j)) as (λ b. print_test (cond b (JoinTest i s l (insert_test r j t u)) (JoinTest j t (JoinTest i s l r) u)) after ≡ print_test l (s ∷ print_test r (t ∷ print_test u after)))
    [ true ↦ ap (λ x. print_test l (s ∷ x)) (insert_test-print r j t u after) | false ↦ refl ]
insert_test-print _ j t u after = refl

insert-join : (b : Bool) (i : Join) (s : Token) (l r : Test) (j : Join) (t : Token) (u : Test) → nat_lt (join_level i) (join_level j) ≡ b → IsTest (JoinTest i s l r) → IsTest u → test_level u ≡ 3 → join_of t.class ≡ Some j
    → IsTest (insert_test r j t u) → IsTest (cond b (JoinTest i s l (insert_test r j t u)) (JoinTest j t (JoinTest i s l r) u))
insert-join true i s l r j t u e h g v w x = (h.0, h.1, insert_test-level r j t u (join_level i) h.2 (ltb-true (join_level i) (join_level j) e), h.3, x)
insert-join false i s l r j t u e h g v w x = (w, not-less (join_level i) (join_level j) e, (let q = join-small j in omega arith), h, g)

pub insert_test-is : (e : Test) (j : Join) (t : Token) (u : Test) → IsTest e → IsTest u → test_level u ≡ 3 → join_of t.class ≡ Some j → IsTest (insert_test e j t u)
insert_test-is (JoinTest i s l r) j t u h g v w = insert-join (nat_lt (join_level i) (join_level j)) i s l r j t u refl h g v w (insert_test-is r j t u h.4 g v w)
insert_test-is (SignalTest n) j t u h g v w = (w, (let q = join-small j in omega arith), (let q = join-small j in omega arith), h, g)
insert_test-is (NotTest b x) j t u h g v w = (w, (let q = join-small j in omega arith), (let q = join-small j in omega arith), h, g)
insert_test-is (GroupTest o x c) j t u h g v w = (w, (let q = join-small j in omega arith), (let q = join-small j in omega arith), h, g)
