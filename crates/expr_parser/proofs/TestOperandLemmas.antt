-- The forms of operands of tests, and what follows them.
use Rattle.std.proofs.Common.{◌≡◌, ℕ, ◌+◌, ◌≤◌, ◌<◌, true, false, ◌||◌, List, [], ◌∷◌, length, Option, Some, None, ap, refl, sym, ◌∙◌, subst, arith}
use Rattle.sj_lexer.specs.declared.token.Class.{Class}
use Rattle.sj_lexer.specs.declared.token.Class.TheVariants.{Name, Mark}
use Rattle.sj_lexer.specs.declared.token.Mark.TheVariants as mark
use Rattle.sj_lexer.specs.declared.token.Token.{Token}
use Rattle.sj_ast.specs.declared.name.Name as ast_name
use Rattle.sj_ast.specs.declared.test.Test as signal_test
use Rattle.sj_grammar.specs.declared.role.Join.{Join}
use Rattle.sj_grammar.specs.declared.role.Join.TheVariants as join_is
use Rattle.sj_grammar.specs.declared.role.TestLead.{TestLead}
use Rattle.sj_grammar.specs.declared.role.TestLead.TheVariants as test_lead
use Rattle.sj_grammar.specs.definitions.Roles.{test_lead_of, join_of, join_level, infix_of, has}
use Rattle.sj_grammar.specs.definitions.Tests.{SignalTest, NotTest, GroupTest, JoinTest, print_test}
use Rattle.sj_grammar.specs.definitions.Trees.{name_of, test_of, joined}
use Rattle.sj_grammar.specs.definitions.Machine.{Symbol, T, TestOperand, MoreTest, test_step, or_else, next}
use Rattle.sj_grammar.specs.definitions.Walks.{Refused, TooDeep, walk}
use Rattle.sj_grammar.proofs.EqualClasses.{same-class}
use Rattle.sj_grammar.proofs.ClassRoles.{TestLeadIs, test-lead-is}
use Rattle.sj_grammar.proofs.OperatorInsertion.{join-small}
use Rattle.sj_grammar.proofs.PrintedExpressions.{next-join}
use Rattle.sj_grammar.proofs.TokenWalks.{walk-none, walk-to, walk-deep, walk-alike, walk-class, walk-class-deep, token-refused, level-infix, operators-infix, deep-infix, join-infix, within, beyond}
use Rattle.expr_parser.specs.declared.read.Stop.{Stop}
use Rattle.expr_parser.specs.Reading.{IsNotFirst, IsFirst, test_operator_level, join_level_of, FailsAt, ReadsTestOperand, ReadsTestFront, ReadsTestFrom, TestGrows}
use Rattle.expr_parser.proofs.OperandLemmas.{refails, shorter-one, close-walks}

role : (l : TestLead) (t : Token) → test_lead_of t.class ≡ l → TestLeadIs l t.class
role l t h = let P : TestLead → Type 0 = λ x. TestLeadIs x t.class in subst P h (test-lead-is t.class)

next-test : (l : TestLead) (c : Class) (k : List Symbol) → test_lead_of c ≡ l → next (TestOperand ∷ k) c ≡ or_else (test_step l k) None
next-test l c k h = rw h refl

-- NAME
pub signal-reads : (source : List ℕ) (ts rest : List Token) (t : Token) (d n : ℕ) (tree : signal_test.Test ast_name.Name) → ts ≡ t ∷ rest → test_lead_of t.class ≡ test_lead.Signal → tree ≡ signal_test.Signal t.start (name_of source t) → ReadsTestOperand source ts d n tree n rest
signal-reads source ts rest t d n tree h l q = record {
  test = SignalTest t;
  stands = q;
  is_test = role test_lead.Signal t l;
  height = refl;
  printed = h;
  walks = λ k. ap (walk (TestOperand ∷ k) d n) h ∙ walk-class Name (TestOperand ∷ k) d n t rest k d n (role test_lead.Signal t l) refl refl refl refl;
  shorter = shorter-one t ts rest h;
}

pub no-test : (ts : List Token) (d n : ℕ) → ((t : Token) (more : List Token) → ts ≡ t ∷ more → test_lead_of t.class ≡ test_lead.Nothing) → (k : List Symbol) → walk (TestOperand ∷ k) d n ts ≡ Refused ts
no-test [] d n h k = refl
no-test (t ∷ ts) d n h k = walk-none (TestOperand ∷ k) d n t ts (next-test test_lead.Nothing t.class k (h t ts refl))

-- `!`
not-walks : (ts rest : List Token) (t : Token) (d n : ℕ) (k : List Symbol) → ts ≡ t ∷ rest → test_lead_of t.class ≡ test_lead.Not → n < 256 → walk (TestOperand ∷ k) d n ts ≡ walk (TestOperand ∷ k) d (n + 1) rest
not-walks ts rest t d n k h l b = ap (walk (TestOperand ∷ k) d n) h ∙ walk-class (Mark mark.Bang) (TestOperand ∷ k) d n t rest (TestOperand ∷ k) d (n + 1) (role test_lead.Not t l) refl (within 256 n b) refl refl

pub not-reads : (source : List ℕ) (ts rest after : List Token) (t : Token) (d n m : ℕ) (inner tree : signal_test.Test ast_name.Name) → ts ≡ t ∷ rest → test_lead_of t.class ≡ test_lead.Not → n < 256 → tree ≡ signal_test.Not t.start inner
    → ReadsTestOperand source rest d (n + 1) inner m after → ReadsTestOperand source ts d n tree m after
not-reads source ts rest after t d n m inner tree h l b q r = record {
  test = NotTest t r.test;
  stands = q ∙ ap (signal_test.Not t.start) r.stands;
  is_test = (role test_lead.Not t l, r.height, r.is_test);
  height = refl;
  printed = h ∙ ap (λ x. t ∷ x) r.printed;
  walks = λ k. not-walks ts rest t d n k h l b ∙ r.walks k;
  shorter = (let x = shorter-one t ts rest h in let y = r.shorter in omega arith);
}

pub not-fails : (ts rest : List Token) (t : Token) (d n : ℕ) (s : Stop) → ts ≡ t ∷ rest → test_lead_of t.class ≡ test_lead.Not → n < 256 → FailsAt (TestOperand ∷ []) rest d (n + 1) s → FailsAt (TestOperand ∷ []) ts d n s
not-fails ts rest t d n s h l b r = refails (TestOperand ∷ []) (TestOperand ∷ []) (λ k. k) ts rest d n d (n + 1) s (λ k. not-walks ts rest t d n k h l b) r

pub not-deep : (ts rest : List Token) (t : Token) (d n : ℕ) → ts ≡ t ∷ rest → test_lead_of t.class ≡ test_lead.Not → 256 ≤ n → (k : List Symbol) → walk (TestOperand ∷ k) d n ts ≡ TooDeep ts
not-deep ts rest t d n h l b k = ap (walk (TestOperand ∷ k) d n) h ∙ walk-class-deep (Mark mark.Bang) (TestOperand ∷ k) d n t rest (TestOperand ∷ k) (role test_lead.Not t l) refl (beyond 256 n b) ∙ ap TooDeep (sym h)

-- parentheses
pub group-deep : (ts rest : List Token) (t : Token) (d n : ℕ) → ts ≡ t ∷ rest → test_lead_of t.class ≡ test_lead.Open → 64 ≤ d → (k : List Symbol) → walk (TestOperand ∷ k) d n ts ≡ TooDeep ts
group-deep ts rest t d n h l a k =
    ap (walk (TestOperand ∷ k) d n) h ∙ walk-class-deep (Mark mark.OpenParen) (TestOperand ∷ k) d n t rest (TestOperand ∷ MoreTest ∷ T (Mark mark.CloseParen) ∷ k) (role test_lead.Open t l) refl (ap (λ x. x || false) (beyond 64 d a)) ∙ ap TooDeep (sym h)

group-walks : (ts rest : List Token) (t : Token) (d n : ℕ) (k : List Symbol) → ts ≡ t ∷ rest → test_lead_of t.class ≡ test_lead.Open → d < 64 → walk (TestOperand ∷ k) d n ts ≡ walk (TestOperand ∷ MoreTest ∷ T (Mark mark.CloseParen) ∷ k) (d + 1) n rest
group-walks ts rest t d n k h l a =
    ap (walk (TestOperand ∷ k) d n) h ∙ walk-class (Mark mark.OpenParen) (TestOperand ∷ k) d n t rest (TestOperand ∷ MoreTest ∷ T (Mark mark.CloseParen) ∷ k) (d + 1) n (role test_lead.Open t l) refl (ap (λ x. x || false) (within 64 d a)) refl refl

-- what may go on, where it doesn't
level-positive : (j : Join) → 0 < join_level j
level-positive join_is.Either = omega arith
level-positive join_is.Both = omega arith

more-none : (o : Option Join) (c : Class) (k : List Symbol) → join_of c ≡ o → test_operator_level o < 1 → next (MoreTest ∷ k) c ≡ next k c
more-none None c k h e = rw h refl
more-none (Some j) c k h e = absurd (let q = level-positive j in omega arith)

first-level : (ts more : List Token) (t : Token) → join_level_of ts < 1 → ts ≡ t ∷ more → test_operator_level (join_of t.class) < 1
first-level ts more t h e = let P : List Token → Type 0 = λ us. join_level_of us < 1 in subst P e h

pub more-done : (ts : List Token) (d n : ℕ) (k : List Symbol) → join_level_of ts < 1 → walk (MoreTest ∷ k) d n ts ≡ walk k d n ts
more-done ts d n k h = walk-alike (MoreTest ∷ k) k d n ts (λ t more i. more-none (join_of t.class) t.class k refl (first-level ts more t h i)) refl

pub group-reads : (source : List ℕ) (ts rest mid after : List Token) (t u : Token) (d n m : ℕ) (inner tree : signal_test.Test ast_name.Name) → ts ≡ t ∷ rest → test_lead_of t.class ≡ test_lead.Open → d < 64 → tree ≡ signal_test.Group t.start inner
    → ReadsTestFrom source rest (d + 1) n 1 inner m mid → IsFirst (Mark mark.CloseParen) mid u after → ReadsTestOperand source ts d n tree m after
group-reads source ts rest mid after t u d n m inner tree h l a q r c = record {
  test = GroupTest t r.front.test u;
  stands = q ∙ ap (signal_test.Group t.start) r.front.stands;
  is_test = (role test_lead.Open t l, r.front.is_test, same-class (Mark mark.CloseParen) u.class c.class_is);
  height = refl;
  printed = h ∙ ap (λ x. t ∷ x) (r.front.printed ∙ ap (print_test r.front.test) c.is);
  walks = λ k. group-walks ts rest t d n k h l a ∙ r.front.walks (T (Mark mark.CloseParen) ∷ k) ∙ more-done mid (d + 1) m (T (Mark mark.CloseParen) ∷ k) r.ends ∙ close-walks mid after u d m k c;
  shorter = (let x = ap length h in let y = r.front.shorter in let z = ap length c.is in omega arith);
}

pub group-fails : (ts rest : List Token) (t : Token) (d n : ℕ) (s : Stop) → ts ≡ t ∷ rest → test_lead_of t.class ≡ test_lead.Open → d < 64 → FailsAt (TestOperand ∷ MoreTest ∷ []) rest (d + 1) n s → FailsAt (TestOperand ∷ []) ts d n s
group-fails ts rest t d n s h l a r = refails (TestOperand ∷ []) (TestOperand ∷ MoreTest ∷ []) (λ k. T (Mark mark.CloseParen) ∷ k) ts rest d n (d + 1) n s (λ k. group-walks ts rest t d n k h l a) r

pub group-refused : (source : List ℕ) (ts rest mid : List Token) (t : Token) (d n m : ℕ) (inner : signal_test.Test ast_name.Name) → ts ≡ t ∷ rest → test_lead_of t.class ≡ test_lead.Open → d < 64 → ReadsTestFrom source rest (d + 1) n 1 inner m mid
    → IsNotFirst (Mark mark.CloseParen) mid → (k : List Symbol) → walk (TestOperand ∷ k) d n ts ≡ Refused mid
group-refused source ts rest mid t d n m inner h l a r c k =
    group-walks ts rest t d n k h l a ∙ r.front.walks (T (Mark mark.CloseParen) ∷ k) ∙ more-done mid (d + 1) m (T (Mark mark.CloseParen) ∷ k) r.ends ∙ token-refused (Mark mark.CloseParen) k (d + 1) m mid c.none

-- one operator more
grow-walks : (ts rest : List Token) (t : Token) (j : Join) (d n : ℕ) (k : List Symbol) → ts ≡ t ∷ rest → join_of t.class ≡ Some j → n < 256 → walk (MoreTest ∷ k) d n ts ≡ walk (TestOperand ∷ MoreTest ∷ k) d (n + 1) rest
grow-walks ts rest t j d n k h l b =
    let s : has (infix_of t.class) ≡ true = join-infix t.class (ap has l) in
    let i : List Symbol = TestOperand ∷ MoreTest ∷ k in
    ap (walk (MoreTest ∷ k) d n) h ∙ walk-to (MoreTest ∷ k) d n t rest i d (n + 1) (next-join t.class j k l) (deep-infix d n t.class i rest s ∙ within 256 n b) (level-infix d t.class s) (operators-infix n t.class i rest s)

pub grow-reads : (source : List ℕ) (ts rest after : List Token) (t : Token) (j : Join) (d n m least : ℕ) (old right new : signal_test.Test ast_name.Name) → ts ≡ t ∷ rest → join_of t.class ≡ Some j → n < 256 → least ≡ join_level j → new ≡ joined j t.start old right
    → ReadsTestFrom source rest d (n + 1) (least + 1) right m after → TestGrows source ts d n old new m after
grow-reads source ts rest after t j d n m least old right new h l b e q r = record {
  join = j;
  token = t;
  right = r.front.test;
  join_is = l;
  right_is = r.front.is_test;
  higher = (let x = r.front.at_least in omega arith);
  stands = q ∙ ap (joined j t.start old) r.front.stands;
  printed = h ∙ ap (λ x. t ∷ x) r.front.printed;
  walks = λ k. grow-walks ts rest t j d n k h l b ∙ r.front.walks k;
  shorter = (let x = ap length h in let y = r.front.shorter in omega arith);
  next = (let x = r.ends in omega arith);
}

pub grow-fails : (ts rest : List Token) (t : Token) (j : Join) (d n : ℕ) (s : Stop) → ts ≡ t ∷ rest → join_of t.class ≡ Some j → n < 256 → FailsAt (TestOperand ∷ MoreTest ∷ []) rest d (n + 1) s → FailsAt (MoreTest ∷ []) ts d n s
grow-fails ts rest t j d n s h l b r = refails (MoreTest ∷ []) (TestOperand ∷ MoreTest ∷ []) (λ k. k) ts rest d n d (n + 1) s (λ k. grow-walks ts rest t j d n k h l b) r

pub grow-deep : (ts rest : List Token) (t : Token) (j : Join) (d n : ℕ) → ts ≡ t ∷ rest → join_of t.class ≡ Some j → 256 ≤ n → (k : List Symbol) → walk (MoreTest ∷ k) d n ts ≡ TooDeep ts
grow-deep ts rest t j d n h l b k =
    let s : has (infix_of t.class) ≡ true = join-infix t.class (ap has l) in
    let i : List Symbol = TestOperand ∷ MoreTest ∷ k in
    ap (walk (MoreTest ∷ k) d n) h ∙ walk-deep (MoreTest ∷ k) d n t rest i (next-join t.class j k l) (deep-infix d n t.class i rest s ∙ beyond 256 n b) ∙ ap TooDeep (sym h)

-- a test begins with an operand
operator-small : (o : Option Join) → test_operator_level o ≤ 3
operator-small None = omega arith
operator-small (Some j) = let q = join-small j in omega arith

join_level-small : (ts : List Token) → join_level_of ts ≤ 3
join_level-small [] = omega arith
join_level-small (t ∷ ts) = operator-small (join_of t.class)

pub front-first : (source : List ℕ) (ts rest : List Token) (d n least m : ℕ) (tree : signal_test.Test ast_name.Name) → least ≤ 3 → ReadsTestOperand source ts d n tree m rest → ReadsTestFront source ts d n least tree m rest
front-first source ts rest d n least m tree h r = record {
  test = r.test;
  stands = r.stands;
  is_test = r.is_test;
  at_least = (let x = r.height in omega arith);
  printed = r.printed;
  walks = λ k. r.walks (MoreTest ∷ k);
  shorter = r.shorter;
  next = (let x = r.height in let y = join_level-small rest in omega arith);
}

level-at : (source : List ℕ) (ts rest : List Token) (d n m : ℕ) (old new : signal_test.Test ast_name.Name) (g : TestGrows source ts d n old new m rest) → join_level_of ts ≡ join_level g.join
level-at source ts rest d n m old new g = ap join_level_of g.printed ∙ ap test_operator_level g.join_is

pub front-more : (source : List ℕ) (ts mid rest : List Token) (d n least m o : ℕ) (old new : signal_test.Test ast_name.Name) → least ≤ join_level_of mid → ReadsTestFront source ts d n least old m mid → TestGrows source mid d m old new o rest → ReadsTestFront source ts d n least new o rest
front-more source ts mid rest d n least m o old new h r g =
    let l = level-at source mid rest d m o old new g in
    record {
      test = JoinTest g.join g.token r.test g.right;
      stands = g.stands ∙ ap (λ x. joined g.join g.token.start x (test_of source g.right)) r.stands;
      is_test = (g.join_is, (let x = r.next in omega arith), g.higher, r.is_test, g.right_is);
      at_least = omega arith;
      printed = r.printed ∙ ap (print_test r.test) g.printed;
      walks = λ k. r.walks k ∙ g.walks k;
      shorter = (let x = r.shorter in let y = g.shorter in omega arith);
      next = g.next;
    }

pub first-fails : (ts : List Token) (d n : ℕ) (s : Stop) → FailsAt (TestOperand ∷ []) ts d n s → FailsAt (TestOperand ∷ MoreTest ∷ []) ts d n s
first-fails ts d n s r = refails (TestOperand ∷ MoreTest ∷ []) (TestOperand ∷ []) (λ k. MoreTest ∷ k) ts ts d n d n s (λ k. refl) r

pub more-fails : (source : List ℕ) (ts mid : List Token) (d n least m : ℕ) (tree : signal_test.Test ast_name.Name) (s : Stop) → ReadsTestFront source ts d n least tree m mid → FailsAt (MoreTest ∷ []) mid d m s → FailsAt (TestOperand ∷ MoreTest ∷ []) ts d n s
more-fails source ts mid d n least m tree s r f = refails (TestOperand ∷ MoreTest ∷ []) (MoreTest ∷ []) (λ k. k) ts mid d n d m s (λ k. r.walks k) f
