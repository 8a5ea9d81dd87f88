-- The forms of operands, and what follows them.
use Rattle.std.proofs.Common.{◌≡◌, ℕ, ◌+◌, ◌≤◌, ◌<◌, true, false, ◌&&◌, ◌||◌, nat_le, cond, List, [], ◌∷◌, ◌++◌, length, Option, Some, None, ap, refl, sym, ◌∙◌, subst, arith}
use Rattle.java_values.specs.declared.kind.Kind.{Kind}
use Rattle.java_values.specs.declared.op.Op1.{Op1}
use Rattle.java_values.specs.declared.op.Op1.TheVariants as op1
use Rattle.java_values.specs.declared.op.Op2.{Op2}
use Rattle.java_values.specs.declared.op.Op2.TheVariants as op2
use Rattle.sj_lexer.specs.declared.token.Class.{Class}
use Rattle.sj_lexer.specs.declared.token.Class.TheVariants.{Name, Mark}
use Rattle.sj_lexer.specs.declared.token.Mark.TheVariants as mark
use Rattle.sj_lexer.specs.declared.token.Token.{Token}
use Rattle.sj_ast.specs.declared.name.Name as ast_name
use Rattle.sj_ast.specs.declared.expression.Raw as raw
use Rattle.sj_grammar.specs.declared.role.Lead.{Lead}
use Rattle.sj_grammar.specs.declared.role.Lead.TheVariants as lead
use Rattle.sj_grammar.specs.definitions.Roles.{is_atom, lead_of, sign_of, infix_of, level_of, kind_of, has}
use Rattle.sj_grammar.specs.definitions.Expressions.{Atom, Least, Status, Prefix, Cast, Group, Infix, print}
use Rattle.sj_grammar.specs.definitions.Trees.{name_of, atom_of, least_of, raw_of}
use Rattle.sj_grammar.specs.definitions.Machine.{Symbol, T, Operand, AfterMinus, AfterOpen, More, next}
use Rattle.sj_grammar.specs.definitions.Walks.{opens_cast, operators_after, is_too_deep, Refused, TooDeep, walk}
use Rattle.sj_grammar.proofs.EqualClasses.{same-class}
use Rattle.sj_grammar.proofs.ClassRoles.{LeadIs, lead-is}
use Rattle.sj_grammar.proofs.OperatorInsertion.{level-small}
use Rattle.sj_grammar.proofs.PrintedExpressions.{next-lead, next-minus, next-open, next-more, next-edge, next-kind}
use Rattle.sj_grammar.proofs.TokenWalks.{walk-none, walk-to, walk-deep, walk-alike, walk-class, walk-class-deep, token-refused, level-atom, operators-atom, deep-atom, level-edge, operators-edge, deep-edge, level-kind, operators-kind, deep-kind, level-sign, operators-sign, deep-sign, level-infix, operators-infix, deep-infix, within, beyond}
use Rattle.expr_parser.specs.declared.read.Stop.{Stop}
use Rattle.expr_parser.specs.declared.read.Stop.TheVariants as stop_at
use Rattle.expr_parser.specs.Reading.{IsNotFirst, NoFirstEdge, NoFirstKind, IsFirst, IsFirstEdge, IsFirstKind, operator_level, infix_level, FailsAt, ReadsOperand, ReadsFront, ReadsFrom, Grows}

-- the failure of what is read later
pub refails : (f g : List Symbol) (h : List Symbol → List Symbol) (ts us : List Token) (d n e m : ℕ) (s : Stop) → ((k : List Symbol) → walk (f ++ k) d n ts ≡ walk (g ++ h k) e m us) → FailsAt g us e m s → FailsAt f ts d n s
refails f g h ts us d n e m (stop_at.Syntax bad) w r = record { fails = λ k. w k ∙ r.fails (h k) }
refails f g h ts us d n e m (stop_at.TooDeep bad) w r = record { fails = λ k. w k ∙ r.fails (h k) }
refails f g h ts us d n e m stop_at.NoMemory w r = record { fails = λ k. tt }

pub shorter-one : (t : Token) (ts us : List Token) → ts ≡ t ∷ us → length us < length ts
shorter-one t ts us h = let l = ap length h in omega arith

-- what a role tells of the class
role : (l : Lead) (t : Token) → lead_of t.class ≡ l → LeadIs l t.class
role l t h = let P : Lead → Type 0 = λ x. LeadIs x t.class in subst P h (lead-is t.class)

-- a literal or a variable
pub atom-reads : (source : List ℕ) (ts rest : List Token) (t : Token) (d n : ℕ) (tree : raw.Raw ast_name.Name) → ts ≡ t ∷ rest → lead_of t.class ≡ lead.Atom → tree ≡ atom_of source t.class t → ReadsOperand source ts d n tree n rest
atom-reads source ts rest t d n tree h l q =
    let a : is_atom t.class ≡ true = role lead.Atom t l in
    record {
      expr = Atom t;
      stands = q;
      is_expr = a;
      height = refl;
      printed = h;
      walks = λ k. ap (walk (Operand ∷ k) d n) h ∙ walk-to (Operand ∷ k) d n t rest k d n (next-lead lead.Atom t.class k l) (deep-atom d n t.class k rest a) (level-atom d t.class a) (operators-atom n t.class k rest a);
      shorter = shorter-one t ts rest h;
    }

pub no-operand : (ts : List Token) (d n : ℕ) → ((t : Token) (more : List Token) → ts ≡ t ∷ more → lead_of t.class ≡ lead.Nothing) → (k : List Symbol) → walk (Operand ∷ k) d n ts ≡ Refused ts
no-operand [] d n h k = refl
no-operand (t ∷ ts) d n h k = walk-none (Operand ∷ k) d n t ts (next-lead lead.Nothing t.class k (h t ts refl))

-- `#`
status-walks : (ts rest : List Token) (t : Token) (d n : ℕ) (k : List Symbol) → ts ≡ t ∷ rest → lead_of t.class ≡ lead.Hash → walk (Operand ∷ k) d n ts ≡ walk (T Name ∷ k) d n rest
status-walks ts rest t d n k h l = ap (walk (Operand ∷ k) d n) h ∙ walk-class (Mark mark.Hash) (Operand ∷ k) d n t rest (T Name ∷ k) d n (role lead.Hash t l) refl refl refl refl

name-walks : (ts rest : List Token) (t : Token) (d n : ℕ) (k : List Symbol) → IsFirst Name ts t rest → walk (T Name ∷ k) d n ts ≡ walk k d n rest
name-walks ts rest t d n k f = ap (walk (T Name ∷ k) d n) f.is ∙ walk-class Name (T Name ∷ k) d n t rest k d n (same-class Name t.class f.class_is) refl refl refl refl

pub status-reads : (source : List ℕ) (ts mid rest : List Token) (t u : Token) (d n : ℕ) (tree : raw.Raw ast_name.Name) → ts ≡ t ∷ mid → lead_of t.class ≡ lead.Hash → IsFirst Name mid u rest → tree ≡ raw.Status t.start u.start (name_of source u) → ReadsOperand source ts d n tree n rest
status-reads source ts mid rest t u d n tree h l f q = record {
  expr = Status t u;
  stands = q;
  is_expr = (role lead.Hash t l, same-class Name u.class f.class_is);
  height = refl;
  printed = h ∙ ap (λ x. t ∷ x) f.is;
  walks = λ k. status-walks ts mid t d n k h l ∙ name-walks mid rest u d n k f;
  shorter = (let x = ap length h in let y = ap length f.is in omega arith);
}

pub status-refused : (ts rest : List Token) (t : Token) (d n : ℕ) → ts ≡ t ∷ rest → lead_of t.class ≡ lead.Hash → IsNotFirst Name rest → (k : List Symbol) → walk (Operand ∷ k) d n ts ≡ Refused rest
status-refused ts rest t d n h l b k = status-walks ts rest t d n k h l ∙ token-refused Name k d n rest b.none

-- a sign that isn't `-`
prefix-walks : (ts rest : List Token) (t : Token) (op : Op1) (d n : ℕ) (k : List Symbol) → ts ≡ t ∷ rest → lead_of t.class ≡ lead.Prefix op → n < 256 → walk (Operand ∷ k) d n ts ≡ walk (Operand ∷ k) d (n + 1) rest
prefix-walks ts rest t op d n k h l b =
    let s : has (sign_of t.class) ≡ true = ap has (role (lead.Prefix op) t l) in
    ap (walk (Operand ∷ k) d n) h ∙ walk-to (Operand ∷ k) d n t rest (Operand ∷ k) d (n + 1) (next-lead (lead.Prefix op) t.class k l) (deep-sign d n t.class (Operand ∷ k) rest s ∙ within 256 n b) (level-sign d t.class s) (operators-sign n t.class (Operand ∷ k) rest s)

pub prefix-reads : (source : List ℕ) (ts rest after : List Token) (t : Token) (op : Op1) (d n m : ℕ) (inner tree : raw.Raw ast_name.Name) → ts ≡ t ∷ rest → lead_of t.class ≡ lead.Prefix op → n < 256 → tree ≡ raw.Unary t.start op inner
    → ReadsOperand source rest d (n + 1) inner m after → ReadsOperand source ts d n tree m after
prefix-reads source ts rest after t op d n m inner tree h l b q r = record {
  expr = Prefix op t r.expr;
  stands = q ∙ ap (raw.Unary t.start op) r.stands;
  is_expr = (role (lead.Prefix op) t l, r.height, r.is_expr);
  height = refl;
  printed = h ∙ ap (λ x. t ∷ x) r.printed;
  walks = λ k. prefix-walks ts rest t op d n k h l b ∙ r.walks k;
  shorter = (let x = shorter-one t ts rest h in let y = r.shorter in omega arith);
}

pub prefix-fails : (ts rest : List Token) (t : Token) (op : Op1) (d n : ℕ) (s : Stop) → ts ≡ t ∷ rest → lead_of t.class ≡ lead.Prefix op → n < 256 → FailsAt (Operand ∷ []) rest d (n + 1) s → FailsAt (Operand ∷ []) ts d n s
prefix-fails ts rest t op d n s h l b r = refails (Operand ∷ []) (Operand ∷ []) (λ k. k) ts rest d n d (n + 1) s (λ k. prefix-walks ts rest t op d n k h l b) r

pub prefix-deep : (ts rest : List Token) (t : Token) (op : Op1) (d n : ℕ) → ts ≡ t ∷ rest → lead_of t.class ≡ lead.Prefix op → 256 ≤ n → (k : List Symbol) → walk (Operand ∷ k) d n ts ≡ TooDeep ts
prefix-deep ts rest t op d n h l b k =
    let s : has (sign_of t.class) ≡ true = ap has (role (lead.Prefix op) t l) in
    ap (walk (Operand ∷ k) d n) h ∙ walk-deep (Operand ∷ k) d n t rest (Operand ∷ k) (next-lead (lead.Prefix op) t.class k l) (deep-sign d n t.class (Operand ∷ k) rest s ∙ beyond 256 n b) ∙ ap TooDeep (sym h)

-- `-`
minus-first : (ts rest : List Token) (t : Token) (d n : ℕ) (k : List Symbol) → ts ≡ t ∷ rest → lead_of t.class ≡ lead.Minus → n < 256 → walk (Operand ∷ k) d n ts ≡ walk (AfterMinus ∷ k) d (n + 1) rest
minus-first ts rest t d n k h l b = ap (walk (Operand ∷ k) d n) h ∙ walk-class (Mark mark.Minus) (Operand ∷ k) d n t rest (AfterMinus ∷ k) d (n + 1) (role lead.Minus t l) refl (within 256 n b) refl refl

pub least-reads : (source : List ℕ) (ts rest after : List Token) (t u : Token) (d n : ℕ) (tree : raw.Raw ast_name.Name) → ts ≡ t ∷ rest → lead_of t.class ≡ lead.Minus → n < 256 → IsFirstEdge rest u after → tree ≡ raw.Least t.start (least_of u.class)
    → ReadsOperand source ts d n tree (n + 1) after
least-reads source ts rest after t u d n tree h l b f q = record {
  expr = Least t u;
  stands = q;
  is_expr = (role lead.Minus t l, f.edge);
  height = refl;
  printed = h ∙ ap (λ x. t ∷ x) f.is;
  walks = λ k. minus-first ts rest t d n k h l b ∙ ap (walk (AfterMinus ∷ k) d (n + 1)) f.is
      ∙ walk-to (AfterMinus ∷ k) d (n + 1) u after k d (n + 1) (next-edge u.class k f.edge) (deep-edge d (n + 1) u.class k after f.edge) (level-edge d u.class f.edge) (operators-edge (n + 1) u.class k after f.edge);
  shorter = (let x = ap length h in let y = ap length f.is in omega arith);
}

minus-walks : (ts rest : List Token) (t : Token) (d n : ℕ) (k : List Symbol) → ts ≡ t ∷ rest → lead_of t.class ≡ lead.Minus → n < 256 → NoFirstEdge rest → walk (Operand ∷ k) d n ts ≡ walk (Operand ∷ k) d (n + 1) rest
minus-walks ts rest t d n k h l b e = minus-first ts rest t d n k h l b ∙ walk-alike (AfterMinus ∷ k) (Operand ∷ k) d (n + 1) rest (λ u more i. next-minus u.class k (e.none u more i)) refl

pub minus-reads : (source : List ℕ) (ts rest after : List Token) (t : Token) (d n m : ℕ) (inner tree : raw.Raw ast_name.Name) → ts ≡ t ∷ rest → lead_of t.class ≡ lead.Minus → n < 256 → NoFirstEdge rest → tree ≡ raw.Unary t.start op1.Minus inner
    → ReadsOperand source rest d (n + 1) inner m after → ReadsOperand source ts d n tree m after
minus-reads source ts rest after t d n m inner tree h l b e q r = record {
  expr = Prefix op1.Minus t r.expr;
  stands = q ∙ ap (raw.Unary t.start op1.Minus) r.stands;
  is_expr = (ap sign_of (role lead.Minus t l), r.height, r.is_expr);
  height = refl;
  printed = h ∙ ap (λ x. t ∷ x) r.printed;
  walks = λ k. minus-walks ts rest t d n k h l b e ∙ r.walks k;
  shorter = (let x = shorter-one t ts rest h in let y = r.shorter in omega arith);
}

pub minus-fails : (ts rest : List Token) (t : Token) (d n : ℕ) (s : Stop) → ts ≡ t ∷ rest → lead_of t.class ≡ lead.Minus → n < 256 → NoFirstEdge rest → FailsAt (Operand ∷ []) rest d (n + 1) s → FailsAt (Operand ∷ []) ts d n s
minus-fails ts rest t d n s h l b e r = refails (Operand ∷ []) (Operand ∷ []) (λ k. k) ts rest d n d (n + 1) s (λ k. minus-walks ts rest t d n k h l b e) r

pub minus-deep : (ts rest : List Token) (t : Token) (d n : ℕ) → ts ≡ t ∷ rest → lead_of t.class ≡ lead.Minus → 256 ≤ n → (k : List Symbol) → walk (Operand ∷ k) d n ts ≡ TooDeep ts
minus-deep ts rest t d n h l b k = ap (walk (Operand ∷ k) d n) h ∙ walk-class-deep (Mark mark.Minus) (Operand ∷ k) d n t rest (AfterMinus ∷ k) (role lead.Minus t l) refl (beyond 256 n b) ∙ ap TooDeep (sym h)

-- `(`
open-deep-at : (d n : ℕ) (j : List Symbol) (ts : List Token) → 64 ≤ d → is_too_deep d n (Mark mark.OpenParen) j ts ≡ true
open-deep-at d n j ts a = ap (λ x. x || (opens_cast j ts && nat_le 256 n)) (beyond 64 d a)

pub open-deep : (ts rest : List Token) (t : Token) (d n : ℕ) → ts ≡ t ∷ rest → lead_of t.class ≡ lead.Open → 64 ≤ d → (k : List Symbol) → walk (Operand ∷ k) d n ts ≡ TooDeep ts
open-deep ts rest t d n h l a k = ap (walk (Operand ∷ k) d n) h ∙ walk-class-deep (Mark mark.OpenParen) (Operand ∷ k) d n t rest (AfterOpen ∷ k) (role lead.Open t l) refl (open-deep-at d n (AfterOpen ∷ k) rest a) ∙ ap TooDeep (sym h)

-- a cast
opens : (k : List Symbol) (ts rest : List Token) (kind : Kind) → IsFirstKind ts kind rest → opens_cast (AfterOpen ∷ k) ts ≡ true
opens k ts rest kind f = ap (opens_cast (AfterOpen ∷ k)) f.is ∙ ap has f.kind_is

cast-first : (d n : ℕ) (k : List Symbol) (ts : List Token) → d < 64 → opens_cast (AfterOpen ∷ k) ts ≡ true → is_too_deep d n (Mark mark.OpenParen) (AfterOpen ∷ k) ts ≡ nat_le 256 n
cast-first d n k ts a e = ap (λ x. x || (opens_cast (AfterOpen ∷ k) ts && nat_le 256 n)) (within 64 d a) ∙ ap (λ x. x && nat_le 256 n) e

cast-count : (n : ℕ) (k : List Symbol) (ts : List Token) → opens_cast (AfterOpen ∷ k) ts ≡ true → operators_after n (Mark mark.OpenParen) (AfterOpen ∷ k) ts ≡ n + 1
cast-count n k ts e = ap (λ x. cond x (n + 1) n) e

kind-walks : (ts rest : List Token) (kind : Kind) (d n : ℕ) (k : List Symbol) → IsFirstKind ts kind rest → walk (AfterOpen ∷ k) d n ts ≡ walk (T (Mark mark.CloseParen) ∷ Operand ∷ k) d n rest
kind-walks ts rest kind d n k f =
    let i : has (kind_of f.token.class) ≡ true = ap has f.kind_is in
    let j : List Symbol = T (Mark mark.CloseParen) ∷ Operand ∷ k in
    ap (walk (AfterOpen ∷ k) d n) f.is ∙ walk-to (AfterOpen ∷ k) d n f.token rest j d n (next-kind f.token.class kind k f.kind_is) (deep-kind d n f.token.class j rest i) (level-kind d f.token.class i) (operators-kind n f.token.class j rest i)

cast-walks : (ts inside rest : List Token) (t : Token) (kind : Kind) (d n : ℕ) (k : List Symbol) → ts ≡ t ∷ inside → lead_of t.class ≡ lead.Open → IsFirstKind inside kind rest → d < 64 → n < 256 → walk (Operand ∷ k) d n ts ≡ walk (T (Mark mark.CloseParen) ∷ Operand ∷ k) (d + 1) (n + 1) rest
cast-walks ts inside rest t kind d n k h l f a b =
    let e = opens k inside rest kind f in
    ap (walk (Operand ∷ k) d n) h
    ∙ walk-class (Mark mark.OpenParen) (Operand ∷ k) d n t inside (AfterOpen ∷ k) (d + 1) (n + 1) (role lead.Open t l) refl (cast-first d n k inside a e ∙ within 256 n b) refl (cast-count n k inside e)
    ∙ kind-walks inside rest kind (d + 1) (n + 1) k f

pub close-walks : (ts rest : List Token) (t : Token) (d n : ℕ) (k : List Symbol) → IsFirst (Mark mark.CloseParen) ts t rest → walk (T (Mark mark.CloseParen) ∷ k) (d + 1) n ts ≡ walk k d n rest
close-walks ts rest t d n k f = ap (walk (T (Mark mark.CloseParen) ∷ k) (d + 1) n) f.is ∙ walk-class (Mark mark.CloseParen) (T (Mark mark.CloseParen) ∷ k) (d + 1) n t rest k d n (same-class (Mark mark.CloseParen) t.class f.class_is) refl refl (omega arith) refl

cast-then : (ts inside mid rest : List Token) (t u : Token) (kind : Kind) (d n : ℕ) (k : List Symbol) → ts ≡ t ∷ inside → lead_of t.class ≡ lead.Open → IsFirstKind inside kind mid → d < 64 → n < 256 → IsFirst (Mark mark.CloseParen) mid u rest
    → walk (Operand ∷ k) d n ts ≡ walk (Operand ∷ k) d (n + 1) rest
cast-then ts inside mid rest t u kind d n k h l f a b c = cast-walks ts inside mid t kind d n k h l f a b ∙ close-walks mid rest u d (n + 1) (Operand ∷ k) c

pub cast-reads : (source : List ℕ) (ts inside mid rest after : List Token) (t u : Token) (kind : Kind) (d n m : ℕ) (inner tree : raw.Raw ast_name.Name) → ts ≡ t ∷ inside → lead_of t.class ≡ lead.Open → IsFirstKind inside kind mid → d < 64 → n < 256
    → IsFirst (Mark mark.CloseParen) mid u rest → tree ≡ raw.Cast t.start kind inner → ReadsOperand source rest d (n + 1) inner m after → ReadsOperand source ts d n tree m after
cast-reads source ts inside mid rest after t u kind d n m inner tree h l f a b c q r = record {
  expr = Cast kind t f.token u r.expr;
  stands = q ∙ ap (raw.Cast t.start kind) r.stands;
  is_expr = (role lead.Open t l, f.kind_is, same-class (Mark mark.CloseParen) u.class c.class_is, r.height, r.is_expr);
  height = refl;
  printed = h ∙ ap (λ x. t ∷ x) (f.is ∙ ap (λ x. f.token ∷ x) (c.is ∙ ap (λ x. u ∷ x) r.printed));
  walks = λ k. cast-then ts inside mid rest t u kind d n k h l f a b c ∙ r.walks k;
  shorter = (let x = ap length h in let y = ap length f.is in let z = ap length c.is in let w = r.shorter in omega arith);
}

pub cast-fails : (ts inside mid rest : List Token) (t u : Token) (kind : Kind) (d n : ℕ) (s : Stop) → ts ≡ t ∷ inside → lead_of t.class ≡ lead.Open → IsFirstKind inside kind mid → d < 64 → n < 256 → IsFirst (Mark mark.CloseParen) mid u rest
    → FailsAt (Operand ∷ []) rest d (n + 1) s → FailsAt (Operand ∷ []) ts d n s
cast-fails ts inside mid rest t u kind d n s h l f a b c r = refails (Operand ∷ []) (Operand ∷ []) (λ k. k) ts rest d n d (n + 1) s (λ k. cast-then ts inside mid rest t u kind d n k h l f a b c) r

pub cast-refused : (ts inside mid : List Token) (t : Token) (kind : Kind) (d n : ℕ) → ts ≡ t ∷ inside → lead_of t.class ≡ lead.Open → IsFirstKind inside kind mid → d < 64 → n < 256 → IsNotFirst (Mark mark.CloseParen) mid → (k : List Symbol) → walk (Operand ∷ k) d n ts ≡ Refused mid
cast-refused ts inside mid t kind d n h l f a b c k = cast-walks ts inside mid t kind d n k h l f a b ∙ token-refused (Mark mark.CloseParen) (Operand ∷ k) (d + 1) (n + 1) mid c.none

pub cast-deep : (ts inside mid : List Token) (t : Token) (kind : Kind) (d n : ℕ) → ts ≡ t ∷ inside → lead_of t.class ≡ lead.Open → IsFirstKind inside kind mid → d < 64 → 256 ≤ n → (k : List Symbol) → walk (Operand ∷ k) d n ts ≡ TooDeep ts
cast-deep ts inside mid t kind d n h l f a b k =
    ap (walk (Operand ∷ k) d n) h ∙ walk-class-deep (Mark mark.OpenParen) (Operand ∷ k) d n t inside (AfterOpen ∷ k) (role lead.Open t l) refl (cast-first d n k inside a (opens k inside mid kind f) ∙ beyond 256 n b) ∙ ap TooDeep (sym h)

-- parentheses
opens-none : (k : List Symbol) (ts : List Token) → NoFirstKind ts → opens_cast (AfterOpen ∷ k) ts ≡ false
opens-none k [] e = refl
opens-none k (t ∷ ts) e = e.none t ts refl

group-first : (d n : ℕ) (k : List Symbol) (ts : List Token) → d < 64 → opens_cast (AfterOpen ∷ k) ts ≡ false → is_too_deep d n (Mark mark.OpenParen) (AfterOpen ∷ k) ts ≡ false
group-first d n k ts a e = ap (λ x. x || (opens_cast (AfterOpen ∷ k) ts && nat_le 256 n)) (within 64 d a) ∙ ap (λ x. x && nat_le 256 n) e

group-count : (n : ℕ) (k : List Symbol) (ts : List Token) → opens_cast (AfterOpen ∷ k) ts ≡ false → operators_after n (Mark mark.OpenParen) (AfterOpen ∷ k) ts ≡ n
group-count n k ts e = ap (λ x. cond x (n + 1) n) e

group-walks : (ts rest : List Token) (t : Token) (d n : ℕ) (k : List Symbol) → ts ≡ t ∷ rest → lead_of t.class ≡ lead.Open → d < 64 → NoFirstKind rest → walk (Operand ∷ k) d n ts ≡ walk (Operand ∷ More ∷ T (Mark mark.CloseParen) ∷ k) (d + 1) n rest
group-walks ts rest t d n k h l a b =
    let e = opens-none k rest b in
    ap (walk (Operand ∷ k) d n) h
    ∙ walk-class (Mark mark.OpenParen) (Operand ∷ k) d n t rest (AfterOpen ∷ k) (d + 1) n (role lead.Open t l) refl (group-first d n k rest a e) refl (group-count n k rest e)
    ∙ walk-alike (AfterOpen ∷ k) (Operand ∷ More ∷ T (Mark mark.CloseParen) ∷ k) (d + 1) n rest (λ u more i. next-open u.class k (b.none u more i)) refl

-- what may go on, where it doesn't
level-positive : (op : Op2) → 0 < level_of op
level-positive op2.Add = omega arith
level-positive _ = omega arith

more-none : (o : Option Op2) (c : Class) (k : List Symbol) → infix_of c ≡ o → operator_level o < 1 → next (More ∷ k) c ≡ next k c
more-none None c k h e = rw h refl
more-none (Some op) c k h e = absurd (let q = level-positive op in omega arith)

first-level : (ts more : List Token) (t : Token) → infix_level ts < 1 → ts ≡ t ∷ more → operator_level (infix_of t.class) < 1
first-level ts more t h e = let P : List Token → Type 0 = λ us. infix_level us < 1 in subst P e h

pub more-done : (ts : List Token) (d n : ℕ) (k : List Symbol) → infix_level ts < 1 → walk (More ∷ k) d n ts ≡ walk k d n ts
more-done ts d n k h = walk-alike (More ∷ k) k d n ts (λ t more i. more-none (infix_of t.class) t.class k refl (first-level ts more t h i)) refl

pub group-reads : (source : List ℕ) (ts rest mid after : List Token) (t u : Token) (d n m : ℕ) (inner tree : raw.Raw ast_name.Name) → ts ≡ t ∷ rest → lead_of t.class ≡ lead.Open → d < 64 → NoFirstKind rest → tree ≡ raw.Group t.start inner
    → ReadsFrom source rest (d + 1) n 1 inner m mid → IsFirst (Mark mark.CloseParen) mid u after → ReadsOperand source ts d n tree m after
group-reads source ts rest mid after t u d n m inner tree h l a b q r c = record {
  expr = Group t r.front.expr u;
  stands = q ∙ ap (raw.Group t.start) r.front.stands;
  is_expr = (role lead.Open t l, r.front.is_expr, same-class (Mark mark.CloseParen) u.class c.class_is);
  height = refl;
  printed = h ∙ ap (λ x. t ∷ x) (r.front.printed ∙ ap (print r.front.expr) c.is);
  walks = λ k. group-walks ts rest t d n k h l a b ∙ r.front.walks (T (Mark mark.CloseParen) ∷ k) ∙ more-done mid (d + 1) m (T (Mark mark.CloseParen) ∷ k) r.ends ∙ close-walks mid after u d m k c;
  shorter = (let x = ap length h in let y = r.front.shorter in let z = ap length c.is in omega arith);
}

pub group-fails : (ts rest : List Token) (t : Token) (d n : ℕ) (s : Stop) → ts ≡ t ∷ rest → lead_of t.class ≡ lead.Open → d < 64 → NoFirstKind rest → FailsAt (Operand ∷ More ∷ []) rest (d + 1) n s → FailsAt (Operand ∷ []) ts d n s
group-fails ts rest t d n s h l a b r = refails (Operand ∷ []) (Operand ∷ More ∷ []) (λ k. T (Mark mark.CloseParen) ∷ k) ts rest d n (d + 1) n s (λ k. group-walks ts rest t d n k h l a b) r

pub group-refused : (source : List ℕ) (ts rest mid : List Token) (t : Token) (d n m : ℕ) (inner : raw.Raw ast_name.Name) → ts ≡ t ∷ rest → lead_of t.class ≡ lead.Open → d < 64 → NoFirstKind rest → ReadsFrom source rest (d + 1) n 1 inner m mid
    → IsNotFirst (Mark mark.CloseParen) mid → (k : List Symbol) → walk (Operand ∷ k) d n ts ≡ Refused mid
group-refused source ts rest mid t d n m inner h l a b r c k =
    group-walks ts rest t d n k h l a b ∙ r.front.walks (T (Mark mark.CloseParen) ∷ k) ∙ more-done mid (d + 1) m (T (Mark mark.CloseParen) ∷ k) r.ends ∙ token-refused (Mark mark.CloseParen) k (d + 1) m mid c.none

-- one operator more
grow-walks : (ts rest : List Token) (t : Token) (op : Op2) (d n : ℕ) (k : List Symbol) → ts ≡ t ∷ rest → infix_of t.class ≡ Some op → n < 256 → walk (More ∷ k) d n ts ≡ walk (Operand ∷ More ∷ k) d (n + 1) rest
grow-walks ts rest t op d n k h l b =
    let s : has (infix_of t.class) ≡ true = ap has l in
    let j : List Symbol = Operand ∷ More ∷ k in
    ap (walk (More ∷ k) d n) h ∙ walk-to (More ∷ k) d n t rest j d (n + 1) (next-more t.class op k l) (deep-infix d n t.class j rest s ∙ within 256 n b) (level-infix d t.class s) (operators-infix n t.class j rest s)

pub grow-reads : (source : List ℕ) (ts rest after : List Token) (t : Token) (op : Op2) (d n m least : ℕ) (old right new : raw.Raw ast_name.Name) → ts ≡ t ∷ rest → infix_of t.class ≡ Some op → n < 256 → least ≡ level_of op → new ≡ raw.Binary t.start op old right
    → ReadsFrom source rest d (n + 1) (least + 1) right m after → Grows source ts d n old new m after
grow-reads source ts rest after t op d n m least old right new h l b e q r = record {
  op = op;
  token = t;
  right = r.front.expr;
  op_is = l;
  right_is = r.front.is_expr;
  higher = (let x = r.front.at_least in omega arith);
  stands = q ∙ ap (raw.Binary t.start op old) r.front.stands;
  printed = h ∙ ap (λ x. t ∷ x) r.front.printed;
  walks = λ k. grow-walks ts rest t op d n k h l b ∙ r.front.walks k;
  shorter = (let x = ap length h in let y = r.front.shorter in omega arith);
  next = (let x = r.ends in omega arith);
}

pub grow-fails : (ts rest : List Token) (t : Token) (op : Op2) (d n : ℕ) (s : Stop) → ts ≡ t ∷ rest → infix_of t.class ≡ Some op → n < 256 → FailsAt (Operand ∷ More ∷ []) rest d (n + 1) s → FailsAt (More ∷ []) ts d n s
grow-fails ts rest t op d n s h l b r = refails (More ∷ []) (Operand ∷ More ∷ []) (λ k. k) ts rest d n d (n + 1) s (λ k. grow-walks ts rest t op d n k h l b) r

pub grow-deep : (ts rest : List Token) (t : Token) (op : Op2) (d n : ℕ) → ts ≡ t ∷ rest → infix_of t.class ≡ Some op → 256 ≤ n → (k : List Symbol) → walk (More ∷ k) d n ts ≡ TooDeep ts
grow-deep ts rest t op d n h l b k =
    let s : has (infix_of t.class) ≡ true = ap has l in
    let j : List Symbol = Operand ∷ More ∷ k in
    ap (walk (More ∷ k) d n) h ∙ walk-deep (More ∷ k) d n t rest j (next-more t.class op k l) (deep-infix d n t.class j rest s ∙ beyond 256 n b) ∙ ap TooDeep (sym h)

-- an expression begins with an operand
operator-small : (o : Option Op2) → operator_level o ≤ 11
operator-small None = omega arith
operator-small (Some op) = let q = level-small op in omega arith

infix-small : (ts : List Token) → infix_level ts ≤ 11
infix-small [] = omega arith
infix-small (t ∷ ts) = operator-small (infix_of t.class)

pub front-first : (source : List ℕ) (ts rest : List Token) (d n least m : ℕ) (tree : raw.Raw ast_name.Name) → least ≤ 11 → ReadsOperand source ts d n tree m rest → ReadsFront source ts d n least tree m rest
front-first source ts rest d n least m tree h r = record {
  expr = r.expr;
  stands = r.stands;
  is_expr = r.is_expr;
  at_least = (let x = r.height in omega arith);
  printed = r.printed;
  walks = λ k. r.walks (More ∷ k);
  shorter = r.shorter;
  next = (let x = r.height in let y = infix-small rest in omega arith);
}

level-at : (source : List ℕ) (ts rest : List Token) (d n m : ℕ) (old new : raw.Raw ast_name.Name) (g : Grows source ts d n old new m rest) → infix_level ts ≡ level_of g.op
level-at source ts rest d n m old new g = ap infix_level g.printed ∙ ap operator_level g.op_is

pub front-more : (source : List ℕ) (ts mid rest : List Token) (d n least m o : ℕ) (old new : raw.Raw ast_name.Name) → least ≤ infix_level mid → ReadsFront source ts d n least old m mid → Grows source mid d m old new o rest → ReadsFront source ts d n least new o rest
front-more source ts mid rest d n least m o old new h r g =
    let l = level-at source mid rest d m o old new g in
    record {
      expr = Infix g.op g.token r.expr g.right;
      stands = g.stands ∙ ap (λ x. raw.Binary g.token.start g.op x (raw_of source g.right)) r.stands;
      is_expr = (g.op_is, (let x = r.next in omega arith), g.higher, r.is_expr, g.right_is);
      at_least = omega arith;
      printed = r.printed ∙ ap (print r.expr) g.printed;
      walks = λ k. r.walks k ∙ g.walks k;
      shorter = (let x = r.shorter in let y = g.shorter in omega arith);
      next = g.next;
    }

pub first-fails : (ts : List Token) (d n : ℕ) (s : Stop) → FailsAt (Operand ∷ []) ts d n s → FailsAt (Operand ∷ More ∷ []) ts d n s
first-fails ts d n s r = refails (Operand ∷ More ∷ []) (Operand ∷ []) (λ k. More ∷ k) ts ts d n d n s (λ k. refl) r

pub more-fails : (source : List ℕ) (ts mid : List Token) (d n least m : ℕ) (tree : raw.Raw ast_name.Name) (s : Stop) → ReadsFront source ts d n least tree m mid → FailsAt (More ∷ []) mid d m s → FailsAt (Operand ∷ More ∷ []) ts d n s
more-fails source ts mid d n least m tree s r f = refails (Operand ∷ More ∷ []) (More ∷ []) (λ k. k) ts mid d n d m s (λ k. r.walks k) f
