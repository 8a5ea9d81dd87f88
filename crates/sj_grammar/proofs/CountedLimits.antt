-- In expressions and tests, the limits of the machine are those that are counted.
use Rattle.std.proofs.Common.{◌≡◌, ℕ, ◌+◌, Bool, true, false, ◌&&◌, ◌||◌, not, nat_le, cond, List, [], ◌∷◌, ◌++◌, Option, Some, None, ap, refl, sym, ◌∙◌, subst}
use Rattle.sj_lexer.specs.declared.token.Class.{Class}
use Rattle.sj_lexer.specs.declared.token.Class.TheVariants.{Reserved, Name, Mark}
use Rattle.sj_lexer.specs.declared.token.Mark.TheVariants as mark
use Rattle.sj_lexer.specs.declared.token.Word.TheVariants as word
use Rattle.sj_lexer.specs.declared.token.Token.{Token}
use Rattle.sj_grammar.specs.declared.role.Lead.{Lead}
use Rattle.sj_grammar.specs.declared.role.Lead.TheVariants as lead
use Rattle.sj_grammar.specs.declared.role.TestLead.{TestLead}
use Rattle.sj_grammar.specs.declared.role.TestLead.TheVariants as test_lead
use Rattle.sj_grammar.specs.definitions.Classes.{same}
use Rattle.sj_grammar.specs.definitions.Roles.{lead_of, test_lead_of, is_atom, is_edge, sign_of, infix_of, kind_of, join_of, has, is_opening, is_inside}
use Rattle.sj_grammar.specs.definitions.Machine.{Symbol, T, Operand, AfterMinus, AfterOpen, More, TestOperand, MoreTest, lead_step, test_step, expand, may_end, or_else, next}
use Rattle.sj_grammar.specs.definitions.Walks.{level_after, operators_after, opens_cast, is_operator, is_too_deep}
use Rattle.sj_grammar.specs.definitions.Limits.{ReadsTo, IsWithin, IsDeep, IsTooDeepBehind}
use Rattle.sj_grammar.proofs.EqualClasses.{same-class}
use Rattle.sj_grammar.proofs.ClassRoles.{LeadIs, lead-is, TestLeadIs, test-lead-is}
use Rattle.sj_grammar.proofs.TokenWalks.{join-infix}
use Rattle.sj_grammar.specs.definitions.Counts.{begins_kind, is_operator_of, counted, is_over, CountsTo, AreWithin, IsOverBehind}

-- the symbols that expressions have, and those that tests have
abbrev pub is_of : Bool → Symbol → Bool
is_of true (T c) = same Name c || same (Mark mark.CloseParen) c
is_of true Operand = true
is_of true AfterMinus = true
is_of true AfterOpen = true
is_of true More = true
is_of false (T c) = same (Mark mark.CloseParen) c
is_of false TestOperand = true
is_of false MoreTest = true
is_of _ _ = false

abbrev pub are_of : Bool → List Symbol → Bool
are_of casts [] = true
are_of casts (s ∷ k) = is_of casts s && are_of casts k

-- what one token does
pub record Step (casts : Bool) (c : Class) (j : List Symbol) : Type 0 where
  pub left : are_of casts j ≡ true
  pub inside : is_inside c ≡ true
  pub operator : (after : List Token) → is_operator c j after ≡ is_operator_of casts c after

-- a token that an expression or a test may have, and no `(`
record Plain (c : Class) : Type 0 where
  pub inside : is_inside c ≡ true
  pub not_open : same (Mark mark.OpenParen) c ≡ false

abbrev plainly : Class → Bool
plainly c = is_inside c && not (same (Mark mark.OpenParen) c)

plain-of : (c : Class) (a b : Bool) → is_inside c ≡ a → same (Mark mark.OpenParen) c ≡ b → (a && not b) ≡ true → Plain c
plain-of c true false h g e = record { inside = h; not_open = g }
plain-of c true true h g e = absurd (cc)
plain-of c false b h g e = absurd (cc)

plain-where : (c : Class) (b : Bool) → b ≡ true → cond b (plainly c) true ≡ true → Plain c
plain-where c true h e = plain-of c (is_inside c) (same (Mark mark.OpenParen) c) refl refl e
plain-where c false h e = absurd (cc)

atom-plain : (c : Class) → cond (is_atom c) (plainly c) true ≡ true
atom-plain (Mark mark.Plus) = refl
atom-plain (Reserved word.True) = refl
atom-plain _ = refl

edge-plain : (c : Class) → cond (is_edge c) (plainly c) true ≡ true
edge-plain (Mark mark.Plus) = refl
edge-plain (Reserved word.True) = refl
edge-plain _ = refl

sign-plain : (c : Class) → cond (has (sign_of c)) (plainly c) true ≡ true
sign-plain (Mark mark.Plus) = refl
sign-plain (Reserved word.True) = refl
sign-plain _ = refl

infix-plain : (c : Class) → cond (has (infix_of c)) (plainly c) true ≡ true
infix-plain (Mark mark.Plus) = refl
infix-plain (Reserved word.True) = refl
infix-plain _ = refl

kind-plain : (c : Class) → cond (has (kind_of c)) (plainly c) true ≡ true
kind-plain (Mark mark.Plus) = refl
kind-plain (Reserved word.True) = refl
kind-plain _ = refl

class-plain : (c d : Class) → c ≡ d → plainly d ≡ true → Plain c
class-plain c d h g = plain-of c (is_inside c) (same (Mark mark.OpenParen) c) refl refl (ap plainly h ∙ g)

step-plain : (casts : Bool) (c : Class) (j : List Symbol) → Plain c → are_of casts j ≡ true → Step casts c j
step-plain casts c j p h = record {
  left = h;
  inside = p.inside;
  operator = λ after.
      ap (λ b. cond b (opens_cast j after) (has (infix_of c) || has (sign_of c))) p.not_open ∙ sym (ap (λ b. cond b (casts && begins_kind after) (has (infix_of c) || has (sign_of c))) p.not_open);
}

cast-begins : (k : List Symbol) (after : List Token) → opens_cast (AfterOpen ∷ k) after ≡ begins_kind after
cast-begins k [] = refl
cast-begins k (t ∷ ts) = refl

step-open : (c : Class) (k : List Symbol) → c ≡ Mark mark.OpenParen → are_of true k ≡ true → Step true c (AfterOpen ∷ k)
step-open c k h g = record {
  left = g;
  inside = ap is_inside h;
  operator = λ after. ap (λ z. is_operator z (AfterOpen ∷ k) after) h ∙ cast-begins k after ∙ sym (ap (λ z. is_operator_of true z after) h);
}

step-test-open : (c : Class) (k : List Symbol) → c ≡ Mark mark.OpenParen → are_of false k ≡ true → Step false c (TestOperand ∷ MoreTest ∷ T (Mark mark.CloseParen) ∷ k)
step-test-open c k h g = record {
  left = g;
  inside = ap is_inside h;
  operator = λ after. ap (λ z. is_operator z (TestOperand ∷ MoreTest ∷ T (Mark mark.CloseParen) ∷ k) after) h ∙ sym (ap (λ z. is_operator_of false z after) h);
}

come-to : (casts : Bool) (c : Class) (x j : List Symbol) → Some x ≡ Some j → Step casts c x → Step casts c j
come-to casts c x j h s = let e : x ≡ j = cc in let P : List Symbol → Type 0 = λ k. Step casts c k in subst P e s

step-lead : (l : Lead) (c : Class) (k j : List Symbol) → LeadIs l c → are_of true k ≡ true → lead_step l k ≡ Some j → Step true c j
step-lead lead.Atom c k j e h q = come-to true c k j q (step-plain true c k (plain-where c (is_atom c) e (atom-plain c)) h)
step-lead lead.Hash c k j e h q = come-to true c (T Name ∷ k) j q (step-plain true c (T Name ∷ k) (class-plain c (Mark mark.Hash) e refl) h)
step-lead (lead.Prefix op) c k j e h q = come-to true c (Operand ∷ k) j q (step-plain true c (Operand ∷ k) (plain-where c (has (sign_of c)) (ap has e) (sign-plain c)) h)
step-lead lead.Minus c k j e h q = come-to true c (AfterMinus ∷ k) j q (step-plain true c (AfterMinus ∷ k) (class-plain c (Mark mark.Minus) e refl) h)
step-lead lead.Open c k j e h q = come-to true c (AfterOpen ∷ k) j q (step-open c k e h)
step-lead lead.Nothing c k j e h q = absurd (cc)

step-test : (l : TestLead) (c : Class) (k j : List Symbol) → TestLeadIs l c → are_of false k ≡ true → test_step l k ≡ Some j → Step false c j
step-test test_lead.Signal c k j e h q = come-to false c k j q (step-plain false c k (class-plain c Name e refl) h)
step-test test_lead.Not c k j e h q = come-to false c (TestOperand ∷ k) j q (step-plain false c (TestOperand ∷ k) (class-plain c (Mark mark.Bang) e refl) h)
step-test test_lead.Open c k j e h q = come-to false c (TestOperand ∷ MoreTest ∷ T (Mark mark.CloseParen) ∷ k) j q (step-test-open c k e h)
step-test test_lead.Nothing c k j e h q = absurd (cc)

step-minus : (b : Bool) (c : Class) (k j : List Symbol) → is_edge c ≡ b → are_of true k ≡ true → cond b (Some k) (lead_step (lead_of c) k) ≡ Some j → Step true c j
step-minus true c k j e h q = come-to true c k j q (step-plain true c k (plain-where c (is_edge c) e (edge-plain c)) h)
step-minus false c k j e h q = step-lead (lead_of c) c k j (lead-is c) h q

step-kind : (b : Bool) (c : Class) (k j : List Symbol) → has (kind_of c) ≡ b → are_of true k ≡ true → cond b (Some (T (Mark mark.CloseParen) ∷ Operand ∷ k)) (lead_step (lead_of c) (More ∷ T (Mark mark.CloseParen) ∷ k)) ≡ Some j → Step true c j
step-kind true c k j e h q = come-to true c (T (Mark mark.CloseParen) ∷ Operand ∷ k) j q (step-plain true c (T (Mark mark.CloseParen) ∷ Operand ∷ k) (plain-where c (has (kind_of c)) e (kind-plain c)) h)
step-kind false c k j e h q = step-lead (lead_of c) c (More ∷ T (Mark mark.CloseParen) ∷ k) j (lead-is c) h q

step-more : (b : Bool) (c : Class) (k j : List Symbol) → has (infix_of c) ≡ b → are_of true k ≡ true → cond b (Some (Operand ∷ More ∷ k)) None ≡ Some j → Step true c j
step-more true c k j e h q = come-to true c (Operand ∷ More ∷ k) j q (step-plain true c (Operand ∷ More ∷ k) (plain-where c (has (infix_of c)) e (infix-plain c)) h)
step-more false c k j e h q = absurd (cc)

step-join : (b : Bool) (c : Class) (k j : List Symbol) → has (join_of c) ≡ b → are_of false k ≡ true → cond b (Some (TestOperand ∷ MoreTest ∷ k)) None ≡ Some j → Step false c j
step-join true c k j e h q = come-to false c (TestOperand ∷ MoreTest ∷ k) j q (step-plain false c (TestOperand ∷ MoreTest ∷ k) (plain-where c (has (infix_of c)) (join-infix c e) (infix-plain c)) h)
step-join false c k j e h q = absurd (cc)

token-plain : (casts : Bool) (d c : Class) → is_of casts (T d) ≡ true → c ≡ d → Plain c
token-plain true d c h e = token-of (same Name d) d c refl h e
  where
    token-of : (b : Bool) (d c : Class) → same Name d ≡ b → (b || same (Mark mark.CloseParen) d) ≡ true → c ≡ d → Plain c
    token-of true d c g h e = class-plain c Name (e ∙ same-class Name d g) refl
    token-of false d c g h e = class-plain c (Mark mark.CloseParen) (e ∙ same-class (Mark mark.CloseParen) d h) refl
token-plain false d c h e = class-plain c (Mark mark.CloseParen) (e ∙ same-class (Mark mark.CloseParen) d h) refl

step-token : (casts b : Bool) (d c : Class) (k j : List Symbol) → same d c ≡ b → is_of casts (T d) ≡ true → are_of casts k ≡ true → cond b (Some k) None ≡ Some j → Step casts c j
step-token casts true d c k j e i h q = come-to casts c k j q (step-plain casts c k (token-plain casts d c i (same-class d c e)) h)
step-token casts false d c k j e i h q = absurd (cc)

step-one : (casts : Bool) (s : Symbol) (c : Class) (k j : List Symbol) → is_of casts s ≡ true → are_of casts k ≡ true → expand s c k ≡ Some j → Step casts c j
step-one casts (T d) c k j i h q = step-token casts (same d c) d c k j refl i h q
step-one true Operand c k j i h q = step-lead (lead_of c) c k j (lead-is c) h q
step-one true AfterMinus c k j i h q = step-minus (is_edge c) c k j refl h q
step-one true AfterOpen c k j i h q = step-kind (has (kind_of c)) c k j refl h q
step-one true More c k j i h q = step-more (has (infix_of c)) c k j refl h q
step-one false TestOperand c k j i h q = step-test (test_lead_of c) c k j (test-lead-is c) h q
step-one false MoreTest c k j i h q = step-join (has (join_of c)) c k j refl h q
step-one true _ c k j i h q = absurd (cc)
step-one false _ c k j i h q = absurd (cc)

both-true : (a b : Bool) → (a && b) ≡ true → (a ≡ true) × (b ≡ true)
both-true true true h = (refl, refl)
both-true true false h = absurd (cc)
both-true false b h = absurd (cc)

next-step-cases : (casts : Bool) (o : Option (List Symbol)) (b : Bool) (s : Symbol) (c : Class) (k j : List Symbol) → expand s c k ≡ o → is_of casts s ≡ true → are_of casts k ≡ true → or_else o (cond b (next k c) None) ≡ Some j → (next k c ≡ Some j → Step casts c j) → Step casts c j
next-step-cases casts (Some x) b s c k j e i h q r = come-to casts c x j q (step-one casts s c k x i h e)
next-step-cases casts None true s c k j e i h q r = r q
next-step-cases casts None false s c k j e i h q r = absurd (cc)

pub next-step : (casts : Bool) (k : List Symbol) (c : Class) (j : List Symbol) → are_of casts k ≡ true → next k c ≡ Some j → Step casts c j
next-step casts [] c j h q = absurd (cc)
next-step casts (s ∷ k) c j h q = let a = both-true (is_of casts s) (are_of casts k) h in next-step-cases casts (expand s c k) (may_end s) s c k j refl a.0 a.1 q (λ g. next-step casts k c j a.1 g)

count-same : (casts : Bool) (n : ℕ) (c : Class) (j : List Symbol) (after : List Token) → Step casts c j → operators_after n c j after ≡ counted casts n c after
count-same casts n c j after s = ap (λ b. cond b (n + 1) (cond (is_inside c) n 0)) (s.operator after) ∙ ap (λ b. cond (is_operator_of casts c after) (n + 1) (cond b n 0)) s.inside

over-same : (casts : Bool) (d n : ℕ) (c : Class) (j : List Symbol) (after : List Token) → Step casts c j → is_too_deep d n c j after ≡ is_over casts d n c after
over-same casts d n c j after s = ap (λ b. (is_opening c && nat_le 64 d) || (b && nat_le 256 n)) (s.operator after)

pub counts : (P : List Symbol → ℕ → ℕ → Type 0) (Q : ℕ → ℕ → Type 0) (casts : Bool) (run rest : List Token) (k : List Symbol) (d n : ℕ) → ((j : List Symbol) (e m : ℕ) → are_of casts j ≡ true → P j e m → Q e m) → are_of casts k ≡ true → ReadsTo P k d n run rest → CountsTo Q casts d n run rest
counts P Q casts [] rest k d n f h r = f k d n h r
counts P Q casts (t ∷ run) rest k d n f h r =
    let s = next-step casts k t.class r.0 h r.1 in
    let R : ℕ → Type 0 = λ m. ReadsTo P r.0 (level_after d t.class) m run rest in
    (sym (over-same casts d n t.class r.0 (run ++ rest) s) ∙ r.2, counts P Q casts run rest r.0 (level_after d t.class) (counted casts n t.class (run ++ rest)) f s.left (subst R (count-same casts n t.class r.0 (run ++ rest) s) r.3))

pub within-counted : (casts : Bool) (k : List Symbol) (d n : ℕ) (run rest : List Token) → are_of casts k ≡ true → IsWithin k d n run rest → AreWithin casts d n run rest
within-counted casts k d n run rest h w = record { counts = counts (λ j e m. Unit {0}) (λ e m. Unit {0}) casts run rest k d n (λ j e m g p. tt) h w.reads }

deep-counted-at : (casts : Bool) (token : Token) (after : List Token) (j : List Symbol) (e m : ℕ) → are_of casts j ≡ true → IsDeep token after j e m → is_over casts e m token.class after ≡ true
deep-counted-at casts token after j e m h p = sym (over-same casts e m token.class p.left after (next-step casts j token.class p.left h p.next_is)) ∙ p.deep

pub deep-counted : (casts : Bool) (k : List Symbol) (d n : ℕ) (run : List Token) (token : Token) (after : List Token) → are_of casts k ≡ true → IsTooDeepBehind k d n run token after → IsOverBehind casts d n run token after
deep-counted casts k d n run token after h w = record { counts = counts (IsDeep token after) (λ e m. is_over casts e m token.class after ≡ true) casts run (token ∷ after) k d n (λ j e m g p. deep-counted-at casts token after j e m g p) h w.reads }
