-- The walk, token by token.
use Rattle.std.proofs.Common.{◌≡◌, ℕ, ◌+◌, ◌≤◌, ◌<◌, Bool, true, false, nat_le, cond, List, [], ◌∷◌, Option, Some, None, ap, refl, sym, ◌∙◌, arith}
use Rattle.std.proofs.lemmas.Bool.{leb-true, le-leb}
use Rattle.sj_lexer.specs.declared.token.Class.{Class}
use Rattle.sj_lexer.specs.declared.token.Class.TheVariants.{Reserved, Mark}
use Rattle.sj_lexer.specs.declared.token.Mark.TheVariants as mark
use Rattle.sj_lexer.specs.declared.token.Word.TheVariants as word
use Rattle.sj_lexer.specs.declared.token.Token.{Token}
use Rattle.sj_grammar.specs.definitions.Classes.{same}
use Rattle.sj_grammar.specs.definitions.Roles.{is_atom, is_edge, sign_of, infix_of, join_of, kind_of, has}
use Rattle.sj_grammar.specs.definitions.Machine.{Symbol, T, next, all_end}
use Rattle.sj_grammar.specs.definitions.Walks.{level_after, operators_after, is_too_deep, Outcome, Refused, TooDeep, stop, walk}

walk-at : (o : Option (List Symbol)) (k : List Symbol) (d n : ℕ) (t : Token) (ts : List Token) → next k t.class ≡ o
    → walk k d n (t ∷ ts) ≡ elim o as (λ _. Outcome) [ None ↦ stop (all_end k) (t ∷ ts) | Some j ↦ cond (is_too_deep d n t.class j ts) (TooDeep (t ∷ ts)) (walk j (level_after d t.class) (operators_after n t.class j ts) ts) ]
walk-at o k d n t ts h =
    ap (λ (x : Option (List Symbol)). elim x as (λ _. Outcome) [ None ↦ stop (all_end k) (t ∷ ts) | Some j ↦ cond (is_too_deep d n t.class j ts) (TooDeep (t ∷ ts)) (walk j (level_after d t.class) (operators_after n t.class j ts) ts) ]) h

pub walk-none : (k : List Symbol) (d n : ℕ) (t : Token) (ts : List Token) → next k t.class ≡ None → walk k d n (t ∷ ts) ≡ stop (all_end k) (t ∷ ts)
walk-none k d n t ts h = walk-at None k d n t ts h

pub walk-step : (k : List Symbol) (d n : ℕ) (t : Token) (ts : List Token) (j : List Symbol) → next k t.class ≡ Some j → is_too_deep d n t.class j ts ≡ false
    → walk k d n (t ∷ ts) ≡ walk j (level_after d t.class) (operators_after n t.class j ts) ts
walk-step k d n t ts j h e = walk-at (Some j) k d n t ts h ∙ ap (λ b. cond b (TooDeep (t ∷ ts)) (walk j (level_after d t.class) (operators_after n t.class j ts) ts)) e

pub walk-deep : (k : List Symbol) (d n : ℕ) (t : Token) (ts : List Token) (j : List Symbol) → next k t.class ≡ Some j → is_too_deep d n t.class j ts ≡ true
    → walk k d n (t ∷ ts) ≡ TooDeep (t ∷ ts)
walk-deep k d n t ts j h e = walk-at (Some j) k d n t ts h ∙ ap (λ b. cond b (TooDeep (t ∷ ts)) (walk j (level_after d t.class) (operators_after n t.class j ts) ts)) e

stop-alike : (a b : Bool) (ts : List Token) → a ≡ b → stop a ts ≡ stop b ts
stop-alike a b ts h = ap (λ x. stop x ts) h

walk-alike-at : (o : Option (List Symbol)) (j k : List Symbol) (d n : ℕ) (t : Token) (ts : List Token) → next j t.class ≡ o → next k t.class ≡ o → all_end j ≡ all_end k → walk j d n (t ∷ ts) ≡ walk k d n (t ∷ ts)
walk-alike-at None j k d n t ts g h e = walk-none j d n t ts g ∙ stop-alike (all_end j) (all_end k) (t ∷ ts) e ∙ sym (walk-none k d n t ts h)
walk-alike-at (Some i) j k d n t ts g h e = walk-at (Some i) j d n t ts g ∙ sym (walk-at (Some i) k d n t ts h)

-- two lists of symbols that the first token tells not apart
pub walk-alike : (j k : List Symbol) (d n : ℕ) (ts : List Token) → ((t : Token) (more : List Token) → ts ≡ t ∷ more → next j t.class ≡ next k t.class) → all_end j ≡ all_end k → walk j d n ts ≡ walk k d n ts
walk-alike j k d n [] h e = stop-alike (all_end j) (all_end k) [] e
walk-alike j k d n (t ∷ ts) h e = walk-alike-at (next k t.class) j k d n t ts (h t ts refl) refl e

-- one token read
pub walk-to : (k : List Symbol) (d n : ℕ) (t : Token) (ts : List Token) (j : List Symbol) (e m : ℕ) → next k t.class ≡ Some j → is_too_deep d n t.class j ts ≡ false → level_after d t.class ≡ e → operators_after n t.class j ts ≡ m
    → walk k d n (t ∷ ts) ≡ walk j e m ts
walk-to k d n t ts j e m h i a b = walk-step k d n t ts j h i ∙ ap (λ x. walk j x (operators_after n t.class j ts) ts) a ∙ ap (λ x. walk j e x ts) b

-- one token of a class
pub walk-class : (c : Class) (k : List Symbol) (d n : ℕ) (t : Token) (ts : List Token) (j : List Symbol) (e m : ℕ) → t.class ≡ c → next k c ≡ Some j → is_too_deep d n c j ts ≡ false → level_after d c ≡ e → operators_after n c j ts ≡ m
    → walk k d n (t ∷ ts) ≡ walk j e m ts
walk-class c k d n t ts j e m q h i a b =
    walk-to k d n t ts j e m (ap (next k) q ∙ h) (ap (λ x. is_too_deep d n x j ts) q ∙ i) (ap (level_after d) q ∙ a) (ap (λ x. operators_after n x j ts) q ∙ b)

pub walk-class-deep : (c : Class) (k : List Symbol) (d n : ℕ) (t : Token) (ts : List Token) (j : List Symbol) → t.class ≡ c → next k c ≡ Some j → is_too_deep d n c j ts ≡ true → walk k d n (t ∷ ts) ≡ TooDeep (t ∷ ts)
walk-class-deep c k d n t ts j q h i = walk-deep k d n t ts j (ap (next k) q ∙ h) (ap (λ x. is_too_deep d n x j ts) q ∙ i)

next-token : (c d : Class) (k : List Symbol) → same c d ≡ false → next (T c ∷ k) d ≡ None
next-token c d k h = rw h refl

-- a token that isn't there
pub token-refused : (c : Class) (k : List Symbol) (d n : ℕ) (ts : List Token) → ((t : Token) (more : List Token) → ts ≡ t ∷ more → same c t.class ≡ false) → walk (T c ∷ k) d n ts ≡ Refused ts
token-refused c k d n [] h = refl
token-refused c k d n (t ∷ ts) h = walk-none (T c ∷ k) d n t ts (next-token c t.class k (h t ts refl))

-- what tokens do to the limits
pub level-atom : (d : ℕ) (c : Class) → is_atom c ≡ true → level_after d c ≡ d
level-atom d (Reserved word.True) h = refl
level-atom d (Mark mark.Plus) h = cc
level-atom d _ h = cc

pub operators-atom : (n : ℕ) (c : Class) (j : List Symbol) (ts : List Token) → is_atom c ≡ true → operators_after n c j ts ≡ n
operators-atom n (Reserved word.True) j ts h = refl
operators-atom n (Mark mark.Plus) j ts h = cc
operators-atom n _ j ts h = cc

pub deep-atom : (d n : ℕ) (c : Class) (j : List Symbol) (ts : List Token) → is_atom c ≡ true → is_too_deep d n c j ts ≡ false
deep-atom d n (Reserved word.True) j ts h = refl
deep-atom d n (Mark mark.Plus) j ts h = cc
deep-atom d n _ j ts h = cc

pub level-edge : (d : ℕ) (c : Class) → is_edge c ≡ true → level_after d c ≡ d
level-edge d (Reserved word.True) h = cc
level-edge d (Mark mark.Plus) h = cc
level-edge d _ h = cc

pub operators-edge : (n : ℕ) (c : Class) (j : List Symbol) (ts : List Token) → is_edge c ≡ true → operators_after n c j ts ≡ n
operators-edge n (Reserved word.True) j ts h = cc
operators-edge n (Mark mark.Plus) j ts h = cc
operators-edge n _ j ts h = cc

pub deep-edge : (d n : ℕ) (c : Class) (j : List Symbol) (ts : List Token) → is_edge c ≡ true → is_too_deep d n c j ts ≡ false
deep-edge d n (Reserved word.True) j ts h = cc
deep-edge d n (Mark mark.Plus) j ts h = cc
deep-edge d n _ j ts h = cc

pub level-kind : (d : ℕ) (c : Class) → has (kind_of c) ≡ true → level_after d c ≡ d
level-kind d (Reserved word.Int) h = refl
level-kind d (Mark mark.Plus) h = cc
level-kind d _ h = cc

pub operators-kind : (n : ℕ) (c : Class) (j : List Symbol) (ts : List Token) → has (kind_of c) ≡ true → operators_after n c j ts ≡ n
operators-kind n (Reserved word.Int) j ts h = refl
operators-kind n (Mark mark.Plus) j ts h = cc
operators-kind n _ j ts h = cc

pub deep-kind : (d n : ℕ) (c : Class) (j : List Symbol) (ts : List Token) → has (kind_of c) ≡ true → is_too_deep d n c j ts ≡ false
deep-kind d n (Reserved word.Int) j ts h = refl
deep-kind d n (Mark mark.Plus) j ts h = cc
deep-kind d n _ j ts h = cc

pub level-sign : (d : ℕ) (c : Class) → has (sign_of c) ≡ true → level_after d c ≡ d
level-sign d (Mark mark.Plus) h = refl
level-sign d _ h = cc

pub operators-sign : (n : ℕ) (c : Class) (j : List Symbol) (ts : List Token) → has (sign_of c) ≡ true → operators_after n c j ts ≡ n + 1
operators-sign n (Mark mark.Plus) j ts h = refl
operators-sign n _ j ts h = cc

pub deep-sign : (d n : ℕ) (c : Class) (j : List Symbol) (ts : List Token) → has (sign_of c) ≡ true → is_too_deep d n c j ts ≡ nat_le 256 n
deep-sign d n (Mark mark.Plus) j ts h = refl
deep-sign d n _ j ts h = cc

pub level-infix : (d : ℕ) (c : Class) → has (infix_of c) ≡ true → level_after d c ≡ d
level-infix d (Mark mark.Plus) h = refl
level-infix d _ h = cc

pub operators-infix : (n : ℕ) (c : Class) (j : List Symbol) (ts : List Token) → has (infix_of c) ≡ true → operators_after n c j ts ≡ n + 1
operators-infix n (Mark mark.Plus) j ts h = refl
operators-infix n _ j ts h = cc

pub deep-infix : (d n : ℕ) (c : Class) (j : List Symbol) (ts : List Token) → has (infix_of c) ≡ true → is_too_deep d n c j ts ≡ nat_le 256 n
deep-infix d n (Mark mark.Plus) j ts h = refl
deep-infix d n _ j ts h = cc

-- each operator of tests is one of expressions
pub join-infix : (c : Class) → has (join_of c) ≡ true → has (infix_of c) ≡ true
join-infix (Mark mark.Both) h = refl
join-infix _ h = cc

pub within : (a b : ℕ) → b < a → nat_le a b ≡ false
within a b h = grind (arith, leb-true)

pub beyond : (a b : ℕ) → a ≤ b → nat_le a b ≡ true
beyond a b h = le-leb a b h
