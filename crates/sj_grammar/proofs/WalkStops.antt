-- Where a walk stops.
use Rattle.std.proofs.Common.{◌≡◌, ℕ, Bool, true, false, List, [], ◌∷◌, ◌++◌, Option, Some, None, ap, refl, sym, ◌∙◌, subst}
use Rattle.sj_lexer.specs.declared.token.Token.{Token}
use Rattle.sj_grammar.specs.definitions.Machine.{Symbol, next, all_end, steps}
use Rattle.sj_grammar.specs.definitions.Walks.{level_after, operators_after, is_too_deep, Outcome, Ended, Refused, TooDeep, stop, walk}
use Rattle.sj_grammar.specs.definitions.Limits.{ReadsTo, IsDeep, IsBlocked, Halts, Sinks, Tells}
use Rattle.sj_grammar.proofs.PrintedExpressions.{steps-some}
use Rattle.sj_grammar.proofs.TokenWalks.{walk-none, walk-step, walk-deep}

halts-here : (b : Bool) (k : List Symbol) (d n : ℕ) (ts : List Token) → all_end k ≡ b → IsBlocked k ts → Tells k d n ts (stop b ts)
halts-here true k d n ts e h = record { run = []; left = k; is = refl; steps_are = refl; within = record { reads = tt }; blocked = h; ends_are = e }
halts-here false k d n ts e h = record { run = []; left = k; is = refl; steps_are = refl; within = record { reads = tt }; blocked = h; ends_are = e }

reads-one : (P : List Symbol → ℕ → ℕ → Type 0) (k j : List Symbol) (d n : ℕ) (t : Token) (ts run rest : List Token) → next k t.class ≡ Some j → is_too_deep d n t.class j ts ≡ false → ts ≡ run ++ rest
    → ReadsTo P j (level_after d t.class) (operators_after n t.class j ts) run rest → ReadsTo P k d n (t ∷ run) rest
reads-one P k j d n t ts run rest h e i r =
    let Q : List Token → Type 0 = λ us. is_too_deep d n t.class j us ≡ false in
    let R : List Token → Type 0 = λ us. ReadsTo P j (level_after d t.class) (operators_after n t.class j us) run rest in
    (j, h, subst Q i e, subst R i r)

halts-one : (b : Bool) (k j : List Symbol) (d n : ℕ) (t : Token) (ts rest : List Token) → next k t.class ≡ Some j → is_too_deep d n t.class j ts ≡ false → Halts j (level_after d t.class) (operators_after n t.class j ts) ts b rest → Halts k d n (t ∷ ts) b rest
halts-one b k j d n t ts rest h e r = record {
  run = t ∷ r.run;
  left = r.left;
  is = ap (λ x. t ∷ x) r.is;
  steps_are = steps-some k t r.run j h ∙ r.steps_are;
  within = record { reads = reads-one (λ x y z. Unit {0}) k j d n t ts r.run rest h e r.is r.within.reads };
  blocked = r.blocked;
  ends_are = r.ends_are;
}

sinks-one : (k j : List Symbol) (d n : ℕ) (t : Token) (ts rest : List Token) → next k t.class ≡ Some j → is_too_deep d n t.class j ts ≡ false → Sinks j (level_after d t.class) (operators_after n t.class j ts) ts rest → Sinks k d n (t ∷ ts) rest
sinks-one k j d n t ts rest h e r = record {
  run = t ∷ r.run;
  token = r.token;
  after = r.after;
  left = r.left;
  at = r.at;
  is = ap (λ x. t ∷ x) r.is;
  steps_are = steps-some k t (r.run ++ r.token ∷ []) j h ∙ r.steps_are;
  deep = record { reads = reads-one (IsDeep r.token r.after) k j d n t ts r.run (r.token ∷ r.after) h e (r.is ∙ ap (λ x. r.run ++ x) r.at) r.deep.reads };
}

tells-one : (o : Outcome) (k j : List Symbol) (d n : ℕ) (t : Token) (ts : List Token) → next k t.class ≡ Some j → is_too_deep d n t.class j ts ≡ false → Tells j (level_after d t.class) (operators_after n t.class j ts) ts o → Tells k d n (t ∷ ts) o
tells-one (Ended rest) k j d n t ts h e r = halts-one true k j d n t ts rest h e r
tells-one (Refused rest) k j d n t ts h e r = halts-one false k j d n t ts rest h e r
tells-one (TooDeep rest) k j d n t ts h e r = sinks-one k j d n t ts rest h e r

blocked-by : (k : List Symbol) (t : Token) (ts : List Token) → next k t.class ≡ None → IsBlocked k (t ∷ ts)
blocked-by k t ts h = record { none = λ u more e. (let x : t ≡ u = cc in let P : Token → Type 0 = λ v. next k v.class ≡ None in subst P x h) }

blocked-end : (k : List Symbol) → IsBlocked k []
blocked-end k = record { none = λ u more e. absurd (cc) }

tells-none : (k : List Symbol) (d n : ℕ) (t : Token) (ts : List Token) → next k t.class ≡ None → Tells k d n (t ∷ ts) (walk k d n (t ∷ ts))
tells-none k d n t ts h = let P : Outcome → Type 0 = λ o. Tells k d n (t ∷ ts) o in subst P (sym (walk-none k d n t ts h)) (halts-here (all_end k) k d n (t ∷ ts) refl (blocked-by k t ts h))

tells-deep : (k j : List Symbol) (d n : ℕ) (t : Token) (ts : List Token) → next k t.class ≡ Some j → is_too_deep d n t.class j ts ≡ true → Tells k d n (t ∷ ts) (walk k d n (t ∷ ts))
tells-deep k j d n t ts h e =
    let P : Outcome → Type 0 = λ o. Tells k d n (t ∷ ts) o in
    subst P (sym (walk-deep k d n t ts j h e))
    (record { run = []; token = t; after = ts; left = j; at = refl; is = refl; steps_are = steps-some k t [] j h; deep = record { reads = record { left = j; next_is = h; deep = e } } })

tells-step : (k j : List Symbol) (d n : ℕ) (t : Token) (ts : List Token) → next k t.class ≡ Some j → is_too_deep d n t.class j ts ≡ false
    → Tells j (level_after d t.class) (operators_after n t.class j ts) ts (walk j (level_after d t.class) (operators_after n t.class j ts) ts) → Tells k d n (t ∷ ts) (walk k d n (t ∷ ts))
tells-step k j d n t ts h e r =
    let P : Outcome → Type 0 = λ o. Tells k d n (t ∷ ts) o in
    subst P (sym (walk-step k d n t ts j h e)) (tells-one (walk j (level_after d t.class) (operators_after n t.class j ts) ts) k j d n t ts h e r)

tells-limits : (b : Bool) (k j : List Symbol) (d n : ℕ) (t : Token) (ts : List Token) → next k t.class ≡ Some j → is_too_deep d n t.class j ts ≡ b
    → Tells j (level_after d t.class) (operators_after n t.class j ts) ts (walk j (level_after d t.class) (operators_after n t.class j ts) ts) → Tells k d n (t ∷ ts) (walk k d n (t ∷ ts))
tells-limits true k j d n t ts h e r = tells-deep k j d n t ts h e
tells-limits false k j d n t ts h e r = tells-step k j d n t ts h e r

tells-cases : (o : Option (List Symbol)) (k : List Symbol) (d n : ℕ) (t : Token) (ts : List Token) → next k t.class ≡ o
    → ((j : List Symbol) → Tells j (level_after d t.class) (operators_after n t.class j ts) ts (walk j (level_after d t.class) (operators_after n t.class j ts) ts)) → Tells k d n (t ∷ ts) (walk k d n (t ∷ ts))
tells-cases None k d n t ts h r = tells-none k d n t ts h
tells-cases (Some j) k d n t ts h r = tells-limits (is_too_deep d n t.class j ts) k j d n t ts h refl (r j)

pub tells : (k : List Symbol) (d n : ℕ) (ts : List Token) → Tells k d n ts (walk k d n ts)
tells k d n [] = halts-here (all_end k) k d n [] refl (blocked-end k)
tells k d n (t ∷ ts) = tells-cases (next k t.class) k d n t ts refl (λ j. tells j (level_after d t.class) (operators_after n t.class j ts) ts)

-- steps over one run and then another
steps-more-cases : (o : Option (List Symbol)) (k : List Symbol) (t : Token) (a b : List Token) (j : List Symbol) → next k t.class ≡ o → elim o as (λ _. Option (List Symbol)) [ None ↦ None | Some i ↦ steps i a ] ≡ Some j
    → ((i : List Symbol) → steps i a ≡ Some j → steps i (a ++ b) ≡ steps j b) → steps k (t ∷ (a ++ b)) ≡ steps j b
steps-more-cases None k t a b j e h r = absurd (cc)
steps-more-cases (Some i) k t a b j e h r = steps-some k t (a ++ b) i e ∙ r i h

pub steps-more : (a b : List Token) (k j : List Symbol) → steps k a ≡ Some j → steps k (a ++ b) ≡ steps j b
steps-more [] b k j h = let e : k ≡ j = cc in ap (λ x. steps x b) e
steps-more (t ∷ a) b k j h = steps-more-cases (next k t.class) k t a b j refl h (λ i g. steps-more a b i j g)

pub steps-one-none : (k : List Symbol) (t : Token) → next k t.class ≡ None → steps k (t ∷ []) ≡ None
steps-one-none k t h = ap (λ (x : Option (List Symbol)). elim x as (λ _. Option (List Symbol)) [ None ↦ None | Some i ↦ Some i ]) h
