-- What a walk finds of a statement, from what it finds of its parts.
use Rattle.std.proofs.Common.{◌≡◌, ℕ, ◌+◌, Bool, true, false, ◌&&◌, ◌||◌, cond, arith, refl, sym, ap, ◌∙◌}
use Rattle.std.specs.Int.{bit_at}
use Rattle.std.specs.Int.RustNames.{bit_or}
use Rattle.kernel_terms.specs.Expressions.{Expression, Test}
use Rattle.kernel_terms.specs.Statements.{Stmt, If, Present, Seq, Loop, Par, Abort, Suspend}
use Rattle.kernel_terms.specs.MayEnd.{starting, resuming, resumes, ends0, ends1, either, in_turn, beside}
use Rattle.tick_tree.specs.definitions.Leaves.{nodes_of, nodes_of_test}
use Rattle.tick_tree.specs.definitions.Weight.{nowhere, starting_weight, resuming_weight}
use Rattle.tick_tree.specs.Measures.{bit_of, AreWays, IsMeasure}
use Rattle.tick_tree.specs.definitions.Weight.{capped}
use Rattle.tick_tree.specs.declared.measure.Exits.{Exits}
use Rattle.tick_tree.specs.declared.measure.Measure.{Measure}
use Rattle.tick_tree.proofs.TreeWeights.{first_weight, later_weight, both_or, weight-starting, weight-resuming}
use Rattle.tick_tree.proofs.WayLemmas.{ways-beside}

first : (p : Stmt) → starting_weight p ≡ first_weight p
first p = weight-starting nowhere 0 p

later : (p : Stmt) → resuming_weight p ≡ later_weight p
later p = weight-resuming nowhere 0 p

sum-capped : (a b : ℕ) → capped (capped a + capped b) ≡ capped (a + b)
sum-capped a b = omega arith

given-capped : (e f : Bool) (m n : ℕ) → e ≡ f → m ≡ capped n → cond e m 0 ≡ capped (cond f n 0)
given-capped true true m n is h = h
given-capped true false m n is h = cc
given-capped false true m n is h = cc
given-capped false false m n is h = refl

both_and : (a b c d : Bool) → a ≡ c → b ≡ d → a && b ≡ c && d
both_and a b c d x y = ap (λ k. k && b) x ∙ ap (λ k. c && k) y

or_swap : (a b : Bool) → a || b ≡ b || a
or_swap true true = refl
or_swap true false = refl
or_swap false true = refl
or_swap false false = refl

or_turn : (a b c : Bool) → (a || b) || c ≡ a || (c || b)
or_turn true b c = refl
or_turn false b c = or_swap b c

first-capped : (p : Stmt) (m : Measure) → IsMeasure p m → m.starting_weight ≡ capped (first_weight p)
first-capped p m x = x.weight_at_start ∙ ap capped (first p)

later-capped : (p : Stmt) (m : Measure) → IsMeasure p m → m.resuming_weight ≡ capped (later_weight p)
later-capped p m x = x.weight_later ∙ ap capped (later p)

total-capped : (a b m n : ℕ) → a ≡ capped m → b ≡ capped n → capped (a + b) ≡ capped (m + n)
total-capped a b m n x y = omega arith

pub found-Seq : (p q : Stmt) (a b c : Measure) → IsMeasure p a → IsMeasure q b
    → AreWays (in_turn (starting p) (starting q)) c.starting → AreWays (either (in_turn (resuming p) (starting q)) (resuming q)) c.resuming
    → c.resumes ≡ a.resumes || b.resumes
    → c.starting_weight ≡ capped (a.starting_weight + cond a.starting.ends b.starting_weight 0)
    → c.resuming_weight ≡ capped (capped (a.resuming_weight + cond a.resuming.ends b.starting_weight 0) + b.resuming_weight)
    → IsMeasure (Seq p q) c
found-Seq p q a b c x y s r g f l =
    let starts : cond a.starting.ends b.starting_weight 0 ≡ capped (cond (ends0 p) (first_weight q) 0) = given-capped a.starting.ends (ends0 p) b.starting_weight (first_weight q) x.at_start.may_end (first-capped q b y) in
    let again : cond a.resuming.ends b.starting_weight 0 ≡ capped (cond (ends1 p) (first_weight q) 0) = given-capped a.resuming.ends (ends1 p) b.starting_weight (first_weight q) x.at_later.may_end (first-capped q b y) in
    record {
      at_start = s;
      at_later = record {
        may_end = r.may_end ∙ or_swap ((resuming p).ends && (starting q).ends) (resuming q).ends;
        may_exit = λ d. r.may_exit d ∙ ap bit_of (or_turn ((resuming p).exits d) ((resuming p).ends && (starting q).exits d) ((resuming q).exits d));
      };
      goes_on = g ∙ both_or a.resumes b.resumes (resumes p) (resumes q) x.goes_on y.goes_on;
      weight_at_start = f ∙ total-capped a.starting_weight (cond a.starting.ends b.starting_weight 0) (first_weight p) (cond (ends0 p) (first_weight q) 0) (first-capped p a x) starts ∙ ap capped (sym (first (Seq p q)));
      weight_later = l
          ∙ total-capped (capped (a.resuming_weight + cond a.resuming.ends b.starting_weight 0)) b.resuming_weight (later_weight p + cond (ends1 p) (first_weight q) 0) (later_weight q)
          (total-capped a.resuming_weight (cond a.resuming.ends b.starting_weight 0) (later_weight p) (cond (ends1 p) (first_weight q) 0) (later-capped p a x) again)
          (later-capped q b y)
          ∙ ap capped (sym (later (Seq p q)));
    }

pub found-Loop : (p : Stmt) (a c : Measure) (f : Exits) → IsMeasure p a → AreWays (in_turn (resuming p) (starting p)) f
    → c.starting.ends ≡ false → c.starting.traps ≡ a.starting.traps → c.resuming.ends ≡ false → c.resuming.traps ≡ f.traps → c.resumes ≡ a.resumes
    → c.starting_weight ≡ a.starting_weight → c.resuming_weight ≡ capped (a.resuming_weight + cond a.resuming.ends a.starting_weight 0)
    → IsMeasure (Loop p) c
found-Loop p a c f x w e0 t0 e1 t1 g s l =
    let again : cond a.resuming.ends a.starting_weight 0 ≡ capped (cond (ends1 p) (first_weight p) 0) = given-capped a.resuming.ends (ends1 p) a.starting_weight (first_weight p) x.at_later.may_end (first-capped p a x) in
    record {
      at_start = record { may_end = e0; may_exit = λ d. ap (λ k. bit_at k d) t0 ∙ x.at_start.may_exit d };
      at_later = record { may_end = e1; may_exit = λ d. ap (λ k. bit_at k d) t1 ∙ w.may_exit d };
      goes_on = g ∙ x.goes_on;
      weight_at_start = s ∙ x.weight_at_start;
      weight_later = l ∙ total-capped a.resuming_weight (cond a.resuming.ends a.starting_weight 0) (later_weight p) (cond (ends1 p) (first_weight p) 0) (later-capped p a x) again ∙ ap capped (sym (later (Loop p)));
    }

-- of two branches
pub record FoundOneOf (p q : Stmt) (a b c : Measure) (nodes : ℕ) : Type 0 where
  pub starts : AreWays (either (starting p) (starting q)) c.starting
  pub goes : AreWays (either (resuming p) (resuming q)) c.resuming
  pub any : c.resumes ≡ a.resumes || b.resumes
  pub first : c.starting_weight ≡ capped (capped (1 + nodes) + capped (a.starting_weight + b.starting_weight))
  pub later : c.resuming_weight ≡ capped (a.resuming_weight + b.resuming_weight)

first-one_of : (p q : Stmt) (a b c : Measure) (n k : ℕ) → IsMeasure p a → IsMeasure q b → FoundOneOf p q a b c n → n ≡ capped k → c.starting_weight ≡ capped (1 + k + (first_weight p + first_weight q))
first-one_of p q a b c n k x y h is =
    let u = first-capped p a x in
    let v = first-capped q b y in
    h.first ∙ total-capped (capped (1 + n)) (capped (a.starting_weight + b.starting_weight)) (1 + k) (first_weight p + first_weight q) (omega arith) (total-capped a.starting_weight b.starting_weight (first_weight p) (first_weight q) u v)

later-one_of : (p q : Stmt) (a b c : Measure) (n : ℕ) → IsMeasure p a → IsMeasure q b → FoundOneOf p q a b c n → c.resuming_weight ≡ capped (later_weight p + later_weight q)
later-one_of p q a b c n x y h = h.later ∙ total-capped a.resuming_weight b.resuming_weight (later_weight p) (later_weight q) (later-capped p a x) (later-capped q b y)

pub found-If : (e : Expression) (p q : Stmt) (a b c : Measure) (n : ℕ) → n ≡ capped (nodes_of e) → IsMeasure p a → IsMeasure q b → FoundOneOf p q a b c n → IsMeasure (If e p q) c
found-If e p q a b c n is x y h = record {
  at_start = h.starts;
  at_later = h.goes;
  goes_on = h.any ∙ both_or a.resumes b.resumes (resumes p) (resumes q) x.goes_on y.goes_on;
  weight_at_start = first-one_of p q a b c n (nodes_of e) x y h is ∙ ap capped (sym (first (If e p q)));
  weight_later = later-one_of p q a b c n x y h ∙ ap capped (sym (later (If e p q)));
}

pub found-Present : (t : Test) (p q : Stmt) (a b c : Measure) (n : ℕ) → n ≡ capped (nodes_of_test t) → IsMeasure p a → IsMeasure q b → FoundOneOf p q a b c n → IsMeasure (Present t p q) c
found-Present t p q a b c n is x y h = record {
  at_start = h.starts;
  at_later = h.goes;
  goes_on = h.any ∙ both_or a.resumes b.resumes (resumes p) (resumes q) x.goes_on y.goes_on;
  weight_at_start = first-one_of p q a b c n (nodes_of_test t) x y h is ∙ ap capped (sym (first (Present t p q)));
  weight_later = later-one_of p q a b c n x y h ∙ ap capped (sym (later (Present t p q)));
}

pub found-Par : (p q : Stmt) (a b c : Measure) → IsMeasure p a → IsMeasure q b
    → c.starting ≡ record { ends = a.starting.ends && b.starting.ends; traps = bit_or a.starting.traps b.starting.traps }
    → c.resuming ≡ record { ends = (a.resumes || b.resumes) && ((a.starting.ends || a.resuming.ends) && (b.starting.ends || b.resuming.ends)); traps = bit_or a.resuming.traps b.resuming.traps }
    → c.resumes ≡ a.resumes || b.resumes → c.starting_weight ≡ capped (a.starting_weight + b.starting_weight) → c.resuming_weight ≡ capped (a.resuming_weight + b.resuming_weight)
    → IsMeasure (Par p q) c
found-Par p q a b c x y s r g f l =
    let goes = both_or a.resumes b.resumes (resumes p) (resumes q) x.goes_on y.goes_on in
    let over_p = both_or a.starting.ends a.resuming.ends (starting p).ends (resuming p).ends x.at_start.may_end x.at_later.may_end in
    let over_q = both_or b.starting.ends b.resuming.ends (starting q).ends (resuming q).ends y.at_start.may_end y.at_later.may_end in
    let exits : AreWays (beside (resuming p) (resuming q)) (record { ends = a.resuming.ends && b.resuming.ends; traps = bit_or a.resuming.traps b.resuming.traps }) =
    ways-beside (resuming p) (resuming q) a.resuming b.resuming (record { ends = a.resuming.ends && b.resuming.ends; traps = bit_or a.resuming.traps b.resuming.traps }) x.at_later y.at_later refl refl in
    record {
      at_start = ways-beside (starting p) (starting q) a.starting b.starting c.starting x.at_start y.at_start (ap (λ (k : Exits). k.ends) s) (ap (λ (k : Exits). k.traps) s);
      at_later = record {
        may_end = ap (λ (k : Exits). k.ends) r
            ∙ both_and (a.resumes || b.resumes) ((a.starting.ends || a.resuming.ends) && (b.starting.ends || b.resuming.ends)) (resumes p || resumes q) (((starting p).ends || (resuming p).ends) && ((starting q).ends || (resuming q).ends)) goes
            (both_and (a.starting.ends || a.resuming.ends) (b.starting.ends || b.resuming.ends) ((starting p).ends || (resuming p).ends) ((starting q).ends || (resuming q).ends) over_p over_q);
        may_exit = λ d. ap (λ (k : Exits). bit_at k.traps d) r ∙ exits.may_exit d;
      };
      goes_on = g ∙ goes;
      weight_at_start = f ∙ total-capped a.starting_weight b.starting_weight (first_weight p) (first_weight q) (first-capped p a x) (first-capped q b y) ∙ ap capped (sym (first (Par p q)));
      weight_later = l ∙ total-capped a.resuming_weight b.resuming_weight (later_weight p) (later_weight q) (later-capped p a x) (later-capped q b y) ∙ ap capped (sym (later (Par p q)));
    }

later-tested : (t : Test) (p : Stmt) (a : Measure) (n r : ℕ) → n ≡ capped (nodes_of_test t) → IsMeasure p a → r ≡ capped (cond a.resumes (capped (1 + n)) 0 + a.resuming_weight) → r ≡ capped (cond (resumes p) (1 + nodes_of_test t) 0 + later_weight p)
later-tested t p a n r is x h =
    h ∙ total-capped (cond a.resumes (capped (1 + n)) 0) a.resuming_weight (cond (resumes p) (1 + nodes_of_test t) 0) (later_weight p)
    (given-capped a.resumes (resumes p) (capped (1 + n)) (1 + nodes_of_test t) x.goes_on (omega arith)) (later-capped p a x)

pub tested-Abort : (weak armed : Bool) (t : Test) (p : Stmt) (a : Measure) (n r : ℕ) → n ≡ capped (nodes_of_test t) → IsMeasure p a → r ≡ capped (cond a.resumes (capped (1 + n)) 0 + a.resuming_weight) → r ≡ capped (resuming_weight (Abort weak armed t p))
tested-Abort weak armed t p a n r is x h = later-tested t p a n r is x h ∙ ap capped (sym (later (Abort weak armed t p)))

pub tested-Suspend : (armed : Bool) (t : Test) (p : Stmt) (a : Measure) (n r : ℕ) → n ≡ capped (nodes_of_test t) → IsMeasure p a → r ≡ capped (cond a.resumes (capped (1 + n)) 0 + a.resuming_weight) → r ≡ capped (resuming_weight (Suspend armed t p))
tested-Suspend armed t p a n r is x h = later-tested t p a n r is x h ∙ ap capped (sym (later (Suspend armed t p)))

pub found-Abort : (weak armed : Bool) (t : Test) (p : Stmt) (a c : Measure) (n : ℕ) → n ≡ capped (nodes_of_test t) → IsMeasure p a
    → c.starting ≡ record { ends = armed || a.starting.ends; traps = a.starting.traps } → c.resuming ≡ record { ends = a.resumes; traps = a.resuming.traps } → c.resumes ≡ a.resumes
    → c.starting_weight ≡ capped (cond armed (capped (1 + n)) 0 + a.starting_weight) → c.resuming_weight ≡ capped (resuming_weight (Abort weak armed t p))
    → IsMeasure (Abort weak armed t p) c
found-Abort weak armed t p a c n is x s r g f l = record {
  at_start = record { may_end = ap (λ (k : Exits). k.ends) s ∙ ap (λ k. armed || k) x.at_start.may_end; may_exit = λ d. ap (λ (k : Exits). bit_at k.traps d) s ∙ x.at_start.may_exit d };
  at_later = record { may_end = ap (λ (k : Exits). k.ends) r ∙ x.goes_on; may_exit = λ d. ap (λ (k : Exits). bit_at k.traps d) r ∙ x.at_later.may_exit d };
  goes_on = g ∙ x.goes_on;
  weight_at_start = f ∙ total-capped (cond armed (capped (1 + n)) 0) a.starting_weight (cond armed (1 + nodes_of_test t) 0) (first_weight p) (given-capped armed armed (capped (1 + n)) (1 + nodes_of_test t) refl (omega arith)) (first-capped p a x) ∙ ap capped (sym (first (Abort weak armed t p)));
  weight_later = l;
}

pub first-Suspend : (armed : Bool) (t : Test) (p : Stmt) (a : Measure) → IsMeasure p a → a.starting_weight ≡ capped (starting_weight (Suspend armed t p))
first-Suspend armed t p a x = first-capped p a x ∙ ap capped (sym (first (Suspend armed t p)))
