-- One text after another, by a printer.
use Rattle.std.proofs.Common.{◌≡◌, ℕ, min, Bool, true, false, ◌+◌, ◌≤◌, List, [], ◌++◌, length, take, refl, sym, ap, ◌∙◌, subst, arith, append_assoc, length-append, length-take, Option}
use Rattle.std.proofs.lemmas.List.{take-append-le, append-nil, take_min, take-take}
use Rattle.std.proofs.Math.Seq.{take-append-add, take-append_seam}
use Rattle.std.specs.Prelude.{Result, Ok, Err, OnOk, OnErr, is_ok}
use Rattle.sj_io.specs.definitions.Causes.{Rose}
use Rattle.sj_io.specs.declared.whole.WriteError.{WriteError}
use Rattle.sj_io.specs.definitions.Sinks.{TakesMore, TakesPrefix}
use Rattle.sj_io.specs.definitions.Gathers.{Gathers, GathersPrefix}
use Rattle.sj_io.proofs.GatheringLemmas.{gathers_both, gathers_nothing}
use Rattle.tick_log.specs.Prints.{Standing, Adds, AddsAt}

-- a part of the second text after the whole first one
gathers_part : (a b c : Option (List ℕ)) (u v w x y : List ℕ) → Gathers a b u v x → GathersPrefix b c v w y → GathersPrefix a c u w (x ++ y)
gathers_part a b c u v w x y g h =
    record { count = length x + h.count; gathers = subst (λ l. Gathers a c u w l) (sym (take-append-add x y h.count)) (gathers_both a b c u v w x (take h.count y) g h.gathers) }

-- a part of the first text
gathers_begun : (a b : Option (List ℕ)) (u v x y : List ℕ) → GathersPrefix a b u v x → GathersPrefix a b u v (x ++ y)
gathers_begun a b u v x y g =
    let n = min g.count (length x) in
    let le : n ≤ length x = omega arith in
    let same : take g.count x ≡ take n (x ++ y) = sym (take_min g.count x) ∙ sym (take-append-le n x y le) in
    record { count = n; gathers = subst (λ l. Gathers a b u v l) same g.gathers }

-- one text after another, whether or not the sink fails
pub adds_both : (p q r : Standing) (x y : List ℕ) → Adds p q x → Adds q r y → Adds p r (x ++ y)
adds_both p q r x y u v = record { what = at p.good q.good r.good u.what v.what; later = omega (arith, u.later, v.later) } where
  rose : Rose p.faults q.faults → q.faults ≤ r.faults → Rose p.faults r.faults
  rose s t = omega (arith, s, t)

  rose2 : p.faults ≤ q.faults → Rose q.faults r.faults → Rose p.faults r.faults
  rose2 s t = omega (arith, s, t)

  kept : r.told ≡ q.told → r.waits ≡ q.waits → GathersPrefix p.told q.told p.waits q.waits x → GathersPrefix p.told r.told p.waits r.waits x
  kept e f s = subst (λ o. GathersPrefix p.told o p.waits r.waits x) (sym e) (subst (λ l. GathersPrefix p.told q.told p.waits l x) (sym f) s)

  at : (a b c : Bool) → AddsAt a b p q x → AddsAt b c q r y → AddsAt a c p r (x ++ y)
  at true true true s t = gathers_both p.told q.told r.told p.waits q.waits r.waits x y s t
  at true true false s t = (gathers_part p.told q.told r.told p.waits q.waits r.waits x y s t.0, rose2 u.later t.1)
  at true false true s t = absurd t
  at true false false s t = (gathers_begun p.told r.told p.waits r.waits x y (kept t.0 t.1.0 s.0), rose s.1 v.later)
  at false true c s t = absurd s
  at false false true s t = absurd t
  at false false false s t = (t.0 ∙ s.0, (t.1.0 ∙ s.1.0, t.1.1 ∙ s.1.1))

pub adds_nothing : (p : Standing) → Adds p p []
adds_nothing p = record { what = at p.good; later = omega arith } where
  at : (a : Bool) → AddsAt a a p p []
  at true = gathers_nothing p.told p.waits
  at false = (refl, (refl, refl))

-- what was put, with the rest, is the whole text
pub record Completes (p q : Standing) (left all : List ℕ) : Type 0 where
  pub part : List ℕ
  pub adds : Adds p q part
  pub split : part ++ left ≡ all

pub completes_first : (p : Standing) (all : List ℕ) → Completes p p all all
completes_first p all = record { part = []; adds = adds_nothing p; split = refl }

pub completes_on : (p q r : Standing) (x left all : List ℕ) → Completes p q (x ++ left) all → Adds q r x → Completes p r left all
completes_on p q r x left all t u = record { part = t.part ++ x; adds = adds_both p q r t.part x t.adds u; split = append_assoc t.part x left ∙ t.split }

pub completes_last : (p q : Standing) (all : List ℕ) → Completes p q [] all → Adds p q all
completes_last p q all t = subst (λ l. Adds p q l) (sym (append-nil t.part) ∙ t.split) t.adds

-- what was put where all went well, and where the sink failed
all_put : (p q : Standing) (x : List ℕ) → p.good ≡ true → q.good ≡ true → Adds p q x → Gathers p.told q.told p.waits q.waits x
all_put p q x e f u = at p.good q.good e f u.what where
  at : (a b : Bool) → a ≡ true → b ≡ true → AddsAt a b p q x → Gathers p.told q.told p.waits q.waits x
  at true true e f t = t
  at true false e f t = cc
  at false b e f t = cc

prefix_put : (p q : Standing) (x : List ℕ) → p.good ≡ true → q.good ≡ false → Adds p q x → GathersPrefix p.told q.told p.waits q.waits x × Rose p.faults q.faults
prefix_put p q x e f u = at p.good q.good e f u.what where
  at : (a b : Bool) → a ≡ true → b ≡ false → AddsAt a b p q x → GathersPrefix p.told q.told p.waits q.waits x × Rose p.faults q.faults
  at true true e f t = cc
  at true false e f t = t
  at false b e f t = cc

-- the sink takes a prefix of what was put
prefix_of : (a c : Option (List ℕ)) (part w x : List ℕ) (n : ℕ) → part ++ w ≡ take n x → TakesMore a c part → TakesPrefix a c x
prefix_of a c part w x n e t =
    let m = length part in
    let size : m + length w ≡ min n (length x) = sym (length-append part w) ∙ ap length e ∙ length-take n x in
    let same : part ≡ take m x = sym (take-append_seam part w) ∙ ap (λ l. take m l) e ∙ take-take m n x (omega (arith, size)) in
    record { count = m; takes = subst (λ l. TakesMore a c l) same t }

ends_well : (a b : Option (List ℕ)) (u v x : List ℕ) → u ≡ [] → v ≡ [] → Gathers a b u v (x ++ []) → TakesMore a b x
ends_well a b u v x none gone g =
    let all : g.part ≡ x = sym (append-nil g.part) ∙ ap (λ l. g.part ++ l) (sym gone) ∙ g.split ∙ ap (λ l. l ++ (x ++ [])) none ∙ append-nil x in
    subst (λ l. TakesMore a b l) all g.takes

ends_within : (a b : Option (List ℕ)) (u v x : List ℕ) → u ≡ [] → GathersPrefix a b u v (x ++ []) → TakesPrefix a b x
ends_within a b u v x none g = prefix_of a b g.gathers.part v x g.count (g.gathers.split ∙ ap (λ l. l ++ take g.count (x ++ [])) none ∙ ap (take g.count) (append-nil x)) g.gathers.takes

-- a printer that began with nothing has put the text, and then the sink was to take what waited
pub text_taken : (p q r : Standing) (x : List ℕ) (o : Result (Unit {0}) WriteError) → p.good ≡ true → p.waits ≡ [] → Adds p q x → Adds q r [] → r.good ≡ is_ok o → OnOk o (r.waits ≡ []) → OnOk o (TakesMore p.told r.told x)
text_taken p q r x (Ok v) e none u w f gone = ends_well p.told r.told p.waits r.waits x none gone (all_put p r (x ++ []) e f (adds_both p q r x [] u w))
text_taken p q r x (Err v) e none u w f gone = tt

pub prefix_taken : (p q r : Standing) (x : List ℕ) (o : Result (Unit {0}) WriteError) → p.good ≡ true → p.waits ≡ [] → Adds p q x → Adds q r [] → r.good ≡ is_ok o → OnErr o (TakesPrefix p.told r.told x)
prefix_taken p q r x (Ok v) e none u w f = tt
prefix_taken p q r x (Err v) e none u w f = ends_within p.told r.told p.waits r.waits x none (prefix_put p r (x ++ []) e f (adds_both p q r x [] u w)).0

pub fault_told : (p q r : Standing) (x : List ℕ) (o : Result (Unit {0}) WriteError) → p.good ≡ true → Adds p q x → Adds q r [] → r.good ≡ is_ok o → OnErr o (Rose p.faults r.faults)
fault_told p q r x (Ok v) e u w f = tt
fault_told p q r x (Err v) e u w f = (prefix_put p r (x ++ []) e f (adds_both p q r x [] u w)).1

-- nothing is put, and the sink may take what waits
pub prefix_of_nothing : (a b : Option (List ℕ)) (u v : List ℕ) → Gathers a b u v [] → GathersPrefix a b u v []
prefix_of_nothing a b u v g = record { count = 0; gathers = g }

pub ruleset put_steps = (adds_nothing)

pub ruleset flush_steps = (adds_nothing, prefix_of_nothing)

pub ruleset print_steps = (text_taken, prefix_taken, fault_told)
