-- What is seen of a statement's ticks, by computation.
use Rattle.std.proofs.Common.{◌≡◌, ℕ, ◌==◌, ℤ, Bool, true, false, ◌&&◌, List, [], ◌∷◌, refl, sym, ap, ◌∙◌, subst, arith, int_eq}
use Rattle.std.specs.Cmp.{signed_Decides}
use Rattle.std.proofs.lemmas.Bool.Decides.{nat_tests}
use Rattle.kernel_terms.specs.declared.tables.Tables.{Tables}
use Rattle.kernel_terms.specs.Statements.{Stmt}
use Rattle.kernel_rules.specs.definitions.Signals.{Emission, Env, Status}
use Rattle.kernel_rules.specs.definitions.TickRule.{Tick}
use Rattle.kernel_rules.specs.ShownTicks.{Shown, MakesAlone, ShowsFrom, OnlyTick}
use Rattle.kernel_rules.proofs.BooleanLemmas.{left_of, right_of}
use Rattle.kernel_rules.proofs.TickTrials.{Trial, trial, trial_ticks}
use Rattle.kernel_rules.proofs.OneTickLemmas.{is_plain, Sole, plain_sole, sole}

abbrev same_emissions : List Emission → List Emission → Bool
same_emissions [] [] = true
same_emissions [] (e ∷ n) = false
same_emissions (e ∷ m) [] = false
same_emissions (e ∷ m) (f ∷ n) = (e.signal == f.signal) && (int_eq e.value f.value && same_emissions m n)

equal_numbers : (a b : ℕ) → (a == b) ≡ true → a ≡ b
equal_numbers a b h = grind (arith, nat_tests)

equal_emissions : (m n : List Emission) → same_emissions m n ≡ true → m ≡ n
equal_emissions [] [] h = refl
equal_emissions [] (e ∷ n) h = absurd cc
equal_emissions (e ∷ m) [] h = absurd cc
equal_emissions (e ∷ m) (f ∷ n) h =
    let rest = right_of (e.signal == f.signal) (int_eq e.value f.value && same_emissions m n) h in
    let signal = equal_numbers e.signal f.signal (left_of (e.signal == f.signal) (int_eq e.value f.value && same_emissions m n) h) in
    let value = (signed_Decides e.value f.value).0 (left_of (int_eq e.value f.value) (same_emissions m n) rest) in
    let later = equal_emissions m n (right_of (int_eq e.value f.value) (same_emissions m n) rest) in
    λ i. record { signal = signal i; value = value i } ∷ later i

-- the trial of the next tick
abbrev pub trial_in : Tables → (ℕ → ℤ) → Stmt → (ℕ → ℤ) → Shown → List Status → Trial
trial_in tables last p x t g = trial tables last p t.env x g

abbrev is_seen : Trial → Shown → Bool
is_seen a t = a.right && ((a.tick.code == t.code) && same_emissions a.tick.emits t.emits)

-- a tick of a statement with local signals, and what comes after it
pub shows_tick :
    (tables : Tables) (last : ℕ → ℤ) (p : Stmt) (x : ℕ → ℤ) (t : Shown) (ts : List Shown) (g : List Status)
    → Sole tables last p t.env x g → is_seen (trial_in tables last p x t g) t ≡ true
    → MakesAlone tables last (trial_in tables last p x t g).tick.rest (trial_in tables last p x t g).tick.variables ts
    → MakesAlone tables last p x (t ∷ ts)
shows_tick tables last p x t ts g s h later =
    let a = trial_in tables last p x t g in
    let tests = (a.tick.code == t.code) && same_emissions a.tick.emits t.emits in
    let seen = right_of a.right tests h in
    let code = equal_numbers a.tick.code t.code (left_of (a.tick.code == t.code) (same_emissions a.tick.emits t.emits) seen) in
    let emits = equal_emissions a.tick.emits t.emits (right_of (a.tick.code == t.code) (same_emissions a.tick.emits t.emits) seen) in (
      (a.tick, trial_ticks tables last p t.env x g (left_of a.right tests h)),
      λ o k.
          let e = sole tables last p t.env x g o s k in
          (ap (λ (z : Tick). z.code) e ∙ code, ap (λ (z : Tick). z.emits) e ∙ emits, subst (λ (z : Tick). MakesAlone tables last z.rest z.variables ts) (sym e) later),
    )

abbrev pub are_seen : Tables → (ℕ → ℤ) → Stmt → (ℕ → ℤ) → List Shown → Bool
are_seen tables last p x [] = true
are_seen tables last p x (t ∷ ts) =
    let a = trial_in tables last p x t [] in
    (is_plain p && is_seen a t) && are_seen tables last a.tick.rest a.tick.variables ts

-- ticks of a statement without local signals
seen_alone : (tables : Tables) (last : ℕ → ℤ) (p : Stmt) (x : ℕ → ℤ) (ts : List Shown) → are_seen tables last p x ts ≡ true → MakesAlone tables last p x ts
seen_alone tables last p x [] h = tt
seen_alone tables last p x (t ∷ ts) h =
    let a = trial_in tables last p x t [] in
    let later = are_seen tables last a.tick.rest a.tick.variables ts in
    let first = left_of (is_plain p && is_seen a t) later h in
    shows_tick tables last p x t ts [] (plain_sole tables last p t.env x [] (left_of (is_plain p) (is_seen a t) first)) (right_of (is_plain p) (is_seen a t) first)
    (seen_alone tables last a.tick.rest a.tick.variables ts (right_of (is_plain p && is_seen a t) later h))

pub shows : (tables : Tables) (last : ℕ → ℤ) (p : Stmt) (x : ℕ → ℤ) (ts : List Shown) → are_seen tables last p x ts ≡ true → ShowsFrom tables last p x ts
shows tables last p x ts h = record { ticks = seen_alone tables last p x ts h }

-- one tick after another, where local signals stand
pub shows_first :
    (tables : Tables) (last : ℕ → ℤ) (p : Stmt) (x : ℕ → ℤ) (t : Shown) (ts : List Shown) (g : List Status)
    → Sole tables last p t.env x g → is_seen (trial_in tables last p x t g) t ≡ true
    → ShowsFrom tables last (trial_in tables last p x t g).tick.rest (trial_in tables last p x t g).tick.variables ts
    → ShowsFrom tables last p x (t ∷ ts)
shows_first tables last p x t ts g s h later = record { ticks = shows_tick tables last p x t ts g s h later.ticks }

-- the only tick of a statement without local signals
pub only_tick :
    (tables : Tables) (last : ℕ → ℤ) (p : Stmt) (env : Env) (x : ℕ → ℤ)
    → is_plain p ≡ true → (trial tables last p env x []).right ≡ true → OnlyTick tables last p env x (trial tables last p env x []).tick
only_tick tables last p env x plain right =
    record { ticks = trial_ticks tables last p env x [] right; alone = λ other h. sole tables last p env x [] other (plain_sole tables last p env x [] plain) h }
