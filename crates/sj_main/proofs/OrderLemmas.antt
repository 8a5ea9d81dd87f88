-- From the turns of a system to the run of the bytes' program.
use Rattle.std.proofs.Common.{◌≡◌, ℕ, zero, suc, ◌+◌, ◌<◌, ◌≤◌, Bool, true, false, nat_eq, nat_lt, cond, List, [], ◌∷◌, ◌++◌, length, get_or, arith, refl, sym, ap, ◌∙◌, subst, inl, inr, ◌⊎◌}
use Rattle.std.specs.Prelude.{Option, Some, None, IfSome, Result, Ok, Err, IfErr, IsErrAnd, All}
use Rattle.std.specs.List.{range_with_len}
use Rattle.std.proofs.lemmas.Bool.Decides.{nat_tests}
use Rattle.std.proofs.lemmas.List.{get_or_append_left, get_or_past}
use Rattle.std.proofs.lemmas.List.FromFn.{length-map-range_with_len, get_or-map-range_with_len}
use Rattle.kernel_terms.specs.declared.system.System.{System}
use Rattle.kernel_terms.specs.Systems.{tables_of, domains_of}
use Rattle.tick_log.specs.definitions.Runs.{RunState}
use Rattle.tick_log.specs.definitions.Holding.{run_state}
use Rattle.kernel_rules.specs.definitions.LegalTick.{no_inputs}
use Rattle.domain_core.specs.definitions.runs.Systems.{Setup, SystemState}
use Rattle.domain_core.specs.definitions.step.Domains.{DomainView}
use Rattle.domain_core.specs.definitions.step.Compiling.{IsCompiled}
use Rattle.domain_core.specs.definitions.runs.Scheduled.{IsScheduledRun, IsWholeRun, turns_of}
use Rattle.gals_core.specs.definitions.OrderPlans.{no_domain, view_at, AreDomainsOf, AreBudgets, FitBudgets}
use Rattle.sj_main.specs.declared.commands.Turns.{Turns}
use Rattle.sj_main.specs.declared.commands.Turns.TheVariants.{Rounds, Each}
use Rattle.sj_main.specs.declared.order.Made.{Made}
use Rattle.sj_main.specs.declared.order.OrderError.{OrderError}
use Rattle.sj_main.specs.declared.order.OrderError.TheVariants.{Fault, Size, Refused, DomainsDoNotFit, OverWeight, NoMemory}
use Rattle.sj_main.specs.CommandWords.{AreFew}
use Rattle.sj_accept.specs.definitions.Systems.{Accepts}
use Rattle.sj_main.proofs.SourceSystemLemmas.{same_setup, same_count}
use Rattle.sj_main.specs.OrderSteps.{IsMadeFrom, RunsTurns, WeighsTooMuch, IsWhyNoRun, IsWhyNotMade}
use Rattle.sj_main.specs.definitions.Commands.{most_turns, rounds_of, turns_for, FitDomains, budgets_for}
use Rattle.sj_main.specs.definitions.RunWeight.{run_weight, run_weight_of}
use Rattle.sj_main.specs.definitions.Verdicts.{IsMisfit, IsOverweight}
use Rattle.sj_main.proofs.Budgets.{turns_of-rounds}

lt_or_le : (a b : ℕ) → (a < b) ⊎ (b ≤ a)
lt_or_le a b = by (nat_lt a b) refl
  where
    by : (c : Bool) → nat_lt a b ≡ c → (a < b) ⊎ (b ≤ a)
    by true e = inl (grind (arith, nat_tests))
    by false e = inr (grind (arith, nat_tests))

-- the domains, one more at a time

-- the first n domains of a system before their first ticks
pub record AreCompiled (system : System) (views : List DomainView) (n : ℕ) : Type 0 where
  pub count : length views ≡ n
  pub compiled : (d : ℕ) → d < n → IsCompiled system d (view_at system views d)

pub compiled_start : (system : System) (views : List DomainView) → views ≡ [] → AreCompiled system views 0
compiled_start system views e = record { count = ap length e; compiled = λ d l. absurd (omega arith) }

last_view : (system : System) (views : List DomainView) (v : DomainView) → get_or (views ++ v ∷ []) (length views) (no_domain system) ≡ v
last_view system [] v = refl
last_view system (x ∷ views) v = last_view system views v

length_more : (views : List DomainView) (v : DomainView) → length (views ++ v ∷ []) ≡ length views + 1
length_more [] v = omega arith
length_more (x ∷ views) v = let h = length_more views v in omega arith

pub compiled_more : (system : System) (old new : List DomainView) (n : ℕ) (v : DomainView) → AreCompiled system old n → IsCompiled system n v → new ≡ old ++ v ∷ [] → AreCompiled system new (n + 1)
compiled_more system old new n v a c e = record {
  count = ap length e ∙ length_more old v ∙ ap (λ k. k + 1) a.count;
  compiled = λ d l. at d (lt_or_le d n) l;
}
  where
    at : (d : ℕ) → (d < n) ⊎ (n ≤ d) → d < n + 1 → IsCompiled system d (view_at system new d)
    at d (inl h) l =
        let s : get_or new d (no_domain system) ≡ get_or old d (no_domain system) = ap (λ vs. get_or vs d (no_domain system)) e ∙ get_or_append_left old (v ∷ []) (no_domain system) d (omega (arith, a.count)) in
        subst (λ x. IsCompiled system d x) (sym s) (a.compiled d h)
    at d (inr h) l =
        let k : n ≡ d = omega arith in
        let m : length old ≡ d = a.count ∙ k in
        let s : get_or new d (no_domain system) ≡ v = ap (λ vs. get_or vs d (no_domain system)) e ∙ ap (λ i. get_or (old ++ v ∷ []) i (no_domain system)) (sym m) ∙ last_view system old v in
        subst (λ i. IsCompiled system i (view_at system new d)) k (subst (λ x. IsCompiled system n x) (sym s) c)

pub compiled_end : (system : System) (views : List DomainView) (n : ℕ) → AreCompiled system views n → length (domains_of system) ≤ n → n ≤ length (domains_of system) → AreDomainsOf system views
compiled_end system views n a l m = record { count = (let z = a.count in omega arith); compiled = λ d h. a.compiled d (omega (arith, a.count)) }

pub ruleset compiling = (compiled_start, compiled_more, compiled_end)

-- the budgets

budget_few : (turns : Turns) (n d : ℕ) → AreFew turns → d < n → turns_of d (turns_for turns n) ≤ most_turns
budget_few (Rounds r) n d few l = let e = turns_of-rounds d r n l in omega arith
budget_few (Each ts) n d few l = few d

budget_at : (turns : Turns) (n d : ℕ) → d < n → get_or (budgets_for turns n) d 0 ≡ turns_of d (turns_for turns n)
budget_at turns n d l = get_or-map-range_with_len (λ e. turns_of e (turns_for turns n)) 0 n d d 0 l (omega arith)

budget_count : (turns : Turns) (n : ℕ) → length (budgets_for turns n) ≡ n
budget_count turns n = length-map-range_with_len (λ e. turns_of e (turns_for turns n)) 0 n

few_at : (turns : Turns) (n d : ℕ) → AreFew turns → (d < n) ⊎ (n ≤ d) → get_or (budgets_for turns n) d 0 ≤ most_turns
few_at turns n d few (inl l) = let a = budget_at turns n d l in let b = budget_few turns n d few l in omega arith
few_at turns n d few (inr l) = let a = get_or_past (budgets_for turns n) d 0 (omega (arith, budget_count turns n)) in omega arith

pub budgets_are : (system : System) (turns : Turns) (n : ℕ) (budgets : List ℕ) → AreFew turns → n ≡ length (domains_of system) → budgets ≡ budgets_for turns n → AreBudgets system budgets
budgets_are system turns n budgets few same e = subst (λ l. AreBudgets system l) (sym e) (record {
  count = budget_count turns n ∙ same;
  few = λ d. few_at turns n d few (lt_or_le d n);
})

-- each of the turns is below n
AllBelow : ℕ → List ℕ → Type 0
AllBelow n [] = Unit {0}
AllBelow n (x ∷ xs) = (x < n) × AllBelow n xs

below_append : (n : ℕ) (xs ys : List ℕ) → AllBelow n xs → AllBelow n ys → AllBelow n (xs ++ ys)
unfolding AllBelow
below_append n [] ys a b = b
below_append n (x ∷ xs) ys a b = (a.0, below_append n xs ys a.1 b)

below_range : (n a k : ℕ) → a + k ≤ n → AllBelow n (range_with_len a k)
unfolding AllBelow
below_range n a zero l = tt
below_range n a (suc k) l = (omega arith, below_range n (a + 1) k (omega arith))

below_rounds : (r n : ℕ) → AllBelow n (rounds_of r n)
unfolding AllBelow
below_rounds zero n = tt
below_rounds (suc r) n = below_append n (range_with_len 0 n) (rounds_of r n) (below_range n 0 n (omega arith)) (below_rounds r n)

below_all : (n : ℕ) (ts : List ℕ) → All (λ t. t < n) ts → AllBelow n ts
unfolding AllBelow
below_all n [] a = tt
below_all n (t ∷ ts) a = (a 0 t (omega arith), below_all n ts (λ k d l. a (suc k) d (omega arith)))

turns_below : (turns : Turns) (n : ℕ) → FitDomains turns n → AllBelow n (turns_for turns n)
turns_below (Rounds r) n f = below_rounds r n
turns_below (Each ts) n f = below_all n ts f

below_at : (n : ℕ) (ts : List ℕ) (i : ℕ) → AllBelow n ts → i < length ts → get_or ts i 0 < n
unfolding AllBelow
below_at n [] i a l = absurd (omega arith)
below_at n (t ∷ ts) zero a l = a.0
below_at n (t ∷ ts) (suc i) a l = below_at n ts i a.1 (omega arith)

below_none : (n d : ℕ) (ts : List ℕ) → AllBelow n ts → n ≤ d → turns_of d ts ≡ 0
unfolding AllBelow
below_none n d [] a l = refl
below_none n d (t ∷ ts) a l =
    let h = a.0 in
    let e : nat_eq t d ≡ false = grind (arith, nat_tests) in
    ap (λ b. cond b (suc (turns_of d ts)) (turns_of d ts)) e ∙ below_none n d ts a.1 l

fits_at : (turns : Turns) (n d : ℕ) → FitDomains turns n → (d < n) ⊎ (n ≤ d) → turns_of d (turns_for turns n) ≤ get_or (budgets_for turns n) d 0
fits_at turns n d f (inl l) = let a = budget_at turns n d l in omega arith
fits_at turns n d f (inr l) = let a = below_none n d (turns_for turns n) (turns_below turns n f) l in omega arith

fits_for : (turns : Turns) (n : ℕ) → FitDomains turns n → FitBudgets (budgets_for turns n) (turns_for turns n)
fits_for turns n f = record {
  within = λ i l. (let a = below_at n (turns_for turns n) i (turns_below turns n f) l in let b = budget_count turns n in omega arith);
  few = λ d. fits_at turns n d f (lt_or_le d n);
}

pub budgets_fit : (turns : Turns) (n : ℕ) (budgets list : List ℕ) → FitDomains turns n → budgets ≡ budgets_for turns n → list ≡ turns_for turns n → FitBudgets budgets list
budgets_fit turns n budgets list f b l = subst (λ x. FitBudgets x list) (sym b) (subst (λ x. FitBudgets (budgets_for turns n) x) (sym l) (fits_for turns n f))

-- what is told of the program

same_run : (s t : Setup) (run : RunState) (l m : List ℕ) (end : SystemState) → s ≡ t → l ≡ m → IsScheduledRun s run l end → IsScheduledRun t run m end
same_run s t run l m end e h k = subst (λ x. IsScheduledRun x run m end) e (subst (λ x. IsScheduledRun s run x end) h k)

same_whole : (s t : Setup) (run : RunState) (l m : List ℕ) → s ≡ t → l ≡ m → IsWholeRun s run l → IsWholeRun t run m
same_whole s t run l m e h k = subst (λ x. IsWholeRun x run m) e (subst (λ x. IsWholeRun s run x) h k)

weight_as : (bytes : List ℕ) (system : System) (turns : Turns) → (a : Accepts bytes system) →
    run_weight (tables_of system) (budgets_for turns (length (domains_of system))) ≡ run_weight_of a.program turns
weight_as bytes system turns a =
    ap (λ t. run_weight t (budgets_for turns (length (domains_of system)))) a.tables
    ∙ ap (λ n. run_weight a.program.tables (budgets_for turns n)) (same_count bytes system a)

pub made_from : (bytes : List ℕ) (turns : Turns) (made : Made) → Accepts bytes made.system → RunsTurns made.system turns (run_state made.run) → IsMadeFrom bytes turns made
made_from bytes turns made a r =
    let count = same_count bytes made.system a in
    let same = ap (turns_for turns) count in
    let setup = same_setup bytes made.system a no_inputs in
    record {
      program = a.program;
      source = a.source;
      can = record { fit = subst (FitDomains turns) count r.fit; weight = (let z = weight_as bytes made.system turns a in let y = r.weight in omega arith) };
      tables = a.tables;
      last = r.is.end;
      scheduled = same_run _ _ (run_state made.run) _ _ r.is.end setup same r.is.scheduled;
      whole = same_whole _ _ (run_state made.run) _ _ setup same r.is.whole;
    }

misfit : (bytes : List ℕ) (system : System) (turns : Turns) → Accepts bytes system → (FitDomains turns (length (domains_of system)) → ⊥) → IsMisfit bytes turns
misfit bytes system turns a n = record { program = a.program; source = a.source; stray = λ f. n (subst (FitDomains turns) (sym (same_count bytes system a)) f) }

overweight : (bytes : List ℕ) (system : System) (turns : Turns) (weight : ℕ) → Accepts bytes system → WeighsTooMuch system turns weight → IsOverweight bytes turns weight
overweight bytes system turns weight a w = record {
  program = a.program;
  source = a.source;
  fit = subst (FitDomains turns) (same_count bytes system a) w.fit;
  is = w.is ∙ weight_as bytes system turns a;
  above = w.above;
}

pub why : (bytes : List ℕ) (system : System) (turns : Turns) (e : OrderError) → Accepts bytes system → IsWhyNoRun system turns e → IsWhyNotMade bytes turns e
why bytes system turns Fault a w = absurd w
why bytes system turns Size a w = absurd w
why bytes system turns (Refused reason) a w = absurd w
why bytes system turns DomainsDoNotFit a w = misfit bytes system turns a w
why bytes system turns (OverWeight weight) a w = overweight bytes system turns weight a w
why bytes system turns NoMemory a w = tt

-- what holds of the bytes that were read holds of those that are told
pub told_such : (told : Option (List ℕ)) (bytes : List ℕ) (P : List ℕ → Type 0) → IfSome told (λ all. bytes ≡ all) → P bytes → IfSome told P
told_such None bytes P h p = tt
told_such (Some all) bytes P h p = subst P h p

pub ruleset running = (budgets_are, budgets_fit)

-- an error that is passed on
pub passed_on : {X : Type 0} (r : Result X OrderError) (e : OrderError) (P : OrderError → Type 0) → IsErrAnd r (λ x. x ≡ e) → P e → IfErr r P
passed_on (Ok x) e P h p = tt
passed_on (Err x) e P h p = subst P (sym h) p
