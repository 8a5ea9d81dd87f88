-- What a well-formed system keeps: its limits, channels that join two domains, and statements that don't wait.
use Rattle.std.proofs.Common.{◌≡◌, ◌≢◌, ℕ, zero, suc, ◌+◌, ◌*◌, ◌<◌, ◌≤◌, ℤ, Bool, true, false, cond, List, [], ◌∷◌, length, get_or, map, refl, sym, ap, ◌∙◌, subst, inl, inr, arith}
use Rattle.std.specs.Prelude.{◌&&◌, ◌==◌, not, nat_lt, nat_le}
use Rattle.std.specs.List.{list_all}
use Rattle.std.proofs.lemmas.Bool.{true≢false, cases_lt, cases_eq, eq-eqb, leb-true, ltb-true}
use Rattle.std.proofs.lemmas.List.{length-map, get_or_past}
use Rattle.std.proofs.lemmas.List.Folds.{list_all_at}
use Rattle.java_values.specs.declared.kind.Kind.TheVariants as kind
use Rattle.kernel_terms.specs.declared.system.System.{System}
use Rattle.kernel_terms.specs.declared.tables.Tables.{Tables}
use Rattle.kernel_terms.specs.declared.tables.SignalInfo.{SignalInfo}
use Rattle.kernel_terms.specs.Limits.{most_domains, most_channels, most_signals, most_variables}
use Rattle.kernel_terms.specs.Systems.{tables_of, domains_of}
use Rattle.kernel_terms.specs.TableEntries.{channel_at, numbers_where, no_channel, variables_of}
use Rattle.kernel_terms.specs.Statements.{Stmt, Nothing, Pause, Emit, Assign, If, Present, Seq, Loop, Par, Trap, Exit, Abort, Suspend, Local, Send, Receive, SendWaits, Sent, ReceiveWaits, Received, statement}
use Rattle.kernel_terms.specs.WellFormed.{Scope, fits_statement, fit_statements, fits_test, is_given, is_local_of, has_names, is_within_limits, has_entries, has_parts, declares_each_once, all_below, signals_of, is_signal_entry, is_channel_entry, interface_comes_first, combines}
use Rattle.kernel_terms.proofs.SystemLimits.{few_domains, few_channels}
use Rattle.domain_core.specs.definitions.runs.Systems.{WaitsToSend, WaitsToReceive, IsSystem, IsFresh, setup_of}
use Rattle.domain_core.specs.definitions.runs.Systems.{source_of}
use Rattle.kernel_rules.specs.definitions.LegalTick.{Inputs}

pub left : (a b : Bool) → a && b ≡ true → a ≡ true
left true b h = refl
left false b h = absurd (true≢false (sym h))

pub right : (a b : Bool) → a && b ≡ true → b ≡ true
right true b h = h
right false b h = absurd (true≢false (sym h))

-- the parts of the rule
module _ (system : System) where
  abbrev t : Tables
  t = tables_of system

  abbrev count : ℕ
  count = length (domains_of system)

  after_names :
      is_within_limits t count && (has_entries t count && (list_all has_parts (domains_of system)
      && (fit_statements t 0 (map statement (domains_of system)) && declares_each_once t (map statement (domains_of system)))))
      ≡ true
  after_names = right (has_names t) _ system.well_formed

  limits : is_within_limits t count ≡ true
  limits = left (is_within_limits t count) _ after_names

  entries : has_entries t count ≡ true
  entries = left (has_entries t count) _ (right (is_within_limits t count) _ after_names)

  statements_fit : fit_statements t 0 (map statement (domains_of system)) ≡ true
  statements_fit = left (fit_statements t 0 (map statement (domains_of system))) _ (right (list_all has_parts (domains_of system)) _ (right (has_entries t count) _ (right (is_within_limits t count) _ after_names)))

fit_at : (t : Tables) (d n : ℕ) (ps : List Stmt) → n < length ps → fit_statements t d ps ≡ true → fits_statement t (record { domain = d + n; traps = 0; locals = [] }) (get_or ps n Nothing) ≡ true
fit_at t d n [] less h = absurd (omega (arith, less))
fit_at t d zero (p ∷ ps) less h =
    subst (λ k. fits_statement t (record { domain = k; traps = 0; locals = [] }) p ≡ true) (omega arith)
    (left (fits_statement t (record { domain = d; traps = 0; locals = [] }) p) (fit_statements t (suc d) ps) h)
fit_at t d (suc n) (p ∷ ps) less h =
    subst (λ k. fits_statement t (record { domain = k; traps = 0; locals = [] }) (get_or ps n Nothing) ≡ true) (omega arith)
    (fit_at t (suc d) n ps (omega (arith, less)) (right (fits_statement t (record { domain = d; traps = 0; locals = [] }) p) (fit_statements t (suc d) ps) h))

-- the statement of each domain keeps the rules
pub source_fits : (system : System) (d : ℕ) → d < length (domains_of system) → fits_statement (tables_of system) (record { domain = 0 + d; traps = 0; locals = [] }) (source_of system d) ≡ true
source_fits system d less = fit_at (tables_of system) 0 d (map statement (domains_of system)) (omega (arith, less, length-map (domains_of system) statement)) (statements_fit system)

-- such a statement doesn't wait
never_sends : (t : Tables) (scope : Scope) (p : Stmt) (c : ℕ) (v : ℤ) → fits_statement t scope p ≡ true → WaitsToSend c v p → ⊥
never_sends t scope Nothing c v h w = w
never_sends t scope Pause c v h w = w
never_sends t scope (Emit s e) c v h w = w
never_sends t scope (Assign x e) c v h w = w
never_sends t scope (If e p q) c v h (inl w) = never_sends t scope p c v (left (fits_statement t scope p) _ (right (is_given t scope kind.Boolean e) _ h)) w
never_sends t scope (If e p q) c v h (inr w) = never_sends t scope q c v (right (fits_statement t scope p) _ (right (is_given t scope kind.Boolean e) _ h)) w
never_sends t scope (Present u p q) c v h (inl w) = never_sends t scope p c v (left (fits_statement t scope p) _ (right (fits_test t scope u) _ h)) w
never_sends t scope (Present u p q) c v h (inr w) = never_sends t scope q c v (right (fits_statement t scope p) _ (right (fits_test t scope u) _ h)) w
never_sends t scope (Seq p q) c v h (inl w) = never_sends t scope p c v (left (fits_statement t scope p) _ h) w
never_sends t scope (Seq p q) c v h (inr w) = never_sends t scope q c v (right (fits_statement t scope p) _ h) w
never_sends t scope (Loop p) c v h w = never_sends t scope p c v h w
never_sends t scope (Par p q) c v h (inl w) = never_sends t scope p c v (left (fits_statement t scope p) _ h) w
never_sends t scope (Par p q) c v h (inr w) = never_sends t scope q c v (right (fits_statement t scope p) _ h) w
never_sends t scope (Trap p) c v h w = never_sends t (record scope { traps = suc scope.traps }) p c v h w
never_sends t scope (Exit d) c v h w = w
never_sends t scope (Abort weak armed u p) c v h w = never_sends t scope p c v (right (fits_test t scope u) _ h) w
never_sends t scope (Suspend armed u p) c v h w = never_sends t scope p c v (right (fits_test t scope u) _ h) w
never_sends t scope (Local s l p) c v h w = never_sends t (record scope { locals = s ∷ scope.locals }) p c v (right (is_local_of t scope.domain s) _ h) w
never_sends t scope (Send d e) c v h w = w
never_sends t scope (Receive d) c v h w = w
never_sends t scope (SendWaits d l) c v h w = true≢false (sym h)
never_sends t scope (Sent d) c v h w = w
never_sends t scope (ReceiveWaits d) c v h w = w
never_sends t scope (Received d) c v h w = w

never_receives : (t : Tables) (scope : Scope) (p : Stmt) (c : ℕ) → fits_statement t scope p ≡ true → WaitsToReceive c p → ⊥
never_receives t scope Nothing c h w = w
never_receives t scope Pause c h w = w
never_receives t scope (Emit s e) c h w = w
never_receives t scope (Assign x e) c h w = w
never_receives t scope (If e p q) c h (inl w) = never_receives t scope p c (left (fits_statement t scope p) _ (right (is_given t scope kind.Boolean e) _ h)) w
never_receives t scope (If e p q) c h (inr w) = never_receives t scope q c (right (fits_statement t scope p) _ (right (is_given t scope kind.Boolean e) _ h)) w
never_receives t scope (Present u p q) c h (inl w) = never_receives t scope p c (left (fits_statement t scope p) _ (right (fits_test t scope u) _ h)) w
never_receives t scope (Present u p q) c h (inr w) = never_receives t scope q c (right (fits_statement t scope p) _ (right (fits_test t scope u) _ h)) w
never_receives t scope (Seq p q) c h (inl w) = never_receives t scope p c (left (fits_statement t scope p) _ h) w
never_receives t scope (Seq p q) c h (inr w) = never_receives t scope q c (right (fits_statement t scope p) _ h) w
never_receives t scope (Loop p) c h w = never_receives t scope p c h w
never_receives t scope (Par p q) c h (inl w) = never_receives t scope p c (left (fits_statement t scope p) _ h) w
never_receives t scope (Par p q) c h (inr w) = never_receives t scope q c (right (fits_statement t scope p) _ h) w
never_receives t scope (Trap p) c h w = never_receives t (record scope { traps = suc scope.traps }) p c h w
never_receives t scope (Exit d) c h w = w
never_receives t scope (Abort weak armed u p) c h w = never_receives t scope p c (right (fits_test t scope u) _ h) w
never_receives t scope (Suspend armed u p) c h w = never_receives t scope p c (right (fits_test t scope u) _ h) w
never_receives t scope (Local s l p) c h w = never_receives t (record scope { locals = s ∷ scope.locals }) p c (right (is_local_of t scope.domain s) _ h) w
never_receives t scope (Send d e) c h w = w
never_receives t scope (Receive d) c h w = w
never_receives t scope (SendWaits d l) c h w = w
never_receives t scope (Sent d) c h w = w
never_receives t scope (ReceiveWaits d) c h w = true≢false (sym h)
never_receives t scope (Received d) c h w = w

past_domains : (system : System) (d : ℕ) → length (domains_of system) ≤ d → source_of system d ≡ Nothing
past_domains system d past = get_or_past (map statement (domains_of system)) d Nothing (omega (arith, past, length-map (domains_of system) statement))

pub system_is_fresh : (system : System) (inputs : Inputs) → IsFresh (setup_of system inputs)
system_is_fresh system inputs = record {
  sends = λ d c v w. elim (cases_lt d (length (domains_of system))) [
    | inl less ↦ never_sends (tables_of system) (record { domain = 0 + d; traps = 0; locals = [] }) (source_of system d) c v (source_fits system d less) w
    | inr past ↦ subst (WaitsToSend c v) (past_domains system d past) w
  ];
  receives = λ d c w. elim (cases_lt d (length (domains_of system))) [
    | inl less ↦ never_receives (tables_of system) (record { domain = 0 + d; traps = 0; locals = [] }) (source_of system d) c (source_fits system d less) w
    | inr past ↦ subst (WaitsToReceive c) (past_domains system d past) w
  ];
}

-- the channels
all_at : {X : Type 0} (p : X → Bool) (xs : List X) (i : ℕ) (e : X) → i < length xs → list_all p xs ≡ true → p (get_or xs i e) ≡ true
all_at p xs i e less h = by (p (get_or xs i e)) refl
  where
    by : (b : Bool) → p (get_or xs i e) ≡ b → p (get_or xs i e) ≡ true
    by true is = is
    by false is = absurd (true≢false (sym h ∙ list_all_at p xs i e less is))

different : (a b : ℕ) → not (a == b) ≡ true → a ≢ b
different a b h same = true≢false (sym h ∙ ap not (eq-eqb a b same))

pub system_joins : (system : System) (inputs : Inputs) → IsSystem (setup_of system inputs)
system_joins system inputs =
    let t = tables_of system in
    let n = length (domains_of system) in
    let all : list_all (is_channel_entry n) t.channels ≡ true = left (list_all (is_channel_entry n) t.channels) _ (right (interface_comes_first t.signals) _ (right (list_all (is_signal_entry n) t.signals) _ (entries system))) in
    let at : (c : ℕ) → c < length t.channels → is_channel_entry n (channel_at t c) ≡ true = λ c less. all_at (is_channel_entry n) t.channels c no_channel less all in
    let domains = length-map (domains_of system) statement in
    record {
      sender = λ c less. omega (arith, domains, ltb-true (channel_at t c).sender n (left (nat_lt (channel_at t c).sender n) _ (at c less)));
      receiver = λ c less. omega (arith, domains, ltb-true (channel_at t c).receiver n (left (nat_lt (channel_at t c).receiver n) _ (right (nat_lt (channel_at t c).sender n) _ (at c less))));
      apart = λ c less. different (channel_at t c).sender (channel_at t c).receiver (right (nat_lt (channel_at t c).receiver n) _ (right (nat_lt (channel_at t c).sender n) _ (at c less)));
    }

-- how many of the entries are of the first so many domains
abbrev total : ℕ → List SignalInfo → ℕ → ℕ
total k xs zero = 0
total k xs (suc n) = length (numbers_where (λ (s : SignalInfo). s.domain == n) k xs) + total k xs n

at_least : (b : Bool) (k : ℕ) (ks : List ℕ) → length ks ≤ length (cond b (k ∷ ks) ks)
at_least true k ks = omega arith
at_least false k ks = omega arith

total_kept : (k n : ℕ) (x : SignalInfo) (xs : List SignalInfo) → total (suc k) xs n ≤ total k (x ∷ xs) n
total_kept k zero x xs = omega arith
total_kept k (suc n) x xs =
    let here = at_least (x.domain == n) k (numbers_where (λ (s : SignalInfo). s.domain == n) (suc k) xs) in
    omega (arith, here, total_kept k n x xs)

total_more : (k n : ℕ) (x : SignalInfo) (xs : List SignalInfo) → x.domain < n → suc (total (suc k) xs n) ≤ total k (x ∷ xs) n
total_more k zero x xs less = absurd (omega (arith, less))
total_more k (suc n) x xs less = elim (cases_eq x.domain n) [
  | inl same ↦
      let one = ap (λ b. length (cond b (k ∷ numbers_where (λ (s : SignalInfo). s.domain == n) (suc k) xs) (numbers_where (λ (s : SignalInfo). s.domain == n) (suc k) xs))) (eq-eqb x.domain n same) in
      omega (arith, one, total_kept k n x xs)
  | inr other ↦
      let here = at_least (x.domain == n) k (numbers_where (λ (s : SignalInfo). s.domain == n) (suc k) xs) in
      omega (arith, here, total_more k n x xs (omega (arith, less, other)))
]

all_counted : (k n : ℕ) (xs : List SignalInfo) → list_all (is_signal_entry n) xs ≡ true → length xs ≤ total k xs n
all_counted k n [] h = omega arith
all_counted k n (x ∷ xs) h =
    let less = ltb-true x.domain n (left (nat_lt x.domain n) (combines x.kind x.combine) (left (is_signal_entry n x) (list_all (is_signal_entry n) xs) h)) in
    omega (arith, total_more k n x xs less, all_counted (suc k) n xs (right (is_signal_entry n x) (list_all (is_signal_entry n) xs) h))

total_few : (t : Tables) (n : ℕ) → all_below (λ d. nat_le (length (signals_of t d)) most_signals && nat_le (length (variables_of t d)) most_variables) n ≡ true → total 0 t.signals n ≤ n * most_signals
total_few t zero h = omega arith
total_few t (suc n) h =
    let here = left (nat_le (length (signals_of t n)) most_signals && nat_le (length (variables_of t n)) most_variables) _ h in
    let few = leb-true (length (signals_of t n)) most_signals (left (nat_le (length (signals_of t n)) most_signals) _ here) in
    let rest = total_few t n (right (nat_le (length (signals_of t n)) most_signals && nat_le (length (variables_of t n)) most_variables) _ h) in
    omega (arith, few, rest)

pub few_signals : (system : System) → length (tables_of system).signals ≤ most_domains * most_signals
few_signals system =
    let t = tables_of system in
    let n = length (domains_of system) in
    let each = right (nat_le (length t.channels) most_channels) _ (right (nat_le n most_domains) _ (limits system)) in
    omega (arith, few_domains system, total_few t n each, all_counted 0 n t.signals (left (list_all (is_signal_entry n) t.signals) _ (entries system)))

-- each domain has few variables
few_at : (t : Tables) (n : ℕ) → all_below (λ d. nat_le (length (signals_of t d)) most_signals && nat_le (length (variables_of t d)) most_variables) n ≡ true → (d : ℕ) → d < n → length (variables_of t d) ≤ most_variables
few_at t zero h d less = absurd (omega (arith, less))
few_at t (suc n) h d less = elim (cases_eq d n) [
  | inl e ↦
      let here = left (nat_le (length (signals_of t n)) most_signals && nat_le (length (variables_of t n)) most_variables) _ h in
      subst (λ k. length (variables_of t k) ≤ most_variables) (sym e) (leb-true (length (variables_of t n)) most_variables (right (nat_le (length (signals_of t n)) most_signals) _ here))
  | inr ne ↦ few_at t n (right (nat_le (length (signals_of t n)) most_signals && nat_le (length (variables_of t n)) most_variables) _ h) d (omega (arith, less, ne))
]

pub few_variables : (system : System) (d : ℕ) → d < length (domains_of system) → length (variables_of (tables_of system) d) ≤ most_variables
few_variables system d less =
    let t = tables_of system in
    let n = length (domains_of system) in
    few_at t n (right (nat_le (length t.channels) most_channels) _ (right (nat_le n most_domains) _ (limits system))) d less

pub ruleset limits_of_systems = (few_signals, few_channels, few_variables)
