-- How many domains, channels and signals a system has at most.
use Rattle.std.proofs.Common.{◌≡◌, ℕ, zero, suc, ◌+◌, ◌<◌, ◌≤◌, Bool, true, false, ◌&&◌, nat_eq, nat_le, cond, List, [], ◌∷◌, length, arith, refl, sym, ap, ◌∙◌}
use Rattle.std.specs.List.{count_by}
use Rattle.std.proofs.lemmas.Bool.Decides.{nat_tests}
use Rattle.std.proofs.lemmas.List.Sums.{sum_by-cons, sum_by-le-sum_by}
use Rattle.kernel_terms.specs.declared.tables.SignalInfo.{SignalInfo}
use Rattle.kernel_terms.specs.declared.system.System.{System}
use Rattle.kernel_terms.specs.Systems.{tables_of, domains_of}
use Rattle.kernel_terms.specs.Limits.{most_domains, most_channels, most_signals, most_variables}
use Rattle.kernel_terms.specs.TableEntries.{is_local, is_interface_of, interface_of, numbers_where, variables_of}
use Rattle.kernel_terms.specs.WellFormed.{signals_of, all_below, is_within_limits, has_names, is_well_formed}

-- entries, counted

one_more : {X : Type 0} (p : X → Bool) (n : ℕ) (x : X) (xs : List X) (b : Bool) → p x ≡ b → length (numbers_where p (suc n) xs) ≡ count_by p xs → length (numbers_where p n (x ∷ xs)) ≡ count_by p (x ∷ xs)
one_more p n x xs b e h = ap (λ c. length (cond c (n ∷ numbers_where p (suc n) xs) (numbers_where p (suc n) xs))) e ∙ by b ∙ sym (ap (λ c. cond c 1 0 + count_by p xs) e) ∙ sym (sum_by-cons (λ y. cond (p y) 1 0) x xs)
  where
    by : (c : Bool) → length (cond c (n ∷ numbers_where p (suc n) xs) (numbers_where p (suc n) xs)) ≡ cond c 1 0 + count_by p xs
    by true = omega arith
    by false = omega arith

pub numbers_count : {X : Type 0} (p : X → Bool) (n : ℕ) (xs : List X) → length (numbers_where p n xs) ≡ count_by p xs
numbers_count p n [] = refl
numbers_count p n (x ∷ xs) = one_more p n x xs (p x) refl (numbers_count p (suc n) xs)

-- the limits of a system

both_left : (a b : Bool) → a && b ≡ true → a ≡ true
both_left true b h = refl
both_left false b h = h

both_right : (a b : Bool) → a && b ≡ true → b ≡ true
both_right true b h = h
both_right false b h = cc

within : (system : System) → is_within_limits (tables_of system) (length (domains_of system)) ≡ true
within system =
    let t = tables_of system in
    let well : is_well_formed t (domains_of system) ≡ true = system.well_formed in
    both_left _ _ (both_right (has_names t) _ well)

le_of : (a b : ℕ) → nat_le a b ≡ true → a ≤ b
le_of a b h = grind (arith, nat_tests)

pub few_domains : (system : System) → length (domains_of system) ≤ most_domains
few_domains system = le_of (length (domains_of system)) most_domains (both_left _ _ (within system))

pub few_channels : (system : System) → length (tables_of system).channels ≤ most_channels
few_channels system = le_of (length (tables_of system).channels) most_channels (both_left _ _ (both_right (nat_le (length (domains_of system)) most_domains) _ (within system)))

all_step : (p : ℕ → Bool) (n d : ℕ) (b : Bool) → nat_eq d n ≡ b → p n ≡ true → d < suc n → (d < n → p d ≡ true) → p d ≡ true
all_step p n d true e h l k = ap p (let s : d ≡ n = grind (arith, nat_tests) in s) ∙ h
all_step p n d false e h l k = k (let s : d < n = grind (arith, nat_tests) in s)

all_at : (p : ℕ → Bool) (n d : ℕ) → all_below p n ≡ true → d < n → p d ≡ true
all_at p zero d h l = absurd (omega arith)
all_at p (suc n) d h l = all_step p n d (nat_eq d n) refl (both_left (p n) (all_below p n) h) l (λ m. all_at p n d (both_right (p n) (all_below p n) h) m)

abbrev one_if : Bool → ℕ
one_if b = cond b 1 0

less_if : (a b : Bool) → one_if (a && b) ≤ one_if a
less_if true true = omega arith
less_if true false = omega arith
less_if false b = omega arith

abbrev is_of : ℕ → SignalInfo → Bool
is_of d s = nat_eq s.domain d

fewer : (d : ℕ) (xs : List SignalInfo) → length (numbers_where (is_interface_of d) 0 xs) ≤ length (numbers_where (is_of d) 0 xs)
fewer d xs =
    let a = numbers_count (is_interface_of d) 0 xs in
    let b = numbers_count (is_of d) 0 xs in
    let c = sum_by-le-sum_by (λ s. one_if (is_interface_of d s)) (λ s. one_if (is_of d s)) xs (λ s. less_if (nat_eq s.domain d) (cond (is_local s.sort) false true)) in
    omega (arith, a, b, c)

pub few_signals : (system : System) (d : ℕ) → d < length (domains_of system) → length (interface_of (tables_of system) d) ≤ most_signals
few_signals system d l =
    let t = tables_of system in
    let keeps : ℕ → Bool = λ e. nat_le (length (signals_of t e)) most_signals && nat_le (length (variables_of t e)) most_variables in
    let below : all_below keeps (length (domains_of system)) ≡ true = both_right (nat_le (length t.channels) most_channels) _ (both_right (nat_le (length (domains_of system)) most_domains) _ (within system)) in
    let here : nat_le (length (signals_of t d)) most_signals ≡ true = both_left _ (nat_le (length (variables_of t d)) most_variables) (all_at keeps (length (domains_of system)) d below l) in
    let k = le_of (length (signals_of t d)) most_signals here in
    let m = fewer d t.signals in
    omega (arith, k, m)
