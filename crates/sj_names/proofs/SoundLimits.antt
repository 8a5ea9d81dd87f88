-- The tables of a tree without failures are within the limits.
use Rattle.std.proofs.Common.{◌≡◌, ℕ, zero, suc, ◌+◌, ◌<◌, ◌≤◌, ◌==◌, Bool, true, false, ◌&&◌, cond, nat_le, List, [], ◌∷◌, ◌++◌, length, drop, inl, inr, ap, refl, sym, ◌∙◌, subst, arith, length-append}
use Rattle.std.specs.List.{flat_map, list_all}
use Rattle.std.proofs.lemmas.Bool.Decides.{nat_tests}
use Rattle.std.proofs.lemmas.List.{length-map}
use Rattle.kernel_terms.specs.declared.tables.Tables.{Tables}
use Rattle.kernel_terms.specs.declared.tables.SignalInfo.{SignalInfo}
use Rattle.kernel_terms.specs.declared.tables.VariableInfo.{VariableInfo}
use Rattle.kernel_terms.specs.TableEntries.{is_local, numbers_where, variables_of}
use Rattle.kernel_terms.specs.WellFormed.{signals_of, all_below, is_within_limits}
use Rattle.kernel_terms.specs.Limits.{most_domains, most_channels, most_signals, most_variables}
use Rattle.sj_ast.specs.declared.name.Name.{Name}
use Rattle.sj_ast.specs.declared.expression.Raw.{Raw}
use Rattle.sj_ast.specs.declared.port.Port.{Port}
use Rattle.sj_ast.specs.declared.port.Port.TheVariants as port
use Rattle.sj_ast.specs.declared.statement.Block.{Block}
use Rattle.sj_ast.specs.declared.statement.Tree.{Tree}
use Rattle.sj_names.specs.declared.mention.Use.TheVariants as way
use Rattle.sj_names.specs.declared.mention.Mention.{Mention}
use Rattle.sj_names.specs.definitions.Scopes.{Scope}
use Rattle.sj_names.specs.definitions.Mentions.{block_part, block_place, domain_mentions, interface_names, names_of_tree}
use Rattle.sj_names.specs.definitions.Failures.{own_failures, first_failure, too_many, first_domain, owned_places, limit_failures, domain_limit_failures, places_of, is_channel, is_port_signal, is_signal, is_variable, failures_of}
use Rattle.sj_names.specs.definitions.DeclaredTables.{port_signals, declared_block, declared_domains, tables_of_tree}
use Rattle.sj_names.proofs.ListedNames.{Stands, empty_first, empty_second}
use Rattle.sj_names.proofs.PartEntries.{is_own_signal, is_own_variable, pair_true}
use Rattle.sj_names.proofs.DomainEntries.{block_declares}
use Rattle.sj_names.proofs.SoundLemmas.{no_failure, ports_of_tree, domains_count}

abbrev SourceBlock : Type 0
SourceBlock = Block Name (Raw Name)

abbrev SourceTree : Type 0
SourceTree = Tree Name (Raw Name)

no_tables : Tables
no_tables = record { signals = []; channels = []; variables = [] }

-- few places

few_left : {X : Type 0} (n : ℕ) (xs : List X) → drop n xs ≡ [] → length xs ≤ n
few_left zero [] h = omega arith
few_left zero (x ∷ xs) h = absurd (cc)
few_left (suc n) [] h = omega arith
few_left (suc n) (x ∷ xs) h = let l = few_left n xs h in omega arith

no_first : (xs : List ℕ) → first_failure xs ≡ [] → xs ≡ []
no_first [] h = refl
no_first (x ∷ xs) h = absurd (cc)

few : (most : ℕ) (xs : List ℕ) → too_many most xs ≡ [] → length xs ≤ most
few most xs h = few_left most xs (no_first (drop most xs) h)

at_most : (a b : ℕ) → a ≤ b → nat_le a b ≡ true
at_most a b h = grind (arith, nat_tests)

-- how many pass a test

abbrev count_where : {X : Type 0} → (X → Bool) → List X → ℕ
count_where p [] = 0
count_where p (x ∷ xs) = cond (p x) 1 0 + count_where p xs

numbers_counted : {X : Type 0} (p : X → Bool) (k : ℕ) (xs : List X) → length (numbers_where p k xs) ≡ count_where p xs
numbers_counted p k [] = refl
numbers_counted {X} p k (x ∷ xs) = split (p x) (numbers_counted p (suc k) xs)
  where
    split : (b : Bool) → length (numbers_where p (suc k) xs) ≡ count_where p xs → length (cond b (k ∷ numbers_where p (suc k) xs) (numbers_where p (suc k) xs)) ≡ cond b 1 0 + count_where p xs
    split true h = omega arith
    split false h = omega arith

count_both : {X : Type 0} (p : X → Bool) (xs ys : List X) → count_where p (xs ++ ys) ≡ count_where p xs + count_where p ys
count_both p [] ys = zero_less (count_where p ys)
  where
    zero_less : (n : ℕ) → n ≡ 0 + n
    zero_less n = omega arith
count_both p (x ∷ xs) ys = let r = count_both p xs ys in omega arith

first_true : (a b : Bool) → (a && b) ≡ true → a ≡ true
first_true true b h = refl
first_true false b h = absurd (cc)

second_true : (a b : Bool) → (a && b) ≡ true → b ≡ true
second_true true b h = h
second_true false b h = absurd (cc)

count_all : {X : Type 0} (p q : X → Bool) → ((x : X) → q x ≡ true → p x ≡ true) → (xs : List X) → list_all q xs ≡ true → count_where p xs ≡ length xs
count_all p q f [] h = refl
count_all p q f (x ∷ xs) h = ap (λ b. cond b 1 0 + count_where p xs) (f x (first_true (q x) (list_all q xs) h)) ∙ ap (λ n. 1 + n) (count_all p q f xs (second_true (q x) (list_all q xs) h)) ∙ one_first (length xs)
  where
    one_first : (n : ℕ) → 1 + n ≡ suc n
    one_first n = omega arith

count_none : {X : Type 0} (p q : X → Bool) → ((x : X) → q x ≡ true → p x ≡ false) → (xs : List X) → list_all q xs ≡ true → count_where p xs ≡ 0
count_none p q f [] h = refl
count_none p q f (x ∷ xs) h = ap (λ b. cond b 1 0 + count_where p xs) (f x (first_true (q x) (list_all q xs) h)) ∙ ap (λ n. 0 + n) (count_none p q f xs (second_true (q x) (list_all q xs) h))

same_domain : (a k d : ℕ) → (a == k) ≡ true → d ≡ k → (a == d) ≡ true
same_domain a k d h e = grind (arith, nat_tests)

other_domain : (a k d : ℕ) → (a == k) ≡ true → (d ≡ k → ⊥) → (a == d) ≡ false
other_domain a k d h e = by (a == d) refl
  where
    meet : (a == d) ≡ true → d ≡ k
    meet x = grind (arith, nat_tests)

    by : (b : Bool) → (a == d) ≡ b → (a == d) ≡ false
    by true x = absurd (e (meet x))
    by false x = x

abbrev in_signal : ℕ → SignalInfo → Bool
in_signal d i = i.domain == d

abbrev in_variable : ℕ → VariableInfo → Bool
in_variable d i = i.domain == d

own_signals : (k d : ℕ) (b : SourceBlock) → d ≡ k → count_where (in_signal d) (declared_block k b).signals ≡ length (declared_block k b).signals
own_signals k d b e = count_all (in_signal d) (is_own_signal k) (λ i h. same_domain i.domain k d (second_true (is_local i.sort) (i.domain == k) h) e) (declared_block k b).signals (block_declares no_tables [] k b).locals

own_variables : (k d : ℕ) (b : SourceBlock) → d ≡ k → count_where (in_variable d) (declared_block k b).variables ≡ length (declared_block k b).variables
own_variables k d b e = count_all (in_variable d) (is_own_variable k) (λ i h. same_domain i.domain k d h e) (declared_block k b).variables (block_declares no_tables [] k b).variables

no_signals : (k d : ℕ) (b : SourceBlock) → (d ≡ k → ⊥) → count_where (in_signal d) (declared_block k b).signals ≡ 0
no_signals k d b e = count_none (in_signal d) (is_own_signal k) (λ i h. other_domain i.domain k d (second_true (is_local i.sort) (i.domain == k) h) e) (declared_block k b).signals (block_declares no_tables [] k b).locals

no_variables : (k d : ℕ) (b : SourceBlock) → (d ≡ k → ⊥) → count_where (in_variable d) (declared_block k b).variables ≡ 0
no_variables k d b e = count_none (in_variable d) (is_own_variable k) (λ i h. other_domain i.domain k d h e) (declared_block k b).variables (block_declares no_tables [] k b).variables

distinct : (k d : ℕ) → d < k → d ≡ k → ⊥
distinct k d l e = absurd (omega arith)

signals_before : (k d : ℕ) (bs : List SourceBlock) → d < k → count_where (in_signal d) (declared_domains k bs).signals ≡ 0
signals_before k d [] l = refl
signals_before k d (b ∷ bs) l =
    let p = count_both (in_signal d) (declared_block k b).signals (declared_domains (suc k) bs).signals in
    let q = no_signals k d b (distinct k d l) in
    let r = signals_before (suc k) d bs (omega arith) in
    p ∙ ap (λ n. n + count_where (in_signal d) (declared_domains (suc k) bs).signals) q ∙ ap (λ n. 0 + n) r

variables_before : (k d : ℕ) (bs : List SourceBlock) → d < k → count_where (in_variable d) (declared_domains k bs).variables ≡ 0
variables_before k d [] l = refl
variables_before k d (b ∷ bs) l =
    let p = count_both (in_variable d) (declared_block k b).variables (declared_domains (suc k) bs).variables in
    let q = no_variables k d b (distinct k d l) in
    let r = variables_before (suc k) d bs (omega arith) in
    p ∙ ap (λ n. n + count_where (in_variable d) (declared_domains (suc k) bs).variables) q ∙ ap (λ n. 0 + n) r

past : (k d : ℕ) (ms : List Mention) (domains : List (List Mention)) → Stands k d ms domains → k ≤ d
past k d ms [] s = absurd s
past k d ms (x ∷ xs) (inl (e, f)) = omega arith
past k d ms (x ∷ xs) (inr s) = let p = past (suc k) d ms xs s in omega arith

later : (k d : ℕ) → suc k ≤ d → d ≡ k → ⊥
later k d l e = absurd (omega arith)

-- what a domain declares, by its names
record DeclaredCounts (k d : ℕ) (ms : List Mention) (bs : List SourceBlock) : Type 0 where
  signals : count_where (in_signal d) (declared_domains k bs).signals ≡ length (places_of is_signal ms)
  variables : count_where (in_variable d) (declared_domains k bs).variables ≡ length (places_of is_variable ms)

declared_counts : (k d : ℕ) (s : Scope) (ms : List Mention) (bs : List SourceBlock) → flat_map (flat_map own_failures) (domain_mentions s bs) ≡ [] → Stands k d ms (domain_mentions s bs) → DeclaredCounts k d ms bs
declared_counts k d s ms [] h i = absurd i
declared_counts k d s ms (b ∷ bs) h (inl (e, f)) =
    let c = (block_declares no_tables [] k b).counts s (empty_first (flat_map own_failures (block_part b s).mentions) (flat_map (flat_map own_failures) (domain_mentions (block_part b s).scope bs)) h) in
    let p = count_both (in_signal d) (declared_block k b).signals (declared_domains (suc k) bs).signals in
    let q = count_both (in_variable d) (declared_block k b).variables (declared_domains (suc k) bs).variables in
    let u = own_signals k d b e in
    let v = own_variables k d b e in
    let x = signals_before (suc k) d bs (omega arith) in
    let y = variables_before (suc k) d bs (omega arith) in
    let m = ap (λ l. length (places_of is_signal l)) f ∙ c.signal_places in
    let n = ap (λ l. length (places_of is_variable l)) f ∙ c.variable_places in
    record { signals = omega arith; variables = omega arith }
declared_counts k d s ms (b ∷ bs) h (inr i) =
    let r = declared_counts (suc k) d (block_part b s).scope ms bs (empty_second (flat_map own_failures (block_part b s).mentions) (flat_map (flat_map own_failures) (domain_mentions (block_part b s).scope bs)) h) i in
    let l = past (suc k) d ms (domain_mentions (block_part b s).scope bs) i in
    let p = count_both (in_signal d) (declared_block k b).signals (declared_domains (suc k) bs).signals in
    let q = count_both (in_variable d) (declared_block k b).variables (declared_domains (suc k) bs).variables in
    let u = no_signals k d b (later k d l) in
    let v = no_variables k d b (later k d l) in
    let m = r.signals in
    let n = r.variables in
    record { signals = omega arith; variables = omega arith }

-- interface signals of a domain
owned_count : (ns : List (List Mention)) (d n : ℕ) (ps : List (Port Name)) (places : List ℕ) → length places ≡ length (port_signals ns n ps) → count_where (in_signal d) (port_signals ns n ps) ≡ length (owned_places ns d n places)
owned_count ns d n [] [] e = refl
owned_count ns d n [] (at ∷ places) e = absurd (cc)
owned_count ns d n (port.Channel c ∷ ps) places e = owned_count ns d n ps places e
owned_count ns d n (port.Signal p ∷ ps) [] e = absurd (cc)
owned_count ns d n (port.Signal p ∷ ps) (at ∷ places) e = split (first_domain ns way.PortSignal n == d) (owned_count ns d (suc n) ps places (omega arith))
  where
    split : (b : Bool) → count_where (in_signal d) (port_signals ns (suc n) ps) ≡ length (owned_places ns d (suc n) places)
        → cond b 1 0 + count_where (in_signal d) (port_signals ns (suc n) ps) ≡ length (cond b (at ∷ owned_places ns d (suc n) places) (owned_places ns d (suc n) places))
    split true h = omega arith
    split false h = omega arith

limits_at : (ns : List (List Mention)) (places : List ℕ) (k d : ℕ) (ms : List Mention) (rest : List (List Mention)) → domain_limit_failures ns places k rest ≡ [] → Stands k d ms rest → limit_failures (owned_places ns d 0 places) ms ≡ []
limits_at ns places k d ms [] h s = absurd s
limits_at ns places k d ms (x ∷ xs) h (inl (e, f)) =
    ap (λ n. limit_failures (owned_places ns n 0 places) ms) e ∙ ap (limit_failures (owned_places ns k 0 places)) f ∙ empty_first (limit_failures (owned_places ns k 0 places) x) (domain_limit_failures ns places (suc k) xs) h
limits_at ns places k d ms (x ∷ xs) h (inr s) = limits_at ns places (suc k) d ms xs (empty_second (limit_failures (owned_places ns k 0 places) x) (domain_limit_failures ns places (suc k) xs) h) s

record HasNames (k d : ℕ) (domains : List (List Mention)) : Type 0 where
  names : List Mention
  stands : Stands k d names domains

named : (k d : ℕ) (domains : List (List Mention)) → k ≤ d → d < k + length domains → HasNames k d domains
named k d [] l m = absurd (omega arith)
named k d (x ∷ xs) l m = by (d == k) refl (λ g. named (suc k) d xs g (omega arith))
  where
    same : (d == k) ≡ true → d ≡ k
    same h = grind (arith, nat_tests)

    more : (d == k) ≡ false → suc k ≤ d
    more h = grind (arith, nat_tests)

    by : (b : Bool) → (d == k) ≡ b → (suc k ≤ d → HasNames (suc k) d xs) → HasNames k d (x ∷ xs)
    by true h f = record { names = x; stands = inl (same h, refl) }
    by false h f = let r = f (more h) in record { names = r.names; stands = inr r.stands }

all_of : (p : ℕ → Bool) (n : ℕ) → ((d : ℕ) → d < n → p d ≡ true) → all_below p n ≡ true
all_of p zero h = refl
all_of p (suc n) h = pair_true (p n) (all_below p n) (h n (omega arith)) (all_of p n (λ d l. h d (omega arith)))

domain_within : (tree : SourceTree) (d : ℕ) → failures_of (names_of_tree tree) ≡ [] → d < length tree.domains
    → (nat_le (length (signals_of (tables_of_tree tree) d)) most_signals && nat_le (length (variables_of (tables_of_tree tree) d)) most_variables) ≡ true
domain_within tree d h l =
    let none = no_failure (names_of_tree tree) h in
    let e = domains_count (interface_names tree).scope tree.domains in
    let w = named 0 d (names_of_tree tree).domains (omega arith) (omega arith) in
    let c = declared_counts 0 d (interface_names tree).scope w.names tree.domains none.domains w.stands in
    let f = limits_at (names_of_tree tree).domains (places_of is_port_signal (names_of_tree tree).ports) 0 d w.names (names_of_tree tree).domains none.limits w.stands in
    let owned = owned_places (names_of_tree tree).domains d 0 (places_of is_port_signal (names_of_tree tree).ports) in
    let a = few most_signals (owned ++ places_of is_signal w.names) (empty_first (too_many most_signals (owned ++ places_of is_signal w.names)) (too_many most_variables (places_of is_variable w.names)) f) in
    let b = few most_variables (places_of is_variable w.names) (empty_second (too_many most_signals (owned ++ places_of is_signal w.names)) (too_many most_variables (places_of is_variable w.names)) f) in
    let o = owned_count (names_of_tree tree).domains d 0 tree.ports (places_of is_port_signal (names_of_tree tree).ports) (ports_of_tree tree h).signal_places in
    let p = length-append owned (places_of is_signal w.names) in
    let q = count_both (in_signal d) (port_signals (names_of_tree tree).domains 0 tree.ports) (declared_domains 0 tree.domains).signals in
    let r = numbers_counted (in_signal d) 0 (tables_of_tree tree).signals in
    let u = numbers_counted (in_variable d) 0 (tables_of_tree tree).variables in
    let x = c.signals in
    let y = c.variables in
    pair_true (nat_le (length (signals_of (tables_of_tree tree) d)) most_signals) (nat_le (length (variables_of (tables_of_tree tree) d)) most_variables)
    (at_most (length (signals_of (tables_of_tree tree) d)) most_signals (subst (λ n. n ≤ most_signals) (sym (r ∙ q ∙ ap (λ n. n + count_where (in_signal d) (declared_domains 0 tree.domains).signals) o ∙ ap (λ n. length owned + n) x ∙ sym p)) a))
    (at_most (length (variables_of (tables_of_tree tree) d)) most_variables (subst (λ n. n ≤ most_variables) (sym (u ∙ y)) b))

pub within_limits : (tree : SourceTree) → failures_of (names_of_tree tree) ≡ [] → is_within_limits (tables_of_tree tree) (length tree.domains) ≡ true
within_limits tree h =
    let none = no_failure (names_of_tree tree) h in
    let few_domains = subst (λ n. n ≤ most_domains) (length-map tree.domains block_place) (few most_domains (names_of_tree tree).places none.many_domains) in
    let few_channels = subst (λ n. n ≤ most_channels) (ports_of_tree tree h).channel_places (few most_channels (places_of is_channel (names_of_tree tree).ports) none.many_channels) in
    pair_true (nat_le (length tree.domains) most_domains) (nat_le (length (tables_of_tree tree).channels) most_channels && all_below (λ d. nat_le (length (signals_of (tables_of_tree tree) d)) most_signals && nat_le (length (variables_of (tables_of_tree tree) d)) most_variables) (length tree.domains))
    (at_most (length tree.domains) most_domains few_domains)
    (pair_true (nat_le (length (tables_of_tree tree).channels) most_channels) (all_below (λ d. nat_le (length (signals_of (tables_of_tree tree) d)) most_signals && nat_le (length (variables_of (tables_of_tree tree) d)) most_variables) (length tree.domains))
    (at_most (length (tables_of_tree tree).channels) most_channels few_channels)
    (all_of (λ d. nat_le (length (signals_of (tables_of_tree tree) d)) most_signals && nat_le (length (variables_of (tables_of_tree tree) d)) most_variables) (length tree.domains) (λ d l. domain_within tree d h l)))
