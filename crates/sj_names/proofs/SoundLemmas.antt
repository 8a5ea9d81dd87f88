-- The tables and names of a tree without failures.
use Rattle.std.proofs.Common.{◌≡◌, ℕ, suc, ◌+◌, ◌<◌, ◌≤◌, ◌==◌, Bool, true, false, ◌&&◌, not, cond, nat_lt, List, [], ◌∷◌, ◌++◌, length, take, map, Some, inl, inr, ap, refl, sym, ◌∙◌, subst, arith, append-nil}
use Rattle.std.specs.Prelude.{Option, unwrap_or}
use Rattle.std.specs.List.{flat_map, list_all, list_any}
use Rattle.std.proofs.lemmas.Bool.Decides.{nat_tests}
use Rattle.std.proofs.lemmas.List.Folds.{list_all-append}
use Rattle.kernel_terms.specs.declared.tables.Tables.{Tables}
use Rattle.kernel_terms.specs.declared.tables.SignalInfo.{SignalInfo}
use Rattle.kernel_terms.specs.TableEntries.{is_local}
use Rattle.kernel_terms.specs.WellFormed.{interface_comes_first, is_channel_entry, is_variable_entry}
use Rattle.kernel_terms.specs.Limits.{most_domains, most_channels}
use Rattle.sj_ast.specs.declared.name.Name.{Name}
use Rattle.sj_ast.specs.declared.expression.Raw.{Raw}
use Rattle.sj_ast.specs.declared.port.Port.{Port}
use Rattle.sj_ast.specs.declared.port.Port.TheVariants as port
use Rattle.sj_ast.specs.declared.port.Direction.{Direction}
use Rattle.sj_ast.specs.declared.port.Direction.TheVariants as direction
use Rattle.sj_ast.specs.declared.statement.Block.{Block}
use Rattle.sj_ast.specs.declared.statement.Block as block
use Rattle.sj_ast.specs.declared.statement.Form.TheFolds.{fold_out-Block}
use Rattle.sj_ast.specs.declared.statement.Tree.{Tree}
use Rattle.sj_names.specs.declared.mention.Mention.{Mention}
use Rattle.sj_names.specs.declared.mention.Use.TheVariants as way
use Rattle.sj_names.specs.declared.failure.Failure.{Failure}
use Rattle.sj_names.specs.definitions.Scopes.{Named, Scope, no_names}
use Rattle.sj_names.specs.definitions.Mentions.{NamedPart, TreeMentions, form_layer, block_layer, stmt_layer, stmt_part, block_part, in_order, domain_mentions, interface_names, names_of_tree}
use Rattle.sj_names.specs.definitions.Failures.{own_failures, uses, first_with, shared_failures, end_failures, unjoined_failures, too_many, domain_limit_failures, places_of, is_channel, is_port_signal, failures_of, first_domain}
use Rattle.sj_names.specs.definitions.DeclaredTables.{sort_of, port_signals, port_channels, declared_block, declared_domains, tables_of_tree}
use Rattle.sj_names.specs.definitions.SoundTables.{has_domain, is_sound, are_sound}
use Rattle.sj_names.proofs.ListedNames.{IsIn, Stands, empty_first, empty_second, nothing_of, all_names, first_below}
use Rattle.sj_names.proofs.EndLemmas.{signal_owner, end_owner, AreJoined, joined, two_ends}
use Rattle.sj_names.proofs.EntryLemmas.{PortEntry, EntryOf, port_entry, AllNamed, all_named, AreEntries}
use Rattle.sj_names.proofs.PartEntries.{StandsAt, stands_first, stands_second, is_own_signal, is_own_variable, pair_true}
use Rattle.sj_names.proofs.DomainEntries.{block_declares}
use Rattle.sj_names.proofs.SoundUses.{name_sound}
use Rattle.sj_names.proofs.PortEntries.{PortsFit, ports_fit}

abbrev SourceBlock : Type 0
SourceBlock = Block Name (Raw Name)

abbrev SourceTree : Type 0
SourceTree = Tree Name (Raw Name)

-- behind a block the same names are visible

nothing_more : (us xs more : List Named) → take (length us) xs ≡ us ++ more → more ≡ []
nothing_more [] xs more h = sym h
nothing_more (u ∷ us) [] more h = absurd (cc)
nothing_more (u ∷ us) (x ∷ xs) more h = nothing_more us xs more (tails h)
  where
    tails : x ∷ take (length us) xs ≡ u ∷ (us ++ more) → take (length us) xs ≡ us ++ more
    tails e = cc

pub block_same : (t : Tables) (ns : List (List Mention)) (d : ℕ) (b : SourceBlock) (s : Scope) → (block_part b s).scope.visible ≡ s.visible
block_same t ns d b s =
    let e = (block_declares t ns d b).visible s in
    let c = ap (λ (p : NamedPart). (p s).scope.visible) (fold_out-Block Name (Raw Name) NamedPart NamedPart NamedPart form_layer block_layer stmt_layer b) in
    e.is ∙ ap (λ l. s.visible ++ l) (nothing_more s.visible (in_order (map stmt_part (block.out-Block Name (Raw Name) b).statements) s).scope.visible e.more (sym c ∙ e.is)) ∙ append-nil s.visible

-- the names of the domains

domains_entries : (t : Tables) (ns : List (List Mention)) (k : ℕ) (s : Scope) (bs : List SourceBlock) → flat_map (flat_map own_failures) (domain_mentions s bs) ≡ [] → StandsAt (declared_domains k bs).signals t.signals s.counts.signals
    → StandsAt (declared_domains k bs).variables t.variables s.counts.variables → AllNamed (PortEntry t ns) s.visible → (d : ℕ) (ms : List Mention) → Stands k d ms (domain_mentions s bs) → AreEntries t ns d ms
domains_entries t ns k s [] h x y v d ms i = absurd i
domains_entries t ns k s (b ∷ bs) h x y v d ms (inl (e, f)) =
    let o = empty_first (flat_map own_failures (block_part b s).mentions) (flat_map (flat_map own_failures) (domain_mentions (block_part b s).scope bs)) h in
    let r = (block_declares t ns k b).entries s o (stands_first (declared_block k b).signals (declared_domains (suc k) bs).signals t.signals s.counts.signals x) (stands_first (declared_block k b).variables (declared_domains (suc k) bs).variables t.variables s.counts.variables y)
    (all_named (PortEntry t ns) (EntryOf t ns k) (port_entry t ns k) s.visible v) in
    subst (λ n. AreEntries t ns n ms) (sym e) (subst (AreEntries t ns k) (sym f) r.mentions)
domains_entries t ns k s (b ∷ bs) h x y v d ms (inr i) =
    let o = empty_first (flat_map own_failures (block_part b s).mentions) (flat_map (flat_map own_failures) (domain_mentions (block_part b s).scope bs)) h in
    let c = (block_declares t ns k b).counts s o in
    domains_entries t ns (suc k) (block_part b s).scope bs (empty_second (flat_map own_failures (block_part b s).mentions) (flat_map (flat_map own_failures) (domain_mentions (block_part b s).scope bs)) h)
    (stands_second (declared_block k b).signals (declared_domains (suc k) bs).signals t.signals s.counts.signals (block_part b s).scope.counts.signals c.signals x)
    (stands_second (declared_block k b).variables (declared_domains (suc k) bs).variables t.variables s.counts.variables (block_part b s).scope.counts.variables c.variables y)
    (subst (AllNamed (PortEntry t ns)) (sym (block_same t ns k b s)) v) d ms i

own_of : (domains : List (List Mention)) (k d : ℕ) (ms : List Mention) → flat_map (flat_map own_failures) domains ≡ [] → Stands k d ms domains → flat_map own_failures ms ≡ []
own_of [] k d ms h s = absurd s
own_of (x ∷ xs) k d ms h (inl (e, f)) = ap (flat_map own_failures) f ∙ empty_first (flat_map own_failures x) (flat_map (flat_map own_failures) xs) h
own_of (x ∷ xs) k d ms h (inr s) = own_of xs (suc k) d ms (empty_second (flat_map own_failures x) (flat_map (flat_map own_failures) xs) h) s

are_sound_all : (t : Tables) (k : ℕ) (domains : List (List Mention)) → ((d : ℕ) (ms : List Mention) → Stands k d ms domains → list_all (is_sound t d) ms ≡ true) → are_sound t k domains ≡ true
are_sound_all t k [] h = refl
are_sound_all t k (x ∷ xs) h = pair_true (list_all (is_sound t k) x) (are_sound t (suc k) xs) (h k x (inl (refl, refl))) (are_sound_all t (suc k) xs (λ d ms s. h d ms (inr s)))

-- a tree has none of these failures
pub record HasNoFailure (names : TreeMentions) : Type 0 where
  pub ports : flat_map own_failures names.ports ≡ []
  pub domains : flat_map (flat_map own_failures) names.domains ≡ []
  pub shared : shared_failures [] names.domains ≡ []
  pub ends : end_failures [] names.domains ≡ []
  pub unjoined : unjoined_failures names.domains 0 (places_of is_channel names.ports) ≡ []
  pub many_domains : too_many most_domains names.places ≡ []
  pub many_channels : too_many most_channels (places_of is_channel names.ports) ≡ []
  pub limits : domain_limit_failures names.domains (places_of is_port_signal names.ports) 0 names.domains ≡ []

parts_empty : (a b c d e f g h : List Failure) → a ++ (b ++ (c ++ (d ++ (e ++ (f ++ (g ++ h)))))) ≡ [] → (a ≡ []) × (b ≡ []) × (c ≡ []) × (d ≡ []) × (e ≡ []) × (f ≡ []) × (g ≡ []) × (h ≡ [])
parts_empty a b c d e f g h x =
    let r1 = empty_second a (b ++ (c ++ (d ++ (e ++ (f ++ (g ++ h)))))) x in
    let r2 = empty_second b (c ++ (d ++ (e ++ (f ++ (g ++ h))))) r1 in
    let r3 = empty_second c (d ++ (e ++ (f ++ (g ++ h)))) r2 in
    let r4 = empty_second d (e ++ (f ++ (g ++ h))) r3 in
    let r5 = empty_second e (f ++ (g ++ h)) r4 in
    let r6 = empty_second f (g ++ h) r5 in (
      empty_first a (b ++ (c ++ (d ++ (e ++ (f ++ (g ++ h)))))) x,
      empty_first b (c ++ (d ++ (e ++ (f ++ (g ++ h))))) r1,
      empty_first c (d ++ (e ++ (f ++ (g ++ h)))) r2,
      empty_first d (e ++ (f ++ (g ++ h))) r3,
      empty_first e (f ++ (g ++ h)) r4,
      empty_first f (g ++ h) r5,
      empty_first g h r6,
      empty_second g h r6,
    )

pub no_failure : (names : TreeMentions) → failures_of names ≡ [] → HasNoFailure names
no_failure names h =
    let p = parts_empty (flat_map own_failures names.ports) (flat_map (flat_map own_failures) names.domains) (shared_failures [] names.domains) (end_failures [] names.domains) (unjoined_failures names.domains 0 (places_of is_channel names.ports))
    (too_many most_domains names.places) (too_many most_channels (places_of is_channel names.ports)) (domain_limit_failures names.domains (places_of is_port_signal names.ports) 0 names.domains) h in
    record { ports = p.0; domains = p.1; shared = p.2; ends = p.3; unjoined = p.4; many_domains = p.5; many_channels = p.6; limits = p.7 }

pub ports_of_tree : (tree : SourceTree) → failures_of (names_of_tree tree) ≡ [] → PortsFit (tables_of_tree tree) (names_of_tree tree).domains no_names 0 0 tree.ports (interface_names tree)
ports_of_tree tree h =
    ports_fit (tables_of_tree tree) (names_of_tree tree).domains no_names 0 0 tree.ports (no_failure (names_of_tree tree) h).ports refl refl (record { behind = (declared_domains 0 tree.domains).signals; is = refl })
    (record { behind = []; is = sym (append-nil (port_channels (names_of_tree tree).domains 0 tree.ports)) }) tt

-- what the domains declare stands behind what the interface does
pub locals_stand : (tree : SourceTree) → failures_of (names_of_tree tree) ≡ [] → StandsAt (declared_domains 0 tree.domains).signals (tables_of_tree tree).signals (interface_names tree).scope.counts.signals
locals_stand tree h =
    stands_second (port_signals (names_of_tree tree).domains 0 tree.ports) (declared_domains 0 tree.domains).signals (tables_of_tree tree).signals 0 (interface_names tree).scope.counts.signals (ports_of_tree tree h).signals
    (record { behind = []; is = sym (append-nil (tables_of_tree tree).signals) })

pub variables_stand : (tree : SourceTree) → failures_of (names_of_tree tree) ≡ [] → StandsAt (declared_domains 0 tree.domains).variables (tables_of_tree tree).variables (interface_names tree).scope.counts.variables
variables_stand tree h = subst (StandsAt (declared_domains 0 tree.domains).variables (tables_of_tree tree).variables) (sym (ports_of_tree tree h).variables) (record { behind = []; is = sym (append-nil (declared_domains 0 tree.domains).variables) })

pub names_sound : (tree : SourceTree) → failures_of (names_of_tree tree) ≡ [] → are_sound (tables_of_tree tree) 0 (names_of_tree tree).domains ≡ true
names_sound tree h = are_sound_all (tables_of_tree tree) 0 (names_of_tree tree).domains (λ d ms s. all_names (is_sound (tables_of_tree tree) d) ms (λ m i. each d ms m s i))
  where
    none : HasNoFailure (names_of_tree tree)
    none = no_failure (names_of_tree tree) h

    each : (d : ℕ) (ms : List Mention) (m : Mention) → Stands 0 d ms (names_of_tree tree).domains → IsIn m ms → is_sound (tables_of_tree tree) d m ≡ true
    each d ms m s i =
        let e = domains_entries (tables_of_tree tree) (names_of_tree tree).domains 0 (interface_names tree).scope tree.domains none.domains (locals_stand tree h) (variables_stand tree h) (ports_of_tree tree h).visible d ms s in
        let o = end_owner (names_of_tree tree).domains d ms m none.ends s i in
        name_sound (tables_of_tree tree) (names_of_tree tree).domains d m (nothing_of own_failures ms m (own_of (names_of_tree tree).domains 0 d ms none.domains s) i) (e.each m i)
        (record { signal = λ n u. signal_owner (names_of_tree tree).domains d n ms m none.shared s i u; sends = o.sends; receives = o.receives })

-- the entries of the tables

pub domains_count : (s : Scope) (bs : List SourceBlock) → length (domain_mentions s bs) ≡ length bs
domains_count s [] = refl
domains_count s (b ∷ bs) = ap suc (domains_count (block_part b s).scope bs)

below : (a b : ℕ) → a < b → nat_lt a b ≡ true
below a b h = grind (arith, nat_tests)

other : (a b : ℕ) → (a ≡ b → ⊥) → not (a == b) ≡ true
other a b h = by (a == b) refl
  where
    same : (a == b) ≡ true → a ≡ b
    same x = grind (arith, nat_tests)

    by : (c : Bool) → (a == b) ≡ c → not (a == b) ≡ true
    by true x = absurd (h (same x))
    by false x = ap not x

some_value : (m n : ℕ) (a b : Option ℕ) → a ≡ Some m → b ≡ Some n → unwrap_or a 0 ≡ unwrap_or b 0 → m ≡ n
some_value m n a b x y e = sym (ap (λ o. unwrap_or o 0) x) ∙ e ∙ ap (λ o. unwrap_or o 0) y

fewer : (a b : ℕ) → suc a ≡ suc b → a ≡ b
fewer a b e = omega arith

both_first : (a b : Bool) → (a && b) ≡ true → a ≡ true
both_first true b h = refl
both_first false b h = absurd (cc)

both_second : (a b : Bool) → (a && b) ≡ true → b ≡ true
both_second true b h = h
both_second false b h = absurd (cc)

no_tables : Tables
no_tables = record { signals = []; channels = []; variables = [] }

channel_entered : (ns : List (List Mention)) (c : ℕ) → end_failures [] ns ≡ [] → 1 ≤ length ns → list_any (uses way.SendingEnd c) ns ≡ true → list_any (uses way.ReceivingEnd c) ns ≡ true
    → (nat_lt (first_domain ns way.SendingEnd c) (length ns) && (nat_lt (first_domain ns way.ReceivingEnd c) (length ns) && not (first_domain ns way.SendingEnd c == first_domain ns way.ReceivingEnd c))) ≡ true
channel_entered ns c h s a b =
    let w = two_ends ns c h a b in
    pair_true (nat_lt (first_domain ns way.SendingEnd c) (length ns)) (nat_lt (first_domain ns way.ReceivingEnd c) (length ns) && not (first_domain ns way.SendingEnd c == first_domain ns way.ReceivingEnd c)) (below (first_domain ns way.SendingEnd c) (length ns) (first_below (uses way.SendingEnd c) ns s))
    (pair_true (nat_lt (first_domain ns way.ReceivingEnd c) (length ns)) (not (first_domain ns way.SendingEnd c == first_domain ns way.ReceivingEnd c)) (below (first_domain ns way.ReceivingEnd c) (length ns) (first_below (uses way.ReceivingEnd c) ns s))
    (other (first_domain ns way.SendingEnd c) (first_domain ns way.ReceivingEnd c) (λ x. w.apart (some_value w.sender w.receiver (first_with (uses way.SendingEnd c) 0 ns) (first_with (uses way.ReceivingEnd c) 0 ns) w.sends w.receives x))))

channels_entered : (ns : List (List Mention)) (c : ℕ) (ps : List (Port Name)) (places : List ℕ) → end_failures [] ns ≡ [] → 1 ≤ length ns → length places ≡ length (port_channels ns c ps) → AreJoined ns c places → list_all (is_channel_entry (length ns)) (port_channels ns c ps) ≡ true
channels_entered ns c [] places h s e j = refl
channels_entered ns c (port.Signal p ∷ ps) places h s e j = channels_entered ns c ps places h s e j
channels_entered ns c (port.Channel p ∷ ps) [] h s e j = absurd (cc)
channels_entered ns c (port.Channel p ∷ ps) (at ∷ places) h s e j =
    pair_true (is_channel_entry (length ns) (record { name = p.name.text; kind = p.kind; sender = first_domain ns way.SendingEnd c; receiver = first_domain ns way.ReceivingEnd c })) (list_all (is_channel_entry (length ns)) (port_channels ns (suc c) ps))
    (channel_entered ns c h s j.0.0 j.0.1) (channels_entered ns (suc c) ps places h s (fewer (length places) (length (port_channels ns (suc c) ps)) e) j.1)

-- interface signals, and then local ones

first_signals : (ns : List (List Mention)) (n : ℕ) (ps : List (Port Name)) → 1 ≤ length ns → list_all (has_domain (length ns)) (port_signals ns n ps) ≡ true
first_signals ns n [] s = refl
first_signals ns n (port.Signal p ∷ ps) s =
    pair_true (nat_lt (first_domain ns way.PortSignal n) (length ns)) (list_all (has_domain (length ns)) (port_signals ns (suc n) ps)) (below (first_domain ns way.PortSignal n) (length ns) (first_below (uses way.PortSignal n) ns s)) (first_signals ns (suc n) ps s)
first_signals ns n (port.Channel c ∷ ps) s = first_signals ns n ps s

weaker : {X : Type 0} (p q : X → Bool) → ((x : X) → p x ≡ true → q x ≡ true) → (xs : List X) → list_all p xs ≡ true → list_all q xs ≡ true
weaker p q f [] h = refl
weaker p q f (x ∷ xs) h = pair_true (q x) (list_all q xs) (f x (both_first (p x) (list_all p xs) h)) (weaker p q f xs (both_second (p x) (list_all p xs) h))

same_number : (a b : ℕ) → (a == b) ≡ true → a ≡ b
same_number a b h = grind (arith, nat_tests)

is_below : (a k n : ℕ) → (a == k) ≡ true → k < n → nat_lt a n ≡ true
is_below a k n h l = grind (arith, nat_tests)

declared_signals : (k most : ℕ) (bs : List SourceBlock) → k + length bs ≤ most → list_all (λ (i : SignalInfo). is_local i.sort && nat_lt i.domain most) (declared_domains k bs).signals ≡ true
declared_signals k most [] l = refl
declared_signals k most (b ∷ bs) l =
    list_all-append (λ (i : SignalInfo). is_local i.sort && nat_lt i.domain most) (declared_block k b).signals (declared_domains (suc k) bs).signals
    ∙ pair_true (list_all (λ (i : SignalInfo). is_local i.sort && nat_lt i.domain most) (declared_block k b).signals) (list_all (λ (i : SignalInfo). is_local i.sort && nat_lt i.domain most) (declared_domains (suc k) bs).signals)
    (weaker (is_own_signal k) (λ (i : SignalInfo). is_local i.sort && nat_lt i.domain most)
    (λ i h. pair_true (is_local i.sort) (nat_lt i.domain most) (both_first (is_local i.sort) (i.domain == k) h) (is_below i.domain k most (both_second (is_local i.sort) (i.domain == k) h) (omega arith)))
    (declared_block k b).signals (block_declares no_tables [] k b).locals)
    (declared_signals (suc k) most bs (omega arith))

declared_variables : (k most : ℕ) (bs : List SourceBlock) → k + length bs ≤ most → list_all (is_variable_entry most) (declared_domains k bs).variables ≡ true
declared_variables k most [] l = refl
declared_variables k most (b ∷ bs) l =
    list_all-append (is_variable_entry most) (declared_block k b).variables (declared_domains (suc k) bs).variables
    ∙ pair_true (list_all (is_variable_entry most) (declared_block k b).variables) (list_all (is_variable_entry most) (declared_domains (suc k) bs).variables)
    (weaker (is_own_variable k) (is_variable_entry most) (λ i h. is_below i.domain k most h (omega arith)) (declared_block k b).variables (block_declares no_tables [] k b).variables) (declared_variables (suc k) most bs (omega arith))

is_no_local : (d : Direction) → is_local (sort_of d) ≡ false
is_no_local direction.Input = refl
is_no_local direction.Output = refl

locals_last : (locals : List SignalInfo) → list_all (λ (i : SignalInfo). is_local i.sort) locals ≡ true → interface_comes_first locals ≡ true
locals_last [] h = refl
locals_last (i ∷ is) h =
    ap (λ b. cond b (list_all (λ (l : SignalInfo). is_local l.sort) is) (interface_comes_first is)) (both_first (is_local i.sort) (list_all (λ (l : SignalInfo). is_local l.sort) is) h) ∙ both_second (is_local i.sort) (list_all (λ (l : SignalInfo). is_local l.sort) is) h

ports_come_first : (ns : List (List Mention)) (n : ℕ) (ps : List (Port Name)) (locals : List SignalInfo) → list_all (λ (i : SignalInfo). is_local i.sort) locals ≡ true → interface_comes_first (port_signals ns n ps ++ locals) ≡ true
ports_come_first ns n [] locals h = locals_last locals h
ports_come_first ns n (port.Signal p ∷ ps) locals h =
    ap (λ b. cond b (list_all (λ (l : SignalInfo). is_local l.sort) (port_signals ns (suc n) ps ++ locals)) (interface_comes_first (port_signals ns (suc n) ps ++ locals))) (is_no_local p.direction) ∙ ports_come_first ns (suc n) ps locals h
ports_come_first ns n (port.Channel c ∷ ps) locals h = ports_come_first ns n ps locals h

-- of a whole tree

some_names : (tree : SourceTree) → 1 ≤ length tree.domains → 1 ≤ length (names_of_tree tree).domains
some_names tree s = let e = domains_count (interface_names tree).scope tree.domains in omega arith

locals_of_tree : (tree : SourceTree) → list_all (λ (i : SignalInfo). is_local i.sort && nat_lt i.domain (length tree.domains)) (declared_domains 0 tree.domains).signals ≡ true
locals_of_tree tree = declared_signals 0 (length tree.domains) tree.domains (omega arith)

pub signals_have_domains : (tree : SourceTree) → 1 ≤ length tree.domains → list_all (has_domain (length tree.domains)) (tables_of_tree tree).signals ≡ true
signals_have_domains tree s =
    list_all-append (has_domain (length tree.domains)) (port_signals (names_of_tree tree).domains 0 tree.ports) (declared_domains 0 tree.domains).signals
    ∙ pair_true (list_all (has_domain (length tree.domains)) (port_signals (names_of_tree tree).domains 0 tree.ports)) (list_all (has_domain (length tree.domains)) (declared_domains 0 tree.domains).signals)
    (subst (λ n. list_all (has_domain n) (port_signals (names_of_tree tree).domains 0 tree.ports) ≡ true) (domains_count (interface_names tree).scope tree.domains) (first_signals (names_of_tree tree).domains 0 tree.ports (some_names tree s)))
    (weaker (λ (i : SignalInfo). is_local i.sort && nat_lt i.domain (length tree.domains)) (has_domain (length tree.domains)) (λ i h. both_second (is_local i.sort) (nat_lt i.domain (length tree.domains)) h) (declared_domains 0 tree.domains).signals (locals_of_tree tree))

pub interface_first : (tree : SourceTree) → interface_comes_first (tables_of_tree tree).signals ≡ true
interface_first tree =
    ports_come_first (names_of_tree tree).domains 0 tree.ports (declared_domains 0 tree.domains).signals
    (weaker (λ (i : SignalInfo). is_local i.sort && nat_lt i.domain (length tree.domains)) (λ (i : SignalInfo). is_local i.sort) (λ i h. both_first (is_local i.sort) (nat_lt i.domain (length tree.domains)) h) (declared_domains 0 tree.domains).signals (locals_of_tree tree))

pub variables_have_domains : (tree : SourceTree) → list_all (is_variable_entry (length tree.domains)) (tables_of_tree tree).variables ≡ true
variables_have_domains tree = declared_variables 0 (length tree.domains) tree.domains (omega arith)

pub channels_join_domains : (tree : SourceTree) → failures_of (names_of_tree tree) ≡ [] → 1 ≤ length tree.domains → list_all (is_channel_entry (length tree.domains)) (tables_of_tree tree).channels ≡ true
channels_join_domains tree h s =
    let n = no_failure (names_of_tree tree) h in
    subst (λ k. list_all (is_channel_entry k) (tables_of_tree tree).channels ≡ true) (domains_count (interface_names tree).scope tree.domains)
    (channels_entered (names_of_tree tree).domains 0 tree.ports (places_of is_channel (names_of_tree tree).ports) n.ends (some_names tree s) (ports_of_tree tree h).channel_places (joined (names_of_tree tree).domains 0 (places_of is_channel (names_of_tree tree).ports) n.unjoined))

pub all_local : (tree : SourceTree) → list_all (λ (i : SignalInfo). is_local i.sort) (declared_domains 0 tree.domains).signals ≡ true
all_local tree = weaker (λ (i : SignalInfo). is_local i.sort && nat_lt i.domain (length tree.domains)) (λ (i : SignalInfo). is_local i.sort) (λ i h. both_first (is_local i.sort) (nat_lt i.domain (length tree.domains)) h) (declared_domains 0 tree.domains).signals (locals_of_tree tree)
