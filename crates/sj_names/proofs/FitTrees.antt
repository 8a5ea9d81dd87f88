-- The numbers of a tree may be used where they stand.
use Rattle.std.proofs.Common.{◌≡◌, ℕ, suc, true, List, [], ◌∷◌, map, refl, sym, subst}
use Rattle.std.specs.List.{flat_map, list_all}
use Rattle.kernel_terms.specs.declared.tables.Tables.{Tables}
use Rattle.sj_ast.specs.declared.name.Name.{Name}
use Rattle.sj_ast.specs.declared.expression.Raw.{Raw}
use Rattle.sj_ast.specs.declared.port.Port.{Port}
use Rattle.sj_ast.specs.declared.port.Port.TheVariants as port
use Rattle.sj_ast.specs.declared.statement.Tree.{Tree}
use Rattle.sj_names.specs.declared.mention.NameSort.{NameSort}
use Rattle.sj_names.specs.declared.mention.NameSort.TheVariants as sort
use Rattle.sj_names.specs.declared.mention.Mention.{Mention}
use Rattle.sj_names.specs.definitions.Scopes.{Scope, no_names}
use Rattle.sj_names.specs.definitions.Mentions.{in_order, port_part, block_part, domain_mentions, interface_names, names_of_tree}
use Rattle.sj_names.specs.definitions.Failures.{own_failures, failures_of}
use Rattle.sj_names.specs.definitions.DeclaredTables.{declared_block, declared_domains, tables_of_tree}
use Rattle.sj_names.specs.definitions.SoundTables.{is_sound, are_sound}
use Rattle.sj_names.specs.definitions.NumberedTrees.{blocks_in_order, numbered_block, numbered_ports, numbered_tree}
use Rattle.sj_names.specs.definitions.FittingTrees.{at_start, fit_domains, fits_tree, entry_rules}
use Rattle.sj_names.proofs.ListedNames.{empty_first, empty_second}
use Rattle.sj_names.proofs.EntryLemmas.{PortEntry, AllNamed, all_named}
use Rattle.sj_names.proofs.PartEntries.{StandsAt, stands_first, stands_second, pair_true}
use Rattle.sj_names.proofs.DomainEntries.{SourceBlock, block_declares}
use Rattle.sj_names.proofs.SoundLemmas.{block_same, no_failure, ports_of_tree, locals_stand, variables_stand, names_sound}
use Rattle.sj_names.proofs.FitValues.{StandsAround, first_holds, second_holds}
use Rattle.sj_names.proofs.FitForms.{block_fit, block_numbers_fit}

-- no local signal and no trap is visible where a domain starts
port_around : (t : Tables) (ns : List (List Mention)) (d : ℕ) (s : NameSort) (n : ℕ) → PortEntry t ns s n → StandsAround (at_start d) s n
port_around t ns d sort.Input n h = tt
port_around t ns d sort.Output n h = tt
port_around t ns d sort.Channel n h = tt
port_around t ns d sort.Variable n h = tt
port_around t ns d sort.Local n h = absurd h
port_around t ns d sort.Trap n h = absurd h

domains_fit : (t : Tables) (ns : List (List Mention)) (k : ℕ) (s : Scope) (bs : List SourceBlock) → flat_map (flat_map own_failures) (domain_mentions s bs) ≡ [] → are_sound t k (domain_mentions s bs) ≡ true
    → StandsAt (declared_domains k bs).signals t.signals s.counts.signals → StandsAt (declared_domains k bs).variables t.variables s.counts.variables → AllNamed (PortEntry t ns) s.visible
    → fit_domains t (entry_rules t) k (blocks_in_order (map numbered_block bs) s).value ≡ true
domains_fit t ns k s [] h o x y v = refl
domains_fit t ns k s (b ∷ bs) h o x y v =
    let ms = (block_part b s).mentions in
    let w = (block_part b s).scope in
    let own = empty_first (flat_map own_failures ms) (flat_map (flat_map own_failures) (domain_mentions w bs)) h in
    let c = (block_declares t ns k b).counts s own in
    let f = block_numbers_fit t k b in
    let here = f.fits s (at_start k) (record {
      domain = refl;
      own = own;
      sound = first_holds (list_all (is_sound t k) ms) (are_sound t (suc k) (domain_mentions w bs)) o;
      signals = stands_first (declared_block k b).signals (declared_domains (suc k) bs).signals t.signals s.counts.signals x;
      variables = stands_first (declared_block k b).variables (declared_domains (suc k) bs).variables t.variables s.counts.variables y;
      visible = all_named (PortEntry t ns) (StandsAround (at_start k)) (port_around t ns k) s.visible v;
    }) in
    let rest = domains_fit t ns (suc k) w bs (empty_second (flat_map own_failures ms) (flat_map (flat_map own_failures) (domain_mentions w bs)) h)
    (second_holds (list_all (is_sound t k) ms) (are_sound t (suc k) (domain_mentions w bs)) o)
    (stands_second (declared_block k b).signals (declared_domains (suc k) bs).signals t.signals s.counts.signals w.counts.signals c.signals x)
    (stands_second (declared_block k b).variables (declared_domains (suc k) bs).variables t.variables s.counts.variables w.counts.variables c.variables y)
    (subst (AllNamed (PortEntry t ns)) (sym (block_same t ns k b s)) v) in
    pair_true (block_fit t k (numbered_block b s).value (at_start k)).fits (fit_domains t (entry_rules t) (suc k) (blocks_in_order (map numbered_block bs) (numbered_block b s).scope).value) here
    (subst (λ e. fit_domains t (entry_rules t) (suc k) (blocks_in_order (map numbered_block bs) e).value ≡ true) (sym (f.scope s)) rest)

-- the interface's names are visible behind its ports with their numbers too
pub ports_scope : (ps : List (Port Name)) (s : Scope) → (numbered_ports ps s).scope ≡ (in_order (map port_part ps) s).scope
ports_scope [] s = refl
ports_scope (port.Signal p ∷ ps) s = ports_scope ps (port_part (port.Signal p) s).scope
ports_scope (port.Channel c ∷ ps) s = ports_scope ps (port_part (port.Channel c) s).scope

pub names_fit : (tree : Tree Name (Raw Name)) → failures_of (names_of_tree tree) ≡ [] → fits_tree (tables_of_tree tree) (entry_rules (tables_of_tree tree)) (numbered_tree tree) ≡ true
names_fit tree h =
    subst (λ s. fit_domains (tables_of_tree tree) (entry_rules (tables_of_tree tree)) 0 (blocks_in_order (map numbered_block tree.domains) s).value ≡ true) (sym (ports_scope tree.ports no_names))
    (domains_fit (tables_of_tree tree) (names_of_tree tree).domains 0 (interface_names tree).scope tree.domains (no_failure (names_of_tree tree) h).domains (names_sound tree h) (locals_stand tree h) (variables_stand tree h) (ports_of_tree tree h).visible)
