-- The names of the interface in the tables of a tree without failures.
use Rattle.std.proofs.Common.{◌≡◌, ℕ, suc, Bool, true, false, ◌&&◌, ◌||◌, not, cond, List, [], ◌∷◌, ◌++◌, map, Some, None, ap, refl, sym, ◌∙◌, append_assoc, append-nil}
use Rattle.std.specs.List.{flat_map, list_all, list_any}
use Rattle.std.specs.Str.{bytes_eq}
use Rattle.std.proofs.lemmas.List.{map-append}
use Rattle.std.proofs.lemmas.Slice.Eq.{bytes_eq-Decides}
use Rattle.java_values.specs.Names.{is_name, is_channel_name, is_place, before_dot, after_dot, are_distinct}
use Rattle.kernel_terms.specs.declared.tables.SignalInfo.{SignalInfo}
use Rattle.kernel_terms.specs.TableEntries.{is_local}
use Rattle.kernel_terms.specs.WellFormed.{interface_names, channel_names, has_names}
use Rattle.sj_ast.specs.declared.name.Name.{Name}
use Rattle.sj_ast.specs.declared.expression.Raw.{Raw}
use Rattle.sj_ast.specs.declared.port.Port.{Port}
use Rattle.sj_ast.specs.declared.port.Port.TheVariants as port
use Rattle.sj_ast.specs.declared.port.Direction.{Direction}
use Rattle.sj_ast.specs.declared.port.Direction.TheVariants as direction
use Rattle.sj_ast.specs.declared.statement.Tree.{Tree}
use Rattle.sj_names.specs.declared.mention.NameSort.{NameSort}
use Rattle.sj_names.specs.declared.mention.NameSort.TheVariants as sort
use Rattle.sj_names.specs.declared.mention.Role.TheVariants as role
use Rattle.sj_names.specs.declared.mention.Mention.{Mention}
use Rattle.sj_names.specs.definitions.Scopes.{Named, Scope, no_names, meaning_in, declare, declared_where, count_of}
use Rattle.sj_names.specs.definitions.Mentions.{mention, in_order, signal_sort, port_part, names_of_tree}
use Rattle.sj_names.specs.definitions.Failures.{own_failures, failures_of}
use Rattle.sj_names.specs.definitions.DeclaredTables.{sort_of, port_signals, port_channels, declared_domains, tables_of_tree}
use Rattle.sj_names.specs.definitions.SoundTables.{port_name}
use Rattle.sj_names.proofs.ListedNames.{empty_second}
use Rattle.sj_names.proofs.PartEntries.{not_visible, pair_true}
use Rattle.sj_names.proofs.SoundLemmas.{no_failure, all_local}

-- the names of the signals, and of the channels

abbrev signals_in : List (Port Name) → List (List ℕ)
signals_in [] = []
signals_in (port.Signal p ∷ ps) = p.signal.name.text ∷ signals_in ps
signals_in (port.Channel c ∷ ps) = signals_in ps

abbrev channels_in : List (Port Name) → List (List ℕ)
channels_in [] = []
channels_in (port.Signal p ∷ ps) = channels_in ps
channels_in (port.Channel c ∷ ps) = c.name.text ∷ channels_in ps

is_no_local : (d : Direction) → is_local (sort_of d) ≡ false
is_no_local direction.Input = refl
is_no_local direction.Output = refl

first_true : (a b : Bool) → (a && b) ≡ true → a ≡ true
first_true true b h = refl
first_true false b h = absurd (cc)

second_true : (a b : Bool) → (a && b) ≡ true → b ≡ true
second_true true b h = h
second_true false b h = absurd (cc)

no_interface : (locals : List SignalInfo) → list_all (λ (i : SignalInfo). is_local i.sort) locals ≡ true → interface_names locals ≡ []
no_interface [] h = refl
no_interface (i ∷ is) h =
    ap (λ b. cond b (interface_names is) (i.name ∷ interface_names is)) (first_true (is_local i.sort) (list_all (λ (l : SignalInfo). is_local l.sort) is) h) ∙ no_interface is (second_true (is_local i.sort) (list_all (λ (l : SignalInfo). is_local l.sort) is) h)

interface_is : (ns : List (List Mention)) (n : ℕ) (ps : List (Port Name)) (locals : List SignalInfo) → list_all (λ (i : SignalInfo). is_local i.sort) locals ≡ true → interface_names (port_signals ns n ps ++ locals) ≡ signals_in ps
interface_is ns n [] locals h = no_interface locals h
interface_is ns n (port.Signal p ∷ ps) locals h =
    ap (λ b. cond b (interface_names (port_signals ns (suc n) ps ++ locals)) (p.signal.name.text ∷ interface_names (port_signals ns (suc n) ps ++ locals))) (is_no_local p.direction) ∙ ap (λ l. p.signal.name.text ∷ l) (interface_is ns (suc n) ps locals h)
interface_is ns n (port.Channel c ∷ ps) locals h = interface_is ns n ps locals h

channels_are : (ns : List (List Mention)) (c : ℕ) (ps : List (Port Name)) → map (λ i. i.name) (port_channels ns c ps) ≡ channels_in ps
channels_are ns c [] = refl
channels_are ns c (port.Signal p ∷ ps) = channels_are ns c ps
channels_are ns c (port.Channel p ∷ ps) = ap (λ l. p.name.text ∷ l) (channels_are ns (suc c) ps)

-- they are names

signals_named : (ps : List (Port Name)) → list_all is_name (map port_name ps) ≡ true → list_all is_name (signals_in ps) ≡ true
signals_named [] h = refl
signals_named (port.Signal p ∷ ps) h =
    pair_true (is_name p.signal.name.text) (list_all is_name (signals_in ps)) (first_true (is_name p.signal.name.text) (list_all is_name (map port_name ps)) h) (signals_named ps (second_true (is_name p.signal.name.text) (list_all is_name (map port_name ps)) h))
signals_named (port.Channel c ∷ ps) h = signals_named ps (second_true (is_name c.name.text) (list_all is_name (map port_name ps)) h)

channel_named : (w : List ℕ) → is_name w ≡ true → is_channel_name w ≡ true
channel_named w h = ap (λ b. b || (is_name (before_dot w) && is_place (after_dot w))) h

channels_named : (ps : List (Port Name)) → list_all is_name (map port_name ps) ≡ true → list_all is_channel_name (channels_in ps) ≡ true
channels_named [] h = refl
channels_named (port.Signal p ∷ ps) h = channels_named ps (second_true (is_name p.signal.name.text) (list_all is_name (map port_name ps)) h)
channels_named (port.Channel c ∷ ps) h =
    pair_true (is_channel_name c.name.text) (list_all is_channel_name (channels_in ps)) (channel_named c.name.text (first_true (is_name c.name.text) (list_all is_name (map port_name ps)) h)) (channels_named ps (second_true (is_name c.name.text) (list_all is_name (map port_name ps)) h))

-- distinct names

same_bool : (x y : Bool) → (x ≡ true → y ≡ true) → (y ≡ true → x ≡ true) → x ≡ y
same_bool true y f g = sym (f refl)
same_bool false true f g = g refl
same_bool false false f g = refl

bytes_swap : (a b : List ℕ) → bytes_eq a b ≡ bytes_eq b a
bytes_swap a b = same_bool (bytes_eq a b) (bytes_eq b a) (λ h. (bytes_eq-Decides b a).1 (sym ((bytes_eq-Decides a b).0 h))) (λ h. (bytes_eq-Decides a b).1 (sym ((bytes_eq-Decides b a).0 h)))

or_no_first : (a b : Bool) → (a || b) ≡ false → a ≡ false
or_no_first false b h = refl
or_no_first true b h = absurd (cc)

or_no_second : (a b : Bool) → (a || b) ≡ false → b ≡ false
or_no_second false b h = h
or_no_second true b h = absurd (cc)

or_none : (a b : Bool) → a ≡ false → b ≡ false → (a || b) ≡ false
or_none false false h k = refl
or_none false true h k = absurd (cc)
or_none true b h k = absurd (cc)

not_true : (a : Bool) → not a ≡ true → a ≡ false
not_true false h = refl
not_true true h = absurd (cc)

none_inserted : (p : List ℕ → Bool) (xs ys : List (List ℕ)) (x : List ℕ) → list_any p (xs ++ ys) ≡ false → p x ≡ false → list_any p (xs ++ x ∷ ys) ≡ false
none_inserted p [] ys x h k = or_none (p x) (list_any p ys) k h
none_inserted p (z ∷ zs) ys x h k = or_none (p z) (list_any p (zs ++ x ∷ ys)) (or_no_first (p z) (list_any p (zs ++ ys)) h) (none_inserted p zs ys x (or_no_second (p z) (list_any p (zs ++ ys)) h) k)

inserted : (xs ys : List (List ℕ)) (x : List ℕ) → are_distinct (xs ++ ys) ≡ true → list_any (bytes_eq x) (xs ++ ys) ≡ false → are_distinct (xs ++ x ∷ ys) ≡ true
inserted [] ys x d h = pair_true (not (list_any (bytes_eq x) ys)) (are_distinct ys) (ap not h) d
inserted (z ∷ zs) ys x d h =
    pair_true (not (list_any (bytes_eq z) (zs ++ x ∷ ys))) (are_distinct (zs ++ x ∷ ys))
    (ap not (none_inserted (bytes_eq z) zs ys x (not_true (list_any (bytes_eq z) (zs ++ ys)) (first_true (not (list_any (bytes_eq z) (zs ++ ys))) (are_distinct (zs ++ ys)) d)) (bytes_swap z x ∙ or_no_first (bytes_eq x z) (list_any (bytes_eq x) (zs ++ ys)) h)))
    (inserted zs ys x (second_true (not (list_any (bytes_eq z) (zs ++ ys))) (are_distinct (zs ++ ys)) d) (or_no_second (bytes_eq x z) (list_any (bytes_eq x) (zs ++ ys)) h))

none_parted : (p : List ℕ → Bool) (ps : List (Port Name)) → list_any p (map port_name ps) ≡ false → list_any p (signals_in ps ++ channels_in ps) ≡ false
none_parted p [] h = refl
none_parted p (port.Signal s ∷ ps) h =
    or_none (p s.signal.name.text) (list_any p (signals_in ps ++ channels_in ps)) (or_no_first (p s.signal.name.text) (list_any p (map port_name ps)) h) (none_parted p ps (or_no_second (p s.signal.name.text) (list_any p (map port_name ps)) h))
none_parted p (port.Channel c ∷ ps) h =
    none_inserted p (signals_in ps) (channels_in ps) c.name.text (none_parted p ps (or_no_second (p c.name.text) (list_any p (map port_name ps)) h)) (or_no_first (p c.name.text) (list_any p (map port_name ps)) h)

parted : (ps : List (Port Name)) → are_distinct (map port_name ps) ≡ true → are_distinct (signals_in ps ++ channels_in ps) ≡ true
parted [] h = refl
parted (port.Signal s ∷ ps) h =
    pair_true (not (list_any (bytes_eq s.signal.name.text) (signals_in ps ++ channels_in ps))) (are_distinct (signals_in ps ++ channels_in ps))
    (ap not (none_parted (bytes_eq s.signal.name.text) ps (not_true (list_any (bytes_eq s.signal.name.text) (map port_name ps)) (first_true (not (list_any (bytes_eq s.signal.name.text) (map port_name ps))) (are_distinct (map port_name ps)) h))))
    (parted ps (second_true (not (list_any (bytes_eq s.signal.name.text) (map port_name ps))) (are_distinct (map port_name ps)) h))
parted (port.Channel c ∷ ps) h =
    inserted (signals_in ps) (channels_in ps) c.name.text (parted ps (second_true (not (list_any (bytes_eq c.name.text) (map port_name ps))) (are_distinct (map port_name ps)) h))
    (none_parted (bytes_eq c.name.text) ps (not_true (list_any (bytes_eq c.name.text) (map port_name ps)) (first_true (not (list_any (bytes_eq c.name.text) (map port_name ps))) (are_distinct (map port_name ps)) h)))

abbrev visible_in : List Named → List (List ℕ)
visible_in = map (λ v. v.name)

unseen : (vs : List Named) (name : List ℕ) → meaning_in vs name ≡ None → list_any (bytes_eq name) (visible_in vs) ≡ false
unseen [] name h = refl
unseen (v ∷ vs) name h = split (bytes_eq name v.name) h (λ g. unseen vs name g)
  where
    split : (b : Bool) → cond b (Some v.meaning) (meaning_in vs name) ≡ None → (meaning_in vs name ≡ None → list_any (bytes_eq name) (visible_in vs) ≡ false) → (b || list_any (bytes_eq name) (visible_in vs)) ≡ false
    split true g f = absurd (cc)
    split false g f = f g

visible_new : (s : NameSort) (name : List ℕ) (c : Scope) → meaning_in c.visible name ≡ None → visible_in (declare s name c).visible ≡ visible_in c.visible ++ name ∷ []
visible_new s name c e =
    ap (λ o. visible_in (declared_where o s name c).visible) e ∙ map-append (λ (v : Named). v.name) c.visible (record { name = name; meaning = record { sort = s; number = count_of s c.counts } } ∷ [])

distinct_new : (s : NameSort) (name : List ℕ) (c : Scope) → meaning_in c.visible name ≡ None → are_distinct (visible_in c.visible) ≡ true → are_distinct (visible_in (declare s name c).visible) ≡ true
distinct_new s name c e d =
    ap are_distinct (visible_new s name c e)
    ∙ inserted (visible_in c.visible) [] name (ap are_distinct (append-nil (visible_in c.visible)) ∙ d) (ap (list_any (bytes_eq name)) (append-nil (visible_in c.visible)) ∙ unseen c.visible name e)

ports_apart : (s : Scope) (ps : List (Port Name)) → flat_map own_failures (in_order (map port_part ps) s).mentions ≡ [] → are_distinct (visible_in s.visible) ≡ true → are_distinct (visible_in s.visible ++ map port_name ps) ≡ true
ports_apart s [] h d = ap are_distinct (append-nil (visible_in s.visible)) ∙ d
ports_apart s (port.Signal p ∷ ps) h d =
    let w = declare (signal_sort p.direction) p.signal.name.text s in
    let rest = (in_order (map port_part ps) w).mentions in
    let fresh = not_visible (signal_sort p.direction) p.signal.name s rest h in
    ap are_distinct (sym (append_assoc (visible_in s.visible) (p.signal.name.text ∷ []) (map port_name ps)) ∙ ap (λ l. l ++ map port_name ps) (sym (visible_new (signal_sort p.direction) p.signal.name.text s fresh)))
    ∙ ports_apart w ps (empty_second (own_failures (mention (role.Declare (signal_sort p.direction)) p.signal.name s)) (flat_map own_failures rest) h) (distinct_new (signal_sort p.direction) p.signal.name.text s fresh d)
ports_apart s (port.Channel c ∷ ps) h d =
    let w = declare sort.Channel c.name.text s in
    let rest = (in_order (map port_part ps) w).mentions in
    let fresh = not_visible sort.Channel c.name s rest h in
    ap are_distinct (sym (append_assoc (visible_in s.visible) (c.name.text ∷ []) (map port_name ps)) ∙ ap (λ l. l ++ map port_name ps) (sym (visible_new sort.Channel c.name.text s fresh)))
    ∙ ports_apart w ps (empty_second (own_failures (mention (role.Declare sort.Channel) c.name s)) (flat_map own_failures rest) h) (distinct_new sort.Channel c.name.text s fresh d)

pub names_of_tables : (tree : Tree Name (Raw Name)) → failures_of (names_of_tree tree) ≡ [] → list_all is_name (map port_name tree.ports) ≡ true → has_names (tables_of_tree tree) ≡ true
names_of_tables tree h n =
    let i = interface_is (names_of_tree tree).domains 0 tree.ports (declared_domains 0 tree.domains).signals (all_local tree) in
    let c = channels_are (names_of_tree tree).domains 0 tree.ports in
    pair_true (list_all is_name (interface_names (tables_of_tree tree).signals)) (list_all is_channel_name (channel_names (tables_of_tree tree)) && are_distinct (interface_names (tables_of_tree tree).signals ++ channel_names (tables_of_tree tree)))
    (ap (list_all is_name) i ∙ signals_named tree.ports n)
    (pair_true (list_all is_channel_name (channel_names (tables_of_tree tree))) (are_distinct (interface_names (tables_of_tree tree).signals ++ channel_names (tables_of_tree tree))) (ap (list_all is_channel_name) c ∙ channels_named tree.ports n)
    (ap (λ l. are_distinct (l ++ channel_names (tables_of_tree tree))) i ∙ ap (λ l. are_distinct (signals_in tree.ports ++ l)) c ∙ parted tree.ports (ports_apart no_names tree.ports (no_failure (names_of_tree tree) h).ports refl)))
