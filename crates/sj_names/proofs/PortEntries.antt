-- What the ports of a tree declare, in the tables.
use Rattle.std.proofs.Common.{◌≡◌, ℕ, suc, ◌+◌, Bool, true, false, cond, List, [], ◌∷◌, ◌++◌, length, drop, map, None, ap, refl, sym, ◌∙◌, subst, arith}
use Rattle.std.specs.List.{flat_map}
use Rattle.kernel_terms.specs.declared.tables.Tables.{Tables}
use Rattle.kernel_terms.specs.declared.tables.SignalInfo.{SignalInfo}
use Rattle.kernel_terms.specs.declared.tables.ChannelInfo.{ChannelInfo}
use Rattle.kernel_terms.specs.TableEntries.{no_signal, no_channel}
use Rattle.sj_ast.specs.declared.name.Name.{Name}
use Rattle.sj_ast.specs.declared.port.Port.{Port}
use Rattle.sj_ast.specs.declared.port.Port.TheVariants as port
use Rattle.sj_ast.specs.declared.port.Direction.{Direction}
use Rattle.sj_ast.specs.declared.port.Direction.TheVariants as direction
use Rattle.sj_names.specs.declared.mention.NameSort.{NameSort}
use Rattle.sj_names.specs.declared.mention.NameSort.TheVariants as sort
use Rattle.sj_names.specs.declared.mention.Role.TheVariants as role
use Rattle.sj_names.specs.declared.mention.Use.TheVariants as way
use Rattle.sj_names.specs.declared.mention.Mention.{Mention}
use Rattle.sj_names.specs.declared.mention.Counts.{Counts}
use Rattle.sj_names.specs.definitions.Scopes.{Scope, meaning_in, declare, declared_where, count_of, counted, one_signal_more}
use Rattle.sj_names.specs.definitions.Mentions.{Told, mention, in_order, signal_sort, port_part}
use Rattle.sj_names.specs.definitions.Failures.{is_port_signal, is_channel, is_new, places_of, own_failures, first_domain}
use Rattle.sj_names.specs.definitions.DeclaredTables.{sort_of, signal_info, port_signals, port_channels}
use Rattle.sj_names.proofs.ListedNames.{empty_second}
use Rattle.sj_names.proofs.EntryLemmas.{SignalEntry, ChannelEntry, PortEntry, AllNamed, one_named_more}
use Rattle.sj_names.proofs.PartEntries.{StandsAt, stands_second, entry_there, not_visible}

-- behind the ports, which are counted from these numbers on
pub record PortsFit (t : Tables) (ns : List (List Mention)) (s : Scope) (n c : ℕ) (ps : List (Port Name)) (u : Told) : Type 0 where
  pub visible : AllNamed (PortEntry t ns) u.scope.visible
  pub signals : u.scope.counts.signals ≡ n + length (port_signals ns n ps)
  pub variables : u.scope.counts.variables ≡ s.counts.variables
  pub signal_places : length (places_of is_port_signal u.mentions) ≡ length (port_signals ns n ps)
  pub channel_places : length (places_of is_channel u.mentions) ≡ length (port_channels ns c ps)

zero_more : (n : ℕ) → n ≡ n + 0
zero_more n = omega arith

step_more : (n m : ℕ) → suc n + m ≡ n + suc m
step_more n m = omega arith

pub one_step : (n m : ℕ) → n ≡ m → n + 1 ≡ suc m
one_step n m e = omega arith

named_new : (t : Tables) (ns : List (List Mention)) (s : NameSort) (name : List ℕ) (c : Scope) → meaning_in c.visible name ≡ None → AllNamed (PortEntry t ns) c.visible → PortEntry t ns s (count_of s c.counts) → AllNamed (PortEntry t ns) (declare s name c).visible
named_new t ns s name c e v h =
    subst (λ o. AllNamed (PortEntry t ns) (declared_where o s name c).visible) (sym e) (one_named_more (PortEntry t ns) c.visible (record { name = name; meaning = record { sort = s; number = count_of s c.counts } }) v h)

pub counts_new : (s : NameSort) (name : List ℕ) (c : Scope) → meaning_in c.visible name ≡ None → (declare s name c).counts ≡ counted s c.counts
counts_new s name c e = ap (λ o. (declared_where o s name c).counts) e

signal_there : (t : Tables) (ns : List (List Mention)) (n : ℕ) (i : SignalInfo) (more : List SignalInfo) → i.domain ≡ first_domain ns way.PortSignal n → drop n t.signals ≡ i ∷ more → SignalEntry t ns i.sort n
signal_there t ns n i more d h =
    let r = entry_there t.signals n i no_signal more h in
    (r.0, ap (λ (k : SignalInfo). k.sort) r.1, ap (λ (k : SignalInfo). k.domain) r.1 ∙ d)

signal_entry : (t : Tables) (ns : List (List Mention)) (d : Direction) (n : ℕ) → SignalEntry t ns (sort_of d) n → PortEntry t ns (signal_sort d) n
signal_entry t ns direction.Input n e = e
signal_entry t ns direction.Output n e = e

pub number_of_signal : (d : Direction) (c : Counts) → count_of (signal_sort d) c ≡ c.signals
number_of_signal direction.Input c = refl
number_of_signal direction.Output c = refl

pub counted_signal : (d : Direction) (c : Counts) → counted (signal_sort d) c ≡ one_signal_more c
counted_signal direction.Input c = refl
counted_signal direction.Output c = refl

is_port : (d : Direction) → is_port_signal (signal_sort d) ≡ true
is_port direction.Input = refl
is_port direction.Output = refl

no_channel_sort : (d : Direction) → is_channel (signal_sort d) ≡ false
no_channel_sort direction.Input = refl
no_channel_sort direction.Output = refl

-- the places of a name that is new, and of more names
places_new : (test : NameSort → Bool) (s : NameSort) (name : Name) (c : Scope) (ms : List Mention) → meaning_in c.visible name.text ≡ None → places_of test (mention (role.Declare s) name c ∷ ms) ≡ cond (test s) (name.at ∷ places_of test ms) (places_of test ms)
places_new test s name c ms e = ap (λ o. cond (is_new test (role.Declare s) o) (name.at ∷ places_of test ms) (places_of test ms)) e

pub ports_fit : (t : Tables) (ns : List (List Mention)) (s : Scope) (n c : ℕ) (ps : List (Port Name)) → flat_map own_failures (in_order (map port_part ps) s).mentions ≡ [] → s.counts.signals ≡ n → s.counts.channels ≡ c
    → StandsAt (port_signals ns n ps) t.signals n → StandsAt (port_channels ns c ps) t.channels c → AllNamed (PortEntry t ns) s.visible → PortsFit t ns s n c ps (in_order (map port_part ps) s)
ports_fit t ns s n c [] h e f x y v = record { visible = v; signals = e ∙ zero_more n; variables = refl; signal_places = refl; channel_places = refl }
ports_fit t ns s n c (port.Signal p ∷ ps) h e f x y v =
    let m = mention (role.Declare (signal_sort p.direction)) p.signal.name s in
    let w = declare (signal_sort p.direction) p.signal.name.text s in
    let rest = (in_order (map port_part ps) w).mentions in
    let fresh = not_visible (signal_sort p.direction) p.signal.name s rest h in
    let counts = counts_new (signal_sort p.direction) p.signal.name.text s fresh ∙ counted_signal p.direction s.counts in
    let i = signal_info (sort_of p.direction) (first_domain ns way.PortSignal n) p.signal in
    let here = signal_entry t ns p.direction n (signal_there t ns n i (port_signals ns (suc n) ps ++ x.behind) refl x.is) in
    let r = ports_fit t ns w (suc n) c ps (empty_second (own_failures m) (flat_map own_failures rest) h) (ap (λ (k : Counts). k.signals) counts ∙ one_step s.counts.signals n e) (ap (λ (k : Counts). k.channels) counts ∙ f)
    (stands_second (i ∷ []) (port_signals ns (suc n) ps) t.signals n (suc n) (omega arith) x) y
    (named_new t ns (signal_sort p.direction) p.signal.name.text s fresh v (subst (PortEntry t ns (signal_sort p.direction)) (sym (number_of_signal p.direction s.counts ∙ e)) here)) in
    record {
      visible = r.visible;
      signals = r.signals ∙ step_more n (length (port_signals ns (suc n) ps));
      variables = r.variables ∙ ap (λ (k : Counts). k.variables) counts;
      signal_places = ap length (places_new is_port_signal (signal_sort p.direction) p.signal.name s rest fresh ∙ ap (λ b. cond b (p.signal.name.at ∷ places_of is_port_signal rest) (places_of is_port_signal rest)) (is_port p.direction)) ∙ ap suc r.signal_places;
      channel_places = ap length (places_new is_channel (signal_sort p.direction) p.signal.name s rest fresh ∙ ap (λ b. cond b (p.signal.name.at ∷ places_of is_channel rest) (places_of is_channel rest)) (no_channel_sort p.direction)) ∙ r.channel_places;
    }
ports_fit t ns s n c (port.Channel p ∷ ps) h e f x y v =
    let m = mention (role.Declare sort.Channel) p.name s in
    let w = declare sort.Channel p.name.text s in
    let rest = (in_order (map port_part ps) w).mentions in
    let fresh = not_visible sort.Channel p.name s rest h in
    let counts = counts_new sort.Channel p.name.text s fresh in
    let i : ChannelInfo = record { name = p.name.text; kind = p.kind; sender = first_domain ns way.SendingEnd c; receiver = first_domain ns way.ReceivingEnd c } in
    let z = entry_there t.channels c i no_channel (port_channels ns (suc c) ps ++ y.behind) y.is in
    let here : ChannelEntry t ns c = (z.0, ap (λ (k : ChannelInfo). k.sender) z.1, ap (λ (k : ChannelInfo). k.receiver) z.1) in
    let r = ports_fit t ns w n (suc c) ps (empty_second (own_failures m) (flat_map own_failures rest) h) (ap (λ (k : Counts). k.signals) counts ∙ e) (ap (λ (k : Counts). k.channels) counts ∙ one_step s.counts.channels c f) x
    (stands_second (i ∷ []) (port_channels ns (suc c) ps) t.channels c (suc c) (omega arith) y)
    (named_new t ns sort.Channel p.name.text s fresh v (subst (ChannelEntry t ns) (sym f) here)) in
    record {
      visible = r.visible;
      signals = r.signals;
      variables = r.variables ∙ ap (λ (k : Counts). k.variables) counts;
      signal_places = ap length (places_new is_port_signal sort.Channel p.name s rest fresh) ∙ r.signal_places;
      channel_places = ap length (places_new is_channel sort.Channel p.name s rest fresh) ∙ ap suc r.channel_places;
    }
