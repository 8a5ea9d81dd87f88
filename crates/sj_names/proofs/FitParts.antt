-- When the numbers of a part fit what is around it, and what is visible behind the part.
use Rattle.std.proofs.Common.{◌≡◌, ℕ, ◌==◌, Bool, true, false, ◌||◌, nat_lt, List, [], ◌∷◌, ◌++◌, length, Some, None, ap, refl, sym, ◌∙◌, subst}
use Rattle.std.specs.Prelude.{Option}
use Rattle.std.specs.List.{flat_map, list_all}
use Rattle.java_values.specs.declared.kind.Kind.{Kind}
use Rattle.java_values.specs.declared.kind.Kind.TheVariants as kind
use Rattle.kernel_terms.specs.declared.tables.Tables.{Tables}
use Rattle.kernel_terms.specs.declared.tables.VariableInfo.{VariableInfo}
use Rattle.kernel_terms.specs.declared.tables.SignalInfo.{SignalInfo}
use Rattle.kernel_terms.specs.declared.tables.Sort.TheVariants as table_sort
use Rattle.kernel_terms.specs.TableEntries.{no_signal, no_variable, signal_at, variable_at}
use Rattle.kernel_terms.specs.WellFormed.{stands_in, same_kind, is_local_of, is_variable_of}
use Rattle.sj_ast.specs.declared.name.Name.{Name}
use Rattle.sj_ast.specs.declared.port.Signal.{Signal}
use Rattle.sj_ast.specs.declared.port.Valued.{Valued}
use Rattle.sj_names.specs.declared.mention.NameSort.{NameSort}
use Rattle.sj_names.specs.declared.mention.NameSort.TheVariants as sort
use Rattle.sj_names.specs.declared.mention.Role.TheVariants as role
use Rattle.sj_names.specs.declared.mention.Mention.{Mention}
use Rattle.sj_names.specs.definitions.Scopes.{Named, Scope, meaning_in, declare, declared_where, count_of}
use Rattle.sj_names.specs.definitions.Mentions.{Told, NamedPart}
use Rattle.sj_names.specs.definitions.Failures.{own_failures}
use Rattle.sj_names.specs.definitions.SoundTables.{is_sound}
use Rattle.sj_names.specs.definitions.DeclaredTables.{Declared, both, kind_of, signal_info}
use Rattle.sj_names.specs.definitions.NumberedTrees.{Numbered, number_where, number_of}
use Rattle.sj_names.specs.definitions.FittingTrees.{Around, Fitted, in_trap, with_local, alone, same_value, is_declared_signal, is_declared_variable}
use Rattle.sj_names.specs.definitions.FittingTrees as fitting
use Rattle.sj_names.proofs.EntryLemmas.{AllNamed, all_named, one_named_more}
use Rattle.sj_names.proofs.PartEntries.{StandsAt, stands_first, stands_second, entry_there, local_entry, CountsFit, first_sound, second_sound, pair_true, is_itself}
use Rattle.sj_names.proofs.FitValues.{StandsAround, all_first, all_second}

-- before a part with these names, which declares this
pub record Start (t : Tables) (d : ℕ) (s : Scope) (a : Around) (D : Declared) (ms : List Mention) : Type 0 where
  pub domain : a.domain ≡ d
  pub own : flat_map own_failures ms ≡ []
  pub sound : list_all (is_sound t d) ms ≡ true
  pub signals : StandsAt D.signals t.signals s.counts.signals
  pub variables : StandsAt D.variables t.variables s.counts.variables
  pub visible : AllNamed (StandsAround a) s.visible

-- behind a part that fits
pub record Ended (d : ℕ) (r : Fitted) (vs : List Named) : Type 0 where
  pub fits : r.fits ≡ true
  pub domain : r.around.domain ≡ d
  pub visible : AllNamed (StandsAround r.around) vs

pub record PartFits (t : Tables) (d : ℕ) {X : Type 0} (fit : X → fitting.FittingPart) (p : NamedPart) (D : Declared) (q : Scope → Numbered X) : Type 0 where
  pub scope : (s : Scope) → (q s).scope ≡ (p s).scope
  pub fits : (s : Scope) (a : Around) → Start t d s a D (p s).mentions → Ended d (fit (q s).value a) (p s).scope.visible

pub record BlockFits (t : Tables) (d : ℕ) {X : Type 0} (fit : X → fitting.FittingPart) (p : NamedPart) (D : Declared) (q : Scope → Numbered X) : Type 0 where
  pub scope : (s : Scope) → (q s).scope ≡ (p s).scope
  pub fits : (s : Scope) (a : Around) → Start t d s a D (p s).mentions → (fit (q s).value a).fits ≡ true

pub alone_ended : (d : ℕ) (ok : Bool) (a : Around) (vs : List Named) → ok ≡ true → a.domain ≡ d → AllNamed (StandsAround a) vs → Ended d (alone ok a) vs
alone_ended d ok a vs h e v = record { fits = h; domain = e; visible = v }

module _ (t : Tables) (d : ℕ) where
  pub first_start : (s : Scope) (a : Around) (D E : Declared) (ms ns : List Mention) → Start t d s a (both D E) (ms ++ ns) → Start t d s a D ms
  first_start s a D E ms ns h = record {
    domain = h.domain;
    own = first_sound ms ns h.own;
    sound = all_first (is_sound t d) ms ns h.sound;
    signals = stands_first D.signals E.signals t.signals s.counts.signals h.signals;
    variables = stands_first D.variables E.variables t.variables s.counts.variables h.variables;
    visible = h.visible;
  }

  pub second_start : (s : Scope) (a : Around) (D E : Declared) (u : Told) (ns : List Mention) (b : Around) → Start t d s a (both D E) (u.mentions ++ ns) → CountsFit D s u → b.domain ≡ d → AllNamed (StandsAround b) u.scope.visible → Start t d u.scope b E ns
  second_start s a D E u ns b h c e v = record {
    domain = e;
    own = second_sound u.mentions ns h.own;
    sound = all_second (is_sound t d) u.mentions ns h.sound;
    signals = stands_second D.signals E.signals t.signals s.counts.signals u.scope.counts.signals c.signals h.signals;
    variables = stands_second D.variables E.variables t.variables s.counts.variables u.scope.counts.variables c.variables h.variables;
    visible = v;
  }

  -- names that are read before a part, or behind it
  pub behind_read : (s : Scope) (a : Around) (D : Declared) (ms ns : List Mention) → Start t d s a D (ms ++ ns) → Start t d s a D ns
  behind_read s a D ms ns h = record {
    domain = h.domain;
    own = second_sound ms ns h.own;
    sound = all_second (is_sound t d) ms ns h.sound;
    signals = h.signals;
    variables = h.variables;
    visible = h.visible;
  }

  pub before_read : (s : Scope) (a : Around) (D : Declared) (ms ns : List Mention) → Start t d s a D (ms ++ ns) → Start t d s a D ms
  before_read s a D ms ns h = record {
    domain = h.domain;
    own = first_sound ms ns h.own;
    sound = all_first (is_sound t d) ms ns h.sound;
    signals = h.signals;
    variables = h.variables;
    visible = h.visible;
  }

  -- names that are declared

  pub number_new : (k : NameSort) (name : Name) (s : Scope) → meaning_in s.visible name.text ≡ None → number_of (role.Declare k) name s ≡ count_of k s.counts
  number_new k name s e = ap (λ o. number_where (role.Declare k) o s.counts) e

  pub visible_new : (P : NameSort → ℕ → Type 0) (k : NameSort) (name : List ℕ) (s : Scope) → meaning_in s.visible name ≡ None → AllNamed P s.visible → P k (count_of k s.counts) → AllNamed P (declare k name s).visible
  visible_new P k name s e v h = subst (λ o. AllNamed P (declared_where o k name s).visible) (sym e) (one_named_more P s.visible (record { name = name; meaning = record { sort = k; number = count_of k s.counts } }) v h)

  found_first : (n m : ℕ) (ns : List ℕ) → n ≡ m → stands_in m (n ∷ ns) ≡ true
  found_first n m ns e = pick (n == m) (stands_in m ns) (ap (λ k. k == m) e ∙ is_itself m)
    where
      pick : (x y : Bool) → x ≡ true → (x || y) ≡ true
      pick true y h = refl
      pick false y h = absurd (cc)

  found_later : (n m : ℕ) (ns : List ℕ) → stands_in m ns ≡ true → stands_in m (n ∷ ns) ≡ true
  found_later n m ns h = pick (n == m) (stands_in m ns) h
    where
      pick : (x y : Bool) → y ≡ true → (x || y) ≡ true
      pick true y h = refl
      pick false y h = h

  one_local_more : (n : ℕ) (a : Around) (k : NameSort) (m : ℕ) → StandsAround a k m → StandsAround (with_local n a) k m
  one_local_more n a sort.Local m h = found_later n m a.locals h
  one_local_more n a sort.Trap m h = h
  one_local_more n a sort.Input m h = tt
  one_local_more n a sort.Output m h = tt
  one_local_more n a sort.Channel m h = tt
  one_local_more n a sort.Variable m h = tt

  one_trap_more : (n : ℕ) (a : Around) (k : NameSort) (m : ℕ) → StandsAround a k m → StandsAround (in_trap n a) k m
  one_trap_more n a sort.Local m h = h
  one_trap_more n a sort.Trap m h = found_later n m a.traps h
  one_trap_more n a sort.Input m h = tt
  one_trap_more n a sort.Output m h = tt
  one_trap_more n a sort.Channel m h = tt
  one_trap_more n a sort.Variable m h = tt

  pub local_visible : (a : Around) (name : Name) (s : Scope) → meaning_in s.visible name.text ≡ None → AllNamed (StandsAround a) s.visible → AllNamed (StandsAround (with_local (number_of (role.Declare sort.Local) name s) a)) (declare sort.Local name.text s).visible
  local_visible a name s e v =
      let n = number_of (role.Declare sort.Local) name s in
      visible_new (StandsAround (with_local n a)) sort.Local name.text s e (all_named (StandsAround a) (StandsAround (with_local n a)) (one_local_more n a) s.visible v) (found_first n s.counts.signals a.locals (number_new sort.Local name s e))

  pub trap_visible : (a : Around) (name : Name) (s : Scope) → meaning_in s.visible name.text ≡ None → AllNamed (StandsAround a) s.visible → AllNamed (StandsAround (in_trap (number_of (role.Declare sort.Trap) name s) a)) (declare sort.Trap name.text s).visible
  trap_visible a name s e v =
      let n = number_of (role.Declare sort.Trap) name s in
      visible_new (StandsAround (in_trap n a)) sort.Trap name.text s e (all_named (StandsAround a) (StandsAround (in_trap n a)) (one_trap_more n a) s.visible v) (found_first n s.counts.traps a.traps (number_new sort.Trap name s e))

  pub variable_visible : (a : Around) (name : Name) (s : Scope) → meaning_in s.visible name.text ≡ None → AllNamed (StandsAround a) s.visible → AllNamed (StandsAround a) (declare sort.Variable name.text s).visible
  variable_visible a name s e v = visible_new (StandsAround a) sort.Variable name.text s e v tt

  same_as_itself : (k : Kind) → same_kind k k ≡ true
  same_as_itself kind.Boolean = refl
  same_as_itself kind.Byte = refl
  same_as_itself kind.Short = refl
  same_as_itself kind.Char = refl
  same_as_itself kind.Int = refl
  same_as_itself kind.Long = refl

  pub own_variable : (k : Kind) (n : ℕ) (x : VariableInfo) → x ≡ record { domain = d; kind = k } → StandsAt (x ∷ []) t.variables n → is_declared_variable t d k n ≡ true
  own_variable k n x e h =
      let r = entry_there t.variables n x no_variable h.behind h.is in
      pair_true (is_variable_of t d n) (same_kind (variable_at t n).kind k)
      (pair_true (nat_lt n (length t.variables)) ((variable_at t n).domain == d) r.0 (ap (λ (i : VariableInfo). i.domain == d) (r.1 ∙ e) ∙ is_itself d))
      (ap (λ (i : VariableInfo). same_kind i.kind k) (r.1 ∙ e) ∙ same_as_itself k)

  same_value_itself : (o : Option Valued) → same_value (kind_of o) (kind_of o) ≡ true
  same_value_itself None = refl
  same_value_itself (Some v) = same_as_itself v.kind

  pub own_signal : (n : ℕ) (signal : Signal Name) → StandsAt (signal_info table_sort.Local d signal ∷ []) t.signals n → is_declared_signal t d (record { at = signal.at; name = n; valued = signal.valued }) ≡ true
  own_signal n signal h =
      let r = entry_there t.signals n (signal_info table_sort.Local d signal) no_signal h.behind h.is in
      pair_true (is_local_of t d n) (same_value (signal_at t n).kind (kind_of signal.valued)) (local_entry t d n signal h) (ap (λ (i : SignalInfo). same_value i.kind (kind_of signal.valued)) r.1 ∙ same_value_itself signal.valued)
