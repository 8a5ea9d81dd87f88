-- The numbers of names, expressions and tests may be used where they stand.
use Rattle.std.proofs.Common.{◌≡◌, ℕ, ◌==◌, Bool, true, false, ◌&&◌, ◌||◌, not, nat_lt, List, [], ◌∷◌, ◌++◌, length, Some, None, ap, refl, sym, ◌∙◌, subst}
use Rattle.std.specs.Prelude.{Option}
use Rattle.std.specs.List.{list_all}
use Rattle.std.proofs.lemmas.List.Folds.{list_all-append}
use Rattle.kernel_terms.specs.declared.tables.Tables.{Tables}
use Rattle.kernel_terms.specs.declared.tables.Sort as table
use Rattle.kernel_terms.specs.declared.tables.Sort.TheVariants as table_sort
use Rattle.kernel_terms.specs.TableEntries as entries
use Rattle.kernel_terms.specs.TableEntries.{signal_at, channel_at, variable_at, is_local, is_interface_of}
use Rattle.kernel_terms.specs.WellFormed.{can_use, can_emit, stands_in, is_variable_of, is_sender_of, is_receiver_of}
use Rattle.sj_ast.specs.declared.name.Name.{Name}
use Rattle.sj_ast.specs.declared.expression.Raw.{Raw}
use Rattle.sj_ast.specs.declared.expression.Raw as raw
use Rattle.sj_ast.specs.declared.expression.Raw.TheOpen.{Raw-F}
use Rattle.sj_ast.specs.declared.expression.Raw.TheFolds.{fold-roll-Raw, ind-Raw}
use Rattle.sj_ast.specs.declared.expression.Raw.TheVariants as raw_is
use Rattle.sj_ast.specs.declared.test.Test.{Test}
use Rattle.sj_ast.specs.declared.test.Test as signal_test
use Rattle.sj_ast.specs.declared.test.Test.TheOpen.{Test-F}
use Rattle.sj_ast.specs.declared.test.Test.TheFolds.{fold-roll-Test, ind-Test}
use Rattle.sj_ast.specs.declared.test.Test.TheVariants as test_is
use Rattle.sj_names.specs.declared.entry.TableEntry.{TableEntry}
use Rattle.sj_names.specs.declared.entry.TableEntry.TheVariants as entry
use Rattle.sj_names.specs.declared.mention.NameSort.{NameSort}
use Rattle.sj_names.specs.declared.mention.NameSort.TheVariants as sort
use Rattle.sj_names.specs.declared.mention.Role.TheVariants as role
use Rattle.sj_names.specs.declared.mention.Meaning.{Meaning}
use Rattle.sj_names.specs.declared.mention.Counts.{Counts}
use Rattle.sj_names.specs.declared.mention.Mention.{Mention}
use Rattle.sj_names.specs.definitions.Scopes.{Scope, meaning_in}
use Rattle.sj_names.specs.definitions.Mentions.{mention, raw_layer, expression_mentions, test_layer, test_mentions, read_where_given}
use Rattle.sj_names.specs.definitions.Failures.{is_channel, is_variable, is_trap, is_input}
use Rattle.sj_names.specs.definitions.SoundTables.{is_port_of, is_signal_use, is_sound_use, is_sound_role, is_sound}
use Rattle.sj_names.specs.definitions.NumberedTrees.{NumberedExpression, NumberedTest, number_where, number_of, entry_where, entry_of_sort, status_entry, numbered_raw_layer, numbered_expression, numbered_test_layer, numbered_test, numbered_value}
use Rattle.sj_names.specs.definitions.FittingTrees.{Around, term_scope, fits_test_layer, fits_test, has_status, fits_raw_layer, uses_entries, value_uses_entries}
use Rattle.sj_names.proofs.EntryLemmas.{AllNamed, meaning_named}
use Rattle.sj_names.proofs.PartEntries.{pair_true}

-- a visible local signal is one of those around, and so is a visible trap
abbrev pub StandsAround : Around → NameSort → ℕ → Type 0
StandsAround a sort.Local n = stands_in n a.locals ≡ true
StandsAround a sort.Trap n = stands_in n a.traps ≡ true
StandsAround a _ n = Unit {0}

pub first_holds : (a b : Bool) → (a && b) ≡ true → a ≡ true
first_holds true b h = refl
first_holds false b h = absurd (cc)

pub second_holds : (a b : Bool) → (a && b) ≡ true → b ≡ true
second_holds true b h = h
second_holds false b h = absurd (cc)

or_first : (a b : Bool) → a ≡ true → (a || b) ≡ true
or_first true b h = refl
or_first false b h = absurd (cc)

or_second : (a b : Bool) → b ≡ true → (a || b) ≡ true
or_second true b h = refl
or_second false b h = h

no_input : (s : table.Sort) → is_local s ≡ true → not (entries.is_input s) ≡ true
no_input table_sort.Input h = absurd (cc)
no_input table_sort.Output h = refl
no_input table_sort.Local h = refl

pub all_first : (p : Mention → Bool) (xs ys : List Mention) → list_all p (xs ++ ys) ≡ true → list_all p xs ≡ true
all_first p xs ys h = first_holds (list_all p xs) (list_all p ys) (sym (list_all-append p xs ys) ∙ h)

pub all_second : (p : Mention → Bool) (xs ys : List Mention) → list_all p (xs ++ ys) ≡ true → list_all p ys ≡ true
all_second p xs ys h = second_holds (list_all p xs) (list_all p ys) (sym (list_all-append p xs ys) ∙ h)

pub one_holds : (p : Mention → Bool) (x : Mention) (xs : List Mention) → list_all p (x ∷ xs) ≡ true → p x ≡ true
one_holds p x xs h = first_holds (p x) (list_all p xs) h

module _ (t : Tables) (d : ℕ) where
  -- what a name stands for stands around it
  abbrev pub KeptAround : Around → Option Meaning → Type 0
  KeptAround a o = (k : Meaning) → o ≡ Some k → StandsAround a k.sort k.number

  pub kept_around : (a : Around) (name : Name) (s : Scope) → AllNamed (StandsAround a) s.visible → KeptAround a (meaning_in s.visible name.text)
  kept_around a name s v k e = meaning_named (StandsAround a) s.visible name.text k v e

  interface_use : (a : Around) (n : ℕ) → a.domain ≡ d → is_port_of t d n ≡ true → can_use t (term_scope a) n ≡ true
  interface_use a n e h =
      or_first (is_interface_of a.domain (signal_at t n)) (stands_in n a.locals) (ap (λ k. is_interface_of k (signal_at t n)) e ∙ second_holds (nat_lt n (length t.signals)) (is_interface_of d (signal_at t n)) h)

  usable : (a : Around) (s : NameSort) (n : ℕ) → a.domain ≡ d → is_signal_use t d s n ≡ true → StandsAround a s n → can_use t (term_scope a) n ≡ true
  usable a sort.Input n e h v = interface_use a n e (first_holds (is_port_of t d n) (entries.is_input (signal_at t n).sort) h)
  usable a sort.Output n e h v = interface_use a n e (first_holds (is_port_of t d n) (not (entries.is_input (signal_at t n).sort)) h)
  usable a sort.Local n e h v = or_second (is_interface_of a.domain (signal_at t n)) (stands_in n a.locals) v
  usable a sort.Channel n e h v = absurd (cc)
  usable a sort.Variable n e h v = absurd (cc)
  usable a sort.Trap n e h v = absurd (cc)

  emittable : (s : NameSort) (n : ℕ) → is_signal_use t d s n ≡ true → not (is_input s) ≡ true → not (entries.is_input (signal_at t n).sort) ≡ true
  emittable sort.Input n h i = absurd (cc)
  emittable sort.Output n h i = second_holds (is_port_of t d n) (not (entries.is_input (signal_at t n).sort)) h
  emittable sort.Local n h i =
      no_input (signal_at t n).sort
      (first_holds (is_local (signal_at t n).sort) ((signal_at t n).domain == d) (second_holds (nat_lt n (length t.signals)) (is_local (signal_at t n).sort && ((signal_at t n).domain == d)) h))
  emittable sort.Channel n h i = absurd (cc)
  emittable sort.Variable n h i = absurd (cc)
  emittable sort.Trap n h i = absurd (cc)

  -- names, by their roles

  emit_where : (a : Around) (o : Option Meaning) (c : Counts) → a.domain ≡ d → is_sound_role t d role.Emit o ≡ true → KeptAround a o → can_emit t (term_scope a) (number_where role.Emit o c) ≡ true
  emit_where a None c e h v = absurd (cc)
  emit_where a (Some m) c e h v =
      let u = first_holds (is_signal_use t d m.sort m.number) (not (is_input m.sort)) h in
      let i = second_holds (is_signal_use t d m.sort m.number) (not (is_input m.sort)) h in
      pair_true (can_use t (term_scope a) m.number) (not (entries.is_input (signal_at t m.number).sort)) (usable a m.sort m.number e u (v m refl)) (emittable m.sort m.number u i)

  test_where : (a : Around) (o : Option Meaning) (c : Counts) → a.domain ≡ d → is_sound_role t d role.Test o ≡ true → KeptAround a o → can_use t (term_scope a) (number_where role.Test o c) ≡ true
  test_where a None c e h v = absurd (cc)
  test_where a (Some m) c e h v = usable a m.sort m.number e h (v m refl)

  variable_where : (a : Around) (o : Option Meaning) (c : Counts) → a.domain ≡ d → is_sound_role t d role.Variable o ≡ true → is_variable_of t a.domain (number_where role.Variable o c) ≡ true
  variable_where a None c e h = absurd (cc)
  variable_where a (Some m) c e h = ap (λ k. is_variable_of t k m.number) e ∙ second_holds (is_variable m.sort) (is_variable_of t d m.number) h

  send_where : (a : Around) (o : Option Meaning) (c : Counts) → a.domain ≡ d → is_sound_role t d role.Send o ≡ true → is_sender_of t a.domain (number_where role.Send o c) ≡ true
  send_where a None c e h = absurd (cc)
  send_where a (Some m) c e h = ap (λ k. is_sender_of t k m.number) e ∙ second_holds (is_channel m.sort) (is_sender_of t d m.number) h

  receive_where : (a : Around) (o : Option Meaning) (c : Counts) → a.domain ≡ d → is_sound_role t d role.Receive o ≡ true → is_receiver_of t a.domain (number_where role.Receive o c) ≡ true
  receive_where a None c e h = absurd (cc)
  receive_where a (Some m) c e h = ap (λ k. is_receiver_of t k m.number) e ∙ second_holds (is_channel m.sort) (is_receiver_of t d m.number) h

  trap_of_sort : (a : Around) (s : NameSort) (n : ℕ) → is_trap s ≡ true → StandsAround a s n → stands_in n a.traps ≡ true
  trap_of_sort a sort.Trap n h v = v
  trap_of_sort a sort.Input n h v = absurd (cc)
  trap_of_sort a sort.Output n h v = absurd (cc)
  trap_of_sort a sort.Local n h v = absurd (cc)
  trap_of_sort a sort.Channel n h v = absurd (cc)
  trap_of_sort a sort.Variable n h v = absurd (cc)

  exit_where : (a : Around) (o : Option Meaning) (c : Counts) → is_sound_role t d role.Exit o ≡ true → KeptAround a o → stands_in (number_where role.Exit o c) a.traps ≡ true
  exit_where a None c h v = absurd (cc)
  exit_where a (Some m) c h v = trap_of_sort a m.sort m.number h (v m refl)

  status_of_sort : (a : Around) (s : NameSort) (n : ℕ) → a.domain ≡ d → is_sound_use t d role.Status (record { sort = s; number = n }) ≡ true → StandsAround a s n → has_status t (term_scope a) (entry_of_sort s n) ≡ true
  status_of_sort a sort.Channel n e h v = ap (λ k. is_receiver_of t k n) e ∙ h
  status_of_sort a sort.Input n e h v = usable a sort.Input n e h v
  status_of_sort a sort.Output n e h v = usable a sort.Output n e h v
  status_of_sort a sort.Local n e h v = usable a sort.Local n e h v
  status_of_sort a sort.Variable n e h v = absurd (cc)
  status_of_sort a sort.Trap n e h v = absurd (cc)

  status_where : (a : Around) (o : Option Meaning) (c : Counts) → a.domain ≡ d → is_sound_role t d role.Status o ≡ true → KeptAround a o → has_status t (term_scope a) (entry_where o (number_where role.Status o c)) ≡ true
  status_where a None c e h v = absurd (cc)
  status_where a (Some m) c e h v = status_of_sort a m.sort m.number e h (v m refl)

  pub emit_fits : (a : Around) (name : Name) (s : Scope) → a.domain ≡ d → AllNamed (StandsAround a) s.visible → is_sound t d (mention role.Emit name s) ≡ true → can_emit t (term_scope a) (number_of role.Emit name s) ≡ true
  emit_fits a name s e v h = emit_where a (meaning_in s.visible name.text) s.counts e h (kept_around a name s v)

  pub variable_fits : (a : Around) (name : Name) (s : Scope) → a.domain ≡ d → is_sound t d (mention role.Variable name s) ≡ true → is_variable_of t a.domain (number_of role.Variable name s) ≡ true
  variable_fits a name s e h = variable_where a (meaning_in s.visible name.text) s.counts e h

  pub send_fits : (a : Around) (name : Name) (s : Scope) → a.domain ≡ d → is_sound t d (mention role.Send name s) ≡ true → is_sender_of t a.domain (number_of role.Send name s) ≡ true
  send_fits a name s e h = send_where a (meaning_in s.visible name.text) s.counts e h

  pub receive_fits : (a : Around) (name : Name) (s : Scope) → a.domain ≡ d → is_sound t d (mention role.Receive name s) ≡ true → is_receiver_of t a.domain (number_of role.Receive name s) ≡ true
  receive_fits a name s e h = receive_where a (meaning_in s.visible name.text) s.counts e h

  pub exit_fits : (a : Around) (name : Name) (s : Scope) → AllNamed (StandsAround a) s.visible → is_sound t d (mention role.Exit name s) ≡ true → stands_in (number_of role.Exit name s) a.traps ≡ true
  exit_fits a name s v h = exit_where a (meaning_in s.visible name.text) s.counts h (kept_around a name s v)

  -- expressions

  abbrev Where : (Scope → List Mention) → (Scope → Around → Bool) → Type 0
  Where ms fits = (s : Scope) (a : Around) → a.domain ≡ d → AllNamed (StandsAround a) s.visible → list_all (is_sound t d) (ms s) ≡ true → fits s a ≡ true

  abbrev RawFits : Raw Name → Type 0
  RawFits e = Where (expression_mentions e) (λ s a. uses_entries t (term_scope a) (numbered_expression e s))

  abbrev plain_raw : Raw-F Name ((e : Raw Name) × RawFits e) → Raw-F Name (Raw Name)
  plain_raw = raw.map-Raw Name ((e : Raw Name) × RawFits e) (Raw Name) (λ e. e.0)

  -- what an expression mentions, and its numbers, by its layer
  raw_by : (y : Raw-F Name (Raw Name)) (ms : Scope → List Mention) (fits : Scope → Around → Bool)
      → expression_mentions (raw.roll-Raw Name y) ≡ ms → ((s : Scope) (a : Around) → uses_entries t (term_scope a) (numbered_expression (raw.roll-Raw Name y) s) ≡ fits s a) → Where ms fits → RawFits (raw.roll-Raw Name y)
  raw_by y ms fits m f w s a e v h = f s a ∙ w s a e v (ap (λ (g : Scope → List Mention). list_all (is_sound t d) (g s)) (sym m) ∙ h)

  abbrev uses : Around → Raw TableEntry → Bool
  uses a = uses_entries t (term_scope a)

  numbers_of : (y : Raw-F Name (Raw Name)) (s : Scope) → numbered_expression (raw.roll-Raw Name y) s ≡ numbered_raw_layer (raw.map-Raw Name (Raw Name) (Scope → NumberedExpression) numbered_expression y) s
  numbers_of y s = ap (λ (f : Scope → NumberedExpression). f s) (fold-roll-Raw Name (Scope → NumberedExpression) numbered_raw_layer y)

  mentions_of : (y : Raw-F Name (Raw Name)) → expression_mentions (raw.roll-Raw Name y) ≡ raw_layer (raw.map-Raw Name (Raw Name) (Scope → List Mention) expression_mentions y)
  mentions_of y = fold-roll-Raw Name (Scope → List Mention) raw_layer y

  uses_of : (y : Raw-F TableEntry (Raw TableEntry)) (a : Around) → uses a (raw.roll-Raw TableEntry y) ≡ fits_raw_layer t (term_scope a) (raw.map-Raw TableEntry (Raw TableEntry) Bool (uses a) y)
  uses_of y a = fold-roll-Raw TableEntry Bool (fits_raw_layer t (term_scope a)) y

  raw_step : (y : Raw-F Name ((e : Raw Name) × RawFits e)) → RawFits (raw.roll-Raw Name (plain_raw y))
  raw_step (Raw-F.Literal at x) =
      raw_by (Raw-F.Literal at x) (λ s. []) (λ s a. true) (mentions_of (Raw-F.Literal at x))
      (λ s a. ap (uses a) (numbers_of (Raw-F.Literal at x) s ∙ sym (raw_is.rolls-Literal at x)) ∙ uses_of (Raw-F.Literal at x) a) (λ s a e v h. refl)
  raw_step (Raw-F.Least at x) =
      raw_by (Raw-F.Least at x) (λ s. []) (λ s a. true) (mentions_of (Raw-F.Least at x))
      (λ s a. ap (uses a) (numbers_of (Raw-F.Least at x) s ∙ sym (raw_is.rolls-Least at x)) ∙ uses_of (Raw-F.Least at x) a) (λ s a e v h. refl)
  raw_step (Raw-F.Variable at name) =
      raw_by (Raw-F.Variable at name) (λ s. mention role.Variable name s ∷ []) (λ s a. is_variable_of t a.domain (number_of role.Variable name s)) (mentions_of (Raw-F.Variable at name))
      (λ s a. ap (uses a) (numbers_of (Raw-F.Variable at name) s ∙ sym (raw_is.rolls-Variable at (entry.Variable (number_of role.Variable name s)))) ∙ uses_of (Raw-F.Variable at (entry.Variable (number_of role.Variable name s))) a)
      (λ s a e v h. variable_fits a name s e (one_holds (is_sound t d) (mention role.Variable name s) [] h))
  raw_step (Raw-F.Status at name_at name) =
      raw_by (Raw-F.Status at name_at name) (λ s. mention role.Status name s ∷ []) (λ s a. has_status t (term_scope a) (status_entry name s)) (mentions_of (Raw-F.Status at name_at name))
      (λ s a. ap (uses a) (numbers_of (Raw-F.Status at name_at name) s ∙ sym (raw_is.rolls-Status at name_at (status_entry name s))) ∙ uses_of (Raw-F.Status at name_at (status_entry name s)) a)
      (λ s a e v h. status_where a (meaning_in s.visible name.text) s.counts e (one_holds (is_sound t d) (mention role.Status name s) [] h) (kept_around a name s v))
  raw_step (Raw-F.Unary at op x) =
      raw_by (Raw-F.Unary at op x.0) (expression_mentions x.0) (λ s a. uses a (numbered_expression x.0 s)) (mentions_of (Raw-F.Unary at op x.0))
      (λ s a. ap (uses a) (numbers_of (Raw-F.Unary at op x.0) s ∙ sym (raw_is.rolls-Unary at op (numbered_expression x.0 s))) ∙ uses_of (Raw-F.Unary at op (numbered_expression x.0 s)) a) x.1
  raw_step (Raw-F.Cast at kind x) =
      raw_by (Raw-F.Cast at kind x.0) (expression_mentions x.0) (λ s a. uses a (numbered_expression x.0 s)) (mentions_of (Raw-F.Cast at kind x.0))
      (λ s a. ap (uses a) (numbers_of (Raw-F.Cast at kind x.0) s ∙ sym (raw_is.rolls-Cast at kind (numbered_expression x.0 s))) ∙ uses_of (Raw-F.Cast at kind (numbered_expression x.0 s)) a) x.1
  raw_step (Raw-F.Group at x) =
      raw_by (Raw-F.Group at x.0) (expression_mentions x.0) (λ s a. uses a (numbered_expression x.0 s)) (mentions_of (Raw-F.Group at x.0))
      (λ s a. ap (uses a) (numbers_of (Raw-F.Group at x.0) s ∙ sym (raw_is.rolls-Group at (numbered_expression x.0 s))) ∙ uses_of (Raw-F.Group at (numbered_expression x.0 s)) a) x.1
  raw_step (Raw-F.Binary at op l r) =
      raw_by (Raw-F.Binary at op l.0 r.0) (λ s. expression_mentions l.0 s ++ expression_mentions r.0 s) (λ s a. uses a (numbered_expression l.0 s) && uses a (numbered_expression r.0 s)) (mentions_of (Raw-F.Binary at op l.0 r.0))
      (λ s a. ap (uses a) (numbers_of (Raw-F.Binary at op l.0 r.0) s ∙ sym (raw_is.rolls-Binary at op (numbered_expression l.0 s) (numbered_expression r.0 s))) ∙ uses_of (Raw-F.Binary at op (numbered_expression l.0 s) (numbered_expression r.0 s)) a)
      (λ s a e v h. pair_true (uses a (numbered_expression l.0 s)) (uses a (numbered_expression r.0 s)) (l.1 s a e v (all_first (is_sound t d) (expression_mentions l.0 s) (expression_mentions r.0 s) h))
      (r.1 s a e v (all_second (is_sound t d) (expression_mentions l.0 s) (expression_mentions r.0 s) h)))

  pub raw_fits : (e : Raw Name) → RawFits e
  raw_fits = ind-Raw Name RawFits (λ x y is. subst (λ z. RawFits (raw.roll-Raw Name z)) is (raw_step y))

  pub value_fits : (o : Option (Raw Name)) (s : Scope) (a : Around) → a.domain ≡ d → AllNamed (StandsAround a) s.visible → list_all (is_sound t d) (read_where_given o s).mentions ≡ true → value_uses_entries t (term_scope a) (numbered_value o s) ≡ true
  value_fits None s a e v h = refl
  value_fits (Some x) s a e v h = raw_fits x s a e v h

  -- tests

  abbrev TestFits : Test Name → Type 0
  TestFits x = Where (test_mentions x) (λ s a. fits_test t (term_scope a) (numbered_test x s))

  test_by : (y : Test-F Name (Test Name)) (ms : Scope → List Mention) (fits : Scope → Around → Bool)
      → test_mentions (signal_test.roll-Test Name y) ≡ ms → ((s : Scope) (a : Around) → fits_test t (term_scope a) (numbered_test (signal_test.roll-Test Name y) s) ≡ fits s a) → Where ms fits → TestFits (signal_test.roll-Test Name y)
  test_by y ms fits m f w s a e v h = f s a ∙ w s a e v (ap (λ (g : Scope → List Mention). list_all (is_sound t d) (g s)) (sym m) ∙ h)

  abbrev tests : Around → Test ℕ → Bool
  tests a = fits_test t (term_scope a)

  test_numbers_of : (y : Test-F Name (Test Name)) (s : Scope) → numbered_test (signal_test.roll-Test Name y) s ≡ numbered_test_layer (signal_test.map-Test Name (Test Name) (Scope → NumberedTest) numbered_test y) s
  test_numbers_of y s = ap (λ (f : Scope → NumberedTest). f s) (fold-roll-Test Name (Scope → NumberedTest) numbered_test_layer y)

  test_mentions_of : (y : Test-F Name (Test Name)) → test_mentions (signal_test.roll-Test Name y) ≡ test_layer (signal_test.map-Test Name (Test Name) (Scope → List Mention) test_mentions y)
  test_mentions_of y = fold-roll-Test Name (Scope → List Mention) test_layer y

  tests_of : (y : Test-F ℕ (Test ℕ)) (a : Around) → tests a (signal_test.roll-Test ℕ y) ≡ fits_test_layer t (term_scope a) (signal_test.map-Test ℕ (Test ℕ) Bool (tests a) y)
  tests_of y a = fold-roll-Test ℕ Bool (fits_test_layer t (term_scope a)) y

  two_tests : (l r : (x : Test Name) × TestFits x) → Where (λ s. test_mentions l.0 s ++ test_mentions r.0 s) (λ s a. tests a (numbered_test l.0 s) && tests a (numbered_test r.0 s))
  two_tests l r s a e v h =
      pair_true (tests a (numbered_test l.0 s)) (tests a (numbered_test r.0 s)) (l.1 s a e v (all_first (is_sound t d) (test_mentions l.0 s) (test_mentions r.0 s) h)) (r.1 s a e v (all_second (is_sound t d) (test_mentions l.0 s) (test_mentions r.0 s) h))

  test_step : (y : Test-F Name ((x : Test Name) × TestFits x)) → TestFits (signal_test.roll-Test Name (signal_test.map-Test Name ((x : Test Name) × TestFits x) (Test Name) (λ x. x.0) y))
  test_step (Test-F.Signal at name) =
      test_by (Test-F.Signal at name) (λ s. mention role.Test name s ∷ []) (λ s a. can_use t (term_scope a) (number_of role.Test name s)) (test_mentions_of (Test-F.Signal at name))
      (λ s a. ap (tests a) (test_numbers_of (Test-F.Signal at name) s ∙ sym (test_is.rolls-Signal at (number_of role.Test name s))) ∙ tests_of (Test-F.Signal at (number_of role.Test name s)) a)
      (λ s a e v h. test_where a (meaning_in s.visible name.text) s.counts e (one_holds (is_sound t d) (mention role.Test name s) [] h) (kept_around a name s v))
  test_step (Test-F.Not at x) =
      test_by (Test-F.Not at x.0) (test_mentions x.0) (λ s a. tests a (numbered_test x.0 s)) (test_mentions_of (Test-F.Not at x.0))
      (λ s a. ap (tests a) (test_numbers_of (Test-F.Not at x.0) s ∙ sym (test_is.rolls-Not at (numbered_test x.0 s))) ∙ tests_of (Test-F.Not at (numbered_test x.0 s)) a) x.1
  test_step (Test-F.Group at x) =
      test_by (Test-F.Group at x.0) (test_mentions x.0) (λ s a. tests a (numbered_test x.0 s)) (test_mentions_of (Test-F.Group at x.0))
      (λ s a. ap (tests a) (test_numbers_of (Test-F.Group at x.0) s ∙ sym (test_is.rolls-Group at (numbered_test x.0 s))) ∙ tests_of (Test-F.Group at (numbered_test x.0 s)) a) x.1
  test_step (Test-F.Both at l r) =
      test_by (Test-F.Both at l.0 r.0) (λ s. test_mentions l.0 s ++ test_mentions r.0 s) (λ s a. tests a (numbered_test l.0 s) && tests a (numbered_test r.0 s)) (test_mentions_of (Test-F.Both at l.0 r.0))
      (λ s a. ap (tests a) (test_numbers_of (Test-F.Both at l.0 r.0) s ∙ sym (test_is.rolls-Both at (numbered_test l.0 s) (numbered_test r.0 s))) ∙ tests_of (Test-F.Both at (numbered_test l.0 s) (numbered_test r.0 s)) a) (two_tests l r)
  test_step (Test-F.Either at l r) =
      test_by (Test-F.Either at l.0 r.0) (λ s. test_mentions l.0 s ++ test_mentions r.0 s) (λ s a. tests a (numbered_test l.0 s) && tests a (numbered_test r.0 s)) (test_mentions_of (Test-F.Either at l.0 r.0))
      (λ s a. ap (tests a) (test_numbers_of (Test-F.Either at l.0 r.0) s ∙ sym (test_is.rolls-Either at (numbered_test l.0 s) (numbered_test r.0 s))) ∙ tests_of (Test-F.Either at (numbered_test l.0 s) (numbered_test r.0 s)) a) (two_tests l r)

  pub tests_fit : (x : Test Name) → TestFits x
  tests_fit = ind-Test Name TestFits (λ x y is. subst (λ z. TestFits (signal_test.roll-Test Name z)) is (test_step y))
