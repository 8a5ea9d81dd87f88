-- What visible names and the names of a part stand for, in the tables.
use Rattle.std.proofs.Common.{◌≡◌, ◌⊎◌, ℕ, Bool, true, false, cond, nat_lt, List, [], ◌∷◌, ◌++◌, length, Some, inl, inr, ap, refl, sym, ◌∙◌, subst}
use Rattle.std.specs.Str.{bytes_eq}
use Rattle.kernel_terms.specs.declared.tables.Tables.{Tables}
use Rattle.kernel_terms.specs.declared.tables.Sort.TheVariants as table_sort
use Rattle.kernel_terms.specs.declared.tables.Sort as table
use Rattle.kernel_terms.specs.TableEntries.{signal_at, channel_at}
use Rattle.kernel_terms.specs.WellFormed.{is_local_of, is_variable_of}
use Rattle.sj_ast.specs.declared.name.Name.{Name}
use Rattle.sj_ast.specs.declared.expression.Raw.{Raw}
use Rattle.sj_ast.specs.declared.expression.Raw as raw
use Rattle.sj_ast.specs.declared.expression.Raw.TheOpen.{Raw-F}
use Rattle.sj_ast.specs.declared.expression.Raw.TheFolds.{fold-roll-Raw, ind-Raw}
use Rattle.sj_ast.specs.declared.test.Test.{Test}
use Rattle.sj_ast.specs.declared.test.Test as signal_test
use Rattle.sj_ast.specs.declared.test.Test.TheOpen.{Test-F}
use Rattle.sj_ast.specs.declared.test.Test.TheFolds.{fold-roll-Test, ind-Test}
use Rattle.sj_names.specs.declared.mention.NameSort.{NameSort}
use Rattle.sj_names.specs.declared.mention.NameSort.TheVariants as sort
use Rattle.sj_names.specs.declared.mention.Role.{Role}
use Rattle.sj_names.specs.declared.mention.Role.TheVariants as role
use Rattle.sj_names.specs.declared.mention.Meaning.{Meaning}
use Rattle.sj_names.specs.declared.mention.Mention.{Mention}
use Rattle.sj_names.specs.definitions.Scopes.{Named, Scope, meaning_in}
use Rattle.sj_names.specs.definitions.Mentions.{mention, raw_layer, expression_mentions, test_layer, test_mentions}
use Rattle.sj_names.specs.declared.mention.Use.TheVariants as way
use Rattle.sj_names.specs.definitions.Failures.{is_new, places_of, first_domain}
use Rattle.sj_names.proofs.ListedNames.{IsIn}

-- the number of a signal of the interface, or of a channel, where the domains have these names
abbrev pub SignalEntry : Tables → List (List Mention) → table.Sort → ℕ → Type 0
SignalEntry t ns s n = (nat_lt n (length t.signals) ≡ true) × ((signal_at t n).sort ≡ s) × ((signal_at t n).domain ≡ first_domain ns way.PortSignal n)

abbrev pub ChannelEntry : Tables → List (List Mention) → ℕ → Type 0
ChannelEntry t ns n = (nat_lt n (length t.channels) ≡ true) × ((channel_at t n).sender ≡ first_domain ns way.SendingEnd n) × ((channel_at t n).receiver ≡ first_domain ns way.ReceivingEnd n)

abbrev pub PortEntry : Tables → List (List Mention) → NameSort → ℕ → Type 0
PortEntry t ns sort.Input n = SignalEntry t ns table_sort.Input n
PortEntry t ns sort.Output n = SignalEntry t ns table_sort.Output n
PortEntry t ns sort.Channel n = ChannelEntry t ns n
PortEntry t ns _ n = ⊥

-- or of something that the domain declares
abbrev pub EntryOf : Tables → List (List Mention) → ℕ → NameSort → ℕ → Type 0
EntryOf t ns d sort.Local n = is_local_of t d n ≡ true
EntryOf t ns d sort.Variable n = is_variable_of t d n ≡ true
EntryOf t ns d sort.Trap n = Unit {0}
EntryOf t ns d s n = PortEntry t ns s n

pub port_entry : (t : Tables) (ns : List (List Mention)) (d : ℕ) (s : NameSort) (n : ℕ) → PortEntry t ns s n → EntryOf t ns d s n
port_entry t ns d sort.Input n h = h
port_entry t ns d sort.Output n h = h
port_entry t ns d sort.Channel n h = h
port_entry t ns d sort.Local n h = absurd h
port_entry t ns d sort.Variable n h = absurd h
port_entry t ns d sort.Trap n h = absurd h

-- visible names

abbrev pub AllNamed : (NameSort → ℕ → Type 0) → List Named → Type 0
AllNamed P [] = Unit {0}
AllNamed P (v ∷ vs) = P v.meaning.sort v.meaning.number × AllNamed P vs

pub all_named : (P Q : NameSort → ℕ → Type 0) → ((s : NameSort) (n : ℕ) → P s n → Q s n) → (vs : List Named) → AllNamed P vs → AllNamed Q vs
all_named P Q f [] h = tt
all_named P Q f (v ∷ vs) h = (f v.meaning.sort v.meaning.number h.0, all_named P Q f vs h.1)

pub one_named_more : (P : NameSort → ℕ → Type 0) (vs : List Named) (v : Named) → AllNamed P vs → P v.meaning.sort v.meaning.number → AllNamed P (vs ++ v ∷ [])
one_named_more P [] v h p = (p, tt)
one_named_more P (w ∷ ws) v h p = (h.0, one_named_more P ws v h.1 p)

pub meaning_named : (P : NameSort → ℕ → Type 0) (vs : List Named) (name : List ℕ) (m : Meaning) → AllNamed P vs → meaning_in vs name ≡ Some m → P m.sort m.number
meaning_named P [] name m h e = absurd (cc)
meaning_named P (v ∷ vs) name m h e = split (bytes_eq name v.name) e (λ g. meaning_named P vs name m h.1 g)
  where
    same : (a b : Meaning) → Some a ≡ Some b → a ≡ b
    same a b x = cc

    split : (b : Bool) → cond b (Some v.meaning) (meaning_in vs name) ≡ Some m → (meaning_in vs name ≡ Some m → P m.sort m.number) → P m.sort m.number
    split true g next = subst (λ (k : Meaning). P k.sort k.number) (same v.meaning m g) h.0
    split false g next = next g

-- names in a part

pub record AreEntries (t : Tables) (ns : List (List Mention)) (d : ℕ) (ms : List Mention) : Type 0 where
  pub each : (m : Mention) → IsIn m ms → (k : Meaning) → m.meaning ≡ Some k → EntryOf t ns d k.sort k.number

pub in_one : (m : Mention) (xs ys : List Mention) → IsIn m (xs ++ ys) → IsIn m xs ⊎ IsIn m ys
in_one m [] ys i = inr i
in_one m (x ∷ xs) ys (inl e) = inl (inl e)
in_one m (x ∷ xs) ys (inr i) = pick (in_one m xs ys i)
  where
    pick : IsIn m xs ⊎ IsIn m ys → IsIn m (x ∷ xs) ⊎ IsIn m ys
    pick (inl j) = inl (inr j)
    pick (inr j) = inr j

pub no_entries : (t : Tables) (ns : List (List Mention)) (d : ℕ) → AreEntries t ns d []
no_entries t ns d = record { each = λ m i. absurd i }

pub both_entries : (t : Tables) (ns : List (List Mention)) (d : ℕ) (xs ys : List Mention) → AreEntries t ns d xs → AreEntries t ns d ys → AreEntries t ns d (xs ++ ys)
both_entries t ns d xs ys a b = record { each = λ m i k e. pick m k e (in_one m xs ys i) }
  where
    pick : (m : Mention) (k : Meaning) → m.meaning ≡ Some k → IsIn m xs ⊎ IsIn m ys → EntryOf t ns d k.sort k.number
    pick m k e (inl i) = a.each m i k e
    pick m k e (inr i) = b.each m i k e

pub mention_entry : (t : Tables) (ns : List (List Mention)) (d : ℕ) (r : Role) (name : Name) (s : Scope) → AllNamed (EntryOf t ns d) s.visible → AreEntries t ns d (mention r name s ∷ [])
mention_entry t ns d r name s v = record { each = λ m i k e. pick m k e i }
  where
    pick : (m : Mention) (k : Meaning) → m.meaning ≡ Some k → IsIn m (mention r name s ∷ []) → EntryOf t ns d k.sort k.number
    pick m k e (inl x) = meaning_named (EntryOf t ns d) s.visible name.text k v (ap (λ (y : Mention). y.meaning) (sym x) ∙ e)
    pick m k e (inr x) = absurd x

pub places_both : (test : NameSort → Bool) (xs ys : List Mention) → places_of test (xs ++ ys) ≡ places_of test xs ++ places_of test ys
places_both test [] ys = refl
places_both test (x ∷ xs) ys = split (is_new test x.role x.meaning) (places_both test xs ys)
  where
    split : (b : Bool) → places_of test (xs ++ ys) ≡ places_of test xs ++ places_of test ys → cond b (x.at ∷ places_of test (xs ++ ys)) (places_of test (xs ++ ys)) ≡ cond b (x.at ∷ places_of test xs) (places_of test xs) ++ places_of test ys
    split true h = ap (λ l. x.at ∷ l) h
    split false h = h

-- names that are read: none is declared
pub record AreRead (t : Tables) (ns : List (List Mention)) (d : ℕ) (ms : Scope → List Mention) : Type 0 where
  pub places : (test : NameSort → Bool) (s : Scope) → places_of test (ms s) ≡ []
  pub entries : (s : Scope) → AllNamed (EntryOf t ns d) s.visible → AreEntries t ns d (ms s)

pub none_read : (t : Tables) (ns : List (List Mention)) (d : ℕ) → AreRead t ns d (λ s. [])
none_read t ns d = record { places = λ test s. refl; entries = λ s v. no_entries t ns d }

pub both_read : (t : Tables) (ns : List (List Mention)) (d : ℕ) (f g : Scope → List Mention) → AreRead t ns d f → AreRead t ns d g → AreRead t ns d (λ s. f s ++ g s)
both_read t ns d f g a b = record {
  places = λ test s. places_both test (f s) (g s) ∙ ap (λ l. l ++ places_of test (g s)) (a.places test s) ∙ b.places test s;
  entries = λ s v. both_entries t ns d (f s) (g s) (a.entries s v) (b.entries s v);
}

pub emit_read : (t : Tables) (ns : List (List Mention)) (d : ℕ) (name : Name) → AreRead t ns d (λ s. mention role.Emit name s ∷ [])
emit_read t ns d name = record { places = λ test s. refl; entries = λ s v. mention_entry t ns d role.Emit name s v }

pub test_read : (t : Tables) (ns : List (List Mention)) (d : ℕ) (name : Name) → AreRead t ns d (λ s. mention role.Test name s ∷ [])
test_read t ns d name = record { places = λ test s. refl; entries = λ s v. mention_entry t ns d role.Test name s v }

pub send_read : (t : Tables) (ns : List (List Mention)) (d : ℕ) (name : Name) → AreRead t ns d (λ s. mention role.Send name s ∷ [])
send_read t ns d name = record { places = λ test s. refl; entries = λ s v. mention_entry t ns d role.Send name s v }

pub receive_read : (t : Tables) (ns : List (List Mention)) (d : ℕ) (name : Name) → AreRead t ns d (λ s. mention role.Receive name s ∷ [])
receive_read t ns d name = record { places = λ test s. refl; entries = λ s v. mention_entry t ns d role.Receive name s v }

pub status_read : (t : Tables) (ns : List (List Mention)) (d : ℕ) (name : Name) → AreRead t ns d (λ s. mention role.Status name s ∷ [])
status_read t ns d name = record { places = λ test s. refl; entries = λ s v. mention_entry t ns d role.Status name s v }

pub exit_read : (t : Tables) (ns : List (List Mention)) (d : ℕ) (name : Name) → AreRead t ns d (λ s. mention role.Exit name s ∷ [])
exit_read t ns d name = record { places = λ test s. refl; entries = λ s v. mention_entry t ns d role.Exit name s v }

pub variable_read : (t : Tables) (ns : List (List Mention)) (d : ℕ) (name : Name) → AreRead t ns d (λ s. mention role.Variable name s ∷ [])
variable_read t ns d name = record { places = λ test s. refl; entries = λ s v. mention_entry t ns d role.Variable name s v }

-- expressions and tests

module _ (t : Tables) (ns : List (List Mention)) (d : ℕ) where
  abbrev ReadRaw : Raw Name → Type 0
  ReadRaw e = AreRead t ns d (expression_mentions e)

  raw_step : (y : Raw-F Name ((e : Raw Name) × ReadRaw e)) → AreRead t ns d (raw_layer (raw.map-Raw Name ((e : Raw Name) × ReadRaw e) (Scope → List Mention) (λ e. expression_mentions e.0) y))
  raw_step (Raw-F.Literal at v) = none_read t ns d
  raw_step (Raw-F.Least at v) = none_read t ns d
  raw_step (Raw-F.Variable at name) = variable_read t ns d name
  raw_step (Raw-F.Status at name_at name) = status_read t ns d name
  raw_step (Raw-F.Unary at op e) = e.1
  raw_step (Raw-F.Cast at kind e) = e.1
  raw_step (Raw-F.Group at e) = e.1
  raw_step (Raw-F.Binary at op l r) = both_read t ns d (expression_mentions l.0) (expression_mentions r.0) l.1 r.1

  abbrev ReadTest : Test Name → Type 0
  ReadTest e = AreRead t ns d (test_mentions e)

  test_step : (y : Test-F Name ((e : Test Name) × ReadTest e)) → AreRead t ns d (test_layer (signal_test.map-Test Name ((e : Test Name) × ReadTest e) (Scope → List Mention) (λ e. test_mentions e.0) y))
  test_step (Test-F.Signal at name) = test_read t ns d name
  test_step (Test-F.Not at e) = e.1
  test_step (Test-F.Group at e) = e.1
  test_step (Test-F.Both at l r) = both_read t ns d (test_mentions l.0) (test_mentions r.0) l.1 r.1
  test_step (Test-F.Either at l r) = both_read t ns d (test_mentions l.0) (test_mentions r.0) l.1 r.1

  raw_rolled : (y : Raw-F Name ((e : Raw Name) × ReadRaw e)) → expression_mentions (raw.roll-Raw Name (raw.map-Raw Name ((e : Raw Name) × ReadRaw e) (Raw Name) (λ e. e.0) y)) ≡ raw_layer (raw.map-Raw Name ((e : Raw Name) × ReadRaw e) (Scope → List Mention) (λ e. expression_mentions e.0) y)
  raw_rolled (Raw-F.Literal at v) = fold-roll-Raw Name (Scope → List Mention) raw_layer (Raw-F.Literal at v)
  raw_rolled (Raw-F.Least at v) = fold-roll-Raw Name (Scope → List Mention) raw_layer (Raw-F.Least at v)
  raw_rolled (Raw-F.Variable at name) = fold-roll-Raw Name (Scope → List Mention) raw_layer (Raw-F.Variable at name)
  raw_rolled (Raw-F.Status at name_at name) = fold-roll-Raw Name (Scope → List Mention) raw_layer (Raw-F.Status at name_at name)
  raw_rolled (Raw-F.Unary at op e) = fold-roll-Raw Name (Scope → List Mention) raw_layer (Raw-F.Unary at op e.0)
  raw_rolled (Raw-F.Cast at kind e) = fold-roll-Raw Name (Scope → List Mention) raw_layer (Raw-F.Cast at kind e.0)
  raw_rolled (Raw-F.Group at e) = fold-roll-Raw Name (Scope → List Mention) raw_layer (Raw-F.Group at e.0)
  raw_rolled (Raw-F.Binary at op l r) = fold-roll-Raw Name (Scope → List Mention) raw_layer (Raw-F.Binary at op l.0 r.0)

  test_rolled : (y : Test-F Name ((e : Test Name) × ReadTest e)) → test_mentions (signal_test.roll-Test Name (signal_test.map-Test Name ((e : Test Name) × ReadTest e) (Test Name) (λ e. e.0) y)) ≡ test_layer (signal_test.map-Test Name ((e : Test Name) × ReadTest e) (Scope → List Mention) (λ e. test_mentions e.0) y)
  test_rolled (Test-F.Signal at name) = fold-roll-Test Name (Scope → List Mention) test_layer (Test-F.Signal at name)
  test_rolled (Test-F.Not at e) = fold-roll-Test Name (Scope → List Mention) test_layer (Test-F.Not at e.0)
  test_rolled (Test-F.Group at e) = fold-roll-Test Name (Scope → List Mention) test_layer (Test-F.Group at e.0)
  test_rolled (Test-F.Both at l r) = fold-roll-Test Name (Scope → List Mention) test_layer (Test-F.Both at l.0 r.0)
  test_rolled (Test-F.Either at l r) = fold-roll-Test Name (Scope → List Mention) test_layer (Test-F.Either at l.0 r.0)

  pub raw_read : (e : Raw Name) → AreRead t ns d (expression_mentions e)
  raw_read = ind-Raw Name ReadRaw (λ x y is. subst (λ z. ReadRaw (raw.roll-Raw Name z)) is (subst (AreRead t ns d) (sym (raw_rolled y)) (raw_step y)))

  pub tests_read : (e : Test Name) → AreRead t ns d (test_mentions e)
  tests_read = ind-Test Name ReadTest (λ x y is. subst (λ z. ReadTest (signal_test.roll-Test Name z)) is (subst (AreRead t ns d) (sym (test_rolled y)) (test_step y)))
