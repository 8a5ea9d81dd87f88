-- What the parts of a domain declare, in the tables.
use Rattle.std.proofs.Common.{◌≡◌, ℕ, zero, suc, ◌+◌, ◌==◌, Bool, true, false, ◌&&◌, cond, nat_lt, List, [], ◌∷◌, ◌++◌, length, take, drop, get_or, Some, None, ap, refl, sym, ◌∙◌, subst, arith, append_assoc, append-nil, length-append}
use Rattle.std.specs.Prelude.{Option}
use Rattle.std.specs.List.{flat_map, list_all}
use Rattle.std.proofs.lemmas.List.Folds.{list_all-append}
use Rattle.std.proofs.lemmas.Grind.{flat_map-append}
use Rattle.std.proofs.lemmas.Bool.Decides.{nat_tests}
use Rattle.std.proofs.Math.Seq.{drop-append_seam}
use Rattle.java_values.specs.declared.kind.Kind.{Kind}
use Rattle.kernel_terms.specs.declared.tables.Tables.{Tables}
use Rattle.kernel_terms.specs.declared.tables.SignalInfo.{SignalInfo}
use Rattle.kernel_terms.specs.declared.tables.VariableInfo.{VariableInfo}
use Rattle.kernel_terms.specs.declared.tables.Sort.TheVariants as table_sort
use Rattle.kernel_terms.specs.TableEntries.{no_signal, no_variable, signal_at, variable_at, is_local}
use Rattle.kernel_terms.specs.WellFormed.{is_local_of, is_variable_of}
use Rattle.sj_ast.specs.declared.name.Name.{Name}
use Rattle.sj_ast.specs.declared.expression.Raw.{Raw}
use Rattle.sj_ast.specs.declared.port.Signal.{Signal}
use Rattle.sj_names.specs.declared.mention.NameSort.{NameSort}
use Rattle.sj_names.specs.declared.mention.NameSort.TheVariants as sort
use Rattle.sj_names.specs.declared.mention.Role.TheVariants as role
use Rattle.sj_names.specs.declared.mention.Meaning.{Meaning}
use Rattle.sj_names.specs.declared.mention.Mention.{Mention}
use Rattle.sj_names.specs.definitions.Scopes.{Named, Scope, meaning_in, declare, declared_where, count_of, counted}
use Rattle.sj_names.specs.definitions.Mentions.{Told, NamedPart, mention, silent, told, then, closed, declared, expression_mentions, new_variable}
use Rattle.sj_names.specs.definitions.Failures.{is_signal, is_variable, is_new, places_of, role_failures, own_failures}
use Rattle.sj_names.specs.definitions.DeclaredTables.{Declared, nothing, both, signal_info}
use Rattle.sj_names.proofs.ListedNames.{empty_first, empty_second}
use Rattle.sj_names.proofs.EntryLemmas.{EntryOf, AllNamed, one_named_more, AreEntries, no_entries, both_entries, mention_entry, places_both, AreRead, raw_read}

-- a part of a table that stands at a number
pub record StandsAt {X : Type 0} (part whole : List X) (n : ℕ) : Type 0 where
  pub behind : List X
  pub is : drop n whole ≡ part ++ behind

drop_none : {X : Type 0} (k : ℕ) (xs : List X) → xs ≡ [] → drop k xs ≡ []
drop_none zero xs h = h
drop_none (suc k) [] h = refl
drop_none (suc k) (x ∷ xs) h = absurd (cc)

zero_first : (m : ℕ) → 0 + m ≡ m
zero_first m = omega arith

suc_first : (n m : ℕ) → suc n + m ≡ suc (n + m)
suc_first n m = omega arith

drop_more : {X : Type 0} (n m : ℕ) (xs : List X) → drop (n + m) xs ≡ drop m (drop n xs)
drop_more zero m xs = ap (λ k. drop k xs) (zero_first m)
drop_more (suc n) m [] = ap (λ k. drop k []) (suc_first n m) ∙ sym (drop_none m [] refl)
drop_more (suc n) m (x ∷ xs) = ap (λ k. drop k (x ∷ xs)) (suc_first n m) ∙ drop_more n m xs

pub stands_first : {X : Type 0} (xs ys whole : List X) (n : ℕ) → StandsAt (xs ++ ys) whole n → StandsAt xs whole n
stands_first xs ys whole n s = record { behind = ys ++ s.behind; is = s.is ∙ append_assoc xs ys s.behind }

pub stands_second : {X : Type 0} (xs ys whole : List X) (n m : ℕ) → m ≡ n + length xs → StandsAt (xs ++ ys) whole n → StandsAt ys whole m
stands_second xs ys whole n m e s = record {
  behind = s.behind;
  is = ap (λ k. drop k whole) e ∙ drop_more n (length xs) whole ∙ ap (drop (length xs)) (s.is ∙ append_assoc xs ys s.behind) ∙ drop-append_seam xs (ys ++ s.behind);
}

next_below : (n m : ℕ) → nat_lt n m ≡ true → nat_lt (suc n) (suc m) ≡ true
next_below n m h = grind (arith, nat_tests)

pub entry_there : {X : Type 0} (whole : List X) (n : ℕ) (x d : X) (more : List X) → drop n whole ≡ x ∷ more → (nat_lt n (length whole) ≡ true) × (get_or whole n d ≡ x)
entry_there [] zero x d more h = absurd (cc)
entry_there [] (suc n) x d more h = absurd (cc)
entry_there (y ∷ ys) zero x d more h = (lt, first (h))
  where
    lt : nat_lt 0 (length (y ∷ ys)) ≡ true
    lt = grind (arith, nat_tests)

    first : y ∷ ys ≡ x ∷ more → y ≡ x
    first e = cc
entry_there (y ∷ ys) (suc n) x d more h = let r = entry_there ys n x d more h in (next_below n (length ys) r.0, r.1)

-- the names that are visible before a part stay so behind it
pub record Extends (old new : List Named) : Type 0 where
  pub more : List Named
  pub is : new ≡ old ++ more

pub extends_same : (vs : List Named) → Extends vs vs
extends_same vs = record { more = []; is = sym (append-nil vs) }

pub extends_both : (us vs ws : List Named) → Extends us vs → Extends vs ws → Extends us ws
extends_both us vs ws a b = record { more = a.more ++ b.more; is = b.is ∙ ap (λ l. l ++ b.more) a.is ∙ append_assoc us a.more b.more }

take_all : (us vs : List Named) → take (length us) (us ++ vs) ≡ us
take_all [] vs = refl
take_all (u ∷ us) vs = ap (λ l. u ∷ l) (take_all us vs)

pub extends_taken : (us vs : List Named) → Extends us vs → take (length us) vs ≡ us
extends_taken us vs e = ap (take (length us)) e.is ∙ take_all us e.more

pub record CountsFit (D : Declared) (s : Scope) (t : Told) : Type 0 where
  pub signals : t.scope.counts.signals ≡ s.counts.signals + length D.signals
  pub variables : t.scope.counts.variables ≡ s.counts.variables + length D.variables
  pub signal_places : length (places_of is_signal t.mentions) ≡ length D.signals
  pub variable_places : length (places_of is_variable t.mentions) ≡ length D.variables

pub record EntriesFit (t : Tables) (ns : List (List Mention)) (d : ℕ) (u : Told) : Type 0 where
  pub mentions : AreEntries t ns d u.mentions
  pub visible : AllNamed (EntryOf t ns d) u.scope.visible

pub pair_true : (a b : Bool) → a ≡ true → b ≡ true → (a && b) ≡ true
pair_true true true x y = refl
pair_true true false x y = absurd (cc)
pair_true false b x y = absurd (cc)

pub is_itself : (n : ℕ) → (n == n) ≡ true
is_itself n = grind (arith, nat_tests)

-- a local signal of the domain, and a variable of it
abbrev pub is_own_signal : ℕ → SignalInfo → Bool
is_own_signal d i = is_local i.sort && (i.domain == d)

abbrev pub is_own_variable : ℕ → VariableInfo → Bool
is_own_variable d i = i.domain == d

-- a part of the domain whose names have no failure declares this, where its entries stand in the tables
pub record Declares (t : Tables) (ns : List (List Mention)) (d : ℕ) (p : NamedPart) (D : Declared) : Type 0 where
  pub locals : list_all (is_own_signal d) D.signals ≡ true
  pub variables : list_all (is_own_variable d) D.variables ≡ true
  pub visible : (s : Scope) → Extends s.visible (p s).scope.visible
  pub counts : (s : Scope) → flat_map own_failures (p s).mentions ≡ [] → CountsFit D s (p s)
  pub entries : (s : Scope) → flat_map own_failures (p s).mentions ≡ [] → StandsAt D.signals t.signals s.counts.signals → StandsAt D.variables t.variables s.counts.variables → AllNamed (EntryOf t ns d) s.visible → EntriesFit t ns d (p s)

zero_more : (n : ℕ) → n ≡ n + 0
zero_more n = omega arith

one_more : (n : ℕ) → n + 1 ≡ n + 1
one_more n = refl

pub declares_read : (t : Tables) (ns : List (List Mention)) (d : ℕ) (ms : Scope → List Mention) → AreRead t ns d ms → Declares t ns d (told ms) nothing
declares_read t ns d ms r = record {
  locals = refl;
  variables = refl;
  visible = λ s. extends_same s.visible;
  counts = λ s h. record { signals = zero_more s.counts.signals; variables = zero_more s.counts.variables; signal_places = ap length (r.places is_signal s); variable_places = ap length (r.places is_variable s) };
  entries = λ s h a b v. record { mentions = r.entries s v; visible = v };
}

pub declares_silent : (t : Tables) (ns : List (List Mention)) (d : ℕ) → Declares t ns d silent nothing
declares_silent t ns d = record {
  locals = refl;
  variables = refl;
  visible = λ s. extends_same s.visible;
  counts = λ s h. record { signals = zero_more s.counts.signals; variables = zero_more s.counts.variables; signal_places = refl; variable_places = refl };
  entries = λ s h a b v. record { mentions = no_entries t ns d; visible = v };
}

pub first_sound : (xs ys : List Mention) → flat_map own_failures (xs ++ ys) ≡ [] → flat_map own_failures xs ≡ []
first_sound xs ys h = empty_first (flat_map own_failures xs) (flat_map own_failures ys) (sym (flat_map-append own_failures xs ys) ∙ h)

pub second_sound : (xs ys : List Mention) → flat_map own_failures (xs ++ ys) ≡ [] → flat_map own_failures ys ≡ []
second_sound xs ys h = empty_second (flat_map own_failures xs) (flat_map own_failures ys) (sym (flat_map-append own_failures xs ys) ∙ h)

counts_then : (D E : Declared) (s : Scope) (u w : Told) → CountsFit D s u → CountsFit E u.scope w → CountsFit (both D E) s (record { scope = w.scope; mentions = u.mentions ++ w.mentions })
counts_then D E s u w a b = record {
  signals = let l = length-append D.signals E.signals in let x = a.signals in let y = b.signals in omega arith;
  variables = let l = length-append D.variables E.variables in let x = a.variables in let y = b.variables in omega arith;
  signal_places = ap length (places_both is_signal u.mentions w.mentions) ∙ length-append (places_of is_signal u.mentions) (places_of is_signal w.mentions) ∙ ap (λ n. n + length (places_of is_signal w.mentions)) a.signal_places ∙ ap (λ n. length D.signals + n) b.signal_places ∙ sym (length-append D.signals E.signals);
  variable_places = ap length (places_both is_variable u.mentions w.mentions) ∙ length-append (places_of is_variable u.mentions) (places_of is_variable w.mentions) ∙ ap (λ n. n + length (places_of is_variable w.mentions)) a.variable_places ∙ ap (λ n. length D.variables + n) b.variable_places ∙ sym (length-append D.variables E.variables);
}

pub declares_then : (t : Tables) (ns : List (List Mention)) (d : ℕ) (p q : NamedPart) (D E : Declared) → Declares t ns d p D → Declares t ns d q E → Declares t ns d (then p q) (both D E)
declares_then t ns d p q D E a b = record {
  locals = list_all-append (is_own_signal d) D.signals E.signals ∙ pair_true (list_all (is_own_signal d) D.signals) (list_all (is_own_signal d) E.signals) a.locals b.locals;
  variables = list_all-append (is_own_variable d) D.variables E.variables ∙ pair_true (list_all (is_own_variable d) D.variables) (list_all (is_own_variable d) E.variables) a.variables b.variables;
  visible = λ s. extends_both s.visible (p s).scope.visible (q (p s).scope).scope.visible (a.visible s) (b.visible (p s).scope);
  counts = λ s h. counts_then D E s (p s) (q (p s).scope) (a.counts s (first_sound (p s).mentions (q (p s).scope).mentions h)) (b.counts (p s).scope (second_sound (p s).mentions (q (p s).scope).mentions h));
  entries = λ s h x y v.
      let f = first_sound (p s).mentions (q (p s).scope).mentions h in
      let g = second_sound (p s).mentions (q (p s).scope).mentions h in
      let c = a.counts s f in
      let i = a.entries s f (stands_first D.signals E.signals t.signals s.counts.signals x) (stands_first D.variables E.variables t.variables s.counts.variables y) v in
      let j = b.entries (p s).scope g (stands_second D.signals E.signals t.signals s.counts.signals (p s).scope.counts.signals c.signals x) (stands_second D.variables E.variables t.variables s.counts.variables (p s).scope.counts.variables c.variables y) i.visible in
      record { mentions = both_entries t ns d (p s).mentions (q (p s).scope).mentions i.mentions j.mentions; visible = j.visible };
}

both_nothing : (D : Declared) → both nothing D ≡ D
both_nothing D = refl

nothing_behind : (D : Declared) → both D nothing ≡ D
nothing_behind D = ap (λ l. let x : Declared = record { signals = l; variables = D.variables ++ [] } in x) (append-nil D.signals) ∙ ap (λ l. let x : Declared = record { signals = D.signals; variables = l } in x) (append-nil D.variables)

-- names that are read, and then a part; a part, and then names that are read
pub declares_behind : (t : Tables) (ns : List (List Mention)) (d : ℕ) (ms : Scope → List Mention) (p : NamedPart) (D : Declared) → AreRead t ns d ms → Declares t ns d p D → Declares t ns d (then (told ms) p) D
declares_behind t ns d ms p D r a = subst (Declares t ns d (then (told ms) p)) (both_nothing D) (declares_then t ns d (told ms) p nothing D (declares_read t ns d ms r) a)

pub declares_before : (t : Tables) (ns : List (List Mention)) (d : ℕ) (ms : Scope → List Mention) (p : NamedPart) (D : Declared) → Declares t ns d p D → AreRead t ns d ms → Declares t ns d (then p (told ms)) D
declares_before t ns d ms p D a r = subst (Declares t ns d (then p (told ms))) (nothing_behind D) (declares_then t ns d p (told ms) D nothing a (declares_read t ns d ms r))

pub declares_closed : (t : Tables) (ns : List (List Mention)) (d : ℕ) (p : NamedPart) (D : Declared) → Declares t ns d p D → Declares t ns d (closed p) D
declares_closed t ns d p D a = record {
  locals = a.locals;
  variables = a.variables;
  visible = λ s. record { more = []; is = extends_taken s.visible (p s).scope.visible (a.visible s) ∙ sym (append-nil s.visible) };
  counts = λ s h. let c = a.counts s h in record { signals = c.signals; variables = c.variables; signal_places = c.signal_places; variable_places = c.variable_places };
  entries = λ s h x y v. record { mentions = (a.entries s h x y v).mentions; visible = subst (AllNamed (EntryOf t ns d)) (sym (extends_taken s.visible (p s).scope.visible (a.visible s))) v };
}

-- a name that is declared

new_name : (s : NameSort) (at : ℕ) (o : Option Meaning) → role_failures (role.Declare s) at o ≡ [] → o ≡ None
new_name s at None h = refl
new_name s at (Some m) h = absurd (cc)

one_own : (m : Mention) (ms : List Mention) → flat_map own_failures (m ∷ ms) ≡ [] → own_failures m ≡ []
one_own m ms h = empty_first (own_failures m) (flat_map own_failures ms) h

pub not_visible : (s : NameSort) (name : Name) (c : Scope) (ms : List Mention) → flat_map own_failures (mention (role.Declare s) name c ∷ ms) ≡ [] → meaning_in c.visible name.text ≡ None
not_visible s name c ms h = new_name s name.at (meaning_in c.visible name.text) (one_own (mention (role.Declare s) name c) ms h)

pub extends_declared : (o : Option Meaning) (s : NameSort) (name : List ℕ) (c : Scope) → Extends c.visible (declared_where o s name c).visible
extends_declared (Some m) s name c = extends_same c.visible
extends_declared None s name c = record { more = record { name = name; meaning = record { sort = s; number = count_of s c.counts } } ∷ []; is = refl }

counts_new : (s : NameSort) (name : Name) (c : Scope) (more : List Mention) (D : Declared) → meaning_in c.visible name.text ≡ None → ((test : NameSort → Bool) → places_of test more ≡ [])
    → (counted s c.counts).signals ≡ c.counts.signals + length D.signals → (counted s c.counts).variables ≡ c.counts.variables + length D.variables
    → length (cond (is_signal s) (name.at ∷ []) []) ≡ length D.signals → length (cond (is_variable s) (name.at ∷ []) []) ≡ length D.variables
    → CountsFit D c (record { scope = declare s name.text c; mentions = mention (role.Declare s) name c ∷ more })
counts_new s name c more D e none a b x y = record {
  signals = ap (λ o. (declared_where o s name.text c).counts.signals) e ∙ a;
  variables = ap (λ o. (declared_where o s name.text c).counts.variables) e ∙ b;
  signal_places = ap length (ap (λ o. cond (is_new is_signal (role.Declare s) o) (name.at ∷ places_of is_signal more) (places_of is_signal more)) e ∙ ap (λ l. cond (is_signal s) (name.at ∷ l) l) (none is_signal)) ∙ x;
  variable_places = ap length (ap (λ o. cond (is_new is_variable (role.Declare s) o) (name.at ∷ places_of is_variable more) (places_of is_variable more)) e ∙ ap (λ l. cond (is_variable s) (name.at ∷ l) l) (none is_variable)) ∙ y;
}

visible_new : (t : Tables) (ns : List (List Mention)) (d : ℕ) (s : NameSort) (name : List ℕ) (c : Scope) → meaning_in c.visible name ≡ None → AllNamed (EntryOf t ns d) c.visible → EntryOf t ns d s (count_of s c.counts) → AllNamed (EntryOf t ns d) (declare s name c).visible
visible_new t ns d s name c e v h =
    subst (λ o. AllNamed (EntryOf t ns d) (declared_where o s name c).visible) (sym e) (one_named_more (EntryOf t ns d) c.visible (record { name = name; meaning = record { sort = s; number = count_of s c.counts } }) v h)

no_places : (test : NameSort → Bool) → places_of test [] ≡ []
no_places test = refl

and_true : (a b c : Bool) → a ≡ true → b ≡ true → c ≡ true → (a && (b && c)) ≡ true
and_true true true true x y z = refl
and_true true true false x y z = absurd (cc)
and_true true false c x y z = absurd (cc)
and_true false b c x y z = absurd (cc)

pub local_entry : (t : Tables) (d n : ℕ) (signal : Signal Name) → StandsAt (signal_info table_sort.Local d signal ∷ []) t.signals n → is_local_of t d n ≡ true
local_entry t d n signal s =
    let r = entry_there t.signals n (signal_info table_sort.Local d signal) no_signal s.behind s.is in
    and_true (nat_lt n (length t.signals)) (is_local (signal_at t n).sort) ((signal_at t n).domain == d) r.0 (ap (λ (i : SignalInfo). is_local i.sort) r.1) (ap (λ (i : SignalInfo). i.domain == d) r.1 ∙ is_itself d)

pub declares_signal : (t : Tables) (ns : List (List Mention)) (d : ℕ) (signal : Signal Name) → Declares t ns d (declared sort.Local signal.name) (record { signals = signal_info table_sort.Local d signal ∷ []; variables = [] })
declares_signal t ns d signal = record {
  locals = pair_true (d == d) true (is_itself d) refl;
  variables = refl;
  visible = λ s. extends_declared (meaning_in s.visible signal.name.text) sort.Local signal.name.text s;
  counts = λ s h. counts_new sort.Local signal.name s [] (record { signals = signal_info table_sort.Local d signal ∷ []; variables = [] }) (not_visible sort.Local signal.name s [] h) no_places refl (zero_more s.counts.variables) refl refl;
  entries = λ s h x y v. record {
    mentions = mention_entry t ns d (role.Declare sort.Local) signal.name s v;
    visible = visible_new t ns d sort.Local signal.name.text s (not_visible sort.Local signal.name s [] h) v (local_entry t d s.counts.signals signal x);
  };
}

pub declares_trap : (t : Tables) (ns : List (List Mention)) (d : ℕ) (name : Name) → Declares t ns d (declared sort.Trap name) nothing
declares_trap t ns d name = record {
  locals = refl;
  variables = refl;
  visible = λ s. extends_declared (meaning_in s.visible name.text) sort.Trap name.text s;
  counts = λ s h. counts_new sort.Trap name s [] nothing (not_visible sort.Trap name s [] h) no_places (zero_more s.counts.signals) (zero_more s.counts.variables) refl refl;
  entries = λ s h x y v. record { mentions = mention_entry t ns d (role.Declare sort.Trap) name s v; visible = visible_new t ns d sort.Trap name.text s (not_visible sort.Trap name s [] h) v tt };
}

variable_entry : (t : Tables) (d n : ℕ) (kind : Kind) (x : VariableInfo) → x ≡ record { domain = d; kind = kind } → StandsAt (x ∷ []) t.variables n → is_variable_of t d n ≡ true
variable_entry t d n kind x e s =
    let r = entry_there t.variables n x no_variable s.behind s.is in
    pair_true (nat_lt n (length t.variables)) ((variable_at t n).domain == d) r.0 (ap (λ (i : VariableInfo). i.domain == d) (r.1 ∙ e) ∙ is_itself d)

pub declares_variable : (t : Tables) (ns : List (List Mention)) (d : ℕ) (kind : Kind) (name : Name) (value : Raw Name) → Declares t ns d (new_variable name value) (record { signals = []; variables = record { domain = d; kind = kind } ∷ [] })
declares_variable t ns d kind name value = record {
  locals = refl;
  variables = pair_true (d == d) true (is_itself d) refl;
  visible = λ s. extends_declared (meaning_in s.visible name.text) sort.Variable name.text s;
  counts = λ s h. counts_new sort.Variable name s (expression_mentions value s) (record { signals = []; variables = record { domain = d; kind = kind } ∷ [] }) (not_visible sort.Variable name s (expression_mentions value s) h) (λ test. (raw_read t ns d value).places test s) (zero_more s.counts.signals) refl refl refl;
  entries = λ s h x y v. record {
    mentions = both_entries t ns d (mention (role.Declare sort.Variable) name s ∷ []) (expression_mentions value s) (mention_entry t ns d (role.Declare sort.Variable) name s v) ((raw_read t ns d value).entries s v);
    visible = visible_new t ns d sort.Variable name.text s (not_visible sort.Variable name s (expression_mentions value s) h) v (variable_entry t d s.counts.variables kind (record { domain = d; kind = kind }) refl y);
  };
}
