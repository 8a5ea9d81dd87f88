-- What builds the starting copies of statements without parts.
use Rattle.std.proofs.Common.{◌≡◌, ℕ, ◌+◌, ◌<◌, ◌==◌, nat_lt, Bool, true, false, ◌&&◌, ◌||◌, cond, List, [], ◌∷◌, ◌++◌, length, set, Vec, arith, refl, ap, ◌∙◌, sym, subst, append-nil, append_assoc, slice_index, ◌≤◌, Option}
use Rattle.std.specs.Global.{Global}
use Rattle.std.proofs.lemmas.Bool.Decides.{nat_tests}
use Rattle.std.proofs.lemmas.List.{length-set}
use Rattle.kernel_terms.specs.declared.tables.Tables.{Tables}
use Rattle.kernel_terms.specs.Expressions.{Expression}
use Rattle.kernel_terms.specs.Statements.{Nothing, Pause, Emit, Assign, Send, Receive}
use Rattle.kernel_rules.specs.definitions.Signals.{put_at}
use Rattle.surf_graph.specs.declared.builder.Builder.{Builder}
use Rattle.surf_graph.specs.declared.change.Change.{Change}
use Rattle.surf_graph.specs.declared.copy_builder.CopyBuilder.{CopyBuilder}
use Rattle.surf_graph.specs.declared.copy_builder.Given.{Given}
use Rattle.surf_graph.specs.declared.copy_builder.Guarded.{Guarded}
use Rattle.surf_graph.specs.declared.copy_builder.Made.{Made}
use Rattle.surf_graph.specs.declared.wire_tables.WireTables.{WireTables}
use Rattle.surf_graph.specs.Building.{wires_in}
use Rattle.surf_graph.specs.Copying.{SpellsOut, buckets, bucket, emits_of, sets_of, is_own, own_sets, context, Changes, SameTables, Builds}
use Rattle.surf_graph.specs.StartsBuilt.{Owns, Starts}
use Rattle.surf_graph.specs.definitions.Copies.{Copy, Sets, none, emitted_value}
use Rattle.surf_graph.specs.definitions.Formulas.{Status, And, Value, Choose}
use Rattle.surf_graph.specs.definitions.StartingCopies.{start}
use Rattle.surf_graph.proofs.Parts.{by_cases}
use Rattle.surf_graph.proofs.SpellingOut.{equation}
use Rattle.surf_graph.proofs.CopiesBuilt.{at_set, equal_if, count_added, bucket_added, same_bucket, sets_where, no_sets, no_changes, same_tables}

-- the sets of the registers of one statement

abbrev guarded : Sets → Guarded
guarded s = record { condition = s.condition; value = s.value }

pub one_set : (first k : ℕ) (s : Sets) → own_sets first 1 (λ (j : ℕ). s ∷ []) k ≡ cond (k == first) (guarded s ∷ []) []
one_set first k s =
    by_cases (k == first)
    (λ e. sets_where first 1 k (λ (j : ℕ). s ∷ []) (guarded s ∷ []) (λ f. refl) (λ f. absurd (let x : ⊥ = grind (arith, nat_tests) in x)) ∙ ap (λ b. cond b (guarded s ∷ []) []) (sym e))
    (λ e. sets_where first 1 k (λ (j : ℕ). s ∷ []) [] (λ f. absurd (let x : ⊥ = grind (arith, nat_tests) in x)) (λ f. refl) ∙ ap (λ b. cond b (guarded s ∷ []) []) (sym e))

first_set : (first k : ℕ) (s : Sets) → own_sets first 2 (λ (j : ℕ). cond (j == first) (s ∷ []) []) k ≡ cond (k == first) (guarded s ∷ []) []
first_set first k s =
    let sets : ℕ → List Sets = λ (j : ℕ). cond (j == first) (s ∷ []) [] in
    by_cases (k == first)
    (λ e. sets_where first 2 k sets (guarded s ∷ []) (λ f. ap (λ b. sets_of (cond b (s ∷ []) [])) e) (λ f. absurd (let x : ⊥ = grind (arith, nat_tests) in x)) ∙ ap (λ b. cond b (guarded s ∷ []) []) (sym e))
    (λ e. sets_where first 2 k sets [] (λ f. ap (λ b. sets_of (cond b (s ∷ []) [])) e) (λ f. refl) ∙ ap (λ b. cond b (guarded s ∷ []) []) (sym e))

-- of a send, by which register it is
abbrev send_sets : ℕ → Sets → Sets → ℕ → List Sets
send_sets first s t k = cond (k == first) (s ∷ []) (cond (k == first + 1) [] (t ∷ []))

abbrev two_sets : Bool → Bool → Sets → Sets → List Guarded
two_sets a b s t = cond a (guarded s ∷ []) [] ++ cond b (guarded t ∷ []) []

sends : (first k : ℕ) (s t : Sets) (a b c : Bool) → (k == first) ≡ a → (k == first + 1) ≡ b → (k == first + 2) ≡ c → own_sets first 3 (send_sets first s t) k ≡ two_sets a c s t
sends first k s t true b true e f g = absurd (let x : ⊥ = grind (arith, nat_tests) in x)
sends first k s t true b false e f g =
    sets_where first 3 k (send_sets first s t) (guarded s ∷ []) (λ h. ap (λ x. sets_of (cond x (s ∷ []) (cond (k == first + 1) [] (t ∷ [])))) e)
    (λ h. absurd (let x : ⊥ = grind (arith, nat_tests) in x))
sends first k s t false true true e f g = absurd (let x : ⊥ = grind (arith, nat_tests) in x)
sends first k s t false true false e f g =
    sets_where first 3 k (send_sets first s t) [] (λ h. ap (λ x. sets_of (cond x (s ∷ []) (cond (k == first + 1) [] (t ∷ [])))) e ∙ ap (λ x. sets_of (cond x [] (t ∷ []))) f)
    (λ h. refl)
sends first k s t false false true e f g =
    sets_where first 3 k (send_sets first s t) (guarded t ∷ []) (λ h. ap (λ x. sets_of (cond x (s ∷ []) (cond (k == first + 1) [] (t ∷ [])))) e ∙ ap (λ x. sets_of (cond x [] (t ∷ []))) f)
    (λ h. absurd (let x : ⊥ = grind (arith, nat_tests) in x))
sends first k s t false false false e f g =
    sets_where first 3 k (send_sets first s t) [] (λ h. absurd (let x : ⊥ = grind (arith, nat_tests) in x)) (λ h. refl)

-- a copy that changes no variable
leaf_built : (old : CopyBuilder) (b : Builder) (emits sets : Vec (Vec Guarded Global) Global) (first count : ℕ) (a : Copy)
    → SpellsOut old.builder b a.equations → b.next ≡ a.next → ((x : ℕ) → (wires_in old.wires).variables x ≡ a.variables x)
    → length emits.items ≡ length old.emits.items → ((s : ℕ) → bucket emits.items s ≡ bucket old.emits.items s ++ emits_of s a.emits)
    → length sets.items ≡ length old.sets.items → ((k : ℕ) → bucket sets.items k ≡ bucket old.sets.items k ++ own_sets first count a.sets k)
    → Builds old (record old { builder = b; emits = emits; sets = sets }) first count [] a
leaf_built old b emits sets first count a e n v es em ss st =
    let new : CopyBuilder = record old { builder = b; emits = emits; sets = sets } in
    record {
      equations = e;
      next = n;
      variables = v;
      tables = same_tables old.wires new.wires refl;
      changes = no_changes old new refl refl;
      signals = es;
      emits = em;
      registers = ss;
      sets = st;
    }

none_set : (old : CopyBuilder) (first count k : ℕ) → bucket old.sets.items k ≡ bucket old.sets.items k ++ own_sets first count none k
none_set old first count k = same_bucket old.sets.items k ∙ ap (λ l. bucket old.sets.items k ++ l) (sym (no_sets first count k))

no_more : (n : ℕ) → n ≡ n + 0
no_more n = omega arith

pub nothing_starts : (tables : Tables) (old : CopyBuilder) (b : Builder) (given : Given) (n : ℕ) → Owns old.builder b 1 (equation old.builder.next (Status given.go 0) ∷ []) n
    → Starts tables old (record old { builder = b }) given Nothing (record { status = n; live = 0; ends = true; register = given.register })
nothing_starts tables old b given n o = record {
  built = leaf_built old b old.emits old.sets given.register 0 (start tables Nothing (context old given)) o.equations o.next (λ x. refl) refl (same_bucket old.emits.items) refl (none_set old given.register 0);
  status = o.first;
  live = refl;
  ends = refl;
  register = λ e. no_more given.register;
}

-- one set more, on the wire behind the status
added : (lists : List (Vec Guarded Global)) (new : Vec (Vec Guarded Global) Global) (i : ℕ) (g : Guarded) → i < length lists → buckets new.items ≡ set (buckets lists) i (bucket lists i ++ (g ∷ [])) → (x : List Guarded) (k : ℕ) → x ≡ cond (k == i) (g ∷ []) [] → bucket new.items k ≡ bucket lists k ++ x
added lists new i g lt is x k e = bucket_added lists new.items i g lt is k ∙ ap (λ l. bucket lists k ++ l) (sym e)

pub pause_starts : (tables : Tables) (old : CopyBuilder) (b : Builder) (sets : Vec (Vec Guarded Global) Global) (given : Given) (n : ℕ) → given.register < length old.sets.items
    → Owns old.builder b 2 (equation old.builder.next (Status given.go 1) ∷ equation (old.builder.next + 1) (And given.go given.keep) ∷ []) n
    → buckets sets.items ≡ set (buckets old.sets.items) given.register (bucket old.sets.items given.register ++ (record { condition = n + 1; value = n + 1 } ∷ []))
    → Starts tables old (record old { builder = b; sets = sets }) given Pause (record { status = n; live = 0; ends = false; register = given.register + 1 })
pause_starts tables old b sets given n lt o is = record {
  built = leaf_built old b old.emits sets given.register 1 (start tables Pause (context old given)) o.equations o.next (λ x. refl) refl (same_bucket old.emits.items)
      (count_added old.sets.items sets.items given.register _ is)
      (λ k. added old.sets.items sets given.register (record { condition = n + 1; value = n + 1 }) lt is _ k
      (one_set given.register k (record { condition = old.builder.next + 1; value = old.builder.next + 1 }) ∙ ap (λ m. let g : Guarded = record { condition = m + 1; value = m + 1 } in cond (k == given.register) (g ∷ []) []) (sym o.first)));
  status = o.first;
  live = refl;
  ends = refl;
  register = λ e. refl;
}

pub receive_starts : (tables : Tables) (old : CopyBuilder) (b : Builder) (sets : Vec (Vec Guarded Global) Global) (given : Given) (n ch : ℕ) → given.register < length old.sets.items
    → Owns old.builder b 2 (equation old.builder.next (Status given.go 1) ∷ equation (old.builder.next + 1) (And given.go given.keep) ∷ []) n
    → buckets sets.items ≡ set (buckets old.sets.items) given.register (bucket old.sets.items given.register ++ (record { condition = n + 1; value = n + 1 } ∷ []))
    → Starts tables old (record old { builder = b; sets = sets }) given (Receive ch) (record { status = n; live = 0; ends = false; register = given.register + 2 })
receive_starts tables old b sets given n ch lt o is = record {
  built = leaf_built old b old.emits sets given.register 2 (start tables (Receive ch) (context old given)) o.equations o.next (λ x. refl) refl (same_bucket old.emits.items)
      (count_added old.sets.items sets.items given.register _ is)
      (λ k. added old.sets.items sets given.register (record { condition = n + 1; value = n + 1 }) lt is _ k
      (first_set given.register k (record { condition = old.builder.next + 1; value = old.builder.next + 1 }) ∙ ap (λ m. let g : Guarded = record { condition = m + 1; value = m + 1 } in cond (k == given.register) (g ∷ []) []) (sym o.first)));
  status = o.first;
  live = refl;
  ends = refl;
  register = λ e. refl;
}

pub send_starts : (tables : Tables) (old : CopyBuilder) (b : Builder) (mid sets : Vec (Vec Guarded Global) Global) (given : Given) (n ch : ℕ) (e : Expression) → given.register + 3 ≤ length old.sets.items
    → Owns old.builder b 3 (equation old.builder.next (Status given.go 1) ∷ equation (old.builder.next + 1) (And given.go given.keep) ∷ equation (old.builder.next + 2) (Value e (wires_in old.wires)) ∷ []) n
    → buckets mid.items ≡ set (buckets old.sets.items) given.register (bucket old.sets.items given.register ++ (record { condition = n + 1; value = n + 1 } ∷ []))
    → buckets sets.items ≡ set (buckets mid.items) (given.register + 2) (bucket mid.items (given.register + 2) ++ (record { condition = n + 1; value = n + 2 } ∷ []))
    → Starts tables old (record old { builder = b; sets = sets }) given (Send ch e) (record { status = n; live = 0; ends = false; register = given.register + 3 })
send_starts tables old b mid sets given n ch e lt o one two =
    let r = given.register in
    let m = old.builder.next in
    let s : ℕ → Sets = λ (x : ℕ). record { condition = x + 1; value = x + 1 } in
    let t : ℕ → Sets = λ (x : ℕ). record { condition = x + 1; value = x + 2 } in
    let count : length mid.items ≡ length old.sets.items = count_added old.sets.items mid.items r _ one in
    let each : (k : ℕ) → bucket sets.items k ≡ bucket old.sets.items k ++ own_sets r 3 (send_sets r (s m) (t m)) k = λ k.
    bucket_added mid.items sets.items (r + 2) (guarded (t n)) (omega (arith, count, lt)) two k
    ∙ ap (λ l. l ++ cond (k == r + 2) (guarded (t n) ∷ []) []) (bucket_added old.sets.items mid.items r (guarded (s n)) (omega (arith, lt)) one k)
    ∙ append_assoc (bucket old.sets.items k) (cond (k == r) (guarded (s n) ∷ []) []) (cond (k == r + 2) (guarded (t n) ∷ []) [])
    ∙ ap (λ x. bucket old.sets.items k ++ two_sets (k == r) (k == r + 2) (s x) (t x)) o.first
    ∙ ap (λ l. bucket old.sets.items k ++ l) (sym (sends r k (s m) (t m) (k == r) (k == r + 1) (k == r + 2) refl refl refl)) in
    record {
      built = leaf_built old b old.emits sets r 3 (start tables (Send ch e) (context old given)) o.equations o.next (λ x. refl) refl (same_bucket old.emits.items)
          (count_added mid.items sets.items (r + 2) _ two ∙ count) each;
      status = o.first;
      live = refl;
      ends = refl;
      register = λ e. refl;
    }

swapped : (i k : ℕ) → (i == k) ≡ (k == i)
swapped i k = by_cases (k == i) (λ e. (let x : (i == k) ≡ true = grind (arith, nat_tests) in x) ∙ sym e) (λ e. (let x : (i == k) ≡ false = grind (arith, nat_tests) in x) ∙ sym e)

pub emission_starts : (tables : Tables) (old : CopyBuilder) (b : Builder) (emits : Vec (Vec Guarded Global) Global) (given : Given) (n s : ℕ) (e : Option Expression) → s < length old.emits.items
    → Owns old.builder b 2 (equation old.builder.next (Status given.go 0) ∷ equation (old.builder.next + 1) (emitted_value e (wires_in old.wires)) ∷ []) n
    → buckets emits.items ≡ set (buckets old.emits.items) s (bucket old.emits.items s ++ (record { condition = given.go; value = n + 1 } ∷ []))
    → Starts tables old (record old { builder = b; emits = emits }) given (Emit s e) (record { status = n; live = 0; ends = true; register = given.register })
emission_starts tables old b emits given n s e lt o is = record {
  built = leaf_built old b emits old.sets given.register 0 (start tables (Emit s e) (context old given)) o.equations o.next (λ x. refl)
      (count_added old.emits.items emits.items s _ is)
      (λ k. added old.emits.items emits s (record { condition = given.go; value = n + 1 }) lt is _ k
      (ap (λ c. let g : Guarded = record { condition = given.go; value = old.builder.next + 1 } in cond c (g ∷ []) []) (swapped s k) ∙ ap (λ m. let g : Guarded = record { condition = given.go; value = m + 1 } in cond (k == s) (g ∷ []) []) (sym o.first)))
      refl (none_set old given.register 0);
  status = o.first;
  live = refl;
  ends = refl;
  register = λ e. no_more given.register;
}

-- the wires of variables after an assignment
pub record Assigned (old new : CopyBuilder) (variable before wire : ℕ) : Type 0 where
  pub variables : new.wires.variables.items ≡ set old.wires.variables.items variable wire
  pub changes : new.changes.items ≡ old.changes.items ++ (record { variable = variable; before = before } ∷ [])
  pub present : new.wires.present ≡ old.wires.present
  pub value : new.wires.value ≡ old.wires.value
  pub last : new.wires.last ≡ old.wires.last
  pub emits : new.emits ≡ old.emits
  pub sets : new.sets ≡ old.sets

back : (y x : ℕ) (u v w : ℕ) (b : Bool) → (y == x) ≡ b → (b ≡ true → u ≡ v) → cond b u (cond b w v) ≡ v
back y x u v w true e f = f refl
back y x u v w false e f = refl

assigned_changes : (old new : CopyBuilder) (y before n : ℕ) → y < length old.wires.variables.items → before ≡ slice_index old.wires.variables.items y → Assigned old new y before n → Changes old new (y ∷ [])
assigned_changes old new y before n lt is a =
    let table = old.wires.variables.items in
    record {
      more = record { variable = y; before = before } ∷ [];
      logged = a.changes;
      before = λ x.
          ap (λ l. cond (y == x) before (slice_index l x)) a.variables
          ∙ ap (λ v. cond (y == x) before v) (at_set table y x n 0 lt ∙ ap (λ c. cond c n (slice_index table x)) (sym (swapped y x)))
          ∙ back y x before (slice_index table x) n (y == x) refl (λ e. is ∙ ap (slice_index table) (equal_if y x e));
      which = λ x. refl;
    }

pub assignment_starts : (tables : Tables) (old new : CopyBuilder) (b : Builder) (given : Given) (n y before : ℕ) (e : Expression) → new.builder ≡ b → y < length old.wires.variables.items → before ≡ slice_index old.wires.variables.items y
    → Owns old.builder b 3 (equation old.builder.next (Status given.go 0) ∷ equation (old.builder.next + 1) (Value e (wires_in old.wires)) ∷ equation (old.builder.next + 2) (Choose given.go (old.builder.next + 1) before) ∷ []) n
    → Assigned old new y before (n + 2)
    → Starts tables old new given (Assign y e) (record { status = n; live = 0; ends = true; register = given.register })
assignment_starts tables old new b given n y before e built lt is o a =
    let table = old.wires.variables.items in
    record {
      built = record {
        equations = ap_choice o.equations;
        next = ap (λ (x : Builder). x.next) built ∙ o.next;
        variables = λ x. ap (λ l. slice_index l x) a.variables ∙ at_set table y x (n + 2) 0 lt ∙ ap (λ m. cond (x == y) (m + 2) (slice_index table x)) o.first;
        tables = record {
          count = ap length a.variables ∙ length-set table y (n + 2);
          present = ap (λ v. v.items) a.present;
          value = ap (λ v. v.items) a.value;
          last = ap (λ v. v.items) a.last;
        };
        changes = assigned_changes old new y before (n + 2) lt is a;
        signals = ap (λ v. length v.items) a.emits;
        emits = λ s. ap (λ v. bucket v.items s) a.emits ∙ same_bucket old.emits.items s;
        registers = ap (λ v. length v.items) a.sets;
        sets = λ k. ap (λ v. bucket v.items k) a.sets ∙ none_set old given.register 0 k;
      };
      status = o.first;
      live = refl;
      ends = refl;
      register = λ e. no_more given.register;
    } where
      ap_choice : SpellsOut old.builder b (equation old.builder.next (Status given.go 0) ∷ equation (old.builder.next + 1) (Value e (wires_in old.wires)) ∷ equation (old.builder.next + 2) (Choose given.go (old.builder.next + 1) before) ∷ [])
          → SpellsOut old.builder new.builder (start tables (Assign y e) (context old given)).equations
      ap_choice h = subst (λ x. SpellsOut old.builder x (start tables (Assign y e) (context old given)).equations) (sym built)
          (subst (λ v. SpellsOut old.builder b (equation old.builder.next (Status given.go 0) ∷ equation (old.builder.next + 1) (Value e (wires_in old.wires)) ∷ equation (old.builder.next + 2) (Choose given.go (old.builder.next + 1) v) ∷ [])) is h)
