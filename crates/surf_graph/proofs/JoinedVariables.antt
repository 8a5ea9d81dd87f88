-- Two alternatives are joined variable by variable.
use Rattle.std.proofs.Common.{◌≡◌, ℕ, suc, ◌+◌, ◌<◌, ◌≤◌, ◌==◌, Bool, true, false, ◌&&◌, ◌||◌, cond, List, [], ◌∷◌, ◌++◌, length, set, refl, sym, ap, ap₂, ◌∙◌, subst, arith, length-append, length-set, append_assoc, append-nil}
use Rattle.std.specs.Prelude.{nat_le, slice_index, Some, None, Option, is_some, IsSome, unwrap_or}
use Rattle.std.specs.BTreeMap.{BTreeMap, get, keys, IsOrdered, is_at}
use Rattle.std.specs.List.{filter}
use Rattle.std.specs.Map.{keys_of, lookup}
use Rattle.std.specs.Ordering.{nat_cmp}
use Rattle.std.proofs.lemmas.Bool.Decides.{nat_tests}
use Rattle.std.proofs.lemmas.List.{map-append}
use Rattle.std.proofs.lemmas.List.Elements.{filter-append}
use Rattle.surf_graph.specs.declared.builder.Builder.{Builder}
use Rattle.surf_graph.specs.declared.change.Change.{Change}
use Rattle.surf_graph.specs.Building.{Writes}
use Rattle.surf_graph.specs.Copying.{SpellsOut, logs}
use Rattle.surf_graph.specs.Variables.{FitVariables, JoinsWire, JoinsOne, FirstLeft, Joined}
use Rattle.surf_graph.specs.definitions.Changes.{undone}
use Rattle.surf_graph.specs.definitions.Copies.{has, both_write, joins, join_wires, wires_by}
use Rattle.surf_graph.specs.definitions.Formulas.{Equation, Choose}
use Rattle.surf_graph.specs.definitions.SpelledOut.{spelled}
use Rattle.surf_graph.proofs.Alternatives.{has_append, has_both_write}
use Rattle.surf_graph.proofs.Booleans.{or_right, left_of}
use Rattle.surf_graph.proofs.IncreasingVariables.{Rises, rises, has_filter, has_keys, has_head, both_are_kept, next_is_new}
use Rattle.surf_graph.proofs.Parts.{by_cases}
use Rattle.surf_graph.proofs.Passes.{join_misses}
use Rattle.surf_graph.proofs.SpellingOut.{none_spelled_out, one_spelled_out, both_spelled_out}
use Rattle.surf_graph.proofs.Undoing.{logs_push, undone_both, undone_same, set_one, same_number}

-- one variable more is joined, or isn't

number_is : (i j : ℕ) → (i == j) ≡ true → i ≡ j
number_is i j h = grind (arith, nat_tests)

pub joins_push : (other n : ℕ) (a b : ℕ → ℕ) (zs : List ℕ) (z : ℕ)
    → joins other n a b (zs ++ z ∷ []) ≡ joins other n a b zs ++ (record { wire = n + length zs; formula = Choose other (b z) (a z) } ∷ [])
joins_push other n a b [] z = ap (λ k. record { wire = k; formula = Choose other (b z) (a z) } ∷ []) (let e : n ≡ n + 0 = omega arith in e)
joins_push other n a b (x ∷ zs) z =
    ap (λ l. record { wire = n; formula = Choose other (b x) (a x) } ∷ l)
    (joins_push other (n + 1) a b zs z
    ∙ ap (λ k. joins other (n + 1) a b zs ++ (record { wire = k; formula = Choose other (b z) (a z) } ∷ []))
    (later n (length zs))) where
      later : (n l : ℕ) → n + 1 + l ≡ n + suc l
      later n l = omega arith

pub joins_more : (m : Bool) (other n : ℕ) (a b : ℕ → ℕ) (zs : List ℕ) (z : ℕ)
    → joins other n a b (zs ++ cond m (z ∷ []) []) ≡ joins other n a b zs ++ cond m (record { wire = n + length zs; formula = Choose other (b z) (a z) } ∷ []) []
joins_more true other n a b zs z = joins_push other n a b zs z
joins_more false other n a b zs z = ap (joins other n a b) (append-nil zs) ∙ sym (append-nil (joins other n a b zs))

join_wires_push : (n : ℕ) (v : ℕ → ℕ) (zs : List ℕ) (z y : ℕ) → has zs z ≡ false
    → join_wires n v (zs ++ z ∷ []) y ≡ cond (z == y) (n + length zs) (join_wires n v zs y)
join_wires_push n v [] z y h = ap (λ k. cond (z == y) k (v y)) (let e : n ≡ n + 0 = omega arith in e)
join_wires_push n v (x ∷ zs) z y h =
    by_cases (x == y)
    (λ e.
    ap (λ b. cond b n (join_wires (n + 1) v (zs ++ z ∷ []) y)) e
    ∙ sym (ap (λ b. cond b (n + suc (length zs)) (cond (x == y) n (join_wires (n + 1) v zs y))) (apart x z y (off_left (x == z) (has zs z) h) e)
    ∙ ap (λ b. cond b n (join_wires (n + 1) v zs y)) e))
    (λ e.
    ap (λ b. cond b n (join_wires (n + 1) v (zs ++ z ∷ []) y)) e
    ∙ join_wires_push (n + 1) v zs z y (off_right (x == z) (has zs z) h)
    ∙ ap (λ k. cond (z == y) k (join_wires (n + 1) v zs y)) (later n (length zs))
    ∙ sym (ap (λ b. cond (z == y) (n + suc (length zs)) (cond b n (join_wires (n + 1) v zs y))) e)) where
      later : (n l : ℕ) → n + 1 + l ≡ n + suc l
      later n l = omega arith

      apart : (x z y : ℕ) → (x == z) ≡ false → (x == y) ≡ true → (z == y) ≡ false
      apart x z y h e = grind (arith, nat_tests)

      off_left : (a b : Bool) → a || b ≡ false → a ≡ false
      off_left true b h = cc
      off_left false b h = refl

      off_right : (a b : Bool) → a || b ≡ false → b ≡ false
      off_right true b h = cc
      off_right false b h = h

pub join_wires_more : (m : Bool) (n : ℕ) (v : ℕ → ℕ) (zs : List ℕ) (z y : ℕ) → has zs z ≡ false
    → join_wires n v (zs ++ cond m (z ∷ []) []) y ≡ cond (m && (z == y)) (n + length zs) (join_wires n v zs y)
join_wires_more true n v zs z y h = join_wires_push n v zs z y h
join_wires_more false n v zs z y h = ap (λ l. join_wires n v l y) (append-nil zs)

pub join_wires_same : (n : ℕ) (u v : ℕ → ℕ) (zs : List ℕ) (y : ℕ) → u y ≡ v y → join_wires n u zs y ≡ join_wires n v zs y
join_wires_same n u v [] y h = h
join_wires_same n u v (x ∷ zs) y h = ap (λ k. cond (x == y) n k) (join_wires_same (n + 1) u v zs y h)

pub joins_same : (other n : ℕ) (a c b : ℕ → ℕ) (zs : List ℕ) → ((x : ℕ) → has zs x ≡ true → a x ≡ c x) → joins other n a b zs ≡ joins other n c b zs
joins_same other n a c b [] h = refl
joins_same other n a c b (x ∷ zs) h =
    ap₂ (λ k l. record { wire = n; formula = Choose other (b x) k } ∷ l) (h x (has_head x zs))
    (joins_same other (n + 1) a c b zs (λ z g. h z (or_right (x == z) (has zs z) g)))

more_counted : (m : Bool) (zs : List ℕ) (z n : ℕ) → n + length zs + cond m 1 0 ≡ n + length (zs ++ cond m (z ∷ []) [])
more_counted true zs z n = let e = length-append zs (z ∷ []) in omega (arith, e)
more_counted false zs z n = let e = length-append zs [] in omega (arith, e)

-- what the map gives

abbrev pub of_left : BTreeMap ℕ ℕ → List ℕ → ℕ → ℕ
of_left left wires x = unwrap_or (get nat_cmp left x) (slice_index wires x)

lookup_next : (done : List (ℕ × ℕ)) (e : ℕ × ℕ) (rest : List (ℕ × ℕ)) → has (keys_of done) e.0 ≡ false → lookup (is_at (nat_cmp e.0)) (done ++ e ∷ rest) ≡ Some e.1
lookup_next [] e rest h = ap (λ b. cond b (Some e.1) (lookup (is_at (nat_cmp e.0)) rest)) (at_itself e.0) where
  at_itself : (k : ℕ) → is_at (nat_cmp k) k ≡ true
  at_itself k = grind (arith, nat_tests)
lookup_next (d ∷ ds) e rest h =
    ap (λ b. cond b (Some d.1) (lookup (is_at (nat_cmp e.0)) (ds ++ e ∷ rest))) (elsewhere e.0 d.0 (off_left (d.0 == e.0) (has (keys_of ds) e.0) h))
    ∙ lookup_next ds e rest (off_right (d.0 == e.0) (has (keys_of ds) e.0) h) where
      elsewhere : (k j : ℕ) → (j == k) ≡ false → is_at (nat_cmp k) j ≡ false
      elsewhere k j h = grind (arith, nat_tests)

      off_left : (a b : Bool) → a || b ≡ false → a ≡ false
      off_left true b h = cc
      off_left false b h = refl

      off_right : (a b : Bool) → a || b ≡ false → b ≡ false
      off_right true b h = cc
      off_right false b h = h

-- the wire of one variable

nothing_joined : (old : Builder) (other first second first_own : ℕ) (b : Bool) → nat_le first_own second ≡ b → b ≡ false → JoinsWire old old other first second first_own first
nothing_joined old other first second first_own b e f =
    let off : nat_le first_own second ≡ false = e ∙ f in
    record {
      wire_is = sym (ap (λ b. cond b old.next first) off);
      next = (let z : old.next ≡ old.next + 0 = omega arith in z) ∙ sym (ap (λ b. old.next + cond b 1 0) off);
      equations = subst (λ b. SpellsOut old old (cond b (record { wire = old.next; formula = Choose other second first } ∷ []) [])) (sym off) (none_spelled_out old old refl refl);
    }

pub no_wire_joined : (old : Builder) (other first second first_own : ℕ) → second < first_own → JoinsWire old old other first second first_own first
no_wire_joined old other first second first_own lt =
    nothing_joined old other first second first_own false (below first_own second lt) refl where
      below : (i j : ℕ) → j < i → nat_le i j ≡ false
      below i j lt = grind (arith, nat_tests)

pub wire_joined : (old taken new : Builder) (other first second first_own n : ℕ) → first_own ≤ second → n ≡ old.next → taken.next ≡ old.next + 1 → taken.equations ≡ old.equations → taken.further ≡ old.further
    → Writes taken new (spelled taken.further (Choose other second first)) n → JoinsWire old new other first second first_own n
wire_joined old taken new other first second first_own n le is next same further w =
    let on = above first_own second le in
    let one = one_spelled_out taken new (record { wire = n; formula = Choose other second first }) w in
    let all = both_spelled_out old taken new [] (record { wire = n; formula = Choose other second first } ∷ []) (none_spelled_out old taken (ap (λ v. v.items) same) further) one in
    record {
      wire_is = is ∙ sym (ap (λ b. cond b old.next first) on);
      next = w.next ∙ next ∙ sym (ap (λ b. old.next + cond b 1 0) on);
      equations = subst (λ b. SpellsOut old new (cond b (record { wire = old.next; formula = Choose other second first } ∷ []) [])) (sym on)
          (subst (λ k. SpellsOut old new (record { wire = k; formula = Choose other second first } ∷ [])) is all);
    } where
      above : (i j : ℕ) → i ≤ j → nat_le i j ≡ true
      above i j le = grind (arith, nat_tests)

-- the variables that were joined so far, in front of the rest

abbrev pub own_of : ℕ → List ℕ → ℕ → Bool
own_of first_own wires x = nat_le first_own (slice_index wires x)

abbrev pub joined_of : ℕ → List ℕ → List (ℕ × ℕ) → List ℕ
joined_of first_own wires done = filter (own_of first_own wires) (keys_of done)

abbrev pub wires_left : ℕ → BTreeMap ℕ ℕ → List ℕ → ℕ → ℕ
wires_left first_own left wires x = cond (own_of first_own wires x) (slice_index wires x) (of_left left wires x)

pub record JoinedSoFar (old new : Builder) (wires now : List ℕ) (cs after : List Change) (other first_own : ℕ) (left : BTreeMap ℕ ℕ) (rest : List (ℕ × ℕ)) : Type 0 where
  pub done : List (ℕ × ℕ)
  pub all : done ++ rest ≡ left.entries
  pub equations : SpellsOut old new (joins other old.next (of_left left wires) (λ x. slice_index wires x) (joined_of first_own wires done))
  pub next : new.next ≡ old.next + length (joined_of first_own wires done)
  pub count : length now ≡ length wires
  pub wires_are : (x : ℕ) → slice_index now x ≡ cond (has (keys_of done) x) (join_wires old.next (wires_left first_own left wires) (joined_of first_own wires done) x) (slice_index wires x)
  pub more : List Change
  pub logged : after ≡ cs ++ more
  pub before : (x : ℕ) → undone more (λ y. slice_index now y) x ≡ slice_index wires x
  pub which : (x : ℕ) → logs more x ≡ has (keys_of done) x

pub joining_begins : (old : Builder) (wires : List ℕ) (cs : List Change) (other first_own : ℕ) (left : BTreeMap ℕ ℕ) → JoinedSoFar old old wires wires cs cs other first_own left left.entries
joining_begins old wires cs other first_own left =
    record {
      done = [];
      all = refl;
      equations = none_spelled_out old old refl refl;
      next = (let z : old.next ≡ old.next + 0 = omega arith in z);
      count = refl;
      wires_are = λ x. refl;
      more = [];
      logged = sym (append-nil cs);
      before = λ x. refl;
      which = λ x. refl;
    }

record NextEntry (left : BTreeMap ℕ ℕ) (wires : List ℕ) (done : List (ℕ × ℕ)) (e : ℕ × ℕ) : Type 0 where
  new_one : has (keys_of done) e.0 ≡ false
  low : e.0 < length wires
  value : of_left left wires e.0 ≡ e.1

next_entry : (left : BTreeMap ℕ ℕ) (wires : List ℕ) (done : List (ℕ × ℕ)) (e : ℕ × ℕ) (rest : List (ℕ × ℕ)) → IsOrdered nat_cmp left → FitVariables (length wires) left → done ++ e ∷ rest ≡ left.entries → NextEntry left wires done e
next_entry left wires done e rest o fit all =
    let fresh = next_is_new done e rest (subst (λ es. Rises (keys_of es)) (sym all) (rises (keys left) o)) in
    let at : get nat_cmp left e.0 ≡ Some e.1 = ap (lookup (is_at (nat_cmp e.0))) (sym all) ∙ lookup_next done e rest fresh in
    record {
      new_one = fresh;
      low = fit.at e.0 (some_is (get nat_cmp left e.0) e.1 at);
      value = ap (λ i. unwrap_or i (slice_index wires e.0)) at;
    } where
      some_is : (i : Option ℕ) (u : ℕ) → i ≡ Some u → IsSome i
      some_is i u h = subst (λ j. IsSome j) (sym h) refl

-- the state behind one variable more
keys_push : (done : List (ℕ × ℕ)) (e : ℕ × ℕ) → keys_of (done ++ e ∷ []) ≡ keys_of done ++ e.0 ∷ []
keys_push done e = map-append (λ (i : ℕ × ℕ). i.0) done (e ∷ [])

joined_push : (first_own : ℕ) (wires : List ℕ) (done : List (ℕ × ℕ)) (e : ℕ × ℕ) → joined_of first_own wires (done ++ e ∷ []) ≡ joined_of first_own wires done ++ cond (own_of first_own wires e.0) (e.0 ∷ []) []
joined_push first_own wires done e =
    ap (filter (own_of first_own wires)) (keys_push done e) ∙ filter-append (own_of first_own wires) (keys_of done) (e.0 ∷ [])

or_none : (a : Bool) → a || false ≡ a
or_none true = refl
or_none false = refl

or_on : (a b : Bool) → b ≡ true → a || b ≡ true
or_on true b h = refl
or_on false b h = h

has_push : (xs : List ℕ) (k x : ℕ) → has (xs ++ k ∷ []) x ≡ has xs x || (k == x)
has_push xs k x = has_append xs (k ∷ []) x ∙ ap (λ b. has xs x || b) (or_none (k == x))

not_joined : (first_own : ℕ) (wires : List ℕ) (done : List (ℕ × ℕ)) (k : ℕ) → has (keys_of done) k ≡ false → has (joined_of first_own wires done) k ≡ false
not_joined first_own wires done k h = has_filter (own_of first_own wires) (keys_of done) k ∙ ap (λ b. b && own_of first_own wires k) h

-- the wire of the variable that is joined, and of others
wire_here : (m : Bool) (n k w b u : ℕ) (v : ℕ → ℕ) (zs : List ℕ) → has zs k ≡ false → (m ≡ false → v k ≡ u) → w ≡ cond m (n + length zs) u → w ≡ join_wires n v (zs ++ cond m (k ∷ []) []) k
wire_here true n k w b u v zs h g e =
    e ∙ sym (join_wires_more true n v zs k k h ∙ ap (λ i. cond i (n + length zs) (join_wires n v zs k)) (itself k)) where
      itself : (k : ℕ) → (k == k) ≡ true
      itself k = grind (arith, nat_tests)
wire_here false n k w b u v zs h g e = e ∙ sym (join_wires_more false n v zs k k h ∙ join_misses n v zs k h ∙ g refl)

wire_there : (m : Bool) (n k x : ℕ) (v : ℕ → ℕ) (zs : List ℕ) → has zs k ≡ false → (k == x) ≡ false → join_wires n v (zs ++ cond m (k ∷ []) []) x ≡ join_wires n v zs x
wire_there m n k x v zs h e =
    join_wires_more m n v zs k x h ∙ ap (λ i. cond i (n + length zs) (join_wires n v zs x)) (ap (λ i. m && i) e ∙ none m) where
      none : (b : Bool) → b && false ≡ false
      none true = refl
      none false = refl

wires_go_on : (m : Bool) (n k w u : ℕ) (v : ℕ → ℕ) (zs ks : List ℕ) (now wires : List ℕ) → has zs k ≡ false → k < length now → (m ≡ false → v k ≡ u) → w ≡ cond m (n + length zs) u
    → ((x : ℕ) → slice_index now x ≡ cond (has ks x) (join_wires n v zs x) (slice_index wires x))
    → (x : ℕ) → slice_index (set now k w) x ≡ cond (has (ks ++ k ∷ []) x) (join_wires n v (zs ++ cond m (k ∷ []) []) x) (slice_index wires x)
wires_go_on m n k w u v zs ks now wires h lt g e at x =
    set_one now k w lt x
    ∙ by_cases (k == x)
    (λ i.
    ap (λ b. cond b w (slice_index now x)) i
    ∙ wire_here m n k w 0 u v zs h g e
    ∙ ap (join_wires n v (zs ++ cond m (k ∷ []) [])) (number_is k x i)
    ∙ sym (ap (λ b. cond b (join_wires n v (zs ++ cond m (k ∷ []) []) x) (slice_index wires x)) (has_push ks k x ∙ or_on (has ks x) (k == x) i)))
    (λ i.
    ap (λ b. cond b w (slice_index now x)) i
    ∙ at x
    ∙ ap (λ j. cond (has ks x) j (slice_index wires x)) (sym (wire_there m n k x v zs h i))
    ∙ sym (ap (λ b. cond b (join_wires n v (zs ++ cond m (k ∷ []) []) x) (slice_index wires x)) (has_push ks k x ∙ ap (λ b. has ks x || b) i ∙ or_none (has ks x))))

undo_joined : (more : List Change) (now : List ℕ) (k w : ℕ) → k < length now → (x : ℕ)
    → undone (more ++ record { variable = k; before = slice_index now k } ∷ []) (λ y. slice_index (set now k w) y) x ≡ undone more (λ y. slice_index now y) x
undo_joined more now k w lt x =
    undone_both more (record { variable = k; before = slice_index now k } ∷ []) (λ y. slice_index (set now k w) y) x
    ∙ undone_same more (λ y. cond (k == y) (slice_index now k) (slice_index (set now k w) y)) (λ y. slice_index now y)
    (λ y. ap (λ i. cond (k == y) (slice_index now k) i) (set_one now k w lt y) ∙ given_back k y w now) x where
      given_back : (k y w : ℕ) (now : List ℕ) → cond (k == y) (slice_index now k) (cond (k == y) w (slice_index now y)) ≡ slice_index now y
      given_back k y w now =
          by_cases (k == y)
          (λ i. ap (λ b. cond b (slice_index now k) (cond b w (slice_index now y))) i ∙ ap (λ j. slice_index now j) (number_is k y i))
          (λ i. ap (λ b. cond b (slice_index now k) (cond b w (slice_index now y))) i)

-- one entry of the map more
joined_one : (old mid new : Builder) (wires now : List ℕ) (cs after : List Change) (other first_own : ℕ) (left : BTreeMap ℕ ℕ) (e : ℕ × ℕ) (rest : List (ℕ × ℕ)) (w : ℕ)
    → (j : JoinedSoFar old mid wires now cs after other first_own left (e ∷ rest)) → NextEntry left wires j.done e
    → JoinsWire mid new other (of_left left wires e.0) (slice_index wires e.0) first_own w
    → JoinedSoFar old new wires (set now e.0 w) cs (after ++ record { variable = e.0; before = slice_index now e.0 } ∷ []) other first_own left rest
joined_one old mid new wires now cs after other first_own left e rest w j i o =
    let k = e.0 in
    let m = own_of first_own wires k in
    let a = of_left left wires in
    let b = λ (x : ℕ). slice_index wires x in
    let zs = joined_of first_own wires j.done in
    let n = old.next + length zs in
    let push = joined_push first_own wires j.done e in
    let lt : k < length now = subst (λ l. k < l) (sym j.count) i.low in
    let u = a k in
    let d : Change = record { variable = k; before = slice_index now k } in
    record {
      done = j.done ++ e ∷ [];
      all = append_assoc j.done (e ∷ []) rest ∙ j.all;
      equations =
          subst (λ l. SpellsOut old new (joins other old.next a b l)) (sym push)
          (subst (SpellsOut old new) (sym (joins_more m other old.next a b zs k))
          (both_spelled_out old mid new (joins other old.next a b zs) (cond m (record { wire = n; formula = Choose other (b k) u } ∷ []) []) j.equations
          (subst (λ h. SpellsOut mid new (cond m (record { wire = h; formula = Choose other (b k) u } ∷ []) [])) j.next o.equations)));
      next =
          o.next ∙ ap (λ h. h + cond m 1 0) j.next ∙ more_counted m zs k old.next ∙ ap (λ l. old.next + length l) (sym push);
      count = length-set now k w ∙ j.count;
      wires_are = λ x.
          wires_go_on m old.next k w u (wires_left first_own left wires) zs (keys_of j.done) now wires (not_joined first_own wires j.done k i.new_one) lt
          (λ off. ap (λ h. cond h (b k) (a k)) off)
          (o.wire_is ∙ ap (λ h. cond m h u) j.next)
          j.wires_are x
          ∙ ap (λ l. cond (has l x) (join_wires old.next (wires_left first_own left wires) (zs ++ cond m (k ∷ []) []) x) (slice_index wires x)) (sym (keys_push j.done e))
          ∙ ap (λ l. cond (has (keys_of (j.done ++ e ∷ [])) x) (join_wires old.next (wires_left first_own left wires) l x) (slice_index wires x)) (sym push);
      more = j.more ++ d ∷ [];
      logged = ap (λ l. l ++ d ∷ []) j.logged ∙ append_assoc cs j.more (d ∷ []);
      before = λ x. undo_joined j.more now k w lt x ∙ j.before x;
      which = λ x.
          logs_push j.more d x ∙ ap (λ h. h || (k == x)) (j.which x) ∙ sym (ap (λ l. has l x) (keys_push j.done e) ∙ has_push (keys_of j.done) k x);
    }

pub joining_goes_on : (old mid new : Builder) (wires now then : List ℕ) (cs after later : List Change) (other first_own : ℕ) (left : BTreeMap ℕ ℕ) (k u : ℕ) (all rest : List (ℕ × ℕ))
    → IsOrdered nat_cmp left → FitVariables (length wires) left → all ≡ (k, u) ∷ rest
    → JoinsOne mid new now then after later other first_own k u → JoinedSoFar old mid wires now cs after other first_own left all
    → JoinedSoFar old new wires then cs later other first_own left rest
joining_goes_on old mid new wires now then cs after later other first_own left k u all rest o fit is one so_far =
    let j : JoinedSoFar old mid wires now cs after other first_own left ((k, u) ∷ rest) = subst (JoinedSoFar old mid wires now cs after other first_own left) is so_far in
    let i = next_entry left wires j.done (k, u) rest o fit j.all in
    let at : slice_index now k ≡ slice_index wires k = j.wires_are k ∙ ap (λ b. cond b (join_wires old.next (wires_left first_own left wires) (joined_of first_own wires j.done) k) (slice_index wires k)) i.new_one in
    let p : JoinsWire mid new other (of_left left wires k) (slice_index wires k) first_own one.wire =
    subst (λ v. JoinsWire mid new other v (slice_index wires k) first_own one.wire) (sym i.value)
    (subst (λ v. JoinsWire mid new other u v first_own one.wire) at one.joins) in
    let r = joined_one old mid new wires now cs after other first_own left (k, u) rest one.wire j i p in
    subst (λ l. JoinedSoFar old new wires then cs l other first_own left rest) (sym one.logged)
    (subst (λ l. JoinedSoFar old new wires l cs (after ++ record { variable = k; before = slice_index now k } ∷ []) other first_own left rest) (sym one.wires_are) r)

pub next_fits : (old mid : Builder) (wires now : List ℕ) (cs after : List Change) (other first_own : ℕ) (left : BTreeMap ℕ ℕ) (k u : ℕ) (all rest : List (ℕ × ℕ))
    → IsOrdered nat_cmp left → FitVariables (length wires) left → all ≡ (k, u) ∷ rest → JoinedSoFar old mid wires now cs after other first_own left all → k < length now
next_fits old mid wires now cs after other first_own left k u all rest o fit is so_far =
    let j : JoinedSoFar old mid wires now cs after other first_own left ((k, u) ∷ rest) = subst (JoinedSoFar old mid wires now cs after other first_own left) is so_far in
    let i = next_entry left wires j.done (k, u) rest o fit j.all in
    subst (λ l. k < l) (sym j.count) i.low

-- all are joined
told_by : (left : BTreeMap ℕ ℕ) (h : Bool) (x v : ℕ) → get nat_cmp left x ≡ cond h (Some v) None → has (keys left) x ≡ h
told_by left true x v e = sym (has_keys left.entries x) ∙ ap is_some e
told_by left false x v e = sym (has_keys left.entries x) ∙ ap is_some e

table_of : (hx : Bool) (n x b : ℕ) (u v : ℕ → ℕ) (zs : List ℕ) → (hx ≡ true → u x ≡ v x) → (hx ≡ false → has zs x ≡ false) → (hx ≡ false → b ≡ v x) → cond hx (join_wires n u zs x) b ≡ join_wires n v zs x
table_of true n x b u v zs f g h = join_wires_same n u v zs x (f refl)
table_of false n x b u v zs f g h = h refl ∙ sym (join_misses n v zs x (g refl))

left_value : (left : BTreeMap ℕ ℕ) (wires : List ℕ) (h : Bool) (x v : ℕ) → get nat_cmp left x ≡ cond h (Some v) None → h ≡ true → of_left left wires x ≡ v
left_value left wires h x v e on = ap (λ i. unwrap_or i (slice_index wires x)) (e ∙ ap (λ b. cond b (Some v) None) on)

neither_of : (b a : ℕ → ℕ) (c : Bool) (x : ℕ) → (c ≡ false → a x ≡ b x) → b x ≡ cond c (b x) (a x)
neither_of b a true x g = refl
neither_of b a false x g = sym (g refl)

pub joining_ends : (old new : Builder) (wires now : List ℕ) (cs after : List Change) (other first_own : ℕ) (left : BTreeMap ℕ ℕ) (rest : List (ℕ × ℕ)) (a : ℕ → ℕ) (xs ys : List ℕ)
    → IsOrdered nat_cmp left → rest ≡ [] → JoinedSoFar old new wires now cs after other first_own left rest → FirstLeft xs ys a left wires first_own
    → Joined old new wires now cs after other a xs ys
joining_ends old new wires now cs after other first_own left rest a xs ys o is j f =
    let b = λ (x : ℕ). slice_index wires x in
    let entries : j.done ≡ left.entries = sym (append-nil j.done) ∙ ap (λ l. j.done ++ l) (sym is) ∙ j.all in
    let told = λ (x : ℕ). told_by left (has xs x) x (a x) (f.left_are x) in
    let both : joined_of first_own wires j.done ≡ both_write xs ys = ap (joined_of first_own wires) entries ∙ both_are_kept left (own_of first_own wires) xs ys o told f.changed in
    let members = λ (x : ℕ) (h : has (both_write xs ys) x ≡ true). left_value left wires (has xs x) x (a x) (f.left_are x) (left_of (has xs x) (has ys x) (sym (has_both_write xs ys x) ∙ h)) in
    let listed = λ (x : ℕ). ap (λ l. has (keys_of l) x) entries ∙ told x in
    record {
      equations = subst (SpellsOut old new) (ap (joins other old.next (of_left left wires) b) both ∙ joins_same other old.next (of_left left wires) a b (both_write xs ys) members) j.equations;
      next = j.next ∙ ap (λ l. old.next + length l) both;
      count = j.count;
      wires_are = λ x.
          j.wires_are x
          ∙ ap (λ h. cond h (join_wires old.next (wires_left first_own left wires) (joined_of first_own wires j.done) x) (b x)) (listed x)
          ∙ ap (λ l. cond (has xs x) (join_wires old.next (wires_left first_own left wires) l x) (b x)) both
          ∙ table_of (has xs x) old.next x (b x) (wires_left first_own left wires) (wires_by ys b a) (both_write xs ys)
          (λ on. ap (λ h. cond h (b x) (of_left left wires x)) (sym (f.changed x)) ∙ ap (λ i. cond (has ys x) (b x) i) (left_value left wires (has xs x) x (a x) (f.left_are x) on))
          (λ off. has_both_write xs ys x ∙ ap (λ h. h && has ys x) off)
          (λ off. neither_of b a (has ys x) x (λ none. f.neither x off none));
      more = j.more;
      logged = j.logged;
      before = j.before;
      which = λ x. j.which x ∙ listed x;
    }
