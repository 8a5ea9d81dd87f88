-- Registers by their sets, and places of the frame, one after the other.
use Rattle.std.proofs.Common.{◌≡◌, ℕ, zero, suc, ◌+◌, ◌-◌, ◌<◌, ◌≤◌, List, [], ◌∷◌, ◌++◌, length, drop, get_or, drop-cons, add-one, ap, ◌∙◌, sym, subst, refl, arith, append_assoc, append-nil}
use Rattle.std.specs.Prelude.{Vec}
use Rattle.std.specs.Global.{Global}
use Rattle.std.proofs.lemmas.List.{get_or-map, drop_all}
use Rattle.java_values.specs.declared.kind.Kind.{Kind}
use Rattle.surf_graph.specs.declared.builder.Builder.{Builder}
use Rattle.surf_graph.specs.declared.copy_builder.Guarded.{Guarded}
use Rattle.surf_graph.specs.Building.{Writes}
use Rattle.surf_graph.specs.Copying.{bucket, sets_of}
use Rattle.surf_graph.specs.Framing.{Grows}
use Rattle.surf_graph.specs.definitions.Copies.{Sets}
use Rattle.surf_graph.specs.definitions.DomainCopies.{places_read, set_equations, register_equations, register_wires}
use Rattle.surf_graph.specs.definitions.Formulas.{Equation, Get, Choose, Zero}
use Rattle.surf_graph.specs.definitions.SpelledOut.{spelled}
use Rattle.surf_graph.proofs.Growing.{Remains, all_remains, less_remains, none_remains, taken_grows, more_grows}

-- the element at a place comes first behind it
pub next_is : {A : Type 0} (xs : List A) (i : ℕ) (x : A) → i < length xs → x ≡ get_or xs i x → drop i xs ≡ x ∷ drop (i + 1) xs
next_is xs i x less is = drop-cons xs i x less ∙ ap (λ y. y ∷ drop (suc i) xs) (sym is) ∙ ap (λ k. x ∷ drop k xs) (sym (add-one i))

pub none_left : {A : Type 0} (xs : List A) (i : ℕ) → length xs ≤ i → drop i xs ≡ []
none_left xs i h = drop_all i xs h

-- one register

abbrev pub own_set_equations : Kind → ℕ → List Guarded → List Equation
own_set_equations k n [] = record { wire = n; formula = Zero k } ∷ []
own_set_equations k n (g ∷ gs) = record { wire = n; formula = Choose g.condition g.value (suc n) } ∷ own_set_equations k (suc n) gs

pub own_sets_are : (k : Kind) (n : ℕ) (ss : List Sets) → set_equations k n ss ≡ own_set_equations k n (sets_of ss)
own_sets_are k n [] = refl
own_sets_are k n (s ∷ ss) = ap (λ l. record { wire = n; formula = Choose s.condition s.value (suc n) } ∷ l) (own_sets_are k (suc n) ss)

pub set_more : (old now new : Builder) (k : Kind) (all : List Equation) (gs : List Guarded) (i : ℕ) (g : Guarded) → i < length gs → g ≡ get_or gs i g → Remains old now all (own_set_equations k now.next (drop i gs))
    → Grows now new 1 (record { wire = now.next; formula = Choose g.condition g.value (suc now.next) } ∷ []) → Remains old new all (own_set_equations k new.next (drop (i + 1) gs))
set_more old now new k all gs i g less is r h =
    let e : Equation = record { wire = now.next; formula = Choose g.condition g.value (suc now.next) } in
    let rises = h.next in
    less_remains old now new all (own_set_equations k now.next (drop i gs)) (e ∷ []) (own_set_equations k new.next (drop (i + 1) gs)) r h
    (ap (own_set_equations k now.next) (next_is gs i g less is) ∙ ap (λ m. e ∷ own_set_equations k m (drop (i + 1) gs)) (omega (arith, rises)))

pub sets_end : (old now new : Builder) (k : Kind) (gs : List Guarded) (i : ℕ) → drop i gs ≡ [] → Remains old now (own_set_equations k old.next gs) (own_set_equations k now.next (drop i gs)) → Grows now new 1 (record { wire = now.next; formula = Zero k } ∷ [])
    → (ss : List Sets) → sets_of ss ≡ gs → Grows old new (length (set_equations k old.next ss)) (set_equations k old.next ss)
sets_end old now new k gs i done r h ss is =
    let own = own_set_equations k old.next gs in
    let last = less_remains old now new own (own_set_equations k now.next (drop i gs)) (record { wire = now.next; formula = Zero k } ∷ []) [] r h (ap (own_set_equations k now.next) done) in
    subst (λ l. Grows old new (length l) l) (sym (own_sets_are k old.next ss ∙ ap (own_set_equations k old.next) is)) (none_remains old new own last)

-- all registers

one_more : (k : Kind) (n : ℕ) (ss : List Sets) → length (set_equations k n ss) ≡ suc (length ss)
one_more k n [] = refl
one_more k n (s ∷ ss) = ap suc (one_more k (suc n) ss)

pub record RegistersMade (old now : Builder) (first next : List ℕ) (kinds : List Kind) (f : ℕ → List Sets) (r : ℕ) : Type 0 where
  pub remains : Remains old now (register_equations kinds 0 old.next f) (register_equations (drop r kinds) r now.next f)
  pub wires : next ++ register_wires (drop r kinds) r now.next f ≡ first ++ register_wires kinds 0 old.next f

abbrev pub RegistersLeft : Builder → Builder → List ℕ → List ℕ → List Kind → List (Vec Guarded Global) → ℕ → Type 0
RegistersLeft old now first next kinds sets r =
    (f : ℕ → List Sets) → ((k : ℕ) → k < length kinds → bucket sets k ≡ sets_of (f k)) → RegistersMade old now first next kinds f r

pub registers_start : (old : Builder) (first : List ℕ) (kinds : List Kind) (sets : List (Vec Guarded Global)) → RegistersLeft old old first first kinds sets 0
registers_start old first kinds sets f h = record { remains = all_remains old (register_equations kinds 0 old.next f); wires = refl }

pub registers_more : (old now new : Builder) (first next more : List ℕ) (kinds : List Kind) (sets : List (Vec Guarded Global)) (r : ℕ) (k : Kind) (v : Vec Guarded Global) (wire : ℕ) → r < length kinds → length kinds ≤ length sets → k ≡ get_or kinds r k → v ≡ get_or sets r v
    → wire ≡ now.next → ((ss : List Sets) → sets_of ss ≡ v.items → Grows now new (length (set_equations k now.next ss)) (set_equations k now.next ss)) → more ≡ next ++ (wire ∷ [])
    → RegistersLeft old now first next kinds sets r → RegistersLeft old new first more kinds sets (r + 1)
registers_more old now new first next more kinds sets r k v wire less many is at here made pushed left f h =
    let so = left f h in
    let n = now.next in
    let own : bucket sets r ≡ v.items = get_or-map (λ (x : Vec Guarded Global). x.items) sets r v [] (omega (arith, less, many)) ∙ ap (λ (x : Vec Guarded Global). x.items) (sym at) in
    let g = made (f r) (sym (h r less) ∙ own) in
    let rises = g.next in
    let size = one_more k n (f r) in
    let split = next_is kinds r k less is in
    let behind : suc n + length (f r) ≡ new.next = omega (arith, rises, size) in
    let next_one : suc r ≡ r + 1 = omega arith in
    let rest : register_equations (drop r kinds) r n f ≡ set_equations k n (f r) ++ register_equations (drop (r + 1) kinds) (r + 1) new.next f =
    ap (λ l. register_equations l r n f) split ∙ ap (λ m. set_equations k n (f r) ++ register_equations (drop (r + 1) kinds) (suc r) m f) behind
    ∙ ap (λ m. set_equations k n (f r) ++ register_equations (drop (r + 1) kinds) m new.next f) next_one in
    let wires : register_wires (drop r kinds) r n f ≡ n ∷ register_wires (drop (r + 1) kinds) (r + 1) new.next f =
    ap (λ l. register_wires l r n f) split ∙ ap (λ m. n ∷ register_wires (drop (r + 1) kinds) (suc r) m f) behind
    ∙ ap (λ m. n ∷ register_wires (drop (r + 1) kinds) m new.next f) next_one in
    record {
      remains = less_remains old now new (register_equations kinds 0 old.next f) (register_equations (drop r kinds) r n f) (set_equations k n (f r)) (register_equations (drop (r + 1) kinds) (r + 1) new.next f) so.remains g rest;
      wires =
          ap (λ l. l ++ register_wires (drop (r + 1) kinds) (r + 1) new.next f) (pushed ∙ ap (λ m. next ++ (m ∷ [])) here)
          ∙ append_assoc next (n ∷ []) (register_wires (drop (r + 1) kinds) (r + 1) new.next f) ∙ ap (λ l. next ++ l) (sym wires) ∙ so.wires;
    }

pub registers_end : (old now : Builder) (first next : List ℕ) (kinds : List Kind) (sets : List (Vec Guarded Global)) (r : ℕ) → drop r kinds ≡ [] → RegistersLeft old now first next kinds sets r → (f : ℕ → List Sets)
    → ((k : ℕ) → k < length kinds → bucket sets k ≡ sets_of (f k)) → Grows old now (length (register_equations kinds 0 old.next f)) (register_equations kinds 0 old.next f) × (next ≡ first ++ register_wires kinds 0 old.next f)
registers_end old now first next kinds sets r done left f h =
    let so = left f h in (
      none_remains old now (register_equations kinds 0 old.next f) (subst (λ l. Remains old now (register_equations kinds 0 old.next f) (register_equations l r now.next f)) done so.remains),
      sym (append-nil next) ∙ ap (λ l. next ++ register_wires l r now.next f) (sym done) ∙ so.wires,
    )

-- places of the frame

abbrev pub places : ℕ → ℕ → ℕ → List Equation
places zero n k = []
places (suc m) n k = record { wire = n; formula = Get k } ∷ places m (suc n) (suc k)

places_are : (is : List ℕ) (n k : ℕ) → places_read is n k ≡ places (length is) n k
places_are [] n k = refl
places_are (i ∷ is) n k = ap (λ l. record { wire = n; formula = Get k } ∷ l) (places_are is (suc n) (suc k))

pub record PlacesLeft (old now : Builder) (n k count i : ℕ) : Type 0 where
  pub sofar : List Equation
  pub grows : Grows old now 0 sofar
  pub whole : sofar ++ places (count - i) (n + i) (k + i) ≡ places count n k

pub places_start : (old : Builder) (n k count : ℕ) → PlacesLeft old old n k count 0
places_start old n k count =
    record {
      sofar = [];
      grows = taken_grows old old 0 refl refl (omega arith);
      whole = ap (λ m. places m (n + 0) (k + 0)) (omega arith) ∙ ap (λ m. places count m (k + 0)) (omega arith) ∙ ap (places count n) (omega arith);
    }

pub places_more : (old now new : Builder) (n k count i : ℕ) → i < count → PlacesLeft old now n k count i → Writes now new (spelled now.further (Get (k + i))) (n + i) → PlacesLeft old new n k count (i + 1)
places_more old now new n k count i less p w =
    let e : Equation = record { wire = n + i; formula = Get (k + i) } in
    let m = count - (i + 1) in
    let one : places (count - i) (n + i) (k + i) ≡ e ∷ places m (n + (i + 1)) (k + (i + 1)) =
    ap (λ c. places c (n + i) (k + i)) (is_more count i less) ∙ ap (λ a. e ∷ places m a (suc (k + i))) (omega arith) ∙ ap (λ a. e ∷ places m (n + (i + 1)) a) (omega arith) in
    record {
      sofar = p.sofar ++ (e ∷ []);
      grows = more_grows old now new 0 p.sofar e p.grows w;
      whole = append_assoc p.sofar (e ∷ []) (places m (n + (i + 1)) (k + (i + 1))) ∙ ap (λ l. p.sofar ++ l) (sym one) ∙ p.whole;
    }
  where
    is_more : (count i : ℕ) → i < count → count - i ≡ suc (count - (i + 1))
    is_more count i h = omega (arith, h)

pub places_end : (old now : Builder) (n k count i : ℕ) → count ≤ i → PlacesLeft old now n k count i → (is : List ℕ) → length is ≡ count → Grows old now 0 (places_read is n k)
places_end old now n k count i done p is size =
    let none : places (count - i) (n + i) (k + i) ≡ [] = ap (λ c. places c (n + i) (k + i)) (nothing count i done) in
    subst (Grows old now 0)
    (sym (append-nil p.sofar) ∙ ap (λ l. p.sofar ++ l) (sym none) ∙ p.whole ∙ ap (λ c. places c n k) (sym size) ∙ sym (places_are is n k)) p.grows
  where
    nothing : (count i : ℕ) → count ≤ i → count - i ≡ 0
    nothing count i h = omega (arith, h)

pub bucket_at : (lists : List (Vec Guarded Global)) (r : ℕ) (v : Vec Guarded Global) → r < length lists → v ≡ get_or lists r v → bucket lists r ≡ v.items
bucket_at lists r v less is = get_or-map (λ (x : Vec Guarded Global). x.items) lists r v [] less ∙ ap (λ (x : Vec Guarded Global). x.items) (sym is)
