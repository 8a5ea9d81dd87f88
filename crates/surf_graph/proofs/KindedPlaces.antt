-- Kinds of the places of a domain's frame, and classes of wires that come one after another.
use Rattle.std.proofs.Common.{◌≡◌, ℕ, suc, ◌+◌, ◌*◌, ◌<◌, ◌≤◌, ◌==◌, Bool, true, false, ◌&&◌, ◌||◌, cond, List, [], ◌∷◌, ◌++◌, length, map, get_or, refl, sym, ap, ◌∙◌, subst, arith}
use Rattle.std.proofs.lemmas.List.{get_or_append_left, get_or-append-add, get_or-map, length-append, length-map}
use Rattle.std.proofs.lemmas.Bool.{true≢false, eq-eqb, eqb-true}
use Rattle.java_values.specs.declared.kind.Kind.{Kind}
use Rattle.java_values.specs.declared.kind.Kind.TheVariants as kind
use Rattle.kernel_terms.specs.declared.tables.Tables.{Tables}
use Rattle.kernel_terms.specs.Statements.{Stmt}
use Rattle.kernel_terms.specs.TableEntries.{signal_at, channel_at, variable_at, value_kind, no_signal, variables_of, valued_of, received_by}
use Rattle.kernel_rules.specs.definitions.Registers.{statement_registers, domain_registers, first_variable, first_value, first_last}
use Rattle.tick_code.specs.BuiltKinds.{WiresFit, input_kinds}
use Rattle.tick_code.specs.WellKinded.{Class, Of, Fits, IsEither}
use Rattle.surf_graph.specs.definitions.Formulas.{Within}
use Rattle.surf_graph.specs.definitions.Copies.{Sets, has}
use Rattle.surf_graph.specs.definitions.DomainCopies.{place_in, wire_for, places_read, is_input_of, inputs_of, input_place, set_equations, register_equations, register_wires}
use Rattle.surf_graph.specs.definitions.KindedWires.{SameBelow}
use Rattle.surf_graph.specs.definitions.KindedFormulas.{HaveKinds}
use Rattle.surf_graph.specs.definitions.KindedCopies.{register_kind, HasRegisters, SetsFit}
use Rattle.surf_graph.specs.definitions.KindedDomains.{domain_frame}
use Rattle.surf_graph.proofs.DomainLists.{has_number, within_table}
use Rattle.surf_graph.proofs.Frames.{SetsBelow, sets_more, within_append}
use Rattle.surf_graph.proofs.KindedExpressions.{same_twice}
use Rattle.surf_graph.proofs.KindedOperations.{listed, listed_below, listed_first, fits_as, either_other}
use Rattle.surf_graph.proofs.KindedEquations.{fits_still, kinds_still, kinds_both}
use Rattle.surf_graph.proofs.KindedParts.{same_itself, sets_still, first_registers, further_registers, at_register}

-- the parts of a domain's frame

whole_frame : (frame : List Kind) → HasRegisters frame 0 frame
whole_frame frame = record { room = omega arith; at = λ i less. ap (register_kind frame) (omega arith) }

moved : (frame : List Kind) (r s : ℕ) (ks : List Kind) → r ≡ s → HasRegisters frame r ks → HasRegisters frame s ks
moved frame r s ks e h = subst (λ k. HasRegisters frame k ks) e h

pub record FrameParts (tables : Tables) (d : ℕ) (p : Stmt) (frame : List Kind) : Type 0 where
  pub statement : HasRegisters frame 0 (statement_registers tables p)
  pub variables : HasRegisters frame (first_variable tables p) (map (λ x. (variable_at tables x).kind) (variables_of tables d))
  pub values : HasRegisters frame (first_value tables d p) (map (λ s. value_kind (signal_at tables s)) (valued_of tables d))
  pub last : HasRegisters frame (first_last tables d p) (map (λ c. (channel_at tables c).kind) (received_by tables d))
  pub inputs : HasRegisters frame (length (domain_registers tables d p)) (input_kinds (map (λ s. value_kind (signal_at tables s)) (inputs_of tables d)))

pub frame_parts : (tables : Tables) (d : ℕ) (p : Stmt) → FrameParts tables d p (domain_frame tables d p)
frame_parts tables d p =
    let frame = domain_frame tables d p in
    let ss = statement_registers tables p in
    let vs = map (λ x. (variable_at tables x).kind) (variables_of tables d) in
    let us = map (λ s. value_kind (signal_at tables s)) (valued_of tables d) in
    let cs = map (λ c. (channel_at tables c).kind) (received_by tables d) in
    let is = input_kinds (map (λ s. value_kind (signal_at tables s)) (inputs_of tables d)) in
    let lv = length-map (variables_of tables d) (λ x. (variable_at tables x).kind) in
    let lu = length-map (valued_of tables d) (λ s. value_kind (signal_at tables s)) in
    let whole = whole_frame frame in
    let regs = first_registers frame 0 (domain_registers tables d p) is whole in
    let behind = further_registers frame 0 ss (vs ++ (us ++ cs)) regs in
    let more = further_registers frame (0 + length ss) vs (us ++ cs) behind in
    let most = further_registers frame (0 + length ss + length vs) us cs more in
    record {
      statement = first_registers frame 0 ss (vs ++ (us ++ cs)) regs;
      variables = moved frame (0 + length ss) (first_variable tables p) vs (omega arith) (first_registers frame (0 + length ss) vs (us ++ cs) behind);
      values = moved frame (0 + length ss + length vs) (first_value tables d p) us (omega (arith, lv)) (first_registers frame (0 + length ss + length vs) us cs more);
      last = moved frame (0 + length ss + length vs + length us) (first_last tables d p) cs (omega (arith, lv, lu)) most;
      inputs = moved frame (0 + length (domain_registers tables d p)) (length (domain_registers tables d p)) is (omega arith) (further_registers frame 0 (domain_registers tables d p) is whole);
    }

-- where an entry of a list stands
pub record PlaceIs (is : List ℕ) (s : ℕ) : Type 0 where
  pub less : place_in is s < length is
  pub at : get_or is (place_in is s) 0 ≡ s

pub place_is : (is : List ℕ) (s : ℕ) → has is s ≡ true → PlaceIs is s
place_is [] s h = absurd (true≢false (sym h))
place_is (i ∷ is) s h = by_test (i == s) refl h (place_is is s)
  where
    by_test : (b : Bool) → (i == s) ≡ b → b || has is s ≡ true → (has is s ≡ true → PlaceIs is s) → PlaceIs (i ∷ is) s
    by_test true e g rest = record { less = subst (λ c. cond c 0 (suc (place_in is s)) < length (i ∷ is)) (sym e) (omega arith); at = ap (λ c. get_or (i ∷ is) (cond c 0 (suc (place_in is s))) 0) e ∙ eqb-true i s e }
    by_test false e g rest =
        let r = rest g in
        let l = r.less in
        record { less = subst (λ c. cond c 0 (suc (place_in is s)) < length (i ∷ is)) (sym e) (omega (arith, l)); at = ap (λ c. get_or (i ∷ is) (cond c 0 (suc (place_in is s))) 0) e ∙ r.at }

-- presence and value of an input in the frame
pub record InputAt (ks : List Kind) (n : ℕ) (k : Kind) : Type 0 where
  pub less : suc n < length ks
  pub present : register_kind ks n ≡ kind.Boolean
  pub value : register_kind ks (suc n) ≡ k

input_at : (g : ℕ → Kind) (is : List ℕ) (s : ℕ) → has is s ≡ true → InputAt (input_kinds (map g is)) (2 * place_in is s) (g s)
input_at g [] s h = absurd (true≢false (sym h))
input_at g (i ∷ is) s h = by_test (i == s) refl h (input_at g is s)
  where
    first : g i ≡ g s → InputAt (input_kinds (map g (i ∷ is))) 0 (g s)
    first e = record { less = omega arith; present = refl; value = e }

    further : (m n : ℕ) → n ≡ suc (suc m) → InputAt (input_kinds (map g is)) m (g s) → InputAt (input_kinds (map g (i ∷ is))) n (g s)
    further m n e r = let l = r.less in record { less = omega (arith, l, e); present = ap (register_kind (input_kinds (map g (i ∷ is)))) e ∙ r.present; value = ap (λ k. register_kind (input_kinds (map g (i ∷ is))) (suc k)) e ∙ r.value }

    by_test : (b : Bool) → (i == s) ≡ b → b || has is s ≡ true → (has is s ≡ true → InputAt (input_kinds (map g is)) (2 * place_in is s) (g s)) → InputAt (input_kinds (map g (i ∷ is))) (2 * cond b 0 (suc (place_in is s))) (g s)
    by_test true e q rest = first (ap g (eqb-true i s e))
    by_test false e q rest = further (2 * place_in is s) (2 * suc (place_in is s)) (omega arith) (rest q)

inputs_has : (tables : Tables) (d s : ℕ) → is_input_of d (signal_at tables s) ≡ true → has (inputs_of tables d) s ≡ true
inputs_has tables d s i = has_number (is_input_of d) 0 tables.signals no_signal s s (omega arith) (within_table (is_input_of d) tables.signals no_signal s (off (0 == d)) i) i
  where
    off : (b : Bool) → (b && false) && false ≡ false
    off true = refl
    off false = refl

-- an input's places in the frame
pub input_has : (tables : Tables) (d : ℕ) (p : Stmt) (frame : List Kind) (s : ℕ) → FrameParts tables d p frame → is_input_of d (signal_at tables s) ≡ true → InputAt frame (input_place tables d p s) (value_kind (signal_at tables s))
input_has tables d p frame s h i =
    let ks = input_kinds (map (λ r. value_kind (signal_at tables r)) (inputs_of tables d)) in
    let x = input_at (λ r. value_kind (signal_at tables r)) (inputs_of tables d) s (inputs_has tables d s i) in
    let n = 2 * place_in (inputs_of tables d) s in
    let r = length (domain_registers tables d p) in
    let parts = h.inputs in
    let room = parts.room in
    let l = x.less in
    record {
      less = omega (arith, room, l);
      present = at_register frame r ks (r + n) n parts refl (omega (arith, l)) ∙ x.present;
      value = at_register frame r ks (suc (r + n)) (suc n) parts (omega arith) l ∙ x.value;
    }

-- a register of a list that is read
pub listed_register : (frame : List Kind) (r : ℕ) (g : ℕ → Kind) (is : List ℕ) (s : ℕ) → HasRegisters frame r (map g is) → has is s ≡ true → (r + place_in is s < length frame) × (register_kind frame (r + place_in is s) ≡ g s)
listed_register frame r g is s h e =
    let x = place_is is s e in
    let l = x.less in
    let room = h.room in
    let size = length-map is g in
    (omega (arith, l, room, size), h.at (place_in is s) (omega (arith, l, size)) ∙ get_or-map g is (place_in is s) 0 kind.Boolean l ∙ ap g x.at)

-- wires that come one after another

pub record Places (c : ℕ → Class) (n : ℕ) (xs : List Class) : Type 0 where
  pub at : (i : ℕ) → i < length xs → c (n + i) ≡ get_or xs i (Of kind.Boolean)

pub places_first : (c : ℕ → Class) (n : ℕ) (xs ys : List Class) → Places c n (xs ++ ys) → Places c n xs
places_first c n xs ys h = let l = length-append xs ys in record { at = λ i less. h.at i (omega (arith, l, less)) ∙ get_or_append_left xs ys (Of kind.Boolean) i less }

pub places_further : (c : ℕ → Class) (n m : ℕ) (xs ys : List Class) → n + length xs ≡ m → Places c n (xs ++ ys) → Places c m ys
places_further c n m xs ys e h =
    let l = length-append xs ys in
    record { at = λ i less. ap c (omega (arith, e)) ∙ h.at (length xs + i) (omega (arith, l, less)) ∙ get_or-append-add xs ys i (Of kind.Boolean) }

pub places_still : (c d : ℕ → Class) (n m : ℕ) (xs : List Class) → SameBelow m c d → n + length xs ≤ m → Places c n xs → Places d n xs
places_still c d n m xs s le h = record { at = λ i less. s.at (n + i) (omega (arith, le, less)) ∙ h.at i less }

pub places_of : (c : ℕ → Class) (n : ℕ) (G : ℕ → Class) (is : List ℕ) (i : ℕ) → Places c n (map G is) → i < length is → c (n + i) ≡ G (get_or is i 0)
places_of c n G is i h less = let l = length-map is G in h.at i (omega (arith, l, less)) ∙ get_or-map G is i 0 (Of kind.Boolean) less

pub places_head : (c : ℕ → Class) (n : ℕ) (x : Class) (xs : List Class) → Places c n (x ∷ xs) → c n ≡ x
places_head c n x xs h = ap c (omega arith) ∙ h.at 0 (omega arith)

pub places_tail : (c : ℕ → Class) (n : ℕ) (x : Class) (xs : List Class) → Places c n (x ∷ xs) → Places c (suc n) xs
places_tail c n x xs h = record { at = λ i less. ap c (omega arith) ∙ h.at (suc i) (omega (arith, less)) }

pub class_for : (c : ℕ → Class) (G : ℕ → Class) (is : List ℕ) (n x : ℕ) → Places c n (map G is) → has is x ≡ true → c (wire_for is n x) ≡ G x
class_for c G [] n x h e = absurd (true≢false (sym e))
class_for c G (i ∷ is) n x h e = by_test (i == x) refl e (places_head c n (G i) (map G is) h) (class_for c G is (suc n) x (places_tail c n (G i) (map G is) h))
  where
    by_test : (b : Bool) → (i == x) ≡ b → b || has is x ≡ true → c n ≡ G i → (has is x ≡ true → c (wire_for is (suc n) x) ≡ G x) → c (cond b n (wire_for is (suc n) x)) ≡ G x
    by_test true q g here rest = here ∙ ap G (eqb-true i x q)
    by_test false q g here rest = rest g

pub for_below : (is : List ℕ) (n x limit : ℕ) → 0 < limit → n + length is ≤ limit → wire_for is n x < limit
for_below [] n x limit some le = some
for_below (i ∷ is) n x limit some le = by_test (i == x) (for_below is (suc n) x limit some (omega (arith, le)))
  where
    by_test : (b : Bool) → wire_for is (suc n) x < limit → cond b n (wire_for is (suc n) x) < limit
    by_test true h = omega (arith, le)
    by_test false h = h

-- places that are read

pub places_kinded : (tables : Tables) (frame : List Kind) (g : ℕ → Kind) (c : ℕ → Class) (is : List ℕ) (n k : ℕ) → HasRegisters frame k (map g is) → Places c n (map (λ i. Of (g i)) is) → HaveKinds tables frame c (places_read is n k)
places_kinded tables frame g c [] n k h s = tt
places_kinded tables frame g c (i ∷ is) n k h s =
    let room = h.room in
    let size = length-map is g in (
      (omega (arith, room, size), places_head c n (Of (g i)) (map (λ j. Of (g j)) is) s ∙ ap Of (sym (at_register frame k (g i ∷ map g is) k 0 h (omega arith) (omega arith)))),
      places_kinded tables frame g c is (suc n) (suc k) (moved frame (k + 1) (suc k) (map g is) (omega arith) (further_registers frame k (g i ∷ []) (map g is) h)) (places_tail c n (Of (g i)) (map (λ j. Of (g j)) is) s),
    )

pub places_inside : (is : List ℕ) (n k limit : ℕ) → n + length is ≤ limit → Within limit (places_read is n k)
places_inside [] n k limit le = tt
places_inside (i ∷ is) n k limit le = (omega (arith, le), (tt, places_inside is (suc n) (suc k) limit (omega (arith, le))))

-- the next registers of a statement

pub record SetKinded (tables : Tables) (frame : List Kind) (k : Kind) (n : ℕ) (ss : List Sets) (c : ℕ → Class) : Type 0 where
  pub classes : ℕ → Class
  pub same : SameBelow n c classes
  pub each : HaveKinds tables frame classes (set_equations k n ss)
  pub wire : classes n ≡ Of k

set_kinded : (tables : Tables) (frame : List Kind) (k : Kind) (n : ℕ) (ss : List Sets) (c : ℕ → Class) → SetsBelow n ss → SetsFit k c ss → SetKinded tables frame k n ss c
set_kinded tables frame k n [] c b h =
    let xs : List Class = Of k ∷ [] in
    let at = listed_first c n xs in
    record { classes = listed c n xs; same = listed_below c n xs; each = (at, tt); wire = at }
set_kinded tables frame k n (s ∷ ss) c b h =
    let xs : List Class = Of k ∷ [] in
    let d = listed c n xs in
    let g = listed_below c n xs in
    let r = set_kinded tables frame k (suc n) ss d (sets_more n (suc n) ss (omega arith) b.1.1) (sets_still k n c d ss g b.1.1 h.1) in
    let e = r.classes in
    let f : SameBelow n c e = same_twice n (suc n) c d e (omega arith) g r.same in
    let at : e n ≡ Of k = (r.same).at n (omega arith) ∙ listed_first c n xs in
    let one = h.0 in
    record {
      classes = e;
      same = f;
      each = (
        (
          fits_still kind.Boolean n c e s.condition f b.0 one.condition,
          subst (λ z. IsEither (e s.value) (e (suc n)) z) (sym at) (either_other k (e s.value) (e (suc n)) (fits_still k n c e s.value f b.1.0 one.value) r.wire),
        ),
        r.each,
      );
      wire = at;
    }

set_inside : (k : Kind) (n limit : ℕ) (ss : List Sets) → SetsBelow n ss → suc n + length ss ≤ limit → Within limit (set_equations k n ss)
set_inside k n limit [] b le = (omega (arith, le), (tt, tt))
set_inside k n limit (s ∷ ss) b le =
    let x = b.0 in
    let y = b.1.0 in
    (omega (arith, le), ((omega (arith, x, le), omega (arith, y, le), omega (arith, le)), set_inside k (suc n) limit ss (sets_more n (suc n) ss (omega arith) b.1.1) (omega (arith, le))))

pub set_length : (k : Kind) (n : ℕ) (ss : List Sets) → length (set_equations k n ss) ≡ suc (length ss)
set_length k n [] = refl
set_length k n (s ∷ ss) = ap suc (set_length k (suc n) ss)

pub registers_inside : (ks : List Kind) (r n limit : ℕ) (sets : ℕ → List Sets) → ((k : ℕ) → SetsBelow n (sets k)) → n + length (register_equations ks r n sets) ≤ limit → Within limit (register_equations ks r n sets)
registers_inside [] r n limit sets b le = tt
registers_inside (k ∷ ks) r n limit sets b le =
    let m = suc n + length (sets r) in
    let here = set_equations k n (sets r) in
    let rest = register_equations ks (suc r) m sets in
    let l = length-append here rest in
    let s = set_length k n (sets r) in
    within_append limit here rest (set_inside k n limit (sets r) (b r) (omega (arith, l, s, le))) (registers_inside ks (suc r) m limit sets (λ i. sets_more n m (sets i) (omega arith) (b i)) (omega (arith, l, s, le)))

pub record RegistersKinded (tables : Tables) (frame : List Kind) (ks : List Kind) (r n : ℕ) (sets : ℕ → List Sets) (c : ℕ → Class) : Type 0 where
  pub classes : ℕ → Class
  pub same : SameBelow n c classes
  pub each : HaveKinds tables frame classes (register_equations ks r n sets)
  pub wires : WiresFit classes ks (register_wires ks r n sets)

wire_fits_still : (c d : ℕ → Class) (n : ℕ) (k : Kind) → d n ≡ c n → c n ≡ Of k → Fits k (d n)
wire_fits_still c d n k e h = fits_as k d n (Of k) (e ∙ h) refl

pub registers_kinded : (tables : Tables) (frame : List Kind) (ks : List Kind) (r n : ℕ) (sets : ℕ → List Sets) (c : ℕ → Class) → ((k : ℕ) → SetsBelow n (sets k)) → HasRegisters frame r ks → ((k : ℕ) → r ≤ k → k < r + length ks → SetsFit (register_kind frame k) c (sets k)) → RegistersKinded tables frame ks r n sets c
registers_kinded tables frame [] r n sets c b h fit = record { classes = c; same = same_itself n c; each = tt; wires = tt }
registers_kinded tables frame (k ∷ ks) r n sets c b h fit =
    let m = suc n + length (sets r) in
    let own : register_kind frame r ≡ k = at_register frame r (k ∷ ks) r 0 h (omega arith) (omega arith) in
    let x = set_kinded tables frame k n (sets r) c (b r) (subst (λ z. SetsFit z c (sets r)) own (fit r (omega arith) (omega arith))) in
    let d = x.classes in
    let rest =
    registers_kinded tables frame ks (suc r) m sets d (λ i. sets_more n m (sets i) (omega arith) (b i)) (moved frame (r + 1) (suc r) ks (omega arith) (further_registers frame r (k ∷ []) ks h))
    (λ i low high. sets_still (register_kind frame i) n c d (sets i) x.same (b i) (fit i (omega (arith, low)) (omega (arith, high)))) in
    let e = rest.classes in
    record {
      classes = e;
      same = same_twice n m c d e (omega arith) x.same rest.same;
      each = kinds_both tables frame e (set_equations k n (sets r)) (register_equations ks (suc r) m sets) (kinds_still tables frame m d e (set_equations k n (sets r)) rest.same (set_inside k n m (sets r) (b r) (omega arith)) x.each) rest.each;
      wires = (wire_fits_still d e n k ((rest.same).at n (omega arith)) x.wire, rest.wires);
    }

-- lists of wires of these kinds

pub wires_both : (c : ℕ → Class) (ks ls : List Kind) (ws vs : List ℕ) → WiresFit c ks ws → WiresFit c ls vs → WiresFit c (ks ++ ls) (ws ++ vs)
wires_both c [] ls [] vs h i = i
wires_both c [] ls (w ∷ ws) vs h i = absurd h
wires_both c (k ∷ ks) ls [] vs h i = absurd h
wires_both c (k ∷ ks) ls (w ∷ ws) vs h i = (h.0, wires_both c ks ls ws vs h.1 i)

pub wires_mapped : (c : ℕ → Class) (g : ℕ → Kind) (v : ℕ → ℕ) (is : List ℕ) → ((i : ℕ) → has is i ≡ true → Fits (g i) (c (v i))) → WiresFit c (map g is) (map v is)
wires_mapped c g v [] h = tt
wires_mapped c g v (i ∷ is) h = (h i (ap (λ b. b || has is i) (itself i)), wires_mapped c g v is (λ j e. h j (later (i == j) (has is j) e)))
  where
    itself : (j : ℕ) → (j == j) ≡ true
    itself j = eq-eqb j j refl

    later : (a b : Bool) → b ≡ true → a || b ≡ true
    later true b e = refl
    later false b e = e
