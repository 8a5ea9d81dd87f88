-- Statuses of interface signals, and their places in the frame, one after the other.
use Rattle.std.proofs.Common.{◌≡◌, ℕ, suc, ◌+◌, ◌*◌, ◌==◌, ◌<◌, ◌≤◌, ◌^◌, Bool, true, false, ◌&&◌, cond, List, [], ◌∷◌, ◌++◌, length, get_or, Option, None, Some, refl, sym, ap, ap₂, ◌∙◌, subst, arith, append_assoc, append-nil}
use Rattle.std.specs.Prelude.{is_some}
use Rattle.std.proofs.lemmas.Bool.{ne_eqb, eq-eqb}
use Rattle.std.proofs.lemmas.List.Sorted.{IsPermutation-append_comm}
use Rattle.java_values.specs.declared.kind.Kind.{Kind}
use Rattle.kernel_terms.specs.declared.tables.Tables.{Tables}
use Rattle.kernel_terms.specs.declared.tables.SignalInfo.{SignalInfo}
use Rattle.kernel_terms.specs.Statements.{Stmt}
use Rattle.kernel_terms.specs.TableEntries.{signal_at, no_signal, is_input, is_interface_of, is_valued_of, numbers_where, interface_of, valued_of}
use Rattle.kernel_rules.specs.definitions.Registers.{domain_registers, first_value}
use Rattle.surf_graph.specs.declared.builder.Builder.{Builder}
use Rattle.surf_graph.specs.declared.domain_statuses.StatusWires.{StatusWires}
use Rattle.surf_graph.specs.declared.domain_statuses.StatusPlaces.{StatusPlaces}
use Rattle.surf_graph.specs.Copying.{SpellsOut, emits_of}
use Rattle.surf_graph.specs.Framing.{Grows, FoldsInto, IsFrame, wires_folded, input_equations, output_equations, place_before}
use Rattle.surf_graph.specs.definitions.Copies.{Emits, Folded}
use Rattle.surf_graph.specs.definitions.DomainCopies.{place_in, inputs_of, is_input_of, input_place, value_before, folded_as, emitted_equations, handed_equations, status_equations, all_statuses}
use Rattle.surf_graph.specs.definitions.Formulas.{Formula, Same, Equation}
use Rattle.surf_graph.specs.definitions.SpelledOut.{spelled}
use Rattle.surf_graph.specs.Building.{Writes}
use Rattle.surf_graph.specs.declared.emissions.Emitted.{Emitted}
use Rattle.surf_graph.proofs.OwnEmissions.{own_fold, own_conditions, own_emissions, own_pure_emissions}
use Rattle.std.proofs.lemmas.List.{length-append}
use Rattle.surf_graph.proofs.SpellingOut.{equation, none_spelled_out, one_spelled_out, more_spelled_out, both_spelled_out, other_spelled_out}

-- those of a list of which this holds
abbrev pub kept : (ℕ → Bool) → List ℕ → List ℕ
kept holds [] = []
kept holds (i ∷ is) = cond (holds i) (i ∷ kept holds is) (kept holds is)

abbrev of_entry : (SignalInfo → Bool) → List SignalInfo → ℕ → Bool
of_entry q all k = q (get_or all k no_signal)

pub kept_numbers : (p q : SignalInfo → Bool) (all : List SignalInfo) (n : ℕ) (xs : List SignalInfo) → ((i : ℕ) → get_or xs i no_signal ≡ get_or all (n + i) no_signal)
    → numbers_where (λ (x : SignalInfo). p x && q x) n xs ≡ kept (of_entry q all) (numbers_where p n xs)
kept_numbers p q all n [] same = refl
kept_numbers p q all n (x ∷ xs) same =
    by_test (p x) (q x) (ap q (same 0 ∙ ap (λ k. get_or all k no_signal) (omega arith)))
    (kept_numbers p q all (suc n) xs (λ i. same (suc i) ∙ ap (λ k. get_or all k no_signal) (omega arith)))
  where
    by_test : (b c : Bool) → c ≡ of_entry q all n → numbers_where (λ (y : SignalInfo). p y && q y) (suc n) xs ≡ kept (of_entry q all) (numbers_where p (suc n) xs)
        → cond (b && c) (n ∷ numbers_where (λ (y : SignalInfo). p y && q y) (suc n) xs) (numbers_where (λ (y : SignalInfo). p y && q y) (suc n) xs) ≡ kept (of_entry q all) (cond b (n ∷ numbers_where p (suc n) xs) (numbers_where p (suc n) xs))
    by_test true true h r = ap (λ l. n ∷ l) r ∙ ap (λ b. cond b (n ∷ kept (of_entry q all) (numbers_where p (suc n) xs)) (kept (of_entry q all) (numbers_where p (suc n) xs))) h
    by_test true false h r = r ∙ ap (λ b. cond b (n ∷ kept (of_entry q all) (numbers_where p (suc n) xs)) (kept (of_entry q all) (numbers_where p (suc n) xs))) h
    by_test false c h r = r

-- rising numbers, from one on
abbrev pub Rising : ℕ → List ℕ → Type 0
Rising m [] = Unit {0}
Rising m (i ∷ is) = (m ≤ i) × Rising (suc i) is

rises_from : (m n : ℕ) (is : List ℕ) → m ≤ n → Rising n is → Rising m is
rises_from m n [] le h = tt
rises_from m n (i ∷ is) le h = let a = h.0 in (omega (arith, le, a), h.1)

pub numbers_rise : (p : SignalInfo → Bool) (n : ℕ) (xs : List SignalInfo) → Rising n (numbers_where p n xs)
numbers_rise p n [] = tt
numbers_rise p n (x ∷ xs) = by_test (p x) (numbers_rise p (suc n) xs)
  where
    by_test : (b : Bool) → Rising (suc n) (numbers_where p (suc n) xs) → Rising n (cond b (n ∷ numbers_where p (suc n) xs) (numbers_where p (suc n) xs))
    by_test true h = (omega arith, h)
    by_test false h = rises_from n (suc n) (numbers_where p (suc n) xs) (omega arith) h

-- the places of numbers from one on, behind so many others
pub record Counted (all rest : List ℕ) (from count : ℕ) : Type 0 where
  pub at : (k : ℕ) → from ≤ k → place_in all k ≡ count + place_in rest k

pub counted_here : (all rest : List ℕ) (from count s : ℕ) → from ≤ s → Counted all (s ∷ rest) from count → place_in all s ≡ count
counted_here all rest from count s le c = c.at s le ∙ ap (λ b. count + cond b 0 (suc (place_in rest s))) (eq-eqb s s refl) ∙ omega arith

counted_next : (b : Bool) (all rest : List ℕ) (from count s : ℕ) → from ≤ s → Counted all (cond b (s ∷ rest) rest) from count → Counted all rest (suc s) (count + cond b 1 0)
counted_next true all rest from count s le c =
    record {
      at = λ k more.
          let below : from ≤ k = omega (arith, le, more) in
          c.at k below ∙ ap (λ b. count + cond b 0 (suc (place_in rest k))) (ne_eqb s k (λ e. omega (arith, more, e))) ∙ omega arith;
    }
counted_next false all rest from count s le c =
    record { at = λ k more. let below : from ≤ k = omega (arith, le, more) in c.at k below ∙ omega arith }

-- the statuses of one signal

choice_same : {A : Type 0} (b : Bool) (x y u v : A) → (b ≡ true → x ≡ u) → (b ≡ false → y ≡ v) → cond b x y ≡ cond b u v
choice_same true x y u v f g = f refl
choice_same false x y u v f g = g refl

before_same : (tables : Tables) (d : ℕ) (p : Stmt) (s place : ℕ) (o : Option Kind) → (is_some o ≡ true → first_value tables d p + place_in (valued_of tables d) s ≡ place) → value_before tables d p s o ≡ place_before o place
before_same tables d p s place None h = refl
before_same tables d p s place (Some k) h = ap (λ n. place_before (Some k) n) (h refl)

pub status_same : (tables : Tables) (d : ℕ) (p : Stmt) (s b v k n : ℕ) (es : List Emits) (places : StatusPlaces) → (is_input (signal_at tables s).sort ≡ true → input_place tables d p s ≡ places.input)
    → (is_some (signal_at tables s).kind ≡ true → first_value tables d p + place_in (valued_of tables d) s ≡ places.value)
    → status_equations tables d p s b v k n es
    ≡ cond (is_input (signal_at tables s).sort) (input_equations b v places.input) (output_equations b v k (place_before (signal_at tables s).kind places.value) (folded_as (signal_at tables s) (signal_at tables s).kind s n k es))
status_same tables d p s b v k n es places f g =
    let info = signal_at tables s in
    let folded = folded_as info info.kind s n k es in
    choice_same (is_input info.sort) (handed_equations tables d p s b v) (emitted_equations tables d p s b v k folded) (input_equations b v places.input) (output_equations b v k (place_before info.kind places.value) folded)
    (λ h. ap (input_equations b v) (f h)) (λ h. ap (λ i. output_equations b v k i folded) (before_same tables d p s places.value info.kind g))

-- what is still to be done

abbrev handed : Tables → ℕ → Bool
handed tables k = is_input (signal_at tables k).sort

abbrev has_value : Tables → ℕ → Bool
has_value tables k = is_some (signal_at tables k).kind

pub record StatusesLeft (tables : Tables) (d : ℕ) (p : Stmt) (es : List Emits) (whole : List Equation) (rest : List ℕ) (at : StatusWires) (places : StatusPlaces) (others : ℕ) (old now : Builder) : Type 0 where
  pub sofar : List Equation
  pub spelled : SpellsOut old now sofar
  pub equations : sofar ++ all_statuses tables d p rest at.present at.value at.before now.next es ≡ whole
  pub size : old.next + length sofar ≡ now.next + others
  pub from : ℕ
  pub rises : Rising from rest
  pub inputs_before : ℕ
  pub values_before : ℕ
  pub inputs : Counted (inputs_of tables d) (kept (handed tables) rest) from inputs_before
  pub values : Counted (valued_of tables d) (kept (has_value tables) rest) from values_before
  pub input : places.input ≡ length (domain_registers tables d p) + 2 * inputs_before
  pub value : places.value ≡ first_value tables d p + values_before

pub statuses_start : (tables : Tables) (d : ℕ) (p : Stmt) (es : List Emits) (interface : List ℕ) (wires : StatusWires) (places : StatusPlaces) (old : Builder) → IsFrame tables d p interface places es
    → StatusesLeft tables d p es (all_statuses tables d p interface wires.present wires.value wires.before old.next es) interface wires places 0 old old
statuses_start tables d p es interface wires places old frame =
    let inputs = kept_numbers (is_interface_of d) (λ x. is_input x.sort) tables.signals 0 tables.signals (λ i. ap (λ k. get_or tables.signals k no_signal) (omega arith)) in
    let values = kept_numbers (is_interface_of d) (λ x. is_some x.kind) tables.signals 0 tables.signals (λ i. ap (λ k. get_or tables.signals k no_signal) (omega arith)) in
    let a = frame.inputs in
    let b = frame.values in
    record {
      sofar = [];
      spelled = none_spelled_out old old refl refl;
      equations = refl;
      size = refl;
      from = 0;
      rises = subst (Rising 0) (sym frame.signals) (numbers_rise (is_interface_of d) 0 tables.signals);
      inputs_before = 0;
      values_before = 0;
      inputs = record { at = λ k le. ap (λ l. place_in l k) (inputs ∙ ap (kept (handed tables)) (sym frame.signals)) ∙ omega arith };
      values = record { at = λ k le. ap (λ l. place_in l k) (values ∙ ap (kept (has_value tables)) (sym frame.signals)) ∙ omega arith };
      input = omega (arith, a);
      value = omega (arith, b);
    }

kept_here : (b : Bool) (all rest : List ℕ) (from count s : ℕ) → from ≤ s → b ≡ true → Counted all (cond b (s ∷ rest) rest) from count → place_in all s ≡ count
kept_here b all rest from count s le h c = counted_here all rest from count s le (subst (λ x. Counted all (cond x (s ∷ rest) rest) from count) h c)

size_own : (b : Bool) (w : ℕ) (xs ys : List Equation) → length xs ≡ 2 → length ys ≡ 3 + w → length (cond b xs ys) ≡ cond b 0 w + cond b 2 3
size_own true w xs ys h k = h
size_own false w xs ys h k = omega (arith, k)

quiet_wires : (b : Bool) (w : ℕ) → (b ≡ true → w ≡ 0) → cond b 0 w ≡ w
quiet_wires true w h = sym (h refl)
quiet_wires false w h = refl

quiet_fold : (info : SignalInfo) (o : Option Kind) (s n before : ℕ) (es : List Emits) → emits_of s es ≡ [] → length (folded_as info o s n before es).equations ≡ 0
quiet_fold info None s n before es h = ap (λ (f : Folded). length f.equations) (own_pure_emissions s n 0 es ∙ ap (own_conditions n 0) h)
quiet_fold info (Some k) s n before es h = ap (λ (f : Folded). length f.equations) (own_emissions info s n 0 before es ∙ ap (own_fold info n 0 before) h)

pub status_more : (tables : Tables) (d : ℕ) (p : Stmt) (es : List Emits) (whole : List Equation) (s : ℕ) (rest : List ℕ) (info : SignalInfo) (at to : StatusWires) (places left : StatusPlaces) (others : ℕ) (old now new : Builder) → info ≡ signal_at tables s → (is_input (signal_at tables s).sort ≡ true → emits_of s es ≡ [])
    → StatusesLeft tables d p es whole (s ∷ rest) at places others old now
    → Grows now new (wires_folded info s now.next at.before es) (cond (is_input info.sort) (input_equations at.present at.value places.input) (output_equations at.present at.value at.before (place_before info.kind places.value) (folded_as info info.kind s now.next at.before es)))
    → to.present ≡ at.present + 1 → to.value ≡ at.value + 1 → to.before ≡ at.before + 1 → left.input ≡ places.input + 2 * cond (is_input info.sort) 1 0 → left.value ≡ places.value + cond (is_some info.kind) 1 0
    → StatusesLeft tables d p es whole rest to left (others + cond (is_input info.sort) 2 3) old new
status_more tables d p es whole s rest info at to places left others old now new known quiet so made present value before input values =
    let n = now.next in
    let le = (so.rises).0 in
    let ic = so.inputs_before in
    let vc = so.values_before in
    let i = signal_at tables s in
    let place = so.input in
    let held = so.value in
    let own = cond (is_input i.sort) (input_equations at.present at.value places.input) (output_equations at.present at.value at.before (place_before i.kind places.value) (folded_as i i.kind s n at.before es)) in
    let grows : Grows now new (wires_folded i s n at.before es) own =
    subst (λ x. Grows now new (wires_folded x s n at.before es) (cond (is_input x.sort) (input_equations at.present at.value places.input) (output_equations at.present at.value at.before (place_before x.kind places.value) (folded_as x x.kind s n at.before es)))) known made in
    let same = status_same tables d p s at.present at.value at.before n es places
    (λ h. let c = kept_here (handed tables s) (inputs_of tables d) (kept (handed tables) rest) so.from ic s le h so.inputs in omega (arith, c, place))
    (λ h. let c = kept_here (has_value tables s) (valued_of tables d) (kept (has_value tables) rest) so.from vc s le h so.values in omega (arith, c, held)) in
    let folded = length (folded_as i i.kind s n at.before es).equations in
    let calm = quiet_wires (is_input i.sort) folded (λ h. quiet_fold i i.kind s n at.before es (quiet h)) in
    let taken = grows.next in
    let rise : new.next ≡ n + folded = taken ∙ ap (λ m. n + m) calm in
    let behind = λ (b v k m : ℕ). all_statuses tables d p rest b v k m es in
    let b1 : suc at.present ≡ to.present = omega (arith, present) in
    let v1 : suc at.value ≡ to.value = omega (arith, value) in
    let k1 : suc at.before ≡ to.before = omega (arith, before) in
    let step : behind (suc at.present) (suc at.value) (suc at.before) (n + folded) ≡ behind to.present to.value to.before new.next =
    ap (λ x. behind x (suc at.value) (suc at.before) (n + folded)) b1 ∙ ap (λ x. behind to.present x (suc at.before) (n + folded)) v1 ∙ ap (λ x. behind to.present to.value x (n + folded)) k1
    ∙ ap (behind to.present to.value to.before) (sym rise) in
    let one : all_statuses tables d p (s ∷ rest) at.present at.value at.before n es ≡ own ++ behind to.present to.value to.before new.next = ap₂ (λ x y. x ++ y) same step in
    let count = size_own (is_input i.sort) folded (input_equations at.present at.value places.input) (output_equations at.present at.value at.before (place_before i.kind places.value) (folded_as i i.kind s n at.before es)) refl (omega arith) in
    let both = length-append so.sofar own in
    let sum = so.size in
    let beside = ap {B = ℕ} (λ (x : SignalInfo). cond (is_input x.sort) 2 3) known in
    let e = ap {B = ℕ} (λ (x : SignalInfo). cond (is_input x.sort) 1 0) known in
    let f = ap {B = ℕ} (λ (x : SignalInfo). cond (is_some x.kind) 1 0) known in
    record {
      sofar = so.sofar ++ own;
      spelled = both_spelled_out old now new so.sofar own so.spelled grows.equations;
      equations = append_assoc so.sofar own (behind to.present to.value to.before new.next) ∙ ap (λ l. so.sofar ++ l) (sym one) ∙ so.equations;
      size = omega (arith, count, both, sum, beside, taken);
      from = suc s;
      rises = (so.rises).1;
      inputs_before = ic + cond (handed tables s) 1 0;
      values_before = vc + cond (has_value tables s) 1 0;
      inputs = counted_next (handed tables s) (inputs_of tables d) (kept (handed tables) rest) so.from ic s le so.inputs;
      values = counted_next (has_value tables s) (valued_of tables d) (kept (has_value tables) rest) so.from vc s le so.values;
      input = omega (arith, input, place, e);
      value = omega (arith, values, held, f);
    }

pub statuses_end : (tables : Tables) (d : ℕ) (p : Stmt) (es : List Emits) (whole : List Equation) (rest : List ℕ) (at : StatusWires) (places : StatusPlaces) (others : ℕ) (old now new : Builder) → rest ≡ []
    → StatusesLeft tables d p es whole rest at places others old now → new.equations ≡ now.equations → new.further ≡ now.further → new.next ≡ now.next + others
    → Grows old new (length whole) whole
statuses_end tables d p es whole rest at places others old now new done so same further next =
    let size = so.size in
    let is : so.sofar ≡ whole = sym (append-nil so.sofar) ∙ ap (λ l. so.sofar ++ all_statuses tables d p l at.present at.value at.before now.next es) (sym done) ∙ so.equations in
    subst (λ l. Grows old new (length l) l) is
    (record {
      equations = subst (SpellsOut old new) (append-nil so.sofar) (both_spelled_out old now new so.sofar [] so.spelled (none_spelled_out now new (ap (λ v. v.items) same) further));
      next = omega (arith, size, next);
    })

-- behind the equations of its emissions those of an output
pub output_in_order : (old new : Builder) (front back : List Equation) → SpellsOut old new (back ++ front) → SpellsOut old new (front ++ back)
output_in_order old new front back s = other_spelled_out old new (back ++ front) (front ++ back) (IsPermutation-append_comm front back) s

-- wires and places rise by no more than signals there were
pub record WithinRoom (wires at : StatusWires) (places left : StatusPlaces) (i : ℕ) : Type 0 where
  pub present : at.present ≡ wires.present + i
  pub value : at.value ≡ wires.value + i
  pub before : at.before ≡ wires.before + i
  pub inputs : left.input ≤ places.input + 2 * i
  pub values : left.value ≤ places.value + i

-- an output's status, behind its emissions
pub output_made : (old b0 b1 b2 b3 : Builder) (at : StatusWires) (before : Formula) (folded : Folded) (r : Emitted) → FoldsInto old b0 folded r → Writes b0 b1 (spelled b0.further (Same r.some)) at.present → Writes b1 b2 (spelled b1.further (Same r.value)) at.value
    → Writes b2 b3 (spelled b2.further before) at.before → Grows old b3 (length folded.equations) (output_equations at.present at.value at.before before folded)
output_made old b0 b1 b2 b3 at before folded r f w1 w2 w3 =
    let e1 = λ (k : ℕ). equation at.present (Same k) in
    let e2 = λ (k : ℕ). equation at.value (Same k) in
    let e3 = equation at.before before in
    let s1 = one_spelled_out b0 b1 (e1 r.some) w1 in
    let s2 = more_spelled_out b0 b1 b2 (e1 r.some ∷ []) (e2 r.value) s1 w2 in
    let s3 = more_spelled_out b0 b2 b3 (e1 r.some ∷ e2 r.value ∷ []) e3 s2 w3 in
    let own : SpellsOut b0 b3 (e1 folded.some ∷ e2 folded.value ∷ e3 ∷ []) = subst (λ k. SpellsOut b0 b3 (e1 folded.some ∷ e2 k ∷ e3 ∷ [])) f.value (subst (λ k. SpellsOut b0 b3 (e1 k ∷ e2 r.value ∷ e3 ∷ [])) f.some s3) in
    let grows = f.grows in
    record {
      equations = output_in_order old b3 (e1 folded.some ∷ e2 folded.value ∷ e3 ∷ []) folded.equations (both_spelled_out old b0 b3 folded.equations (e1 folded.some ∷ e2 folded.value ∷ e3 ∷ []) grows.equations own);
      next = w3.next ∙ w2.next ∙ w1.next ∙ grows.next;
    }

pub room_start : (wires : StatusWires) (places : StatusPlaces) → WithinRoom wires wires places places 0
room_start wires places = record { present = omega arith; value = omega arith; before = omega arith; inputs = omega arith; values = omega arith }

pub room_more : (wires at to : StatusWires) (places left rest : StatusPlaces) (i : ℕ) (b c : Bool) → WithinRoom wires at places left i → to.present ≡ at.present + 1 → to.value ≡ at.value + 1 → to.before ≡ at.before + 1 → rest.input ≡ left.input + 2 * cond b 1 0 → rest.value ≡ left.value + cond c 1 0
    → WithinRoom wires to places rest (i + 1)
room_more wires at to places left rest i b c r p v k x y =
    let rp = r.present in
    let rv = r.value in
    let rk = r.before in
    let ri = r.inputs in
    let ry = r.values in
    let one = at_most_one b in
    let two = at_most_one c in
    record { present = omega (arith, rp, p); value = omega (arith, rv, v); before = omega (arith, rk, k); inputs = omega (arith, ri, x, one); values = omega (arith, ry, y, two) }
  where
    at_most_one : (z : Bool) → cond z 1 0 ≤ 1
    at_most_one true = omega arith
    at_most_one false = omega arith

-- what the numbers of a signal leave room for
pub record HasRoom (at : StatusWires) (left : StatusPlaces) : Type 0 where
  pub present : at.present + 1 < 2 ^ 32
  pub value : at.value + 1 < 2 ^ 32
  pub before : at.before + 1 < 2 ^ 32
  pub input : left.input + 2 < 2 ^ 32
  pub values : left.value + 1 < 2 ^ 32

pub room_for : (wires at : StatusWires) (places left : StatusPlaces) (i n : ℕ) → i < n → WithinRoom wires at places left i → wires.present + n < 2 ^ 32 → wires.value + n < 2 ^ 32 → wires.before + n < 2 ^ 32 → places.input + 2 * n < 2 ^ 32 → places.value + n < 2 ^ 32
    → HasRoom at left
room_for wires at places left i n less r p v k x y =
    let rp = r.present in
    let rv = r.value in
    let rk = r.before in
    let ri = r.inputs in
    let ry = r.values in
    record { present = omega (arith, less, rp, p); value = omega (arith, less, rv, v); before = omega (arith, less, rk, k); input = omega (arith, less, ri, x); values = omega (arith, less, ry, y) }
