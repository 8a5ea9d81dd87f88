-- One more pair in a merge.
use Rattle.std.proofs.Common.{◌≡◌, ◌≢◌, ◌⊎◌, inl, inr, ℕ, zero, suc, ◌+◌, ◌<◌, ◌≤◌, ℤ, true, false, ◌&&◌, ◌||◌, nat_eq, List, [], ◌∷◌, ◌++◌, length, map, take, drop, get_or, All, append_assoc, append-nil, add-one, drop-cons, arith, refl, sym, ap, ◌∙◌, subst, length-append, get_or-set_other, get_or-set_same, length-set}
use Rattle.std.specs.Prelude.{slice_index, replicate}
use Rattle.std.proofs.Math.ListN.{set, length-map, drop_of_length-le}
use Rattle.std.proofs.lemmas.List.{get_or-map}
use Rattle.std.proofs.Math.Seq.{take-suc}
use Rattle.std.proofs.lemmas.Bool.{cases_lt}
use Rattle.std.proofs.lemmas.Bool.Decides.{nat_tests}
use Rattle.plain_code.specs.declared.equation.Equation.{Equation}
use Rattle.plain_code.specs.declared.formula.Formula.TheVariants.{Or}
use Rattle.plain_code.specs.Formulas.{FitsFrame, Satisfies, is_on}
use Rattle.plain_code.proofs.SolvingLemmas.{satisfies_front}
use Rattle.domain_core.specs.equations.Circuit.{Part, is_set}
use Rattle.domain_core.specs.equations.BuiltCodes.{Below, TellsEither, Merges, Shows, head}
use Rattle.domain_core.proofs.lemmas.equations.CircuitPairs.{set-append, or_off}
use Rattle.domain_core.proofs.lemmas.equations.CircuitOrder.{ordered_append, fits_append}
use Rattle.domain_core.proofs.lemmas.equations.CircuitWires.{or_wire}

all_zero : (count n : ℕ) → slice_index (replicate count 0) n ≡ 0
all_zero zero n = refl
all_zero (suc count) zero = refl
all_zero (suc count) (suc n) = all_zero count n

length-zeros : (count : ℕ) → length {A = ℕ} (replicate count 0) ≡ count
length-zeros zero = refl
length-zeros (suc count) = omega (arith, length-zeros count)

pub merges_none : (old : List Equation) (count : ℕ) → 0 < length old → Merges old old (replicate count 0) [] count
merges_none old count z = record {
  ordered = λ h. h;
  fits = λ size h. h;
  grows = omega arith;
  keeps = λ f w h. h;
  size = length-zeros count;
  wires_below = λ n h. omega (arith, all_zero count n);
  tests = λ n h f w s off. ap (λ k. is_on w k) (all_zero count n) ∙ off;
}

equal_test : (m n : ℕ) → m ≡ n → nat_eq m n ≡ true
equal_test m n h = grind (arith, nat_tests)

unequal_test : (m n : ℕ) → m ≢ n → nat_eq m n ≡ false
unequal_test m n h = grind (arith, nat_tests)

one_set : (w : List ℤ) (pair : ℕ × ℕ) (n : ℕ) → pair.0 ≡ n → is_set w (pair ∷ []) n ≡ is_on w pair.1
one_set w pair n e = ap (λ b. (b && is_on w pair.1) || false) (equal_test pair.0 n e) ∙ or_off (is_on w pair.1)

one_unset : (w : List ℤ) (pair : ℕ × ℕ) (n : ℕ) → pair.0 ≢ n → is_set w (pair ∷ []) n ≡ false
one_unset w pair n e = ap (λ b. (b && is_on w pair.1) || false) (unequal_test pair.0 n e)

same_or_not : (m n : ℕ) → (m ≡ n) ⊎ (m ≢ n)
same_or_not m n = elim (cases_lt m n) [
  | inl lt ↦ inr (λ e. omega arith)
  | inr ge ↦ elim (cases_lt n m) [
    | inl lt ↦ inr (λ e. omega arith)
    | inr le ↦ inl (omega arith)
  ]
]

pub either_second : (es : List Equation) (first second : ℕ) → first ≡ 0 → TellsEither es es first second second
either_second es first second z = record {
  ordered = λ a b h. h;
  fits = λ size h. h;
  grows = omega arith;
  below = λ h. h;
  keeps = λ f w h. h;
  tests = λ f w s off. sym (ap (λ k. is_on w k || is_on w second) z ∙ ap (λ b. b || is_on w second) off);
}

either_or : (es : List Equation) (first second : ℕ) → TellsEither es (es ++ record { wire = length es; formula = Or first second } ∷ []) first second (length es)
either_or es first second =
    let last : Equation = record { wire = length es; formula = Or first second } in
    let len = length-append es (last ∷ []) in
    record {
      ordered = λ a b h. ordered_append es (last ∷ []) 0 h ((let z : length es ≡ 0 + length es = omega arith in z), (omega (arith, a), omega (arith, b)), tt);
      fits = λ size h. fits_append es (last ∷ []) size h (tt, tt);
      grows = omega (arith, len);
      below = λ h. omega (arith, len);
      keeps = λ f w h. satisfies_front es (last ∷ []) f w h;
      tests = λ f w sat off. or_wire w f es (length es) first second sat;
    }

pub either_added : (es new : List Equation) (first second wire : ℕ) → wire ≡ length es → new ≡ es ++ record { wire = wire; formula = Or first second } ∷ [] → TellsEither es new first second wire
either_added es new first second wire w is =
    subst (λ l. TellsEither es l first second wire) (sym is)
    (subst (λ k. TellsEither es (es ++ record { wire = k; formula = Or first second } ∷ []) first second k) (sym w) (either_or es first second))

merges_one : (old now next : List Equation) (wires : List ℕ) (seen : List (ℕ × ℕ)) (pair : ℕ × ℕ) (count wire : ℕ) → pair.0 < count → pair.1 < length old → TellsEither now next (slice_index wires pair.0) pair.1 wire → Merges old now wires seen count
    → Merges old next (set wires pair.0 wire) (seen ++ pair ∷ []) count
merges_one old now next wires seen pair count wire in_count lt e t =
    let within = t.wires_below pair.0 in_count in
    let second : pair.1 < length now = omega (arith, t.grows) in
    record {
      ordered = λ h. e.ordered within second (t.ordered h);
      fits = λ size h. e.fits size (t.fits size h);
      grows = omega (arith, t.grows, e.grows);
      keeps = λ f w h. t.keeps f w (e.keeps f w h);
      size = length-set wires pair.0 wire ∙ t.size;
      wires_below = λ n h. elim (same_or_not pair.0 n) [
        | inl same ↦ (let s : slice_index (set wires pair.0 wire) n ≡ wire = ap (λ k. slice_index (set wires pair.0 wire) k) (sym same) ∙ get_or-set_same wires pair.0 wire 0 (omega (arith, t.size)) in let b = e.below second in omega arith)
        | inr ne ↦ (let s : slice_index (set wires pair.0 wire) n ≡ slice_index wires n = get_or-set_other wires pair.0 n wire 0 (λ e. ne (sym e)) in let b = t.wires_below n h in omega (arith, e.grows))
      ];
      tests = λ n h f w sat off. elim (same_or_not pair.0 n) [
        | inl same ↦
            ap (λ k. is_on w (slice_index (set wires pair.0 wire) k)) (sym same) ∙ ap (λ k. is_on w k) (get_or-set_same wires pair.0 wire 0 (omega (arith, t.size)))
            ∙ e.tests f w sat off
            ∙ ap (λ k. is_on w (slice_index wires k) || is_on w pair.1) same
            ∙ ap (λ b. b || is_on w pair.1) (t.tests n h f w (e.keeps f w sat) off)
            ∙ sym (ap (λ b. is_set w seen n || b) (one_set w pair n same)) ∙ sym (set-append w seen (pair ∷ []) n)
        | inr ne ↦
            ap (λ k. is_on w k) (get_or-set_other wires pair.0 n wire 0 (λ e. ne (sym e)))
            ∙ t.tests n h f w (e.keeps f w sat) off
            ∙ sym (or_off (is_set w seen n)) ∙ sym (ap (λ b. is_set w seen n || b) (one_unset w pair n ne)) ∙ sym (set-append w seen (pair ∷ []) n)
      ];
    }

pub below_at : (count limit : ℕ) (pairs : List (ℕ × ℕ)) (i : ℕ) (d : ℕ × ℕ) → Below count limit pairs → i < length pairs → ((get_or pairs i d).0 < count) × ((get_or pairs i d).1 < limit)
below_at count limit [] i d h lt = absurd (omega arith)
below_at count limit (p ∷ ps) zero d h lt = (h.0, h.1)
below_at count limit (p ∷ ps) (suc i) d h lt = below_at count limit ps i d h.2 (omega arith)

pub merges_more : (old now next : List Equation) (wires : List ℕ) (pairs : List (ℕ × ℕ)) (i count wire : ℕ) (d : ℕ × ℕ) → i < length pairs → Below count (length old) pairs
    → TellsEither now next (slice_index wires (get_or pairs i d).0) (get_or pairs i d).1 wire
    → Merges old now wires (take i pairs) count → Merges old next (set wires (get_or pairs i d).0 wire) (take (i + 1) pairs) count
merges_more old now next wires pairs i count wire d lt below e t =
    let pair = get_or pairs i d in
    let b = below_at count (length old) pairs i d below lt in
    let seen : take i pairs ++ pair ∷ [] ≡ take (i + 1) pairs = sym (take-suc pairs i d lt) ∙ (let z : suc i ≡ i + 1 = omega arith in ap (λ k. take k pairs) z) in
    subst (λ l. Merges old next (set wires pair.0 wire) l count) seen (merges_one old now next wires (take i pairs) pair count wire b.0 b.1 e t)

pub ruleset merge_steps = (merges_none, merges_more, below_at)

-- the wires of some numbers
pub picking_first : (f : ℕ → ℕ) (numbers : List ℕ) → [] ++ map f numbers ≡ map f numbers
picking_first f numbers = refl

pub picking_on : (f : ℕ → ℕ) (numbers picked : List ℕ) (i n : ℕ) → i < length numbers → n ≡ get_or numbers i n → picked ++ map f (drop i numbers) ≡ map f numbers → (picked ++ f n ∷ []) ++ map f (drop (i + 1) numbers) ≡ map f numbers
picking_on f numbers picked i n lt is before =
    append_assoc picked (f n ∷ []) (map f (drop (i + 1) numbers))
    ∙ ap (λ k. picked ++ f n ∷ map f (drop k numbers)) (add-one i)
    ∙ ap (λ k. picked ++ f k ∷ map f (drop (suc i) numbers)) is
    ∙ sym (ap (λ l. picked ++ map f l) (drop-cons numbers i n lt))
    ∙ before

pub picking_last : (f : ℕ → ℕ) (numbers picked : List ℕ) (i : ℕ) → length numbers ≤ i → picked ++ map f (drop i numbers) ≡ map f numbers → picked ≡ map f numbers
picking_last f numbers picked i past before = sym (append-nil picked) ∙ sym (ap (λ l. picked ++ map f l) (drop_of_length-le numbers past)) ∙ before

pub ruleset picking_steps = (picking_first, picking_on, picking_last)

pub shows : (e0 e1 e2 code : List Equation) (emitted present next own : List ℕ) (sets emits : List (ℕ × ℕ)) (end signals count : ℕ) → Merges e0 e1 emitted emits signals → Merges e1 e2 next sets count → code ≡ e2 → FitsFrame count e0 → end < length e0
    → All (λ (s : ℕ). s < signals) own → present ≡ map (slice_index emitted) own
    → (part : Part) → head ++ part.equations ≡ e0 → part.done ≡ end → part.sets ≡ sets → part.emits ≡ emits → Shows code present next end head part own count
shows e0 e1 e2 code emitted present next own sets emits end signals count x y code_is fits lt below picked part is d s e =
    let wire : (n : ℕ) → n < length own → slice_index present n ≡ slice_index emitted (slice_index own n) =
    λ n h. ap (λ l. slice_index l n) picked ∙ get_or-map (slice_index emitted) own n 0 0 h in
    let go : Shows e2 present next end head part own count = record {
      fits = y.fits count (x.fits count fits);
      keeps = λ f w h. subst (λ l. Satisfies l f w) (sym is) (x.keeps f w (y.keeps f w h));
      done = sym d;
      end_below = omega (arith, x.grows, y.grows);
      signal_count = ap length picked ∙ length-map own (slice_index emitted);
      signals_below = λ n h. (let b = x.wires_below (slice_index own n) (below n 0 h) in let w = wire n h in omega (arith, b, y.grows, w));
      emits = λ n h f w sat off. ap (is_on w) (wire n h) ∙ x.tests (slice_index own n) (below n 0 h) f w (y.keeps f w sat) off ∙ ap (λ l. is_set w l (slice_index own n)) (sym e);
      registers = y.size;
      registers_below = λ n h. y.wires_below n h;
      sets = λ n h f w sat off. y.tests n h f w sat off ∙ ap (λ l. is_set w l n) (sym s);
    } in
    subst (λ l. Shows l present next end head part own count) (sym code_is) go
