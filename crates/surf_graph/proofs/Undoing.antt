-- Changes of the wires of variables, and how they are undone one by one.
use Rattle.std.proofs.Common.{◌≡◌, ℕ, ◌+◌, ◌<◌, ◌≤◌, ◌==◌, Bool, true, false, ◌||◌, cond, List, [], ◌∷◌, ◌++◌, length, take, drop, set, get_or, refl, sym, ap, ◌∙◌, subst, arith, length-append, length-set, get_or-set_same, get_or-set_other}
use Rattle.std.specs.Prelude.{slice_index, Some, None}
use Rattle.std.specs.BTreeMap.{BTreeMap, Updates, get, is_at}
use Rattle.std.specs.Ordering.{nat_cmp}
use Rattle.std.proofs.lemmas.Bool.Decides.{nat_tests}
use Rattle.std.proofs.lemmas.List.{take-append-le, drop-append-le, take_more}
use Rattle.std.proofs.Math.ListN.{drop_of_length-le}
use Rattle.std.proofs.Math.Seq.{take-length}
use Rattle.surf_graph.specs.declared.change.Change.{Change}
use Rattle.surf_graph.specs.Copying.{logs}
use Rattle.surf_graph.specs.Variables.{FitChanges, FitLast, UndoesLast, HasWires}
use Rattle.surf_graph.specs.definitions.Changes.{undone}
use Rattle.surf_graph.proofs.Parts.{by_cases}

-- one change more

or_more : (a b c : Bool) → a || (b || c) ≡ (a || b) || c
or_more true b c = refl
or_more false b c = refl

or_none : (a : Bool) → a ≡ a || false
or_none true = refl
or_none false = refl

pub logs_both : (xs ys : List Change) (x : ℕ) → logs (xs ++ ys) x ≡ logs xs x || logs ys x
logs_both [] ys x = refl
logs_both (c ∷ cs) ys x = ap (λ b. (c.variable == x) || b) (logs_both cs ys x) ∙ or_more (c.variable == x) (logs cs x) (logs ys x)

pub logs_push : (xs : List Change) (c : Change) (x : ℕ) → logs (xs ++ c ∷ []) x ≡ logs xs x || (c.variable == x)
logs_push xs c x = logs_both xs (c ∷ []) x ∙ ap (λ b. logs xs x || b) (sym (or_none (c.variable == x)))

pub undone_both : (xs ys : List Change) (v : ℕ → ℕ) (x : ℕ) → undone (xs ++ ys) v x ≡ undone xs (undone ys v) x
undone_both [] ys v x = refl
undone_both (c ∷ cs) ys v x = ap (λ k. cond (c.variable == x) c.before k) (undone_both cs ys v x)

pub undone_same : (xs : List Change) (u v : ℕ → ℕ) → ((y : ℕ) → u y ≡ v y) → (x : ℕ) → undone xs u x ≡ undone xs v x
undone_same [] u v h x = h x
undone_same (c ∷ cs) u v h x = ap (λ k. cond (c.variable == x) c.before k) (undone_same cs u v h x)

-- the wires that variables had

at_number : (k q : ℕ) → is_at (nat_cmp k) q ≡ (k == q)
at_number k q = grind (arith, nat_tests)

pub same_number : (i j : ℕ) → (i == j) ≡ true → i ≡ j
same_number i j g = grind (arith, nat_tests)

pub no_wires : (wires : List ℕ) (left : BTreeMap ℕ ℕ) → left.entries ≡ [] → HasWires [] wires left
no_wires wires left e = record { at = λ x. grind (arith, e) }

wire_added : (b s : Bool) (k x : ℕ) (w : ℕ → ℕ) → (s ≡ true → k ≡ x) → cond s (Some (w k)) (cond b (Some (w x)) None) ≡ cond (b || s) (Some (w x)) None
wire_added true true k x w h = ap (λ i. Some (w i)) (h refl)
wire_added false true k x w h = ap (λ i. Some (w i)) (h refl)
wire_added true false k x w h = refl
wire_added false false k x w h = refl

pub one_more_wire : (xs : List Change) (c : Change) (wires : List ℕ) (left new : BTreeMap ℕ ℕ) → HasWires xs wires left → Updates nat_cmp left new c.variable (Some (slice_index wires c.variable)) → HasWires (xs ++ c ∷ []) wires new
one_more_wire xs c wires left new h u =
    record {
      at = λ x.
          u.0 x
          ∙ ap (λ b. cond b (Some (slice_index wires c.variable)) (get nat_cmp left x)) (at_number c.variable x)
          ∙ ap (λ o. cond (c.variable == x) (Some (slice_index wires c.variable)) o) (h.at x)
          ∙ wire_added (logs xs x) (c.variable == x) c.variable x (λ y. slice_index wires y) (same_number c.variable x)
          ∙ ap (λ b. cond b (Some (slice_index wires x)) None) (sym (logs_push xs c x));
    }

-- all but the last

record Ended (cs : List Change) : Type 0 where
  front : List Change
  last : Change
  is : cs ≡ front ++ last ∷ []

ended : (c : Change) (cs : List Change) → Ended (c ∷ cs)
ended c [] = record { front = []; last = c; is = refl }
ended c (d ∷ cs) = let e = ended d cs in record { front = c ∷ e.front; last = e.last; is = ap (λ l. c ∷ l) e.is }

ended_if : (cs : List Change) (n : ℕ) → n < length cs → Ended cs
ended_if [] n lt = absurd (omega arith)
ended_if (c ∷ cs) n lt = ended c cs

-- the changes from a mark on, so far as they aren't undone
pub record Undoing (mark : ℕ) (wires : List ℕ) (cs : List Change) (now : List ℕ) (rest : List Change) : Type 0 where
  pub le : mark ≤ length rest
  pub kept : take mark rest ≡ take mark cs
  pub count : length now ≡ length wires
  pub within : FitChanges (length now) (drop mark rest)
  pub same : (x : ℕ) → undone (drop mark rest) (λ y. slice_index now y) x ≡ undone (drop mark cs) (λ y. slice_index wires y) x

pub undoing_begins : (mark : ℕ) (wires : List ℕ) (cs : List Change) → mark ≤ length cs → FitChanges (length wires) (drop mark cs) → Undoing mark wires cs wires cs
undoing_begins mark wires cs le w = record { le = le; kept = refl; count = refl; within = w; same = λ x. refl }

or_last : (a b : Bool) → b ≡ true → a || b ≡ true
or_last true b h = refl
or_last false b h = h

or_first : (a b : Bool) → a ≡ true → a || b ≡ true
or_first true b h = refl
or_first false b h = cc

same_itself : (k : ℕ) → (k == k) ≡ true
same_itself k = grind (arith, nat_tests)

last_within : (mark n : ℕ) (xs : List Change) (c : Change) → mark ≤ length xs → FitChanges n (drop mark (xs ++ c ∷ [])) → c.variable < n
last_within mark n xs c le w =
    w.at c.variable
    (ap (λ l. logs l c.variable) (drop-append-le mark xs (c ∷ []) le)
    ∙ logs_push (drop mark xs) c c.variable
    ∙ or_last (logs (drop mark xs) c.variable) (c.variable == c.variable) (same_itself c.variable))

pub fits_last : (mark n : ℕ) (cs : List Change) → mark < length cs → FitChanges n (drop mark cs) → FitLast n cs
fits_last mark n cs lt w =
    record {
      at = λ xs c e.
          let l = ap length e ∙ length-append xs (c ∷ []) in
          let le : mark ≤ length xs = omega (arith, lt, l) in
          last_within mark n xs c le (subst (λ k. FitChanges n (drop mark k)) e w);
    }

pub set_one : (now : List ℕ) (k w : ℕ) → k < length now → (y : ℕ) → slice_index (set now k w) y ≡ cond (k == y) w (slice_index now y)
set_one now k w lt y =
    by_cases (k == y)
    (λ e. ap (λ i. slice_index (set now k w) i) (sym (same_number k y e)) ∙ get_or-set_same now k w 0 lt ∙ sym (ap (λ b. cond b w (slice_index now y)) e))
    (λ e. get_or-set_other now k y w 0 (λ i. absurd (apart k y e (sym i))) ∙ sym (ap (λ b. cond b w (slice_index now y)) e)) where
      apart : (k y : ℕ) → (k == y) ≡ false → k ≡ y → ⊥
      apart k y e i = grind (arith, nat_tests)

undo_one : (mark : ℕ) (wires : List ℕ) (cs : List Change) (now new : List ℕ) (xs : List Change) (c : Change) → mark ≤ length xs → Undoing mark wires cs now (xs ++ c ∷ []) → new ≡ set now c.variable c.before → Undoing mark wires cs new xs
undo_one mark wires cs now new xs c le u e =
    let d = drop-append-le mark xs (c ∷ []) le in
    let n = ap length e ∙ length-set now c.variable c.before in
    let lt = last_within mark (length now) xs c le u.within in
    record {
      le = le;
      kept = sym (take-append-le mark xs (c ∷ []) le) ∙ u.kept;
      count = n ∙ u.count;
      within = record {
        at = λ x h.
            subst (λ k. x < k) (sym n)
            (u.within.at x (ap (λ l. logs l x) d ∙ logs_push (drop mark xs) c x ∙ or_first (logs (drop mark xs) x) (c.variable == x) h));
      };
      same = λ x.
          undone_same (drop mark xs) (λ y. slice_index new y) (λ y. cond (c.variable == y) c.before (slice_index now y)) (λ y. ap (λ l. slice_index l y) e ∙ set_one now c.variable c.before lt y) x
          ∙ sym (undone_both (drop mark xs) (c ∷ []) (λ y. slice_index now y) x)
          ∙ sym (ap (λ l. undone l (λ y. slice_index now y) x) d)
          ∙ u.same x;
    }

pub undoing_goes_on : (mark : ℕ) (wires : List ℕ) (cs : List Change) (now new : List ℕ) (rest less : List Change) → mark < length rest → UndoesLast now rest new less → Undoing mark wires cs now rest → Undoing mark wires cs new less
undoing_goes_on mark wires cs now new rest less lt l u =
    let e = ended_if rest mark lt in
    let r = l.at e.front e.last e.is in
    let n = ap length e.is ∙ length-append e.front (e.last ∷ []) in
    let le : mark ≤ length e.front = omega (arith, lt, n) in
    subst (λ k. Undoing mark wires cs new k) (sym r.0)
    (undo_one mark wires cs now new e.front e.last le (subst (λ k. Undoing mark wires cs now k) e.is u) r.1)

pub one_less : (mark : ℕ) (now new : List ℕ) (rest less : List Change) → mark < length rest → UndoesLast now rest new less → length less < length rest
one_less mark now new rest less lt l =
    let e = ended_if rest mark lt in
    let r = ap length (l.at e.front e.last e.is).0 in
    let n = ap length e.is ∙ length-append e.front (e.last ∷ []) in
    omega (arith, r, n)

all_taken : (mark : ℕ) (rest : List Change) → length rest ≡ mark → take mark rest ≡ rest
all_taken mark rest e = subst (λ k. take k rest ≡ rest) e (take-length rest)

pub undoing_ends : (mark : ℕ) (wires : List ℕ) (cs : List Change) (now : List ℕ) (rest : List Change) → length rest ≤ mark → Undoing mark wires cs now rest
    → (rest ≡ take mark cs) × ((x : ℕ) → slice_index now x ≡ undone (drop mark cs) (λ y. slice_index wires y) x)
undoing_ends mark wires cs now rest le u =
    (sym (all_taken mark rest (omega (arith, le, u.le))) ∙ u.kept, λ x. sym (ap (λ l. undone l (λ y. slice_index now y) x) (drop_of_length-le rest le)) ∙ u.same x)

pub next_wire : (cs : List Change) (i : ℕ) (d : Change) (k w : ℕ) (wires : List ℕ) (left new : BTreeMap ℕ ℕ) → i < length cs → k ≡ (get_or cs i d).variable → w ≡ slice_index wires k
    → HasWires (take i cs) wires left → Updates nat_cmp left new k (Some w) → HasWires (take (i + 1) cs) wires new
next_wire cs i d k w wires left new lt e f h u =
    let v : Updates nat_cmp left new (get_or cs i d).variable (Some (slice_index wires (get_or cs i d).variable)) =
    subst (λ j. Updates nat_cmp left new j (Some (slice_index wires j))) e (subst (λ z. Updates nat_cmp left new k (Some z)) f u) in
    subst (λ l. HasWires l wires new) (sym (take_more cs i d lt)) (one_more_wire (take i cs) (get_or cs i d) wires left new h v)
