-- Values for a copy's wires, from values for those of its parts.
use Rattle.std.proofs.Common.{◌≡◌, ℕ, ◌+◌, ◌<◌, ◌==◌, ℤ, pos, Bool, true, false, ◌||◌, cond, List, [], ◌∷◌, get_or, refl, sym, ap, ap₂, ◌∙◌, subst, arith}
use Rattle.java_values.specs.Arithmetic.{is_true}
use Rattle.kernel_terms.specs.declared.tables.Tables.{Tables}
use Rattle.kernel_terms.specs.declared.tables.SignalInfo.{SignalInfo}
use Rattle.kernel_terms.specs.TableEntries.{value_kind}
use Rattle.kernel_terms.specs.Statements.{Stmt}
use Rattle.kernel_rules.specs.definitions.Signals.{Env, combined}
use Rattle.kernel_rules.specs.definitions.TickRule.{Tick, Ticks}
pub use Rattle.surf_graph.specs.definitions.Shows.{Shows}
pub use Rattle.surf_graph.specs.PartSolutions.{Solution}
use Rattle.java_values.specs.Arithmetic.{of_bool}
use Rattle.surf_graph.specs.definitions.Formulas.{Satisfies, is_on}
use Rattle.surf_graph.specs.definitions.Copies.{Copy, Emits, fold_step, fold_emits, Folded}
use Rattle.surf_graph.proofs.Frames.{Agreeing, agree_twice, Inside, EmitsBelow, emits_more, satisfies_still, own, own_agrees, own_at, own_first}
use Rattle.surf_graph.proofs.SetValues.{truth_of}

abbrev pub solved : (tables : Tables) (f w : ℕ → ℤ) (p : Stmt) (r keep n : ℕ) (copy : Copy) (o : Tick) → Shows tables f w p r keep n copy o → Solution f w n copy
solved tables f w p r keep n copy o s = record { values = s.values; same = s.same; solves = s.solves }

pub at : (n k : ℕ) (w v : ℕ → ℤ) (b : Bool) → Agreeing n w v → k < n → is_on w k ≡ b → is_on v k ≡ b
at n k w v b h lt e = ap is_true (h.at k lt) ∙ e

pub zero_at : (n : ℕ) (w v : ℕ → ℤ) → Agreeing n w v → 0 < n → w 0 ≡ pos 0 → v 0 ≡ pos 0
zero_at n w v h lt e = h.at 0 lt ∙ e

-- one part behind k wires of its own
pub record One (f w : ℕ → ℤ) (n k : ℕ) (vs : List ℤ) (a : Copy) (v : ℕ → ℤ) : Type 0 where
  pub same : Agreeing n w v
  pub first : v n ≡ get_or vs 0 (pos 0)
  pub own : (i : ℕ) → i < k → v (n + i) ≡ get_or vs i (pos 0)

pub one_solved : (f w : ℕ → ℤ) (n k : ℕ) (vs : List ℤ) (a : Copy) (v : ℕ → ℤ) → 0 < k → Agreeing (n + k) (own n vs w) v → One f w n k vs a v
one_solved f w n k vs a v lt h =
    record {
      same = agree_twice n (n + k) w (own n vs w) v (omega arith) (own_agrees n vs w) h;
      first = h.at n (omega arith) ∙ own_first n vs w;
      own = λ i le. h.at (n + i) (omega arith) ∙ own_at n i vs w;
    }

-- two parts, of which the second stands behind the first
pub record Two (f w : ℕ → ℤ) (n k : ℕ) (vs : List ℤ) (a b : Copy) (u v : ℕ → ℤ) : Type 0 where
  pub one : One f w n k vs a v
  pub after : Agreeing a.next u v
  pub solves_first : Satisfies f v a.equations
  pub solves_second : Satisfies f v b.equations

pub two_solved : (f w : ℕ → ℤ) (n k : ℕ) (vs : List ℤ) (a b : Copy) → 0 < k → Inside (n + k) a → (x : Solution f (own n vs w) (n + k) a) → (y : Solution f x.values a.next b) → Two f w n k vs a b x.values y.values
two_solved f w n k vs a b lt i x y =
    record {
      one = one_solved f w n k vs a y.values lt (agree_twice (n + k) a.next (own n vs w) x.values y.values i.grows x.same y.same);
      after = y.same;
      solves_first = satisfies_still a.next f x.values y.values a.equations y.same i.equations x.solves;
      solves_second = y.solves;
    }

pub ticks_move : (tables : Tables) (p : Stmt) (o : Tick) (l l' : ℕ → ℤ) (e e' : Env) (x x' : ℕ → ℤ) → l ≡ l' → e ≡ e' → x ≡ x' → Ticks tables l p e x o → Ticks tables l' p e' x' o
ticks_move tables p o l l' e e' x x' a b c h =
    subst (λ z. Ticks tables l' p e' z o) c (subst (λ z. Ticks tables l' p z x o) b (subst (λ z. Ticks tables z p e x o) a h))

-- Values for a fold's wires.
pub record FoldSolution (f w : ℕ → ℤ) (n some : ℕ) (r : Folded) : Type 0 where
  pub values : ℕ → ℤ
  pub same : Agreeing n w values
  pub solves : Satisfies f values r.equations
  pub is_bool : w some ≡ of_bool (is_on w some) → values r.some ≡ of_bool (is_on values r.some)

of_bool_self : (v : ℤ) (b : Bool) → v ≡ of_bool b → v ≡ of_bool (is_true v)
of_bool_self v b h = h ∙ sym (ap of_bool (ap is_true h ∙ truth_of b))

fold_case : (f w : ℕ → ℤ) (info : SignalInfo) (n some value : ℕ) (e : Emits) (b : Bool) (r q : Folded) → e.condition < n → e.value < n → some < n → value < n
    → ((v : ℕ → ℤ) → FoldSolution f v (n + 3) (n + 2) r) → FoldSolution f w n some q → FoldSolution f w n some (cond b (fold_step info n some value e r) q)
fold_case f w info n some value e true r q x y s u here there =
    let x0 : ℤ = cond (is_on w some) (combined info.combine (value_kind info) (w value) (w e.value)) (w e.value) in
    let x1 : ℤ = cond (is_on w e.condition) x0 (w value) in
    let x2 : ℤ = of_bool (is_on w some || is_on w e.condition) in
    let vs = x0 ∷ x1 ∷ x2 ∷ [] in
    let rest = here (own n vs w) in
    let v = rest.values in
    let o = one_solved f w n 3 vs (record { equations = []; status = 0; live = 0; emits = []; variables = λ i. i; sets = λ i. []; next = 0 }) v (omega arith) rest.same in
    let g = o.same in
    let some_at = g.at some s in
    let cond_at = g.at e.condition x in
    record {
      values = v;
      same = g;
      solves = (
        o.first ∙ sym (ap (λ i. cond (is_true i) (combined info.combine (value_kind info) (v value) (v e.value)) (v e.value)) some_at ∙ ap₂ (λ i j. cond (is_on w some) (combined info.combine (value_kind info) i j) j) (g.at value u) (g.at e.value y)),
        (
          o.own 1 (omega arith) ∙ sym (ap (λ i. cond (is_true i) (v n) (v value)) cond_at ∙ ap₂ (λ i j. cond (is_on w e.condition) i j) o.first (g.at value u)),
          (
            o.own 2 (omega arith) ∙ sym (ap₂ (λ i j. of_bool (is_true i || is_true j)) some_at cond_at),
            rest.solves,
          ),
        ),
      );
      is_bool = λ i. rest.is_bool (of_bool_self (own n vs w (n + 2)) (is_on w some || is_on w e.condition) (own_at n 2 vs w));
    }
fold_case f w info n some value e false r q x y s u here there = there

pub fold_solution : (f w : ℕ → ℤ) (info : SignalInfo) (s n some value : ℕ) (es : List Emits) → EmitsBelow n es → some < n → value < n → FoldSolution f w n some (fold_emits info s n some value es)
fold_solution f w info s n some value [] h u v = record { values = w; same = record { at = λ k lt. refl }; solves = tt; is_bool = λ i. i }
fold_solution f w info s n some value (e ∷ es) h u v =
    fold_case f w info n some value e (e.signal == s) (fold_emits info s (n + 3) (n + 2) (n + 1) es) (fold_emits info s n some value es) h.0 h.1.0 u v
    (λ i. fold_solution f i info s (n + 3) (n + 2) (n + 1) es (emits_more n (n + 3) es (omega arith) h.1.1) (omega arith) (omega arith))
    (fold_solution f w info s n some value es h.1.1 u v)
