-- Values for the further wires of equations that are spelled out.
use Rattle.std.proofs.Common.{◌≡◌, ◌+◌, ◌<◌, ◌≤◌, ℕ, ℤ, pos, ◌&&◌, ◌||◌, not, cond, List, [], ◌∷◌, ◌++◌, length, Option, Some, None, refl, sym, subst, arith, ap, ap₂, ◌∙◌}
use Rattle.std.proofs.lemmas.List.{length-append}
use Rattle.java_values.specs.Arithmetic.{is_true, of_bool, applied1, applied2, cast_to}
use Rattle.java_values.specs.declared.kind.Kind.{Kind}
use Rattle.java_values.specs.declared.op.Op2.{Op2}
use Rattle.java_values.specs.declared.op.Op2.TheVariants as op
use Rattle.kernel_terms.specs.declared.tables.Combine.{Combine}
use Rattle.kernel_terms.specs.declared.tables.Combine.TheVariants as combine
use Rattle.kernel_terms.specs.TableEntries.{value_kind}
use Rattle.kernel_terms.specs.Expressions.{Expression, Literal, Variable, SignalValue, ChannelValue, Unary, Binary, Cast, kind_of, Test, IsPresent, Not, Both, Either}
use Rattle.surf_graph.specs.definitions.Formulas.{Wires, Formula, Const, Get, Same, And, AndNot, Or, Choose, Zero, StatusOf, Status, IsStatus, Greater, OfTrap, OfWeakAbort, Value, Holds, Equation, Satisfies, formula_value, Within, Reads, WiresBelow}
use Rattle.surf_graph.specs.definitions.Formulas as formula
use Rattle.surf_graph.specs.definitions.Operations.{Solved, OperationsShow}
use Rattle.surf_graph.specs.definitions.Copies.{Copy, Context}
use Rattle.surf_graph.specs.definitions.Shows.{Outside, Shows}
use Rattle.kernel_terms.specs.declared.tables.Tables.{Tables}
use Rattle.kernel_terms.specs.Statements.{Stmt}
use Rattle.kernel_rules.specs.definitions.TickRule.{Tick}
use Rattle.surf_graph.specs.definitions.SpelledOut.{Computing, gives, divisor_of, folded_to, value_wires, test_wires, operator_wires, extreme_wires, combined_wires, spelled, spelled_out}
use Rattle.surf_graph.proofs.ExpressionWires.{meets_both, spelled_given}
use Rattle.surf_graph.proofs.Frames.{Agreeing, Inside, tells_still, agree_less, agree_twice, wires_more, own, own_agrees, own_first, satisfies_still, value_agrees, reads_more}
use Rattle.wire_code.specs.Formulas.{Satisfies as Meets, formula_value as given_by, ReadsBelow, IsOrdered}
use Rattle.wire_code.specs.declared.formula.Formula.{Formula as Operation}
use Rattle.wire_code.specs.declared.formula.Formula.TheVariants as wire
use Rattle.wire_code.specs.declared.equation.Equation.{Equation as WireEquation}

pub given_agrees : (n : ℕ) (f w v : ℕ → ℤ) (i : Operation) → Agreeing n w v → ReadsBelow n i → given_by f v i ≡ given_by f w i
given_agrees n f w v (wire.Const k) h r = refl
given_agrees n f w v (wire.Get k) h r = refl
given_agrees n f w v (wire.And a b) h r = ap₂ (λ x y. of_bool (is_true x && is_true y)) (h.at a r.0) (h.at b r.1)
given_agrees n f w v (wire.Or a b) h r = ap₂ (λ x y. of_bool (is_true x || is_true y)) (h.at a r.0) (h.at b r.1)
given_agrees n f w v (wire.Not a) h r = ap (λ x. of_bool (not (is_true x))) (h.at a r)
given_agrees n f w v (wire.Apply1 op k a) h r = ap (λ x. applied1 op k x) (h.at a r)
given_agrees n f w v (wire.Apply2 op k l a b) h r = ap₂ (λ x y. applied2 op k x l y) (h.at a r.0) (h.at b r.1)
given_agrees n f w v (wire.Cast k l a) h r = ap (λ x. cast_to l x) (h.at a r)
given_agrees n f w v (wire.Choose c a b) h r = ap (λ x. cond (is_true x) (v a) (v b)) (h.at c r.0) ∙ ap₂ (λ x y. cond (is_true (w c)) x y) (h.at a r.1) (h.at b r.2)

-- equations for the wires from n on, up to this one
pub record Runs (n : ℕ) (es : List WireEquation) (next : ℕ) : Type 0 where
  pub ordered : IsOrdered n es
  pub size : n + length es ≡ next

none_run : (n : ℕ) → Runs n [] n
none_run n = record { ordered = tt; size = omega arith }

ordered_both : (n m : ℕ) (es ds : List WireEquation) → IsOrdered n es → n + length es ≡ m → IsOrdered m ds → IsOrdered n (es ++ ds)
ordered_both n m [] ds h e k = subst (λ x. IsOrdered x ds) (sym e ∙ omega arith) k
ordered_both n m (i ∷ es) ds h e k = (h.0, h.1, ordered_both (n + 1) m es ds h.2 (omega (arith, e)) k)

runs_both : (n m l : ℕ) (es ds : List WireEquation) → Runs n es m → Runs m ds l → Runs n (es ++ ds) l
runs_both n m l es ds h k =
    let a = h.size in
    let b = k.size in
    let c : length (es ++ ds) ≡ length es + length ds = length-append es ds in
    record { ordered = ordered_both n m es ds h.ordered a k.ordered; size = omega (arith, a, b, c) }

runs_one : (n m : ℕ) (es : List WireEquation) (i : Operation) → Runs n es m → ReadsBelow m i → Runs n (es ++ (gives m i ∷ [])) (m + 1)
runs_one n m es i h r = runs_both n m (m + 1) es (gives m i ∷ []) h (record { ordered = (refl, r, tt); size = omega arith })

-- a computation by wires from n on
pub record Computes (n : ℕ) (a : Computing) : Type 0 where
  pub runs : Runs n a.equations a.next
  pub grows : n ≤ a.next
  pub wire : a.wire < a.next

computes_one : (n : ℕ) (a : Computing) (i : Operation) → Computes n a → ReadsBelow a.next i → Computes n (record { equations = a.equations ++ (gives a.next i ∷ []); wire = a.next; next = a.next + 1 })
computes_one n a i h r = let g = h.grows in record { runs = runs_one n a.next a.equations i h.runs r; grows = omega (arith, g); wire = omega arith }

computes_two : (n : ℕ) (a b : Computing) (i : Operation) → Computes n a → Computes a.next b → (a.wire < b.next → b.wire < b.next → ReadsBelow b.next i)
    → Computes n (record { equations = (a.equations ++ b.equations) ++ (gives b.next i ∷ []); wire = b.next; next = b.next + 1 })
computes_two n a b i h k r =
    let x = h.grows in
    let y = k.grows in
    let s = h.wire in
    record {
      runs = runs_one n b.next (a.equations ++ b.equations) i (runs_both n a.next b.next a.equations b.equations h.runs k.runs) (r (omega (arith, s, y)) k.wire);
      grows = omega (arith, x, y);
      wire = omega arith;
    }

-- a divisor is one constant
pub divisor_computes : (d : Option ℤ) (n : ℕ) (a : Computing) → Computes n a → Computes n (folded_to d n a)
divisor_computes None n a h = h
divisor_computes (Some m) n a h = record { runs = record { ordered = (refl, tt, tt); size = omega arith }; grows = omega arith; wire = omega arith }

pub value_computes : (v : Wires) (n : ℕ) (e : Expression) → WiresBelow n v → Computes n (value_wires v n e)
value_computes v n (Literal k m) b = record { runs = record { ordered = (refl, tt, tt); size = omega arith }; grows = omega arith; wire = omega arith }
value_computes v n (Variable k x) b = record { runs = none_run n; grows = omega arith; wire = b.variables x }
value_computes v n (SignalValue k s) b = record { runs = none_run n; grows = omega arith; wire = b.value s }
value_computes v n (ChannelValue k c) b = record { runs = none_run n; grows = omega arith; wire = b.last c }
value_computes v n (Unary k o e) b =
    let a = value_wires v n e in
    let x = value_computes v n e b in
    computes_one n a (wire.Apply1 o (kind_of e) a.wire) x x.wire
value_computes v n (Binary k o e g) b =
    let a = value_wires v n e in
    let x = value_computes v n e b in
    let c = folded_to (divisor_of o g) a.next (value_wires v a.next g) in
    let y = divisor_computes (divisor_of o g) a.next (value_wires v a.next g) (value_computes v a.next g (wires_more n a.next v x.grows b)) in
    computes_two n a c (wire.Apply2 o (kind_of e) (kind_of g) a.wire c.wire) x y (λ s t. (s, t))
value_computes v n (Cast k e) b =
    let a = value_wires v n e in
    let x = value_computes v n e b in
    computes_one n a (wire.Cast (kind_of e) k a.wire) x x.wire

pub test_computes : (v : Wires) (n : ℕ) (t : Test) → WiresBelow n v → Computes n (test_wires v n t)
test_computes v n (IsPresent s) b = record { runs = none_run n; grows = omega arith; wire = b.present s }
test_computes v n (Not t) b =
    let a = test_wires v n t in
    let x = test_computes v n t b in
    computes_one n a (wire.Not a.wire) x x.wire
test_computes v n (Both t u) b =
    let a = test_wires v n t in
    let x = test_computes v n t b in
    let c = test_wires v a.next u in
    let y = test_computes v a.next u (wires_more n a.next v x.grows b) in
    computes_two n a c (wire.And a.wire c.wire) x y (λ s t. (s, t))
test_computes v n (Either t u) b =
    let a = test_wires v n t in
    let x = test_computes v n t b in
    let c = test_wires v a.next u in
    let y = test_computes v a.next u (wires_more n a.next v x.grows b) in
    computes_two n a c (wire.Or a.wire c.wire) x y (λ s t. (s, t))

operator_runs : (o : Op2) (k : Kind) (n a b : ℕ) → a < n → b < n → Runs n (operator_wires o k n a b).equations (n + 2)
operator_runs o k n a b x y = record { ordered = (refl, (x, y), (refl, omega arith, tt)); size = omega arith }

extreme_runs : (k : Kind) (n a b i j : ℕ) → a < n → b < n → i < n → j < n → Runs n (extreme_wires k n a b i j).equations (n + 2)
extreme_runs k n a b i j x y s t = record { ordered = (refl, (x, y), (refl, (omega arith, omega (arith, s), omega (arith, t)), tt)); size = omega arith }

combined_runs : (c : Combine) (k : Kind) (n a b : ℕ) → a < n → b < n → Runs n (combined_wires c k n a b).equations (combined_wires c k n a b).next
combined_runs combine.Add k n a b x y = operator_runs op.Add k n a b x y
combined_runs combine.Max k n a b x y = extreme_runs k n a b b a x y y x
combined_runs combine.Min k n a b x y = extreme_runs k n a b a b x y x y
combined_runs combine.And k n a b x y = operator_runs op.And k n a b x y
combined_runs combine.Or k n a b x y = operator_runs op.Or k n a b x y
combined_runs combine.Xor k n a b x y = operator_runs op.Xor k n a b x y

trap_runs : (n a : ℕ) → a < n → Runs n (spelled n (OfTrap a)).equations (n + 9)
trap_runs n a x =
    record {
      ordered = (
        refl,
        tt,
        (
          refl,
          (omega (arith, x), omega arith),
          (
            omega arith,
            (omega arith, omega (arith, x)),
            (
              omega arith,
              tt,
              (
                omega arith,
                (omega (arith, x), omega arith),
                (
                  omega arith,
                  (omega arith, omega arith),
                  (omega arith, tt, (omega arith, (omega (arith, x), omega arith), (omega arith, (omega arith, omega arith, omega (arith, x)), tt))),
                ),
              ),
            ),
          ),
        ),
      );
      size = omega arith;
    }

weak_abort_runs : (n t a : ℕ) → t < n → a < n → Runs n (spelled n (OfWeakAbort t a)).equations (n + 5)
weak_abort_runs n t a y x =
    record {
      ordered = (refl, tt, (refl, (omega (arith, x), omega arith), (omega arith, (omega (arith, y), omega arith), (omega arith, tt, (omega arith, omega arith, tt)))));
      size = omega arith;
    }

pub spelled_runs : (n : ℕ) (i : Formula) → Reads n i → Runs n (spelled n i).equations (spelled n i).next
spelled_runs n (Const m) r = none_run n
spelled_runs n (Get k) r = none_run n
spelled_runs n (Same a) r = none_run n
spelled_runs n (And a b) r = none_run n
spelled_runs n (AndNot a b) r = record { ordered = (refl, r.1, tt); size = omega arith }
spelled_runs n (Or a b) r = none_run n
spelled_runs n (Choose c a b) r = none_run n
spelled_runs n (Zero k) r = record { ordered = (refl, tt, tt); size = omega arith }
spelled_runs n (StatusOf code) r = record { ordered = (refl, tt, tt); size = omega arith }
spelled_runs n (Status go code) r = record { ordered = (refl, tt, (refl, omega arith, tt)); size = omega arith }
spelled_runs n (IsStatus a code) r = record { ordered = (refl, tt, tt); size = omega arith }
spelled_runs n (Greater a b) r = record { ordered = (refl, (r.1, r.0), tt); size = omega arith }
spelled_runs n (OfTrap a) r = trap_runs n a r
spelled_runs n (OfWeakAbort t a) r = weak_abort_runs n t a r.0 r.1
spelled_runs n (formula.Combine info some a b) r = combined_runs info.combine (value_kind info) n a b r.1 r.2
spelled_runs n (Value e v) r = (value_computes v n e r).runs
spelled_runs n (Holds t v) r = (test_computes v n t r).runs

-- values for the wires of ordered equations, one after the other
ordered_solved : (f w : ℕ → ℤ) (n : ℕ) (es : List WireEquation) → IsOrdered n es → Solved f w n es
ordered_solved f w n [] h = record { values = w; same = record { at = λ k lt. refl }; solves = tt }
ordered_solved f w n (e ∷ es) h =
    let x : ℤ = given_by f w e.formula in
    let u = own n (x ∷ []) w in
    let rest = ordered_solved f u (n + 1) es h.2 in
    let v = rest.values in
    let g : Agreeing n w v = agree_twice n (n + 1) w u v (omega arith) (own_agrees n (x ∷ []) w) rest.same in
    record {
      values = v;
      same = g;
      solves = (
        ap v h.0 ∙ (rest.same).at n (omega arith) ∙ own_first n (x ∷ []) w ∙ sym (given_agrees n f w v e.formula g h.1),
        rest.solves,
      );
    }

-- ordered equations say the same of values that agree on their wires
ordered_still : (f w v : ℕ → ℤ) (n m : ℕ) (es : List WireEquation) → IsOrdered n es → n + length es ≤ m → Agreeing m w v → Meets f w es → Meets f v es
ordered_still f w v n m [] h le g s = tt
ordered_still f w v n m (e ∷ es) h le g s =
    let at = h.0 in (
      g.at e.wire (omega (arith, le, at)) ∙ s.0 ∙ sym (given_agrees n f w v e.formula (agree_less n m w v (omega (arith, le)) g) h.1),
      ordered_still f w v (n + 1) m es h.2 (omega (arith, le)) g s.1,
    )

further : (f w : ℕ → ℤ) (m n : ℕ) (es : List Equation) → w 0 ≡ pos 0 → 0 < m → m ≤ n → Within m es → Satisfies f w es → Solved f w n (spelled_out n es)
further f w m n [] z some le b s = record { values = w; same = record { at = λ k lt. refl }; solves = tt }
further f w m n (e ∷ es) z some le b s =
    let a = spelled n e.formula in
    let runs = spelled_runs n e.formula (reads_more m n e.formula le b.1.0) in
    let size = runs.size in
    let first = ordered_solved f w n a.equations runs.ordered in
    let u = first.values in
    let ug : Agreeing m w u = agree_less m n w u le first.same in
    let rest = further f u m a.next es (ug.at 0 some ∙ z) some (omega (arith, le, size)) b.1.1 (satisfies_still m f w u es ug b.1.1 s.1) in
    let v = rest.values in
    let g : Agreeing n w v = agree_twice n a.next w u v (omega (arith, size)) first.same rest.same in
    let mg : Agreeing m w v = agree_less m n w v le g in
    let front = ordered_still f u v n a.next a.equations runs.ordered (omega (arith, size)) rest.same first.solves in
    let own_value = spelled_given f v n e.formula (mg.at 0 some ∙ z) front in
    record {
      values = v;
      same = g;
      solves = meets_both f v a.equations (gives e.wire a.operation ∷ spelled_out a.next es) front
          (mg.at e.wire b.0 ∙ s.0 ∙ sym (value_agrees m f w v e.formula mg b.1.0) ∙ sym own_value, rest.solves);
    }

pub spelled_out_solved : (f w : ℕ → ℤ) (n : ℕ) (es : List Equation) → w 0 ≡ pos 0 → 0 < n → Within n es → Satisfies f w es → Solved f w n (spelled_out n es)
spelled_out_solved f w n es z some b s = further f w n n es z some (omega arith) b s

-- a tick that a copy's own wires show is shown by its operations too
pub operations_show : (tables : Tables) (f w : ℕ → ℤ) (p : Stmt) (c : Context) (copy : Copy) (o : Tick) → Outside c → w 0 ≡ pos 0 → Inside c.next copy → Shows tables f w p c.register c.keep c.next copy o
    → OperationsShow tables f w p c.register c.keep c.next copy o
operations_show tables f w p c copy o out z i s =
    let some = out.some in
    let keep = out.keep in
    let grows = i.grows in
    let x = spelled_out_solved f s.values copy.next copy.equations ((s.same).at 0 some ∙ z) (omega (arith, some, grows)) i.equations s.solves in
    record {
      values = x.values;
      same = agree_twice c.next copy.next w s.values x.values grows s.same x.same;
      solves = x.solves;
      tells = tells_still tables s.values x.values p c.register c.keep c.next copy o x.same i (omega (arith, keep, grows)) s.tells;
    }
