-- One more equation is solved.
use Rattle.std.proofs.Common.{◌≡◌, ℕ, suc, ◌+◌, ◌<◌, ℤ, pos, List, [], ◌∷◌, length, take, get_or, sym, ap, ◌∙◌, subst, arith, get_or-set_other, get_or-set_same}
use Rattle.std.proofs.Math.ListN.{set}
use Rattle.std.proofs.Math.Seq.{take-suc}
use Rattle.wire_code.specs.declared.equation.Equation.{Equation}
use Rattle.wire_code.specs.Formulas.{IsOrdered, Satisfies, ReadsBelow, number_at, formula_value}
use Rattle.wire_code.proofs.EquationLemmas.{ordered_at, ordered_take, length_take, value_agreeing, satisfies_agreeing, satisfies_append}
use Rattle.tick_code.specs.WellKinded.{Suits, InClass}
use Rattle.tick_code.specs.Operands.{HasOperands}
use Rattle.tick_code.proofs.ClassLemmas.{wires_in_classes, operands_lie, classes_at, classes_take}

pub wire_at : (es : List Equation) (k : ℕ) (d : Equation) → IsOrdered 0 es → k < length es → (get_or es k d).wire ≡ k
wire_at es k d o lt = let z : 0 + k ≡ k = omega arith in (ordered_at es 0 k d o lt).0 ∙ z

pub reads_at : (es : List Equation) (k : ℕ) (d : Equation) → IsOrdered 0 es → k < length es → ReadsBelow k (get_or es k d).formula
reads_at es k d o lt =
    let z : 0 + k ≡ k = omega arith in
    subst (λ m. ReadsBelow m (get_or es k d).formula) z (ordered_at es 0 k d o lt).1

pub operands_at : (es : List Equation) (k : ℕ) (d : Equation) (input wires : List ℤ) → IsOrdered 0 es → Suits es input → k < length es → Satisfies (number_at input) (number_at wires) (take k es) → HasOperands (length input) (number_at wires) (get_or es k d).formula
operands_at es k d input wires o s lt h =
    let c = s.well.classes in
    let lk = length_take es k (omega arith) in
    let taken = classes_take s.kinds es c es k s.well.each in
    let lie = wires_in_classes s.kinds input es c (number_at wires) (take k es) 0 s.lie (ordered_take es 0 k o) taken h (λ j lt. absurd (omega arith)) in
    let below : (j : ℕ) → j < k → InClass (c j) (number_at wires j) = λ j lt. lie j (omega (arith, lk)) in
    operands_lie s.kinds input es c (number_at wires) (get_or es k d).formula (c (get_or es k d).wire) k s.lie s.well.each (classes_at s.kinds es c es k d s.well.each lt) (reads_at es k d o lt) below

pub solve_step : (es : List Equation) (k : ℕ) (d : Equation) (f : ℕ → ℤ) (wires : List ℤ) (v : ℤ) → IsOrdered 0 es → k < length es → length wires ≡ length es → v ≡ formula_value f (number_at wires) (get_or es k d).formula → Satisfies f (number_at wires) (take k es) → Satisfies f (number_at (set wires (get_or es k d).wire v)) (take (suc k) es)
solve_step es k d f wires v o lt len value h =
    let e = get_or es k d in
    let wire = wire_at es k d o lt in
    let lk = length_take es k (omega arith) in
    let other : (j : ℕ) → j < k → number_at (set wires k v) j ≡ number_at wires j =
    λ j less. get_or-set_other wires k j v (pos 0) (omega arith) in
    let front = satisfies_agreeing (take k es) 0 f (number_at wires) (number_at (set wires k v)) (ordered_take es 0 k o) (λ j less. other j (omega (arith, lk))) h in
    let same = value_agreeing e.formula k f (number_at wires) (number_at (set wires k v)) (reads_at es k d o lt) other in
    let last : Satisfies f (number_at (set wires k v)) (e ∷ []) =
    (ap (λ w. number_at (set wires k v) w) wire ∙ get_or-set_same wires k v (pos 0) (omega arith) ∙ value ∙ sym same, tt) in
    let both = satisfies_append (take k es) (e ∷ []) f (number_at (set wires k v)) front last in
    subst (λ w. Satisfies f (number_at (set wires w v)) (take (suc k) es)) (sym wire) (subst (λ l. Satisfies f (number_at (set wires k v)) l) (sym (take-suc es k d lt)) both)
