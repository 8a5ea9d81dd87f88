use Rattle.std.proofs.Common.{◌≡◌, ◌+◌, arith, subst, sym, ◌∙◌, add-one}
use Rattle.std.proofs.lemmas.Int.{to_z-of_z}
use Rattle.std.proofs.Common.{rules, to_z, of_z, w64, get_or, length-set}
use Rattle.plain_code.specs.Formulas.{ReadsBelow}
use Rattle.plain_code.specs.declared.equation.Equation.{Equation}
use Rattle.plain_code.specs.declared.formula.Formula.TheVariants.{Const}
use Rattle.plain_code.proofs.SolvingLemmas.{ordered_at, fits_at, solve_step}
use Rattle.std.proofs.Common.{pos}
use Rattle.plain_code.proofs.code.solve.Goals as goal

abbrev none : Equation
none = record { wire = 0; formula = Const (pos 0) }

pub value-n-requires-clause-reads : goal.value-n-requires-clause-reads
value-n-requires-clause-reads c =
    let at = ordered_at c.args.equations.now 0 c.loop-equation.equation-index none c.requires.order c.loop-equation-test.true in
    let z : 0 + c.loop-equation.equation-index ≡ c.loop-equation.equation-index = omega arith in
    subst (λ n. ReadsBelow n (get_or c.args.equations.now c.loop-equation.equation-index none).formula) (sym at.0) at.1

pub value-n-requires-clause-room : goal.value-n-requires-clause-room
value-n-requires-clause-room c =
    let at = ordered_at c.args.equations.now 0 c.loop-equation.equation-index none c.requires.order c.loop-equation-test.true in
    omega (arith, at.0)

pub value-n-requires-clause-frame : goal.value-n-requires-clause-frame
value-n-requires-clause-frame c = fits_at c.args.equations.now _ c.loop-equation.equation-index none c.requires.frame c.loop-equation-test.true

pub bounds-wires-equation : goal.bounds-wires-equation
bounds-wires-equation c =
    let at = ordered_at c.args.equations.now 0 c.loop-equation.equation-index none c.requires.order c.loop-equation-test.true in
    omega (arith, at.0)

pub loop-equation-preserved : goal.loop-equation-preserved
loop-equation-preserved c =
    let step = solve_step c.args.equations.now c.loop-equation.equation-index none c.args.input.now c.loop-equation.wires c.value-n.result c.requires.order c.loop-equation-test.true c.loop-equation.invariant.0 c.value-n.ensures c.loop-equation.invariant.1 in
    let e : to_z w64 (of_z w64 c.value-n.result) ≡ c.value-n.result = to_z-of_z w64 c.value-n.result (search rules) in
    rw (e, add-one) (length-set _ _ _ ∙ c.loop-equation.invariant.0, step)
