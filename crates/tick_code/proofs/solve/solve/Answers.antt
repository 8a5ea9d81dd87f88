use Rattle.std.proofs.Common.{◌≡◌, arith, pos, rules, to_z, of_z, w64, add-one, length-set, ◌∙◌}
use Rattle.std.proofs.lemmas.Int.{to_z-of_z}
use Rattle.wire_code.specs.Formulas.{number_at}
use Rattle.wire_code.specs.declared.equation.Equation.{Equation}
use Rattle.wire_code.specs.declared.formula.Formula.TheVariants.{Const}
use Rattle.wire_code.proofs.EquationLemmas.{reads_more}
use Rattle.tick_code.proofs.SolvingLemmas.{wire_at, reads_at, operands_at, solve_step}
use Rattle.tick_code.proofs.solve.solve.Goals as goal

abbrev none : Equation
none = record { wire = 0; formula = Const (pos 0) }

pub value-n-requires-clause-reads : goal.value-n-requires-clause-reads
value-n-requires-clause-reads c =
    let es = c.args.equations.now in
    let k = c.loop-equation.equation-index in
    let lt = c.loop-equation-test.true in
    let len = c.loop-equation.invariant.0 in
    reads_more _ k _ (omega (arith, len)) (reads_at es k none c.requires.order lt)

pub value-n-requires-clause-operands : goal.value-n-requires-clause-operands
value-n-requires-clause-operands c =
    operands_at c.args.equations.now c.loop-equation.equation-index none c.args.input.now c.loop-equation.wires c.requires.order c.requires.suits c.loop-equation-test.true c.loop-equation.invariant.1

pub bounds-wires-equation : goal.bounds-wires-equation
bounds-wires-equation c =
    let wire = wire_at c.args.equations.now c.loop-equation.equation-index none c.requires.order c.loop-equation-test.true in
    let len = c.loop-equation.invariant.0 in
    omega (arith, wire, len)

pub loop-equation-preserved : goal.loop-equation-preserved
loop-equation-preserved c =
    let step = solve_step c.args.equations.now c.loop-equation.equation-index none (number_at c.args.input.now) c.loop-equation.wires c.value-n.result c.requires.order c.loop-equation-test.true c.loop-equation.invariant.0 c.value-n.ensures c.loop-equation.invariant.1 in
    let e : to_z w64 (of_z w64 c.value-n.result) ≡ c.value-n.result = to_z-of_z w64 c.value-n.result (search rules) in
    rw (e, add-one) (length-set _ _ _ ∙ c.loop-equation.invariant.0, step)
