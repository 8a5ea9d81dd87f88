use Rattle.std.proofs.Common.{pos, sym, arith}
use Rattle.wire_code.specs.declared.equation.Equation.{Equation}
use Rattle.wire_code.specs.declared.formula.Formula.TheVariants.{Const}
use Rattle.tick_code.specs.Numbers.{number_of}
use Rattle.tick_code.proofs.ProgressLemmas.{length_of_progress, place_next, few_so_far, no_numbering, numbered_next, same_places, ends}
use Rattle.tick_code.proofs.numbering.number_all.Goals as goal

abbrev none : Equation
none = record { wire = 0; formula = Const (pos 0) }

pub number_next-requires-clause-place : goal.number_next-requires-clause-place
number_next-requires-clause-place c =
    let at = c.index-equation in
    place_next c.args.numbers.now c.loop-next.numbers c.args.equations.now.items c.loop-next.next c.loop-next.equations.items at.result.now at.result.now c.loop-next.invariant.progress c.loop-next.invariant.places c.requires.places (omega (arith, c.len-next-end.ensures, length_of_progress c.args.equations.now.items c.loop-next.next c.loop-next.equations.items (number_of c.loop-next.numbers) c.loop-next.invariant.progress, c.loop-next-test.true)) (sym at.ensures)

pub number_next-requires-clause-few : goal.number_next-requires-clause-few
number_next-requires-clause-few c small new =
    few_so_far c.args.equations.now.items c.loop-next.next c.loop-next.equations.items (number_of c.loop-next.numbers) c.index-equation.result.now.wire c.loop-next.invariant.progress small new

pub returns : goal.returns
returns c =
    let size = length_of_progress c.args.equations.now.items c.loop-next.next c.loop-next.equations.items (number_of c.loop-next.numbers) c.loop-next.invariant.progress in
    ends c.args.equations.now.items c.loop-next.next c.loop-next.equations.items (number_of c.loop-next.numbers) c.loop-next.invariant.progress (omega (arith, size, c.len-next-end.ensures, c.loop-next-test.false))

pub returns-in-None : goal.returns-in-None
returns-in-None c =
    let at = c.index-equation in
    let size = length_of_progress c.args.equations.now.items c.loop-next.next c.loop-next.equations.items (number_of c.loop-next.numbers) c.loop-next.invariant.progress in
    no_numbering c.args.equations.now.items c.loop-next.next c.loop-next.equations.items (number_of c.loop-next.numbers) at.result.now at.result.now c.loop-next.invariant.progress (omega (arith, c.len-next-end.ensures, size, c.loop-next-test.true)) (sym at.ensures) c.in-None.ensures.none

pub loop-next-preserved : goal.loop-next-preserved
loop-next-preserved c =
    let at = c.index-equation in
    let size = length_of_progress c.args.equations.now.items c.loop-next.next c.loop-next.equations.items (number_of c.loop-next.numbers) c.loop-next.invariant.progress in
    record {
      progress =
          numbered_next c.args.equations.now.items c.loop-next.next c.loop-next.equations.items (number_of c.loop-next.numbers) (number_of c.number_next.new.numbers) at.result.now c.in-Some.renamed at.result.now c.loop-next.invariant.progress (omega (arith, c.len-next-end.ensures, size, c.loop-next-test.true)) (sym at.ensures) c.in-Some.ensures.some;
      places = same_places c.args.numbers.now c.loop-next.numbers c.number_next.new.numbers c.loop-next.invariant.places c.number_next.ensures.places;
    }
