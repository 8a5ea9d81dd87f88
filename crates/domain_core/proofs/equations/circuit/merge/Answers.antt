use Rattle.std.proofs.Common.{◌≡◌, ◌<◌, ℕ, length, get_or, subst, arith}
use Rattle.std.proofs.lemmas.List.{get_or_read}
use Rattle.std.specs.Prelude.{slice_index}
use Rattle.domain_core.specs.equations.BuiltCodes.{TellsEither}
use Rattle.domain_core.proofs.lemmas.equations.CircuitMerging.{merges_more, below_at}
use Rattle.domain_core.proofs.equations.circuit.merge.Goals as goal

pub loop-pair-preserved : goal.loop-pair-preserved
loop-pair-preserved c =
    let old = c.args.equations.now.items in
    let now = c.loop-pair.equations.items in
    let wires = c.loop-pair.wires.items in
    let pairs = c.args.pairs.now in
    let i = c.loop-pair.pair-index in
    let pair : ℕ × ℕ = get_or pairs i (0, 0) in
    let b = below_at c.args.count (length old) pairs i (0, 0) c.requires.below c.loop-pair-test.true in
    let within : pair.0 < length wires = omega (arith, b.0, c.loop-pair.invariant.size) in
    let before : c.index.result.now ≡ slice_index wires pair.0 = get_or_read wires pair.0 c.index.result.now within c.index.ensures 0 in
    merges_more old now c.either.new.equations.items wires pairs i c.args.count c.in_ok-wire.wire (0, 0) c.loop-pair-test.true c.requires.below (subst (λ k. TellsEither now c.either.new.equations.items k pair.1 c.in_ok-wire.wire) before c.in_ok-wire.ensures) c.loop-pair.invariant
