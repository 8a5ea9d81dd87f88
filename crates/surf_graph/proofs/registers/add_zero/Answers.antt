use Rattle.std.proofs.Common.{ℕ, [], ◌∷◌}
use Rattle.surf_graph.specs.definitions.Formulas.{Zero}
use Rattle.surf_graph.proofs.Growing.{grown}
use Rattle.surf_graph.proofs.SpellingOut.{one_spelled_out, equation}
use Rattle.surf_graph.proofs.registers.add_zero.Goals as goal

pub returns : goal.returns
returns c =
    let old = c.args.builder.now in
    let b0 = c.take_own.new.self in
    let b1 = c.give_zero.new.builder in
    let n = c.in_ok-n.n in
    let e1 = λ (k : ℕ). equation k (Zero c.args.kind) in
    let s1 = one_spelled_out b0 b1 (e1 n) c.in_ok-give_zero.ensures in
    grown old b0 b1 1 n (λ (k : ℕ). e1 k ∷ []) c.in_ok-n.ensures.first c.in_ok-n.ensures.next c.take_own.ensures.equations c.take_own.ensures.further c.in_ok-give_zero.ensures.next s1
