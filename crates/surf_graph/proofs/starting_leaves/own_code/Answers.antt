use Rattle.std.proofs.Common.{ℕ, ◌+◌, [], ◌∷◌, ◌∙◌}
use Rattle.surf_graph.specs.definitions.Formulas.{Status}
use Rattle.surf_graph.proofs.SpellingOut.{owned, one_spelled_out, equation}
use Rattle.surf_graph.proofs.starting_leaves.own_code.Goals as goal

pub returns : goal.returns
returns c =
    let old = c.args.builder.now in
    let b0 = c.take_own.new.self in
    let b1 = c.give_code.new.builder in
    let n = c.in_ok-n.n in
    let s1 = one_spelled_out b0 b1 (equation n (Status c.args.go c.args.code)) c.in_ok-give_code.ensures in
    owned old b0 b1 1 n (λ (k : ℕ). equation k (Status c.args.go c.args.code) ∷ []) c.in_ok-n.ensures.first c.in_ok-n.ensures.next c.in_ok-n.ensures.below c.take_own.ensures.equations c.take_own.ensures.further (c.in_ok-give_code.ensures.next) s1
