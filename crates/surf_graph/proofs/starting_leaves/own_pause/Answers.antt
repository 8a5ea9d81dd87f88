use Rattle.std.proofs.Common.{ℕ, ◌+◌, [], ◌∷◌, ◌∙◌}
use Rattle.surf_graph.specs.definitions.Formulas.{Status, And}
use Rattle.surf_graph.proofs.SpellingOut.{owned, one_spelled_out, more_spelled_out, equation}
use Rattle.surf_graph.proofs.starting_leaves.own_pause.Goals as goal

pub returns : goal.returns
returns c =
    let old = c.args.builder.now in
    let b0 = c.take_own.new.self in
    let b1 = c.give_code.new.builder in
    let b2 = c.give_and.new.builder in
    let n = c.in_ok-n.n in
    let s1 = one_spelled_out b0 b1 (equation n (Status c.args.go 1)) c.in_ok-give_code.ensures in
    let s2 = more_spelled_out b0 b1 b2 (equation n (Status c.args.go 1) ∷ []) (equation (n + 1) (And c.args.go c.args.keep)) s1 c.in_ok-give_and.ensures in
    owned old b0 b2 2 n (λ (k : ℕ). equation k (Status c.args.go 1) ∷ equation (k + 1) (And c.args.go c.args.keep) ∷ []) c.in_ok-n.ensures.first c.in_ok-n.ensures.next c.in_ok-n.ensures.below c.take_own.ensures.equations c.take_own.ensures.further (c.in_ok-give_and.ensures.next ∙ c.in_ok-give_code.ensures.next) s2
