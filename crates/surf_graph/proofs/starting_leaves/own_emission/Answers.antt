use Rattle.std.proofs.Common.{ℕ, ◌+◌, [], ◌∷◌, ◌∙◌}
use Rattle.kernel_terms.specs.Statements.{optional_expression}
use Rattle.surf_graph.specs.Building.{wires_in}
use Rattle.surf_graph.specs.definitions.Copies.{emitted_value}
use Rattle.surf_graph.specs.definitions.Formulas.{Status}
use Rattle.surf_graph.proofs.SpellingOut.{owned, one_spelled_out, more_spelled_out, equation}
use Rattle.surf_graph.proofs.starting_leaves.own_emission.Goals as goal

pub returns : goal.returns
returns c =
    let old = c.args.builder.now in
    let b0 = c.take_own.new.self in
    let b1 = c.give_code.new.builder in
    let b2 = c.give_emitted.new.builder in
    let n = c.in_ok-n.n in
    let s1 = one_spelled_out b0 b1 (equation n (Status c.args.go 0)) c.in_ok-give_code.ensures in
    let s2 = more_spelled_out b0 b1 b2 (equation n (Status c.args.go 0) ∷ []) (equation (n + 1) (emitted_value (optional_expression c.args.value.now) (wires_in c.args.tables.now))) s1 c.in_ok-give_emitted.ensures in
    owned old b0 b2 2 n (λ (k : ℕ). equation k (Status c.args.go 0) ∷ equation (k + 1) (emitted_value (optional_expression c.args.value.now) (wires_in c.args.tables.now)) ∷ []) c.in_ok-n.ensures.first c.in_ok-n.ensures.next c.in_ok-n.ensures.below c.take_own.ensures.equations c.take_own.ensures.further (c.in_ok-give_emitted.ensures.next ∙ c.in_ok-give_code.ensures.next) s2
