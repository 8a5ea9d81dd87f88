use Rattle.std.proofs.Common.{ℕ, ◌+◌, [], ◌∷◌, ◌∙◌}
use Rattle.kernel_terms.specs.Expressions.{expression}
use Rattle.surf_graph.specs.Building.{wires_in}
use Rattle.surf_graph.specs.definitions.Formulas.{Status, Value, Choose}
use Rattle.surf_graph.proofs.SpellingOut.{owned, one_spelled_out, more_spelled_out, equation}
use Rattle.surf_graph.proofs.starting_leaves.own_assignment.Goals as goal

pub returns : goal.returns
returns c =
    let old = c.args.builder.now in
    let b0 = c.take_own.new.self in
    let b1 = c.give_code.new.builder in
    let b2 = c.give_value.new.builder in
    let b3 = c.give_choice.new.builder in
    let n = c.in_ok-n.n in
    let s1 = one_spelled_out b0 b1 (equation n (Status c.args.go 0)) c.in_ok-give_code.ensures in
    let s2 = more_spelled_out b0 b1 b2 (equation n (Status c.args.go 0) ∷ []) (equation (n + 1) (Value (expression c.args.value.now) (wires_in c.args.tables.now))) s1 c.in_ok-give_value.ensures in
    let s3 = more_spelled_out b0 b2 b3 (equation n (Status c.args.go 0) ∷ equation (n + 1) (Value (expression c.args.value.now) (wires_in c.args.tables.now)) ∷ []) (equation (n + 2) (Choose c.args.go (n + 1) c.args.before)) s2 c.in_ok-give_choice.ensures in
    owned old b0 b3 3 n (λ (k : ℕ). equation k (Status c.args.go 0) ∷ equation (k + 1) (Value (expression c.args.value.now) (wires_in c.args.tables.now)) ∷ equation (k + 2) (Choose c.args.go (k + 1) c.args.before) ∷ []) c.in_ok-n.ensures.first c.in_ok-n.ensures.next c.in_ok-n.ensures.below c.take_own.ensures.equations c.take_own.ensures.further (c.in_ok-give_choice.ensures.next ∙ c.in_ok-give_value.ensures.next ∙ c.in_ok-give_code.ensures.next) s3
