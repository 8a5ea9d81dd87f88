use Rattle.std.proofs.Common.{ℕ, ◌+◌, suc, [], ◌∷◌, ◌∙◌, ap, subst, add-one}
use Rattle.surf_graph.specs.Framing.{Grows}
use Rattle.surf_graph.specs.definitions.Formulas.{Choose}
use Rattle.surf_graph.proofs.Growing.{grown}
use Rattle.surf_graph.proofs.SpellingOut.{one_spelled_out, equation}
use Rattle.surf_graph.proofs.registers.add_set.Goals as goal

pub returns : goal.returns
returns c =
    let old = c.args.builder.now in
    let b0 = c.take_own.new.self in
    let b1 = c.give_choice.new.builder in
    let n = c.in_ok-n.n in
    let e1 = λ (k : ℕ). equation k (Choose c.args.set.condition c.args.set.value (k + 1)) in
    let s1 = one_spelled_out b0 b1 (e1 n) c.in_ok-give_choice.ensures in
    let g = grown old b0 b1 1 n (λ (k : ℕ). e1 k ∷ []) c.in_ok-n.ensures.first c.in_ok-n.ensures.next c.take_own.ensures.equations c.take_own.ensures.further c.in_ok-give_choice.ensures.next s1 in
    subst (λ m. Grows old b1 1 (equation old.next (Choose c.args.set.condition c.args.set.value m) ∷ [])) (add-one old.next) g
