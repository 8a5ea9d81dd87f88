use Rattle.std.proofs.Common.{◌+◌, suc, [], ◌∷◌, ◌∙◌, ap, subst, add-one, arith, sym}
use Rattle.surf_graph.specs.Framing.{Grows}
use Rattle.surf_graph.specs.definitions.Formulas.{Get}
use Rattle.surf_graph.proofs.Growing.{taken_grows, more_grows}
use Rattle.surf_graph.proofs.SpellingOut.{equation, one_spelled_out, more_spelled_out}
use Rattle.surf_graph.proofs.domain_statuses.give_input.Goals as goal

pub returns : goal.returns
returns c =
    let old = c.args.builder.now in
    let b1 = c.give_place.new.builder in
    let b2 = c.give_place-2.new.builder in
    let e1 = equation c.args.at.present (Get c.args.place) in
    let s1 = one_spelled_out old b1 e1 c.in_ok-give_place.ensures in
    let s2 = more_spelled_out old b1 b2 (e1 ∷ []) (equation c.args.at.value (Get (c.args.place + 1))) s1 c.in_ok-give_place-2.ensures in
    let n1 = c.in_ok-give_place.ensures.next in
    let n2 = c.in_ok-give_place-2.ensures.next in
    subst (λ k. Grows old b2 0 (e1 ∷ equation c.args.at.value (Get k) ∷ [])) (add-one c.args.place)
    (record { equations = s2; next = omega (arith, n1, n2) })
