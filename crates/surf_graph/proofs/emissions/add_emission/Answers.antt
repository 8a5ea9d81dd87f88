use Rattle.std.proofs.Common.{ℕ, ◌+◌, [], ◌∷◌, ◌∙◌, ap}
use Rattle.surf_graph.specs.definitions.Formulas.{Combine, Choose, Or}
use Rattle.surf_graph.proofs.Growing.{grown}
use Rattle.surf_graph.proofs.SpellingOut.{one_spelled_out, more_spelled_out, equation}
use Rattle.surf_graph.proofs.emissions.add_emission.Goals as goal

pub returns : goal.returns
returns c =
    let old = c.args.builder.now in
    let b0 = c.take_own.new.self in
    let b1 = c.give_combined.new.builder in
    let b2 = c.give_choice.new.builder in
    let b3 = c.give_or.new.builder in
    let n = c.in_ok-n.n in
    let info = c.args.info.now in
    let so_far = c.args.so_far in
    let e = c.args.e in
    let e1 = λ (k : ℕ). equation k (Combine info so_far.some so_far.value e.value) in
    let e2 = λ (k : ℕ). equation (k + 1) (Choose e.condition k so_far.value) in
    let e3 = λ (k : ℕ). equation (k + 2) (Or so_far.some e.condition) in
    let s1 = one_spelled_out b0 b1 (e1 n) c.in_ok-give_combined.ensures in
    let s2 = more_spelled_out b0 b1 b2 (e1 n ∷ []) (e2 n) s1 c.in_ok-give_choice.ensures in
    let s3 = more_spelled_out b0 b2 b3 (e1 n ∷ e2 n ∷ []) (e3 n) s2 c.in_ok-give_or.ensures in
    let first = c.in_ok-n.ensures.first in
    record {
      grows = grown old b0 b3 3 n (λ (k : ℕ). e1 k ∷ e2 k ∷ e3 k ∷ []) first c.in_ok-n.ensures.next c.take_own.ensures.equations c.take_own.ensures.further (c.in_ok-give_or.ensures.next ∙ c.in_ok-give_choice.ensures.next ∙ c.in_ok-give_combined.ensures.next) s3;
      some = ap (λ k. k + 2) first;
      value = ap (λ k. k + 1) first;
    }
