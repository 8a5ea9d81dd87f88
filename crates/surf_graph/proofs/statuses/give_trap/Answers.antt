use Rattle.std.proofs.Common.{◌+◌, pos, [], ◌∷◌, ◌++◌, refl, subst}
use Rattle.std.proofs.lemmas.Result.{on_ok_weaker}
use Rattle.java_values.specs.declared.kind.Kind.TheVariants.{Int}
use Rattle.java_values.specs.declared.op.Op2.TheVariants as op
use Rattle.surf_graph.specs.Building.{Adds}
use Rattle.surf_graph.specs.definitions.SpelledOut.{gives, trap_wires}
use Rattle.surf_graph.proofs.Adding.{one_given}
use Rattle.surf_graph.proofs.statuses.give_trap.Goals as goal
use Rattle.wire_code.specs.declared.formula.Formula.TheVariants as wire

pub returns : goal.returns
returns c =
    let old = c.args.builder.now in
    let new = c.push-10.new.self in
    let m = old.further + 9 in
    let n = c.in_ok-n.n in
    let a = c.args.a in
    let s1 = one_given old c.take_further.new.self c.push.new.self [] m n _ (wire.Const (pos 3)) refl c.in_ok-n.ensures.adds c.in_ok-push.ensures.adds in
    let s2 = one_given old c.push.new.self c.push-2.new.self _ m (n + 1) _ (wire.Apply2 op.Equal Int Int a n) c.compared.ensures s1 c.in_ok-push-2.ensures.adds in
    let s3 = one_given old c.push-2.new.self c.push-3.new.self _ m (n + 2) _ (wire.Apply2 op.Less Int Int n a) c.compared-2.ensures s2 c.in_ok-push-3.ensures.adds in
    let s4 = one_given old c.push-3.new.self c.push-4.new.self _ m (n + 3) _ (wire.Const (pos 67)) refl s3 c.in_ok-push-4.ensures.adds in
    let s5 = one_given old c.push-4.new.self c.push-5.new.self _ m (n + 4) _ (wire.Apply2 op.Less Int Int a (n + 3)) c.compared-3.ensures s4 c.in_ok-push-5.ensures.adds in
    let s6 = one_given old c.push-5.new.self c.push-6.new.self _ m (n + 5) _ (wire.And (n + 2) (n + 4)) refl s5 c.in_ok-push-6.ensures.adds in
    let s7 = one_given old c.push-6.new.self c.push-7.new.self _ m (n + 6) _ (wire.Const (pos 1)) refl s6 c.in_ok-push-7.ensures.adds in
    let s8 = one_given old c.push-7.new.self c.push-8.new.self _ m (n + 7) _ (wire.Apply2 op.Sub Int Int a (n + 6)) c.compared-4.ensures s7 c.in_ok-push-8.ensures.adds in
    let s9 = one_given old c.push-8.new.self c.push-9.new.self _ m (n + 8) _ (wire.Choose (n + 5) (n + 7) a) refl s8 c.in_ok-push-9.ensures.adds in
    on_ok_weaker c.push-10.result
    (λ last. subst (λ k. Adds old new ((trap_wires k a).equations ++ (gives c.args.wire (trap_wires k a).operation ∷ [])) m) c.in_ok-n.ensures.first
    (one_given old c.push-9.new.self new _ m c.args.wire _ (wire.Choose (n + 1) (n + 6) (n + 8)) refl s9 last))
    c.push-10.ensures.adds
