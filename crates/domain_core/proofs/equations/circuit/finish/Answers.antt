use Rattle.std.proofs.Common.{subst, sym, length, map, ap, ◌∙◌}
use Rattle.std.specs.Prelude.{slice_index}
use Rattle.domain_core.specs.equations.BuiltCodes.{Below, Merges}
use Rattle.domain_core.proofs.lemmas.equations.CircuitOrder.{below_more}
use Rattle.domain_core.proofs.lemmas.equations.CircuitMerging.{shows}
use Rattle.domain_core.proofs.equations.circuit.finish.Goals as goal

pub merge-requires-2-clause-below : goal.merge-requires-2-clause-below
merge-requires-2-clause-below c =
    subst (λ l. Below c.args.count (length c.merge.new.equations.items) l) (sym c.deref-2.ensures.value) (below_more c.args.parts.sets.items c.args.count (length c.args.parts.equations.items) (length c.merge.new.equations.items) c.in_ok-emitted.ensures.grows c.requires.sets)

pub returns : goal.returns
returns c =
    let x = subst (λ l. Merges c.args.parts.equations.items c.merge.new.equations.items c.in_ok-emitted.emitted.items l c.args.signals) c.deref.ensures.value c.in_ok-emitted.ensures in
    let y = subst (λ l. Merges c.merge.new.equations.items c.merge-2.new.equations.items c.in_ok-next.next.items l c.args.count) c.deref-2.ensures.value c.in_ok-next.ensures in
    shows c.args.parts.equations.items c.merge.new.equations.items c.merge-2.new.equations.items c.in-Some.code c.in_ok-emitted.emitted.items c.in_ok-present.present.items c.in_ok-next.next.items c.args.own.now c.args.parts.sets.items c.args.parts.emits.items c.args.end c.args.signals c.args.count x y c.in-Some.ensures.value c.requires.fits c.requires.end
    c.requires.own (c.in_ok-present.ensures ∙ ap (λ l. map (slice_index l) c.args.own.now) c.deref-3.ensures.value)
