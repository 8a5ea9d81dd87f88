use Rattle.std.proofs.Common.{◌<◌, length, get_or}
use Rattle.std.proofs.lemmas.List.{get_or_default}
use Rattle.surf_graph.specs.declared.copy_builder.Guarded.{Guarded}
use Rattle.surf_graph.proofs.OwnEmissions.{own_conditions, condition_more, conditions_end}
use Rattle.surf_graph.proofs.OwnSets.{none_left}
use Rattle.surf_graph.proofs.emissions.add_conditions.Goals as goal

pub loop-e-preserved : goal.loop-e-preserved
loop-e-preserved c =
    let old = c.args.builder.now in
    let gs = c.args.emitted.now in
    let i = c.loop-e.e-index in
    let g : Guarded = get_or gs i (record { condition = 0; value = 0 }) in
    let less : i < length gs = c.loop-e-test.true in
    condition_more old c.loop-e.builder c.add_condition.new.builder (own_conditions old.next 0 gs) gs i c.loop-e.some c.in_ok-some.some g less (get_or_default gs i (record { condition = 0; value = 0 }) g less) c.loop-e.invariant c.in_ok-some.ensures

pub returns : goal.returns
returns c = conditions_end c.args.builder.now c.loop-e.builder c.args.emitted.now c.loop-e.e-index c.loop-e.some (none_left c.args.emitted.now c.loop-e.e-index c.loop-e-test.false) c.loop-e.invariant
