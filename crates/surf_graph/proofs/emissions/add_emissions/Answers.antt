use Rattle.std.proofs.Common.{◌<◌, length, get_or}
use Rattle.std.proofs.lemmas.List.{get_or_default}
use Rattle.surf_graph.specs.declared.copy_builder.Guarded.{Guarded}
use Rattle.surf_graph.proofs.OwnEmissions.{own_fold, emission_more, emissions_end}
use Rattle.surf_graph.proofs.OwnSets.{none_left}
use Rattle.surf_graph.proofs.emissions.add_emissions.Goals as goal

pub loop-e-preserved : goal.loop-e-preserved
loop-e-preserved c =
    let old = c.args.builder.now in
    let gs = c.args.emitted.now in
    let i = c.loop-e.e-index in
    let info = c.args.info.now in
    let g : Guarded = get_or gs i (record { condition = 0; value = 0 }) in
    let less : i < length gs = c.loop-e-test.true in
    emission_more old c.loop-e.builder c.add_emission.new.builder info (own_fold info old.next 0 c.args.before gs) gs i c.loop-e.so_far.some c.loop-e.so_far.value g c.in_ok-so_far.so_far less (get_or_default gs i (record { condition = 0; value = 0 }) g less) c.loop-e.invariant
    c.in_ok-so_far.ensures

pub returns : goal.returns
returns c =
    emissions_end c.args.builder.now c.loop-e.builder c.args.info.now c.args.before c.args.emitted.now c.loop-e.e-index c.loop-e.so_far (none_left c.args.emitted.now c.loop-e.e-index c.loop-e-test.false) c.loop-e.invariant
