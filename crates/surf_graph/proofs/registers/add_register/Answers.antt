use Rattle.std.proofs.Common.{◌<◌, length, get_or}
use Rattle.std.proofs.lemmas.List.{get_or_default}
use Rattle.surf_graph.specs.declared.copy_builder.Guarded.{Guarded}
use Rattle.surf_graph.proofs.OwnSets.{own_set_equations, set_more, sets_end, none_left}
use Rattle.surf_graph.proofs.registers.add_register.Goals as goal

pub loop-set-preserved : goal.loop-set-preserved
loop-set-preserved c =
    let old = c.args.builder.now in
    let gs = c.args.sets.now in
    let i = c.loop-set.set-index in
    let g : Guarded = get_or gs i (record { condition = 0; value = 0 }) in
    let less : i < length gs = c.loop-set-test.true in
    set_more old c.loop-set.builder c.add_set.new.builder c.args.kind (own_set_equations c.args.kind old.next gs) gs i g less (get_or_default gs i (record { condition = 0; value = 0 }) g less) c.loop-set.invariant c.in_ok-add_set.ensures

pub returns-clause-grows : goal.returns-clause-grows
returns-clause-grows c =
    sets_end c.args.builder.now c.loop-set.builder c.add_zero.new.builder c.args.kind c.args.sets.now c.loop-set.set-index (none_left c.args.sets.now c.loop-set.set-index c.loop-set-test.false) c.loop-set.invariant c.in_ok-add_zero.ensures
