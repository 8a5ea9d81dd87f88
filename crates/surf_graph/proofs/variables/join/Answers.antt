use Rattle.std.proofs.Common.{[], arith}
use Rattle.std.specs.Map.Iter.{deref_pair}
use Rattle.std.proofs.lemmas.Map.Iter.{rest_all}
use Rattle.std.proofs.lemmas.Result.{on_ok_weaker}
use Rattle.surf_graph.proofs.JoinedVariables.{next_fits, joining_goes_on, joining_ends}
use Rattle.surf_graph.proofs.variables.join.Goals as goal

pub join_one-requires : goal.join_one-requires
join_one-requires c =
    record {
      within = next_fits c.args.builder.now c.loop-variable.builder c.args.variables.now.items c.loop-variable.variables.items c.args.changes.now.items c.loop-variable.changes.items c.args.other c.args.first_own c.args.left.now
          c.in-Some.variable.now c.in-Some.wire.now c.loop-variable.variable-iterator c.next.new.self c.into_iter-variable-iterator.ensures.into_iter_gives.5 c.requires.within c.in-Some.ensures.steps c.loop-variable.invariant;
    }

pub loop-variable-preserved : goal.loop-variable-preserved
loop-variable-preserved c =
    joining_goes_on c.args.builder.now c.loop-variable.builder c.join_one.new.builder c.args.variables.now.items c.loop-variable.variables.items c.join_one.new.variables.items c.args.changes.now.items c.loop-variable.changes.items c.join_one.new.changes.items c.args.other c.args.first_own c.args.left.now
    c.in-Some.variable.now c.in-Some.wire.now c.loop-variable.variable-iterator c.next.new.self c.into_iter-variable-iterator.ensures.into_iter_gives.5 c.requires.within c.in-Some.ensures.steps c.in_ok-join_one.ensures c.loop-variable.invariant

pub returns : goal.returns
returns c xs ys a f =
    joining_ends c.args.builder.now c.loop-variable.builder c.args.variables.now.items c.loop-variable.variables.items c.args.changes.now.items c.loop-variable.changes.items c.args.other c.args.first_own c.args.left.now c.loop-variable.variable-iterator a xs ys
    c.into_iter-variable-iterator.ensures.into_iter_gives.5 c.in-None.ensures.steps.0 c.loop-variable.invariant f
