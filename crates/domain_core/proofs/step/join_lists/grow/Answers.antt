use Rattle.std.proofs.Common.{sym, ◌∙◌, arith}
use Rattle.domain_core.proofs.lemmas.step.JoinListLemmas.{joins_kept, grows_on}
use Rattle.domain_core.proofs.step.join_lists.grow.Goals as goal

pub returns-in_err-grow_list-clause-joins : goal.returns-in_err-grow_list-clause-joins
returns-in_err-grow_list-clause-joins c =
    joins_kept c.loop-at.lists.items c.loop-at.at c.index_mut.result.now c.grow_list.new.list (sym c.index_mut.ensures.value) c.grow_list.ensures.items ∙ c.loop-at.invariant.joins

pub loop-at-preserved : goal.loop-at-preserved
loop-at-preserved c =
    grows_on c.args.room c.loop-at.at c.args.lists.now.items c.loop-at.lists.items c.index_mut.result.now c.grow_list.new.list
    (omega (arith, c.loop-at-test.true, c.len-at-end.ensures, c.args.lists.now.ok.0, c.loop-at.invariant.len)) (sym c.index_mut.ensures.value) c.grow_list.ensures.items c.grow_list.ensures.capacity c.in_ok-grow_list.ensures.room c.loop-at.invariant
