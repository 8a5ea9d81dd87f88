use Rattle.std.proofs.Common.{ap, sym, ◌∙◌}
use Rattle.domain_core.specs.definitions.step.Steps.{add_join}
use Rattle.domain_core.specs.step.JoinLists.{joins_in}
use Rattle.domain_core.proofs.lemmas.step.JoinListLemmas.{joins_pushed}
use Rattle.domain_core.proofs.step.join_lists.add_join.Goals as goal

pub returns-in-Some-clause-joins : goal.returns-in-Some-clause-joins
returns-in-Some-clause-joins c =
    joins_pushed c.args.lists.now.items c.args.at c.index_mut-list.result.now c.push_reserved.new.self (record { joined = c.in-Some.joined; ticks = c.args.ticks }) c.requires.within (sym c.index_mut-list.ensures.value) c.push_reserved.ensures.items
    ∙ ap (λ x. add_join c.args.ticks c.args.at x (joins_in c.args.lists.now.items)) (sym c.in-Some.is)
