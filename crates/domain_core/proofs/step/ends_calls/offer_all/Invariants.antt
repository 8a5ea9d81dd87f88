use Rattle.std.proofs.Common.{◌≡◌, length}
use Rattle.domain_core.specs.definitions.step.EndCalls.{OffersAll}
use Rattle.domain_core.proofs.step.ends_calls.offer_all.Given as goal

abbrev pub invariant-loop-at : goal.invariant-loop-at
invariant-loop-at g l = record {
  offers : OffersAll g.E.Ends.moved g.E.Ends.count g.E.Ends.end_at l.list l.asks l.stamp l.answers.items l.at l.initial.ends l.ends;
  answers : length l.answers.items ≡ length l.list;
}
