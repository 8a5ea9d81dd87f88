use Rattle.std.proofs.Common.{◌≡◌, ◌<◌, ◌≤◌, ℕ, length, get_or, Vec}
use Rattle.std.specs.Prelude.{vec_capacity}
use Rattle.std.specs.Global.{Global}
use Rattle.domain_core.specs.declared.step.ends_of.EndJoin.{EndJoin}
use Rattle.domain_core.specs.definitions.step.Steps.{add_joins}
use Rattle.domain_core.specs.step.JoinLists.{joins_in, HasRoom}
use Rattle.domain_core.proofs.step.join_lists.add_joins.Given as goal

abbrev pub invariant-loop-at : goal.invariant-loop-at
invariant-loop-at l = record {
  joins : joins_in l.lists.items ≡ add_joins l.ticks l.answers l.at (joins_in l.initial.lists.items);
  len : length l.lists.items ≡ length l.initial.lists.items;
  capacity : (k : ℕ) (v : Vec EndJoin Global) → k < length l.initial.lists.items → vec_capacity (get_or l.initial.lists.items k v) ≤ vec_capacity (get_or l.lists.items k v);
  room : HasRoom l.lists.items l.answers l.at;
}
