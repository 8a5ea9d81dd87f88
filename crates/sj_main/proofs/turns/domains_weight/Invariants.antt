use Rattle.std.proofs.Common.{◌≡◌, length, take, sum_by}
use Rattle.std.specs.List.{range_with_len}
use Rattle.sj_main.specs.definitions.RunWeight.{domain_weight}
use Rattle.sj_main.proofs.turns.domains_weight.Given as goal

abbrev pub invariant-loop-domain : goal.invariant-loop-domain
invariant-loop-domain l = l.weight ≡ sum_by (domain_weight l.tables l.budgets) (take l.domain (range_with_len 0 (length l.budgets)))
