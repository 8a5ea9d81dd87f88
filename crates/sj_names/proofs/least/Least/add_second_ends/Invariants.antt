use Rattle.std.proofs.Common.{◌≡◌, [], drop, take}
use Rattle.sj_names.specs.definitions.Failures.{least_of, end_failures}
use Rattle.sj_names.specs.DomainNames.{names_in}
use Rattle.sj_names.proofs.least.Least.add_second_ends.Given as goal

abbrev pub invariant-loop-i : goal.invariant-loop-i
invariant-loop-i l = least_of l.initial.self.found (end_failures [] (names_in l.domains)) ≡ least_of l.self.found (end_failures (take l.i (names_in l.domains)) (drop l.i (names_in l.domains)))
