use Rattle.std.proofs.Common.{◌≡◌, drop}
use Rattle.sj_names.specs.definitions.Failures.{least_of, domain_limit_failures}
use Rattle.sj_names.specs.DomainNames.{names_in}
use Rattle.sj_names.proofs.least.Least.add_limits.Given as goal

abbrev pub invariant-loop-i : goal.invariant-loop-i
invariant-loop-i l = least_of l.initial.self.found (domain_limit_failures (names_in l.domains) l.places 0 (names_in l.domains)) ≡ least_of l.self.found (domain_limit_failures (names_in l.domains) l.places l.i (drop l.i (names_in l.domains)))
