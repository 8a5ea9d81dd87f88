use Rattle.std.proofs.Common.{◌≡◌, drop}
use Rattle.sj_names.specs.definitions.Failures.{least_of, unjoined_failures}
use Rattle.sj_names.specs.DomainNames.{names_in}
use Rattle.sj_names.proofs.least.Least.add_unjoined.Given as goal

abbrev pub invariant-loop-i : goal.invariant-loop-i
invariant-loop-i l = least_of l.initial.self.found (unjoined_failures (names_in l.domains) 0 l.places) ≡ least_of l.self.found (unjoined_failures (names_in l.domains) l.i (drop l.i l.places))
