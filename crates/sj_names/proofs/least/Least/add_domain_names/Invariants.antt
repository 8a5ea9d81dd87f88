use Rattle.std.proofs.Common.{◌≡◌, drop}
use Rattle.std.specs.List.{flat_map}
use Rattle.sj_names.specs.definitions.Failures.{least_of, own_failures}
use Rattle.sj_names.specs.DomainNames.{names_in}
use Rattle.sj_names.proofs.least.Least.add_domain_names.Given as goal

abbrev pub invariant-loop-i : goal.invariant-loop-i
invariant-loop-i l = least_of l.initial.self.found (flat_map (flat_map own_failures) (names_in l.domains)) ≡ least_of l.self.found (flat_map (flat_map own_failures) (drop l.i (names_in l.domains)))
