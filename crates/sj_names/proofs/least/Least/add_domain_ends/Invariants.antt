use Rattle.std.proofs.Common.{◌≡◌, [], drop, take}
use Rattle.sj_names.specs.definitions.Failures.{least_of, domain_end_failures}
use Rattle.sj_names.specs.DomainNames.{names_in}
use Rattle.sj_names.specs.EndsHere.{HasEnds}
use Rattle.sj_names.proofs.least.Least.add_domain_ends.Given as goal

abbrev pub invariant-loop-i : goal.invariant-loop-i
invariant-loop-i l =
    (least_of l.initial.self.found (domain_end_failures (take l.domain (names_in l.domains)) [] l.mentions)
    ≡ least_of l.self.found (domain_end_failures (take l.domain (names_in l.domains)) (take l.i l.mentions) (drop l.i l.mentions)))
    × HasEnds l.here (take l.i l.mentions) l.domain
