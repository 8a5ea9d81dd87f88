use Rattle.std.proofs.Common.{◌≡◌, drop, take}
use Rattle.std.specs.List.{flat_map}
use Rattle.sj_names.specs.declared.mention.Use.TheVariants.{PortSignal}
use Rattle.sj_names.specs.definitions.Failures.{least_of, number_in, shared_failure}
use Rattle.sj_names.specs.DomainNames.{names_in}
use Rattle.sj_names.proofs.least.Least.add_shared_names.Given as goal

abbrev pub invariant-loop-mention : goal.invariant-loop-mention
invariant-loop-mention l =
    least_of l.initial.self.found (flat_map (λ m. shared_failure (take l.domain (names_in l.domains)) m.at (number_in PortSignal m)) l.mentions)
    ≡ least_of l.self.found (flat_map (λ m. shared_failure (take l.domain (names_in l.domains)) m.at (number_in PortSignal m)) (drop l.mention-index l.mentions))
