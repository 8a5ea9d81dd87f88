use Rattle.std.proofs.Common.{◌≡◌, map, take}
use Rattle.domain_core.specs.definitions.step.Domains.{ends_in}
use Rattle.gals_core.specs.Channels.{lists_in}
use Rattle.gals_core.proofs.opening.open_lists.Given as goal

abbrev pub invariant-loop-domain : goal.invariant-loop-domain
invariant-loop-domain l = lists_in l.lists.items ≡ map ends_in (take l.domain-index l.domains)
