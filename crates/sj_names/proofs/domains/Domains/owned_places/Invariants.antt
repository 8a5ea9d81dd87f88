use Rattle.std.proofs.Common.{drop}
use Rattle.sj_names.specs.DomainNames.{names_in}
use Rattle.sj_names.specs.Places.{place_lists, OwnedReach}
use Rattle.sj_names.proofs.domains.Domains.owned_places.Given as goal

abbrev pub invariant-loop-i : goal.invariant-loop-i
invariant-loop-i l = OwnedReach (names_in l.self) l.places l.i (drop l.i l.places) (place_lists l.lists.items)
