use Rattle.std.proofs.Common.{◌+◌, ◌-◌}
use Rattle.surf_graph.proofs.OwnSets.{PlacesLeft}
use Rattle.surf_graph.proofs.places.read_places.Given as goal

abbrev pub invariant-loop-i : goal.invariant-loop-i
invariant-loop-i l = PlacesLeft l.fn.builder l.builder l.wire l.place l.count l.i
