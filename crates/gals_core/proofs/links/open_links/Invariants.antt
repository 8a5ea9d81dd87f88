use Rattle.std.proofs.Common.{◌≡◌, map, take}
use Rattle.gals_core.specs.Opening.{link_of}
use Rattle.gals_core.proofs.links.open_links.Given as goal

abbrev pub invariant-loop-info : goal.invariant-loop-info
invariant-loop-info l = l.links.items ≡ map link_of (take l.info-index l.infos)
