use Rattle.tick_tree.proofs.PlaceLemmas.{leaves-starting, copies-starting}
use Rattle.tick_tree.proofs.laws.counts_are_those_without_places.Goals as goal

pub returns : goal.returns
returns c = record { leaves = leaves-starting; copies = copies-starting }
