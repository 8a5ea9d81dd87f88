use Rattle.tick_tree.proofs.LeafPlaces.{places_count}
use Rattle.tick_tree.proofs.laws.leaves_have_places.Goals as goal

pub returns : goal.returns
returns c = places_count
