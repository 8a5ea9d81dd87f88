use Rattle.tick_tree.proofs.PlaceLemmas.{without-starting, without-resuming}
use Rattle.tick_tree.proofs.laws.places_change_no_tree.Goals as goal

pub returns : goal.returns
returns c = record { starting = λ at n p. without-starting at n 0 p; resuming = λ at n p. without-resuming at n 0 p }
