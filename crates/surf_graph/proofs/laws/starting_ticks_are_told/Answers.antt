use Rattle.surf_graph.proofs.StartShows.{start_shows}
use Rattle.surf_graph.proofs.laws.starting_ticks_are_told.Goals as goal

pub returns : goal.returns
returns c = start_shows
