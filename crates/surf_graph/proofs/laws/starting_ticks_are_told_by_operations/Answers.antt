use Rattle.surf_graph.proofs.StartShows.{start_shows}
use Rattle.surf_graph.proofs.StartInside.{start_inside}
use Rattle.surf_graph.proofs.FurtherWires.{operations_show}
use Rattle.surf_graph.specs.definitions.StartingCopies.{start}
use Rattle.surf_graph.proofs.laws.starting_ticks_are_told_by_operations.Goals as goal

pub returns : goal.returns
returns c = λ tables f w p d o out source waits z on free ticks. operations_show tables f w p d (start tables p d) o out z (start_inside tables p d out) (start_shows tables f w p d o out source waits z on free ticks)
