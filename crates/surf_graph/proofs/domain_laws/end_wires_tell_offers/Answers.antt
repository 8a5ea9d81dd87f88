use Rattle.surf_graph.proofs.EndWires.{ends_told}
use Rattle.surf_graph.proofs.domain_laws.end_wires_tell_offers.Goals as goal

pub returns-clause-waits : goal.returns-clause-waits
returns-clause-waits c = λ tables d ps next n f w h. (ends_told tables d ps next n f w h).0

pub returns-clause-sends : goal.returns-clause-sends
returns-clause-sends c = λ tables d ps next n f w h. (ends_told tables d ps next n f w h).1
