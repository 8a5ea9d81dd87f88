use Rattle.kernel_terms.specs.Statements.{optional_expression}
use Rattle.surf_graph.proofs.LeavesBuilt.{emission_starts}
use Rattle.surf_graph.proofs.starting_leaves.start_emission.Goals as goal

pub returns : goal.returns
returns c = λ tables. emission_starts tables c.args.b.now c.own_emission.new.builder c.add_guarded.new.lists c.args.given c.in_ok-status.status c.args.signal (optional_expression c.args.value.now) c.requires.signal c.in_ok-status.ensures c.in_ok-add_guarded.ensures
