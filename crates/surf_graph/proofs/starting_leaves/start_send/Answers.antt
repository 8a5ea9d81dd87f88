use Rattle.kernel_terms.specs.Expressions.{expression}
use Rattle.surf_graph.proofs.LeavesBuilt.{send_starts}
use Rattle.surf_graph.proofs.starting_leaves.start_send.Goals as goal

pub returns : goal.returns
returns c = λ tables. send_starts tables c.args.b.now c.own_send.new.builder c.add_guarded.new.lists c.add_guarded-2.new.lists c.args.given c.in_ok-status.status c.args.channel (expression c.args.value.now) c.requires.room c.in_ok-status.ensures c.in_ok-add_guarded.ensures c.in_ok-add_guarded-2.ensures
