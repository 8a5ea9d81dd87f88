use Rattle.kernel_terms.specs.Statements.{statement}
use Rattle.depth_graph.proofs.LoopsResume.{loop_is_closed}
use Rattle.depth_graph.proofs.resuming_loops.close_loop.Goals as goal

pub returns : goal.returns
returns c =
    λ old taken t r. loop_is_closed c.args.tables.now old c.args.b.now c.start_if.new.b taken c.give_is_status.new.builder c.give_greater.new.builder c.args.given (statement c.args.body.now) c.args.own c.in_ok-status.status c.args.made t r c.in_ok-give_is_status.ensures c.in_ok-status.ensures c.in_ok-give_greater.ensures
