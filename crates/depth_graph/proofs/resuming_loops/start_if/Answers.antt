use Rattle.kernel_terms.specs.Statements.{statement}
use Rattle.depth_graph.proofs.LoopsResume.{nothing_starts_if, one_starts_if}
use Rattle.depth_graph.proofs.resuming_loops.start_if.Goals as goal

pub returns-then-not-may : goal.returns-then-not-may
returns-then-not-may c = nothing_starts_if c.args.tables.now c.args.b.now c.args.given (statement c.args.term.now) c.args.may c.if-not-may.true

pub returns : goal.returns
returns c = one_starts_if c.args.tables.now c.args.b.now c.start.new.b c.args.given (statement c.args.term.now) c.args.may c.in_ok-made.made c.if-not-may.false c.in_ok-made.ensures
