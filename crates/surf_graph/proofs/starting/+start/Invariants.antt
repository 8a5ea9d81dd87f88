use Rattle.std.proofs.Common.{drop, map}
use Rattle.kernel_terms.specs.Statements.{statement, sequence}
use Rattle.surf_graph.proofs.SequenceStarts.{Passes}
use Rattle.surf_graph.proofs.starting.+start.Given as goal

abbrev pub invariant-start_sequence-loop-i : goal.invariant-start_sequence-loop-i
invariant-start_sequence-loop-i l = Passes l.tables l.initial.b l.b l.initial.here l.here (sequence (map statement l.parts)) (sequence (map statement (drop l.i l.parts))) l.turns.items
