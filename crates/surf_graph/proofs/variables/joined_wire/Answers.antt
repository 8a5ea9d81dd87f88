use Rattle.surf_graph.proofs.JoinedVariables.{wire_joined}
use Rattle.surf_graph.proofs.variables.joined_wire.Goals as goal

pub returns : goal.returns
returns c =
    wire_joined c.args.builder.now c.take_own.new.self c.give_choice.new.builder c.args.other c.args.first c.args.second c.args.first_own c.in_ok-n.n
    c.if-second-first_own.false c.in_ok-n.ensures.first c.in_ok-n.ensures.next c.take_own.ensures.equations c.take_own.ensures.further c.in_ok-give_choice.ensures
