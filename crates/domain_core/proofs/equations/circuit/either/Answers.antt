use Rattle.std.proofs.Common.{length, ap, ◌∙◌}
use Rattle.domain_core.proofs.lemmas.equations.CircuitMerging.{either_added}
use Rattle.domain_core.proofs.equations.circuit.either.Goals as goal

pub returns : goal.returns
returns c =
    either_added c.args.equations.now.items c.push.new.self.items c.args.first c.args.second c.in_ok-wire.wire (c.in_ok-wire.ensures.wire ∙ ap length c.deref.ensures.value) c.in_ok-push.ensures.items
