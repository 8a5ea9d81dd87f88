use Rattle.std.proofs.Common.{◌-◌, ◌≤◌, []}
use Rattle.sj_io.specs.definitions.Gathers.{waiting, Gathers}
use Rattle.sj_io.proofs.gathered.Gathered.flush.Given as goal

abbrev pub invariant-loop-self : goal.invariant-loop-self
invariant-loop-self g l =
    Gathers (g.K.Sink.taken l.initial.out) (g.K.Sink.taken l.out) (waiting l.initial.self) (waiting l.self) []
    × (g.K.Sink.faults l.initial.out ≤ g.K.Sink.faults l.out)

abbrev pub decreases-loop-self : goal.decreases-loop-self
decreases-loop-self g l = l.self.to - l.self.from
