use Rattle.std.proofs.Common.{◌-◌, ◌≤◌, length, take}
use Rattle.sj_io.specs.definitions.Gathers.{waiting, Gathers}
use Rattle.sj_io.proofs.gathered.Gathered.put_parts.Given as goal

abbrev pub invariant-loop-done : goal.invariant-loop-done
invariant-loop-done g l =
    Gathers (g.K.Sink.taken l.initial.out) (g.K.Sink.taken l.out) (waiting l.initial.self) (waiting l.self) (take l.done l.bytes)
    × (g.K.Sink.faults l.initial.out ≤ g.K.Sink.faults l.out)
    × (l.done ≤ length l.bytes)

abbrev pub decreases-loop-done : goal.decreases-loop-done
decreases-loop-done g l = length l.bytes - l.done
