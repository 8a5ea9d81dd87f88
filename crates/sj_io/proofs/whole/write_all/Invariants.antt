use Rattle.std.proofs.Common.{◌≤◌, ◌-◌, length, take}
use Rattle.sj_io.specs.definitions.Sinks.{TakesMore}
use Rattle.sj_io.proofs.whole.write_all.Given as goal

abbrev pub invariant-loop-done : goal.invariant-loop-done
invariant-loop-done g l =
    TakesMore (g.K.Sink.taken l.initial.out) (g.K.Sink.taken l.out) (take l.done l.bytes)
    × (g.K.Sink.faults l.initial.out ≤ g.K.Sink.faults l.out)
    × (l.done ≤ length l.bytes)

abbrev pub decreases-loop-done : goal.decreases-loop-done
decreases-loop-done g l = length l.bytes - l.done
