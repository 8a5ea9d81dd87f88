use Rattle.std.proofs.Common.{◌≡◌, ◌+◌, ◌≤◌, ◌-◌, take, vec_len}
use Rattle.std.specs.Prelude.{IfSome}
use Rattle.sj_io.specs.definitions.Files.{CountsStay, Keeps}
use Rattle.sj_io.proofs.whole.read_all.Given as goal

abbrev pub invariant-loop-buf : goal.invariant-loop-buf
invariant-loop-buf g l =
    IfSome (g.F.Files.told l.initial.files l.name) (λ all. l.bytes.items ≡ take (vec_len l.bytes) all)
    × Keeps (g.F.Files.known l.initial.files) (g.F.Files.told l.initial.files) (g.F.Files.told l.files) (g.F.Files.faults l.initial.files) (g.F.Files.faults l.files) l.name
    × CountsStay (g.F.Files.faults l.initial.files) (g.F.Files.faults l.files)
    × (g.F.Files.known l.files ≡ g.F.Files.known l.initial.files)
    × (vec_len l.bytes ≤ l.limit + 1)

abbrev pub decreases-loop-buf : goal.decreases-loop-buf
decreases-loop-buf g l = l.limit + 1 - vec_len l.bytes
