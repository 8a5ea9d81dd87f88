use Rattle.std.proofs.Common.{◌≡◌, ◌+◌, ◌≤◌, map, drop, length}
use Rattle.domain_core.specs.equations.BuiltForms.{plain}
use Rattle.domain_core.specs.equations.CircuitLists.{Adds, registers_of, resume_list}
use Rattle.domain_core.proofs.equations.builder.+resume.Given as goal

abbrev pub invariant-resume_all-loop-i : goal.invariant-resume_all-loop-i
invariant-resume_all-loop-i l =
    Adds l.initial.parts l.parts (resume_list (map plain (drop l.i l.list)) (length l.initial.parts.equations.items) l.next) l.done
    × (l.next + registers_of (map plain (drop l.i l.list)) ≡ l.register + registers_of (map plain l.list))
    × (l.register ≤ l.next)
