use Rattle.std.proofs.Common.{◌↔◌, map, drop}
use Rattle.kernel_terms.specs.Statements.{statement}
use Rattle.sj_accept.specs.StaticRules.{AllLoopsWait}
use Rattle.sj_accept.proofs.loops.+waits.Given as goal

abbrev pub invariant-all_loops_wait-loop-i : goal.invariant-all_loops_wait-loop-i
invariant-all_loops_wait-loop-i l = AllLoopsWait (map statement l.parts) ↔ AllLoopsWait (map statement (drop l.i l.parts))
