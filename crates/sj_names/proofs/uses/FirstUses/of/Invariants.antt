use Rattle.std.proofs.Common.{take}
use Rattle.sj_names.specs.FirstDomains.{lists, AreFirst}
use Rattle.sj_names.proofs.uses.FirstUses.of.Given as goal

abbrev pub invariant-loop-i : goal.invariant-loop-i
invariant-loop-i l = AreFirst l.first l.way (take l.i (lists l.domains))
