use Rattle.std.proofs.Common.{take}
use Rattle.sj_names.specs.FirstDomains.{UsesAll}
use Rattle.sj_names.proofs.uses.FirstUses.add_all.Given as goal

abbrev pub invariant-loop-mention : goal.invariant-loop-mention
invariant-loop-mention l = UsesAll l.initial.self l.self l.way (take l.mention-index l.mentions) l.domain
