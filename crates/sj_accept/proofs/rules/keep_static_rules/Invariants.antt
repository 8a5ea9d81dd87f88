use Rattle.std.proofs.Common.{◌↔◌, map, drop}
use Rattle.kernel_terms.specs.Statements.{statement}
use Rattle.sj_accept.specs.StaticRules.{AllKeepStaticRules}
use Rattle.sj_accept.proofs.rules.keep_static_rules.Given as goal

abbrev pub invariant-loop-i : goal.invariant-loop-i
invariant-loop-i l = AllKeepStaticRules (map statement l.domains) ↔ AllKeepStaticRules (map statement (drop l.i l.domains))
