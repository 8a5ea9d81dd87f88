use Rattle.std.proofs.Common.{◌≡◌, drop}
use Rattle.sj_names.specs.DeclaredNames.{declared_in}
use Rattle.sj_names.specs.definitions.DeclaredTables.{both, declared_domains}
use Rattle.sj_names.proofs.declared.Declarations.domains.Given as goal

abbrev pub invariant-loop-i : goal.invariant-loop-i
invariant-loop-i l = both (declared_in l.initial.self) (declared_domains 0 l.domains) ≡ both (declared_in l.self) (declared_domains l.i (drop l.i l.domains))
