use Rattle.std.proofs.Common.{◌≡◌, drop, map}
use Rattle.sj_names.specs.DeclaredNames.{declared_in}
use Rattle.sj_names.specs.definitions.DeclaredTables.{both, all, declared_block, declared_stmt}
use Rattle.sj_names.proofs.declared.Declarations.+declarations.Given as goal

abbrev pub invariant-blocks-loop-block : goal.invariant-blocks-loop-block
invariant-blocks-loop-block l = both (declared_in l.initial.self) (all (map (declared_block l.domain) l.blocks)) ≡ both (declared_in l.self) (all (map (declared_block l.domain) (drop l.block-index l.blocks)))

abbrev pub invariant-statements-loop-statement : goal.invariant-statements-loop-statement
invariant-statements-loop-statement l = both (declared_in l.initial.self) (all (map (declared_stmt l.domain) l.statements)) ≡ both (declared_in l.self) (all (map (declared_stmt l.domain) (drop l.statement-index l.statements)))
