use Rattle.std.proofs.Common.{◌≡◌, drop, map}
use Rattle.sj_names.specs.definitions.Mentions.{behind, in_order, block_part, stmt_part}
use Rattle.sj_names.specs.ToldNames.{told_of}
use Rattle.sj_names.proofs.statements.Reader.+statements.Given as goal

abbrev pub invariant-blocks-loop-block : goal.invariant-blocks-loop-block
invariant-blocks-loop-block l = behind (told_of l.initial.self) (in_order (map block_part l.blocks)) ≡ behind (told_of l.self) (in_order (map block_part (drop l.block-index l.blocks)))

abbrev pub invariant-statements-loop-statement : goal.invariant-statements-loop-statement
invariant-statements-loop-statement l = behind (told_of l.initial.self) (in_order (map stmt_part l.statements)) ≡ behind (told_of l.self) (in_order (map stmt_part (drop l.statement-index l.statements)))
