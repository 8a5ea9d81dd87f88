use Rattle.std.proofs.Common.{ap, ◌∙◌}
use Rattle.sj_grammar.specs.definitions.Trees.{placed}
use Rattle.stmt_parser.proofs.LeafLemmas.{assign-reads}
use Rattle.stmt_parser.proofs.leaf.assign.Goals as goal

pub returns-in-Ok-expect : goal.returns-in-Ok-expect
returns-in-Ok-expect c = assign-reads c.args.source.now c.args.rest.now c.in-Ok-read_assign.sign.rest.now c.in-Ok-read_value.read.rest.now c.in-Ok-expect.end.rest.now c.args.first.now c.in-Ok-expect.end.value c.args.depth c.in-Ok-read_assign.sign.value.at c.in-Ok-read_assign.sign.value.op c.in-Ok.name c.in-Ok-read_value.read.value c.placed.result c.requires.role c.in-Ok.ensures c.in-Ok-read_assign.ensures c.in-Ok-read_value.ensures c.in-Ok-expect.ensures (c.placed.ensures ∙ ap (placed c.args.first.now) c.assign_form.ensures)
