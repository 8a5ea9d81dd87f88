use Rattle.std.proofs.Common.{ap, ◌∙◌}
use Rattle.sj_grammar.specs.definitions.Trees.{placed}
use Rattle.stmt_parser.proofs.LeafLemmas.{emit-reads}
use Rattle.stmt_parser.proofs.leaf.emit.Goals as goal

pub returns-in-Ok-expect : goal.returns-in-Ok-expect
returns-in-Ok-expect c = emit-reads c.args.source.now c.args.rest.now c.in-Ok.named.rest.now c.in-Ok-read_given.given.rest.now c.in-Ok-expect.end.rest.now c.args.first.now c.in-Ok-expect.end.value c.args.depth c.in-Ok.named.value c.in-Ok-read_given.given.value c.placed.result c.requires.role c.in-Ok.ensures c.in-Ok-read_given.ensures c.in-Ok-expect.ensures (c.placed.ensures ∙ ap (placed c.args.first.now) c.emission_form.ensures)
