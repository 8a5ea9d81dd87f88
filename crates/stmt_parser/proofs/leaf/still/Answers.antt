use Rattle.std.proofs.Common.{ap, ◌∙◌}
use Rattle.sj_grammar.specs.definitions.Trees.{placed}
use Rattle.stmt_parser.proofs.LeafLemmas.{still-reads}
use Rattle.stmt_parser.proofs.leaf.still.Goals as goal

pub returns-in-Ok : goal.returns-in-Ok
returns-in-Ok c = λ source. still-reads source c.args.rest.now c.in-Ok.end.rest.now c.args.first.now c.in-Ok.end.value c.args.depth c.placed.result c.requires c.in-Ok.ensures (c.placed.ensures ∙ ap (placed c.args.first.now) c.still_form.ensures)
