use Rattle.std.proofs.Common.{sym, ◌∙◌, map}
use Rattle.kernel_terms.specs.Statements.{statement}
use Rattle.tick_tree.proofs.ResumingEnds.{end_later_in_turn}
use Rattle.tick_tree.proofs.measure.+ends1.Goals as goal

pub ends1-returns-in-Seq : goal.ends1-returns-in-Seq
ends1-returns-in-Seq t c = λ fits.
    c.some_end1.ensures (c.sequence_parts_fit.ensures.fit fits) ∙ sym (end_later_in_turn (statement c.args.term.now) (map statement c.as_slice-parts.result.now) c.sequence_parts_fit.ensures.statement)
