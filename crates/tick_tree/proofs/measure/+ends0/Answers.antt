use Rattle.std.proofs.Common.{arith, ap, sym, ◌∙◌, map}
use Rattle.std.specs.List.{list_all}
use Rattle.std.proofs.Math.ListN.{drop_of_length-le}
use Rattle.kernel_terms.specs.Statements.{statement}
use Rattle.kernel_terms.specs.MayEnd.{ends0}
use Rattle.tick_tree.proofs.StartingEnds.{end_in_turn, end_beside}
use Rattle.tick_tree.proofs.measure.+ends0.Goals as goal

pub all_end0-returns : goal.all_end0-returns
all_end0-returns t c = λ fits.
    sym (c.loop-i.invariant fits ∙ ap (λ l. list_all ends0 (map statement l)) (drop_of_length-le c.args.parts.now (omega arith)))

pub ends0-returns-in-Seq : goal.ends0-returns-in-Seq
ends0-returns-in-Seq t c = λ fits.
    c.all_end0.ensures (c.sequence_parts_fit.ensures.fit fits) ∙ sym (end_in_turn (statement c.args.term.now) (map statement c.as_slice-parts.result.now) c.sequence_parts_fit.ensures.statement)

pub ends0-returns-in-Par : goal.ends0-returns-in-Par
ends0-returns-in-Par t c = λ fits.
    c.all_end0-in-Par.ensures (c.parallel_parts_fit.ensures.fit fits) ∙ sym (end_beside (statement c.args.term.now) (map statement c.as_slice-parts-in-Par.result.now) c.parallel_parts_fit.ensures.statement)
