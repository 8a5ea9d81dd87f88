use Rattle.tick_code.specs.Numbers.{number_of, renaming_of}
use Rattle.tick_code.proofs.ProgressLemmas.{numbered_are_ordered}
use Rattle.tick_code.proofs.numbering.number_wires.Goals as goal

pub of_ordered-code-requires : goal.of_ordered-code-requires
of_ordered-code-requires c =
    numbered_are_ordered (renaming_of (number_of c.number_all.new.numbers)) c.args.equations.items c.number_all.new.equations.items c.if-number_all.ensures
