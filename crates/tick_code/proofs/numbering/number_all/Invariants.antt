use Rattle.tick_code.specs.Numbers.{number_of, HavePlaces}
use Rattle.tick_code.proofs.ProgressLemmas.{Progress}
use Rattle.tick_code.proofs.numbering.number_all.Given as goal

abbrev pub invariant-loop-next : goal.invariant-loop-next
invariant-loop-next l = record {
  progress : Progress l.fn.equations.items l.next l.equations.items (number_of l.numbers);
  places : HavePlaces l.fn.numbers l.numbers;
}
