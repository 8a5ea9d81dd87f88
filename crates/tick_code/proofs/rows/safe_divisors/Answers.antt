use Rattle.tick_code.proofs.DivisorLemmas.{zero_refused, place_refused, divided_by_two}
use Rattle.tick_code.proofs.rows.safe_divisors.Goals as goal

pub returns-clause-constant : goal.returns-clause-constant
returns-clause-constant c = divided_by_two

pub returns-clause-zero : goal.returns-clause-zero
returns-clause-zero c kinds w = let s = w.each.1.1.0.2 in zero_refused s.divisor s.not_zero s.gives

pub returns-clause-place : goal.returns-clause-place
returns-clause-place c kinds w = let s = w.each.1.1.0.2 in place_refused s.divisor s.gives
