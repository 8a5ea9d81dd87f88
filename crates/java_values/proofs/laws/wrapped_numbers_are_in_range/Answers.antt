use Rattle.java_values.proofs.InRangeLemmas.{wrapped_range, wrapped_kept}
use Rattle.java_values.proofs.laws.wrapped_numbers_are_in_range.Goals as goal

pub returns-clause-range : goal.returns-clause-range
returns-clause-range c = wrapped_range

pub returns-clause-kept : goal.returns-clause-kept
returns-clause-kept c = wrapped_kept
