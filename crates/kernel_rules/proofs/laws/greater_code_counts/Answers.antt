use Rattle.kernel_rules.proofs.CompletionCodes.{greater_counts, greater_counts_first}
use Rattle.kernel_rules.proofs.laws.greater_code_counts.Goals as goal

pub returns-clause-first : goal.returns-clause-first
returns-clause-first c = greater_counts_first

pub returns-clause-second : goal.returns-clause-second
returns-clause-second c = greater_counts
