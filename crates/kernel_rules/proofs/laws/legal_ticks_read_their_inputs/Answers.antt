use Rattle.kernel_rules.proofs.InputReadingLemmas.{reads_inputs}
use Rattle.kernel_rules.proofs.laws.legal_ticks_read_their_inputs.Goals as goal

pub returns : goal.returns
returns c = reads_inputs
