use Rattle.channel_cell.proofs.TableStepLemmas.{starts}
use Rattle.channel_cell.proofs.ends.new_ends.Goals as goal

pub of_words-requires : goal.of_words-requires
of_words-requires c = starts _
