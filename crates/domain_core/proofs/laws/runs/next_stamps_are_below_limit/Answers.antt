use Rattle.domain_core.proofs.lemmas.runs.StampLimit.{stamps_below, next_below, fits_small}
use Rattle.domain_core.proofs.laws.runs.next_stamps_are_below_limit.Goals as goal

pub returns : goal.returns
returns c = record { passed = stamps_below; next = next_below; small = fits_small }
