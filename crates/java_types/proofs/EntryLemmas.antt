-- Entries that are looked up.
use Rattle.std.proofs.lemmas.Option.{get_or_from_slice_get}

pub ruleset entries = (get_or_from_slice_get)
