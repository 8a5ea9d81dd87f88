use Rattle.std.proofs.Common.{◌≡◌, ◌++◌, drop}
use Rattle.sj_names.specs.definitions.Failures.{is_in, places_of}
use Rattle.sj_names.proofs.limits.places_of.Given as goal

abbrev pub invariant-loop-mention : goal.invariant-loop-mention
invariant-loop-mention l = places_of (is_in l.group) l.mentions ≡ l.places.items ++ places_of (is_in l.group) (drop l.mention-index l.mentions)
