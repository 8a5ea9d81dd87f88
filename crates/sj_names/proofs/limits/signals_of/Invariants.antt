use Rattle.std.proofs.Common.{◌≡◌, ◌++◌, drop}
use Rattle.sj_names.specs.definitions.Failures.{is_signal, places_of}
use Rattle.sj_names.proofs.limits.signals_of.Given as goal

abbrev pub invariant-loop-mention : goal.invariant-loop-mention
invariant-loop-mention l = l.owned ++ places_of is_signal l.mentions ≡ l.places.items ++ places_of is_signal (drop l.mention-index l.mentions)
