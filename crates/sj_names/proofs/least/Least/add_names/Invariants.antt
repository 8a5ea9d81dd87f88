use Rattle.std.proofs.Common.{◌≡◌, drop}
use Rattle.std.specs.List.{flat_map}
use Rattle.sj_names.specs.definitions.Failures.{least_of, own_failures}
use Rattle.sj_names.proofs.least.Least.add_names.Given as goal

abbrev pub invariant-loop-mention : goal.invariant-loop-mention
invariant-loop-mention l = least_of l.initial.self.found (flat_map own_failures l.mentions) ≡ least_of l.self.found (flat_map own_failures (drop l.mention-index l.mentions))
