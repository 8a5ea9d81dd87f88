use Rattle.std.proofs.Common.{◌≡◌, ◌+◌, map, drop}
use Rattle.domain_core.specs.equations.BuiltForms.{plain}
use Rattle.domain_core.specs.equations.CircuitLists.{registers_of}
use Rattle.domain_core.proofs.equations.built_forms.+count.Given as goal

abbrev pub invariant-count_all-loop-part : goal.invariant-count_all-loop-part
invariant-count_all-loop-part l = l.sum + registers_of (map plain (drop l.part-index l.parts)) ≡ registers_of (map plain l.parts)
