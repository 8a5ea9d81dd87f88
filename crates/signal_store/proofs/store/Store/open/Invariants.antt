use Rattle.std.proofs.Common.{◌≡◌, map, take}
use Rattle.signal_store.specs.definitions.Registers.{zero_of}
use Rattle.signal_store.proofs.store.Store.open.Given as goal

abbrev pub invariant-loop-kind : goal.invariant-loop-kind
invariant-loop-kind l = l.registers.items ≡ map zero_of (take l.kind-index l.kinds)
