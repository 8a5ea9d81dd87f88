use Rattle.std.proofs.Common.{[], ◌∷◌}
use Rattle.std.specs.Prelude.{None, codes}
use Rattle.kernel_terms.specs.declared.tables.Sort.TheVariants.{Output}
use Rattle.kernel_terms.specs.declared.tables.Combine.TheVariants.{Max}
use Rattle.tick_log.proofs.LongLogs.{IsLong}
use Rattle.tick_log.proofs.tests.long_log.Given as goal

abbrev pub invariant-loop-i : goal.invariant-loop-i
invariant-loop-i l = IsLong (record { signals = record { name = codes "A"; domain = 0; sort = Output; kind = None; combine = Max } ∷ []; channels = []; variables = [] }) l.log l.i l.ticks
