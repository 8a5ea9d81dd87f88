-- Whether the combinations of signals fit their kinds.
use Rattle.std.specs.Prelude.{Bool}
use Rattle.std.specs.List.{list_all}
use Rattle.kernel_terms.specs.declared.tables.SignalInfo.{SignalInfo}
use Rattle.kernel_terms.specs.declared.tables.Tables.{Tables}
use Rattle.kernel_terms.specs.WellFormed.{combines}

-- a pure signal has the default, and `boolean` has a bitwise one
abbrev pub combination_fits : SignalInfo → Bool
combination_fits s = combines s.kind s.combine

abbrev pub combinations_fit : Tables → Bool
combinations_fit t = list_all combination_fits t.signals
