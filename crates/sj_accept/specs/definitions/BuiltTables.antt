-- The signals and channels that are built so far: outputs without a kind, and channels of the kind `int`.
use Rattle.std.specs.Prelude.{Bool, true, false, ◌&&◌, not}
use Rattle.std.specs.Option.{is_some}
use Rattle.std.specs.List.{list_all}
use Rattle.java_values.specs.declared.kind.Kind.TheVariants as kind
use Rattle.kernel_terms.specs.declared.tables.SignalInfo.{SignalInfo}
use Rattle.kernel_terms.specs.declared.tables.ChannelInfo.{ChannelInfo}
use Rattle.kernel_terms.specs.declared.tables.Tables.{Tables}
use Rattle.kernel_terms.specs.declared.tables.Sort.{Sort}
use Rattle.kernel_terms.specs.declared.tables.Sort.TheVariants as sort
use Rattle.kernel_terms.specs.WellFormed.{is_default, same_kind}

abbrev pub is_output : Sort → Bool
is_output sort.Input = false
is_output sort.Output = true
is_output sort.Local = false

-- such a signal has the default combination
abbrev pub is_pure_output : SignalInfo → Bool
is_pure_output s = is_output s.sort && (not (is_some s.kind) && is_default s.combine)

abbrev pub is_int_channel : ChannelInfo → Bool
is_int_channel c = same_kind c.kind kind.Int

abbrev pub tables_are_built : Tables → Bool
tables_are_built t = list_all is_pure_output t.signals && list_all is_int_channel t.channels
