-- What was found to be declared.
use Rattle.sj_names.specs.declared.declared.Declarations.{Declarations}
use Rattle.sj_names.specs.definitions.DeclaredTables.{Declared}

abbrev pub declared_in : Declarations → Declared
declared_in d = record { signals = d.signals.items; variables = d.variables.items }
