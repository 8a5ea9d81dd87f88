-- The scope that the code's names are, and what it has read.
use Rattle.sj_names.specs.declared.names.Names.{Names}
use Rattle.sj_names.specs.definitions.Scopes.{Scope}
use Rattle.sj_names.specs.FoundNames.{named}

abbrev pub scope_of : Names → Scope
scope_of names = record { visible = named names.visible.items; counts = names.counts }
