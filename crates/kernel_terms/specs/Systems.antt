-- A system as its tables and the terms of its domains.
use Rattle.std.specs.Prelude.{List}
use Rattle.kernel_terms.specs.declared.term.Term.{Term}
use Rattle.kernel_terms.specs.declared.tables.Tables.{Tables}
use Rattle.kernel_terms.specs.declared.system.System.{System}

abbrev pub tables_of : System → Tables
tables_of s = s.tables

abbrev pub domains_of : System → List Term
domains_of s = s.domains
