-- The system of an accepted source.
use Rattle.std.specs.Prelude.{◌≡◌, ℕ, true, List}
use Rattle.std.specs.List.{list_all}
use Rattle.kernel_terms.specs.Built.{is_built}
use Rattle.kernel_terms.specs.Divisors.{divisors_are_allowed}
use Rattle.kernel_terms.specs.declared.system.System.{System}
use Rattle.kernel_terms.specs.Systems.{tables_of, domains_of}
use Rattle.sj_accept.specs.definitions.Programs.{LoweredProgram, domain_statements}
use Rattle.sj_accept.specs.definitions.BuiltTables.{tables_are_built}
use Rattle.sj_accept.specs.definitions.Accepted.{IsSourceOf}

-- the bytes are an accepted source, and the system is that of its program, whose tables are built and whose terms have
-- built forms and allowed divisors alone
pub record Accepts (bytes : List ℕ) (system : System) : Type 0 where
  pub program : LoweredProgram
  pub source : IsSourceOf bytes program
  pub tables : tables_of system ≡ program.tables
  pub domains : domains_of system ≡ program.terms
  pub entries : tables_are_built program.tables ≡ true
  pub built : list_all is_built program.terms ≡ true
  pub divisors : list_all divisors_are_allowed (domain_statements program) ≡ true
