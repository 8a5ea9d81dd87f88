-- A program as the rules take it.
use Rattle.kernel_rules.specs.definitions.LegalTick.{Inputs}
use Rattle.domain_core.specs.definitions.runs.Systems.{Setup}
use Rattle.sj_accept.specs.definitions.Programs.{LoweredProgram, domain_statements}

-- the program with these inputs
abbrev pub program_setup : LoweredProgram → Inputs → Setup
program_setup p inputs =
    record { tables = p.tables; statements = domain_statements p; inputs = inputs }
