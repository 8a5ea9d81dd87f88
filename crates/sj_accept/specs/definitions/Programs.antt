-- The program of a tree.
use Rattle.std.specs.Prelude.{cond, List, map, Option, Some, None, option_map}
use Rattle.kernel_terms.specs.declared.term.Term.{Term}
use Rattle.kernel_terms.specs.declared.tables.Tables.{Tables}
use Rattle.kernel_terms.specs.Statements.{Stmt, statement}
use Rattle.sj_names.specs.definitions.DeclaredTables.{tables_of_tree}
use Rattle.java_types.specs.definitions.TypedTrees.{TypedTree}
use Rattle.sj_accept.specs.definitions.Optional.{all_some}
use Rattle.sj_grammar.specs.definitions.SourceTrees.{SourceTree}
use Rattle.sj_accept.specs.definitions.Kinds.{typed_tree}
use Rattle.sj_accept.specs.definitions.BuiltTables.{tables_are_built}
use Rattle.sj_accept.specs.definitions.Lowering.{block_term}

-- its tables, and the term of each domain, by rising number
pub record LoweredProgram : Type 0 where
  pub tables : Tables
  pub terms : List Term

abbrev pub with_terms : Tables → List Term → LoweredProgram
with_terms t terms = record { tables = t; terms = terms }

-- of a tree with kinds, where its tables and all its forms are built
abbrev pub lowered : Tables → TypedTree → Option LoweredProgram
lowered t tree =
    cond (tables_are_built t) (option_map (with_terms t) (all_some (map block_term tree.domains)))
    None

abbrev pub lowered_where : Tables → Option TypedTree → Option LoweredProgram
lowered_where t None = None
lowered_where t (Some tree) = lowered t tree

abbrev pub program_of : SourceTree → Option LoweredProgram
program_of tree = lowered_where (tables_of_tree tree) (typed_tree tree)

-- the statement of each domain, by rising number
abbrev pub domain_statements : LoweredProgram → List Stmt
domain_statements p = map statement p.terms
