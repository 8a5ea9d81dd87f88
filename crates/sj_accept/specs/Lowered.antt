-- What the steps of the lowering answer.
use Rattle.std.specs.Prelude.{◌≡◌, ℕ, ◌≤◌, true, List, [], ◌∷◌, ◌++◌, length, map, Option, Some, None}
use Rattle.std.specs.List.{list_all}
use Rattle.java_values.specs.Names.{is_name}
use Rattle.kernel_terms.specs.declared.term.Term.{Term}
use Rattle.kernel_terms.specs.declared.tables.Tables.{Tables}
use Rattle.kernel_terms.specs.declared.system.System.{System}
use Rattle.kernel_terms.specs.Divisors.{divisors_are_allowed}
use Rattle.kernel_terms.specs.Systems.{tables_of, domains_of}
use Rattle.kernel_terms.specs.Limits.{most_traps}
use Rattle.sj_names.specs.definitions.FittingTrees.{Around, stmts_fit, fits_stmt}
use Rattle.sj_names.specs.definitions.NestedTraps.{traps_nest}
use Rattle.sj_names.specs.definitions.SoundTables.{port_name}
use Rattle.java_types.specs.definitions.FittingKinds.{kind_rules}
use Rattle.java_types.specs.definitions.TypedTrees.{TypedTree, TypedStmt, TypedBlock}
use Rattle.sj_accept.specs.BuiltTerms.{IsBuilt, AreBuilt, AllFit, IsTermOfBlock}
use Rattle.sj_accept.specs.definitions.Optional.{all_some}
use Rattle.sj_grammar.specs.definitions.SourceTrees.{SourceTree}
use Rattle.sj_accept.specs.definitions.BuiltTables.{tables_are_built}
use Rattle.sj_accept.specs.definitions.Lowering.{stmt_term, block_term}
use Rattle.sj_accept.specs.definitions.Programs.{LoweredProgram, lowered, domain_statements}

abbrev pub with_all : {X : Type 0} → List X → Option (List X) → Option (List X)
with_all xs None = None
with_all xs (Some ys) = Some (xs ++ ys)

-- where statements fit, the terms of those before the rest do, and the rest fits
pub record FitSoFar (t : Tables) (a : Around) (rest : List TypedStmt) (terms : List Term) : Type 0
  where
    pub terms_fit : AllFit t a terms
    pub rest_fits : stmts_fit (map (fits_stmt t (kind_rules t)) rest) a ≡ true

-- the terms of the statements before the rest
pub record StatementsReach (all rest : List TypedStmt) (terms : List Term) : Type 0 where
  pub whole : all_some (map stmt_term all) ≡ with_all terms (all_some (map stmt_term rest))
  pub built : AreBuilt terms
  pub fit : (t : Tables) (a : Around) → stmts_fit (map (fits_stmt t (kind_rules t)) all) a ≡ true →
      FitSoFar t a rest terms

abbrev pub AreTerms : List TypedBlock → List Term → Type 0
AreTerms [] [] = Unit {0}
AreTerms (b ∷ bs) (t ∷ ts) = IsTermOfBlock b t × AreTerms bs ts
AreTerms _ _ = ⊥

-- the terms of the domains before the rest
pub record DomainsReach (all rest : List TypedBlock) (terms : List Term) : Type 0 where
  pub done : List TypedBlock
  pub split : all ≡ done ++ rest
  pub whole : all_some (map block_term all) ≡ with_all terms (all_some (map block_term rest))
  pub terms_of : AreTerms done terms

-- the terms of all domains
pub record AreTermsOf (all : List TypedBlock) (terms : List Term) : Type 0 where
  pub is : all_some (map block_term all) ≡ Some terms
  pub terms_of : AreTerms all terms

-- there is a domain, the names of the ports are names of the grammar, and traps nest within the limit
pub record IsWhole (tree : SourceTree) : Type 0 where
  pub some : 1 ≤ length tree.domains
  pub named : list_all is_name (map port_name tree.ports) ≡ true
  pub traps : traps_nest most_traps tree ≡ true

-- the system is that of the tree's program
pub record IsSystemOf (t : Tables) (tree : TypedTree) (system : System) : Type 0 where
  pub program : LoweredProgram
  pub is : lowered t tree ≡ Some program
  pub tables : tables_of system ≡ program.tables
  pub domains : domains_of system ≡ program.terms
  pub entries : tables_are_built program.tables ≡ true
  pub built : AreBuilt program.terms
  pub divisors : list_all divisors_are_allowed (domain_statements program) ≡ true
