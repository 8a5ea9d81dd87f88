-- The sources that are accepted, as one predicate on their bytes.
use Rattle.std.specs.Prelude.{◌≡◌, ℕ, ◌≤◌, List, [], length, get_or, Some}
use Rattle.java_values.specs.SourceLimits.{most_source_bytes}
use Rattle.kernel_terms.specs.Statements.{Nothing}
use Rattle.kernel_terms.specs.MayEnd.{LoopsWait}
use Rattle.tick_tree.specs.definitions.Weight.{weight_of, most_weight}
use Rattle.sj_names.specs.definitions.Mentions.{names_of_tree}
use Rattle.sj_names.specs.definitions.Failures.{failures_of}
use Rattle.sj_grammar.specs.definitions.SourceTrees.{SourceTree}
use Rattle.sj_accept.specs.definitions.Sources.{IsParsed}
use Rattle.sj_accept.specs.definitions.Kinds.{kind_failures}
use Rattle.sj_accept.specs.definitions.Programs.{LoweredProgram, program_of, domain_statements}

-- The static rules. No signal is read, so every domain is causal; there are no variables and no `||`, so no branch
-- shares one, and no end stands in two.
pub record KeepsRules (p : LoweredProgram) : Type 0 where
  pub loops : (d : ℕ) → LoopsWait (get_or (domain_statements p) d Nothing)
  pub weight : (d : ℕ) → weight_of (get_or (domain_statements p) d Nothing) ≤ most_weight

-- the bytes are an accepted source, whose names and kinds have no failure, and this is its program
pub record IsSourceOf (bytes : List ℕ) (p : LoweredProgram) : Type 0 where
  pub size : length bytes ≤ most_source_bytes
  pub tree : SourceTree
  pub parsed : IsParsed bytes tree
  pub named : failures_of (names_of_tree tree) ≡ []
  pub typed : kind_failures tree ≡ []
  pub is : program_of tree ≡ Some p
  pub rules : KeepsRules p

pub record IsAccepted (bytes : List ℕ) : Type 0 where
  pub program : LoweredProgram
  pub source : IsSourceOf bytes program
