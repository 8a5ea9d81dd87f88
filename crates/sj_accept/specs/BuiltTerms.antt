-- The terms of built forms.
use Rattle.std.specs.Prelude.{◌≡◌, ℕ, Bool, true, List, [], ◌∷◌}
use Rattle.kernel_terms.specs.declared.term.Term.{Term}
use Rattle.kernel_terms.specs.declared.tables.Tables.{Tables}
use Rattle.kernel_terms.specs.Built.{is_built}
use Rattle.kernel_terms.specs.Divisors.{divisors_are_allowed}
use Rattle.kernel_terms.specs.Statements.{statement}
use Rattle.kernel_terms.specs.WellFormed.{has_parts, declared_by, fits_statement}
use Rattle.sj_names.specs.definitions.FittingTrees.{Around, term_scope, fits_stmt, fits_block}
use Rattle.java_types.specs.definitions.FittingKinds.{kind_rules}
use Rattle.java_types.specs.definitions.TypedTrees.{TypedStmt, TypedBlock}

-- it has built forms alone, whose lists have parts, and declares no signal
pub record IsBuilt (t : Term) : Type 0 where
  pub parts : has_parts t ≡ true
  pub forms : is_built t ≡ true
  pub declares : declared_by (statement t) ≡ []

abbrev pub AreBuilt : List Term → Type 0
AreBuilt [] = Unit {0}
AreBuilt (t ∷ ts) = IsBuilt t × AreBuilt ts

-- the term keeps the rules on uses and kinds there, and its divisors are allowed
pub record Fits (t : Tables) (a : Around) (term : Term) : Type 0 where
  pub keeps : fits_statement t (term_scope a) (statement term) ≡ true
  pub divisors : divisors_are_allowed (statement term) ≡ true

abbrev pub AllFit : Tables → Around → List Term → Type 0
AllFit t a [] = Unit {0}
AllFit t a (term ∷ terms) = Fits t a term × AllFit t a terms

-- the term is built, and keeps the rules wherever the statement fits, which declares nothing
pub record IsTermOf (s : TypedStmt) (term : Term) : Type 0 where
  pub built : IsBuilt term
  pub fits : (t : Tables) (a : Around) → (fits_stmt t (kind_rules t) s a).fits ≡ true →
      Fits t a term
  pub around : (t : Tables) (a : Around) → (fits_stmt t (kind_rules t) s a).around ≡ a

-- the same of a block
pub record IsTermOfBlock (b : TypedBlock) (term : Term) : Type 0 where
  pub built : IsBuilt term
  pub fits : (t : Tables) (a : Around) → (fits_block t (kind_rules t) b a).fits ≡ true →
      Fits t a term
