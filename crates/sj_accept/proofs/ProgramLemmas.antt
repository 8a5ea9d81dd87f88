-- The program of a typed tree.
use Rattle.std.proofs.Common.{◌≡◌, Bool, true, false, map, Some, None, ap, refl, sym, ◌∙◌, List}
use Rattle.std.specs.Prelude.{Option, cond, option_map}
use Rattle.kernel_terms.specs.declared.term.Term.{Term}
use Rattle.kernel_terms.specs.declared.tables.Tables.{Tables}
use Rattle.kernel_terms.specs.declared.system.System.{System}
use Rattle.kernel_terms.specs.Systems.{tables_of, domains_of}
use Rattle.sj_names.specs.definitions.FittingTrees.{fits_tree}
use Rattle.java_types.specs.definitions.FittingKinds.{kind_rules}
use Rattle.java_types.specs.definitions.TypedTrees.{TypedTree}
use Rattle.sj_accept.specs.Lowered.{AreTermsOf, IsSystemOf}
use Rattle.sj_accept.specs.definitions.Optional.{all_some}
use Rattle.sj_accept.specs.definitions.BuiltTables.{tables_are_built}
use Rattle.sj_accept.specs.definitions.Lowering.{block_term}
use Rattle.sj_accept.specs.definitions.Programs.{LoweredProgram, lowered, with_terms}
use Rattle.sj_accept.proofs.SystemLemmas.{all_built_terms, domains_divided}

pub unbuilt_tables : (t : Tables) (tree : TypedTree) → tables_are_built t ≡ false → lowered t tree ≡ None
unbuilt_tables t tree h = ap (λ b. cond b (option_map (with_terms t) (all_some (map block_term tree.domains))) None) h

abbrev no_program : Option LoweredProgram
no_program = None

none_either_way : (b : Bool) → cond b no_program no_program ≡ no_program
none_either_way true = refl
none_either_way false = refl

pub no_terms : (t : Tables) (tree : TypedTree) → all_some (map block_term tree.domains) ≡ None → lowered t tree ≡ None
no_terms t tree h = ap (λ o. cond (tables_are_built t) (option_map (with_terms t) o) None) h ∙ none_either_way (tables_are_built t)

program_is : (t : Tables) (tree : TypedTree) (terms : List Term) → tables_are_built t ≡ true → all_some (map block_term tree.domains) ≡ Some terms → lowered t tree ≡ Some (with_terms t terms)
program_is t tree terms b h = ap (λ c. cond c (option_map (with_terms t) (all_some (map block_term tree.domains))) None) b ∙ ap (option_map (with_terms t)) h

pub is_system : (t : Tables) (tree : TypedTree) (terms : List Term) (system : System) → fits_tree t (kind_rules t) tree ≡ true → tables_are_built t ≡ true → AreTermsOf tree.domains terms → tables_of system ≡ t → domains_of system ≡ terms → IsSystemOf t tree system
is_system t tree terms system f b a e d = record {
  program = with_terms t terms;
  is = program_is t tree terms b a.is;
  tables = e;
  domains = d;
  entries = b;
  built = all_built_terms tree.domains terms a.terms_of;
  divisors = domains_divided t 0 tree.domains terms a.terms_of f;
}
