-- The kinds and the program of a bound tree are those of its source.
use Rattle.std.proofs.Common.{◌≡◌, ℕ, List, [], Some, ap, sym, ◌∙◌}
use Rattle.std.specs.Prelude.{Option}
use Rattle.kernel_terms.specs.declared.tables.Tables.{Tables}
use Rattle.sj_names.specs.declared.binding.Bound.{Bound}
use Rattle.sj_names.specs.definitions.Bindings.{IsBinding}
use Rattle.sj_names.specs.definitions.DeclaredTables.{tables_of_tree}
use Rattle.java_types.specs.declared.failure.TypeFailure.{TypeFailure}
use Rattle.java_types.specs.declared.trees.Typed.{Typed}
use Rattle.java_types.specs.definitions.Checks.{Checked, first_of}
use Rattle.java_types.specs.definitions.TypedTrees.{TypedTree, checked_tree}
use Rattle.java_types.specs.definitions.Typings.{IsTyping}
use Rattle.sj_grammar.specs.definitions.SourceTrees.{SourceTree}
use Rattle.sj_accept.specs.definitions.Sources.{IsParsed}
use Rattle.sj_accept.specs.definitions.Kinds.{checked_source, kind_failures, typed_tree}
use Rattle.sj_accept.specs.definitions.Programs.{LoweredProgram, lowered, lowered_where, program_of}
use Rattle.sj_accept.specs.definitions.Refusals.{FailsByKind}

of_binding : (tree : SourceTree) (bound : Bound) → IsBinding tree bound → checked_tree bound.tables bound.tree ≡ checked_source tree
of_binding tree bound b = ap (λ t. checked_tree t bound.tree) b.tables ∙ ap (checked_tree (tables_of_tree tree)) b.numbered

failures_of_binding : (tree : SourceTree) (bound : Bound) → IsBinding tree bound → (checked_tree bound.tables bound.tree).failures ≡ kind_failures tree
failures_of_binding tree bound b = ap (λ (c : Checked TypedTree). c.failures) (of_binding tree bound b)

pub no_kind_fails : (tree : SourceTree) (bound : Bound) (typed : Typed) → IsBinding tree bound → IsTyping bound typed → kind_failures tree ≡ []
no_kind_fails tree bound typed b t = sym (failures_of_binding tree bound b) ∙ ap (λ (c : Checked TypedTree). c.failures) t.tree

pub kind_fails : (source : List ℕ) (tree : SourceTree) (bound : Bound) (f : TypeFailure) → IsParsed source tree → IsBinding tree bound → first_of (checked_tree bound.tables bound.tree).failures ≡ Some f → FailsByKind source f
kind_fails source tree bound f p b h = record { tree = tree; parsed = p; named = b.sound; first = ap first_of (sym (failures_of_binding tree bound b)) ∙ h }

pub tree_of_typing : (tree : SourceTree) (bound : Bound) (typed : Typed) → IsBinding tree bound → IsTyping bound typed → typed_tree tree ≡ Some typed.tree
tree_of_typing tree bound typed b t = ap (λ (c : Checked TypedTree). c.value) (sym (of_binding tree bound b) ∙ t.tree)

pub tables_of_typing : (tree : SourceTree) (bound : Bound) (typed : Typed) → IsBinding tree bound → IsTyping bound typed → typed.tables ≡ tables_of_tree tree
tables_of_typing tree bound typed b t = t.tables ∙ b.tables

pub program_of_typing : (tree : SourceTree) (bound : Bound) (typed : Typed) → IsBinding tree bound → IsTyping bound typed → program_of tree ≡ lowered typed.tables typed.tree
program_of_typing tree bound typed b t =
    ap (lowered_where (tables_of_tree tree)) (tree_of_typing tree bound typed b t)
    ∙ ap (λ (x : Tables). lowered x typed.tree) (sym (tables_of_typing tree bound typed b t))
