-- Small parts and trees, by their layers.
use Rattle.std.proofs.Common.{◌≡◌, ℕ, ◌&&◌, Bool, true, List, [], ◌∷◌, ◌++◌, map, None, ap, refl, sym, ◌∙◌}
use Rattle.kernel_terms.specs.WellFormed.{can_use, can_emit, is_variable_of}
use Rattle.sj_ast.specs.declared.expression.Raw.TheOpen.{Raw-F}
use Rattle.sj_ast.specs.declared.expression.Raw.TheFolds.{fold-roll-Raw}
use Rattle.sj_ast.specs.declared.expression.Raw.TheVariants as raw_is
use Rattle.sj_ast.specs.declared.test.Test.TheOpen.{Test-F}
use Rattle.sj_ast.specs.declared.test.Test.TheFolds.{fold-roll-Test}
use Rattle.sj_ast.specs.declared.test.Test.TheVariants as test_is
use Rattle.sj_ast.specs.declared.statement.Form as form
use Rattle.sj_ast.specs.declared.statement.Form.TheOpen.{Form-F}
use Rattle.sj_ast.specs.declared.statement.Form.TheVariants as form_is
use Rattle.sj_ast.specs.declared.statement.Form.TheFolds.{fold-roll-Form, fold-roll-Block, fold-roll-Stmt}
use Rattle.sj_ast.specs.declared.statement.Stmt as stmt
use Rattle.sj_names.specs.declared.entry.TableEntry.{TableEntry}
use Rattle.sj_names.specs.declared.entry.TableEntry.TheVariants as entry
use Rattle.sj_names.specs.definitions.FittingTrees.{Around, FittingPart, term_scope, at_start, fits_test_layer, fits_test, fits_raw_layer, uses_entries, fits_form_layer, fits_block_layer, fits_stmt_layer, fits_form, fits_block, fits_tree}
use Rattle.sj_names.specs.definitions.DeclaredSignals.{DeclaredSignal, declaration_of, one_list, form_signals_layer, block_signals_layer, stmt_signals_layer, signals_of_form, signals_of_block, signals_of_stmt, signals_of_tree, AreDeclared}
use Rattle.sj_names.specs.FitRows.{small, judged, of_signal, of_variable, emitting, tree_of, two_locals, signal_of, declaring, tree_declaring}

pub signal_tested : (d s : ℕ) → fits_test small (term_scope (at_start d)) (of_signal s) ≡ can_use small (term_scope (at_start d)) s
signal_tested d s = ap (fits_test small (term_scope (at_start d))) (sym (test_is.rolls-Signal 0 s)) ∙ fold-roll-Test ℕ Bool (fits_test_layer small (term_scope (at_start d))) (Test-F.Signal 0 s)

pub variable_read : (d x : ℕ) → uses_entries small (term_scope (at_start d)) (of_variable x) ≡ is_variable_of small d x
variable_read d x = ap (uses_entries small (term_scope (at_start d))) (sym (raw_is.rolls-Variable 0 (entry.Variable x))) ∙ fold-roll-Raw TableEntry Bool (fits_raw_layer small (term_scope (at_start d))) (Raw-F.Variable 0 (entry.Variable x))

emits_there : (s : ℕ) (a : Around) → (fits_block small judged (emitting s) a).fits ≡ ((can_emit small (term_scope a) s && true) && true)
emits_there s a =
    ap (λ (p : FittingPart). (p a).fits) (fold-roll-Block ℕ Bool FittingPart FittingPart FittingPart (fits_form_layer small judged) (fits_block_layer small judged) (fits_stmt_layer small judged) (record { at = 0; statements = stmt.roll-Stmt ℕ Bool (record { at = 1; form = form.Emit 2 s None }) ∷ [] }))
    ∙ ap (λ (p : FittingPart). (p a).fits && true) (fold-roll-Stmt ℕ Bool FittingPart FittingPart FittingPart (fits_form_layer small judged) (fits_block_layer small judged) (fits_stmt_layer small judged) (record { at = 1; form = form.Emit 2 s None }))
    ∙ ap (λ (f : form.Form ℕ Bool). (fits_form small judged f a).fits && true) (sym (form_is.rolls-Emit 2 s None))
    ∙ ap (λ (p : FittingPart). (p a).fits && true) (fold-roll-Form ℕ Bool FittingPart FittingPart FittingPart (fits_form_layer small judged) (fits_block_layer small judged) (fits_stmt_layer small judged) (Form-F.Emit 2 s None))

pub both_emit : (m n : ℕ) → fits_tree small judged (tree_of (emitting m ∷ emitting n ∷ [])) ≡ (((can_emit small (term_scope (at_start 0)) m && true) && true) && (((can_emit small (term_scope (at_start 1)) n && true) && true) && true))
both_emit m n =
    ap (λ b. b && ((fits_block small judged (emitting n) (at_start 1)).fits && true)) (emits_there m (at_start 0))
    ∙ ap (λ b. ((can_emit small (term_scope (at_start 0)) m && true) && true) && (b && true)) (emits_there n (at_start 1))

-- what a tree declares that declares signals alone

abbrev declares : ℕ → stmt.Stmt ℕ Bool
declares s = stmt.roll-Stmt ℕ Bool (record { at = 1; form = form.Declare (signal_of s) })

declared_there : (s : ℕ) → signals_of_stmt (declares s) ≡ declaration_of (signal_of s) ∷ []
declared_there s =
    fold-roll-Stmt ℕ Bool (List DeclaredSignal) (List DeclaredSignal) (List DeclaredSignal) form_signals_layer block_signals_layer stmt_signals_layer (record { at = 1; form = form.Declare (signal_of s) })
    ∙ ap (λ (f : form.Form ℕ Bool). signals_of_form f) (sym (form_is.rolls-Declare (signal_of s)))
    ∙ fold-roll-Form ℕ Bool (List DeclaredSignal) (List DeclaredSignal) (List DeclaredSignal) form_signals_layer block_signals_layer stmt_signals_layer (Form-F.Declare (signal_of s))

all_declared : (ns : List ℕ) → one_list (map signals_of_stmt (map declares ns)) ≡ map (λ s. declaration_of (signal_of s)) ns
all_declared [] = refl
all_declared (n ∷ ns) = ap (λ l. l ++ one_list (map signals_of_stmt (map declares ns))) (declared_there n) ∙ ap (λ l. declaration_of (signal_of n) ∷ l) (all_declared ns)

no_more : (xs : List DeclaredSignal) → xs ++ [] ≡ xs
no_more [] = refl
no_more (x ∷ xs) = ap (λ l. x ∷ l) (no_more xs)

pub tree_declares : (output : ℕ) (locals : List ℕ) → signals_of_tree (tree_declaring output locals) ≡ map (λ s. declaration_of (signal_of s)) (output ∷ locals)
tree_declares output locals =
    ap (λ l. declaration_of (signal_of output) ∷ l)
    (no_more (signals_of_block (declaring locals))
    ∙ fold-roll-Block ℕ Bool (List DeclaredSignal) (List DeclaredSignal) (List DeclaredSignal) form_signals_layer block_signals_layer stmt_signals_layer (record { at = 0; statements = map declares locals })
    ∙ all_declared locals)

numbers_of : (ns : List ℕ) → map (λ (d : DeclaredSignal). d.number) (map (λ s. declaration_of (signal_of s)) ns) ≡ ns
numbers_of [] = refl
numbers_of (n ∷ ns) = ap (λ l. n ∷ l) (numbers_of ns)

-- the numbers are those of the tables
pub numbers_declared : (output : ℕ) (locals : List ℕ) → AreDeclared two_locals (tree_declaring output locals) → 0 ∷ 1 ∷ 2 ∷ [] ≡ output ∷ locals
numbers_declared output locals h = ap (map (λ (d : DeclaredSignal). d.number)) (h ∙ tree_declares output locals) ∙ numbers_of (output ∷ locals)
