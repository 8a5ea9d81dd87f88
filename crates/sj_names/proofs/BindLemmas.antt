-- What a tree is bound to keeps what its names give.
use Rattle.std.proofs.Common.{◌≡◌, ℕ, ◌≤◌, true, length, ap, sym, ◌∙◌, subst}
use Rattle.kernel_terms.specs.declared.tables.Tables.{Tables}
use Rattle.sj_ast.specs.declared.expression.Raw.{Raw}
use Rattle.sj_ast.specs.declared.statement.Tree.{Tree}
use Rattle.sj_names.specs.declared.entry.TableEntry.{TableEntry}
use Rattle.sj_names.specs.definitions.DeclaredSignals.{AreDeclared}
use Rattle.sj_names.specs.definitions.FittingTrees.{fits_tree, entry_rules}
use Rattle.sj_names.specs.definitions.NestedTraps.{traps_nest}
use Rattle.sj_names.specs.definitions.SoundTables.{AreSoundTables}

abbrev NumberedTree : Type 0
NumberedTree = Tree ℕ (Raw TableEntry)

pub numbers_kept : (t u : Tables) (x y : NumberedTree) → t ≡ u → x ≡ y → fits_tree u (entry_rules u) y ≡ true → fits_tree t (entry_rules t) x ≡ true
numbers_kept t u x y e f h = ap (λ (v : Tables). fits_tree v (entry_rules v) x) e ∙ ap (fits_tree u (entry_rules u)) f ∙ h

pub tables_kept : (t u : Tables) (x y : NumberedTree) → t ≡ u → x ≡ y → AreSoundTables u (length y.domains) → AreSoundTables t (length x.domains)
tables_kept t u x y e f h = subst (λ (v : Tables). AreSoundTables v (length x.domains)) (sym e) (subst (λ (z : NumberedTree). AreSoundTables u (length z.domains)) (sym f) h)

pub declared_kept : (t u : Tables) (x y : NumberedTree) → t ≡ u → x ≡ y → AreDeclared u y → AreDeclared t x
declared_kept t u x y e f h = subst (λ (v : Tables). AreDeclared v x) (sym e) (subst (λ (z : NumberedTree). AreDeclared u z) (sym f) h)

pub domain_kept : (x y : NumberedTree) → x ≡ y → 1 ≤ length y.domains → 1 ≤ length x.domains
domain_kept x y f h = subst (λ (z : NumberedTree). 1 ≤ length z.domains) (sym f) h

pub traps_kept : (most : ℕ) (x y : NumberedTree) → x ≡ y → traps_nest most y ≡ true → traps_nest most x ≡ true
traps_kept most x y f h = ap (traps_nest most) f ∙ h
