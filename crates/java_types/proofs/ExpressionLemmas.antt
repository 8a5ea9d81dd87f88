-- Where the right operand of an operator fails, so does the whole.
use Rattle.std.proofs.Common.{◌≡◌, ℕ, ap, sym, ◌∙◌}
use Rattle.java_values.specs.declared.op.Op2.{Op2}
use Rattle.kernel_terms.specs.declared.tables.Tables.{Tables}
use Rattle.sj_ast.specs.declared.expression.Raw as raw
use Rattle.sj_ast.specs.declared.expression.Raw.TheOpen.{Raw-F}
use Rattle.sj_ast.specs.declared.expression.Raw.TheFolds.{fold-roll-Raw}
use Rattle.sj_ast.specs.declared.expression.Raw.TheVariants.{rolls-Binary}
use Rattle.sj_names.specs.declared.entry.TableEntry.{TableEntry}
use Rattle.java_types.specs.declared.failure.TypeError.{TypeError}
use Rattle.java_types.specs.declared.operand.Operand.{Operand}
use Rattle.java_types.specs.definitions.Checks.{Checked, fine, map2, then, IsFirst}
use Rattle.java_types.specs.definitions.Operands.{operands, binary_operand, checked_layer, checked_expression}
use Rattle.java_types.proofs.CheckLemmas.{second_fails, same_first}

of_binary : (t : Tables) (e : raw.Raw TableEntry) (at : ℕ) (op : Op2) (l r : raw.Raw TableEntry) → e ≡ raw.Binary at op l r
    → checked_expression t e ≡ then (map2 operands (checked_expression t l) (checked_expression t r)) (binary_operand at op)
of_binary t e at op l r h = ap (checked_expression t) (h ∙ sym (rolls-Binary at op l r)) ∙ fold-roll-Raw TableEntry (Checked Operand) (checked_layer t) (Raw-F.Binary at op l r)

pub right_fails : (t : Tables) (whole : raw.Raw TableEntry) (at : ℕ) (op : Op2) (l r : raw.Raw TableEntry) (x : Operand) (e : TypeError)
    → whole ≡ raw.Binary at op l r → checked_expression t l ≡ fine x → IsFirst (checked_expression t r) e → IsFirst (checked_expression t whole) e
right_fails t whole at op l r x e w h i =
    same_first (checked_expression t whole) (then (map2 operands (checked_expression t l) (checked_expression t r)) (binary_operand at op)) e (of_binary t whole at op l r w)
    (second_fails operands (binary_operand at op) (checked_expression t l) (checked_expression t r) e (ap (λ (c : Checked Operand). c.failures) h) i)
