-- The terms of the forms built so far: `;`, `pause`, `emit` without a value, `while (true)`, `send` of a literal of the
-- kind `int`, and `receive`. Any other form has none.
use Rattle.std.specs.Prelude.{ℕ, ℤ, List, [], ◌∷◌, Option, Some, None, option_map}
use Rattle.java_values.specs.declared.kind.Kind.TheVariants as kind
use Rattle.kernel_terms.specs.declared.expr.Expr as expr
use Rattle.kernel_terms.specs.declared.expr.ExprForm as expr_form
use Rattle.kernel_terms.specs.declared.term.Term as term
use Rattle.kernel_terms.specs.declared.term.Form as form
use Rattle.kernel_terms.specs.Expressions.{Expression, Literal, expression}
use Rattle.sj_ast.specs.declared.statement.Form.TheOpen.{Form-F, Block-F, Stmt-F}
use Rattle.sj_ast.specs.declared.statement.Form.TheFolds.{fold-Block, fold-Stmt}
use Rattle.java_types.specs.definitions.TypedTrees.{TypedStmt, TypedBlock}
use Rattle.sj_accept.specs.definitions.Optional.{all_some}

abbrev pub term_at : ℕ → form.Form → term.Term
term_at at f = term.roll-Term (record { at = at; form = f })

-- terms one after another, at the place of their block
abbrev pub block_of : ℕ → List term.Term → term.Term
block_of at [] = term_at at form.Nothing
block_of at (t ∷ []) = t
block_of at (t ∷ u ∷ ts) = term_at at (form.Seq (t ∷ u ∷ ts))

-- the number of a literal of the kind `int`
abbrev pub int_of : Expression → Option ℤ
int_of (Literal kind.Int n) = Some n
int_of _ = None

abbrev pub int_expression : ℤ → expr.Expr
int_expression n = expr.roll-Expr (record { kind = kind.Int; form = expr_form.Literal n })

-- the terms of statements at a place

abbrev pub send_of : ℕ → ℕ → Option ℤ → Option term.Term
send_of at channel number =
    option_map (λ n. term_at at (form.Send channel (int_expression n))) number

abbrev pub loop_of : ℕ → Option term.Term → Option term.Term
loop_of at body = option_map (λ b. term_at at (form.Loop b)) body

-- one level of a tree, with the terms of its parts: a form's term at each place, and those of blocks and statements
abbrev pub form_term : Form-F ℕ expr.Expr (ℕ →
    Option term.Term) (Option term.Term) (Option term.Term) → ℕ → Option term.Term
form_term Form-F.Empty at = Some (term_at at form.Nothing)
form_term Form-F.Pause at = Some (term_at at form.Pause)
form_term (Form-F.Emit name_at signal None) at = Some (term_at at (form.Emit signal None))
form_term (Form-F.While body) at = loop_of at body
form_term (Form-F.Send name_at channel value) at = send_of at channel (int_of (expression value))
form_term (Form-F.Receive name_at channel) at = Some (term_at at (form.Receive channel))
form_term _ at = None

abbrev pub block_layer : Block-F ℕ expr.Expr (ℕ →
    Option term.Term) (Option term.Term) (Option term.Term) → Option term.Term
block_layer b = option_map (block_of b.at) (all_some b.statements)

abbrev pub stmt_layer : Stmt-F ℕ expr.Expr (ℕ →
    Option term.Term) (Option term.Term) (Option term.Term) → Option term.Term
stmt_layer s = s.form s.at

abbrev pub block_term : TypedBlock → Option term.Term
block_term =
    fold-Block ℕ expr.Expr (ℕ →
    Option term.Term) (Option term.Term) (Option term.Term) form_term block_layer stmt_layer

abbrev pub stmt_term : TypedStmt → Option term.Term
stmt_term =
    fold-Stmt ℕ expr.Expr (ℕ →
    Option term.Term) (Option term.Term) (Option term.Term) form_term block_layer stmt_layer
