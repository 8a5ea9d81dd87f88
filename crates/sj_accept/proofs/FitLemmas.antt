-- Where a statement with kinds fits, one layer at a time.
use Rattle.std.proofs.Common.{◌≡◌, ℕ, Bool, true, ◌&&◌, List, map, ap, sym, ◌∙◌}
use Rattle.std.specs.Prelude.{None}
use Rattle.kernel_terms.specs.declared.expr.Expr.{Expr}
use Rattle.kernel_terms.specs.declared.tables.Tables.{Tables}
use Rattle.kernel_terms.specs.TableEntries.{signal_at, channel_at}
use Rattle.kernel_terms.specs.WellFormed.{can_emit, is_sender_of, is_receiver_of}
use Rattle.sj_ast.specs.declared.statement.Form as form
use Rattle.sj_ast.specs.declared.statement.Block as block
use Rattle.sj_ast.specs.declared.statement.Form.TheOpen.{Form-F}
use Rattle.sj_ast.specs.declared.statement.Form.TheFolds.{fold-roll-Form, fold_out-Block, fold_out-Stmt}
use Rattle.sj_ast.specs.declared.statement.Form.TheVariants.{rolls-Empty, rolls-Pause, rolls-Emit, rolls-While, rolls-Send, rolls-Receive}
use Rattle.sj_names.specs.definitions.FittingTrees.{Around, term_scope, Fitted, FittingPart, ValueRules, alone, stmts_fit, fits_form_layer, fits_block_layer, fits_stmt_layer, fits_form, fits_block, fits_stmt}
use Rattle.java_types.specs.definitions.TypedTrees.{TypedForm, TypedStmt, TypedBlock}

module _ (t : Tables) (rules : ValueRules Expr) (s : TypedStmt) (a : Around) where
  layer : (y : Form-F ℕ Expr TypedForm TypedBlock TypedStmt) → s.form ≡ form.roll-Form ℕ Expr y
      → fits_stmt t rules s a ≡ fits_form_layer t rules (form.map-Form ℕ Expr TypedForm TypedBlock TypedStmt FittingPart FittingPart FittingPart (fits_form t rules) (fits_block t rules) (fits_stmt t rules) y) a
  layer y h =
      ap (λ (p : FittingPart). p a)
      (fold_out-Stmt ℕ Expr FittingPart FittingPart FittingPart (fits_form_layer t rules) (fits_block_layer t rules) (fits_stmt_layer t rules) s
      ∙ ap (fits_form t rules) h
      ∙ fold-roll-Form ℕ Expr FittingPart FittingPart FittingPart (fits_form_layer t rules) (fits_block_layer t rules) (fits_stmt_layer t rules) y)

  pub fits-Empty : s.form ≡ form.Empty → fits_stmt t rules s a ≡ alone true a
  fits-Empty h = layer Form-F.Empty (h ∙ sym rolls-Empty)

  pub fits-Pause : s.form ≡ form.Pause → fits_stmt t rules s a ≡ alone true a
  fits-Pause h = layer Form-F.Pause (h ∙ sym rolls-Pause)

  pub fits-Emit : (at n : ℕ) → s.form ≡ form.Emit at n None → fits_stmt t rules s a ≡ alone (can_emit t (term_scope a) n && rules.emitted (term_scope a) (signal_at t n).kind None) a
  fits-Emit at n h = layer (Form-F.Emit at n None) (h ∙ sym (rolls-Emit at n None))

  pub fits-Send : (at c : ℕ) (e : Expr) → s.form ≡ form.Send at c e → fits_stmt t rules s a ≡ alone (is_sender_of t a.domain c && rules.given (term_scope a) (channel_at t c).kind e) a
  fits-Send at c e h = layer (Form-F.Send at c e) (h ∙ sym (rolls-Send at c e))

  pub fits-Receive : (at c : ℕ) → s.form ≡ form.Receive at c → fits_stmt t rules s a ≡ alone (is_receiver_of t a.domain c) a
  fits-Receive at c h = layer (Form-F.Receive at c) (h ∙ sym (rolls-Receive at c))

  pub fits-While : (b : TypedBlock) → s.form ≡ form.While b → fits_stmt t rules s a ≡ alone (fits_block t rules b a).fits a
  fits-While b h = layer (Form-F.While b) (h ∙ sym (rolls-While b))

pub fits-Block : (t : Tables) (rules : ValueRules Expr) (b : TypedBlock) (a : Around)
    → fits_block t rules b a ≡ alone (stmts_fit (map (fits_stmt t rules) (block.out-Block ℕ Expr b).statements) a) a
fits-Block t rules b a = ap (λ (p : FittingPart). p a) (fold_out-Block ℕ Expr FittingPart FittingPart FittingPart (fits_form_layer t rules) (fits_block_layer t rules) (fits_stmt_layer t rules) b)
