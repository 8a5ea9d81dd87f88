-- How deep the traps of a tree nest.
use Rattle.std.specs.Prelude.{ℕ, suc, max, nat_le, Bool, List, [], ◌∷◌, Option, Some, None}
use Rattle.std.specs.List.{list_all}
use Rattle.sj_ast.specs.declared.statement.Form.{Form}
use Rattle.sj_ast.specs.declared.statement.Form.TheOpen.{Form-F, Block-F, Stmt-F}
use Rattle.sj_ast.specs.declared.statement.Form.TheFolds.{fold-Form, fold-Block, fold-Stmt}
use Rattle.sj_ast.specs.declared.statement.Block.{Block}
use Rattle.sj_ast.specs.declared.statement.Stmt.{Stmt}
use Rattle.sj_ast.specs.declared.statement.Tree.{Tree}

abbrev pub deepest : List ℕ → ℕ
deepest [] = 0
deepest (n ∷ ns) = max n (deepest ns)

abbrev pub depth_where_given : Option ℕ → ℕ
depth_where_given None = 0
depth_where_given (Some n) = n

-- The trap depth of a part is the greatest number of its traps around one statement in it.
module _ {N E : Type 0} where
  abbrev pub form_depth_layer : Form-F N E ℕ ℕ ℕ → ℕ
  form_depth_layer (Form-F.Trap at name body) = suc body
  form_depth_layer (Form-F.Par first others) = max first (deepest others)
  form_depth_layer (Form-F.If cond first other) = max first (depth_where_given other)
  form_depth_layer (Form-F.Present test first other) = max first (depth_where_given other)
  form_depth_layer (Form-F.While body) = body
  form_depth_layer (Form-F.Abort weak immediate test body) = body
  form_depth_layer (Form-F.Suspend immediate test body) = body
  form_depth_layer (Form-F.Every immediate test body) = body
  form_depth_layer (Form-F.Loop body test) = body
  form_depth_layer _ = 0

  abbrev pub block_depth_layer : Block-F N E ℕ ℕ ℕ → ℕ
  block_depth_layer b = deepest b.statements

  abbrev pub stmt_depth_layer : Stmt-F N E ℕ ℕ ℕ → ℕ
  stmt_depth_layer s = s.form

  abbrev pub form_trap_depth : Form N E → ℕ
  form_trap_depth = fold-Form N E ℕ ℕ ℕ form_depth_layer block_depth_layer stmt_depth_layer

  abbrev pub block_trap_depth : Block N E → ℕ
  block_trap_depth = fold-Block N E ℕ ℕ ℕ form_depth_layer block_depth_layer stmt_depth_layer

  abbrev pub stmt_trap_depth : Stmt N E → ℕ
  stmt_trap_depth = fold-Stmt N E ℕ ℕ ℕ form_depth_layer block_depth_layer stmt_depth_layer

  -- the traps of the tree nest at most so deep
  abbrev pub traps_nest : ℕ → Tree N E → Bool
  traps_nest most tree = list_all (λ b. nat_le (block_trap_depth b) most) tree.domains
