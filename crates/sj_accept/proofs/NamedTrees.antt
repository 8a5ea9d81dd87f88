-- The names of a tree, one statement at a time.
use Rattle.std.proofs.Common.{◌≡◌, ℕ, List, [], ◌∷◌, ◌++◌, map, None, refl, sym, ap, ◌∙◌}
use Rattle.java_values.specs.declared.value.Value.{Value}
use Rattle.sj_ast.specs.declared.name.Name.{Name}
use Rattle.sj_ast.specs.declared.expression.Raw as raw
use Rattle.sj_ast.specs.declared.expression.Raw.{Raw}
use Rattle.sj_ast.specs.declared.expression.Raw.TheOpen.{Raw-F}
use Rattle.sj_ast.specs.declared.expression.Raw.TheFolds.{fold-roll-Raw}
use Rattle.sj_ast.specs.declared.expression.Raw.TheVariants.{rolls-Literal}
use Rattle.sj_ast.specs.declared.statement.Form as form
use Rattle.sj_ast.specs.declared.statement.Stmt as stmt
use Rattle.sj_ast.specs.declared.statement.Block as block
use Rattle.sj_ast.specs.declared.statement.Form.TheOpen.{Form-F}
use Rattle.sj_ast.specs.declared.statement.Form.TheFolds.{fold-Form, fold-roll-Form, fold-roll-Block, fold_out-Stmt}
use Rattle.sj_ast.specs.declared.statement.Form.TheVariants.{rolls-Pause, rolls-Halt, rolls-Emit, rolls-While, rolls-Send, rolls-Receive}
use Rattle.sj_grammar.specs.definitions.Trees.{SourceForm, SourceStmt, SourceBlock}
use Rattle.sj_names.specs.declared.mention.Mention.{Mention}
use Rattle.sj_names.specs.declared.mention.Role.TheVariants as role
use Rattle.sj_names.specs.declared.failure.Failure.{Failure}
use Rattle.sj_names.specs.definitions.Scopes.{Scope}
use Rattle.sj_names.specs.definitions.Mentions.{NamedPart, silent, then, in_order, closed, mentioned, raw_layer, expression_mentions, form_layer, block_layer, stmt_layer, block_part, stmt_part, block_place, domain_mentions, interface_names, names_of_tree}
use Rattle.kernel_terms.specs.declared.tables.Tables.{Tables}
use Rattle.sj_names.specs.definitions.DeclaredTables.{Declared, nothing, port_signals, port_channels, declared_domains, tables_of_tree}
use Rattle.sj_names.specs.definitions.Failures.{failures_of}
use Rattle.sj_grammar.specs.definitions.SourceTrees.{SourceTree}

-- trees

abbrev stmt_at : ℕ → SourceForm → SourceStmt
stmt_at at f = stmt.roll-Stmt Name (Raw Name) (record { at = at; form = f })

abbrev block_at : ℕ → List SourceStmt → SourceBlock
block_at at ss = block.roll-Block Name (Raw Name) (record { at = at; statements = ss })

-- the statements tell these parts, and the blocks
pub record Tell (ss : List SourceStmt) (parts : List NamedPart) : Type 0 where
  is : map stmt_part ss ≡ parts

pub record BlocksTell (bs : List SourceBlock) (parts : List NamedPart) : Type 0 where
  is : map block_part bs ≡ parts

-- one statement

form_part : SourceForm → NamedPart
form_part = fold-Form Name (Raw Name) NamedPart NamedPart NamedPart form_layer block_layer stmt_layer

tells_at : (at : ℕ) (f : SourceForm) (part : NamedPart) → form_part f ≡ part → stmt_part (stmt_at at f) ≡ part
unfolding form_part
tells_at at f part h = fold_out-Stmt Name (Raw Name) NamedPart NamedPart NamedPart form_layer block_layer stmt_layer (stmt_at at f) ∙ h

pub tell_none : Tell [] []
tell_none = record { is = refl }

more : (s : SourceStmt) (ss : List SourceStmt) (part : NamedPart) (parts : List NamedPart) → stmt_part s ≡ part → Tell ss parts → Tell (s ∷ ss) (part ∷ parts)
more s ss part parts h t = record { is = ap (λ p. p ∷ map stmt_part ss) h ∙ ap (λ l. part ∷ l) t.is }

pub pause_tells : (at : ℕ) (ss : List SourceStmt) (parts : List NamedPart) → Tell ss parts → Tell (stmt_at at form.Pause ∷ ss) (silent ∷ parts)
unfolding form_part
pause_tells at ss parts t =
    more (stmt_at at form.Pause) ss silent parts (tells_at at form.Pause silent (ap form_part (sym rolls-Pause) ∙ fold-roll-Form Name (Raw Name) NamedPart NamedPart NamedPart form_layer block_layer stmt_layer Form-F.Pause)) t

pub halt_tells : (at : ℕ) (ss : List SourceStmt) (parts : List NamedPart) → Tell ss parts → Tell (stmt_at at form.Halt ∷ ss) (silent ∷ parts)
unfolding form_part
halt_tells at ss parts t =
    more (stmt_at at form.Halt) ss silent parts (tells_at at form.Halt silent (ap form_part (sym rolls-Halt) ∙ fold-roll-Form Name (Raw Name) NamedPart NamedPart NamedPart form_layer block_layer stmt_layer Form-F.Halt)) t

abbrev pub emission : Name → NamedPart
emission name = then (mentioned role.Emit name) silent

pub emit_tells : (at name_at : ℕ) (name : Name) (ss : List SourceStmt) (parts : List NamedPart) → Tell ss parts → Tell (stmt_at at (form.Emit name_at name None) ∷ ss) (emission name ∷ parts)
unfolding form_part
emit_tells at name_at name ss parts t =
    more (stmt_at at (form.Emit name_at name None)) ss (emission name) parts
    (tells_at at (form.Emit name_at name None) (emission name)
    (ap form_part (sym (rolls-Emit name_at name None)) ∙ fold-roll-Form Name (Raw Name) NamedPart NamedPart NamedPart form_layer block_layer stmt_layer (Form-F.Emit name_at name None))) t

pub receive_tells : (at name_at : ℕ) (name : Name) (ss : List SourceStmt) (parts : List NamedPart) → Tell ss parts → Tell (stmt_at at (form.Receive name_at name) ∷ ss) (mentioned role.Receive name ∷ parts)
unfolding form_part
receive_tells at name_at name ss parts t =
    more (stmt_at at (form.Receive name_at name)) ss (mentioned role.Receive name) parts
    (tells_at at (form.Receive name_at name) (mentioned role.Receive name)
    (ap form_part (sym (rolls-Receive name_at name)) ∙ fold-roll-Form Name (Raw Name) NamedPart NamedPart NamedPart form_layer block_layer stmt_layer (Form-F.Receive name_at name))) t

-- of the value of a literal

no_names_in : (at : ℕ) (v : Value) → expression_mentions (raw.Literal at v) ≡ (λ scope. [])
no_names_in at v = ap expression_mentions (sym (rolls-Literal at v)) ∙ fold-roll-Raw Name (Scope → List Mention) raw_layer (Raw-F.Literal at v)

abbrev pub sending : Name → NamedPart
sending name = then (mentioned role.Send name) silent

pub send_tells : (at name_at : ℕ) (name : Name) (value_at : ℕ) (v : Value) (ss : List SourceStmt) (parts : List NamedPart) → Tell ss parts → Tell (stmt_at at (form.Send name_at name (raw.Literal value_at v)) ∷ ss) (sending name ∷ parts)
unfolding form_part
send_tells at name_at name value_at v ss parts t =
    more (stmt_at at (form.Send name_at name (raw.Literal value_at v))) ss (sending name) parts
    (tells_at at (form.Send name_at name (raw.Literal value_at v)) (sending name)
    (ap form_part (sym (rolls-Send name_at name (raw.Literal value_at v)))
    ∙ fold-roll-Form Name (Raw Name) NamedPart NamedPart NamedPart form_layer block_layer stmt_layer (Form-F.Send name_at name (raw.Literal value_at v))
    ∙ ap (λ (ms : Scope → List Mention). then (mentioned role.Send name) (λ scope. record { scope = scope; mentions = ms scope })) (no_names_in value_at v))) t

-- one block

block_tells : (at : ℕ) (ss : List SourceStmt) (parts : List NamedPart) → Tell ss parts → block_part (block_at at ss) ≡ closed (in_order parts)
block_tells at ss parts t = fold-roll-Block Name (Raw Name) NamedPart NamedPart NamedPart form_layer block_layer stmt_layer (record { at = at; statements = ss }) ∙ ap (λ l. closed (in_order l)) t.is

pub while_tells : (at body_at : ℕ) (bs : List SourceStmt) (body : List NamedPart) (ss : List SourceStmt) (parts : List NamedPart) → Tell bs body → Tell ss parts → Tell (stmt_at at (form.While (block_at body_at bs)) ∷ ss) (closed (in_order body) ∷ parts)
unfolding form_part
while_tells at body_at bs body ss parts b t =
    more (stmt_at at (form.While (block_at body_at bs))) ss (closed (in_order body)) parts
    (tells_at at (form.While (block_at body_at bs)) (closed (in_order body))
    (ap form_part (sym (rolls-While (block_at body_at bs))) ∙ fold-roll-Form Name (Raw Name) NamedPart NamedPart NamedPart form_layer block_layer stmt_layer (Form-F.While (block_at body_at bs)) ∙ block_tells body_at bs body b)) t

pub no_block_tells : BlocksTell [] []
no_block_tells = record { is = refl }

pub block_then_tells : (at : ℕ) (ss : List SourceStmt) (parts : List NamedPart) (bs : List SourceBlock) (others : List NamedPart) → Tell ss parts → BlocksTell bs others → BlocksTell (block_at at ss ∷ bs) (closed (in_order parts) ∷ others)
block_then_tells at ss parts bs others t b = record { is = ap (λ p. p ∷ map block_part bs) (block_tells at ss parts t) ∙ ap (λ l. closed (in_order parts) ∷ l) b.is }

-- the tree

abbrev pub part_mentions : Scope → List NamedPart → List (List Mention)
part_mentions scope [] = []
part_mentions scope (part ∷ parts) = (part scope).mentions ∷ part_mentions (part scope).scope parts

mentions_of_parts : (scope : Scope) (bs : List SourceBlock) → domain_mentions scope bs ≡ part_mentions scope (map block_part bs)
mentions_of_parts scope [] = refl
mentions_of_parts scope (b ∷ bs) = ap (λ l. (block_part b scope).mentions ∷ l) (mentions_of_parts (block_part b scope).scope bs)

-- the failures of names whose blocks tell these parts
abbrev pub failures_with : SourceTree → List NamedPart → List Failure
failures_with tree parts = failures_of (record { ports = (interface_names tree).mentions; domains = part_mentions (interface_names tree).scope parts; places = map block_place tree.domains })

pub tree_tells : (tree : SourceTree) (parts : List NamedPart) → BlocksTell tree.domains parts → failures_of (names_of_tree tree) ≡ failures_with tree parts
tree_tells tree parts b =
    ap (λ (ds : List (List Mention)). failures_of (record { ports = (interface_names tree).mentions; domains = ds; places = map block_place tree.domains }))
    (mentions_of_parts (interface_names tree).scope tree.domains ∙ ap (part_mentions (interface_names tree).scope) b.is)

-- the tables of a tree whose blocks tell these parts and declare nothing
abbrev pub tables_with : SourceTree → List NamedPart → Tables
tables_with tree parts = record {
  signals = port_signals (part_mentions (interface_names tree).scope parts) 0 tree.ports ++ [];
  channels = port_channels (part_mentions (interface_names tree).scope parts) 0 tree.ports;
  variables = [];
}

pub tables_told : (tree : SourceTree) (parts : List NamedPart) → BlocksTell tree.domains parts → declared_domains 0 tree.domains ≡ nothing → tables_of_tree tree ≡ tables_with tree parts
tables_told tree parts b d =
    ap (λ (x : Declared). let t : Tables = record { signals = port_signals (names_of_tree tree).domains 0 tree.ports ++ x.signals; channels = port_channels (names_of_tree tree).domains 0 tree.ports; variables = x.variables } in t) d
    ∙ ap (λ (ds : List (List Mention)). let t : Tables = record { signals = port_signals ds 0 tree.ports ++ []; channels = port_channels ds 0 tree.ports; variables = [] } in t)
    (mentions_of_parts (interface_names tree).scope tree.domains ∙ ap (part_mentions (interface_names tree).scope) b.is)
