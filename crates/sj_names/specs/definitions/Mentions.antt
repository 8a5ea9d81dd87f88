-- The names of a tree in source order, and what each stands for.
use Rattle.std.specs.Prelude.{ℕ, List, [], ◌∷◌, ◌++◌, length, map, Option, Some, None}
use Rattle.sj_ast.specs.declared.name.Name.{Name}
use Rattle.sj_ast.specs.declared.expression.Raw.{Raw}
use Rattle.sj_ast.specs.declared.expression.Raw.TheOpen.{Raw-F}
use Rattle.sj_ast.specs.declared.expression.Raw.TheFolds.{fold-Raw}
use Rattle.sj_ast.specs.declared.test.Test.{Test}
use Rattle.sj_ast.specs.declared.test.Test.TheOpen.{Test-F}
use Rattle.sj_ast.specs.declared.test.Test.TheFolds.{fold-Test}
use Rattle.sj_ast.specs.declared.statement.Form.TheOpen.{Form-F, Block-F, Stmt-F}
use Rattle.sj_ast.specs.declared.statement.Form.TheFolds.{fold-Block, fold-Stmt}
use Rattle.sj_ast.specs.declared.statement.Block.{Block}
use Rattle.sj_ast.specs.declared.statement.Block as block
use Rattle.sj_ast.specs.declared.statement.Stmt.{Stmt}
use Rattle.sj_ast.specs.declared.statement.Tree.{Tree}
use Rattle.sj_ast.specs.declared.port.Direction.{Direction}
use Rattle.sj_ast.specs.declared.port.Direction.TheVariants as direction
use Rattle.sj_ast.specs.declared.port.Port.{Port}
use Rattle.sj_ast.specs.declared.port.Port.TheVariants as port
use Rattle.sj_names.specs.declared.mention.NameSort.{NameSort}
use Rattle.sj_names.specs.declared.mention.NameSort.TheVariants as sort
use Rattle.sj_names.specs.declared.mention.Role.{Role}
use Rattle.sj_names.specs.declared.mention.Role.TheVariants as role
use Rattle.sj_names.specs.declared.mention.Mention.{Mention}
use Rattle.sj_names.specs.definitions.Scopes.{Scope, no_names, meaning_in, declare, closed_at}

-- the scope behind a part of the source, and the names that stand in it
pub record Told : Type 0 where
  pub scope : Scope
  pub mentions : List Mention

-- what a part tells, by the scope before it
abbrev pub NamedPart : Type 0
NamedPart = Scope → Told

abbrev pub mention : Role → Name → Scope → Mention
mention r name scope =
    record { at = name.at; role = r; meaning = meaning_in scope.visible name.text }

-- no name
abbrev pub silent : NamedPart
silent scope = record { scope = scope; mentions = [] }

-- names in an unchanged scope
abbrev pub told : (Scope → List Mention) → NamedPart
told mentions scope = record { scope = scope; mentions = mentions scope }

-- what a part tells behind another
abbrev pub behind : Told → NamedPart → Told
behind t part =
    record { scope = (part t.scope).scope; mentions = t.mentions ++ (part t.scope).mentions }

abbrev pub then : NamedPart → NamedPart → NamedPart
then first second scope = behind (first scope) second

abbrev pub in_order : List NamedPart → NamedPart
in_order [] = silent
in_order (part ∷ parts) = then part (in_order parts)

abbrev pub where_given : Option NamedPart → NamedPart
where_given None = silent
where_given (Some part) = part

-- what is declared in a part is visible up to its end
abbrev pub closed : NamedPart → NamedPart
closed part scope =
    record {
      scope = closed_at (length scope.visible) (part scope).scope;
      mentions = (part scope).mentions;
    }

abbrev pub mentioned : Role → Name → NamedPart
mentioned r name = told (λ scope. mention r name scope ∷ [])

abbrev pub declared : NameSort → Name → NamedPart
declared s name scope =
    record {
      scope = declare s name.text scope;
      mentions = mention (role.Declare s) name scope ∷ [];
    }

-- the names of an expression
abbrev pub raw_layer : Raw-F Name (Scope → List Mention) → Scope → List Mention
raw_layer (Raw-F.Literal at v) scope = []
raw_layer (Raw-F.Least at v) scope = []
raw_layer (Raw-F.Variable at name) scope = mention role.Variable name scope ∷ []
raw_layer (Raw-F.Status at name_at name) scope = mention role.Status name scope ∷ []
raw_layer (Raw-F.Unary at op e) scope = e scope
raw_layer (Raw-F.Cast at kind e) scope = e scope
raw_layer (Raw-F.Group at e) scope = e scope
raw_layer (Raw-F.Binary at op l r) scope = l scope ++ r scope

abbrev pub expression_mentions : Raw Name → Scope → List Mention
expression_mentions = fold-Raw Name (Scope → List Mention) (raw_layer)

-- the names of a test
abbrev pub test_layer : Test-F Name (Scope → List Mention) → Scope → List Mention
test_layer (Test-F.Signal at name) scope = mention role.Test name scope ∷ []
test_layer (Test-F.Not at t) scope = t scope
test_layer (Test-F.Group at t) scope = t scope
test_layer (Test-F.Both at l r) scope = l scope ++ r scope
test_layer (Test-F.Either at l r) scope = l scope ++ r scope

abbrev pub test_mentions : Test Name → Scope → List Mention
test_mentions = fold-Test Name (Scope → List Mention) (test_layer)

abbrev pub read : Raw Name → NamedPart
read e = told (expression_mentions e)

abbrev pub read_where_given : Option (Raw Name) → NamedPart
read_where_given None = silent
read_where_given (Some e) = read e

abbrev pub tested : Test Name → NamedPart
tested t = told (test_mentions t)

-- a variable is visible behind its first value
abbrev pub new_variable : Name → Raw Name → NamedPart
new_variable name value scope = record {
  scope = declare sort.Variable name.text scope;
  mentions = mention (role.Declare sort.Variable) name scope ∷ expression_mentions value scope;
}

abbrev pub form_layer : Form-F Name (Raw Name) NamedPart NamedPart NamedPart → NamedPart
form_layer Form-F.Empty = silent
form_layer (Form-F.Par first others) = then first (in_order others)
form_layer Form-F.Pause = silent
form_layer Form-F.Halt = silent
form_layer (Form-F.Emit name_at name value) =
    then (mentioned role.Emit name) (read_where_given value)
form_layer (Form-F.Sustain name_at name value) =
    then (mentioned role.Emit name) (read_where_given value)
form_layer (Form-F.Declare signal) = declared sort.Local signal.name
form_layer (Form-F.Variable kind name_at name value) = new_variable name value
form_layer (Form-F.Assign name_at name value) = then (mentioned role.Variable name) (read value)
form_layer (Form-F.Update name_at name sign_at op value) =
    then (mentioned role.Variable name) (read value)
form_layer (Form-F.If cond first other) = then (read cond) (then first (where_given other))
form_layer (Form-F.Present test first other) = then (tested test) (then first (where_given other))
form_layer (Form-F.While body) = body
form_layer (Form-F.Abort weak immediate test body) = then (tested test) body
form_layer (Form-F.Suspend immediate test body) = then (tested test) body
form_layer (Form-F.Trap name_at name body) = closed (then (declared sort.Trap name) body)
form_layer (Form-F.Exit name_at name) = mentioned role.Exit name
form_layer (Form-F.Send name_at name value) = then (mentioned role.Send name) (read value)
form_layer (Form-F.Receive name_at name) = mentioned role.Receive name
form_layer (Form-F.Await immediate test) = tested test
form_layer (Form-F.Every immediate test body) = then (tested test) body
form_layer (Form-F.Loop body test) = then body (tested test)

abbrev pub block_layer : Block-F Name (Raw Name) NamedPart NamedPart NamedPart → NamedPart
block_layer b = closed (in_order b.statements)

abbrev pub stmt_layer : Stmt-F Name (Raw Name) NamedPart NamedPart NamedPart → NamedPart
stmt_layer s = s.form

abbrev pub block_part : Block Name (Raw Name) → NamedPart
block_part =
    fold-Block Name (Raw Name) NamedPart NamedPart NamedPart form_layer block_layer stmt_layer

abbrev pub stmt_part : Stmt Name (Raw Name) → NamedPart
stmt_part =
    fold-Stmt Name (Raw Name) NamedPart NamedPart NamedPart form_layer block_layer stmt_layer

-- a block that may be given
abbrev pub other_part : Option (Block Name (Raw Name)) → NamedPart
other_part None = silent
other_part (Some b) = block_part b

abbrev pub signal_sort : Direction → NameSort
signal_sort direction.Input = sort.Input
signal_sort direction.Output = sort.Output

abbrev pub port_part : Port Name → NamedPart
port_part (port.Signal p) = declared (signal_sort p.direction) p.signal.name
port_part (port.Channel c) = declared sort.Channel c.name

-- the names of each domain, by rising number, in the scope before them
abbrev pub domain_mentions : Scope → List (Block Name (Raw Name)) → List (List Mention)
domain_mentions scope [] = []
domain_mentions scope (b ∷ bs) =
    (block_part b scope).mentions ∷ domain_mentions (block_part b scope).scope bs

-- the names of the interface and those of each domain, and where the `{` of each domain stands
pub record TreeMentions : Type 0 where
  pub ports : List Mention
  pub domains : List (List Mention)
  pub places : List ℕ

abbrev pub block_place : Block Name (Raw Name) → ℕ
block_place b = (block.out-Block Name (Raw Name) b).at

abbrev pub interface_names : Tree Name (Raw Name) → Told
interface_names tree = in_order (map port_part tree.ports) no_names

abbrev pub names_of_tree : Tree Name (Raw Name) → TreeMentions
names_of_tree tree = record {
  ports = (interface_names tree).mentions;
  domains = domain_mentions (interface_names tree).scope tree.domains;
  places = map block_place tree.domains;
}
