-- The tables of a tree: its signals, channels and variables, each by its number.
use Rattle.std.specs.Prelude.{ℕ, suc, List, [], ◌∷◌, ◌++◌, Option, Some, None}
use Rattle.java_values.specs.declared.kind.Kind.{Kind}
use Rattle.java_values.specs.declared.kind.Kind.TheVariants as kind
use Rattle.kernel_terms.specs.declared.tables.Sort.TheVariants as sort
use Rattle.kernel_terms.specs.declared.tables.Sort.{Sort}
use Rattle.kernel_terms.specs.declared.tables.Combine.{Combine}
use Rattle.kernel_terms.specs.declared.tables.Combine.TheVariants as combine
use Rattle.kernel_terms.specs.declared.tables.SignalInfo.{SignalInfo}
use Rattle.kernel_terms.specs.declared.tables.ChannelInfo.{ChannelInfo}
use Rattle.kernel_terms.specs.declared.tables.VariableInfo.{VariableInfo}
use Rattle.kernel_terms.specs.declared.tables.Tables.{Tables}
use Rattle.sj_ast.specs.declared.name.Name.{Name}
use Rattle.sj_ast.specs.declared.expression.Raw.{Raw}
use Rattle.sj_ast.specs.declared.port.CombineOperator.{CombineOperator}
use Rattle.sj_ast.specs.declared.port.CombineOperator.TheVariants as operator
use Rattle.sj_ast.specs.declared.port.Combination.{Combination}
use Rattle.sj_ast.specs.declared.port.Valued.{Valued}
use Rattle.sj_ast.specs.declared.port.Direction.{Direction}
use Rattle.sj_ast.specs.declared.port.Direction.TheVariants as direction
use Rattle.sj_ast.specs.declared.port.Signal.{Signal}
use Rattle.sj_ast.specs.declared.port.Port.{Port}
use Rattle.sj_ast.specs.declared.port.Port.TheVariants as port
use Rattle.sj_ast.specs.declared.statement.Form.TheOpen.{Form-F, Block-F, Stmt-F}
use Rattle.sj_ast.specs.declared.statement.Form.TheFolds.{fold-Form, fold-Block, fold-Stmt}
use Rattle.sj_ast.specs.declared.statement.Form.{Form}
use Rattle.sj_ast.specs.declared.statement.Block.{Block}
use Rattle.sj_ast.specs.declared.statement.Stmt.{Stmt}
use Rattle.sj_ast.specs.declared.statement.Tree.{Tree}
use Rattle.sj_names.specs.declared.mention.Mention.{Mention}
use Rattle.sj_names.specs.declared.mention.Use.TheVariants as way
use Rattle.sj_names.specs.definitions.Mentions.{names_of_tree}
use Rattle.sj_names.specs.definitions.Failures.{first_domain}

abbrev pub operator_of : CombineOperator → Combine
operator_of operator.Add = combine.Add
operator_of operator.Max = combine.Max
operator_of operator.Min = combine.Min
operator_of operator.And = combine.And
operator_of operator.Or = combine.Or
operator_of operator.Xor = combine.Xor

-- where no `combine` is written, `|` for `boolean`, and else `max`
abbrev pub usual_operator : Kind → Combine
usual_operator kind.Boolean = combine.Or
usual_operator _ = combine.Max

abbrev pub combination_of : Kind → Option Combination → Combine
combination_of k None = usual_operator k
combination_of k (Some c) = operator_of c.operator

abbrev pub kind_of : Option Valued → Option Kind
kind_of None = None
kind_of (Some v) = Some v.kind

-- a pure signal has `Max`
abbrev pub combine_of : Option Valued → Combine
combine_of None = combine.Max
combine_of (Some v) = combination_of v.kind v.combine

abbrev pub sort_of : Direction → Sort
sort_of direction.Input = sort.Input
sort_of direction.Output = sort.Output

abbrev pub signal_info : Sort → ℕ → Signal Name → SignalInfo
signal_info s domain signal =
    record {
      name = signal.name.text;
      domain = domain;
      sort = s;
      kind = kind_of signal.valued;
      combine = combine_of signal.valued;
    }

-- the signals of an interface, from the number n on
abbrev pub port_signals : List (List Mention) → ℕ → List (Port Name) → List SignalInfo
port_signals domains n [] = []
port_signals domains n (port.Signal p ∷ ps) =
    signal_info (sort_of p.direction) (first_domain domains way.PortSignal n) p.signal ∷
    port_signals domains (suc n) ps
port_signals domains n (port.Channel c ∷ ps) = port_signals domains n ps

-- the channels of an interface, from the number n on
abbrev pub port_channels : List (List Mention) → ℕ → List (Port Name) → List ChannelInfo
port_channels domains n [] = []
port_channels domains n (port.Signal p ∷ ps) = port_channels domains n ps
port_channels domains n (port.Channel c ∷ ps) =
    record {
      name = c.name.text;
      kind = c.kind;
      sender = first_domain domains way.SendingEnd n;
      receiver = first_domain domains way.ReceivingEnd n;
    } ∷ port_channels domains (suc n) ps

-- what the statements of a domain declare, in order
pub record Declared : Type 0 where
  pub signals : List SignalInfo
  pub variables : List VariableInfo

abbrev pub nothing : Declared
nothing = record { signals = []; variables = [] }

abbrev pub both : Declared → Declared → Declared
both a b = record { signals = a.signals ++ b.signals; variables = a.variables ++ b.variables }

abbrev pub all : List Declared → Declared
all [] = nothing
all (d ∷ ds) = both d (all ds)

abbrev pub where_given : Option Declared → Declared
where_given None = nothing
where_given (Some d) = d

abbrev pub declared_form_layer : ℕ → Form-F Name (Raw Name) Declared Declared Declared → Declared
declared_form_layer domain (Form-F.Declare signal) =
    record { signals = signal_info sort.Local domain signal ∷ []; variables = [] }
declared_form_layer domain (Form-F.Variable k at name value) =
    record { signals = []; variables = record { domain = domain; kind = k } ∷ [] }
declared_form_layer domain (Form-F.Par first others) = both first (all others)
declared_form_layer domain (Form-F.If cond first other) = both first (where_given other)
declared_form_layer domain (Form-F.Present test first other) = both first (where_given other)
declared_form_layer domain (Form-F.While body) = body
declared_form_layer domain (Form-F.Abort weak immediate test body) = body
declared_form_layer domain (Form-F.Suspend immediate test body) = body
declared_form_layer domain (Form-F.Trap at name body) = body
declared_form_layer domain (Form-F.Every immediate test body) = body
declared_form_layer domain (Form-F.Loop body test) = body
declared_form_layer domain _ = nothing

abbrev pub declared_block_layer : Block-F Name (Raw Name) Declared Declared Declared → Declared
declared_block_layer b = all b.statements

abbrev pub declared_stmt_layer : Stmt-F Name (Raw Name) Declared Declared Declared → Declared
declared_stmt_layer s = s.form

abbrev pub declared_form : ℕ → Form Name (Raw Name) → Declared
declared_form domain =
    fold-Form Name (Raw Name) Declared Declared Declared (declared_form_layer domain)
    declared_block_layer declared_stmt_layer

abbrev pub declared_block : ℕ → Block Name (Raw Name) → Declared
declared_block domain =
    fold-Block Name (Raw Name) Declared Declared Declared (declared_form_layer domain)
    declared_block_layer declared_stmt_layer

abbrev pub declared_stmt : ℕ → Stmt Name (Raw Name) → Declared
declared_stmt domain =
    fold-Stmt Name (Raw Name) Declared Declared Declared (declared_form_layer domain)
    declared_block_layer declared_stmt_layer

abbrev pub declared_other : ℕ → Option (Block Name (Raw Name)) → Declared
declared_other domain None = nothing
declared_other domain (Some b) = declared_block domain b

-- the domains, by rising number
abbrev pub declared_domains : ℕ → List (Block Name (Raw Name)) → Declared
declared_domains domain [] = nothing
declared_domains domain (b ∷ bs) = both (declared_block domain b) (declared_domains (suc domain) bs)

abbrev pub tables_of_tree : Tree Name (Raw Name) → Tables
tables_of_tree tree = record {
  signals =
      port_signals (names_of_tree tree).domains 0 tree.ports ++
      (declared_domains 0 tree.domains).signals;
  channels = port_channels (names_of_tree tree).domains 0 tree.ports;
  variables = (declared_domains 0 tree.domains).variables;
}
