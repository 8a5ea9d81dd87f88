-- A small interface, and names and their first failure.
use Rattle.std.specs.Prelude.{ℕ, List, Option, Some, None}
use Rattle.java_values.specs.declared.kind.Kind.TheVariants.{Int}
use Rattle.kernel_terms.specs.declared.tables.Sort as tables_sort
use Rattle.kernel_terms.specs.declared.tables.Combine.TheVariants.{Max}
use Rattle.kernel_terms.specs.declared.tables.SignalInfo.{SignalInfo}
use Rattle.kernel_terms.specs.declared.tables.ChannelInfo.{ChannelInfo}
use Rattle.sj_ast.specs.declared.name.Name.{Name}
use Rattle.sj_ast.specs.declared.expression.Raw as raw
use Rattle.sj_ast.specs.declared.port.Direction.{Direction}
use Rattle.sj_ast.specs.declared.port.Port as port
use Rattle.sj_ast.specs.declared.port.Port.TheVariants as port_is
use Rattle.sj_ast.specs.declared.statement.Stmt as stmt
use Rattle.sj_ast.specs.declared.statement.Block as block
use Rattle.sj_names.specs.declared.mention.NameSort.{NameSort}
use Rattle.sj_names.specs.declared.mention.NameSort.TheVariants as sort
use Rattle.sj_names.specs.declared.mention.Role.{Role}
use Rattle.sj_names.specs.declared.mention.Role.TheVariants as role
use Rattle.sj_names.specs.declared.mention.Mention.{Mention}
use Rattle.sj_names.specs.declared.failure.Failure.{Failure}
use Rattle.sj_names.specs.definitions.Mentions.{TreeMentions, names_of_tree}
use Rattle.sj_names.specs.definitions.Failures.{least_of, failures_of}

abbrev pub Statement : Type 0
Statement = stmt.Stmt Name (raw.Raw Name)

abbrev pub Braces : Type 0
Braces = block.Block Name (raw.Raw Name)

abbrev pub name_at : List ℕ → ℕ → Name
name_at text at = record { text = text; at = at }

abbrev pub port_at : Direction → List ℕ → ℕ → port.Port Name
port_at d text at =
    port_is.Signal (record {
      direction = d;
      signal = record { at = at; name = name_at text at; valued = None };
    })

abbrev pub channel_at : List ℕ → ℕ → port.Port Name
channel_at text at = port_is.Channel (record { kind = Int; at = at; name = name_at text at })

-- the names of a tree
abbrev pub names_of : List (port.Port Name) → List Braces → TreeMentions
names_of ports domains = names_of_tree (record { ports = ports; domains = domains })

abbrev pub names : List Mention → List (List Mention) → List ℕ → TreeMentions
names ports domains places = record { ports = ports; domains = domains; places = places }

-- a name at a place, in a role, that stands for nothing, or for a name of this sort and number
abbrev pub unknown : ℕ → Role → Mention
unknown at r = record { at = at; role = r; meaning = None }

abbrev pub known : ℕ → Role → NameSort → ℕ → Mention
known at r s n = record { at = at; role = r; meaning = Some (record { sort = s; number = n }) }

abbrev pub input : ℕ → Mention
input at = unknown at (role.Declare sort.Input)

abbrev pub output : ℕ → Mention
output at = unknown at (role.Declare sort.Output)

abbrev pub channel : ℕ → Mention
channel at = unknown at (role.Declare sort.Channel)

-- of the output of this number
abbrev pub emits : ℕ → ℕ → Mention
emits at = known at role.Emit sort.Output

-- on the channel of this number, and its `#`
abbrev pub sends : ℕ → ℕ → Mention
sends at = known at role.Send sort.Channel

abbrev pub receives : ℕ → ℕ → Mention
receives at = known at role.Receive sort.Channel

abbrev pub looks_at : ℕ → ℕ → Mention
looks_at at = known at role.Status sort.Channel

-- the first failure of names, in domains whose `{` stand at these places
abbrev pub first_failure_of : List Mention → List (List Mention) → List ℕ → Option Failure
first_failure_of ports domains places = least_of None (failures_of (names ports domains places))

-- entries of tables
abbrev pub pure_signal : List ℕ → ℕ → tables_sort.Sort → SignalInfo
pure_signal text domain s =
    record { name = text; domain = domain; sort = s; kind = None; combine = Max }

abbrev pub int_channel : List ℕ → ℕ → ℕ → ChannelInfo
int_channel text sender receiver =
    record { name = text; kind = Int; sender = sender; receiver = receiver }
