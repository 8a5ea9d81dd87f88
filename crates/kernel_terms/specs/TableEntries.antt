-- The entries of tables by number, and what belongs to one domain.
use Rattle.std.specs.Prelude.{ℕ, suc, ◌==◌, Bool, true, false, ◌&&◌, cond, List, [], ◌∷◌, None, get_or, is_some, unwrap_or}
use Rattle.java_values.specs.declared.kind.Kind.{Kind}
use Rattle.java_values.specs.declared.kind.Kind.TheVariants as kind
use Rattle.kernel_terms.specs.declared.tables.SignalInfo.{SignalInfo}
use Rattle.kernel_terms.specs.declared.tables.ChannelInfo.{ChannelInfo}
use Rattle.kernel_terms.specs.declared.tables.VariableInfo.{VariableInfo}
use Rattle.kernel_terms.specs.declared.tables.Tables.{Tables}
use Rattle.kernel_terms.specs.declared.tables.Sort.{Sort}
use Rattle.kernel_terms.specs.declared.tables.Sort.TheVariants.{Input, Output, Local}
use Rattle.kernel_terms.specs.declared.tables.Combine.TheVariants as combine

-- past the end of a table
abbrev pub no_signal : SignalInfo
no_signal = record { name = []; domain = 0; sort = Local; kind = None; combine = combine.Max }

abbrev pub no_channel : ChannelInfo
no_channel = record { name = []; kind = kind.Int; sender = 0; receiver = 0 }

abbrev pub no_variable : VariableInfo
no_variable = record { domain = 0; kind = kind.Int }

abbrev pub signal_at : Tables → ℕ → SignalInfo
signal_at t s = get_or t.signals s no_signal

abbrev pub channel_at : Tables → ℕ → ChannelInfo
channel_at t c = get_or t.channels c no_channel

abbrev pub variable_at : Tables → ℕ → VariableInfo
variable_at t x = get_or t.variables x no_variable

abbrev pub is_input : Sort → Bool
is_input Input = true
is_input Output = false
is_input Local = false

abbrev pub is_local : Sort → Bool
is_local Input = false
is_local Output = false
is_local Local = true

-- the kind of a signal's value: a pure signal's is 0
abbrev pub value_kind : SignalInfo → Kind
value_kind info = unwrap_or info.kind kind.Boolean

-- the numbers, from n on, of the entries of which this holds
abbrev pub numbers_where : {X : Type 0} → (X → Bool) → ℕ → List X → List ℕ
numbers_where is n [] = []
numbers_where is n (x ∷ xs) =
    cond (is x) (n ∷ numbers_where is (suc n) xs) (numbers_where is (suc n) xs)

abbrev pub is_interface_of : ℕ → SignalInfo → Bool
is_interface_of d info = (info.domain == d) && cond (is_local info.sort) false true

-- the interface signals of a domain, in order of declaration
abbrev pub interface_of : Tables → ℕ → List ℕ
interface_of t d = numbers_where (is_interface_of d) 0 t.signals

-- those of them that have a value
abbrev pub is_valued_of : ℕ → SignalInfo → Bool
is_valued_of d info = is_interface_of d info && is_some info.kind

abbrev pub valued_of : Tables → ℕ → List ℕ
valued_of t d = numbers_where (is_valued_of d) 0 t.signals

-- the variables of a domain
abbrev pub variables_of : Tables → ℕ → List ℕ
variables_of t d = numbers_where (λ (x : VariableInfo). x.domain == d) 0 t.variables

-- the channels on which a domain receives
abbrev pub received_by : Tables → ℕ → List ℕ
received_by t d = numbers_where (λ (c : ChannelInfo). c.receiver == d) 0 t.channels
