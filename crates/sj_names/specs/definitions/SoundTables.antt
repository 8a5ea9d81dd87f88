-- What is promised of the tables of a tree whose names have no failure, and of what its names stand for.
use Rattle.std.specs.Prelude.{◌≡◌, ℕ, suc, Bool, true, false, ◌&&◌, not, cond, nat_lt, List, [], ◌∷◌, length, Option, Some, None}
use Rattle.std.specs.List.{list_all}
use Rattle.kernel_terms.specs.declared.tables.SignalInfo.{SignalInfo}
use Rattle.kernel_terms.specs.declared.tables.Tables.{Tables}
use Rattle.kernel_terms.specs.TableEntries as entries
use Rattle.kernel_terms.specs.TableEntries.{signal_at, is_interface_of}
use Rattle.kernel_terms.specs.WellFormed.{has_names, is_within_limits, interface_comes_first, is_channel_entry, is_variable_entry, is_local_of, is_variable_of, is_sender_of, is_receiver_of}
use Rattle.sj_ast.specs.declared.name.Name.{Name}
use Rattle.sj_ast.specs.declared.port.Port.{Port}
use Rattle.sj_ast.specs.declared.port.Port.TheVariants as port
use Rattle.sj_names.specs.declared.mention.NameSort.{NameSort}
use Rattle.sj_names.specs.declared.mention.NameSort.TheVariants as sort
use Rattle.sj_names.specs.declared.mention.Role.{Role}
use Rattle.sj_names.specs.declared.mention.Role.TheVariants as role
use Rattle.sj_names.specs.declared.mention.Meaning.{Meaning}
use Rattle.sj_names.specs.declared.mention.Mention.{Mention}
use Rattle.sj_names.specs.definitions.Failures.{is_input, is_channel, is_variable, is_trap}

abbrev pub port_name : Port Name → List ℕ
port_name (port.Signal p) = p.signal.name.text
port_name (port.Channel c) = c.name.text

-- the signal belongs to a domain that there is
abbrev pub has_domain : ℕ → SignalInfo → Bool
has_domain domains s = nat_lt s.domain domains

-- Tables of so many domains: interface signals and channels have distinct names, the limits hold, each entry belongs to
-- domains that there are, those of a channel differ, and interface signals come before local ones.
pub record AreSoundTables (t : Tables) (domains : ℕ) : Type 0 where
  pub names : has_names t ≡ true
  pub limits : is_within_limits t domains ≡ true
  pub signals : list_all (has_domain domains) t.signals ≡ true
  pub order : interface_comes_first t.signals ≡ true
  pub channels : list_all (is_channel_entry domains) t.channels ≡ true
  pub variables : list_all (is_variable_entry domains) t.variables ≡ true

-- an interface signal that belongs to the domain
abbrev pub is_port_of : Tables → ℕ → ℕ → Bool
is_port_of t d n = nat_lt n (length t.signals) && is_interface_of d (signal_at t n)

-- the domain's signal of this number has this sort in the tables too
abbrev pub is_signal_use : Tables → ℕ → NameSort → ℕ → Bool
is_signal_use t d sort.Input n = is_port_of t d n && entries.is_input (signal_at t n).sort
is_signal_use t d sort.Output n = is_port_of t d n && not (entries.is_input (signal_at t n).sort)
is_signal_use t d sort.Local n = is_local_of t d n
is_signal_use t d _ n = false

-- a name of the domain stands for something that it may use in this role
abbrev pub is_sound_use : Tables → ℕ → Role → Meaning → Bool
is_sound_use t d (role.Declare s) m = false
is_sound_use t d role.Emit m = is_signal_use t d m.sort m.number && not (is_input m.sort)
is_sound_use t d role.Test m = is_signal_use t d m.sort m.number
is_sound_use t d role.Send m = is_channel m.sort && is_sender_of t d m.number
is_sound_use t d role.Receive m = is_channel m.sort && is_receiver_of t d m.number
is_sound_use t d role.Status m =
    cond (is_channel m.sort) (is_receiver_of t d m.number) (is_signal_use t d m.sort m.number)
is_sound_use t d role.Exit m = is_trap m.sort
is_sound_use t d role.Variable m = is_variable m.sort && is_variable_of t d m.number

-- a declared name stood for nothing before, and any other one stands for something
abbrev pub is_sound_role : Tables → ℕ → Role → Option Meaning → Bool
is_sound_role t d (role.Declare s) None = true
is_sound_role t d r None = false
is_sound_role t d r (Some m) = is_sound_use t d r m

abbrev pub is_sound : Tables → ℕ → Mention → Bool
is_sound t d m = is_sound_role t d m.role m.meaning

-- all names of the domains, by rising number
abbrev pub are_sound : Tables → ℕ → List (List Mention) → Bool
are_sound t d [] = true
are_sound t d (ms ∷ domains) = list_all (is_sound t d) ms && are_sound t (suc d) domains
