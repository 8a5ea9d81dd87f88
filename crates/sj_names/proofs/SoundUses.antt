-- A name without a failure may be used in its role.
use Rattle.std.proofs.Common.{◌≡◌, ℕ, ◌==◌, Bool, true, false, ◌&&◌, ◌||◌, not, cond, nat_lt, List, [], ◌∷◌, length, Some, None, ap, refl, ◌∙◌}
use Rattle.std.specs.Prelude.{Option, unwrap_or}
use Rattle.kernel_terms.specs.declared.tables.Tables.{Tables}
use Rattle.kernel_terms.specs.declared.tables.Sort as table
use Rattle.kernel_terms.specs.declared.tables.Sort.TheVariants as table_sort
use Rattle.kernel_terms.specs.TableEntries as entries
use Rattle.kernel_terms.specs.TableEntries.{signal_at, channel_at, is_local, is_interface_of}
use Rattle.kernel_terms.specs.WellFormed.{is_variable_of, is_sender_of, is_receiver_of}
use Rattle.sj_names.specs.declared.mention.NameSort.{NameSort}
use Rattle.sj_names.specs.declared.mention.NameSort.TheVariants as sort
use Rattle.sj_names.specs.declared.mention.Role.{Role}
use Rattle.sj_names.specs.declared.mention.Role.TheVariants as role
use Rattle.sj_names.specs.declared.mention.Use.TheVariants as way
use Rattle.sj_names.specs.declared.mention.Meaning.{Meaning}
use Rattle.sj_names.specs.declared.mention.Mention.{Mention}
use Rattle.sj_names.specs.declared.failure.Failure.{Failure}
use Rattle.sj_names.specs.declared.failure.FailureKind.TheVariants as fault
use Rattle.sj_names.specs.definitions.Failures.{failure_at, where_true, is_port_signal, is_signal, is_channel, is_variable, is_input, fits, is_emission, use_failures, role_failures, own_failures, used, number_where, is_send, uses, first_with}
use Rattle.sj_names.specs.definitions.SoundTables.{is_port_of, is_signal_use, is_sound_use, is_sound_role, is_sound}
use Rattle.sj_names.proofs.EntryLemmas.{SignalEntry, ChannelEntry, EntryOf}
use Rattle.sj_names.proofs.PartEntries.{pair_true, is_itself}

-- what the domain is known to own, by a name's role and what the name stands for
pub record Owns (ns : List (List Mention)) (d : ℕ) (r : Role) (o : Option Meaning) : Type 0 where
  pub signal : (n : ℕ) → number_where is_port_signal (used r o) ≡ Some n → first_with (uses way.PortSignal n) 0 ns ≡ Some d
  pub sends : (n : ℕ) → cond (is_send r) (number_where is_channel (used r o)) None ≡ Some n → first_with (uses way.SendingEnd n) 0 ns ≡ Some d
  pub receives : (n : ℕ) → cond (not (is_send r)) (number_where is_channel (used r o)) None ≡ Some n → first_with (uses way.ReceivingEnd n) 0 ns ≡ Some d

fitting : (b : Bool) (fs : List Failure) (f : Failure) → cond b fs (f ∷ []) ≡ [] → b ≡ true
fitting true fs f h = refl
fitting false fs f h = absurd (cc)

rest_of : (b : Bool) (fs : List Failure) (f : Failure) → cond b fs (f ∷ []) ≡ [] → fs ≡ []
rest_of true fs f h = h
rest_of false fs f h = absurd (cc)

untrue : (b : Bool) (f : Failure) → where_true b f ≡ [] → not b ≡ true
untrue false f h = refl
untrue true f h = absurd (cc)

fits_use : (r : Role) (at : ℕ) (m : Meaning) → use_failures r at m ≡ [] → fits r m.sort ≡ true
fits_use r at m h = fitting (fits r m.sort) (where_true (is_emission r && is_input m.sort) (failure_at fault.EmitInput at)) (failure_at fault.Unknown at) h

used_number : (test : NameSort → Bool) (r : Role) (m : Meaning) → fits r m.sort ≡ true → test m.sort ≡ true → number_where test (used r (Some m)) ≡ Some m.number
used_number test r m f h = ap (λ b. number_where test (cond b (Some m) None)) f ∙ ap (λ b. cond b (Some m.number) None) h

-- signals

port_use : (t : Tables) (ns : List (List Mention)) (d n : ℕ) (s : table.Sort) → is_local s ≡ false → SignalEntry t ns s n → first_with (uses way.PortSignal n) 0 ns ≡ Some d → is_port_of t d n ≡ true
port_use t ns d n s l e o =
    pair_true (nat_lt n (length t.signals)) (is_interface_of d (signal_at t n)) e.0
    (pair_true ((signal_at t n).domain == d) (cond (is_local (signal_at t n).sort) false true) (ap (λ k. k == d) (e.2 ∙ ap (λ x. unwrap_or x 0) o) ∙ is_itself d) (ap (λ k. cond (is_local k) false true) e.1 ∙ ap (λ b. cond b false true) l))

signal_sound : (t : Tables) (ns : List (List Mention)) (d : ℕ) (s : NameSort) (n : ℕ) → is_signal s ≡ true → EntryOf t ns d s n → (is_port_signal s ≡ true → first_with (uses way.PortSignal n) 0 ns ≡ Some d) → is_signal_use t d s n ≡ true
signal_sound t ns d sort.Input n h e o = pair_true (is_port_of t d n) (entries.is_input (signal_at t n).sort) (port_use t ns d n table_sort.Input refl e (o refl)) (ap entries.is_input e.1)
signal_sound t ns d sort.Output n h e o = pair_true (is_port_of t d n) (not (entries.is_input (signal_at t n).sort)) (port_use t ns d n table_sort.Output refl e (o refl)) (ap (λ k. not (entries.is_input k)) e.1)
signal_sound t ns d sort.Local n h e o = e
signal_sound t ns d sort.Channel n h e o = absurd (cc)
signal_sound t ns d sort.Variable n h e o = absurd (cc)
signal_sound t ns d sort.Trap n h e o = absurd (cc)

-- channels and variables

channel_entry : (t : Tables) (ns : List (List Mention)) (d : ℕ) (s : NameSort) (n : ℕ) → is_channel s ≡ true → EntryOf t ns d s n → ChannelEntry t ns n
channel_entry t ns d sort.Channel n h e = e
channel_entry t ns d sort.Input n h e = absurd (cc)
channel_entry t ns d sort.Output n h e = absurd (cc)
channel_entry t ns d sort.Local n h e = absurd (cc)
channel_entry t ns d sort.Variable n h e = absurd (cc)
channel_entry t ns d sort.Trap n h e = absurd (cc)

variable_entry : (t : Tables) (ns : List (List Mention)) (d : ℕ) (s : NameSort) (n : ℕ) → is_variable s ≡ true → EntryOf t ns d s n → is_variable_of t d n ≡ true
variable_entry t ns d sort.Variable n h e = e
variable_entry t ns d sort.Input n h e = absurd (cc)
variable_entry t ns d sort.Output n h e = absurd (cc)
variable_entry t ns d sort.Local n h e = absurd (cc)
variable_entry t ns d sort.Channel n h e = absurd (cc)
variable_entry t ns d sort.Trap n h e = absurd (cc)

sender_is : (t : Tables) (ns : List (List Mention)) (d n : ℕ) → ChannelEntry t ns n → first_with (uses way.SendingEnd n) 0 ns ≡ Some d → is_sender_of t d n ≡ true
sender_is t ns d n e o = pair_true (nat_lt n (length t.channels)) ((channel_at t n).sender == d) e.0 (ap (λ k. k == d) (e.1 ∙ ap (λ x. unwrap_or x 0) o) ∙ is_itself d)

receiver_is : (t : Tables) (ns : List (List Mention)) (d n : ℕ) → ChannelEntry t ns n → first_with (uses way.ReceivingEnd n) 0 ns ≡ Some d → is_receiver_of t d n ≡ true
receiver_is t ns d n e o = pair_true (nat_lt n (length t.channels)) ((channel_at t n).receiver == d) e.0 (ap (λ k. k == d) (e.2 ∙ ap (λ x. unwrap_or x 0) o) ∙ is_itself d)

-- roles

either_true : (a b : Bool) → (a || b) ≡ true → b ≡ false → a ≡ true
either_true true b h g = refl
either_true false b h g = absurd (cc)

status_sound : (t : Tables) (ns : List (List Mention)) (d : ℕ) (m : Meaning) (b : Bool) → is_channel m.sort ≡ b → fits role.Status m.sort ≡ true → EntryOf t ns d m.sort m.number → Owns ns d role.Status (Some m)
    → cond (is_channel m.sort) (is_receiver_of t d m.number) (is_signal_use t d m.sort m.number) ≡ true
status_sound t ns d m true c f e o =
    ap (λ b. cond b (is_receiver_of t d m.number) (is_signal_use t d m.sort m.number)) c
    ∙ receiver_is t ns d m.number (channel_entry t ns d m.sort m.number c e) (o.receives m.number (used_number is_channel role.Status m f c))
status_sound t ns d m false c f e o =
    ap (λ b. cond b (is_receiver_of t d m.number) (is_signal_use t d m.sort m.number)) c
    ∙ signal_sound t ns d m.sort m.number (either_true (is_signal m.sort) (is_channel m.sort) f c) e (λ p. o.signal m.number (used_number is_port_signal role.Status m f p))

use_sound : (t : Tables) (ns : List (List Mention)) (d : ℕ) (r : Role) (at : ℕ) (m : Meaning) → role_failures r at (Some m) ≡ [] → EntryOf t ns d m.sort m.number → Owns ns d r (Some m) → is_sound_use t d r m ≡ true
use_sound t ns d (role.Declare s) at m h e o = absurd (cc)
use_sound t ns d role.Emit at m h e o =
    let f = fits_use role.Emit at m h in
    pair_true (is_signal_use t d m.sort m.number) (not (is_input m.sort)) (signal_sound t ns d m.sort m.number f e (λ p. o.signal m.number (used_number is_port_signal role.Emit m f p)))
    (untrue (is_input m.sort) (failure_at fault.EmitInput at) (rest_of (fits role.Emit m.sort) (where_true (is_emission role.Emit && is_input m.sort) (failure_at fault.EmitInput at)) (failure_at fault.Unknown at) h))
use_sound t ns d role.Test at m h e o = let f = fits_use role.Test at m h in signal_sound t ns d m.sort m.number f e (λ p. o.signal m.number (used_number is_port_signal role.Test m f p))
use_sound t ns d role.Send at m h e o =
    let f = fits_use role.Send at m h in
    pair_true (is_channel m.sort) (is_sender_of t d m.number) f (sender_is t ns d m.number (channel_entry t ns d m.sort m.number f e) (o.sends m.number (used_number is_channel role.Send m f f)))
use_sound t ns d role.Receive at m h e o =
    let f = fits_use role.Receive at m h in
    pair_true (is_channel m.sort) (is_receiver_of t d m.number) f (receiver_is t ns d m.number (channel_entry t ns d m.sort m.number f e) (o.receives m.number (used_number is_channel role.Receive m f f)))
use_sound t ns d role.Status at m h e o = status_sound t ns d m (is_channel m.sort) refl (fits_use role.Status at m h) e o
use_sound t ns d role.Exit at m h e o = fits_use role.Exit at m h
use_sound t ns d role.Variable at m h e o =
    let f = fits_use role.Variable at m h in
    pair_true (is_variable m.sort) (is_variable_of t d m.number) f (variable_entry t ns d m.sort m.number f e)

role_sound : (t : Tables) (ns : List (List Mention)) (d : ℕ) (r : Role) (at : ℕ) (o : Option Meaning) → role_failures r at o ≡ [] → ((m : Meaning) → o ≡ Some m → EntryOf t ns d m.sort m.number) → Owns ns d r o → is_sound_role t d r o ≡ true
role_sound t ns d (role.Declare s) at None h e w = refl
role_sound t ns d role.Emit at None h e w = absurd (cc)
role_sound t ns d role.Test at None h e w = absurd (cc)
role_sound t ns d role.Send at None h e w = absurd (cc)
role_sound t ns d role.Receive at None h e w = absurd (cc)
role_sound t ns d role.Status at None h e w = absurd (cc)
role_sound t ns d role.Exit at None h e w = absurd (cc)
role_sound t ns d role.Variable at None h e w = absurd (cc)
role_sound t ns d (role.Declare s) at (Some m) h e w = absurd (cc)
role_sound t ns d role.Emit at (Some m) h e w = use_sound t ns d role.Emit at m h (e m refl) w
role_sound t ns d role.Test at (Some m) h e w = use_sound t ns d role.Test at m h (e m refl) w
role_sound t ns d role.Send at (Some m) h e w = use_sound t ns d role.Send at m h (e m refl) w
role_sound t ns d role.Receive at (Some m) h e w = use_sound t ns d role.Receive at m h (e m refl) w
role_sound t ns d role.Status at (Some m) h e w = use_sound t ns d role.Status at m h (e m refl) w
role_sound t ns d role.Exit at (Some m) h e w = use_sound t ns d role.Exit at m h (e m refl) w
role_sound t ns d role.Variable at (Some m) h e w = use_sound t ns d role.Variable at m h (e m refl) w

pub name_sound : (t : Tables) (ns : List (List Mention)) (d : ℕ) (m : Mention) → own_failures m ≡ [] → ((k : Meaning) → m.meaning ≡ Some k → EntryOf t ns d k.sort k.number) → Owns ns d m.role m.meaning → is_sound t d m ≡ true
name_sound t ns d m h e o = role_sound t ns d m.role m.at m.meaning h e o
