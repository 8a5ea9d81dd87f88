-- What is wrong with the names of a tree, as a list of failures, and the one that is answered.
use Rattle.std.specs.Prelude.{◌≡◌, ◌⊎◌, ℕ, suc, Bool, true, false, cond, ◌&&◌, ◌||◌, not, ◌==◌, nat_lt, List, [], ◌∷◌, ◌++◌, drop, Option, Some, None, unwrap_or}
use Rattle.std.specs.List.{list_any, flat_map}
use Rattle.kernel_terms.specs.Limits.{most_domains, most_channels, most_signals, most_variables}
use Rattle.sj_names.specs.declared.mention.NameSort.{NameSort}
use Rattle.sj_names.specs.declared.mention.NameSort.TheVariants as sort
use Rattle.sj_names.specs.declared.mention.Role.{Role}
use Rattle.sj_names.specs.declared.mention.Role.TheVariants as role
use Rattle.sj_names.specs.declared.mention.Meaning.{Meaning}
use Rattle.sj_names.specs.declared.mention.Mention.{Mention}
use Rattle.sj_names.specs.declared.mention.Group.{Group}
use Rattle.sj_names.specs.declared.mention.Group.TheVariants as group
use Rattle.sj_names.specs.declared.mention.Use.{Use}
use Rattle.sj_names.specs.declared.mention.Use.TheVariants as way
use Rattle.sj_names.specs.declared.failure.FailureKind.{FailureKind}
use Rattle.sj_names.specs.declared.failure.FailureKind.TheVariants as fault
use Rattle.sj_names.specs.declared.failure.Failure.{Failure}
use Rattle.sj_names.specs.definitions.Mentions.{TreeMentions}

abbrev pub failure_at : FailureKind → ℕ → Failure
failure_at f at = record { at = at; fault = f }

abbrev pub where_true : Bool → Failure → List Failure
where_true b f = cond b (f ∷ []) []

-- sorts of names

abbrev pub is_port_signal : NameSort → Bool
is_port_signal sort.Input = true
is_port_signal sort.Output = true
is_port_signal _ = false

abbrev pub is_signal : NameSort → Bool
is_signal sort.Local = true
is_signal s = is_port_signal s

abbrev pub is_channel : NameSort → Bool
is_channel sort.Channel = true
is_channel _ = false

abbrev pub is_variable : NameSort → Bool
is_variable sort.Variable = true
is_variable _ = false

abbrev pub is_trap : NameSort → Bool
is_trap sort.Trap = true
is_trap _ = false

abbrev pub is_input : NameSort → Bool
is_input sort.Input = true
is_input _ = false

-- a name of this sort may stand in this role
abbrev pub fits : Role → NameSort → Bool
fits (role.Declare t) s = false
fits role.Emit s = is_signal s
fits role.Test s = is_signal s
fits role.Send s = is_channel s
fits role.Receive s = is_channel s
fits role.Status s = is_signal s || is_channel s
fits role.Exit s = is_trap s
fits role.Variable s = is_variable s

abbrev pub is_emission : Role → Bool
is_emission role.Emit = true
is_emission _ = false

-- the failures of a name by itself

abbrev pub use_failures : Role → ℕ → Meaning → List Failure
use_failures r at m =
    cond (fits r m.sort) (where_true (is_emission r &&
    is_input m.sort) (failure_at fault.EmitInput at)) (failure_at fault.Unknown at ∷ [])

abbrev pub role_failures : Role → ℕ → Option Meaning → List Failure
role_failures (role.Declare s) at None = []
role_failures (role.Declare s) at (Some m) = failure_at fault.Twice at ∷ []
role_failures r at None = failure_at fault.Unknown at ∷ []
role_failures r at (Some m) = use_failures r at m

abbrev pub own_failures : Mention → List Failure
own_failures m = role_failures m.role m.at m.meaning

-- the failures of several domains

-- what a use stands for, where a name of the needed sort is visible
abbrev pub used : Role → Option Meaning → Option Meaning
used r None = None
used r (Some m) = cond (fits r m.sort) (Some m) None

abbrev pub number_where : (NameSort → Bool) → Option Meaning → Option ℕ
number_where test None = None
number_where test (Some m) = cond (test m.sort) (Some m.number) None

abbrev pub is_send : Role → Bool
is_send role.Send = true
is_send _ = false

abbrev pub is_receive : Role → Bool
is_receive role.Receive = true
is_receive _ = false

abbrev pub channel_where : Bool → Mention → Option ℕ
channel_where b m = cond b (number_where is_channel (used m.role m.meaning)) None

-- The number of the interface signal or of the channel that a name uses so. `send` uses the sending end of a channel,
-- and `receive` and `#` the receiving one.
abbrev pub number_in : Use → Mention → Option ℕ
number_in way.PortSignal m = number_where is_port_signal (used m.role m.meaning)
number_in way.SendingEnd m = channel_where (is_send m.role) m
number_in way.ReceivingEnd m = channel_where (not (is_send m.role)) m
number_in way.Receive m = channel_where (is_receive m.role) m

abbrev pub is_number : ℕ → Option ℕ → Bool
is_number n None = false
is_number n (Some k) = k == n

-- one of the names uses this number so
abbrev pub uses : Use → ℕ → List Mention → Bool
uses u n = list_any (λ m. is_number n (number_in u m))

-- an earlier domain mentions the signal
abbrev pub shared_failure : List (List Mention) → ℕ → Option ℕ → List Failure
shared_failure earlier at None = []
shared_failure earlier at (Some n) =
    where_true (list_any (uses way.PortSignal n) earlier) (failure_at fault.SignalShared at)

abbrev pub shared_failures : (earlier domains : List (List Mention)) → List Failure
shared_failures earlier [] = []
shared_failures earlier (d ∷ ds) =
    flat_map (λ m. shared_failure earlier m.at (number_in way.PortSignal m)) d ++
    shared_failures (earlier ++ d ∷ []) ds

-- an earlier domain uses this end of the channel, or this domain uses the other end before
abbrev pub end_failure : (this other : Use) → List (List Mention) → List Mention → ℕ → Option ℕ →
    List Failure
end_failure this other earlier before at None = []
end_failure this other earlier before at (Some c) =
    where_true (list_any (uses this c) earlier ||
    uses other c before) (failure_at fault.ChannelEnds at)

abbrev pub both_end_failures : List (List Mention) → List Mention → Mention → List Failure
both_end_failures earlier before m =
    end_failure way.SendingEnd way.ReceivingEnd earlier before m.at (number_in way.SendingEnd m) ++
    end_failure way.ReceivingEnd way.SendingEnd earlier before m.at
    (number_in way.ReceivingEnd m)

abbrev pub domain_end_failures : List (List Mention) → (before mentions : List Mention) →
    List Failure
domain_end_failures earlier before [] = []
domain_end_failures earlier before (m ∷ ms) =
    both_end_failures earlier before m ++ domain_end_failures earlier (before ++ m ∷ []) ms

abbrev pub end_failures : (earlier domains : List (List Mention)) → List Failure
end_failures earlier [] = []
end_failures earlier (d ∷ ds) =
    domain_end_failures earlier [] d ++ end_failures (earlier ++ d ∷ []) ds

-- declared names

abbrev pub is_in : Group → NameSort → Bool
is_in group.PortSignal = is_port_signal
is_in group.Signal = is_signal
is_in group.Channel = is_channel
is_in group.Variable = is_variable

abbrev pub is_new : (NameSort → Bool) → Role → Option Meaning → Bool
is_new test (role.Declare s) None = test s
is_new test _ _ = false

-- the places of the names that are declared as such a sort
abbrev pub places_of : (NameSort → Bool) → List Mention → List ℕ
places_of test [] = []
places_of test (m ∷ ms) =
    cond (is_new test m.role m.meaning) (m.at ∷ places_of test ms) (places_of test ms)

-- a channel that no `send` or no `receive` uses, from the channel of this number on
abbrev pub unjoined_failures : List (List Mention) → ℕ → List ℕ → List Failure
unjoined_failures domains c [] = []
unjoined_failures domains c (at ∷ places) =
    where_true (not (list_any (uses way.SendingEnd c) domains &&
    list_any (uses way.Receive c) domains)) (failure_at fault.ChannelEnds at) ++
    unjoined_failures domains (suc c) places

-- the first place behind so many
abbrev pub first_failure : List ℕ → List Failure
first_failure [] = []
first_failure (at ∷ places) = failure_at fault.TooMany at ∷ []

abbrev pub too_many : ℕ → List ℕ → List Failure
too_many most places = first_failure (drop most places)

-- the first list that passes, counted from a number on
abbrev pub first_with : (List Mention → Bool) → ℕ → List (List Mention) → Option ℕ
first_with test d [] = None
first_with test d (ms ∷ domains) = cond (test ms) (Some d) (first_with test (suc d) domains)

-- the first domain that uses the number so, or domain 0
abbrev pub first_domain : List (List Mention) → Use → ℕ → ℕ
first_domain domains u n = unwrap_or (first_with (uses u n) 0 domains) 0

-- the places of the interface signals of a domain, from the signal of this number on
abbrev pub owned_places : List (List Mention) → ℕ → ℕ → List ℕ → List ℕ
owned_places domains d n [] = []
owned_places domains d n (at ∷ places) =
    cond (first_domain domains way.PortSignal n == d) (at ∷
    owned_places domains d (suc n) places) (owned_places domains d (suc n) places)

-- the limits of one domain, to which these interface signals belong
abbrev pub limit_failures : List ℕ → List Mention → List Failure
limit_failures owned ms =
    too_many most_signals (owned ++ places_of is_signal ms) ++
    too_many most_variables (places_of is_variable ms)

-- those of the domains from a number on, where the interface signals are declared at these places
abbrev pub domain_limit_failures : (domains : List (List Mention)) → List ℕ → ℕ →
    List (List Mention) → List Failure
domain_limit_failures domains places d [] = []
domain_limit_failures domains places d (ms ∷ rest) =
    limit_failures (owned_places domains d 0 places) ms ++
    domain_limit_failures domains places (suc d) rest

-- all failures of the names of a tree
abbrev pub failures_of : TreeMentions → List Failure
failures_of names =
    flat_map own_failures names.ports
    ++ (flat_map (flat_map own_failures) names.domains
    ++ (shared_failures [] names.domains
    ++ (end_failures [] names.domains
    ++ (unjoined_failures names.domains 0 (places_of is_channel names.ports)
    ++ (too_many most_domains names.places
    ++ (too_many most_channels (places_of is_channel names.ports)
    ++ domain_limit_failures names.domains (places_of is_port_signal names.ports) 0
    names.domains))))))

-- the order of failures

abbrev pub rank : FailureKind → ℕ
rank fault.Unknown = 0
rank fault.Twice = 1
rank fault.SignalShared = 2
rank fault.EmitInput = 3
rank fault.ChannelEnds = 4
rank fault.TooMany = 5

-- at a lesser place, or at one place an earlier kind
abbrev pub is_before : Failure → Failure → Bool
is_before f g = nat_lt f.at g.at || ((f.at == g.at) && nat_lt (rank f.fault) (rank g.fault))

-- the lesser one of two
abbrev pub lesser : Option Failure → Failure → Option Failure
lesser None f = Some f
lesser (Some g) f = cond (is_before f g) (Some f) (Some g)

-- the least of a list, and one more
abbrev pub least_of : Option Failure → List Failure → Option Failure
least_of o [] = o
least_of o (f ∷ fs) = least_of (lesser o f) fs

abbrev pub IsOneOf : Failure → List Failure → Type 0
IsOneOf f [] = ⊥
IsOneOf f (g ∷ gs) = (f ≡ g) ⊎ IsOneOf f gs

-- it is one of them, and none comes before it
pub record IsLeast (failures : List Failure) (f : Failure) : Type 0 where
  pub one : IsOneOf f failures
  pub first : list_any (λ g. is_before g f) failures ≡ false
