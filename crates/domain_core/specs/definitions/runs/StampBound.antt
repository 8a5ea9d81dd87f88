-- How large a stamp may be.
use Rattle.std.specs.Prelude.{◌≡◌, ℕ, ◌+◌, ◌<◌, ◌≤◌, ◌⊎◌, List, [], ◌∷◌, length, suc, zero}
use Rattle.kernel_terms.specs.declared.system.System.{System}
use Rattle.kernel_terms.specs.Systems.{tables_of, domains_of}
use Rattle.domain_core.specs.definitions.runs.Systems.{Setup, sender_of, receiver_of}
use Rattle.tick_log.specs.definitions.Runs.{RunState, join_of, tick_count, join_count}
use Rattle.tick_log.specs.definitions.Fits.{most_ticks}
use Rattle.tick_log.specs.definitions.StampOrder.{Event, TickOf, JoinOf, IsEventOf, IsIn, stamp_of}
use Rattle.domain_core.specs.definitions.runs.Stamps.{IsTickStamp, last_stamp}
use Rattle.domain_core.specs.definitions.runs.LegalRuns.{JoinsAt, IsJoinedAfter, tick_stamps}

-- the second one's stamp is counted from the first one's
abbrev pub IsCause : Setup → RunState → Event → Event → Type 0
IsCause setup r (TickOf d m) (TickOf e n) = (d ≡ e) × (n ≡ suc m)
IsCause setup r (JoinOf c i) (TickOf d n) = (0 < n) × JoinsAt setup r d n c i
IsCause setup r (TickOf d m) (JoinOf c i) =
    ((d ≡ sender_of setup c) × ((join_of r c i).sender_ticks ≡ suc m)) ⊎
    ((d ≡ receiver_of setup c) × ((join_of r c i).receiver_ticks ≡ suc m))
IsCause setup r (JoinOf c i) (JoinOf b j) = ⊥

-- some tick or join that the stamp is counted from has the stamp before
pub record HasCause (setup : Setup) (r : RunState) (e : Event) : Type 0 where
  pub cause : Event
  pub event : IsEventOf r cause
  pub is : IsCause setup r cause e
  pub stamp : stamp_of r e ≡ suc (stamp_of r cause)

-- each tick and join of the list comes after all that its stamp is counted from
abbrev pub CausesFirst : Setup → RunState → List Event → List Event → Type 0
CausesFirst setup r passed [] = Unit {0}
CausesFirst setup r passed (e ∷ es) =
    IsEventOf r e × ((f : Event) → IsEventOf r f → IsCause setup r f e → IsIn f passed) ×
    CausesFirst setup r (e ∷ passed) es

-- no stamp is larger than the place in the list, where the first place is `place`
abbrev pub StampsWithin : RunState → ℕ → List Event → Type 0
StampsWithin r place [] = Unit {0}
StampsWithin r place (e ∷ es) = (stamp_of r e ≤ place) × StampsWithin r (suc place) es

-- the sum of the first n numbers
abbrev pub sum_below : (ℕ → ℕ) → ℕ → ℕ
sum_below f zero = 0
sum_below f (suc n) = f n + sum_below f n

-- how many ticks and joins the run has
abbrev pub event_count : RunState → ℕ
event_count r =
    sum_below (tick_count r) (length r.logs) + sum_below (join_count r) (length r.histories)

-- the stamp that the rule gives the next tick of a domain, which the run needn't have
abbrev pub IsNextStamp : Setup → RunState → ℕ → ℕ → Type 0
IsNextStamp setup r d stamp =
    IsTickStamp (last_stamp (tick_stamps r d) (tick_count r d))
    (IsJoinedAfter setup r d (tick_count r d)) stamp

-- The run has one log per domain of the system and one history per channel, and none of them is longer than the
-- limit. Its stamps may be anything.
pub record IsSmallRun (system : System) (r : RunState) : Type 0 where
  pub domains : length r.logs ≡ length (domains_of system)
  pub channels : length r.histories ≡ length (tables_of system).channels
  pub ticks : (d : ℕ) → d < length r.logs → tick_count r d ≤ most_ticks
  pub joins : (c : ℕ) → c < length r.histories → join_count r c ≤ most_ticks
