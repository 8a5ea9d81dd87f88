-- The rounds of a domain as its steps make them.
use Rattle.std.specs.Prelude.{◌≡◌, ℕ, ◌<◌, ◌≤◌, ◌^◌, ℤ, Bool, true, false, List, [], ◌∷◌, ◌++◌, length, map, get_or, Option, Some, None}
use Rattle.kernel_terms.specs.declared.system.System.{System}
use Rattle.kernel_terms.specs.Systems.{tables_of}
use Rattle.kernel_rules.specs.definitions.LegalTick.{DomainState, Inputs}
use Rattle.cell_core.specs.declared.moves.Joined.{Joined}
use Rattle.tick_log.specs.definitions.Runs.{Entry}
use Rattle.domain_core.specs.declared.step.ends_of.EndOf.{EndOf}
use Rattle.domain_core.specs.declared.step.ends_of.EndJoin.{EndJoin}
use Rattle.domain_core.specs.definitions.runs.Systems.{setup_of}
use Rattle.domain_core.specs.definitions.runs.Stamps.{IsTickStamp, last_stamp, stamp_of_join}
use Rattle.domain_core.specs.definitions.step.EndCalls.{end_at}
use Rattle.domain_core.specs.definitions.step.Domains.{DomainView, ends_of, tick_count_of, state_of, joins_at}
use Rattle.domain_core.specs.definitions.step.Steps.{at_channel}
use Rattle.domain_core.specs.definitions.rounds.Rounds.{Offer, Rounds, Found, found_from, offered, recalled, IsFoundStamp, entry_stamps, IsRounds, IsOpenRounds, MakesRound, with_round, with_recalls}

abbrev pub own_ends : System → ℕ → List EndOf
own_ends system d = ends_of (tables_of system) d

-- the recall of an end, where it stands
abbrev pub recall_made : Bool → Option Joined → Option (Option Joined)
recall_made true answer = Some answer
recall_made false answer = None

abbrev pub recalls_made : List EndOf → List Bool → List (Option Joined) → ℕ → Option (Option Joined)
recalls_made ends standing answers c =
    at_channel ends (λ n. recall_made (get_or standing n false) (get_or answers n None))
    (length ends) c

-- the offer of an end, where it makes one
abbrev pub offer_made : Option ℤ → ℕ → Option Joined → Option Offer
offer_made None stamp reply = None
offer_made (Some v) stamp reply = Some (record { value = v; stamp = stamp; reply = reply })

abbrev pub offers_made : List EndOf → List (Option ℤ) → ℕ → List (Option Joined) → ℕ → Option Offer
offers_made ends asks stamp replies c =
    at_channel ends (λ n. offer_made (get_or asks n None) stamp (get_or replies n None))
    (length ends) c

-- an end stands from an offer without a join on
abbrev pub is_open : Option Joined → Bool
is_open None = true
is_open (Some j) = false

abbrev pub stands_from : Option Offer → Bool
stands_from None = false
stands_from (Some o) = is_open o.reply

abbrev pub found_in : EndJoin → Found
found_in j = record { number = j.ticks; value = j.joined.value; stamp = stamp_of_join j.joined }

-- The domain's joins are those that its rounds found.
abbrev pub HasFound : System → ℕ → DomainView → Rounds → Type 0
HasFound system d v x =
    (n : ℕ) → n < length (own_ends system d) →
    map found_in (joins_at v.joins n) ≡
    found_from x (end_at (own_ends system d) n).channel 1 (tick_count_of v)

-- The rounds that domain d of the system has made so far, and may go on with: its log is theirs, its state is
-- that after their last tick with the joins of the offers, exactly the ends stand whose last offers aren't
-- answered, and its joins are those that they found.
pub record AreRoundsOf (system : System) (inputs : Inputs) (d : ℕ) (v : DomainView) (x : Rounds) :
    Type 0 where
  pub of_system : v.system ≡ system
  pub of_domain : v.domain ≡ d
  pub so_far : IsOpenRounds (setup_of system inputs) d v.log.entries v.log.mark x
  pub uncut : x.is_cut ≡ false
  pub state : state_of v ≡
      offered (setup_of system inputs) d (x.after (tick_count_of v)) (x.offers (tick_count_of v))
  pub standing : (n : ℕ) → n < length (own_ends system d) →
      get_or v.standing n false ≡
      stands_from (x.offers (tick_count_of v) (end_at (own_ends system d) n).channel)
  pub last : v.stamp ≡ last_stamp (entry_stamps v.log.entries) (tick_count_of v)
  pub lists : length v.joins ≡ length (own_ends system d)
  pub joins : HasFound system d v x

-- the domain with memory for so many ticks more
abbrev pub with_memory : (room spare : ℕ) → DomainView → DomainView
with_memory room spare v = record v { log = record v.log { room = room }; spare = spare }

-- The rounds of a domain that stopped, since its next tick would have this stamp: the last one is cut.
pub record AreCutRoundsOf (system : System) (inputs : Inputs) (d : ℕ) (v : DomainView) (stamp : ℕ)
    (x : Rounds) : Type 0 where
  pub of_system : v.system ≡ system
  pub of_domain : v.domain ≡ d
  pub whole : IsRounds (setup_of system inputs) d v.log.entries v.log.mark x
  pub cut : x.is_cut ≡ true
  pub state : state_of v ≡
      recalled (setup_of system inputs) d (x.after (tick_count_of v)) (x.offers (tick_count_of v))
      (x.recalls (tick_count_of v))
  pub limit : 2 ^ 62 ≤ stamp
  pub next : IsTickStamp (last_stamp (entry_stamps v.log.entries) (tick_count_of v))
      (IsFoundStamp (x.offers (tick_count_of v)) (x.recalls (tick_count_of v))) stamp
  pub last : v.stamp ≡ last_stamp (entry_stamps v.log.entries) (tick_count_of v)
  pub idle : (n : ℕ) → n < length (own_ends system d) → get_or v.standing n false ≡ false
  pub joins : HasFound system d v x

-- the domain made a tick: its rounds are these with one more
pub record MadeRound (system : System) (inputs : Inputs) (d : ℕ) (old new : DomainView) (x : Rounds)
    (answers replies : List (Option Joined)) (asks : List (Option ℤ)) (stamp : ℕ) : Type 0 where
  pub entry : Entry
  pub after : DomainState
  pub entries : new.log.entries ≡ old.log.entries ++ entry ∷ []
  pub makes : MakesRound (setup_of system inputs) d old.log.entries x
      (recalls_made (own_ends system d) old.standing answers) entry after
      (offers_made (own_ends system d) asks stamp replies)
  pub rounds :
      AreRoundsOf system inputs d new
      (with_round x (tick_count_of old) (recalls_made (own_ends system d) old.standing answers)
      after (offers_made (own_ends system d) asks stamp replies))

-- the domain stopped: its rounds are these with the recalls of a cut one
pub record MadeCut (system : System) (inputs : Inputs) (d : ℕ) (old new : DomainView) (x : Rounds)
    (answers : List (Option Joined)) (stamp : ℕ) : Type 0 where
  pub entries : new.log.entries ≡ old.log.entries
  pub rounds : AreCutRoundsOf system inputs d new stamp
      (with_recalls x (tick_count_of old) (recalls_made (own_ends system d) old.standing answers)
      true)
