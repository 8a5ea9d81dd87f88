-- What a step of a domain does.
use Rattle.std.specs.Prelude.{◌≡◌, ℕ, suc, zero, ◌+◌, ◌-◌, ◌^◌, ◌<◌, ◌≤◌, ℤ, pos, true, false, cond, ◌==◌, ◌⊎◌, List, [], ◌∷◌, ◌++◌, length, set, get_or, Option, Some, None, IsNone, IfSome, IsSomeAnd}
use Rattle.java_values.specs.declared.kind.Kind.{Kind}
use Rattle.java_values.specs.Kinds.{IsInRange}
use Rattle.kernel_terms.specs.TableEntries.{channel_at}
use Rattle.kernel_terms.specs.Statements.{Stmt}
use Rattle.kernel_terms.specs.Marks.{Mark, Going, Ended}
use Rattle.kernel_rules.specs.definitions.LegalTick.{DomainState, Inputs, IsLegalTick}
use Rattle.kernel_rules.specs.definitions.Registers.{domain_registers, FitRegisters}
use Rattle.tick_log.specs.definitions.RunText.{interface_signals}
use Rattle.tick_log.specs.definitions.Fits.{AreStatuses}
use Rattle.cell_core.specs.declared.moves.Side.{Side}
use Rattle.cell_core.specs.declared.moves.Side.TheVariants.{Sender, Receiver}
use Rattle.cell_core.specs.declared.moves.Joined.{Joined}
use Rattle.cell_core.specs.declared.moves.CellMove.{CellMove}
use Rattle.cell_core.specs.definitions.Ends.{StandingOffer, EndView, Through, IsOffer}
use Rattle.domain_core.specs.declared.step.ends_of.EndOf.{EndOf}
use Rattle.domain_core.specs.declared.step.ends_of.EndJoin.{EndJoin}
use Rattle.domain_core.specs.declared.step.outcome.Stepped.{Stepped}
use Rattle.domain_core.specs.declared.step.outcome.Stepped.TheVariants as stepped
use Rattle.domain_core.specs.definitions.runs.Systems.{WaitsToSend, WaitsToReceive, with_found}
use Rattle.domain_core.specs.definitions.runs.Stamps.{IsTickStamp, stamp_of_join}
use Rattle.domain_core.specs.definitions.rounds.Rounds.{value_found}
use Rattle.domain_core.specs.definitions.step.EndRegisters.{end_places, last_places, registers_joined}
use Rattle.domain_core.specs.definitions.step.EndCalls.{end_at, recalls, offers, stands_after}
use Rattle.domain_core.specs.definitions.step.Domains.{DomainView, ends_in, tables_in, source_in, tick_count_of, register_at, joins_at, state_held, state_of}

-- the end of this side waits in the statement, a sender with this value; a receiver's is 0
abbrev pub WaitsAs : Side → ℕ → ℤ → Stmt → Type 0
WaitsAs Sender c v p = WaitsToSend c v p
WaitsAs Receiver c v p = WaitsToReceive c p × (v ≡ pos 0)

abbrev pub Waits : EndOf → ℤ → Stmt → Type 0
Waits e v p = WaitsAs e.side e.channel v p

-- an end offers exactly where it waits, and then this value
abbrev pub IsAsk : EndOf → Stmt → Option ℤ → Type 0
IsAsk e p None = (v : ℤ) → Waits e v p → ⊥
IsAsk e p (Some v) = Waits e v p

-- what there is of the end of a channel, among the first so many ends
abbrev pub at_channel : {X : Type 0} → List EndOf → (ℕ → Option X) → ℕ → ℕ → Option X
at_channel ends f zero c = None
at_channel ends f (suc n) c = cond ((end_at ends n).channel == c) (f n) (at_channel ends f n c)

-- the values of the joins that were answered, by channel
abbrev pub answered : List EndOf → List (Option Joined) → ℕ → Option ℤ
answered ends answers c = value_found (at_channel ends (λ n. get_or answers n None) (length ends) c)

-- the joins at each end with those that were answered at the first so many ends, after this number of ticks
abbrev pub add_join : ℕ → ℕ → Option Joined → List (List EndJoin) → List (List EndJoin)
add_join ticks n None joins = joins
add_join ticks n (Some j) joins =
    set joins n (joins_at joins n ++ record { joined = j; ticks = ticks } ∷ [])

abbrev pub add_joins : ℕ → List (Option Joined) → ℕ → List (List EndJoin) → List (List EndJoin)
add_joins ticks answers zero joins = joins
add_joins ticks answers (suc n) joins =
    add_join ticks n (get_or answers n None) (add_joins ticks answers n joins)

-- the i-th join at an end
abbrev pub join_in : List (List EndJoin) → ℕ → ℕ → EndJoin
join_in joins n i =
    get_or (joins_at joins n) i (record {
      joined = record { value = pos 0; mine = 0; theirs = 0 };
      ticks = 0;
    })

-- one of the joins of a domain after this number of ticks has this stamp
abbrev pub IsStampSince : List (List EndJoin) → ℕ → ℕ → Type 0
IsStampSince joins ticks t =
    (n : ℕ) × (i : ℕ) × (i < length (joins_at joins n)) × ((join_in joins n i).ticks ≡ ticks) ×
    (t ≡ stamp_of_join (join_in joins n i).joined)

-- the offer has this stamp and, at a sender, the value with which the end waits
pub record IsWaitingOffer (e : EndOf) (stamp : ℕ) (p : Stmt) (o : StandingOffer) : Type 0 where
  pub value : ℤ
  pub waits : Waits e value p
  pub is_offer : IsOffer e.side value stamp o

-- the end stands exactly where the domain has it standing, with an offer of the last tick
pub record StandsAs (v : DomainView) (n : ℕ) (offer : Option StandingOffer) : Type 0 where
  pub stands : get_or v.standing n false ≡ true →
      IsSomeAnd offer (IsWaitingOffer (end_at (ends_in v) n) v.stamp (state_of v).statement)
  pub free : get_or v.standing n false ≡ false → IsNone offer

-- how many ends the domain has
abbrev pub count_in : DomainView → ℕ
count_in v = length (ends_in v)

-- the end, as it is handed in, is the domain's end of this number, and has room for two moves
pub record FitsEnd (v : DomainView) (n : ℕ) (seen : EndView) : Type 0 where
  pub side : seen.side ≡ (end_at (ends_in v) n).side
  pub kind : seen.kind ≡ (channel_at (tables_in v) (end_at (ends_in v) n).channel).kind
  pub room : 2 ≤ seen.room
  pub stands : StandsAs v n seen.offer

-- the end after a step, which stands as the domain has it
pub record LeavesEnd (v : DomainView) (n : ℕ) (before after : EndView) : Type 0 where
  pub side : after.side ≡ before.side
  pub kind : after.kind ≡ before.kind
  pub room : before.room ≤ after.room + 2
  pub stands : StandsAs v n after.offer

-- a join that an offer with this stamp met, on a channel of this kind
pub record FitsJoin (kind : Kind) (stamp : ℕ) (j : Joined) : Type 0 where
  pub mine : j.mine ≡ stamp
  pub theirs : j.theirs < 2 ^ 62
  pub value : IsInRange kind j.value

-- the answers of the domain's ends to offers with this stamp
abbrev pub FitAnswers : DomainView → ℕ → List (Option Joined) → Type 0
FitAnswers v stamp answers =
    (n : ℕ) → n < count_in v →
    IfSome (get_or answers n None)
    (FitsJoin (channel_at (tables_in v) (end_at (ends_in v) n).channel).kind stamp)

-- what a step says of a tick after which the domain stands so
abbrev pub stepped_to : Mark → Stepped
stepped_to Going = stepped.Paused
stepped_to Ended = stepped.Ended

-- a domain's registers with the joins that were answered at its ends
abbrev pub registers_with : DomainView → List (Option Joined) → List ℤ → ℕ → ℤ
registers_with v answers registers =
    registers_joined (end_places (tables_in v) (ends_in v) (source_in v) 0)
    (last_places (tables_in v) v.domain (source_in v)) (ends_in v) answers (count_in v)
    (register_at registers)

-- the state with those joins
abbrev pub state_with : DomainView → List (Option Joined) → DomainState → DomainState
state_with v answers s = with_found (tables_in v) v.domain (answered (ends_in v) answers) s

-- No tick is made, since its stamp is past the limit. No end stands, and the joins that the recalls answered
-- are kept.
pub record Stops (old new : DomainView) (answers : List (Option Joined)) (stamp : ℕ)
    (result : Stepped) : Type 0 where
  pub limit : 2 ^ 62 ≤ stamp
  pub stepped : result ≡ stepped.StampLimit stamp
  pub stopped : new.stopped ≡ true
  pub log : new.log ≡ old.log
  pub last_stamp : new.stamp ≡ old.stamp
  pub state : state_of new ≡ state_with old answers (state_of old)
  pub registers : register_at new.registers ≡ registers_with old answers old.registers
  pub joins : new.joins ≡ add_joins (tick_count_of old) answers (count_in old) old.joins
  pub standing : (n : ℕ) → n < count_in old → get_or new.standing n false ≡ false

-- Right after a tick a domain's registers stand for its state. Where it goes on they fit its source.
pub record StandFor (v : DomainView) (registers : List ℤ) (s : DomainState) : Type 0 where
  pub count : length registers ≡ length (domain_registers (tables_in v) v.domain (source_in v))
  pub state : state_held (tables_in v) v.domain (source_in v) s.ticks s.mark (register_at registers)
      ≡ s
  pub fit : s.mark ≡ Going → FitRegisters (tables_in v) (source_in v) 0 (register_at registers)

-- A legal tick is made from the domain's state with the joins that the recalls answered, and then each end
-- that waits makes its offer. The new state is the tick's with the joins that the offers answered, and exactly
-- the ends stand whose offers weren't answered.
pub record TicksOnce (inputs : Inputs) (old new : DomainView)
    (answers replies : List (Option Joined)) (asks : List (Option ℤ)) (stamp : ℕ) (result : Stepped)
    : Type 0 where
  pub limit : stamp < 2 ^ 62
  pub statuses : List (Option ℤ)
  pub after : DomainState
  pub legal : IsLegalTick (tables_in old) inputs old.domain (state_with old answers (state_of old))
      statuses after
  pub shows : AreStatuses (interface_signals (tables_in old) old.domain) statuses
  pub log : new.log ≡ record {
    entries = old.log.entries ++ record { stamp = stamp; statuses = statuses } ∷ [];
    mark = after.mark;
    signals = old.log.signals;
    room = old.log.room - 1;
  }
  pub last_stamp : new.stamp ≡ stamp
  pub going : new.stopped ≡ false
  pub stepped : result ≡ stepped_to after.mark
  pub asked : (n : ℕ) → n < count_in old →
      IsAsk (end_at (ends_in old) n) after.statement (get_or asks n None)
  pub replied : (n : ℕ) → n < count_in old → get_or asks n None ≡ None →
      get_or replies n None ≡ None
  pub fit : FitAnswers old stamp replies
  pub state : state_of new ≡ state_with old replies after
  pub between : List ℤ  -- the registers before the joins that the offers answered
  pub stand : StandFor old between after
  pub register_count : length new.registers ≡ length between
  pub registers : register_at new.registers ≡ registers_with old replies between
  pub joins : new.joins ≡
      add_joins (suc (tick_count_of old)) replies (count_in old)
      (add_joins (tick_count_of old) answers (count_in old) old.joins)
  pub standing : (n : ℕ) → n < count_in old →
      get_or new.standing n false ≡ stands_after (get_or asks n None) (get_or replies n None)

-- the offers of a step, where it makes a tick
abbrev pub Goes : Inputs → DomainView → DomainView → List (Option Joined) → ℕ → Stepped →
    List (Option ℤ) → List (Option Joined) → Type 0
Goes inputs old new answers stamp result asks replies =
    TicksOnce inputs old new answers replies asks stamp result ⊎
    (Stops old new answers stamp result × (asks ≡ []))

-- A step recalls each end that stands, by rising number. With the joins so found it makes a tick and offers
-- each end that waits, by rising number, or stops.
pub record IsStep {S : Type 0} (moved : S → ℕ → CellMove → Option Joined → S →
    Type 0) (inputs : Inputs) (before after : S) (old new : DomainView) (result : Stepped) : Type 0
  where
    pub answers : List (Option Joined)
    pub asks : List (Option ℤ)
    pub replies : List (Option Joined)
    pub stamp : ℕ
    pub alone : (n : ℕ) → n < count_in old → get_or old.standing n false ≡ false →
        get_or answers n None ≡ None
    pub fit : FitAnswers old old.stamp answers
    pub next : IsTickStamp old.stamp
        (IsStampSince (add_joins (tick_count_of old) answers (count_in old) old.joins)
        (tick_count_of old)) stamp
    pub goes : Goes inputs old new answers stamp result asks replies
    pub through :
        Through moved before
        (recalls (ends_in old) old.standing answers (count_in old) ++
        offers (ends_in old) asks stamp replies (count_in old)) after
    pub system : new.system ≡ old.system
    pub domain : new.domain ≡ old.domain
    pub spare : old.spare ≤ new.spare + 1
