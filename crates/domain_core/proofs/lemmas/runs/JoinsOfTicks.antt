-- A channel has no more joins than either of its domains has ticks.
use Rattle.std.proofs.Common.{◌≡◌, ◌≢◌, ℕ, suc, ◌<◌, ◌≤◌, ℤ, List, [], ◌∷◌, ◌++◌, length, refl, sym, ap, ◌∙◌, subst, inl, inr, arith}
use Rattle.std.specs.Prelude.{Option}
use Rattle.std.proofs.lemmas.Bool.{cases_eq}
use Rattle.std.proofs.lemmas.List.{length-append}
use Rattle.kernel_terms.specs.Statements.{Stmt}
use Rattle.kernel_rules.specs.definitions.Signals.{put_at}
use Rattle.tick_log.specs.definitions.Runs.{RunState, tick_count, join_count}
use Rattle.domain_core.specs.definitions.runs.Systems.{WaitsToSend, WaitsToReceive, Setup, JoinRecord, SystemState, start, sender_of, receiver_of, Move, MakesTick, MakesJoin, TickStep, JoinStep, Steps, IsSystem, IsFresh, channel_count}
use Rattle.domain_core.specs.definitions.runs.Scheduled.{TellsFrom, IsScheduledRun}
use Rattle.domain_core.proofs.lemmas.runs.StatesBetweenTicks.{put_here, put_apart, put_cases}
use Rattle.domain_core.proofs.lemmas.runs.JoinEffects.{tick_here, tick_elsewhere, join_at, sender_done, receiver_done}
use Rattle.domain_core.proofs.lemmas.runs.ScheduledTurns.{scheduled_run_steps}

-- so many joins at an end after so many ticks, and fewer where it waits
record Covered (joins ticks : ℕ) (waits : Type 0) : Type 0 where
  few : joins ≤ ticks
  fewer : waits → joins < ticks

abbrev CoveredAt : SystemState → ℕ → ℕ → (Stmt → Type 0) → Type 0
CoveredAt s c d waits = Covered (length (s.joins c)) (s.domain d).ticks (waits (s.domain d).statement)

tick_covers : (p : Setup) (s new : SystemState) (d : ℕ) (statuses : List (Option ℤ)) → TickStep p s d statuses new → (c e : ℕ) (waits : Stmt → Type 0) → CoveredAt s c e waits → CoveredAt new c e waits
tick_covers p s new d statuses k c e waits a =
    let joins : length (new.joins c) ≡ length (s.joins c) = ap (λ z. length (z.joins c)) k.next in
    let few = a.few in
    elim (cases_eq e d) [
      | inl q ↦
          let ticks : (new.domain e).ticks ≡ suc (s.domain e).ticks =
          ap (λ x. (new.domain x).ticks) q ∙ ap (λ z. z.ticks) (tick_here p s new d statuses k ∙ k.legal.next) ∙ ap (λ x. suc (s.domain x).ticks) (sym q) in
          record { few = omega (arith, joins, ticks, few); fewer = λ w. omega (arith, joins, ticks, few) }
      | inr q ↦
          let same = tick_elsewhere p s new d statuses k e q in
          let ticks = ap (λ z. z.ticks) same in
          record { few = omega (arith, joins, ticks, few); fewer = λ w. let less = a.fewer (subst (λ z. waits z.statement) same w) in omega (arith, joins, ticks, less) }
    ]

join_elsewhere : (p : Setup) (s new : SystemState) (b : ℕ) (join : JoinRecord) → JoinStep p s b join new → (c e : ℕ) (waits : Stmt → Type 0) → c ≢ b →
    (waits (new.domain e).statement → waits (s.domain e).statement) → CoveredAt s c e waits → CoveredAt new c e waits
join_elsewhere p s new b join k c e waits other before a =
    let joins : length (new.joins c) ≡ length (s.joins c) = ap (λ z. length (z.joins c)) k.next ∙ ap length (put_apart s.joins b (s.joins b ++ join ∷ []) c other) in
    let ticks = (join_at p s new b join k e).ticks in
    let few = a.few in
    record { few = omega (arith, joins, ticks, few); fewer = λ w. let less = a.fewer (before w) in omega (arith, joins, ticks, less) }

join_here : (p : Setup) (s new : SystemState) (c : ℕ) (join : JoinRecord) → JoinStep p s c join new → (e : ℕ) (waits : Stmt → Type 0) →
    waits (s.domain e).statement → (waits (new.domain e).statement → ⊥) → CoveredAt s c e waits → CoveredAt new c e waits
join_here p s new c join k e waits waited done a =
    let joins : length (new.joins c) ≡ length (s.joins c ++ join ∷ []) = ap (λ z. length (z.joins c)) k.next ∙ ap length (put_here s.joins c (s.joins c ++ join ∷ [])) in
    let one = length-append (s.joins c) (join ∷ []) in
    let ticks = (join_at p s new c join k e).ticks in
    let less = a.fewer waited in
    record { few = omega (arith, joins, one, ticks, less); fewer = λ w. absurd (done w) }

-- the two ends of a channel
abbrev Sends : ℕ → Stmt → Type 0
Sends c p = (v : ℤ) × WaitsToSend c v p

record BothCovered (p : Setup) (s : SystemState) (c : ℕ) : Type 0 where
  sender : CoveredAt s c (sender_of p c) (Sends c)
  receiver : CoveredAt s c (receiver_of p c) (WaitsToReceive c)

join_covers : (p : Setup) (s new : SystemState) (b : ℕ) (join : JoinRecord) → IsSystem p → b < channel_count p → JoinStep p s b join new → (c : ℕ) → BothCovered p s c → BothCovered p new c
join_covers p s new b join sys within k c a = elim (cases_eq c b) [
  | inl q ↦
      let here : BothCovered p s b = subst (BothCovered p s) q a in
      subst (BothCovered p new) (sym q)
      (record {
        sender = join_here p s new b join k (sender_of p b) (Sends b) (join.value, k.sends) (λ w. sender_done p s new b join (sys.apart b within) k w.0 w.1) here.sender;
        receiver = join_here p s new b join k (receiver_of p b) (WaitsToReceive b) k.receives (receiver_done p s new b join k) here.receiver;
      })
  | inr q ↦
      record {
        sender = join_elsewhere p s new b join k c (sender_of p c) (Sends c) q (λ w. (w.0, (join_at p s new b join k (sender_of p c)).sends c w.0 w.1)) a.sender;
        receiver = join_elsewhere p s new b join k c (receiver_of p c) (WaitsToReceive c) q ((join_at p s new b join k (receiver_of p c)).receives c) a.receiver;
      }
]

steps_cover : (p : Setup) (s : SystemState) (moves : List Move) (end : SystemState) → IsSystem p → (c : ℕ) → BothCovered p s c → Steps p s moves end → BothCovered p end c
steps_cover p s [] end sys c a h = subst (λ z. BothCovered p z c) h a
steps_cover p s (MakesTick d statuses ∷ moves) end sys c a h =
    steps_cover p h.0 moves end sys c
    (record {
      sender = tick_covers p s h.0 d statuses h.1.1 c (sender_of p c) (Sends c) a.sender;
      receiver = tick_covers p s h.0 d statuses h.1.1 c (receiver_of p c) (WaitsToReceive c) a.receiver;
    }) h.2
steps_cover p s (MakesJoin b join ∷ moves) end sys c a h = steps_cover p h.0 moves end sys c (join_covers p s h.0 b join sys h.1.0 h.1.1 c a) h.2

pub joins_within_ticks : (p : Setup) (moves : List Move) (end : SystemState) → IsSystem p → IsFresh p → Steps p (start p) moves end → (c : ℕ) →
    (length (end.joins c) ≤ (end.domain (sender_of p c)).ticks) × (length (end.joins c) ≤ (end.domain (receiver_of p c)).ticks)
joins_within_ticks p moves end sys fresh steps c =
    let begun : BothCovered p (start p) c = record {
      sender = record { few = omega arith; fewer = λ w. absurd (fresh.sends (sender_of p c) c w.0 w.1) };
      receiver = record { few = omega arith; fewer = λ w. absurd (fresh.receives (receiver_of p c) c w) };
    } in
    let x = steps_cover p (start p) moves end sys c begun steps in
    (x.sender.few, x.receiver.few)

-- the numbers of ticks and joins at the end are those that the run tells
record Counted (s : SystemState) (t j : ℕ → ℕ) : Type 0 where
  ticks : (d : ℕ) → (s.domain d).ticks ≡ t d
  joins : (c : ℕ) → length (s.joins c) ≡ j c

tick_counted : (p : Setup) (s new : SystemState) (d : ℕ) (statuses : List (Option ℤ)) (t j : ℕ → ℕ) → TickStep p s d statuses new → Counted s t j → Counted new (put_at t d (suc (t d))) j
tick_counted p s new d statuses t j k a = record {
  ticks = λ e. elim (put_cases t d (suc (t d)) e) [
    | inl (q, u) ↦
        ap (λ x. (new.domain x).ticks) q ∙ ap (λ z. z.ticks) (tick_here p s new d statuses k ∙ k.legal.next) ∙ ap suc (a.ticks d) ∙ sym u
    | inr (q, u) ↦ ap (λ z. z.ticks) (tick_elsewhere p s new d statuses k e q) ∙ a.ticks e ∙ sym u
  ];
  joins = λ c. ap (λ z. length (z.joins c)) k.next ∙ a.joins c;
}

join_counted : (p : Setup) (s new : SystemState) (b : ℕ) (join : JoinRecord) (t j : ℕ → ℕ) → JoinStep p s b join new → Counted s t j → Counted new t (put_at j b (suc (j b)))
join_counted p s new b join t j k a = record {
  ticks = λ e. (join_at p s new b join k e).ticks ∙ a.ticks e;
  joins = λ c. elim (put_cases j b (suc (j b)) c) [
    | inl (q, u) ↦
        let joins : length (new.joins b) ≡ length (s.joins b ++ join ∷ []) = ap (λ z. length (z.joins b)) k.next ∙ ap length (put_here s.joins b (s.joins b ++ join ∷ [])) in
        let one = length-append (s.joins b) (join ∷ []) in
        let old = a.joins b in
        ap (λ x. length (new.joins x)) q ∙ omega (arith, joins, one, old) ∙ sym u
    | inr (q, u) ↦ ap (λ z. length (z.joins c)) k.next ∙ ap length (put_apart s.joins b (s.joins b ++ join ∷ []) c q) ∙ a.joins c ∙ sym u
  ];
}

steps_counted : (p : Setup) (r : RunState) (t j : ℕ → ℕ) (s : SystemState) (moves : List Move) (end : SystemState) → Counted s t j → Steps p s moves end → TellsFrom r t j moves →
    Counted end (tick_count r) (join_count r)
steps_counted p r t j s [] end a h tells = record {
  ticks = λ d. ap (λ z. (z.domain d).ticks) (sym h) ∙ a.ticks d ∙ tells.0 d;
  joins = λ c. ap (λ z. length (z.joins c)) (sym h) ∙ a.joins c ∙ tells.1 c;
}
steps_counted p r t j s (MakesTick d statuses ∷ moves) end a h tells =
    steps_counted p r (put_at t d (suc (t d))) j h.0 moves end (tick_counted p s h.0 d statuses t j h.1.1 a) h.2 tells.2
steps_counted p r t j s (MakesJoin c join ∷ moves) end a h tells =
    steps_counted p r t (put_at j c (suc (j c))) h.0 moves end (join_counted p s h.0 c join t j h.1.1 a) h.2 tells.2

pub run_joins_within_ticks : (p : Setup) (r : RunState) (turns : List ℕ) (end : SystemState) → IsSystem p → IsFresh p → IsScheduledRun p r turns end → (c : ℕ) →
    (join_count r c ≤ tick_count r (sender_of p c)) × (join_count r c ≤ tick_count r (receiver_of p c))
run_joins_within_ticks p r turns end sys fresh o c =
    let run = scheduled_run_steps p r turns end o in
    let begun : Counted (start p) (λ d. 0) (λ c. 0) = record { ticks = λ d. refl; joins = λ c. refl } in
    let counts = steps_counted p r (λ d. 0) (λ c. 0) (start p) o.moves end begun run.steps run.tells in
    let few = joins_within_ticks p o.moves end sys fresh run.steps c in
    let few0 = few.0 in
    let few1 = few.1 in
    let joins = counts.joins c in
    let sent = counts.ticks (sender_of p c) in
    let got = counts.ticks (receiver_of p c) in
    (omega (arith, few0, joins, sent), omega (arith, few1, joins, got))
