-- How a run is worked out, tick by tick.
use Rattle.std.proofs.Common.{◌≡◌, ℕ, suc, ℤ, pos, ◌<◌, true, List, [], ◌∷◌, ◌++◌, refl, ◌∙◌, inl, inr, arith, ◌⊎◌}
use Rattle.kernel_terms.specs.Marks.{Going}
use Rattle.kernel_rules.specs.definitions.Signals.{put_at, Env}
use Rattle.kernel_rules.specs.definitions.TickRule.{Tick, Ticks}
use Rattle.kernel_rules.specs.definitions.LegalTick.{DomainState, IsLegalTick, is_tick_code, mark_after, status_in, values_after, shown_statuses}
use Rattle.domain_core.specs.definitions.runs.Systems.{BothWait, Setup, SystemState, JoinRecord, Move, MakesTick, MakesJoin, TickStep, JoinStep, WaitsToSend, WaitsToReceive, sender_of, receiver_of, domain_count, channel_count, with_found, only}
use Rattle.domain_core.specs.definitions.runs.Scheduled.{JoinsInTurn, TakesTurns}
use Rattle.domain_core.proofs.lemmas.runs.StatesBetweenTicks.{put_apart}

-- the statuses in a tick, and the state after it
abbrev pub env_in : Setup → DomainState → Tick → Env
env_in p s o = status_in p.tables (λ n. p.inputs n (suc s.ticks)) s.values o.emits

abbrev pub after : Setup → ℕ → DomainState → Tick → DomainState
after p d s o = record {
  statement = o.rest;
  variables = o.variables;
  values = values_after p.tables d (env_in p s o) s.values;
  last = s.last;
  ticks = suc s.ticks;
  mark = mark_after o.code;
}

abbrev pub ticked : Setup → ℕ → SystemState → Tick → SystemState
ticked p d s o = record s { domain = put_at s.domain d (after p d (s.domain d) o) }

pub legal_tick : (p : Setup) (d : ℕ) (s : DomainState) (o : Tick) → s.mark ≡ Going → Ticks p.tables s.last s.statement (env_in p s o) s.variables o → is_tick_code o.code ≡ true →
    IsLegalTick p.tables p.inputs d s (shown_statuses p.tables d (env_in p s o)) (after p d s o)
legal_tick p d s o goes_on t code = record { goes_on = goes_on; env = env_in p s o; tick = o; ticks = t; coherent = λ n h. refl; code = code; shows = refl; next = refl }

pub tick_step : (p : Setup) (d : ℕ) (s : SystemState) (o : Tick) → (s.domain d).mark ≡ Going →
    Ticks p.tables (s.domain d).last (s.domain d).statement (env_in p (s.domain d) o) (s.domain d).variables o → is_tick_code o.code ≡ true →
    TickStep p s d (shown_statuses p.tables d (env_in p (s.domain d) o)) (ticked p d s o)
tick_step p d s o goes_on t code = record { after = after p d (s.domain d) o; legal = legal_tick p d (s.domain d) o goes_on t code; next = refl }

abbrev pub zeros : ℕ → ℤ
zeros n = pos 0

pub either : {A B : Type 0} → (A → ⊥) → (B → ⊥) → A ⊎ B → ⊥
either f g (inl a) = f a
either f g (inr b) = g b

-- a join of channel c with the value v
abbrev pub join_of_state : Setup → ℕ → ℤ → SystemState → JoinRecord
join_of_state p c v s = record { value = v; sender_ticks = (s.domain (sender_of p c)).ticks; receiver_ticks = (s.domain (receiver_of p c)).ticks }

abbrev pub joined : Setup → ℕ → ℤ → SystemState → SystemState
joined p c v s = record {
  domain =
      put_at (put_at s.domain (sender_of p c) (with_found p.tables (sender_of p c) (only c v) (s.domain (sender_of p c))))
      (receiver_of p c) (with_found p.tables (receiver_of p c) (only c v) (s.domain (receiver_of p c)));
  joins = put_at s.joins c (s.joins c ++ join_of_state p c v s ∷ []);
}

pub join_step : (p : Setup) (c : ℕ) (v : ℤ) (s : SystemState) → WaitsToSend c v (s.domain (sender_of p c)).statement → WaitsToReceive c (s.domain (receiver_of p c)).statement →
    JoinStep p s c (join_of_state p c v s) (joined p c v s)
join_step p c v s sends receives = record { sends = sends; receives = receives; sender_ticks = refl; receiver_ticks = refl; next = refl }

-- the only channel isn't joined in a turn, or it is
pub no_join : (p : Setup) (d : ℕ) (s : SystemState) → ((v : ℤ) → BothWait p s 0 v → ⊥) → JoinsInTurn p d 0 1 s [] s
no_join p d s h = inl ((λ own v w. h v w), (refl, refl))

pub one_join : (p : Setup) (d : ℕ) (v : ℤ) (s : SystemState) → 0 < channel_count p → (sender_of p 0 ≡ d) ⊎ (receiver_of p 0 ≡ d) →
    WaitsToSend 0 v (s.domain (sender_of p 0)).statement → WaitsToReceive 0 (s.domain (receiver_of p 0)).statement →
    JoinsInTurn p d 0 1 s (MakesJoin 0 (join_of_state p 0 v s) ∷ []) (joined p 0 v s)
one_join p d v s w own sends receives = inr (own, (join_of_state p 0 v s, joined p 0 v s, [], (w, join_step p 0 v s sends receives), refl, (refl, refl)))

-- a turn
pub takes_turn : (p : Setup) (d : ℕ) (turns : List ℕ) (s mid end : SystemState) (o : Tick) (joins more : List Move) → d < domain_count p → (s.domain d).mark ≡ Going →
    Ticks p.tables (s.domain d).last (s.domain d).statement (env_in p (s.domain d) o) (s.domain d).variables o → is_tick_code o.code ≡ true →
    JoinsInTurn p d 0 (channel_count p) (ticked p d s o) joins mid → TakesTurns p mid turns more end →
    TakesTurns p s (d ∷ turns) (MakesTick d (shown_statuses p.tables d (env_in p (s.domain d) o)) ∷ (joins ++ more)) end
takes_turn p d turns s mid end o joins more w goes_on t code j rest =
    inr (shown_statuses p.tables d (env_in p (s.domain d) o), ticked p d s o, mid, joins, more, (w, tick_step p d s o goes_on t code), j, rest, refl)

-- no other domain has ticks
pub none_past : (f : ℕ → ℕ) (n x : ℕ) → n < 2 → ((d : ℕ) → f (suc (suc d)) ≡ 0) → (d : ℕ) → put_at f n x (suc (suc d)) ≡ 0
none_past f n x h none d = put_apart f n x (suc (suc d)) (λ e. omega (arith, e, h)) ∙ none d
