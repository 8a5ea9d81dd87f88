-- A receive that is suspended while its join comes.
use Rattle.std.proofs.Common.{◌≡◌, ◌≢◌, ℕ, zero, suc, ℤ, pos, ◌<◌, true, List, [], ◌∷◌, refl, sym, subst, inl, inr, arith}
use Rattle.std.specs.Prelude.{Option, Some, None}
use Rattle.java_values.specs.declared.kind.Kind.TheVariants as kind
use Rattle.kernel_terms.specs.Expressions.{ChannelValue, IsPresent}
use Rattle.kernel_terms.specs.Statements.{Emit, Seq, Suspend, SendWaits, ReceiveWaits, Received}
use Rattle.kernel_rules.specs.definitions.Signals.{put_at}
use Rattle.kernel_rules.specs.definitions.TickRule.{Tick, quiet, ends_with, as_whole}
use Rattle.tick_log.specs.definitions.Runs.{log_of, tick_count, join_count}
use Rattle.domain_core.specs.definitions.runs.Systems.{SystemState, JoinRecord, MakesTick, MakesJoin, IsSystem, IsFresh, WaitsToSend, WaitsToReceive, start, start_of, sender_of, receiver_of}
use Rattle.domain_core.specs.definitions.runs.LegalRuns.{IsLegalRun, Fits}
use Rattle.domain_core.specs.definitions.runs.Scheduled.{TakesTurns, IsScheduledRun, IsWholeRun}
use Rattle.domain_core.specs.Rows.{suspended_receive, suspended_run, suspended_join, too_early, receiver_first}
use Rattle.domain_core.proofs.lemmas.runs.StatesBetweenTicks.{put_apart}
use Rattle.domain_core.proofs.lemmas.runs.StampRuleLemmas.{later_stamp}
use Rattle.domain_core.proofs.lemmas.runs.WorkedRuns.{ticked, zeros, either, joined, no_join, one_join, takes_turn, none_past}
use Rattle.domain_core.proofs.lemmas.runs.ScheduledTurns.{scheduled_by_step, scheduled_runs_are_whole}

abbrev inner : Tick
inner = as_whole 1 (Seq (ReceiveWaits 0) (Emit 2 (Some (ChannelValue kind.Int 0)))) (quiet 1 (ReceiveWaits 0) zeros)

abbrev receiving : Tick
receiving = as_whole 1 (Suspend true (IsPresent 0) (Seq (ReceiveWaits 0) (Emit 2 (Some (ChannelValue kind.Int 0))))) inner

abbrev waits : Tick
waits = quiet 1 (Suspend true (IsPresent 0) (Seq (ReceiveWaits 0) (Emit 2 (Some (ChannelValue kind.Int 0))))) zeros

abbrev holds : Tick
holds = quiet 1 (Suspend true (IsPresent 0) (Seq (Received 0) (Emit 2 (Some (ChannelValue kind.Int 0))))) zeros

abbrev emitted : Tick
emitted = ends_with (record { signal = 2; value = pos 7 } ∷ []) zeros

abbrev sending : Tick
sending = as_whole 1 (Seq (SendWaits 0 (pos 7)) (Emit 1 None)) (quiet 1 (SendWaits 0 (pos 7)) zeros)

abbrev sent : Tick
sent = ends_with (record { signal = 1; value = pos 0 } ∷ []) zeros

fresh : IsFresh suspended_receive
fresh = record { sends = s; receives = g }
  where
    s : (d c : ℕ) (v : ℤ) → WaitsToSend c v (start_of suspended_receive d).statement → ⊥
    s zero c v h = either (λ x. x) (λ x. x) h
    s (suc zero) c v h = either (λ x. x) (λ x. x) h
    s (suc (suc d)) c v h = h

    g : (d c : ℕ) → WaitsToReceive c (start_of suspended_receive d).statement → ⊥
    g zero c h = either (λ x. x) (λ x. x) h
    g (suc zero) c h = either (λ x. x) (λ x. x) h
    g (suc (suc d)) c h = h

system : IsSystem suspended_receive
system = record {
  sender = λ c h. let e : c ≡ 0 = omega arith in subst (λ z. sender_of suspended_receive z < 2) (sym e) (omega arith);
  receiver = λ c h. let e : c ≡ 0 = omega arith in subst (λ z. receiver_of suspended_receive z < 2) (sym e) (omega arith);
  apart = λ c h. let e : c ≡ 0 = omega arith in subst (λ z. sender_of suspended_receive z ≢ receiver_of suspended_receive z) (sym e) (λ x. omega arith);
}

abbrev s1 : SystemState
s1 = ticked suspended_receive 1 (start suspended_receive) receiving

abbrev s2 : SystemState
s2 = ticked suspended_receive 1 s1 waits

abbrev s3 : SystemState
s3 = ticked suspended_receive 0 s2 sending

abbrev s4 : SystemState
s4 = joined suspended_receive 0 (pos 7) s3

abbrev s5 : SystemState
s5 = ticked suspended_receive 1 s4 holds

abbrev s6 : SystemState
s6 = ticked suspended_receive 1 s5 emitted

abbrev pub s7 : SystemState
s7 = ticked suspended_receive 0 s6 sent

abbrev the_join : JoinRecord
the_join = record { value = pos 7; sender_ticks = 1; receiver_ticks = 2 }

abbrev suspended : List (Option ℤ)
suspended = Some (pos 0) ∷ None ∷ []

turned : TakesTurns suspended_receive (start suspended_receive) receiver_first
    (MakesTick 1 (None ∷ None ∷ []) ∷ MakesTick 1 suspended ∷ MakesTick 0 (None ∷ []) ∷ MakesJoin 0 the_join ∷ MakesTick 1 suspended ∷ MakesTick 1 (None ∷ Some (pos 7) ∷ []) ∷
    MakesTick 0 (Some (pos 0) ∷ []) ∷ []) s7
turned =
    takes_turn suspended_receive 1 (1 ∷ 0 ∷ 1 ∷ 1 ∷ 0 ∷ []) (start suspended_receive) s1 s7 receiving [] _ (omega arith) refl
    (inner, (quiet 1 (ReceiveWaits 0) zeros, refl, refl), refl) refl
    (no_join suspended_receive 1 s1 (λ v w. either (λ x. x) (λ x. x) w.sends))
    (takes_turn suspended_receive 1 (0 ∷ 1 ∷ 1 ∷ 0 ∷ []) s1 s2 s7 waits [] _ (omega arith) refl refl refl
    (no_join suspended_receive 1 s2 (λ v w. either (λ x. x) (λ x. x) w.sends))
    (takes_turn suspended_receive 0 (1 ∷ 1 ∷ 0 ∷ []) s2 s4 s7 sending (MakesJoin 0 the_join ∷ []) _ (omega arith) refl (quiet 1 (SendWaits 0 (pos 7)) zeros, (pos 7, refl, refl), refl) refl
    (one_join suspended_receive 0 (pos 7) s3 (omega arith) (inl refl) (inl (refl, refl)) (inl refl))
    (takes_turn suspended_receive 1 (1 ∷ 0 ∷ []) s4 s5 s7 holds [] _ (omega arith) refl refl refl
    (no_join suspended_receive 1 s5 (λ v w. either (λ x. x) (λ x. x) w.sends))
    (takes_turn suspended_receive 1 (0 ∷ []) s5 s6 s7 emitted [] _ (omega arith) refl (emitted, (ends_with [] zeros, refl, (emitted, (pos 7, refl, refl), refl)), refl) refl
    (no_join suspended_receive 1 s6 (λ v w. w.receives))
    (takes_turn suspended_receive 0 [] s6 s7 s7 sent [] [] (omega arith) refl (ends_with [] zeros, refl, (sent, (pos 0, refl, refl), refl)) refl
    (no_join suspended_receive 0 s7 (λ v w. w.sends)) (refl, refl))))))

abbrev t1 : ℕ → ℕ
t1 = put_at (λ d. 0) 1 1

abbrev t2 : ℕ → ℕ
t2 = put_at t1 1 2

abbrev t3 : ℕ → ℕ
t3 = put_at t2 0 1

abbrev t4 : ℕ → ℕ
t4 = put_at t3 1 3

abbrev t5 : ℕ → ℕ
t5 = put_at t4 1 4

abbrev t6 : ℕ → ℕ
t6 = put_at t5 0 2

all_ticks : (d : ℕ) → t6 d ≡ tick_count (suspended_run (suspended_join ∷ [])) d
all_ticks zero = refl
all_ticks (suc zero) = refl
all_ticks (suc (suc d)) = none_past t5 0 2 (omega arith) (none_past t4 1 4 (omega arith) (none_past t3 1 3 (omega arith) (none_past t2 0 1 (omega arith) (none_past t1 1 2 (omega arith) (none_past (λ d. 0) 1 1 (omega arith) (λ d. refl)))))) d

all_joins : (c : ℕ) → put_at (λ c. 0) 0 1 c ≡ join_count (suspended_run (suspended_join ∷ [])) c
all_joins zero = refl
all_joins (suc c) = put_apart (λ c. 0) 0 1 (suc c) (λ e. omega arith)

all_marks : (d : ℕ) → d < 2 → (log_of (suspended_run (suspended_join ∷ [])) d).mark ≡ (s7.domain d).mark
all_marks zero h = refl
all_marks (suc zero) h = refl
all_marks (suc (suc d)) h = absurd (omega arith)

fits : Fits suspended_receive (suspended_run (suspended_join ∷ []))
fits = record { logs = refl; histories = refl }

pub suspended-scheduled : IsScheduledRun suspended_receive (suspended_run (suspended_join ∷ [])) receiver_first s7
suspended-scheduled =
    scheduled_by_step suspended_receive (suspended_run (suspended_join ∷ [])) receiver_first _ s7 system fresh fits turned
    (omega arith, refl, (omega arith, refl, (omega arith, refl, (omega arith, refl, (omega arith, refl, (omega arith, refl, (omega arith, refl, (all_ticks, all_joins))))))))
    (refl, (refl, (refl, (refl, (refl, (refl, (refl, tt))))))) all_marks

pub suspended-whole : IsWholeRun suspended_receive (suspended_run (suspended_join ∷ [])) receiver_first
suspended-whole = scheduled_runs_are_whole suspended_receive (suspended_run (suspended_join ∷ [])) receiver_first s7 system fresh fits suspended-scheduled

-- with the join after the receiver's first tick its second one has at least stamp 3
pub suspended-refused : (end : SystemState) → IsLegalRun suspended_receive (suspended_run (too_early ∷ [])) end → ⊥
suspended-refused end l =
    let next = later_stamp suspended_receive (suspended_run (too_early ∷ [])) l.stamps 1 0 (omega arith) in
    let low = next.2.joins 2 (0, 0, record { channel = omega arith; stands = omega arith; number = inr (refl, refl) }, refl) in
    let e = next.1 in
    omega arith
