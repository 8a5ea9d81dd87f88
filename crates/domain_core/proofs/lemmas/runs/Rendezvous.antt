-- A rendezvous of two domains, step by step.
use Rattle.std.proofs.Common.{◌≡◌, ◌≢◌, ℕ, zero, suc, ℤ, pos, ◌<◌, List, [], ◌∷◌, refl, sym, subst, inl, inr, arith}
use Rattle.std.specs.Prelude.{Option, Some, None}
use Rattle.java_values.specs.declared.kind.Kind.TheVariants as kind
use Rattle.kernel_terms.specs.Expressions.{ChannelValue}
use Rattle.kernel_terms.specs.Statements.{Emit, Seq, SendWaits, ReceiveWaits}
use Rattle.kernel_rules.specs.definitions.Signals.{put_at}
use Rattle.kernel_rules.specs.definitions.TickRule.{Tick, quiet, ends_with, as_whole}
use Rattle.tick_log.specs.definitions.Runs.{log_of, tick_count, join_count}
use Rattle.domain_core.specs.definitions.runs.Systems.{SystemState, JoinRecord, Move, MakesTick, MakesJoin, IsSystem, IsFresh, WaitsToSend, WaitsToReceive, Steps, start, start_of, sender_of, receiver_of}
use Rattle.domain_core.specs.definitions.runs.LegalRuns.{IsLegalRun, Fits}
use Rattle.domain_core.specs.definitions.runs.Scheduled.{TakesTurns, IsScheduledRun, IsWholeRun}
use Rattle.domain_core.specs.Rows.{rendezvous, rendezvous_run, two_rounds, first_ticks}
use Rattle.domain_core.proofs.lemmas.runs.StatesBetweenTicks.{put_apart}
use Rattle.domain_core.proofs.lemmas.runs.WorkedRuns.{ticked, tick_step, zeros, either, joined, no_join, one_join, takes_turn, none_past}
use Rattle.domain_core.proofs.lemmas.runs.StampRuleLemmas.{later_stamp}
use Rattle.domain_core.proofs.lemmas.runs.ScheduledTurns.{scheduled_by_step, scheduled_runs_are_whole}

abbrev pub sending : Tick
sending = as_whole 1 (Seq (SendWaits 0 (pos 5)) (Emit 0 None)) (quiet 1 (SendWaits 0 (pos 5)) zeros)

abbrev pub receiving : Tick
receiving = as_whole 1 (Seq (ReceiveWaits 0) (Emit 1 (Some (ChannelValue kind.Int 0)))) (quiet 1 (ReceiveWaits 0) zeros)

abbrev pub sent : Tick
sent = ends_with (record { signal = 0; value = pos 0 } ∷ []) zeros

abbrev pub received : Tick
received = ends_with (record { signal = 1; value = pos 5 } ∷ []) zeros

abbrev s1 : SystemState
s1 = ticked rendezvous 0 (start rendezvous) sending

abbrev s2 : SystemState
s2 = ticked rendezvous 1 s1 receiving

abbrev the_join : JoinRecord
the_join = record { value = pos 5; sender_ticks = 1; receiver_ticks = 1 }

abbrev s3 : SystemState
s3 = joined rendezvous 0 (pos 5) s2

abbrev s4 : SystemState
s4 = ticked rendezvous 0 s3 sent

abbrev pub s5 : SystemState
s5 = ticked rendezvous 1 s4 received

abbrev absent : List (Option ℤ)
absent = None ∷ []

abbrev moves : List Move
moves = MakesTick 0 absent ∷ MakesTick 1 absent ∷ MakesJoin 0 the_join ∷ MakesTick 0 (Some (pos 0) ∷ []) ∷ MakesTick 1 (Some (pos 5) ∷ []) ∷ []

turned : TakesTurns rendezvous (start rendezvous) two_rounds moves s5
turned =
    takes_turn rendezvous 0 (1 ∷ 0 ∷ 1 ∷ []) (start rendezvous) s1 s5 sending [] _ (omega arith) refl (quiet 1 (SendWaits 0 (pos 5)) zeros, (pos 5, refl, refl), refl) refl
    (no_join rendezvous 0 s1 (λ v w. either (λ x. x) (λ x. x) w.receives))
    (takes_turn rendezvous 1 (0 ∷ 1 ∷ []) s1 s3 s5 receiving (MakesJoin 0 the_join ∷ []) _ (omega arith) refl (quiet 1 (ReceiveWaits 0) zeros, refl, refl) refl
    (one_join rendezvous 1 (pos 5) s2 (omega arith) (inr refl) (inl (refl, refl)) (inl refl))
    (takes_turn rendezvous 0 (1 ∷ []) s3 s4 s5 sent [] _ (omega arith) refl (ends_with [] zeros, refl, (sent, (pos 0, refl, refl), refl)) refl
    (no_join rendezvous 0 s4 (λ v w. w.sends))
    (takes_turn rendezvous 1 [] s4 s5 s5 received [] [] (omega arith) refl (ends_with [] zeros, refl, (received, (pos 5, refl, refl), refl)) refl
    (no_join rendezvous 1 s5 (λ v w. w.sends)) (refl, refl))))

abbrev t1 : ℕ → ℕ
t1 = put_at (λ d. 0) 0 1

abbrev t2 : ℕ → ℕ
t2 = put_at t1 1 1

abbrev t3 : ℕ → ℕ
t3 = put_at t2 0 2

all_ticks : (d : ℕ) → put_at t3 1 2 d ≡ tick_count (rendezvous_run 3) d
all_ticks zero = refl
all_ticks (suc zero) = refl
all_ticks (suc (suc d)) =
    none_past t3 1 2 (omega arith) (none_past t2 0 2 (omega arith) (none_past t1 1 1 (omega arith) (none_past (λ d. 0) 0 1 (omega arith) (λ d. refl)))) d

all_joins : (c : ℕ) → put_at (λ c. 0) 0 1 c ≡ join_count (rendezvous_run 3) c
all_joins zero = refl
all_joins (suc c) = put_apart (λ c. 0) 0 1 (suc c) (λ e. omega arith)

marks : (d : ℕ) → d < 2 → (log_of (rendezvous_run 3) d).mark ≡ (s5.domain d).mark
marks zero h = refl
marks (suc zero) h = refl
marks (suc (suc d)) h = absurd (omega arith)

fresh : IsFresh rendezvous
fresh = record { sends = s; receives = g }
  where
    s : (d c : ℕ) (v : ℤ) → WaitsToSend c v (start_of rendezvous d).statement → ⊥
    s zero c v h = either (λ x. x) (λ x. x) h
    s (suc zero) c v h = either (λ x. x) (λ x. x) h
    s (suc (suc d)) c v h = h

    g : (d c : ℕ) → WaitsToReceive c (start_of rendezvous d).statement → ⊥
    g zero c h = either (λ x. x) (λ x. x) h
    g (suc zero) c h = either (λ x. x) (λ x. x) h
    g (suc (suc d)) c h = h

pub system : IsSystem rendezvous
system = record {
  sender = λ c h. let e : c ≡ 0 = omega arith in subst (λ z. sender_of rendezvous z < 2) (sym e) (omega arith);
  receiver = λ c h. let e : c ≡ 0 = omega arith in subst (λ z. receiver_of rendezvous z < 2) (sym e) (omega arith);
  apart = λ c h. let e : c ≡ 0 = omega arith in subst (λ z. sender_of rendezvous z ≢ receiver_of rendezvous z) (sym e) (λ x. omega arith);
}

fits : Fits rendezvous (rendezvous_run 3)
fits = record { logs = refl; histories = refl }

pub rendezvous-scheduled : IsScheduledRun rendezvous (rendezvous_run 3) two_rounds s5
rendezvous-scheduled =
    scheduled_by_step rendezvous (rendezvous_run 3) two_rounds moves s5 system fresh fits turned
    (omega arith, refl, (omega arith, refl, (omega arith, refl, (omega arith, refl, (omega arith, refl, (all_ticks, all_joins))))))
    (refl, (refl, (refl, (refl, (refl, tt)))))
    marks

pub rendezvous-whole : IsWholeRun rendezvous (rendezvous_run 3) two_rounds
rendezvous-whole = scheduled_runs_are_whole rendezvous (rendezvous_run 3) two_rounds s5 system fresh fits rendezvous-scheduled

pub first-steps : (end : SystemState) × Steps rendezvous (start rendezvous) first_ticks end
first-steps = (
  s2,
  (
    s1,
    (omega arith, tick_step rendezvous 0 (start rendezvous) sending refl (quiet 1 (SendWaits 0 (pos 5)) zeros, (pos 5, refl, refl), refl) refl),
    (s2, (omega arith, tick_step rendezvous 1 s1 receiving refl (quiet 1 (ReceiveWaits 0) zeros, refl, refl) refl), refl),
  ),
)

-- the join has stamp 2, so the tick after it has at least 3
pub early-refused : (end : SystemState) → IsLegalRun rendezvous (rendezvous_run 2) end → ⊥
early-refused end l =
    let next = later_stamp rendezvous (rendezvous_run 2) l.stamps 0 0 (omega arith) in
    let low = next.2.joins 2 (0, 0, record { channel = omega arith; stands = omega arith; number = inl (refl, refl) }, refl) in
    let e = next.1 in
    omega arith
