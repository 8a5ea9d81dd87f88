-- An abort of a send: before the join the offer is withdrawn, and after it the join stays.
use Rattle.std.proofs.Common.{◌≡◌, ◌≢◌, ℕ, zero, suc, ℤ, pos, ◌<◌, true, false, List, [], ◌∷◌, refl, sym, subst, inl, inr, arith}
use Rattle.std.specs.Prelude.{Option, Some, None}
use Rattle.java_values.specs.declared.kind.Kind.TheVariants as kind
use Rattle.kernel_terms.specs.Expressions.{ChannelValue, IsPresent}
use Rattle.kernel_terms.specs.Statements.{Emit, Seq, Abort, SendWaits, ReceiveWaits}
use Rattle.kernel_rules.specs.definitions.Signals.{put_at}
use Rattle.kernel_rules.specs.definitions.TickRule.{Tick, quiet, ends_with, as_whole}
use Rattle.tick_log.specs.definitions.Runs.{log_of, tick_count, join_count}
use Rattle.domain_core.specs.definitions.runs.Systems.{SystemState, JoinRecord, MakesTick, MakesJoin, IsSystem, IsFresh, WaitsToSend, WaitsToReceive, start, start_of, sender_of, receiver_of}
use Rattle.domain_core.specs.definitions.runs.LegalRuns.{IsLegalRun, Fits}
use Rattle.domain_core.specs.definitions.runs.Scheduled.{TakesTurns, IsScheduledRun, IsWholeRun}
use Rattle.domain_core.specs.Rows.{aborted_send, withdrawn_run, receiver_last, joined_run, early_join, two_rounds}
use Rattle.domain_core.proofs.lemmas.runs.StatesBetweenTicks.{put_apart}
use Rattle.domain_core.proofs.lemmas.runs.StampRuleLemmas.{later_stamp}
use Rattle.domain_core.proofs.lemmas.runs.WorkedRuns.{ticked, zeros, either, joined, no_join, one_join, takes_turn, none_past}
use Rattle.domain_core.proofs.lemmas.runs.ScheduledTurns.{scheduled_by_step, scheduled_runs_are_whole}

abbrev sending : Tick
sending = as_whole 1 (Seq (Abort false true (IsPresent 0) (Seq (SendWaits 0 (pos 1)) (Emit 1 None))) (Emit 2 None)) (quiet 1 (SendWaits 0 (pos 1)) zeros)

abbrev inner : Tick
inner = as_whole 1 (Seq (SendWaits 0 (pos 1)) (Emit 1 None)) (quiet 1 (SendWaits 0 (pos 1)) zeros)

abbrev outer : Tick
outer = as_whole 1 (Abort false true (IsPresent 0) (Seq (SendWaits 0 (pos 1)) (Emit 1 None))) inner

abbrev aborted : Tick
aborted = ends_with (record { signal = 2; value = pos 0 } ∷ []) zeros

abbrev receiving : Tick
receiving = as_whole 1 (Seq (ReceiveWaits 0) (Emit 3 (Some (ChannelValue kind.Int 0)))) (quiet 1 (ReceiveWaits 0) zeros)

abbrev received : Tick
received = ends_with (record { signal = 3; value = pos 1 } ∷ []) zeros

abbrev none0 : List (Option ℤ)
none0 = None ∷ None ∷ None ∷ []

abbrev none1 : List (Option ℤ)
none1 = None ∷ []

abbrev abort0 : List (Option ℤ)
abort0 = Some (pos 0) ∷ None ∷ Some (pos 0) ∷ []

fresh : IsFresh aborted_send
fresh = record { sends = s; receives = g }
  where
    s : (d c : ℕ) (v : ℤ) → WaitsToSend c v (start_of aborted_send d).statement → ⊥
    s zero c v h = either (either (λ x. x) (λ x. x)) (λ x. x) h
    s (suc zero) c v h = either (λ x. x) (λ x. x) h
    s (suc (suc d)) c v h = h

    g : (d c : ℕ) → WaitsToReceive c (start_of aborted_send d).statement → ⊥
    g zero c h = either (either (λ x. x) (λ x. x)) (λ x. x) h
    g (suc zero) c h = either (λ x. x) (λ x. x) h
    g (suc (suc d)) c h = h

system : IsSystem aborted_send
system = record {
  sender = λ c h. let e : c ≡ 0 = omega arith in subst (λ z. sender_of aborted_send z < 2) (sym e) (omega arith);
  receiver = λ c h. let e : c ≡ 0 = omega arith in subst (λ z. receiver_of aborted_send z < 2) (sym e) (omega arith);
  apart = λ c h. let e : c ≡ 0 = omega arith in subst (λ z. sender_of aborted_send z ≢ receiver_of aborted_send z) (sym e) (λ x. omega arith);
}

-- the offer is withdrawn
abbrev a1 : SystemState
a1 = ticked aborted_send 0 (start aborted_send) sending

abbrev a2 : SystemState
a2 = ticked aborted_send 0 a1 aborted

abbrev pub a3 : SystemState
a3 = ticked aborted_send 1 a2 receiving

a_turned : TakesTurns aborted_send (start aborted_send) receiver_last (MakesTick 0 none0 ∷ MakesTick 0 abort0 ∷ MakesTick 1 none1 ∷ []) a3
a_turned =
    takes_turn aborted_send 0 (0 ∷ 1 ∷ []) (start aborted_send) a1 a3 sending [] _ (omega arith) refl
    (outer, (inner, (quiet 1 (SendWaits 0 (pos 1)) zeros, (pos 1, refl, refl), refl), refl), refl) refl
    (no_join aborted_send 0 a1 (λ v w. either (λ x. x) (λ x. x) w.receives))
    (takes_turn aborted_send 0 (1 ∷ []) a1 a2 a3 aborted [] _ (omega arith) refl (ends_with [] zeros, refl, (aborted, (pos 0, refl, refl), refl)) refl
    (no_join aborted_send 0 a2 (λ v w. w.sends))
    (takes_turn aborted_send 1 [] a2 a3 a3 receiving [] [] (omega arith) refl (quiet 1 (ReceiveWaits 0) zeros, refl, refl) refl
    (no_join aborted_send 1 a3 (λ v w. w.sends)) (refl, refl)))

abbrev ta1 : ℕ → ℕ
ta1 = put_at (λ d. 0) 0 1

abbrev ta2 : ℕ → ℕ
ta2 = put_at ta1 0 2

abbrev ta3 : ℕ → ℕ
ta3 = put_at ta2 1 1

a_ticks : (d : ℕ) → ta3 d ≡ tick_count (withdrawn_run []) d
a_ticks zero = refl
a_ticks (suc zero) = refl
a_ticks (suc (suc d)) = none_past ta2 1 1 (omega arith) (none_past ta1 0 2 (omega arith) (none_past (λ d. 0) 0 1 (omega arith) (λ d. refl))) d

a_joins : (c : ℕ) → 0 ≡ join_count (withdrawn_run []) c
a_joins zero = refl
a_joins (suc c) = refl

a_marks : (d : ℕ) → d < 2 → (log_of (withdrawn_run []) d).mark ≡ (a3.domain d).mark
a_marks zero h = refl
a_marks (suc zero) h = refl
a_marks (suc (suc d)) h = absurd (omega arith)

a_fits : Fits aborted_send (withdrawn_run [])
a_fits = record { logs = refl; histories = refl }

pub withdrawn-scheduled : IsScheduledRun aborted_send (withdrawn_run []) receiver_last a3
withdrawn-scheduled =
    scheduled_by_step aborted_send (withdrawn_run []) receiver_last _ a3 system fresh a_fits a_turned
    (omega arith, refl, (omega arith, refl, (omega arith, refl, (a_ticks, a_joins)))) (refl, (refl, (refl, tt))) a_marks

pub withdrawn-whole : IsWholeRun aborted_send (withdrawn_run []) receiver_last
withdrawn-whole = scheduled_runs_are_whole aborted_send (withdrawn_run []) receiver_last a3 system fresh a_fits withdrawn-scheduled

-- with the join the second tick of domain 0 has at least stamp 3
pub withdrawn-refused : (end : SystemState) → IsLegalRun aborted_send (withdrawn_run (early_join ∷ [])) end → ⊥
withdrawn-refused end l =
    let next = later_stamp aborted_send (withdrawn_run (early_join ∷ [])) l.stamps 0 0 (omega arith) in
    let low = next.2.joins 2 (0, 0, record { channel = omega arith; stands = omega arith; number = inl (refl, refl) }, refl) in
    let e = next.1 in
    omega arith

-- the join comes first, and stays
abbrev b2 : SystemState
b2 = ticked aborted_send 1 a1 receiving

abbrev b3 : SystemState
b3 = joined aborted_send 0 (pos 1) b2

abbrev b4 : SystemState
b4 = ticked aborted_send 0 b3 aborted

abbrev pub b5 : SystemState
b5 = ticked aborted_send 1 b4 received

abbrev b_join : JoinRecord
b_join = record { value = pos 1; sender_ticks = 1; receiver_ticks = 1 }

b_turned : TakesTurns aborted_send (start aborted_send) two_rounds (MakesTick 0 none0 ∷ MakesTick 1 none1 ∷ MakesJoin 0 b_join ∷ MakesTick 0 abort0 ∷ MakesTick 1 (Some (pos 1) ∷ []) ∷ []) b5
b_turned =
    takes_turn aborted_send 0 (1 ∷ 0 ∷ 1 ∷ []) (start aborted_send) a1 b5 sending [] _ (omega arith) refl
    (outer, (inner, (quiet 1 (SendWaits 0 (pos 1)) zeros, (pos 1, refl, refl), refl), refl), refl) refl
    (no_join aborted_send 0 a1 (λ v w. either (λ x. x) (λ x. x) w.receives))
    (takes_turn aborted_send 1 (0 ∷ 1 ∷ []) a1 b3 b5 receiving (MakesJoin 0 b_join ∷ []) _ (omega arith) refl (quiet 1 (ReceiveWaits 0) zeros, refl, refl) refl
    (one_join aborted_send 1 (pos 1) b2 (omega arith) (inr refl) (inl (inl (refl, refl))) (inl refl))
    (takes_turn aborted_send 0 (1 ∷ []) b3 b4 b5 aborted [] _ (omega arith) refl (ends_with [] zeros, refl, (aborted, (pos 0, refl, refl), refl)) refl
    (no_join aborted_send 0 b4 (λ v w. w.sends))
    (takes_turn aborted_send 1 [] b4 b5 b5 received [] [] (omega arith) refl (ends_with [] zeros, refl, (received, (pos 1, refl, refl), refl)) refl
    (no_join aborted_send 1 b5 (λ v w. w.sends)) (refl, refl))))

abbrev tb1 : ℕ → ℕ
tb1 = put_at (λ d. 0) 0 1

abbrev tb2 : ℕ → ℕ
tb2 = put_at tb1 1 1

abbrev tb3 : ℕ → ℕ
tb3 = put_at tb2 0 2

abbrev tb4 : ℕ → ℕ
tb4 = put_at tb3 1 2

b_ticks : (d : ℕ) → tb4 d ≡ tick_count (joined_run (early_join ∷ [])) d
b_ticks zero = refl
b_ticks (suc zero) = refl
b_ticks (suc (suc d)) = none_past tb3 1 2 (omega arith) (none_past tb2 0 2 (omega arith) (none_past tb1 1 1 (omega arith) (none_past (λ d. 0) 0 1 (omega arith) (λ d. refl)))) d

b_joins : (c : ℕ) → put_at (λ c. 0) 0 1 c ≡ join_count (joined_run (early_join ∷ [])) c
b_joins zero = refl
b_joins (suc c) = put_apart (λ c. 0) 0 1 (suc c) (λ e. omega arith)

b_marks : (d : ℕ) → d < 2 → (log_of (joined_run (early_join ∷ [])) d).mark ≡ (b5.domain d).mark
b_marks zero h = refl
b_marks (suc zero) h = refl
b_marks (suc (suc d)) h = absurd (omega arith)

b_fits : Fits aborted_send (joined_run (early_join ∷ []))
b_fits = record { logs = refl; histories = refl }

pub joined-scheduled : IsScheduledRun aborted_send (joined_run (early_join ∷ [])) two_rounds b5
joined-scheduled =
    scheduled_by_step aborted_send (joined_run (early_join ∷ [])) two_rounds _ b5 system fresh b_fits b_turned
    (omega arith, refl, (omega arith, refl, (omega arith, refl, (omega arith, refl, (omega arith, refl, (b_ticks, b_joins))))))
    (refl, (refl, (refl, (refl, (refl, tt))))) b_marks

pub joined-whole : IsWholeRun aborted_send (joined_run (early_join ∷ [])) two_rounds
joined-whole = scheduled_runs_are_whole aborted_send (joined_run (early_join ∷ [])) two_rounds b5 system fresh b_fits joined-scheduled

-- without the join the second tick of domain 0 has stamp 2
pub joined-refused : (end : SystemState) → IsLegalRun aborted_send (joined_run []) end → ⊥
joined-refused end l =
    let next = later_stamp aborted_send (joined_run []) l.stamps 0 0 (omega arith) in
    let e = next.1 in
    elim next.2.attained [ inl q ↦ omega arith | inr q ↦ no_row q.0 q.1 q.2.stands ]
  where
    no_row : (c i : ℕ) → i < join_count (joined_run []) c → ⊥
    no_row zero i h = omega arith
    no_row (suc c) i h = omega arith
