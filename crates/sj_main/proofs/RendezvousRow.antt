-- A send and a receive of two domains, from the bytes to the text.
use Rattle.std.proofs.Common.{◌≡◌, ◌≢◌, inl, inr, ℕ, zero, suc, ◌<◌, pos, ℤ, List, [], ◌∷◌, refl, ◌∙◌, arith}
use Rattle.std.specs.Prelude.{Option, Some, None, codes, decimal}
use Rattle.std.proofs.lemmas.Fmt.{decimal_digit}
use Rattle.java_values.specs.declared.kind.Kind.TheVariants.{Int}
use Rattle.kernel_terms.specs.Expressions.{Literal}
use Rattle.kernel_terms.specs.Marks.{Ended}
use Rattle.kernel_terms.specs.Statements.{Emit, Seq, Send, Receive, SendWaits, ReceiveWaits}
use Rattle.kernel_rules.specs.definitions.Signals.{put_at}
use Rattle.kernel_rules.specs.definitions.TickRule.{Tick, quiet, ends_with, as_whole}
use Rattle.tick_log.specs.definitions.Runs.{RunState, log_of, tick_count, join_count}
use Rattle.domain_core.specs.definitions.runs.Systems.{Setup, SystemState, JoinRecord, Move, MakesTick, MakesJoin, IsSystem, start}
use Rattle.domain_core.specs.definitions.runs.Scheduled.{TakesTurns}
use Rattle.domain_core.proofs.lemmas.runs.StatesBetweenTicks.{put_apart}
use Rattle.domain_core.proofs.lemmas.runs.WorkedRuns.{ticked, zeros, either, joined, no_join, one_join}
use Rattle.sj_main.specs.declared.commands.Turns.TheVariants.{Each}
use Rattle.sj_main.specs.definitions.Verdicts.{IsTextOfRun}
use Rattle.sj_accept.specs.SmallPrograms.{rendezvous}
use Rattle.sj_accept.proofs.SmallSources.{rendezvous_source}
use Rattle.sj_accept.proofs.SmallPrograms.{two_domains, rendezvous_is_source, rendezvous_statements}
use Rattle.sj_main.proofs.RowLemmas.{setup_with, zero_text, one_text, two_text, three_text, all_none, all_more, AreWaitless, waitless_both, Makes, turn_joined, turn_taken, IsShownBy, told_run}

abbrev setup : Setup
setup = setup_with rendezvous two_domains

waitless : AreWaitless two_domains
waitless = (
  waitless_both (Send 0 (Literal Int (pos 5))) (Emit 0 None) (record { sends = λ c v w. w; receives = λ c w. w }) (record { sends = λ c v w. w; receives = λ c w. w }),
  (waitless_both (Receive 0) (Emit 1 None) (record { sends = λ c v w. w; receives = λ c w. w }) (record { sends = λ c v w. w; receives = λ c w. w }), tt),
)

system : IsSystem setup
system = record { sender = sender; receiver = receiver; apart = apart }
  where
    sender : (c : ℕ) → c < 1 → Rattle.domain_core.specs.definitions.runs.Systems.sender_of setup c < 2
    sender zero h = omega arith
    sender (suc c) h = absurd (omega arith)

    receiver : (c : ℕ) → c < 1 → Rattle.domain_core.specs.definitions.runs.Systems.receiver_of setup c < 2
    receiver zero h = omega arith
    receiver (suc c) h = absurd (omega arith)

    apart : (c : ℕ) → c < 1 → Rattle.domain_core.specs.definitions.runs.Systems.sender_of setup c ≢ Rattle.domain_core.specs.definitions.runs.Systems.receiver_of setup c
    apart zero h = λ e. omega arith
    apart (suc c) h = absurd (omega arith)

-- the ticks and the join

abbrev sending : Tick
sending = as_whole 1 (Seq (SendWaits 0 (pos 5)) (Emit 0 None)) (quiet 1 (SendWaits 0 (pos 5)) zeros)

abbrev receiving : Tick
receiving = as_whole 1 (Seq (ReceiveWaits 0) (Emit 1 None)) (quiet 1 (ReceiveWaits 0) zeros)

abbrev emitting : ℕ → Tick
emitting s = ends_with (record { signal = s; value = pos 0 } ∷ []) zeros

abbrev s1 : SystemState
s1 = ticked setup 0 (start setup) sending

abbrev s2 : SystemState
s2 = ticked setup 1 s1 receiving

abbrev the_join : JoinRecord
the_join = record { value = pos 5; sender_ticks = 1; receiver_ticks = 1 }

abbrev s3 : SystemState
s3 = joined setup 0 (pos 5) s2

abbrev s4 : SystemState
s4 = ticked setup 0 s3 (emitting 0)

abbrev s5 : SystemState
s5 = ticked setup 1 s4 (emitting 1)

makes1 : Makes setup 0 (start setup) sending
makes1 = record { within = omega arith; goes_on = refl; ticks = (quiet 1 (SendWaits 0 (pos 5)) zeros, (pos 5, refl, refl), refl); code = refl }

makes2 : Makes setup 1 s1 receiving
makes2 = record { within = omega arith; goes_on = refl; ticks = (quiet 1 (ReceiveWaits 0) zeros, refl, refl); code = refl }

makes4 : Makes setup 0 s3 (emitting 0)
makes4 = record { within = omega arith; goes_on = refl; ticks = (ends_with [] zeros, refl, (emitting 0, (pos 0, refl, refl), refl)); code = refl }

makes5 : Makes setup 1 s4 (emitting 1)
makes5 = record { within = omega arith; goes_on = refl; ticks = (ends_with [] zeros, refl, (emitting 1, (pos 0, refl, refl), refl)); code = refl }

abbrev absent : List (Option ℤ)
absent = None ∷ []

abbrev present : List (Option ℤ)
present = Some (pos 0) ∷ []

abbrev moves : List Move
moves = MakesTick 0 absent ∷ MakesTick 1 absent ∷ MakesJoin 0 the_join ∷ MakesTick 0 present ∷ MakesTick 1 present ∷ []

last_turns : TakesTurns setup s3 (0 ∷ 1 ∷ []) (MakesTick 0 present ∷ MakesTick 1 present ∷ []) s5
last_turns =
    turn_taken setup 0 s3 (emitting 0) (1 ∷ []) (MakesTick 1 present ∷ []) s5 makes4 (no_join setup 0 s4 (λ v w. w.sends))
    (turn_taken setup 1 s4 (emitting 1) [] [] s5 makes5 (no_join setup 1 s5 (λ v w. w.sends)) (refl, refl))

turned : TakesTurns setup (start setup) (0 ∷ 1 ∷ 0 ∷ 1 ∷ []) moves s5
turned =
    turn_taken setup 0 (start setup) sending (1 ∷ 0 ∷ 1 ∷ []) (MakesTick 1 absent ∷ MakesJoin 0 the_join ∷ MakesTick 0 present ∷ MakesTick 1 present ∷ []) s5 makes1
    (no_join setup 0 s1 (λ v w. either (λ x. x) (λ x. x) w.receives))
    (turn_joined setup 1 s1 s3 receiving (0 ∷ 1 ∷ []) (MakesJoin 0 the_join ∷ []) (MakesTick 0 present ∷ MakesTick 1 present ∷ []) s5 makes2
    (one_join setup 1 (pos 5) s2 (omega arith) (inr refl) (inl (refl, refl)) (inl refl)) last_turns)

abbrev the_run : RunState
the_run = record {
  logs =
      record { entries = record { stamp = 1; statuses = absent } ∷ record { stamp = 3; statuses = present } ∷ []; mark = Ended } ∷
      record { entries = record { stamp = 1; statuses = absent } ∷ record { stamp = 3; statuses = present } ∷ []; mark = Ended } ∷ [];
  histories = (record { value = pos 5; sender_ticks = 1; receiver_ticks = 1; stamp = 2 } ∷ []) ∷ [];
}

all_ticks : (d : ℕ) → put_at (put_at (put_at (put_at (λ d. 0) 0 1) 1 1) 0 2) 1 2 d ≡ tick_count the_run d
all_ticks zero = refl
all_ticks (suc zero) = refl
all_ticks (suc (suc d)) =
    put_apart (put_at (put_at (put_at (λ d. 0) 0 1) 1 1) 0 2) 1 2 (suc (suc d)) (λ e. omega arith)
    ∙ put_apart (put_at (put_at (λ d. 0) 0 1) 1 1) 0 2 (suc (suc d)) (λ e. omega arith)
    ∙ put_apart (put_at (λ d. 0) 0 1) 1 1 (suc (suc d)) (λ e. omega arith)
    ∙ put_apart (λ d. 0) 0 1 (suc (suc d)) (λ e. omega arith)

all_joins : (c : ℕ) → put_at (λ c. 0) 0 1 c ≡ join_count the_run c
all_joins zero = refl
all_joins (suc c) = put_apart (λ c. 0) 0 1 (suc c) (λ e. omega arith)

marks : (d : ℕ) → d < 2 → (log_of the_run d).mark ≡ (s5.domain d).mark
marks zero h = refl
marks (suc zero) h = refl
marks (suc (suc d)) h = absurd (omega arith)

shown : IsShownBy setup the_run (0 ∷ 1 ∷ 0 ∷ 1 ∷ []) s5
shown = record {
  moves = moves;
  turned = turned;
  tells = (omega arith, refl, (omega arith, refl, (omega arith, refl, (omega arith, refl, (omega arith, refl, (all_ticks, all_joins))))));
  stamps = (refl, (refl, (refl, (refl, (refl, tt)))));
  marks = marks;
}

five_text : decimal 5 ≡ 53 ∷ []
five_text = decimal_digit 5 (omega arith)

pub one_rendezvous : IsTextOfRun rendezvous_source (Each (0 ∷ 1 ∷ 0 ∷ 1 ∷ [])) (codes "domain 0 ticks 2 ended\n1 @1\n2 @3 D\ndomain 1 ticks 2 ended\n1 @1\n2 @3 B\nchannel C 1\n1 5 1 1 @2\n")
one_rendezvous =
    told_run rendezvous_source (Each (0 ∷ 1 ∷ 0 ∷ 1 ∷ [])) (codes "domain 0 ticks 2 ended\n1 @1\n2 @3 D\ndomain 1 ticks 2 ended\n1 @1\n2 @3 B\nchannel C 1\n1 5 1 1 @2\n") rendezvous two_domains the_run s5 rendezvous_is_source rendezvous_statements
    (record {
      fit = all_more 2 0 (1 ∷ 0 ∷ 1 ∷ []) (omega arith) (all_more 2 1 (0 ∷ 1 ∷ []) (omega arith) (all_more 2 0 (1 ∷ []) (omega arith) (all_more 2 1 [] (omega arith) (all_none 2))));
      weight = omega arith;
    })
    system
    waitless
    (record { logs = refl; histories = refl })
    shown
    (rw (zero_text, one_text, two_text, three_text, five_text) refl)
