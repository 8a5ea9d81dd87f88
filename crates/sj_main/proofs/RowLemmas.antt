-- Small programs, their ticks and their runs.
use Rattle.std.proofs.Common.{◌≡◌, inl, inr, ℕ, zero, suc, ◌<◌, ◌≤◌, true, ℤ, pos, List, [], ◌∷◌, ◌++◌, length, get_or, refl, sym, ◌∙◌, subst, arith}
use Rattle.std.specs.Prelude.{Option, Some, None, All, codes, decimal}
use Rattle.std.proofs.lemmas.Fmt.{decimal_digit}
use Rattle.kernel_terms.specs.Marks.{Going, Ended, is_over}
use Rattle.kernel_terms.specs.Statements.{Stmt, Nothing, Pause, Emit, Seq, Loop}
use Rattle.kernel_rules.specs.definitions.Signals.{Emission, put_at}
use Rattle.kernel_rules.specs.definitions.TickRule.{Tick, Ticks, quiet, ends_with, as_whole}
use Rattle.kernel_rules.specs.definitions.LegalTick.{no_inputs, is_tick_code, shown_statuses}
use Rattle.tick_log.specs.definitions.Runs.{RunState, log_of, tick_count}
use Rattle.tick_log.specs.definitions.RunText.{run_text}
use Rattle.domain_core.specs.definitions.runs.Systems.{Setup, SystemState, Move, MakesTick, IsSystem, IsFresh, WaitsToSend, WaitsToReceive, start, domain_count, channel_count}
use Rattle.domain_core.specs.definitions.runs.LegalRuns.{Fits}
use Rattle.domain_core.specs.definitions.runs.Scheduled.{JoinsInTurn, TakesTurns, TellsFrom, IsScheduledRun, IsWholeRun}
use Rattle.domain_core.specs.runs.StampsByStep.{StampsFrom}
use Rattle.domain_core.proofs.lemmas.runs.StatesBetweenTicks.{put_apart}
use Rattle.domain_core.proofs.lemmas.runs.ScheduledTurns.{scheduled_by_step, scheduled_runs_are_whole}
use Rattle.domain_core.proofs.lemmas.runs.WorkedRuns.{env_in, ticked, takes_turn, zeros}
use Rattle.sj_main.specs.declared.commands.Turns.{Turns}
use Rattle.sj_main.specs.declared.commands.Turns.TheVariants.{Each}
use Rattle.sj_accept.specs.definitions.Programs.{LoweredProgram, domain_statements}
use Rattle.sj_accept.specs.definitions.Accepted.{IsSourceOf}
use Rattle.sj_main.specs.definitions.Commands.{turns_for, FitDomains, budgets_for}
use Rattle.sj_main.specs.definitions.RunWeight.{most_run_weight, run_weight}
use Rattle.sj_main.specs.definitions.Verdicts.{IsTextOfRun}
use Rattle.sj_accept.specs.SmallPrograms.{empty, blink, looping}
use Rattle.sj_accept.proofs.SmallSources.{empty_source, blink_source, loop_source}
use Rattle.sj_accept.proofs.SmallPrograms.{blinks, loops, loop_body, empty_is_source, blink_is_source, loop_is_source, empty_statements, blink_statements, loop_statements}

-- a program whose domains have these statements, as the rules take it
abbrev pub setup_with : LoweredProgram → List Stmt → Setup
setup_with p ps = record { tables = p.tables; statements = ps; inputs = no_inputs }

-- digits

pub zero_text : decimal 0 ≡ 48 ∷ []
zero_text = decimal_digit 0 (omega arith)

pub one_text : decimal 1 ≡ 49 ∷ []
one_text = decimal_digit 1 (omega arith)

pub two_text : decimal 2 ≡ 50 ∷ []
two_text = decimal_digit 2 (omega arith)

pub three_text : decimal 3 ≡ 51 ∷ []
three_text = decimal_digit 3 (omega arith)

-- lists of turns

pub all_none : (n : ℕ) → All (λ t. t < n) []
all_none n k d l = absurd (omega arith)

pub all_more : (n t : ℕ) (ts : List ℕ) → t < n → All (λ t. t < n) ts → All (λ t. t < n) (t ∷ ts)
all_more n t ts h a zero d l = h
all_more n t ts h a (suc k) d l = a k d (omega arith)

-- no statement of a program waits at its start

pub record IsWaitless (p : Stmt) : Type 0 where
  pub sends : (c : ℕ) (v : ℤ) → WaitsToSend c v p → ⊥
  pub receives : (c : ℕ) → WaitsToReceive c p → ⊥

abbrev pub AreWaitless : List Stmt → Type 0
AreWaitless [] = Unit {0}
AreWaitless (p ∷ ps) = IsWaitless p × AreWaitless ps

pub waitless_both : (p q : Stmt) → IsWaitless p → IsWaitless q → IsWaitless (Seq p q)
waitless_both p q a b = record { sends = λ c v w. elim w [ inl x ↦ a.sends c v x | inr x ↦ b.sends c v x ]; receives = λ c w. elim w [ inl x ↦ a.receives c x | inr x ↦ b.receives c x ] }

waitless_at : (ps : List Stmt) (d : ℕ) → AreWaitless ps → IsWaitless (get_or ps d Nothing)
waitless_at [] d a = record { sends = λ c v w. w; receives = λ c w. w }
waitless_at (p ∷ ps) zero a = a.0
waitless_at (p ∷ ps) (suc d) a = waitless_at ps d a.1

pub fresh : (p : LoweredProgram) (ps : List Stmt) → AreWaitless ps → IsFresh (setup_with p ps)
fresh p ps a = record { sends = λ d c v w. (waitless_at ps d a).sends c v w; receives = λ d c w. (waitless_at ps d a).receives c w }

-- turns that are taken

-- the tick that a domain makes in a state
pub record Makes (p : Setup) (d : ℕ) (s : SystemState) (o : Tick) : Type 0 where
  pub within : d < domain_count p
  pub goes_on : (s.domain d).mark ≡ Going
  pub ticks : Ticks p.tables (s.domain d).last (s.domain d).statement (env_in p (s.domain d) o) (s.domain d).variables o
  pub code : is_tick_code o.code ≡ true

-- a turn, after which these joins are made
pub turn_joined : (p : Setup) (d : ℕ) (s mid : SystemState) (o : Tick) (turns : List ℕ) (joins more : List Move) (end : SystemState) → Makes p d s o → JoinsInTurn p d 0 (channel_count p) (ticked p d s o) joins mid
    → TakesTurns p mid turns more end → TakesTurns p s (d ∷ turns) (MakesTick d (shown_statuses p.tables d (env_in p (s.domain d) o)) ∷ (joins ++ more)) end
turn_joined p d s mid o turns joins more end m j rest = takes_turn p d turns s mid end o joins more m.within m.goes_on m.ticks m.code j rest

-- a turn after which nothing is joined
pub turn_taken : (p : Setup) (d : ℕ) (s : SystemState) (o : Tick) (turns : List ℕ) (more : List Move) (end : SystemState) → Makes p d s o → JoinsInTurn p d 0 (channel_count p) (ticked p d s o) [] (ticked p d s o)
    → TakesTurns p (ticked p d s o) turns more end → TakesTurns p s (d ∷ turns) (MakesTick d (shown_statuses p.tables d (env_in p (s.domain d) o)) ∷ more) end
turn_taken p d s o turns more end m j rest = turn_joined p d s (ticked p d s o) o turns [] more end m j rest

-- the turn of an ended domain
pub turn_skipped : (p : Setup) (d : ℕ) (s : SystemState) (turns : List ℕ) (moves : List Move) (end : SystemState) → is_over (s.domain d).mark ≡ true → TakesTurns p s turns moves end → TakesTurns p s (d ∷ turns) moves end
turn_skipped p d s turns moves end e rest = inl (e, rest)

-- the moves of turns, and the logs and histories that show them
pub record IsShownBy (p : Setup) (run : RunState) (turns : List ℕ) (end : SystemState) : Type 0 where
  pub moves : List Move
  pub turned : TakesTurns p (start p) turns moves end
  pub tells : TellsFrom run (λ d. 0) (λ c. 0) moves
  pub stamps : StampsFrom p run (λ d. 0) (λ c. 0) (λ d. 0) (λ d. 0) moves
  pub marks : (d : ℕ) → d < domain_count p → (log_of run d).mark ≡ (end.domain d).mark

-- the turns fit so many domains, and their run isn't too heavy
pub record IsLight (p : LoweredProgram) (ps : List Stmt) (turns : Turns) : Type 0 where
  pub fit : FitDomains turns (length ps)
  pub weight : run_weight p.tables (budgets_for turns (length ps)) ≤ most_run_weight

-- the run of a source, whose domains have these statements, is told by its turns
pub told_run : (bytes : List ℕ) (turns : Turns) (text : List ℕ) (p : LoweredProgram) (ps : List Stmt) (run : RunState) (end : SystemState) → IsSourceOf bytes p → domain_statements p ≡ ps → IsLight p ps turns → IsSystem (setup_with p ps) → AreWaitless ps
    → Fits (setup_with p ps) run → IsShownBy (setup_with p ps) run (turns_for turns (length ps)) end → text ≡ run_text p.tables run → IsTextOfRun bytes turns text
told_run bytes turns text p ps run end source statements light system waitless fits shown is =
    let setup = setup_with p ps in
    let all = turns_for turns (length ps) in
    let new = fresh p ps waitless in
    let scheduled = scheduled_by_step setup run all shown.moves end system new fits shown.turned shown.tells shown.stamps shown.marks in
    let whole = scheduled_runs_are_whole setup run all end system new fits scheduled in
    let same = sym statements in
    record {
      program = p;
      source = source;
      can = record {
        fit = subst (λ (qs : List Stmt). FitDomains turns (length qs)) same light.fit;
        weight = subst (λ (qs : List Stmt). run_weight p.tables (budgets_for turns (length qs)) ≤ most_run_weight) same light.weight;
      };
      run = run;
      last = end;
      scheduled = subst (λ (qs : List Stmt). IsScheduledRun (setup_with p qs) run (turns_for turns (length qs)) end) same scheduled;
      whole = subst (λ (qs : List Stmt). IsWholeRun (setup_with p qs) run (turns_for turns (length qs))) same whole;
      is = is;
    }

-- one domain, and no channel

past_first : (f : ℕ → ℕ) (x d : ℕ) → put_at f 0 x (suc d) ≡ f (suc d)
past_first f x d = put_apart f 0 x (suc d) (λ e. omega arith)

no_channels : (p : Setup) → channel_count p ≡ 0 → IsSystem p
no_channels p e = record { sender = λ c h. absurd (omega arith); receiver = λ c h. absurd (omega arith); apart = λ c h. absurd (omega arith) }

waitless_emit : (s : ℕ) → IsWaitless (Emit s None)
waitless_emit s = record { sends = λ c v w. w; receives = λ c w. w }

waitless_blink : (s t : ℕ) → IsWaitless (Seq (Emit s None) (Seq Pause (Emit t None)))
waitless_blink s t = waitless_both (Emit s None) (Seq Pause (Emit t None)) (waitless_emit s) (waitless_both Pause (Emit t None) (record { sends = λ c v w. w; receives = λ c w. w }) (waitless_emit t))

abbrev empty_setup : Setup
empty_setup = setup_with empty (Nothing ∷ [])

abbrev blink_setup : Setup
blink_setup = setup_with blink (blinks ∷ [])

abbrev loop_setup : Setup
loop_setup = setup_with looping (loops ∷ [])

-- the empty program

abbrev ends_at_once : Tick
ends_at_once = ends_with [] zeros

abbrev empty_end : SystemState
empty_end = ticked empty_setup 0 (start empty_setup) ends_at_once

abbrev empty_run : RunState
empty_run = record { logs = record { entries = record { stamp = 1; statuses = [] } ∷ []; mark = Ended } ∷ []; histories = [] }

empty_ticks : (d : ℕ) → put_at (λ d. 0) 0 1 d ≡ tick_count empty_run d
empty_ticks zero = refl
empty_ticks (suc d) = past_first (λ d. 0) 1 d

empty_marks : (d : ℕ) → d < 1 → (log_of empty_run d).mark ≡ (empty_end.domain d).mark
empty_marks zero h = refl
empty_marks (suc d) h = absurd (omega arith)

pub nothing_in_one_turn : IsTextOfRun empty_source (Each (0 ∷ [])) (codes "domain 0 ticks 1 ended\n1 @1\n")
nothing_in_one_turn = told_run empty_source (Each (0 ∷ [])) (codes "domain 0 ticks 1 ended\n1 @1\n") empty (Nothing ∷ []) empty_run empty_end empty_is_source empty_statements
    (record { fit = all_more 1 0 [] (omega arith) (all_none 1); weight = omega arith })
    (no_channels empty_setup refl)
    (record { sends = λ c v w. w; receives = λ c w. w }, tt)
    (record { logs = refl; histories = refl })
    (record {
      moves = MakesTick 0 [] ∷ [];
      turned = turn_taken empty_setup 0 (start empty_setup) ends_at_once [] [] empty_end (record { within = omega arith; goes_on = refl; ticks = refl; code = refl }) (refl, refl) (refl, refl);
      tells = (omega arith, refl, (empty_ticks, λ c. refl));
      stamps = (refl, tt);
      marks = empty_marks;
    })
    (rw (zero_text, one_text) refl)

abbrev still_run : RunState
still_run = record { logs = record { entries = []; mark = Going } ∷ []; histories = [] }

no_ticks : (d : ℕ) → 0 ≡ tick_count still_run d
no_ticks zero = refl
no_ticks (suc d) = refl

still_marks : (d : ℕ) → d < 1 → (log_of still_run d).mark ≡ ((start empty_setup).domain d).mark
still_marks zero h = refl
still_marks (suc d) h = absurd (omega arith)

pub nothing_in_no_turn : IsTextOfRun empty_source (Each []) (codes "domain 0 ticks 0 paused\n")
nothing_in_no_turn = told_run empty_source (Each []) (codes "domain 0 ticks 0 paused\n") empty (Nothing ∷ []) still_run (start empty_setup) empty_is_source empty_statements
    (record { fit = all_none 1; weight = omega arith })
    (no_channels empty_setup refl)
    (record { sends = λ c v w. w; receives = λ c w. w }, tt)
    (record { logs = refl; histories = refl })
    (record { moves = []; turned = (refl, refl); tells = (no_ticks, λ c. refl); stamps = tt; marks = still_marks })
    (rw zero_text refl)

-- a signal in two ticks

abbrev of_signal : ℕ → Emission
of_signal s = record { signal = s; value = pos 0 }

abbrev emitting : ℕ → Tick
emitting s = ends_with (of_signal s ∷ []) zeros

abbrev pausing : Tick
pausing = quiet 1 Nothing zeros

abbrev first_blink : Tick
first_blink = record (as_whole 1 (Seq Nothing (Emit 0 None)) pausing) { emits = of_signal 0 ∷ [] }

abbrev blink1 : SystemState
blink1 = ticked blink_setup 0 (start blink_setup) first_blink

abbrev blink2 : SystemState
blink2 = ticked blink_setup 0 blink1 (emitting 0)

abbrev blink_run : RunState
blink_run = record {
  logs = record { entries = record { stamp = 1; statuses = Some (pos 0) ∷ [] } ∷ record { stamp = 2; statuses = Some (pos 0) ∷ [] } ∷ []; mark = Ended } ∷ [];
  histories = [];
}

blink_ticks : (d : ℕ) → put_at (put_at (λ d. 0) 0 1) 0 2 d ≡ tick_count blink_run d
blink_ticks zero = refl
blink_ticks (suc d) = past_first (put_at (λ d. 0) 0 1) 2 d ∙ past_first (λ d. 0) 1 d

blink_marks : (d : ℕ) → d < 1 → (log_of blink_run d).mark ≡ (blink2.domain d).mark
blink_marks zero h = refl
blink_marks (suc d) h = absurd (omega arith)

pub blink_in_three_turns : IsTextOfRun blink_source (Each (0 ∷ 0 ∷ 0 ∷ [])) (codes "domain 0 ticks 2 ended\n1 @1 A\n2 @2 A\n")
blink_in_three_turns =
    let p = blink_setup in
    told_run blink_source (Each (0 ∷ 0 ∷ 0 ∷ [])) (codes "domain 0 ticks 2 ended\n1 @1 A\n2 @2 A\n") blink (blinks ∷ []) blink_run blink2 blink_is_source blink_statements
    (record { fit = all_more 1 0 (0 ∷ 0 ∷ []) (omega arith) (all_more 1 0 (0 ∷ []) (omega arith) (all_more 1 0 [] (omega arith) (all_none 1))); weight = omega arith })
    (no_channels p refl)
    (waitless_blink 0 0, tt)
    (record { logs = refl; histories = refl })
    (record {
      moves = MakesTick 0 (Some (pos 0) ∷ []) ∷ MakesTick 0 (Some (pos 0) ∷ []) ∷ [];
      turned =
          turn_taken p 0 (start p) first_blink (0 ∷ 0 ∷ []) (MakesTick 0 (Some (pos 0) ∷ []) ∷ []) blink2
          (record { within = omega arith; goes_on = refl; ticks = (emitting 0, (pos 0, refl, refl), (as_whole 1 (Seq Nothing (Emit 0 None)) pausing, (pausing, refl, refl), refl)); code = refl })
          (refl, refl)
          (turn_taken p 0 blink1 (emitting 0) (0 ∷ []) [] blink2
          (record { within = omega arith; goes_on = refl; ticks = (ends_at_once, refl, (emitting 0, (pos 0, refl, refl), refl)); code = refl })
          (refl, refl)
          (turn_skipped p 0 blink2 [] [] blink2 refl (refl, refl)));
      tells = (omega arith, refl, (omega arith, refl, (blink_ticks, λ c. refl)));
      stamps = (refl, (refl, tt));
      marks = blink_marks;
    })
    (rw (zero_text, one_text, two_text) refl)

-- a loop that starts again in the tick in which its body ends

abbrev body_pauses : Tick
body_pauses = record (as_whole 1 (Seq Nothing (Emit 1 None)) pausing) { emits = of_signal 0 ∷ [] }

abbrev loop_starts : Tick
loop_starts = as_whole 1 (Seq (Seq Nothing (Emit 1 None)) (Loop loop_body)) body_pauses

abbrev loop_restarts : Tick
loop_restarts = record loop_starts { emits = of_signal 1 ∷ of_signal 0 ∷ [] }

abbrev loop1 : SystemState
loop1 = ticked loop_setup 0 (start loop_setup) loop_starts

abbrev loop2 : SystemState
loop2 = ticked loop_setup 0 loop1 loop_restarts

abbrev loop3 : SystemState
loop3 = ticked loop_setup 0 loop2 loop_restarts

abbrev both : List (Option ℤ)
both = Some (pos 0) ∷ Some (pos 0) ∷ []

abbrev loop_run : RunState
loop_run = record {
  logs = record {
    entries = record { stamp = 1; statuses = Some (pos 0) ∷ None ∷ [] } ∷ record { stamp = 2; statuses = both } ∷ record { stamp = 3; statuses = both } ∷ [];
    mark = Going;
  } ∷ [];
  histories = [];
}

loop_ticks : (d : ℕ) → put_at (put_at (put_at (λ d. 0) 0 1) 0 2) 0 3 d ≡ tick_count loop_run d
loop_ticks zero = refl
loop_ticks (suc d) = past_first (put_at (put_at (λ d. 0) 0 1) 0 2) 3 d ∙ past_first (put_at (λ d. 0) 0 1) 2 d ∙ past_first (λ d. 0) 1 d

loop_marks : (d : ℕ) → d < 1 → (log_of loop_run d).mark ≡ (loop3.domain d).mark
loop_marks zero h = refl
loop_marks (suc d) h = absurd (omega arith)

makes_start : Makes loop_setup 0 (start loop_setup) loop_starts
makes_start = record {
  within = omega arith;
  goes_on = refl;
  ticks = (body_pauses, (emitting 0, (pos 0, refl, refl), (as_whole 1 (Seq Nothing (Emit 1 None)) pausing, (pausing, refl, refl), refl)), refl, refl);
  code = refl;
}

makes_second : Makes loop_setup 0 loop1 loop_restarts
makes_second = record {
  within = omega arith;
  goes_on = refl;
  ticks = (
    emitting 1,
    (ends_at_once, refl, (emitting 1, (pos 0, refl, refl), refl)),
    (loop_starts, (body_pauses, (emitting 0, (pos 0, refl, refl), (as_whole 1 (Seq Nothing (Emit 1 None)) pausing, (pausing, refl, refl), refl)), refl, refl), refl),
  );
  code = refl;
}

makes_third : Makes loop_setup 0 loop2 loop_restarts
makes_third = record {
  within = omega arith;
  goes_on = refl;
  ticks = (
    emitting 1,
    (ends_at_once, refl, (emitting 1, (pos 0, refl, refl), refl)),
    (loop_starts, (body_pauses, (emitting 0, (pos 0, refl, refl), (as_whole 1 (Seq Nothing (Emit 1 None)) pausing, (pausing, refl, refl), refl)), refl, refl), refl),
  );
  code = refl;
}

pub loop_in_three_turns : IsTextOfRun loop_source (Each (0 ∷ 0 ∷ 0 ∷ [])) (codes "domain 0 ticks 3 paused\n1 @1 A\n2 @2 A B\n3 @3 A B\n")
loop_in_three_turns =
    let p = loop_setup in
    told_run loop_source (Each (0 ∷ 0 ∷ 0 ∷ [])) (codes "domain 0 ticks 3 paused\n1 @1 A\n2 @2 A B\n3 @3 A B\n") looping (loops ∷ []) loop_run loop3 loop_is_source loop_statements
    (record { fit = all_more 1 0 (0 ∷ 0 ∷ []) (omega arith) (all_more 1 0 (0 ∷ []) (omega arith) (all_more 1 0 [] (omega arith) (all_none 1))); weight = omega arith })
    (no_channels p refl)
    (record { sends = λ c v w. (waitless_blink 0 1).sends c v w; receives = λ c w. (waitless_blink 0 1).receives c w }, tt)
    (record { logs = refl; histories = refl })
    (record {
      moves = MakesTick 0 (Some (pos 0) ∷ None ∷ []) ∷ MakesTick 0 both ∷ MakesTick 0 both ∷ [];
      turned =
          turn_taken p 0 (start p) loop_starts (0 ∷ 0 ∷ []) (MakesTick 0 both ∷ MakesTick 0 both ∷ []) loop3 makes_start (refl, refl)
          (turn_taken p 0 loop1 loop_restarts (0 ∷ []) (MakesTick 0 both ∷ []) loop3 makes_second (refl, refl)
          (turn_taken p 0 loop2 loop_restarts [] [] loop3 makes_third (refl, refl) (refl, refl)));
      tells = (omega arith, refl, (omega arith, refl, (omega arith, refl, (loop_ticks, λ c. refl))));
      stamps = (refl, (refl, (refl, tt)));
      marks = loop_marks;
    })
    (rw (zero_text, one_text, two_text, three_text) refl)

pub ruleset rows = (nothing_in_one_turn, nothing_in_no_turn, blink_in_three_turns, loop_in_three_turns)
