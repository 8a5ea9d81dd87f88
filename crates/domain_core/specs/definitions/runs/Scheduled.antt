-- Runs by the order in which their steps were made.
use Rattle.std.specs.Prelude.{◌≡◌, ℕ, ◌<◌, true, ◌⊎◌, List, [], ◌∷◌, ◌++◌, suc, zero, cond, ◌==◌, Option, ℤ}
use Rattle.kernel_terms.specs.Marks.{is_over}
use Rattle.domain_core.specs.definitions.runs.Systems.{Setup, SystemState, BothWait, JoinRecord, Move, MakesTick, MakesJoin, Step, Steps, start, sender_of, receiver_of, domain_count, channel_count}
use Rattle.kernel_rules.specs.definitions.Signals.{put_at}
use Rattle.tick_log.specs.definitions.Runs.{RunState, log_of, tick_of, join_of, tick_count, join_count}
use Rattle.domain_core.specs.definitions.runs.LegalRuns.{HasStamps, IsLegalRun, SpendsBudgets, IsAtRest, record_of}

-- the moves are those of the run from its t d-th tick of each domain d and its j c-th join of each channel c on
abbrev pub TellsFrom : RunState → (ℕ → ℕ) → (ℕ → ℕ) → List Move → Type 0
TellsFrom r t j [] = ((d : ℕ) → t d ≡ tick_count r d) × ((c : ℕ) → j c ≡ join_count r c)
TellsFrom r t j (MakesTick d statuses ∷ moves) =
    (t d < tick_count r d) × ((tick_of r d (t d)).statuses ≡ statuses) ×
    TellsFrom r (put_at t d (suc (t d))) j moves
TellsFrom r t j (MakesJoin c join ∷ moves) =
    (j c < join_count r c) × (record_of (join_of r c (j c)) ≡ join) ×
    TellsFrom r t (put_at j c (suc (j c))) moves

-- these steps lead from the start to `end`, and the logs and histories are theirs
pub record IsRunOf (setup : Setup) (r : RunState) (moves : List Move) (end : SystemState) : Type 0
  where
    pub steps : Steps setup (start setup) moves end
    pub tells : TellsFrom r (λ d. 0) (λ c. 0) moves
    pub marks : (d : ℕ) → d < domain_count setup → (log_of r d).mark ≡ (end.domain d).mark

-- the run is legal, and each domain ends as it does in `end`
pub record IsLegalTo (setup : Setup) (r : RunState) (end : SystemState) : Type 0 where
  pub last : SystemState
  pub legal : IsLegalRun setup r last
  pub domains : (d : ℕ) → d < domain_count setup → last.domain d ≡ end.domain d

-- Of the `left` channels from c on, those of domain d whose ends both wait are joined, the smallest number
-- first.
abbrev pub JoinsInTurn : Setup → ℕ → ℕ → ℕ → SystemState → List Move → SystemState → Type 0
JoinsInTurn setup d c zero s moves end = (moves ≡ []) × (s ≡ end)
JoinsInTurn setup d c (suc left) s moves end =
    ((((sender_of setup c ≡ d) ⊎ (receiver_of setup c ≡ d)) → (v : ℤ) → BothWait setup s c v → ⊥) ×
    JoinsInTurn setup d (suc c) left s moves end) ⊎
    (((sender_of setup c ≡ d) ⊎ (receiver_of setup c ≡ d)) ×
    ((join : JoinRecord) × (mid : SystemState) × (more : List Move) ×
    Step setup s (MakesJoin c join) mid × (moves ≡ MakesJoin c join ∷ more) ×
    JoinsInTurn setup d (suc c) left mid more end))

-- The turns one by one: that of an ended domain is skipped, and after each tick the domain's channels whose
-- ends both wait are joined.
abbrev pub TakesTurns : Setup → SystemState → List ℕ → List Move → SystemState → Type 0
TakesTurns setup s [] moves end = (moves ≡ []) × (s ≡ end)
TakesTurns setup s (d ∷ turns) moves end =
    ((is_over (s.domain d).mark ≡ true) × TakesTurns setup s turns moves end) ⊎
    ((statuses : List (Option ℤ)) × (ticked : SystemState) × (mid : SystemState) ×
    (joins : List Move) × (more : List Move) ×
    Step setup s (MakesTick d statuses) ticked ×
    JoinsInTurn setup d 0 (channel_count setup) ticked joins mid ×
    TakesTurns setup mid turns more end × (moves ≡ MakesTick d statuses ∷ (joins ++ more)))

-- the run of these turns, which comes to `end`
pub record IsScheduledRun (setup : Setup) (r : RunState) (turns : List ℕ) (end : SystemState) : Type
    0 where
  pub moves : List Move
  pub turned : TakesTurns setup (start setup) turns moves end
  pub tells : TellsFrom r (λ d. 0) (λ c. 0) moves
  pub stamps : HasStamps setup r
  pub marks : (d : ℕ) → d < domain_count setup → (log_of r d).mark ≡ (end.domain d).mark

-- how many of the turns are d's
abbrev pub turns_of : ℕ → List ℕ → ℕ
turns_of d [] = 0
turns_of d (e ∷ turns) = cond (e == d) (suc (turns_of d turns)) (turns_of d turns)

-- the run is legal, has spent the budgets that the turns give, and is at rest
pub record IsWholeRun (setup : Setup) (r : RunState) (turns : List ℕ) : Type 0 where
  pub end : SystemState
  pub legal : IsLegalRun setup r end
  pub spent : SpendsBudgets r (λ d. turns_of d turns)
  pub at_rest : IsAtRest setup end
