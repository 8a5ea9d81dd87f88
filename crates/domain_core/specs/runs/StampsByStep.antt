-- The stamps of a run, counted step by step.
use Rattle.std.specs.Prelude.{◌≡◌, ℕ, List, [], ◌∷◌, suc, max}
use Rattle.kernel_rules.specs.definitions.Signals.{put_at}
use Rattle.tick_log.specs.definitions.Runs.{RunState, tick_of, join_of}
use Rattle.domain_core.specs.definitions.runs.Systems.{Setup, Move, MakesTick, MakesJoin, sender_of, receiver_of}
use Rattle.domain_core.specs.definitions.runs.Stamps.{join_stamp}

-- f, where its number at d is raised_at to s
abbrev pub raised_at : (ℕ → ℕ) → ℕ → ℕ → ℕ → ℕ
raised_at f d s = put_at f d (max (f d) s)

-- a join's stamp, from the stamps of the last ticks
abbrev pub stamp_by_step : Setup → (ℕ → ℕ) → ℕ → ℕ
stamp_by_step setup last c = join_stamp (last (sender_of setup c)) (last (receiver_of setup c))

-- The run has the stamps of the rule, step by step: `last d` is the stamp of d's last tick, 0 before the
-- first, and `since d` the greatest of it and the stamps of d's joins since.
abbrev pub StampsFrom : Setup → RunState → (ℕ → ℕ) → (ℕ → ℕ) → (ℕ → ℕ) → (ℕ → ℕ) → List Move →
    Type 0
StampsFrom setup r t j last since [] = Unit {0}
StampsFrom setup r t j last since (MakesTick d statuses ∷ moves) =
    ((tick_of r d (t d)).stamp ≡ suc (since d)) ×
    StampsFrom setup r (put_at t d (suc (t d))) j (put_at last d (suc (since d)))
    (put_at since d (suc (since d))) moves
StampsFrom setup r t j last since (MakesJoin c join ∷ moves) =
    ((join_of r c (j c)).stamp ≡ stamp_by_step setup last c) ×
    StampsFrom setup r t (put_at j c (suc (j c))) last
    (raised_at (raised_at since (sender_of setup c) (stamp_by_step setup last c))
    (receiver_of setup c) (stamp_by_step setup last c)) moves
