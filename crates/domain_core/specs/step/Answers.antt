-- What the answers of a domain's ends do, one end after another.
use Rattle.std.specs.Prelude.{ℕ, suc, zero, ℤ, Bool, false, cond, ◌==◌, List, [], ◌∷◌, get_or, max, Option, Some, None}
use Rattle.kernel_rules.specs.definitions.Signals.{put_at}
use Rattle.kernel_rules.specs.definitions.LegalTick.{DomainState}
use Rattle.cell_core.specs.declared.moves.Side.{Side}
use Rattle.cell_core.specs.declared.moves.Side.TheVariants.{Sender, Receiver}
use Rattle.cell_core.specs.declared.moves.Joined.{Joined}
use Rattle.domain_core.specs.declared.step.ends_of.EndOf.{EndOf}
use Rattle.domain_core.specs.declared.step.ends_of.EndJoin.{EndJoin}
use Rattle.domain_core.specs.definitions.runs.Systems.{rewritten}
use Rattle.domain_core.specs.definitions.runs.Stamps.{stamp_of_join}
use Rattle.domain_core.specs.definitions.step.EndCalls.{end_at}

abbrev pub no_channel : ℕ → Bool
no_channel c = false

-- a domain once a join of one of its ends has completed there
abbrev pub side_done : Side → ℕ → ℤ → DomainState → DomainState
side_done Sender c v s = record s { statement = rewritten (λ k. k == c) no_channel s.statement }
side_done Receiver c v s =
    record s {
      statement = rewritten no_channel (λ k. k == c) s.statement;
      last = put_at s.last c v;
    }

abbrev pub end_done : EndOf → Option Joined → DomainState → DomainState
end_done e None s = s
end_done e (Some j) s = side_done e.side e.channel j.value s

-- a domain once the joins answered at the first so many ends have completed there
abbrev pub with_answers : List EndOf → List (Option Joined) → ℕ → DomainState → DomainState
with_answers ends answers zero s = s
with_answers ends answers (suc n) s =
    end_done (end_at ends n) (get_or answers n None) (with_answers ends answers n s)

-- the greatest stamp of the joins after this number of ticks, and 0 where there are none
abbrev pub newest : ℕ → List EndJoin → ℕ
newest ticks [] = 0
newest ticks (j ∷ js) = max (cond (j.ticks == ticks) (stamp_of_join j.joined) 0) (newest ticks js)

abbrev pub newest_of : ℕ → List (List EndJoin) → ℕ
newest_of ticks [] = 0
newest_of ticks (js ∷ jss) = max (newest ticks js) (newest_of ticks jss)

-- 1 + the greatest of a stamp and of those of the joins after this number of ticks
abbrev pub next_stamp : ℕ → ℕ → List (List EndJoin) → ℕ
next_stamp last ticks joins = suc (max last (newest_of ticks joins))

-- the greatest stamp, with those of the joins answered at the first so many ends
abbrev pub raised_by : Option Joined → ℕ → ℕ
raised_by None stamp = stamp
raised_by (Some j) stamp = max stamp (stamp_of_join j)

abbrev pub raised : List (Option Joined) → ℕ → ℕ → ℕ
raised answers zero stamp = stamp
raised answers (suc n) stamp = raised_by (get_or answers n None) (raised answers n stamp)
