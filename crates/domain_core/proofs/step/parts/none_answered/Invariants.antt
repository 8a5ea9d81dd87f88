use Rattle.std.proofs.Common.{◌≡◌, ◌<◌, ℕ, get_or, None}
use Rattle.domain_core.proofs.step.parts.none_answered.Given as goal

abbrev pub invariant-loop-at : goal.invariant-loop-at
invariant-loop-at l = (k : ℕ) → k < l.at → get_or l.answers k None ≡ None
