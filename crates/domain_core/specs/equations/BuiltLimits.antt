-- How large a built statement may be.
use Rattle.std.specs.Prelude.{ℕ, ◌+◌, ◌<◌, ◌≤◌, cond}
use Rattle.tick_tree.specs.definitions.Weight.{most_weight}
use Rattle.domain_core.specs.equations.BuiltForms.{Plain, Nothing, Pause, Emit, Seq, Loop, Send, Receive, ends0, ends1, LoopsWait}

-- each emission names one of so many signals
abbrev pub EmitsBelow : ℕ → Plain → Type 0
EmitsBelow signals (Emit s) = s < signals
EmitsBelow signals (Seq p q) = EmitsBelow signals p × EmitsBelow signals q
EmitsBelow signals (Loop p) = EmitsBelow signals p
EmitsBelow signals _ = Unit {0}

-- How many copies of statements its starting tick may pass, and its resuming tick. A second part is
-- started only where the first may end.
abbrev pub starting_copies : Plain → ℕ
starting_copies (Seq p q) = starting_copies p + cond (ends0 p) (starting_copies q) 0
starting_copies (Loop p) = starting_copies p
starting_copies _ = 1

abbrev pub resuming_copies : Plain → ℕ
resuming_copies Nothing = 0
resuming_copies Pause = 1
resuming_copies (Emit s) = 0
resuming_copies (Seq p q) =
    resuming_copies p + cond (ends1 p) (starting_copies q) 0 + resuming_copies q
resuming_copies (Loop p) = resuming_copies p + cond (ends1 p) (starting_copies p) 0
resuming_copies (Send c n) = 1
resuming_copies (Receive c) = 1

abbrev pub copies_of : Plain → ℕ
copies_of p = starting_copies p + resuming_copies p

-- the statement keeps the rules that its equations rest on
pub record CanBuild (signals : ℕ) (p : Plain) : Type 0 where
  pub waits : LoopsWait p
  pub emits : EmitsBelow signals p
  pub copies : copies_of p ≤ most_weight
