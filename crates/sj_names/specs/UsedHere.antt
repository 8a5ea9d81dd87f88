-- What the names of one domain have used.
use Rattle.std.specs.Prelude.{◌≡◌, ℕ, cond, List, Some, None}
use Rattle.sj_names.specs.declared.mention.Mention.{Mention}
use Rattle.sj_names.specs.declared.mention.Use.{Use}
use Rattle.sj_names.specs.declared.uses.FirstUses.{FirstUses}
use Rattle.sj_names.specs.definitions.Failures.{uses}
use Rattle.sj_names.specs.FirstDomains.{first_user}

-- the numbers that these names of the domain use so, and no others
abbrev pub AreHere : FirstUses → Use → List Mention → ℕ → Type 0
AreHere here way mentions domain =
    (n : ℕ) → first_user here n ≡ cond (uses way n mentions) (Some domain) None
