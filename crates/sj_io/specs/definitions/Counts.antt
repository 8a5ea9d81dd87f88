-- Counts by name: the first entry of a name counts, and all names without one have one count.
use Rattle.std.specs.Prelude.{ℕ, cond, List, ◌∷◌}
use Rattle.std.specs.Str.{bytes_eq}

abbrev pub count_of : List (List ℕ) → List ℕ → ℕ → List ℕ → ℕ
count_of (n ∷ ns) (c ∷ cs) others name = cond (bytes_eq n name) c (count_of ns cs others name)
count_of _ _ others name = others
