-- Changes of the wires of variables, and how they are undone.
use Rattle.std.specs.Prelude.{ℕ, ◌==◌, cond, List, [], ◌∷◌}
use Rattle.surf_graph.specs.declared.change.Change.{Change}

-- the wires before these changes, of which the last is undone first
abbrev pub undone : List Change → (ℕ → ℕ) → ℕ → ℕ
undone [] v x = v x
undone (c ∷ cs) v x = cond (c.variable == x) c.before (undone cs v x)
