-- The weight of a domain: for each leaf of its two trees, 1 and the nodes of the leaf's expression or test.
use Rattle.std.specs.Prelude.{ℕ, ◌+◌, ◌^◌, min, Option, Some, None}
use Rattle.kernel_terms.specs.Statements.{Stmt}
use Rattle.tick_tree.specs.definitions.Shapes.{Shape, Single, InTurn, OneOf, Beside, WithNew, starting_shape, resuming_shape}

abbrev pub weight_of_shape : Shape → ℕ
weight_of_shape (Single x) = 1 + x.nodes
weight_of_shape (InTurn p q) = weight_of_shape p + weight_of_shape q
weight_of_shape (OneOf p q) = weight_of_shape p + weight_of_shape q
weight_of_shape (Beside p q) = weight_of_shape p + weight_of_shape q
weight_of_shape (WithNew s p) = weight_of_shape p

abbrev pub weight_of_some : Option Shape → ℕ
weight_of_some None = 0
weight_of_some (Some p) = weight_of_shape p

-- places make no difference
abbrev pub nowhere : ℕ → ℕ
nowhere n = 0

-- of a statement's starting tree and of its resuming tree, where it has one
abbrev pub starting_weight : Stmt → ℕ
starting_weight p = weight_of_shape (starting_shape nowhere 0 p)

abbrev pub resuming_weight : Stmt → ℕ
resuming_weight p = weight_of_some (resuming_shape nowhere 0 p)

abbrev pub weight_of : Stmt → ℕ
weight_of p = starting_weight p + resuming_weight p

abbrev pub most_weight : ℕ
most_weight = 100000

-- numbers up to 2^32
abbrev pub capped : ℕ → ℕ
capped n = min n (2 ^ 32)
