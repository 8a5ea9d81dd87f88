-- What the computation of one formula needs.
use Rattle.std.specs.Prelude.{◌≡◌, ℕ, ◌<◌, ℤ, true, IsSome}
use Rattle.java_values.specs.Kinds.{IsInRange, result_kind1, result_kind2, is_castable}
use Rattle.java_values.specs.Arithmetic.{HasDivisor}
use Rattle.wire_code.specs.declared.formula.Formula.{Formula}
use Rattle.wire_code.specs.declared.formula.Formula.TheVariants.{Get, Apply1, Apply2, Cast}

-- it reads a place of a frame of this size, and its operands lie in the kinds that it takes
abbrev pub HasOperands : ℕ → (ℕ → ℤ) → Formula → Type 0
HasOperands size w (Get k) = k < size
HasOperands size w (Apply1 op k a) = IsInRange k (w a) × IsSome (result_kind1 op k)
HasOperands size w (Apply2 op k l a b) =
    IsInRange k (w a) × IsInRange l (w b) × IsSome (result_kind2 op k l) × HasDivisor op (w b)
HasOperands size w (Cast k l a) = IsInRange k (w a) × (is_castable k l ≡ true)
HasOperands size w _ = Unit {0}
