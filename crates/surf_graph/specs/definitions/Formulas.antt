-- Equations over wires, and the values that satisfy them.
use Rattle.std.specs.Prelude.{◌≡◌, ℕ, zero, suc, ◌<◌, ◌==◌, ℤ, pos, negsuc, Bool, ◌&&◌, ◌||◌, not, cond, List, [], ◌∷◌}
use Rattle.std.specs.Int.{int_max}
use Rattle.java_values.specs.declared.kind.Kind.{Kind}
use Rattle.java_values.specs.Arithmetic.{is_true}
use Rattle.kernel_terms.specs.declared.tables.SignalInfo.{SignalInfo}
use Rattle.kernel_terms.specs.TableEntries.{value_kind}
use Rattle.kernel_terms.specs.Expressions.{Expression, Test}
use Rattle.kernel_rules.specs.definitions.Signals.{Env, combined}
use Rattle.kernel_rules.specs.definitions.Expressions.{Readings, value_of, holds}
use Rattle.java_values.specs.Arithmetic.{of_bool}
use Rattle.kernel_rules.specs.definitions.TickRule.{code_of_trap, code_of_weak_abort}

-- the wires of what an expression reads, in this tick
pub record Wires : Type 0 where
  pub variables : ℕ → ℕ
  pub present : ℕ → ℕ
  pub value : ℕ → ℕ
  pub last : ℕ → ℕ

-- What gives a wire its value. `Same`, `AndNot` and those from `Zero` on stand for several operations.
-- `IsStatus` tells whether a status is that of this code.
pub data Formula : Type 0 where
  Const : (n : ℤ) → Formula
  Get : (register : ℕ) → Formula
  Same : (a : ℕ) → Formula
  And : (a b : ℕ) → Formula
  AndNot : (a b : ℕ) → Formula
  Or : (a b : ℕ) → Formula
  Choose : (c a b : ℕ) → Formula
  Zero : (k : Kind) → Formula
  StatusOf : (code : ℕ) → Formula
  Status : (go code : ℕ) → Formula
  IsStatus : (a code : ℕ) → Formula
  Greater : (a b : ℕ) → Formula
  OfTrap : (a : ℕ) → Formula
  OfWeakAbort : (test a : ℕ) → Formula
  Combine : (info : SignalInfo) (some so_far v : ℕ) → Formula
  Value : (e : Expression) (wires : Wires) → Formula
  Holds : (t : Test) (wires : Wires) → Formula

pub record Equation : Type 0 where
  pub wire : ℕ
  pub formula : Formula

abbrev pub is_on : (ℕ → ℤ) → ℕ → Bool
is_on w k = is_true (w k)

abbrev pub told_env : (ℕ → ℤ) → Wires → Env
told_env w v s = record { present = is_on w (v.present s); value = w (v.value s) }

abbrev pub told : (ℕ → ℤ) → (ℕ → ℕ) → ℕ → ℤ
told w v x = w (v x)

abbrev pub readings : (ℕ → ℤ) → Wires → Readings
readings w v = record { variables = told w v.variables; env = told_env w v; last = told w v.last }

abbrev pub to_nat : ℤ → ℕ
to_nat (pos n) = n
to_nat _ = 0

-- a status is 0 where a copy doesn't tick, and else 1 more than its code
abbrev pub status_of : ℕ → ℕ
status_of code = suc code

-- the status of a trap, by that of its body
abbrev pub of_trap : ℤ → ℤ
of_trap (pos (suc code)) = pos (status_of (code_of_trap code))
of_trap (pos zero) = pos 0
of_trap (negsuc n) = negsuc n

-- the status of a weak abort whose test holds, by that of its body
abbrev pub of_weak_abort : ℤ → ℤ
of_weak_abort (pos (suc code)) = pos (status_of (code_of_weak_abort code))
of_weak_abort (pos zero) = pos 0
of_weak_abort (negsuc n) = negsuc n

-- over these registers and wires
abbrev pub formula_value : (ℕ → ℤ) → (ℕ → ℤ) → Formula → ℤ
formula_value f w (Const n) = n
formula_value f w (Get r) = f r
formula_value f w (Same a) = w a
formula_value f w (And a b) = of_bool (is_on w a && is_on w b)
formula_value f w (AndNot a b) = of_bool (is_on w a && not (is_on w b))
formula_value f w (Or a b) = of_bool (is_on w a || is_on w b)
formula_value f w (Choose c a b) = cond (is_on w c) (w a) (w b)
formula_value f w (Zero k) = pos 0
formula_value f w (StatusOf code) = pos (status_of code)
formula_value f w (Status go code) = cond (is_on w go) (pos (status_of code)) (pos 0)
formula_value f w (IsStatus a code) = of_bool (to_nat (w a) == status_of code)
formula_value f w (Greater a b) = int_max (w a) (w b)
formula_value f w (OfTrap a) = of_trap (w a)
formula_value f w (OfWeakAbort t a) = cond (is_on w t) (of_weak_abort (w a)) (w a)
formula_value f w (Combine info some so_far v) =
    cond (is_on w some) (combined info.combine (value_kind info) (w so_far) (w v)) (w v)
formula_value f w (Value e v) = value_of (readings w v) e
formula_value f w (Holds t v) = of_bool (holds (told_env w v) t)

-- each wire has the value of its formula, over a frame of registers
abbrev pub Satisfies : (ℕ → ℤ) → (ℕ → ℤ) → List Equation → Type 0
Satisfies f w [] = Unit {0}
Satisfies f w (e ∷ es) = (w e.wire ≡ formula_value f w e.formula) × Satisfies f w es

-- the wires that an expression may read are below this one
pub record WiresBelow (limit : ℕ) (v : Wires) : Type 0 where
  pub variables : (x : ℕ) → v.variables x < limit
  pub present : (s : ℕ) → v.present s < limit
  pub value : (s : ℕ) → v.value s < limit
  pub last : (c : ℕ) → v.last c < limit

-- the formula reads wires below this one alone
abbrev pub Reads : ℕ → Formula → Type 0
Reads limit (Const n) = Unit {0}
Reads limit (Get r) = Unit {0}
Reads limit (Same a) = a < limit
Reads limit (And a b) = (a < limit) × (b < limit)
Reads limit (AndNot a b) = (a < limit) × (b < limit)
Reads limit (Or a b) = (a < limit) × (b < limit)
Reads limit (Choose c a b) = (c < limit) × (a < limit) × (b < limit)
Reads limit (Zero k) = Unit {0}
Reads limit (StatusOf code) = Unit {0}
Reads limit (Status go code) = go < limit
Reads limit (IsStatus a code) = a < limit
Reads limit (Greater a b) = (a < limit) × (b < limit)
Reads limit (OfTrap a) = a < limit
Reads limit (OfWeakAbort t a) = (t < limit) × (a < limit)
Reads limit (Combine info some so_far v) = (some < limit) × (so_far < limit) × (v < limit)
Reads limit (Value e v) = WiresBelow limit v
Reads limit (Holds t v) = WiresBelow limit v

-- the equations give and read wires below this one alone
abbrev pub Within : ℕ → List Equation → Type 0
Within limit [] = Unit {0}
Within limit (e ∷ es) = (e.wire < limit) × (Reads limit e.formula × Within limit es)
