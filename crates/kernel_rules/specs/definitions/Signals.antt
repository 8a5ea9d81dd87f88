-- Signal environments, emissions and their combination.
use Rattle.std.specs.Prelude.{ℕ, ℤ, ◌==◌, int_le, Bool, cond, List, [], ◌∷◌, Option, Some, None}
use Rattle.std.specs.List.{list_any}
use Rattle.java_values.specs.declared.kind.Kind.{Kind}
use Rattle.java_values.specs.declared.op.Op2.TheVariants as op
use Rattle.java_values.specs.Arithmetic.{cast_to, applied2}
use Rattle.kernel_terms.specs.declared.tables.SignalInfo.{SignalInfo}
use Rattle.kernel_terms.specs.declared.tables.Combine.{Combine}
use Rattle.kernel_terms.specs.declared.tables.Combine.TheVariants.{Add, Max, Min, And, Or, Xor}
use Rattle.kernel_terms.specs.TableEntries.{value_kind}

-- one emission; a pure signal is emitted with the value 0
pub record Emission : Type 0 where
  pub signal : ℕ
  pub value : ℤ

-- whether a signal is present in a tick, and its value
pub record Status : Type 0 where
  pub present : Bool
  pub value : ℤ

-- the status of each signal
abbrev pub Env : Type 0
Env = ℕ → Status

-- f with x at n
abbrev pub put_at : {X : Type 0} → (ℕ → X) → ℕ → X → ℕ → X
put_at f n x k = cond (k == n) x (f k)

abbrev pub is_emitted : List Emission → ℕ → Bool
is_emitted emissions s = list_any (λ e. e.signal == s) emissions

-- the values with which a signal is emitted, in order
abbrev pub values_of : ℕ → List Emission → List ℤ
values_of s [] = []
values_of s (e ∷ es) = cond (e.signal == s) (e.value ∷ values_of s es) (values_of s es)

-- the emissions of all other signals
abbrev pub without : ℕ → List Emission → List Emission
without s [] = []
without s (e ∷ es) = cond (e.signal == s) (without s es) (e ∷ without s es)

-- two values of a kind combined: an operator's result is cast back to the kind
abbrev pub combined : Combine → Kind → ℤ → ℤ → ℤ
combined Add k m n = cast_to k (applied2 op.Add k m k n)
combined Max k m n = cond (int_le m n) n m
combined Min k m n = cond (int_le m n) m n
combined And k m n = cast_to k (applied2 op.And k m k n)
combined Or k m n = cast_to k (applied2 op.Or k m k n)
combined Xor k m n = cast_to k (applied2 op.Xor k m k n)

abbrev pub combined_all : Combine → Kind → ℤ → List ℤ → ℤ
combined_all c k v [] = v
combined_all c k v (w ∷ ws) = combined_all c k (combined c k v w) ws

-- the value of a signal after emissions with these values: the last value where there are none
abbrev pub folded : SignalInfo → ℤ → List ℤ → ℤ
folded info last [] = last
folded info last (v ∷ vs) = combined_all info.combine (value_kind info) v vs

-- what a log shows of a signal: its value where it is present
abbrev pub shown : Status → Option ℤ
shown status = cond status.present (Some status.value) None
