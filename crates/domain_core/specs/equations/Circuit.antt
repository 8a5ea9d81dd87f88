-- The equations of one copy of a statement. Wire 0 is always off.
use Rattle.std.specs.Prelude.{ℕ, ◌+◌, ℤ, pos, Bool, true, false, ◌&&◌, ◌||◌, cond, nat_eq, List, [], ◌∷◌, ◌++◌, length}
use Rattle.plain_code.specs.Formulas.{is_on}
use Rattle.plain_code.specs.declared.formula.Formula.TheVariants.{Get, And, Or, Not}
use Rattle.plain_code.specs.declared.equation.Equation.{Equation}
use Rattle.domain_core.specs.equations.BuiltForms.{Plain, Nothing, Pause, Emit, Seq, Loop, Send, Receive, ends0, ends1}
use Rattle.domain_core.specs.equations.BuiltRegisters.{registers}
use Rattle.kernel_rules.specs.definitions.Signals.{Emission}

-- its equations, the wire that tells that it ends, and the wires that set registers and emit signals
pub record Part : Type 0 where
  pub equations : List Equation
  pub done : ℕ
  pub sets : List (ℕ × ℕ)
  pub emits : List (ℕ × ℕ)

-- both parts, of which the second tells the end
abbrev pub joined : Part → Part → Part
joined a b =
    record {
      equations = a.equations ++ b.equations;
      done = b.done;
      sets = a.sets ++
          b.sets;
      emits = a.emits ++ b.emits;
    }

-- the second part only where the first may end
abbrev pub joined_if : Bool → Part → Part → Part
joined_if true a b = joined a b
joined_if false a b = a

-- The starting copy. Its first equation gives the wire `base`, and it starts where the wire `go` is on.
abbrev pub start : Plain → ℕ → ℕ → ℕ → Part
start Nothing base go r = record { equations = []; done = go; sets = []; emits = [] }
start Pause base go r = record { equations = []; done = 0; sets = (r, go) ∷ []; emits = [] }
start (Emit s) base go r = record { equations = []; done = go; sets = []; emits = (s, go) ∷ [] }
start (Seq p q) base go r =
    let a = start p base go r in
    joined_if (ends0 p) a (start q (base + length a.equations) a.done (r + registers p))
start (Loop p) base go r = record (start p base go r) { done = 0 }
start (Send c n) base go r = record { equations = []; done = 0; sets = (r, go) ∷ []; emits = [] }
start (Receive c) base go r = record { equations = []; done = 0; sets = (r, go) ∷ []; emits = [] }

-- the end of either part
abbrev pub either : ℕ → Part → Part → Part
either base a b =
    record {
      equations = a.equations ++
          (b.equations ++
          record {
            wire = base + length a.equations + length b.equations;
            formula = Or a.done b.done;
          } ∷
          []);
      done = base + length a.equations + length b.equations;
      sets = a.sets ++
          b.sets;
      emits = a.emits ++ b.emits;
    }

-- both parts, of which the first tells the end
abbrev pub beside : Part → Part → Part
beside a b =
    record {
      equations = a.equations ++ b.equations;
      done = a.done;
      sets = a.sets ++
          b.sets;
      emits = a.emits ++ b.emits;
    }

-- a resuming sequence: the copy of its second part, that of its first, and the second part's start only where the first may end
abbrev pub either_if : Bool → ℕ → Part → Part → Part → Part
either_if true base c a b = either base c (joined a b)
either_if false base c a b = beside c a

-- a resuming loop: its body's copy, and its body's start only where the body may end
abbrev pub again_if : Bool → Part → Part → Part
again_if true a b = record (joined a b) { done = 0 }
again_if false a b = record a { done = 0 }

-- A send or receive that is on ends where it has met, and stays on where it hasn't.
abbrev pub waiting : ℕ → ℕ → Part
waiting base r = record {
  equations =
      record { wire = base; formula = Get r }
      ∷ record { wire = base + 1; formula = Get (r + 1) }
      ∷ record { wire = base + 2; formula = And base (base + 1) }
      ∷ record { wire = base + 3; formula = Not (base + 1) }
      ∷ record { wire = base + 4; formula = And base (base + 3) }
      ∷ [];
  done = base + 2;
  sets = (r, base + 4) ∷ [];
  emits = [];
}

-- The resuming copy. It goes on from the registers that are on.
abbrev pub resume : Plain → ℕ → ℕ → Part
resume Pause base r =
    record {
      equations = record { wire = base; formula = Get r } ∷
          [];
      done = base;
      sets = [];
      emits = [];
    }
resume (Seq p q) base r =
    let c = resume q base (r + registers p) in
    let a = resume p (base + length c.equations) r in
    either_if (ends1 p) base c a
    (start q (base + length c.equations + length a.equations) a.done (r + registers p))
resume (Loop p) base r =
    let a = resume p base r in
    again_if (ends1 p) a (start p (base + length a.equations) a.done r)
resume (Send c n) base r = waiting base r
resume (Receive c) base r = waiting base r
resume Nothing base r = record { equations = []; done = 0; sets = []; emits = [] }
resume (Emit s) base r = record { equations = []; done = 0; sets = []; emits = [] }

-- some pair of this number has a wire that is on
abbrev pub is_set : List ℤ → List (ℕ × ℕ) → ℕ → Bool
is_set wires [] n = false
is_set wires (s ∷ ss) n = (nat_eq s.0 n && is_on wires s.1) || is_set wires ss n

-- the emissions whose wires are on, in order
abbrev pub emitted : List ℤ → List (ℕ × ℕ) → List Emission
emitted wires [] = []
emitted wires (s ∷ ss) =
    cond (is_on wires s.1) (record { signal = s.0; value = pos 0 } ∷
    emitted wires ss) (emitted wires ss)
