-- When the wires that a layout names are of the kinds that are read from them.
use Rattle.std.specs.Prelude.{ℕ, List, [], ◌∷◌, ◌++◌}
use Rattle.java_values.specs.declared.kind.Kind.{Kind}
use Rattle.java_values.specs.declared.kind.Kind.TheVariants.{Boolean}
use Rattle.tick_code.specs.declared.built.Built.{Built}
use Rattle.tick_code.specs.WellKinded.{Class, Fits, WellKinded}

-- each wire is an operand of this kind
abbrev pub EachFits : (ℕ → Class) → Kind → List ℕ → Type 0
EachFits c k [] = Unit {0}
EachFits c k (w ∷ ws) = Fits k (c w) × EachFits c k ws

-- one wire for each kind, an operand of it
abbrev pub WiresFit : (ℕ → Class) → List Kind → List ℕ → Type 0
WiresFit c [] [] = Unit {0}
WiresFit c [] (w ∷ ws) = ⊥
WiresFit c (k ∷ ks) [] = ⊥
WiresFit c (k ∷ ks) (w ∷ ws) = Fits k (c w) × WiresFit c ks ws

-- for each input its presence and its value, of this kind
abbrev pub input_kinds : List Kind → List Kind
input_kinds [] = []
input_kinds (k ∷ ks) = Boolean ∷ (k ∷ input_kinds ks)

-- the registers, and then the inputs
abbrev pub frame_kinds : List Kind → List Kind → List Kind
frame_kinds registers inputs = registers ++ input_kinds inputs

-- The code of a domain, where these are the kinds of its inputs' values, of its signals' values (`boolean` for a pure
-- one), and of the values that its sending ends send.
pub record IsWellKindedBuild (inputs values sends : List Kind) (b : Built) : Type 0 where
  pub well : WellKinded (frame_kinds b.registers.items inputs) b.code
  pub present : EachFits well.classes Boolean b.layout.present.items
  pub value : WiresFit well.classes values b.layout.value.items
  pub next : WiresFit well.classes b.registers.items b.layout.next.items
  pub waits : EachFits well.classes Boolean b.layout.waits.items
  pub sent : WiresFit well.classes sends b.layout.sends.items
  pub paused : Fits Boolean (well.classes b.layout.paused)
