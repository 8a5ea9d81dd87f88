use Rattle.std.proofs.Common.{◌≡◌, ℕ, ◌<◌, ◌≤◌, length, false}
use Rattle.std.specs.Prelude.{slice_index, slice_index_or}
use Rattle.plain_code.specs.Formulas.{is_on, number_at}
use Rattle.domain_core.proofs.equations.circuit.step.Given as goal

abbrev pub invariant-loop-i : goal.invariant-loop-i
invariant-loop-i l = (n : ℕ) → n < l.i → slice_index_or l.present n false ≡ is_on l.wires (slice_index l.built.present.items n)

abbrev pub invariant-loop-i-2 : goal.invariant-loop-i-2
invariant-loop-i-2 l = record {
  moves : (n : ℕ) → n < l.i → is_on l.registers n ≡ is_on l.wires (slice_index l.built.next.items n);
  stays : (n : ℕ) → l.i ≤ n → number_at l.registers n ≡ number_at l.initial.registers n;
  len : length l.registers ≡ length l.initial.registers;
}
