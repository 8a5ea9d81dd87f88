use Rattle.std.proofs.Common.{refl, ap}
use Rattle.kernel_terms.specs.Statements.{Par}
use Rattle.kernel_rules.specs.ShownTicks.{all_zero, none_present}
use Rattle.kernel_rules.specs.Worked.Words.{no_tables}
use Rattle.kernel_rules.specs.Worked.Exits.{leaves, assigns_and_pauses}
use Rattle.kernel_rules.specs.definitions.TickRule.{Tick}
use Rattle.kernel_rules.proofs.SeenTicks.{only_tick}
use Rattle.kernel_rules.proofs.worked.exits.every_exit_ends_parallel.Goals as goal

pub returns-clause-first : goal.returns-clause-first
returns-clause-first c = (
  λ o h.
      let e = (only_tick no_tables all_zero (Par (leaves 0) assigns_and_pauses) none_present all_zero refl refl).alone o h in
      (ap (λ (z : Tick). z.code) e, ap (λ (z : Tick). z.emits) e, ap (λ (z : Tick). z.variables 0) e, ap (λ (z : Tick). z.variables 1) e),
  λ o h.
      let e = (only_tick no_tables all_zero (Par (leaves 1) assigns_and_pauses) none_present all_zero refl refl).alone o h in
      (ap (λ (z : Tick). z.code) e, ap (λ (z : Tick). z.emits) e, ap (λ (z : Tick). z.variables 0) e, ap (λ (z : Tick). z.variables 1) e),
  λ o h.
      let e = (only_tick no_tables all_zero (Par (leaves 998) assigns_and_pauses) none_present all_zero refl refl).alone o h in
      (ap (λ (z : Tick). z.code) e, ap (λ (z : Tick). z.emits) e, ap (λ (z : Tick). z.variables 0) e, ap (λ (z : Tick). z.variables 1) e),
)

pub returns-clause-second : goal.returns-clause-second
returns-clause-second c = (
  λ o h.
      let e = (only_tick no_tables all_zero (Par assigns_and_pauses (leaves 0)) none_present all_zero refl refl).alone o h in
      (ap (λ (z : Tick). z.code) e, ap (λ (z : Tick). z.emits) e, ap (λ (z : Tick). z.variables 0) e, ap (λ (z : Tick). z.variables 1) e),
  λ o h.
      let e = (only_tick no_tables all_zero (Par assigns_and_pauses (leaves 1)) none_present all_zero refl refl).alone o h in
      (ap (λ (z : Tick). z.code) e, ap (λ (z : Tick). z.emits) e, ap (λ (z : Tick). z.variables 0) e, ap (λ (z : Tick). z.variables 1) e),
  λ o h.
      let e = (only_tick no_tables all_zero (Par assigns_and_pauses (leaves 998)) none_present all_zero refl refl).alone o h in
      (ap (λ (z : Tick). z.code) e, ap (λ (z : Tick). z.emits) e, ap (λ (z : Tick). z.variables 0) e, ap (λ (z : Tick). z.variables 1) e),
)
