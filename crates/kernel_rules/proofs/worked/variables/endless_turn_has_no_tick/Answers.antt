use Rattle.std.proofs.Common.{◌≡◌, true, false, sym, ap, ◌∙◌}
use Rattle.kernel_rules.specs.definitions.TickRule.{Tick, has_ended}
use Rattle.kernel_rules.proofs.worked.variables.endless_turn_has_no_tick.Goals as goal

pub returns : goal.returns
returns c = λ tables last env x o h. let e : true ≡ false = sym (ap (λ (z : Tick). has_ended z.code) h.1) ∙ h.2 in absurd cc
