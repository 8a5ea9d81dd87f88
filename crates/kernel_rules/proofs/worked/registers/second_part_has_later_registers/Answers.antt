use Rattle.std.proofs.Common.{◌≡◌, true, false, refl, rules}
use Rattle.kernel_rules.proofs.worked.registers.second_part_has_later_registers.Goals as goal

pub returns-clause-kinds : goal.returns-clause-kinds
returns-clause-kinds c = refl

pub returns-clause-other_kinds : goal.returns-clause-other_kinds
returns-clause-other_kinds c = refl

pub returns-clause-first : goal.returns-clause-first
returns-clause-first c = refl

pub returns-clause-second : goal.returns-clause-second
returns-clause-second c = refl

pub returns-clause-neither : goal.returns-clause-neither
returns-clause-neither c = refl

pub returns-clause-first_waits : goal.returns-clause-first_waits
returns-clause-first_waits c = refl

pub returns-clause-second_waits : goal.returns-clause-second_waits
returns-clause-second_waits c = refl

pub returns-clause-second_met : goal.returns-clause-second_met
returns-clause-second_met c = refl

pub returns-clause-fit_first : goal.returns-clause-fit_first
returns-clause-fit_first c = search rules

pub returns-clause-fit_second : goal.returns-clause-fit_second
returns-clause-fit_second c = search rules

pub returns-clause-refused : goal.returns-clause-refused
returns-clause-refused c = search rules

pub returns-clause-in_local : goal.returns-clause-in_local
returns-clause-in_local c = record { is_live = refl; apart = (refl, tt, tt) }

pub returns-clause-refused_in_local : goal.returns-clause-refused_in_local
returns-clause-refused_in_local c = λ h. let e : true ≡ false = (h.apart).0 in absurd cc
