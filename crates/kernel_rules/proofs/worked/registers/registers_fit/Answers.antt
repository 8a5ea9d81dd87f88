use Rattle.std.proofs.Common.{refl}
use Rattle.kernel_rules.proofs.worked.registers.registers_fit.Goals as goal

pub returns-clause-both : goal.returns-clause-both
returns-clause-both c = record { is_live = refl; apart = (refl, (λ h. (refl, refl), (refl, tt, tt), tt), (refl, (refl, tt, tt), tt)) }

pub returns-clause-sent : goal.returns-clause-sent
returns-clause-sent c = record { is_live = refl; apart = (refl, (λ h. (refl, refl), (refl, tt, tt), tt), (refl, (refl, tt, tt), tt)) }

pub returns-clause-first : goal.returns-clause-first
returns-clause-first c = record { is_live = refl; apart = (refl, (λ h. (refl, refl), (refl, tt, tt), tt), (refl, (refl, tt, tt), tt)) }

pub returns-clause-pauses : goal.returns-clause-pauses
returns-clause-pauses c = record { is_live = refl; apart = (refl, (λ h. (refl, refl), (refl, tt, tt), tt), (refl, (refl, tt, tt), tt)) }

pub returns-clause-waits : goal.returns-clause-waits
returns-clause-waits c = record { is_live = refl; apart = (refl, (λ h. (refl, refl), (refl, tt, tt), tt), (refl, (refl, tt, tt), tt)) }

pub returns-clause-second : goal.returns-clause-second
returns-clause-second c = record { is_live = refl; apart = (refl, (λ h. (refl, refl), (refl, tt, tt), tt), (refl, (refl, tt, tt), tt)) }

pub returns-clause-pure : goal.returns-clause-pure
returns-clause-pure c = record { is_live = refl; apart = (refl, (refl, tt, tt), tt) }

pub returns-clause-endless : goal.returns-clause-endless
returns-clause-endless c = record { is_live = refl; apart = (λ h. (refl, refl), tt, tt) }

pub returns-clause-before_endless : goal.returns-clause-before_endless
returns-clause-before_endless c = record { is_live = refl; apart = (refl, tt, ((λ h. absurd cc), tt, tt)) }

pub returns-clause-ended_at_once : goal.returns-clause-ended_at_once
returns-clause-ended_at_once c = record { is_live = refl; apart = (λ h. (refl, refl), tt, tt) }
