use Rattle.std.proofs.Common.{◌≡◌, true, false, refl, sym}
use Rattle.kernel_rules.proofs.worked.registers.registers_refused.Goals as goal

pub returns-clause-dead : goal.returns-clause-dead
returns-clause-dead c = λ h. let e : true ≡ false = sym h.is_live in absurd cc

pub returns-clause-both_parts : goal.returns-clause-both_parts
returns-clause-both_parts c = λ h. let e : true ≡ false = (h.apart).0 in absurd cc

pub returns-clause-inner_parts : goal.returns-clause-inner_parts
returns-clause-inner_parts c = λ h. let e : true ≡ false = ((h.apart).2).1.0 in absurd cc

pub returns-clause-both_choices : goal.returns-clause-both_choices
returns-clause-both_choices c = λ h. let e : true ≡ false = ((h.apart).2).0 in absurd cc

pub returns-clause-both_present : goal.returns-clause-both_present
returns-clause-both_present c = λ h. let e : true ≡ false = (h.apart).0 in absurd cc

pub returns-clause-endless : goal.returns-clause-endless
returns-clause-endless c = λ h. let e : true ≡ false = sym (((h.apart).0 refl).0) in absurd cc

pub returns-clause-second_endless : goal.returns-clause-second_endless
returns-clause-second_endless c = λ h. let e : true ≡ false = sym (((h.apart).0 refl).1) in absurd cc
