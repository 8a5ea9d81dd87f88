use Rattle.std.proofs.Common.{refl}
use Rattle.std.proofs.Common.{rules}
use Rattle.kernel_rules.proofs.worked.registers.each_form_has_registers_of_parts.Goals as goal

pub returns-clause-number : goal.returns-clause-number
returns-clause-number c = refl

pub returns-clause-live : goal.returns-clause-live
returns-clause-live c = refl

pub returns-clause-dead : goal.returns-clause-dead
returns-clause-dead c = refl

pub returns-clause-stand : goal.returns-clause-stand
returns-clause-stand c = refl

pub returns-clause-refused : goal.returns-clause-refused
returns-clause-refused c = search rules
