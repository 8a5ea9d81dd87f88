use Rattle.std.proofs.Common.{refl}
use Rattle.sj_names.proofs.FitRowLemmas.{signal_tested}
use Rattle.sj_names.proofs.fit_rows.small_exits_and_signals.Goals as goal

pub returns-clause-in_its_trap : goal.returns-clause-in_its_trap
returns-clause-in_its_trap c = refl

pub returns-clause-in_an_outer_trap : goal.returns-clause-in_an_outer_trap
returns-clause-in_an_outer_trap c = refl

pub returns-clause-outside_of_traps : goal.returns-clause-outside_of_traps
returns-clause-outside_of_traps c = refl

pub returns-clause-behind_its_trap : goal.returns-clause-behind_its_trap
returns-clause-behind_its_trap c = refl

pub returns-clause-in_another_trap : goal.returns-clause-in_another_trap
returns-clause-in_another_trap c = refl

pub returns-clause-local_signal : goal.returns-clause-local_signal
returns-clause-local_signal c = refl

pub returns-clause-in_an_inner_block : goal.returns-clause-in_an_inner_block
returns-clause-in_an_inner_block c = refl

pub returns-clause-before_its_declaration : goal.returns-clause-before_its_declaration
returns-clause-before_its_declaration c = refl

pub returns-clause-behind_its_block : goal.returns-clause-behind_its_block
returns-clause-behind_its_block c = refl

pub returns-clause-local_of_another_domain : goal.returns-clause-local_of_another_domain
returns-clause-local_of_another_domain c = refl

pub returns-clause-declared_output : goal.returns-clause-declared_output
returns-clause-declared_output c = refl

pub returns-clause-declared_with_a_value : goal.returns-clause-declared_with_a_value
returns-clause-declared_with_a_value c = refl

pub returns-clause-no_such_signal : goal.returns-clause-no_such_signal
returns-clause-no_such_signal c = refl

pub returns-clause-output : goal.returns-clause-output
returns-clause-output c = refl

pub returns-clause-input : goal.returns-clause-input
returns-clause-input c = refl

pub returns-clause-output_of_another_domain : goal.returns-clause-output_of_another_domain
returns-clause-output_of_another_domain c = refl

pub returns-clause-its_own_output : goal.returns-clause-its_own_output
returns-clause-its_own_output c = refl

pub returns-clause-sustained_output : goal.returns-clause-sustained_output
returns-clause-sustained_output c = refl

pub returns-clause-sustained_input : goal.returns-clause-sustained_input
returns-clause-sustained_input c = refl

pub returns-clause-sustained_output_of_another_domain : goal.returns-clause-sustained_output_of_another_domain
returns-clause-sustained_output_of_another_domain c = refl

pub returns-clause-tested_input : goal.returns-clause-tested_input
returns-clause-tested_input c = signal_tested 0 0

pub returns-clause-tested_signal_of_another_domain : goal.returns-clause-tested_signal_of_another_domain
returns-clause-tested_signal_of_another_domain c = signal_tested 0 2
