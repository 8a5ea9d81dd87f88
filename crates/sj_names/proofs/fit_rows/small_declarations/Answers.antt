use Rattle.std.proofs.Common.{◌∷◌, [], sym}
use Rattle.sj_names.proofs.FitRowLemmas.{tree_declares, numbers_declared}
use Rattle.sj_names.proofs.fit_rows.small_declarations.Goals as goal

pub returns-clause-each_the_next : goal.returns-clause-each_the_next
returns-clause-each_the_next c = sym (tree_declares 0 (1 ∷ 2 ∷ []))

pub returns-clause-two_of_one_number : goal.returns-clause-two_of_one_number
returns-clause-two_of_one_number c = λ h. let same = numbers_declared 0 (1 ∷ 1 ∷ []) h in absurd (cc)

pub returns-clause-exchanged : goal.returns-clause-exchanged
returns-clause-exchanged c = λ h. let same = numbers_declared 0 (2 ∷ 1 ∷ []) h in absurd (cc)

pub returns-clause-local_as_the_output : goal.returns-clause-local_as_the_output
returns-clause-local_as_the_output c = λ h. let same = numbers_declared 0 (0 ∷ 2 ∷ []) h in absurd (cc)

pub returns-clause-output_as_a_local : goal.returns-clause-output_as_a_local
returns-clause-output_as_a_local c = λ h. let same = numbers_declared 1 (1 ∷ 2 ∷ []) h in absurd (cc)

pub returns-clause-one_too_few : goal.returns-clause-one_too_few
returns-clause-one_too_few c = λ h. let same = numbers_declared 0 (1 ∷ []) h in absurd (cc)
