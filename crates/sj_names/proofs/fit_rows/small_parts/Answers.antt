use Rattle.std.proofs.Common.{◌&&◌, true, false, refl, ap}
use Rattle.sj_names.proofs.FitRowLemmas.{signal_tested, both_emit}
use Rattle.sj_names.proofs.fit_rows.small_parts.Goals as goal

pub returns-clause-first_beside : goal.returns-clause-first_beside
returns-clause-first_beside c = refl

pub returns-clause-others_beside : goal.returns-clause-others_beside
returns-clause-others_beside c = refl

pub returns-clause-beside : goal.returns-clause-beside
returns-clause-beside c = refl

pub returns-clause-in_a_block : goal.returns-clause-in_a_block
returns-clause-in_a_block c = refl

pub returns-clause-condition : goal.returns-clause-condition
returns-clause-condition c = refl

pub returns-clause-then_part : goal.returns-clause-then_part
returns-clause-then_part c = refl

pub returns-clause-else_part : goal.returns-clause-else_part
returns-clause-else_part c = refl

pub returns-clause-both_parts : goal.returns-clause-both_parts
returns-clause-both_parts c = refl

pub returns-clause-tested : goal.returns-clause-tested
returns-clause-tested c = ap (λ b. b && true) (signal_tested 0 2)

pub returns-clause-where_present : goal.returns-clause-where_present
returns-clause-where_present c = ap (λ b. b && false) (signal_tested 0 0)

pub returns-clause-where_absent : goal.returns-clause-where_absent
returns-clause-where_absent c = ap (λ b. b && false) (signal_tested 0 0)

pub returns-clause-repeated : goal.returns-clause-repeated
returns-clause-repeated c = refl

pub returns-clause-aborted : goal.returns-clause-aborted
returns-clause-aborted c = ap (λ b. b && false) (signal_tested 0 0)

pub returns-clause-aborting : goal.returns-clause-aborting
returns-clause-aborting c = ap (λ b. b && true) (signal_tested 0 2)

pub returns-clause-suspended : goal.returns-clause-suspended
returns-clause-suspended c = ap (λ b. b && false) (signal_tested 0 0)

pub returns-clause-suspending : goal.returns-clause-suspending
returns-clause-suspending c = ap (λ b. b && true) (signal_tested 0 2)

pub returns-clause-trapped : goal.returns-clause-trapped
returns-clause-trapped c = refl

pub returns-clause-restarted : goal.returns-clause-restarted
returns-clause-restarted c = ap (λ b. b && false) (signal_tested 0 0)

pub returns-clause-restarting : goal.returns-clause-restarting
returns-clause-restarting c = ap (λ b. b && true) (signal_tested 0 2)

pub returns-clause-each_body : goal.returns-clause-each_body
returns-clause-each_body c = refl

pub returns-clause-each : goal.returns-clause-each
returns-clause-each c = signal_tested 0 2

pub returns-clause-own_signals : goal.returns-clause-own_signals
returns-clause-own_signals c = both_emit 1 2

pub returns-clause-others_signals : goal.returns-clause-others_signals
returns-clause-others_signals c = both_emit 2 1

pub returns-clause-second_domain : goal.returns-clause-second_domain
returns-clause-second_domain c = both_emit 1 1
