use Rattle.std.proofs.Common.{false, true}
use Rattle.kernel_terms.proofs.StatementLayers.{statement-Abort, statement-Local, statement-Suspend}
use Rattle.kernel_terms.proofs.rows.bodies_begin_anew.Goals as goal

pub returns-clause-strong : goal.returns-clause-strong
returns-clause-strong c t p a h = statement-Abort t false false a p h

pub returns-clause-strong_immediate : goal.returns-clause-strong_immediate
returns-clause-strong_immediate c t p a h = statement-Abort t false true a p h

pub returns-clause-weak : goal.returns-clause-weak
returns-clause-weak c t p a h = statement-Abort t true false a p h

pub returns-clause-weak_immediate : goal.returns-clause-weak_immediate
returns-clause-weak_immediate c t p a h = statement-Abort t true true a p h

pub returns-clause-suspend : goal.returns-clause-suspend
returns-clause-suspend c t p a h = statement-Suspend t a p h

pub returns-clause-local : goal.returns-clause-local
returns-clause-local c t p s h = statement-Local t s p h
