use Rattle.std.proofs.Common.{None, Some}
use Rattle.kernel_terms.proofs.StatementLayers.{statement-Assign, statement-Emit, statement-Exit, statement-Nothing, statement-Pause, statement-Receive, statement-Send}
use Rattle.kernel_terms.proofs.rows.forms_without_parts_stay.Goals as goal

pub returns-clause-nothing : goal.returns-clause-nothing
returns-clause-nothing c t h = statement-Nothing t h

pub returns-clause-pause : goal.returns-clause-pause
returns-clause-pause c t h = statement-Pause t h

pub returns-clause-emit : goal.returns-clause-emit
returns-clause-emit c t s h = statement-Emit t s None h

pub returns-clause-emit_value : goal.returns-clause-emit_value
returns-clause-emit_value c t s e h = statement-Emit t s (Some e) h

pub returns-clause-assign : goal.returns-clause-assign
returns-clause-assign c t x e h = statement-Assign t x e h

pub returns-clause-exit : goal.returns-clause-exit
returns-clause-exit c t d h = statement-Exit t d h

pub returns-clause-send : goal.returns-clause-send
returns-clause-send _ t c e h = statement-Send t c e h

pub returns-clause-receive : goal.returns-clause-receive
returns-clause-receive _ t c h = statement-Receive t c h
