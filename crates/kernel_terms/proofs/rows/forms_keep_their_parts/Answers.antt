use Rattle.kernel_terms.proofs.Layers.{statement-Loop}
use Rattle.kernel_terms.proofs.StatementLayers.{statement-If, statement-Present, statement-Trap}
use Rattle.kernel_terms.proofs.rows.forms_keep_their_parts.Goals as goal

pub returns-clause-choice : goal.returns-clause-choice
returns-clause-choice c t p q e h = statement-If t e p q h

pub returns-clause-present : goal.returns-clause-present
returns-clause-present c t p q a h = statement-Present t a p q h

pub returns-clause-loop_ : goal.returns-clause-loop_
returns-clause-loop_ c t p h = statement-Loop t p h

pub returns-clause-trap : goal.returns-clause-trap
returns-clause-trap c t p h = statement-Trap t p h
