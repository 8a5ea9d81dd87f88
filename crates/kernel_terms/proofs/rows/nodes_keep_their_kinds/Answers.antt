use Rattle.kernel_terms.proofs.StatementLayers.{expression-Binary, expression-Cast, expression-Channel, expression-Literal, expression-Signal, expression-Unary, expression-Variable}
use Rattle.kernel_terms.proofs.rows.nodes_keep_their_kinds.Goals as goal

pub returns-clause-literal : goal.returns-clause-literal
returns-clause-literal c e n h = expression-Literal e n h

pub returns-clause-variable : goal.returns-clause-variable
returns-clause-variable c e x h = expression-Variable e x h

pub returns-clause-signal : goal.returns-clause-signal
returns-clause-signal c e s h = expression-Signal e s h

pub returns-clause-channel : goal.returns-clause-channel
returns-clause-channel _ e c h = expression-Channel e c h

pub returns-clause-unary : goal.returns-clause-unary
returns-clause-unary c e f o h = expression-Unary e o f h

pub returns-clause-binary : goal.returns-clause-binary
returns-clause-binary c e f g o h = expression-Binary e o f g h

pub returns-clause-cast : goal.returns-clause-cast
returns-clause-cast c e f h = expression-Cast e f h
