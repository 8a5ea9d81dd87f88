use Rattle.std.proofs.Common.{[], ◌∷◌}
use Rattle.kernel_terms.proofs.Layers.{statement-Seq}
use Rattle.kernel_terms.proofs.StatementLayers.{statement-Par}
use Rattle.kernel_terms.proofs.rows.parts_nest_to_the_right.Goals as goal

pub returns-clause-none : goal.returns-clause-none
returns-clause-none c t h = statement-Seq t [] h

pub returns-clause-one : goal.returns-clause-one
returns-clause-one c t p h = statement-Seq t (p ∷ []) h

pub returns-clause-two : goal.returns-clause-two
returns-clause-two c t p q h = statement-Seq t (p ∷ q ∷ []) h

pub returns-clause-four : goal.returns-clause-four
returns-clause-four c t p q r u h = statement-Seq t (p ∷ q ∷ r ∷ u ∷ []) h

pub returns-clause-none_beside : goal.returns-clause-none_beside
returns-clause-none_beside c t h = statement-Par t [] h

pub returns-clause-one_beside : goal.returns-clause-one_beside
returns-clause-one_beside c t p h = statement-Par t (p ∷ []) h

pub returns-clause-two_beside : goal.returns-clause-two_beside
returns-clause-two_beside c t p q h = statement-Par t (p ∷ q ∷ []) h

pub returns-clause-four_beside : goal.returns-clause-four_beside
returns-clause-four_beside c t p q r u h = statement-Par t (p ∷ q ∷ r ∷ u ∷ []) h
