use Rattle.java_types.specs.definitions.Checks.{IsFirst}
use Rattle.java_types.specs.definitions.TypedTrees.{checked_tree}
use Rattle.std.proofs.Common.{subst}
use Rattle.sj_accept.proofs.KindLemmas.{kind_fails}
use Rattle.sj_accept.proofs.source.kind_error.Goals as goal

pub returns-in-Failed : goal.returns-in-Failed
returns-in-Failed c = λ source tree bound p b w. kind_fails source tree bound c.in-Failed.failure p b (subst (IsFirst (checked_tree bound.tables bound.tree)) c.in-Failed.is w)
