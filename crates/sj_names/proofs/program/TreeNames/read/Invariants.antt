use Rattle.std.proofs.Common.{◌≡◌, ◌++◌, drop, map}
use Rattle.sj_names.specs.VisibleNames.{scope_of}
use Rattle.sj_names.specs.definitions.Mentions.{domain_mentions}
use Rattle.sj_names.proofs.program.TreeNames.read.Given as goal

abbrev pub invariant-loop-domain : goal.invariant-loop-domain
invariant-loop-domain l = map (λ mentions. mentions.items) l.domains.items ++ domain_mentions (scope_of l.visible) (drop l.domain-index l.domain-items) ≡ domain_mentions (scope_of l.initial.visible) l.domain-items
