use Rattle.std.proofs.Common.{drop}
use Rattle.sj_accept.specs.Lowered.{DomainsReach}
use Rattle.sj_accept.proofs.domains.domain_terms.Given as goal

abbrev pub invariant-loop-i : goal.invariant-loop-i
invariant-loop-i l = DomainsReach l.domains (drop l.i l.domains) l.terms.items
