use Rattle.std.proofs.Common.{drop, ◌+◌}
use Rattle.sj_accept.proofs.StatementLemmas.{domains_more}
use Rattle.sj_accept.proofs.domains.domain_terms.Goals as goal

pub loop-i-preserved : goal.loop-i-preserved
loop-i-preserved c =
    domains_more c.args.domains.now (drop c.loop-i.i c.args.domains.now) (drop (c.loop-i.i + 1) c.args.domains.now) c.loop-i.terms.items c.push.new.self.items c.index-domains-i.result c.in-Some.term
    c.begins_with_item.ensures c.in_ok-push.ensures.items (rw c.in-Some.is at c.in_ok-term.ensures.value) (rw c.in-Some.is at c.in_ok-term.ensures.term) c.loop-i.invariant
