use Rattle.std.proofs.Common.{◌≡◌, ◌+◌, ◌*◌, ◌≤◌, List, length, sum_by, arith, ap, ◌∙◌}
use Rattle.std.specs.List.{range_with_len}
use Rattle.kernel_terms.specs.declared.tables.SignalInfo.{SignalInfo}
use Rattle.kernel_terms.specs.TableEntries.{is_interface_of, interface_of, numbers_where}
use Rattle.sj_main.specs.definitions.RunWeight.{domain_weight}
use Rattle.sj_main.proofs.RunWeights.{weight_more, weight_room, weight_end}
use Rattle.sj_main.proofs.turns.domains_weight.Goals as goal

signals : (c : goal.After-from) → c.interface_count-signals.result ≡ length (interface_of c.args.tables.now c.loop-domain.domain)
signals c = c.interface_count-signals.ensures.value ∙ ap (λ (xs : List SignalInfo). length (numbers_where (is_interface_of c.loop-domain.domain) 0 xs)) c.as_slice.ensures

room : (c : goal.After-from) → c.loop-domain.weight + c.from.result * (c.interface_count-signals.result + 1) ≤ sum_by (domain_weight c.args.tables.now c.args.budgets.now) (range_with_len 0 (length c.args.budgets.now))
room c = weight_room c.args.tables.now c.args.budgets.now c.loop-domain.domain c.from.result c.interface_count-signals.result c.loop-domain.weight c.loop-domain-test.true c.from.ensures (signals c) c.loop-domain.invariant

pub overflow_mul-weight : goal.overflow_mul-weight
overflow_mul-weight c = omega (arith, room c, c.requires.small)

pub overflow_add-weight-in-loop-domain : goal.overflow_add-weight-in-loop-domain
overflow_add-weight-in-loop-domain c = omega (arith, room c, c.requires.small)

pub loop-domain-preserved : goal.loop-domain-preserved
loop-domain-preserved c = weight_more c.args.tables.now c.args.budgets.now c.loop-domain.domain c.from.result c.interface_count-signals.result c.loop-domain.weight c.loop-domain-test.true c.from.ensures (signals c) c.loop-domain.invariant

pub returns : goal.returns
returns c = weight_end c.args.tables.now c.args.budgets.now c.loop-domain.domain c.loop-domain.weight c.loop-domain-test.false c.loop-domain.invariant
