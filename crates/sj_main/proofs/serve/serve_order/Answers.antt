use Rattle.std.proofs.Common.{ap, arith}
use Rattle.std.specs.Prelude.{Err}
use Rattle.sj_main.proofs.ServeLemmas.{run_begins, read_fault_begins, size_begins, reason_prints, reason_begins, misfit_begins, weight_begins, no_memory_begins}
use Rattle.sj_main.proofs.serve.serve_order.Goals as goal

pub returns-in-Ok-clause-write_fault : goal.returns-in-Ok-clause-write_fault
returns-in-Ok-clause-write_fault g c = λ four.
    (c.in-Err.ensures.cause, run_begins (g.F.Files.told c.args.files.now c.args.file.now) c.args.turns.now c.in-Ok.made c.args.file.now (g.F.Files.faults c.args.files.now) (g.F.Files.faults c.order.new.files) (g.K.Sink.taken c.args.out.now) (g.K.Sink.taken c.print.new.out) c.in-Ok.ensures.made c.in-Err.ensures.takes_prefix (c.in-Ok.ensures.counts_stay (λ e. cc)))

pub returns-in-Err-Fault-clause-write_fault : goal.returns-in-Err-Fault-clause-write_fault
returns-in-Err-Fault-clause-write_fault g c = λ four.
    (c.answer.ensures.fault four, read_fault_begins (g.F.Files.told c.args.files.now c.args.file.now) c.args.turns.now c.args.file.now (g.F.Files.faults c.args.files.now) (g.F.Files.faults c.order.new.files) (g.K.Sink.taken c.args.out.now) (g.K.Sink.taken c.answer.new.out) (c.answer.ensures.takes_prefix four) (c.in-Err-Fault.ensures.fault (ap Err c.in-Err-Fault.field-0-is)))

pub returns-in-Err-Size-clause-write_fault : goal.returns-in-Err-Size-clause-write_fault
returns-in-Err-Size-clause-write_fault g c = λ four.
    let a = c.answer-in-Err-Size.ensures in
    let why = rw c.in-Err-Size.field-0-is at c.in-Err-Size.ensures.why in
    (a.fault four, size_begins (g.F.Files.told c.args.files.now c.args.file.now) c.args.turns.now c.args.file.now (g.F.Files.faults c.args.files.now) (g.F.Files.faults c.order.new.files) (g.K.Sink.taken c.args.out.now) (g.K.Sink.taken c.answer-in-Err-Size.new.out) why (a.takes_prefix four) (c.in-Err-Size.ensures.counts_stay (λ e. let k = c.in-Err-Size.field-0-is in cc)))

pub returns-in-Err-Refused-clause-refused : goal.returns-in-Err-Refused-clause-refused
returns-in-Err-Refused-clause-refused g c = λ one.
    let why = rw c.in-Err-Refused.field-0-is at c.in-Err-Refused.ensures.why in
    reason_prints (g.F.Files.told c.args.files.now c.args.file.now) c.args.turns.now c.in-Err-Refused.refusal (g.K.Sink.taken c.args.out.now) (g.K.Sink.taken c.answer_refusal.new.out) why (c.answer_refusal.ensures.ok (λ four. omega arith))

pub returns-in-Err-Refused-clause-write_fault : goal.returns-in-Err-Refused-clause-write_fault
returns-in-Err-Refused-clause-write_fault g c = λ four.
    let a = c.answer_refusal.ensures in
    let why = rw c.in-Err-Refused.field-0-is at c.in-Err-Refused.ensures.why in
    (a.fault four, reason_begins (g.F.Files.told c.args.files.now c.args.file.now) c.args.turns.now c.in-Err-Refused.refusal c.args.file.now (g.F.Files.faults c.args.files.now) (g.F.Files.faults c.order.new.files) (g.K.Sink.taken c.args.out.now) (g.K.Sink.taken c.answer_refusal.new.out) why (a.takes_prefix four) (c.in-Err-Refused.ensures.counts_stay (λ e. let k = c.in-Err-Refused.field-0-is in cc)))

pub returns-in-Err-DomainsDoNotFit-clause-write_fault : goal.returns-in-Err-DomainsDoNotFit-clause-write_fault
returns-in-Err-DomainsDoNotFit-clause-write_fault g c = λ four.
    let a = c.answer-in-Err-DomainsDoNotFit.ensures in
    let why = rw c.in-Err-DomainsDoNotFit.field-0-is at c.in-Err-DomainsDoNotFit.ensures.why in
    (a.fault four, misfit_begins (g.F.Files.told c.args.files.now c.args.file.now) c.args.turns.now c.args.file.now (g.F.Files.faults c.args.files.now) (g.F.Files.faults c.order.new.files) (g.K.Sink.taken c.args.out.now) (g.K.Sink.taken c.answer-in-Err-DomainsDoNotFit.new.out) why (a.takes_prefix four) (c.in-Err-DomainsDoNotFit.ensures.counts_stay (λ e. let k = c.in-Err-DomainsDoNotFit.field-0-is in cc)))

pub returns-in-Err-OverWeight-clause-write_fault : goal.returns-in-Err-OverWeight-clause-write_fault
returns-in-Err-OverWeight-clause-write_fault g c = λ four.
    let a = c.answer_numbered.ensures in
    let why = rw c.in-Err-OverWeight.field-0-is at c.in-Err-OverWeight.ensures.why in
    (a.fault four, weight_begins (g.F.Files.told c.args.files.now c.args.file.now) c.args.turns.now c.in-Err-OverWeight.weight c.args.file.now (g.F.Files.faults c.args.files.now) (g.F.Files.faults c.order.new.files) (g.K.Sink.taken c.args.out.now) (g.K.Sink.taken c.answer_numbered.new.out) why (a.takes_prefix four) (c.in-Err-OverWeight.ensures.counts_stay (λ e. let k = c.in-Err-OverWeight.field-0-is in cc)))

pub returns-clause-write_fault : goal.returns-clause-write_fault
returns-clause-write_fault g c = λ four.
    let a = c.answer-in-Err-NoMemory.ensures in
    (a.fault four, no_memory_begins (g.F.Files.told c.args.files.now c.args.file.now) c.args.turns.now c.args.file.now (g.F.Files.faults c.args.files.now) (g.F.Files.faults c.order.new.files) (g.K.Sink.taken c.args.out.now) (g.K.Sink.taken c.answer-in-Err-NoMemory.new.out) (a.takes_prefix four) (c.in-Err-NoMemory.ensures.counts_stay (λ e. let k = c.in-Err-NoMemory.field-0-is in cc)))
