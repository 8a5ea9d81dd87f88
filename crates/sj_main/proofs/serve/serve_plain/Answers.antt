use Rattle.std.proofs.Common.{refl}
use Rattle.sj_main.specs.definitions.Commands.{word_list}
use Rattle.sj_main.proofs.ServeLemmas.{order_begins, order_weighs, usage_begins, want_begins}
use Rattle.sj_main.proofs.serve.serve_plain.Goals as goal

pub returns-in-Ok-Some-clause-write_fault : goal.returns-in-Ok-Some-clause-write_fault
returns-in-Ok-Some-clause-write_fault g c = λ four.
    let x = c.serve_order.ensures.write_fault four in
    let o = rw c.in-Ok-Some.field-0-is at c.in-Ok-Some.ensures.ok in
    (x.0, order_begins (word_list c.args.words.now) (g.F.Files.told c.args.files.now) c.in-Ok-Some.order.file.now c.in-Ok-Some.order.turns (g.F.Files.faults c.args.files.now) (g.F.Files.faults c.serve_order.new.files) (g.K.Sink.taken c.args.out.now) (g.K.Sink.taken c.serve_order.new.out) o x.1)

pub returns-in-Ok-Some-clause-weight : goal.returns-in-Ok-Some-clause-weight
returns-in-Ok-Some-clause-weight g c = λ seven.
    let x = c.serve_order.ensures.weight seven in
    let o = rw c.in-Ok-Some.field-0-is at c.in-Ok-Some.ensures.ok in
    order_weighs (word_list c.args.words.now) (g.F.Files.told c.args.files.now) c.in-Ok-Some.order.file.now c.in-Ok-Some.order.turns (g.K.Sink.taken c.args.out.now) (g.K.Sink.taken c.serve_order.new.out) o x

pub returns-in-Ok-None-clause-write_fault : goal.returns-in-Ok-None-clause-write_fault
returns-in-Ok-None-clause-write_fault g c = λ four.
    let n = rw c.in-Ok-None.field-0-is at c.in-Ok-None.ensures.ok in
    (c.answer.ensures.fault four, usage_begins (word_list c.args.words.now) (g.F.Files.told c.args.files.now) (g.F.Files.faults c.args.files.now) (g.F.Files.faults c.args.files.now) (g.K.Sink.taken c.args.out.now) (g.K.Sink.taken c.answer.new.out) n (c.answer.ensures.takes_prefix four) (λ other. refl))

pub returns-in-Err-clause-write_fault : goal.returns-in-Err-clause-write_fault
returns-in-Err-clause-write_fault g c = λ four.
    (c.answer-in-Err.ensures.fault four, want_begins (word_list c.args.words.now) (g.F.Files.told c.args.files.now) (g.F.Files.faults c.args.files.now) (g.F.Files.faults c.args.files.now) (g.K.Sink.taken c.args.out.now) (g.K.Sink.taken c.answer-in-Err.new.out) c.in-Err.ensures.err (c.answer-in-Err.ensures.takes_prefix four) (λ other. refl))

pub returns-in-Err-clause-usage : goal.returns-in-Err-clause-usage
returns-in-Err-clause-usage g c = λ none. (let x = c.in-Err.ensures.err in absurd (none x.file x.turns x.command))
