use Rattle.std.proofs.Common.{sym}
use Rattle.sj_main.proofs.serve.answer_refusal.Goals as goal

pub returns-in-Syntax-clause-ok : goal.returns-in-Syntax-clause-ok
returns-in-Syntax-clause-ok g c = λ other. rw (c.in-Syntax.is, sym c.from-in-Syntax.ensures) (c.answer_numbered-in-Syntax.ensures.ok other)

pub returns-in-Syntax-clause-takes_prefix : goal.returns-in-Syntax-clause-takes_prefix
returns-in-Syntax-clause-takes_prefix g c = λ four. rw (c.in-Syntax.is, sym c.from-in-Syntax.ensures) (c.answer_numbered-in-Syntax.ensures.takes_prefix four)

pub returns-in-Later-clause-ok : goal.returns-in-Later-clause-ok
returns-in-Later-clause-ok g c = λ other. rw c.in-Later.is (c.answer.ensures.ok other)

pub returns-in-Later-clause-takes_prefix : goal.returns-in-Later-clause-takes_prefix
returns-in-Later-clause-takes_prefix g c = λ four. rw c.in-Later.is (c.answer.ensures.takes_prefix four)
