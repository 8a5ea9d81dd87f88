use Rattle.sj_accept.proofs.source.read_tree.Goals as goal

pub returns-in-Err : goal.returns-in-Err
returns-in-Err c = c.lex_error.ensures c.args.source.now c.in-Err.ensures.why
