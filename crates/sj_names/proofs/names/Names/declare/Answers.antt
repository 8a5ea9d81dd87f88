use Rattle.std.proofs.Common.{sym, ◌∙◌}
use Rattle.sj_names.proofs.NameLemmas.{found_push, where_ok, none_where}
use Rattle.sj_names.proofs.names.Names.declare.Goals as goal

pub invariant_of-self-else-is_err : goal.invariant_of-self-else-is_err
invariant_of-self-else-is_err c = record {
  found = found_push c.args.self.now.visible.items c.push.new.self.items _ c.args.self.now.meanings c.insert.new.self c.args.self.now.found (sym c.meaning.ensures ∙ none_where c.meaning.result c.is_some.result c.is_some.ensures c.if-is_some.false) c.in_ok-push.ensures.items
      (where_ok c.insert.result _ (sym c.is_err.ensures.value ∙ c.if-is_err.false) c.insert.ensures.updates);
}
