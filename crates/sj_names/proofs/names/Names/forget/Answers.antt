use Rattle.sj_names.proofs.NameLemmas.{found_pop}
use Rattle.sj_names.proofs.names.Names.forget.Goals as goal

pub invariant_of-self : goal.invariant_of-self
invariant_of-self c = record {
  found = found_pop c.pop.new.self.items c.args.self.now.visible.items c.in-Some.last c.pop.result c.args.self.now.meanings c.remove.new.self c.pop.ensures.items c.in-Some.is c.args.self.now.found c.remove.ensures.updates;
}
