use Rattle.domain_core.proofs.lemmas.equations.PlaceLists.{found-Seq}
use Rattle.domain_core.proofs.equations.sites.+find.Goals as goal

pub find-returns-in-Seq : goal.find-returns-in-Seq
find-returns-in-Seq t c =
    found-Seq c.find_all.result c.args.term.now c.in-Seq.list c.as_slice-list.result.now c.args.found.now c.find_all.new.found c.args.ends.now c.args.register c.in-Seq.is c.as_slice-list.ensures c.find_all.ensures
