use Rattle.std.proofs.Common.{◌++◌, ap, ◌∙◌, arith}
use Rattle.sj_io.specs.definitions.Gathers.{waiting}
use Rattle.sj_io.proofs.GatheringLemmas.{kept}
use Rattle.sj_io.proofs.gathered.Gathered.keep.Goals as goal

pub returns-clause-kept : goal.returns-clause-kept
returns-clause-kept c = kept c.args.self.now.buffer c.copy_from_slice.new.self c.args.self.now.from c.args.self.now.to c.min-n.result _ (omega arith) (omega arith) (omega arith) ∙ ap (λ l. waiting c.args.self.now ++ l) c.copy_from_slice.ensures.after
