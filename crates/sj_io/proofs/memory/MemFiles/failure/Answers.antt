use Rattle.std.proofs.Common.{arith}
use Rattle.std.specs.Prelude.{string_bytes}
use Rattle.sj_io.specs.declared.memory.MemFile.{MemFile}
use Rattle.sj_io.proofs.CountLemmas.{fails_at, fails_elsewhere}
use Rattle.sj_io.proofs.memory.MemFiles.failure.Goals as goal

pub returns-in-Some-clause-raises : goal.returns-in-Some-clause-raises
returns-in-Some-clause-raises c = fails_at (λ (f : MemFile). string_bytes f.name) (λ f. f.faults) c.deref.result.now c.args.self.now.files.items c.raise.new.files.items c.args.self.now.others c.in-Some.place c.args.name.now c.deref.ensures.value c.in-Some.ensures c.raise.ensures.counts

pub returns-in-None-clause-raises : goal.returns-in-None-clause-raises
returns-in-None-clause-raises c = fails_elsewhere (λ (f : MemFile). string_bytes f.name) (λ f. f.faults) c.deref.result.now c.args.self.now.files.items c.args.self.now.others c.saturating_add-self.result c.args.name.now c.deref.ensures.value c.in-None.ensures (omega arith) c.saturating_add-self.ensures
