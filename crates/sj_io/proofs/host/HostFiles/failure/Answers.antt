use Rattle.std.proofs.Common.{arith}
use Rattle.std.specs.Prelude.{string_bytes}
use Rattle.sj_io.specs.declared.host.HostName.{HostName}
use Rattle.sj_io.proofs.CountLemmas.{fails_at, fails_elsewhere}
use Rattle.sj_io.proofs.host.HostFiles.failure.Goals as goal

pub returns-in-Some-clause-raises : goal.returns-in-Some-clause-raises
returns-in-Some-clause-raises g c = fails_at (λ (n : HostName). string_bytes n.name) (λ n. n.faults) c.deref.result.now c.args.self.now.names.items c.raise.new.names.items c.args.self.now.others c.in-Some.place c.args.name.now c.deref.ensures.value c.in-Some.ensures c.raise.ensures

pub returns-in-None-clause-raises : goal.returns-in-None-clause-raises
returns-in-None-clause-raises g c = fails_elsewhere (λ (n : HostName). string_bytes n.name) (λ n. n.faults) c.deref.result.now c.args.self.now.names.items c.args.self.now.others c.saturating_add-self.result c.args.name.now c.deref.ensures.value c.in-None.ensures (omega arith) c.saturating_add-self.ensures
