use Rattle.std.proofs.Common.{refl, arith}
use Rattle.std.specs.Prelude.{string_bytes}
use Rattle.sj_io.specs.declared.host.HostName.{HostName}
use Rattle.sj_io.proofs.CountLemmas.{raised}
use Rattle.sj_io.proofs.host.raise.Goals as goal

pub returns : goal.returns
returns c =
    let entry = c.index_mut-entry.result.now in
    raised (λ (n : HostName). string_bytes n.name) (λ n. n.faults) c.args.names.now.items c.args.place (record entry { faults = c.saturating_add-entry.result }) entry (omega (arith, c.args.names.now.ok.0)) c.index_mut-entry.ensures.value refl (omega arith) c.saturating_add-entry.ensures
