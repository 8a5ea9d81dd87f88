use Rattle.std.proofs.Common.{refl, arith}
use Rattle.std.specs.Prelude.{string_bytes}
use Rattle.sj_io.specs.declared.memory.MemFile.{MemFile}
use Rattle.sj_io.proofs.CountLemmas.{raised}
use Rattle.sj_io.proofs.MemoryLemmas.{bytes_stay}
use Rattle.sj_io.proofs.memory.MemFiles.raise.Goals as goal

pub returns-clause-counts : goal.returns-clause-counts
returns-clause-counts c =
    let file = c.index_mut-file.result.now in
    raised (λ (f : MemFile). string_bytes f.name) (λ f. f.faults) c.args.files.now.items c.args.place (record file { faults = c.saturating_add-file.result }) file (omega (arith, c.args.files.now.ok.0)) c.index_mut-file.ensures.value refl (omega arith) c.saturating_add-file.ensures

pub returns-clause-bytes : goal.returns-clause-bytes
returns-clause-bytes c name =
    let file = c.index_mut-file.result.now in
    bytes_stay c.args.files.now.items c.args.place (record file { faults = c.saturating_add-file.result }) file name c.index_mut-file.ensures.value refl refl
