use Rattle.std.proofs.Common.{◌≡◌, ◌-◌, ◌∙◌, ap, min, length, false, rules}
use Rattle.sj_io.specs.definitions.Files.{ReadsAt}
use Rattle.sj_io.specs.definitions.Memory.{is_listed, next_number}
use Rattle.sj_io.proofs.MemoryLemmas.{bytes_nowhere, bytes_found, fails_where_absent, reads_where_told, of_told}
use Rattle.sj_io.proofs.memory.MemFilesFiles.read.Goals as goal

pub returns-in_default-clause-exact : goal.returns-in_default-clause-exact
returns-in_default-clause-exact c = fails_where_absent _ _ (bytes_nowhere c.deref.result.now c.args.self.now.files.items c.args.name.now c.deref.ensures.value c.in_default.ensures)

pub returns-clause-exact : goal.returns-clause-exact
returns-clause-exact c =
    let listed : false ≡ is_listed c.args.self.now.fail.items (next_number c.args.self.now.calls) = c.if-contains.ensures.value ∙ ap (λ l. is_listed l c.saturating_add-self.result) c.as_slice.ensures.value ∙ ap (is_listed c.args.self.now.fail.items) c.saturating_add-self.ensures in
    reads_where_told _ _ c.deref-2.result.now (bytes_found c.deref.result.now c.args.self.now.files.items c.args.name.now c.deref-2.result.now c.in-Some.place c.index-file.result.now c.deref.ensures.value c.in-Some.ensures c.index-file.ensures c.deref-2.ensures.value) listed

pub returns-clause-bytes : goal.returns-clause-bytes
returns-clause-bytes c = of_told _ c.deref-2.result.now (λ all. ReadsAt all c.args.at c.copy_from.result c.copy_from.new.buf) (bytes_found c.deref.result.now c.args.self.now.files.items c.args.name.now c.deref-2.result.now c.in-Some.place c.index-file.result.now c.deref.ensures.value c.in-Some.ensures c.index-file.ensures c.deref-2.ensures.value) c.copy_from.ensures.bytes

pub returns-clause-count : goal.returns-clause-count
returns-clause-count c = of_told _ c.deref-2.result.now (λ all. c.copy_from.result ≡ min (min (length c.copy_from.new.buf) c.args.self.now.piece) (length all - c.args.at)) (bytes_found c.deref.result.now c.args.self.now.files.items c.args.name.now c.deref-2.result.now c.in-Some.place c.index-file.result.now c.deref.ensures.value c.in-Some.ensures c.index-file.ensures c.deref-2.ensures.value) (search rules)
