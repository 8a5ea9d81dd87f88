use Rattle.std.proofs.Common.{◌∙◌, sym}
use Rattle.sj_accept.proofs.SystemLemmas.{well_formed}
use Rattle.sj_accept.proofs.ProgramLemmas.{is_system}
use Rattle.sj_accept.proofs.program.system_of.Goals as goal

pub new-requires : goal.new-requires
new-requires c =
    rw c.from_vec.ensures
    (well_formed c.args.typed.tables c.args.typed.tree c.in-Ok-Some.terms.items c.args.typed.sound c.args.typed.fitting (sym c.tables_are_built.ensures ∙ c.if-not-tables_are_built.false) (rw c.in-Ok-Some.field-0-is at (rw c.as_slice.ensures at c.in-Ok-Some.ensures)))

pub returns-in-Ok-Some : goal.returns-in-Ok-Some
returns-in-Ok-Some c =
    is_system c.args.typed.tables c.args.typed.tree c.in-Ok-Some.terms.items c.new.result c.args.typed.fitting (sym c.tables_are_built.ensures ∙ c.if-not-tables_are_built.false) (rw c.in-Ok-Some.field-0-is at (rw c.as_slice.ensures at c.in-Ok-Some.ensures)) c.new.ensures.tables
    (c.new.ensures.domains ∙ c.from_vec.ensures)
