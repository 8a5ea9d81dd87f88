use Rattle.std.proofs.Common.{List, subst, sym}
use Rattle.sj_ast.specs.declared.name.Name as ast_name
use Rattle.sj_ast.specs.declared.port.Port as port
use Rattle.sj_grammar.specs.definitions.Trees.{SourceBlock}
use Rattle.stmt_parser.specs.Reading.{ReadsInterface, ReadsDomains}
use Rattle.stmt_parser.proofs.ProgramLemmas.{program-reads}
use Rattle.stmt_parser.proofs.program.read_program.Goals as goal

pub returns-in-Ok-domains : goal.returns-in-Ok-domains
returns-in-Ok-domains c =
    (let P : List (port.Port ast_name.Name) → Type 0 = λ l. ReadsInterface c.args.source.now c.args.tokens.now l c.in-Ok.ports.rest.now in
    let Q : List SourceBlock → Type 0 = λ l. ReadsDomains c.args.source.now c.in-Ok.ports.rest.now l c.in-Ok-domains.read.rest.now in
    program-reads c.args.source.now c.args.tokens.now c.in-Ok.ports.rest.now c.in-Ok-domains.read.rest.now c.from_vec.result c.from_vec-in-Ok-domains.result (subst P (sym c.from_vec.ensures) c.in-Ok.ensures) (subst Q (sym c.from_vec-in-Ok-domains.ensures) c.in-Ok-domains.ensures))
