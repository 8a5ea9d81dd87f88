use Rattle.std.proofs.Common.{List, subst, sym}
use Rattle.sj_ast.specs.declared.name.Name as ast_name
use Rattle.sj_ast.specs.declared.port.Port as port
use Rattle.stmt_parser.specs.Reading.{ReadsPortsSoFar}
use Rattle.stmt_parser.proofs.InterfaceLemmas.{ports-none, ports-more}
use Rattle.stmt_parser.proofs.ports.read_ports.Goals as goal

pub loop-alloc-init : goal.loop-alloc-init
loop-alloc-init c = (let P : List (port.Port ast_name.Name) → Type 0 = λ l. ReadsPortsSoFar c.args.source.now c.args.tokens.now c.args.depth l c.args.tokens.now in subst P (sym c.new-ports.ensures.items) (ports-none c.args.source.now c.args.tokens.now c.args.depth))

pub loop-alloc-preserved : goal.loop-alloc-preserved
loop-alloc-preserved c = ports-more c.args.source.now c.args.tokens.now c.loop-alloc.rest.now c.in-Ok.read.rest.now c.args.depth c.loop-alloc.ports.items c.add_port.new.ports.items c.in-Ok.read.value (c.add_port.ensures c.if-not-add_port.false) c.loop-alloc.invariant c.in-Ok.ensures
