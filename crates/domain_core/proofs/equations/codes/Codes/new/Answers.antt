use Rattle.std.proofs.Common.{arith}
use Rattle.domain_core.specs.equations.BuiltForms.{plain}
use Rattle.domain_core.proofs.lemmas.equations.CircuitStarts.{few_registers}
use Rattle.domain_core.proofs.equations.codes.Codes.new.Goals as goal

pub count-count-requires : goal.count-count-requires
count-count-requires c = let few = few_registers (plain c.args.term.now) c.args.signals c.requires.can in record { room = omega arith }

pub overflow_cast-count : goal.overflow_cast-count
overflow_cast-count c = let few = few_registers (plain c.args.term.now) c.args.signals c.requires.can in omega (arith, c.count-count.ensures)

pub find-requires : goal.find-requires
find-requires c = let few = few_registers (plain c.args.term.now) c.args.signals c.requires.can in record { ends = c.requires.ends; room = omega arith }

pub returns-clause-few : goal.returns-clause-few
returns-clause-few c = let few = few_registers (plain c.args.term.now) c.args.signals c.requires.can in omega (arith, c.count-count.ensures, few)
