use Rattle.std.proofs.Common.{rules}
use Rattle.std.proofs.lemmas.Int.{wraps}
use Rattle.java_values.proofs.whole.product.Goals as goal

pub returns-in-Int-clause-number : goal.returns-in-Int-clause-number
returns-in-Int-clause-number c = rw c.in-Int.is (search (rules, wraps))
