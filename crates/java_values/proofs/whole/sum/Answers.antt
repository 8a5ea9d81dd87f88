use Rattle.std.proofs.Common.{rules}
use Rattle.std.proofs.lemmas.Int.{wraps}
use Rattle.java_values.proofs.whole.sum.Goals as goal

pub returns-in-Int-clause-number : goal.returns-in-Int-clause-number
returns-in-Int-clause-number c = rw c.in-Int.is (search (rules, wraps))

pub returns-in-Long-clause-number : goal.returns-in-Long-clause-number
returns-in-Long-clause-number c = rw c.in-Long.is (search (rules, wraps))
