use Rattle.std.proofs.Common.{arith}
use Rattle.tick_code.proofs.ClassLemmas.{wires_in_classes}
use Rattle.tick_code.proofs.laws.solutions_lie_in_their_classes.Goals as goal

pub returns : goal.returns
returns c kinds frame es w lie o well s k lt = wires_in_classes kinds frame es well.classes w es 0 lie o well.each s (λ j less. absurd (omega arith)) k (omega arith)
