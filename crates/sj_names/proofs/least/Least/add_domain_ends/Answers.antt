use Rattle.std.proofs.Common.{refl}
use Rattle.sj_names.proofs.least.Least.add_domain_ends.Goals as goal

pub loop-i-init : goal.loop-i-init
loop-i-init c = (refl, c.new-here.ensures c.args.domain)
