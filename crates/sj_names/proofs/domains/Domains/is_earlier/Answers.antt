use Rattle.std.proofs.Common.{sym, ◌∙◌}
use Rattle.sj_names.specs.DomainNames.{names_in}
use Rattle.sj_names.proofs.UseLemmas.{earlier_some, earlier_none}
use Rattle.sj_names.proofs.domains.Domains.is_earlier.Goals as goal

pub returns-in-Some : goal.returns-in-Some
returns-in-Some c = earlier_some c.args.way c.args.number c.args.domain c.in-Some.first (names_in c.args.self.now) (sym c.in-Some.is ∙ c.first.ensures)

pub returns-in-None : goal.returns-in-None
returns-in-None c = earlier_none c.args.way c.args.number c.args.domain (names_in c.args.self.now) (sym c.in-None.is ∙ c.first.ensures)
