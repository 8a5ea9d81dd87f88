use Rattle.std.proofs.Common.{◌∙◌}
use Rattle.sj_names.specs.DomainNames.{names_in}
use Rattle.sj_names.proofs.UseLemmas.{used_where_first}
use Rattle.sj_names.proofs.domains.Domains.is_used.Goals as goal

pub returns : goal.returns
returns c = c.is_some.ensures ∙ used_where_first c.args.way c.args.number (names_in c.args.self.now) c.first.result c.first.ensures
