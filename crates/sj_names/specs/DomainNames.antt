-- The names of domains.
use Rattle.std.specs.Prelude.{List}
use Rattle.sj_names.specs.declared.mention.Mention.{Mention}
use Rattle.sj_names.specs.declared.domains.Domains.{Domains}
use Rattle.sj_names.specs.FirstDomains.{lists}

abbrev pub names_in : Domains → List (List Mention)
names_in domains = lists domains.names.now
