use Rattle.std.proofs.Common.{◌++◌, ◌∙◌, ap}
use Rattle.kernel_terms.specs.Limits.{most_signals, most_variables}
use Rattle.sj_names.specs.definitions.Failures.{least_of, too_many, places_of, is_signal, is_variable}
use Rattle.sj_names.proofs.LeastLemmas.{limits_both}
use Rattle.sj_names.proofs.least.Least.add_domain_limits.Goals as goal

pub returns : goal.returns
returns c =
    limits_both most_signals most_variables (c.args.owned.now ++ places_of is_signal c.args.mentions.now) (places_of is_variable c.args.mentions.now) c.args.self.now.found c.add_too_many.new.self.found c.add_too_many-2.new.self.found
    (c.add_too_many.ensures ∙ ap (λ l. least_of c.args.self.now.found (too_many most_signals l)) (c.deref.ensures.value ∙ c.in_ok-signals.ensures))
    (c.add_too_many-2.ensures ∙ ap (λ l. least_of c.add_too_many.new.self.found (too_many most_variables l)) (c.deref-2.ensures.value ∙ c.in_ok-variables.ensures))
