use Rattle.std.proofs.Common.{◌++◌, ◌∷◌, [], ◌∙◌, ap}
use Rattle.sj_names.specs.definitions.Failures.{first_domain}
use Rattle.sj_names.specs.declared.mention.Use.TheVariants.{SendingEnd, ReceivingEnd}
use Rattle.sj_names.specs.DomainNames.{names_in}
use Rattle.sj_names.proofs.DeclaredLemmas.{same_channel}
use Rattle.sj_names.proofs.tables.PortTables.add_channel.Goals as goal

pub returns-clause-channels : goal.returns-clause-channels
returns-clause-channels c =
    c.in_ok-push.ensures.items
    ∙ ap (λ info. c.args.self.now.channels.items ++ info ∷ [])
    (same_channel _ _ c.args.port.now.kind _ _ _ _ (c.in_ok-name.ensures ∙ c.bytes.ensures) (c.in_ok-sender.ensures ∙ ap (first_domain (names_in c.args.domains.now) SendingEnd) (c.in_ok-number.ensures.value ∙ c.len.ensures ∙ c.args.self.now.channels.ok.0))
    (c.in_ok-receiver.ensures ∙ ap (first_domain (names_in c.args.domains.now) ReceivingEnd) (c.in_ok-number.ensures.value ∙ c.len.ensures ∙ c.args.self.now.channels.ok.0)))
