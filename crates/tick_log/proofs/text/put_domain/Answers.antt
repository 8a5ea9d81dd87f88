use Rattle.std.proofs.Common.{◌<◌, All, length, sym, subst}
use Rattle.tick_log.proofs.PrinterTexts.{adds_both}
use Rattle.tick_log.proofs.InterfaceSignals.{interface_known}
use Rattle.tick_log.proofs.text.put_domain.Goals as goal

pub put_ticks-requires-clause-known : goal.put_ticks-requires-clause-known
put_ticks-requires-clause-known g c = subst (λ l. All (λ n. n < length c.args.tables.now.signals) l) (sym c.list_interface-many.ensures.numbers) (interface_known c.args.tables.now c.args.domain)

pub returns : goal.returns
returns g c =
    let ticks = rw c.list_interface-many.ensures.numbers at c.put_ticks.ensures in
    adds_both _ _ _ _ _ c.put_head.ensures ticks
