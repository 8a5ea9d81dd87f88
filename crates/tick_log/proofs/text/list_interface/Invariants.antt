use Rattle.tick_log.proofs.InterfaceSignals.{Lists}
use Rattle.tick_log.proofs.text.list_interface.Given as goal

abbrev pub invariant-loop-i : goal.invariant-loop-i
invariant-loop-i l = Lists l.domain l.tables.signals l.initial.numbers l.numbers l.i l.many
