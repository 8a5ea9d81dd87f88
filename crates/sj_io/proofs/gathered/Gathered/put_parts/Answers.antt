use Rattle.sj_io.proofs.GatheringLemmas.{gathers_prefix}
use Rattle.sj_io.proofs.gathered.Gathered.put_parts.Goals as goal

pub returns-then-is_err-clause-puts_prefix : goal.returns-then-is_err-clause-puts_prefix
returns-then-is_err-clause-puts_prefix g c = gathers_prefix _ _ _ _ _ _ _ c.loop-done.done c.loop-done.invariant.0 c.make_room.ensures.hands
