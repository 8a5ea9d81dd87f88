use Rattle.std.proofs.Common.{◌≡◌, ◌≤◌, length}
use Rattle.std.specs.Prelude.{vec_len, vec_capacity}
use Rattle.gals_core.specs.Plans.{logs_of}
use Rattle.gals_core.proofs.order.into_logs.Given as goal

abbrev pub invariant-loop-domain : goal.invariant-loop-domain
invariant-loop-domain l = record {
  items : l.logs.items ≡ logs_of l.yielded;
  len : vec_len l.logs ≡ length l.yielded;
  room : vec_capacity l.initial.logs ≤ vec_capacity l.logs;
}
