use Rattle.std.proofs.Common.{◌+◌, slice_index, ap, ◌∙◌}
use Rattle.kernel_terms.specs.Expressions.{expression}
use Rattle.surf_graph.proofs.LeavesBuilt.{Assigned, assignment_starts}
use Rattle.surf_graph.proofs.starting_leaves.start_assignment.Goals as goal

pub returns : goal.returns
returns c = λ tables.
    let n = c.in_ok-status.status in
    let told = c.in_ok-change_wire.ensures in
    let assigned : Assigned c.args.b.now c.change_wire.new.b c.args.variable c.wire_at-before.result (n + 2) =
    record { variables = told.variables; changes = told.changes; present = told.present; value = told.value; last = told.last; emits = told.emits; sets = told.sets } in
    assignment_starts tables c.args.b.now c.change_wire.new.b c.own_assignment.new.builder c.args.given n c.args.variable c.wire_at-before.result (expression c.args.value.now)
    told.builder c.requires.variable (c.wire_at-before.ensures ∙ ap (λ l. slice_index l c.args.variable) c.deref.ensures.value) c.in_ok-status.ensures assigned
