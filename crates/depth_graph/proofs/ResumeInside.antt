-- A resuming copy's wires lie between the next free one that it was given and the one that it leaves.
use Rattle.std.proofs.Common.{ℕ, ◌+◌, nat_lt, ◌==◌, true, false, [], refl, arith, Option, Some, None}
use Rattle.java_values.specs.declared.kind.Kind.{Kind}
use Rattle.kernel_terms.specs.declared.tables.Tables.{Tables}
use Rattle.kernel_terms.specs.TableEntries.{signal_at}
use Rattle.kernel_terms.specs.Statements.{Stmt, Nothing, Pause, Emit, Assign, If, Present, Seq, Loop, Par, Trap, Exit, Abort, Suspend, Local, Send, Receive, SendWaits, Sent, ReceiveWaits, Received}
use Rattle.kernel_terms.specs.MayEnd.{ends1}
use Rattle.kernel_rules.specs.definitions.Registers.{registers}
use Rattle.surf_graph.specs.definitions.Copies.{Context, below, from, behind, starting_if, other_context, start_context, part_context, turn_own, live_own, branch_context, second_branch, weak_context, tested_context, local_context}
use Rattle.surf_graph.specs.definitions.StartingCopies.{start}
use Rattle.depth_graph.specs.definitions.ResumingCopies.{writes1, writes_behind, resume, held_context, last_formula, waiting_copy}
use Rattle.surf_graph.proofs.Frames.{wires_more, Reads, Inside, sets_more, sets_append, sets_if}
use Rattle.surf_graph.proofs.StartInside.{Outside, outside_part, outside_other, inside_alternatives, inside_choice, outside_start, outside_with, outside_local, inside_nothing, inside_if, inside_behind, inside_pair, inside_beside, inside_trap, inside_weak, inside_tested, inside_local, start_inside}

waiting_inside : (c : Context) → Outside c → Inside c.next (waiting_copy c)
waiting_inside c o =
    let w = wires_more c.next (c.next + 10) c.wires (omega arith) o.wires in
    let g = o.go in
    let d = o.hold in
    let k = o.keep in
    let n = c.next in
    record {
      grows = omega arith;
      status = omega arith;
      live = omega arith;
      emits = tt;
      variables = w.variables;
      sets = λ i. sets_if (n + 10) (i == c.register) _ _ (omega arith, (omega arith, (omega arith, (omega arith, tt)))) (sets_if (n + 10) (i == c.register + 1) _ _ (omega arith, (omega arith, tt)) (omega arith, (omega arith, (omega arith, (omega arith, tt)))));
      equations = (
        omega arith,
        (
          tt,
          (
            omega arith,
            (
              tt,
              (
                omega arith,
                (
                  tt,
                  (
                    omega arith,
                    (
                      (omega (arith, g), omega arith),
                      (
                        omega arith,
                        (
                          (omega arith, omega arith),
                          (
                            omega arith,
                            (
                              omega arith,
                              (
                                omega arith,
                                (
                                  omega arith,
                                  (
                                    omega arith,
                                    (
                                      (omega arith, omega arith),
                                      (
                                        omega arith,
                                        (
                                          (omega (arith, d), omega (arith, k)),
                                          (omega arith, ((omega arith, omega (arith, k)), tt)),
                                        ),
                                      ),
                                    ),
                                  ),
                                ),
                              ),
                            ),
                          ),
                        ),
                      ),
                    ),
                  ),
                ),
              ),
            ),
          ),
        ),
      );
    }

last_reads : (k : Option Kind) (r m : ℕ) → Reads m (last_formula k r)
last_reads None r m = tt
last_reads (Some k) r m = tt

pub resume_inside : (tables : Tables) (p : Stmt) (c : Context) → Outside c → Inside c.next (resume tables p c)
resume_inside tables Nothing c o = inside_nothing c o
resume_inside tables Pause c o =
    let w = wires_more c.next (c.next + 4) c.wires (omega arith) o.wires in
    let g = o.go in
    let d = o.hold in
    let k = o.keep in
    record {
      grows = omega arith;
      status = omega arith;
      live = omega arith;
      emits = tt;
      variables = w.variables;
      sets = λ i. (omega arith, (omega arith, tt));
      equations = (omega arith, (tt, (omega arith, ((omega (arith, g), omega arith), (omega arith, (omega arith, (omega arith, ((omega (arith, d), omega (arith, k)), tt))))))));
    }
resume_inside tables (Emit s e) c o = inside_nothing c o
resume_inside tables (Assign y e) c o = inside_nothing c o
resume_inside tables (If e p q) c o =
    let n = c.next in
    let m = c.register + registers tables p in
    let k = o.go in
    let a = resume tables p (part_context c.go 2 c) in
    let d = other_context c.go m a c in
    let b = resume tables q d in
    let u = resume_inside tables p (part_context c.go 2 c) (outside_part c.go 2 c o (omega (arith, k))) in
    let g = u.grows in
    let la = u.live in
    let v = resume_inside tables q d (outside_other c.go m (n + 2) a c o u (omega arith) (omega (arith, g, k))) in
    let h = v.grows in
    let lb = v.live in
    inside_choice (writes1 p) (writes1 q) b.live n (n + 1) m (n + 2) a.next (live_own (n + 1) a b) a b u v (omega arith) (omega arith) (omega (arith, g, h)) (omega (arith, g, h), ((omega (arith, la, h), lb), tt)) lb
resume_inside tables (Present t p q) c o =
    let n = c.next in
    let m = c.register + registers tables p in
    let k = o.go in
    let a = resume tables p (part_context c.go 2 c) in
    let d = other_context c.go m a c in
    let b = resume tables q d in
    let u = resume_inside tables p (part_context c.go 2 c) (outside_part c.go 2 c o (omega (arith, k))) in
    let g = u.grows in
    let la = u.live in
    let v = resume_inside tables q d (outside_other c.go m (n + 2) a c o u (omega arith) (omega (arith, g, k))) in
    let h = v.grows in
    let lb = v.live in
    inside_choice (writes1 p) (writes1 q) b.live n (n + 1) m (n + 2) a.next (live_own (n + 1) a b) a b u v (omega arith) (omega arith) (omega (arith, g, h)) (omega (arith, g, h), ((omega (arith, la, h), lb), tt)) lb
resume_inside tables (Seq p q) c o =
    let n = c.next in
    let m = c.register + registers tables p in
    let k = o.go in
    let a = resume tables p (part_context c.go 5 c) in
    let d = start_context (n + 4) m a c in
    let b = starting_if (ends1 p) (start tables q d) d in
    let x = behind (n + 2) a.live (below m a.sets) (from m b.sets) (turn_own (n + 4) a) a b in
    let y = resume tables q (other_context c.go m x c) in
    let u = resume_inside tables p (part_context c.go 5 c) (outside_part c.go 5 c o (omega (arith, k))) in
    let g = u.grows in
    let la = u.live in
    let sa = u.status in
    let od = outside_start (n + 4) m (n + 5) a c o u (omega arith) (omega (arith, g)) in
    let v = inside_if (ends1 p) (start tables q d) d od (start_inside tables q d od) in
    let h = v.grows in
    let i = inside_pair (n + 2) a.live m (n + 5) a.next (turn_own (n + 4) a) a b u v (omega arith) (omega arith) (omega (arith, la, h)) (omega (arith, g, h), (omega (arith, sa, h), tt)) in
    let j = resume_inside tables q (other_context c.go m x c) (outside_other c.go m (n + 2) x c o i (omega arith) (omega (arith, g, h, k))) in
    let l = j.grows in
    let ly = j.live in
    inside_alternatives (writes_behind p q) (writes1 q) y.live n (n + 1) (n + 2) x.next x.sets (from m y.sets) (live_own (n + 1) x y) x y i j (omega arith) (omega arith) (omega (arith, g, h, l)) (omega (arith, g, h, l), ((omega (arith, la, h, l), ly), tt))
    (λ r. sets_append y.next (x.sets r) (from m y.sets r) (sets_more x.next y.next (x.sets r) (omega (arith, l)) (i.sets r)) (sets_if y.next (nat_lt r m) [] (y.sets r) tt (j.sets r))) ly
resume_inside tables (Loop p) c o =
    let n = c.next in
    let k = o.go in
    let a = resume tables p (part_context c.go 3 c) in
    let d = start_context (n + 2) c.register a c in
    let b = starting_if (ends1 p) (start tables p d) d in
    let u = resume_inside tables p (part_context c.go 3 c) (outside_part c.go 3 c o (omega (arith, k))) in
    let g = u.grows in
    let la = u.live in
    let sa = u.status in
    let od = outside_start (n + 2) c.register (n + 3) a c o u (omega arith) (omega (arith, g)) in
    let v = inside_if (ends1 p) (start tables p d) d od (start_inside tables p d od) in
    let h = v.grows in
    inside_behind n a.live (n + 3) a.next a.sets b.sets (turn_own (n + 2) a) a b u v (omega arith) (omega arith) (omega (arith, la, h)) (omega (arith, g, h), (omega (arith, sa, h), tt))
    (λ r. sets_append b.next (a.sets r) (b.sets r) (sets_more a.next b.next (a.sets r) (omega (arith, h)) (u.sets r)) (v.sets r))
resume_inside tables (Par p q) c o =
    let n = c.next in
    let i = o.go in
    let j = o.hold in
    let a = resume tables p (branch_context c) in
    let u = resume_inside tables p (branch_context c) (outside_with c.go c.hold n 5 c.register c o (omega (arith, i)) (omega (arith, j)) (omega arith)) in
    let g = u.grows in
    let la = u.live in
    let b = resume tables q (second_branch tables p c a) in
    let w = wires_more n a.next c.wires (omega (arith, g)) o.wires in
    let v = resume_inside tables q (second_branch tables p c a) (record { some = omega (arith, g); go = omega (arith, g, i); hold = omega (arith, g, j); keep = omega (arith, g); wires = w }) in
    let h = v.grows in
    let lb = v.live in
    inside_beside tables p (n + 4) (live_own (n + 4) a b) (n + 5) a.next c a b o u v refl refl (omega (arith, g, h)) (omega (arith, g, h), ((omega (arith, la, h), lb), tt))
resume_inside tables (Trap p) c o = let g = o.go in inside_trap c (resume tables p (part_context c.go 1 c)) (resume_inside tables p (part_context c.go 1 c) (outside_part c.go 1 c o (omega (arith, g))))
resume_inside tables (Exit d) c o = inside_nothing c o
resume_inside tables (Abort true armed t p) c o =
    let i = o.go in
    let j = o.hold in
    inside_weak t c (resume tables p (weak_context c)) o (resume_inside tables p (weak_context c) (outside_with c.go c.hold c.next 5 c.register c o (omega (arith, i)) (omega (arith, j)) (omega arith)))
resume_inside tables (Abort false armed t p) c o =
    let j = o.hold in
    let k = o.keep in
    let u = resume_inside tables p (tested_context c) (outside_with (c.next + 1) c.hold c.keep 7 c.register c o (omega arith) (omega (arith, j)) (omega (arith, k))) in
    inside_tested t (resume tables p (tested_context c)).live 0 c (resume tables p (tested_context c)) o u u.live
resume_inside tables (Suspend armed t p) c o =
    let k = o.keep in
    let u = resume_inside tables p (held_context c) (outside_with (c.next + 1) (c.next + 5) c.keep 7 c.register c o (omega arith) (omega arith) (omega (arith, k))) in
    inside_tested t (resume tables p (held_context c)).live 1 c (resume tables p (held_context c)) o u u.live
resume_inside tables (Local s v p) c o =
    inside_local tables s (last_formula (signal_at tables s).kind c.register) c (resume tables p (local_context tables s c)) o (resume_inside tables p (local_context tables s c) (outside_local tables s c o)) (last_reads (signal_at tables s).kind c.register)
resume_inside tables (Send ch e) c o = waiting_inside c o
resume_inside tables (Receive ch) c o = waiting_inside c o
resume_inside tables (SendWaits ch v) c o = inside_nothing c o
resume_inside tables (Sent ch) c o = inside_nothing c o
resume_inside tables (ReceiveWaits ch) c o = inside_nothing c o
resume_inside tables (Received ch) c o = inside_nothing c o
