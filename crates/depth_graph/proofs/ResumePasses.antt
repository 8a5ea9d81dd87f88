-- A resuming copy passes on the wires of all variables that it can't assign.
use Rattle.std.proofs.Common.{◌≡◌, ℕ, ◌+◌, true, false, cond, [], refl, ◌∙◌}
use Rattle.kernel_terms.specs.declared.tables.Tables.{Tables}
use Rattle.kernel_terms.specs.Statements.{Stmt, Nothing, Pause, Emit, Assign, If, Present, Seq, Loop, Par, Trap, Exit, Abort, Suspend, Local, Send, Receive, SendWaits, Sent, ReceiveWaits, Received}
use Rattle.kernel_terms.specs.MayEnd.{ends1}
use Rattle.kernel_rules.specs.definitions.TickRule.{writes}
use Rattle.kernel_rules.specs.definitions.Registers.{registers}
use Rattle.surf_graph.specs.definitions.Copies.{Copy, Context, has, starting_if, start_context, other_context, part_context, branch_context, second_branch, weak_context, tested_context, local_context}
use Rattle.surf_graph.specs.definitions.StartingCopies.{writes0, start}
use Rattle.depth_graph.specs.definitions.ResumingCopies.{writes1, writes_behind, held_context, resume}
use Rattle.surf_graph.proofs.Passes.{lacks_first, lacks_second, choice_passes, passes_if, either_passes}
use Rattle.surf_graph.proofs.Passes.{start_passes}

-- a starting copy behind a resuming one
turn_passes : (tables : Tables) (p q : Stmt) (a : Copy) (d c : Context) (y : ℕ) → d.wires.variables y ≡ a.variables y → has (writes_behind p q) y ≡ false → (has (writes1 p) y ≡ false → a.variables y ≡ c.wires.variables y)
    → (starting_if (ends1 p) (start tables q d) d).variables y ≡ c.wires.variables y
turn_passes tables p q a d c y e h k =
    passes_if (ends1 p) (start tables q d) d (writes0 q) y (lacks_second (writes1 p) (cond (ends1 p) (writes0 q) []) y h) (λ i. start_passes tables q d y i)
    ∙ e ∙ k (lacks_first (writes1 p) (cond (ends1 p) (writes0 q) []) y h)

pub resume_passes : (tables : Tables) (p : Stmt) (c : Context) (y : ℕ) → has (writes1 p) y ≡ false → (resume tables p c).variables y ≡ c.wires.variables y
resume_passes tables Nothing c y h = refl
resume_passes tables Pause c y h = refl
resume_passes tables (Emit s e) c y h = refl
resume_passes tables (Assign x e) c y h = refl
resume_passes tables (If e p q) c y h =
    let a = resume tables p (part_context c.go 2 c) in
    let b = resume tables q (other_context c.go (c.register + registers tables p) a c) in
    choice_passes b.next (c.wires.variables y) a.variables b.variables (writes1 p) (writes1 q) y h (resume_passes tables p (part_context c.go 2 c) y (lacks_first (writes1 p) (writes1 q) y h))
resume_passes tables (Present t p q) c y h =
    let a = resume tables p (part_context c.go 2 c) in
    let b = resume tables q (other_context c.go (c.register + registers tables p) a c) in
    choice_passes b.next (c.wires.variables y) a.variables b.variables (writes1 p) (writes1 q) y h (resume_passes tables p (part_context c.go 2 c) y (lacks_first (writes1 p) (writes1 q) y h))
resume_passes tables (Seq p q) c y h =
    let n = c.next in
    let m = c.register + registers tables p in
    let a = resume tables p (part_context c.go 5 c) in
    let d = start_context (n + 4) m a c in
    let b = starting_if (ends1 p) (start tables q d) d in
    let z = resume tables q (record (other_context c.go m a c) { next = b.next }) in
    choice_passes z.next (c.wires.variables y) b.variables z.variables (writes_behind p q) (writes1 q) y h
    (turn_passes tables p q a d c y refl (lacks_first (writes_behind p q) (writes1 q) y h) (λ k. resume_passes tables p (part_context c.go 5 c) y k))
resume_passes tables (Loop p) c y h =
    let n = c.next in
    let a = resume tables p (part_context c.go 3 c) in
    let d = start_context (n + 2) c.register a c in
    turn_passes tables p p a d c y refl h (λ k. resume_passes tables p (part_context c.go 3 c) y k)
resume_passes tables (Par p q) c y h =
    let a = resume tables p (branch_context c) in
    let b = resume tables q (second_branch tables p c a) in
    either_passes (writes p y) (a.variables y) (b.variables y) (c.wires.variables y) (resume_passes tables p (branch_context c) y (lacks_first (writes1 p) (writes1 q) y h)) (resume_passes tables q (second_branch tables p c a) y (lacks_second (writes1 p) (writes1 q) y h))
resume_passes tables (Trap p) c y h = resume_passes tables p (part_context c.go 1 c) y h
resume_passes tables (Exit d) c y h = refl
resume_passes tables (Abort true armed t p) c y h = resume_passes tables p (weak_context c) y h
resume_passes tables (Abort false armed t p) c y h = resume_passes tables p (tested_context c) y h
resume_passes tables (Suspend armed t p) c y h = resume_passes tables p (held_context c) y h
resume_passes tables (Local s v p) c y h = resume_passes tables p (local_context tables s c) y h
resume_passes tables (Send ch e) c y h = refl
resume_passes tables (Receive ch) c y h = refl
resume_passes tables (SendWaits ch v) c y h = refl
resume_passes tables (Sent ch) c y h = refl
resume_passes tables (ReceiveWaits ch) c y h = refl
resume_passes tables (Received ch) c y h = refl

-- the first alternative of a sequence
pub behind_passes : (tables : Tables) (p q : Stmt) (c : Context) (y : ℕ) → has (writes_behind p q) y ≡ false
    → (starting_if (ends1 p) (start tables q (start_context (c.next + 4) (c.register + registers tables p) (resume tables p (part_context c.go 5 c)) c)) (start_context (c.next + 4) (c.register + registers tables p) (resume tables p (part_context c.go 5 c)) c)).variables y ≡ c.wires.variables y
behind_passes tables p q c y h =
    let a = resume tables p (part_context c.go 5 c) in
    turn_passes tables p q a (start_context (c.next + 4) (c.register + registers tables p) a c) c y refl h (λ k. resume_passes tables p (part_context c.go 5 c) y k)
