-- A variable that a resuming copy may assign gets a wire of the copy's own.
use Rattle.std.proofs.Common.{◌≡◌, ℕ, ◌+◌, ◌≤◌, Bool, true, false, ◌||◌, cond, [], ◌++◌, refl, ◌∙◌, subst, arith}
use Rattle.kernel_terms.specs.declared.tables.Tables.{Tables}
use Rattle.kernel_terms.specs.Statements.{Stmt, Nothing, Pause, Emit, Assign, If, Present, Seq, Loop, Par, Trap, Exit, Abort, Suspend, Local, Send, Receive, SendWaits, Sent, ReceiveWaits, Received}
use Rattle.kernel_terms.specs.MayEnd.{ends1}
use Rattle.kernel_rules.specs.definitions.Registers.{registers}
use Rattle.kernel_rules.specs.definitions.TickRule.{writes}
use Rattle.surf_graph.specs.definitions.Copies.{Copy, Context, has, starting_if, start_context, other_context, part_context, branch_context, second_branch, weak_context, tested_context, local_context}
use Rattle.surf_graph.specs.definitions.Sources.{IsSource}
use Rattle.surf_graph.specs.definitions.StartingCopies.{writes0, start}
use Rattle.surf_graph.proofs.Booleans.{or_right}
use Rattle.surf_graph.proofs.OwnVariables.{Owned, owned_less, owned_more, owned_none, owned_behind, owned_choice, owned_beside, owned_if, in_both, in_if, none_in, only_one, starting_writes, start_owned}
use Rattle.surf_graph.proofs.Passes.{start_passes, passes_if}
use Rattle.depth_graph.specs.definitions.ResumingCopies.{writes1, writes_behind, held_context, resume}

merged : (a b : Bool) → a || b ≡ true → (a ≡ true → b ≡ true) → b ≡ true
merged true b h f = f refl
merged false b h f = h

pub resuming_writes : (p : Stmt) (x : ℕ) → has (writes1 p) x ≡ true → writes p x ≡ true
resuming_writes Nothing x h = none_in h
resuming_writes Pause x h = none_in h
resuming_writes (Emit s e) x h = none_in h
resuming_writes (Assign y e) x h = none_in h
resuming_writes (If e p q) x h = in_both (writes1 p) (writes1 q) x (writes p x) (writes q x) (λ i. resuming_writes p x i) (λ i. resuming_writes q x i) h
resuming_writes (Present t p q) x h = in_both (writes1 p) (writes1 q) x (writes p x) (writes q x) (λ i. resuming_writes p x i) (λ i. resuming_writes q x i) h
resuming_writes (Seq p q) x h =
    merged ((writes p x || writes q x)) (writes p x || writes q x)
    (in_both (writes_behind p q) (writes1 q) x (writes p x || writes q x) (writes p x || writes q x)
    (λ i. in_both (writes1 p) (cond (ends1 p) (writes0 q) []) x (writes p x) (writes q x) (λ j. resuming_writes p x j) (λ j. in_if (ends1 p) (writes0 q) x (writes q x) (λ k. starting_writes q x k) j) i)
    (λ i. or_right (writes p x) (writes q x) (resuming_writes q x i)) h)
    (λ i. i)
resuming_writes (Loop p) x h =
    merged (writes p x) (writes p x)
    (in_both (writes1 p) (cond (ends1 p) (writes0 p) []) x (writes p x) (writes p x) (λ j. resuming_writes p x j) (λ j. in_if (ends1 p) (writes0 p) x (writes p x) (λ k. starting_writes p x k) j) h)
    (λ i. i)
resuming_writes (Par p q) x h = in_both (writes1 p) (writes1 q) x (writes p x) (writes q x) (λ i. resuming_writes p x i) (λ i. resuming_writes q x i) h
resuming_writes (Trap p) x h = resuming_writes p x h
resuming_writes (Exit d) x h = none_in h
resuming_writes (Abort weak armed t p) x h = resuming_writes p x h
resuming_writes (Suspend armed t p) x h = resuming_writes p x h
resuming_writes (Local s v p) x h = resuming_writes p x h
resuming_writes (Send c e) x h = none_in h
resuming_writes (Receive c) x h = none_in h
resuming_writes (SendWaits c v) x h = none_in h
resuming_writes (Sent c) x h = none_in h
resuming_writes (ReceiveWaits c) x h = none_in h
resuming_writes (Received c) x h = none_in h

-- of a resuming copy a and a starting copy of q behind it
turn_owned : (tables : Tables) (p q : Stmt) (a : Copy) (d : Context) (n i : ℕ) → n ≤ i → d.next ≡ a.next → ((x : ℕ) → d.wires.variables x ≡ a.variables x) → IsSource tables q → Owned i (writes1 p) a.next a.variables
    → Owned n (writes1 p ++ cond (ends1 p) (writes0 q) []) (starting_if (ends1 p) (start tables q d) d).next (starting_if (ends1 p) (start tables q d) d).variables
turn_owned tables p q a d n i le at v s o =
    let b = starting_if (ends1 p) (start tables q d) d in
    let second : Owned d.next (cond (ends1 p) (writes0 q) []) b.next b.variables = owned_if (ends1 p) (start tables q d) d (writes0 q) (start_owned tables q d s) in
    owned_behind n i a.next b.next (writes1 p) (cond (ends1 p) (writes0 q) []) a.variables b.variables le o
    (subst (λ k. Owned k (cond (ends1 p) (writes0 q) []) b.next b.variables) at second)
    (λ x off. passes_if (ends1 p) (start tables q d) d (writes0 q) x off (λ k. start_passes tables q d x k) ∙ v x)

pub resume_owned : (tables : Tables) (p : Stmt) (c : Context) → IsSource tables p → Owned c.next (writes1 p) (resume tables p c).next (resume tables p c).variables
resume_owned tables Nothing c s = owned_none c.next c.next c.wires.variables (omega arith)
resume_owned tables Pause c s = owned_none c.next (c.next + 4) c.wires.variables (omega arith)
resume_owned tables (Emit i e) c s = owned_none c.next c.next c.wires.variables (omega arith)
resume_owned tables (Assign y e) c s = owned_none c.next c.next c.wires.variables (omega arith)
resume_owned tables (If e p q) c s =
    let a = resume tables p (part_context c.go 2 c) in
    let d = other_context c.go (c.register + registers tables p) a c in
    let b = resume tables q d in
    owned_choice c.next (c.next + 2) a.next b.next (writes1 p) (writes1 q) a.variables b.variables (omega arith) (resume_owned tables p (part_context c.go 2 c) s.0) (resume_owned tables q d s.1)
resume_owned tables (Present t p q) c s =
    let a = resume tables p (part_context c.go 2 c) in
    let d = other_context c.go (c.register + registers tables p) a c in
    let b = resume tables q d in
    owned_choice c.next (c.next + 2) a.next b.next (writes1 p) (writes1 q) a.variables b.variables (omega arith) (resume_owned tables p (part_context c.go 2 c) s.0) (resume_owned tables q d s.1)
resume_owned tables (Seq p q) c s =
    let m = c.register + registers tables p in
    let a = resume tables p (part_context c.go 5 c) in
    let d = start_context (c.next + 4) m a c in
    let b = starting_if (ends1 p) (start tables q d) d in
    let f = record (other_context c.go m a c) { next = b.next } in
    let z = resume tables q f in
    owned_choice c.next c.next b.next z.next (writes_behind p q) (writes1 q) b.variables z.variables (omega arith)
    (turn_owned tables p q a d c.next (c.next + 5) (omega arith) refl (λ x. refl) s.1 (resume_owned tables p (part_context c.go 5 c) s.0))
    (resume_owned tables q f s.1)
resume_owned tables (Loop p) c s =
    let a = resume tables p (part_context c.go 3 c) in
    let d = start_context (c.next + 2) c.register a c in
    turn_owned tables p p a d c.next (c.next + 3) (omega arith) refl (λ x. refl) s (resume_owned tables p (part_context c.go 3 c) s)
resume_owned tables (Par p q) c s =
    let a = resume tables p (branch_context c) in
    let b = resume tables q (second_branch tables p c a) in
    owned_beside c.next (c.next + 5) a.next b.next (writes1 p) (writes1 q) a.variables b.variables (writes p) (omega arith) (resume_owned tables p (branch_context c) s.1) (resume_owned tables q (second_branch tables p c a) s.2)
    (λ x h. resuming_writes p x h) (λ x h. only_one (writes p x) (writes q x) (s.0 x) (resuming_writes q x h))
resume_owned tables (Trap p) c s = let a = resume tables p (part_context c.go 1 c) in owned_less c.next (c.next + 1) a.next (writes1 p) a.variables (omega arith) (resume_owned tables p (part_context c.go 1 c) s)
resume_owned tables (Exit d) c s = owned_none c.next c.next c.wires.variables (omega arith)
resume_owned tables (Abort true armed t p) c s = let a = resume tables p (weak_context c) in owned_less c.next (c.next + 5) a.next (writes1 p) a.variables (omega arith) (resume_owned tables p (weak_context c) s)
resume_owned tables (Abort false armed t p) c s = let a = resume tables p (tested_context c) in owned_less c.next (c.next + 7) a.next (writes1 p) a.variables (omega arith) (resume_owned tables p (tested_context c) s)
resume_owned tables (Suspend armed t p) c s = let a = resume tables p (held_context c) in owned_less c.next (c.next + 7) a.next (writes1 p) a.variables (omega arith) (resume_owned tables p (held_context c) s.1)
resume_owned tables (Local i v p) c s = let a = resume tables p (local_context tables i c) in owned_more c.next (c.next + 6) a.next (resume tables (Local i v p) c).next (writes1 p) a.variables (omega arith) (omega arith) (resume_owned tables p (local_context tables i c) s.1)
resume_owned tables (Send ch e) c s = owned_none c.next (c.next + 10) c.wires.variables (omega arith)
resume_owned tables (Receive ch) c s = owned_none c.next (c.next + 10) c.wires.variables (omega arith)
resume_owned tables (SendWaits ch v) c s = absurd s
resume_owned tables (Sent ch) c s = absurd s
resume_owned tables (ReceiveWaits ch) c s = absurd s
resume_owned tables (Received ch) c s = absurd s
