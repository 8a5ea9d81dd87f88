-- A copy passes on the wires of all variables that it can't assign.
use Rattle.std.proofs.Common.{◌≡◌, ℕ, ◌+◌, ◌==◌, Bool, true, false, ◌&&◌, ◌||◌, cond, List, [], ◌∷◌, ◌++◌, refl, sym, ap, ◌∙◌, arith}
use Rattle.std.proofs.lemmas.Bool.Decides.{nat_tests}
use Rattle.kernel_terms.specs.declared.tables.Tables.{Tables}
use Rattle.kernel_terms.specs.Statements.{Stmt, Nothing, Pause, Emit, Assign, If, Present, Seq, Loop, Par, Trap, Exit, Abort, Suspend, Local, Send, Receive, SendWaits, Sent, ReceiveWaits, Received}
use Rattle.kernel_terms.specs.MayEnd.{ends0}
use Rattle.kernel_rules.specs.definitions.TickRule.{writes}
use Rattle.kernel_rules.specs.definitions.Registers.{registers}
use Rattle.surf_graph.specs.definitions.Copies.{Copy, Context, has, both_write, join_wires, wires_by, starting_if, start_context, other_context, part_context, branch_context, second_branch, weak_context, tested_context, local_context}
use Rattle.surf_graph.specs.definitions.StartingCopies.{writes0, start}
use Rattle.surf_graph.proofs.Parts.{by_cases}
use Rattle.surf_graph.proofs.Alternatives.{has_append, has_both_write}

pub left_off : (a b : Bool) → a || b ≡ false → a ≡ false
left_off true b h = cc
left_off false b h = refl

pub right_off : (a b : Bool) → a || b ≡ false → b ≡ false
right_off true b h = cc
right_off false b h = h

pub lacks_first : (xs ys : List ℕ) (y : ℕ) → has (xs ++ ys) y ≡ false → has xs y ≡ false
lacks_first xs ys y h = left_off (has xs y) (has ys y) (sym (has_append xs ys y) ∙ h)

pub lacks_second : (xs ys : List ℕ) (y : ℕ) → has (xs ++ ys) y ≡ false → has ys y ≡ false
lacks_second xs ys y h = right_off (has xs y) (has ys y) (sym (has_append xs ys y) ∙ h)

pub swapped : (n m : ℕ) → (n == m) ≡ false → (m == n) ≡ false
swapped n m h = by_cases (m == n) (λ e. absurd (let f : ⊥ = grind (arith, nat_tests) in f)) (λ e. e)

pub join_misses : (n : ℕ) (v : ℕ → ℕ) (xs : List ℕ) (y : ℕ) → has xs y ≡ false → join_wires n v xs y ≡ v y
join_misses n v [] y h = refl
join_misses n v (x ∷ xs) y h = ap (λ b. cond b n (join_wires (n + 1) v xs y)) (left_off (x == y) (has xs y) h) ∙ join_misses (n + 1) v xs y (right_off (x == y) (has xs y) h)

pub choice_passes : (n u : ℕ) (a b : ℕ → ℕ) (xs ys : List ℕ) (y : ℕ) → has (xs ++ ys) y ≡ false → a y ≡ u → join_wires n (wires_by ys b a) (both_write xs ys) y ≡ u
choice_passes n u a b xs ys y h e =
    join_misses n (wires_by ys b a) (both_write xs ys) y (has_both_write xs ys y ∙ ap (λ i. i && has ys y) (lacks_first xs ys y h))
    ∙ ap (λ i. cond i (b y) (a y)) (lacks_second xs ys y h) ∙ e

pub passes_if : (t : Bool) (a : Copy) (d : Context) (ys : List ℕ) (y : ℕ) → has (cond t ys []) y ≡ false → (has ys y ≡ false → a.variables y ≡ d.wires.variables y) → (starting_if t a d).variables y ≡ d.wires.variables y
passes_if true a d ys y h k = k h
passes_if false a d ys y h k = refl

pub either_passes : (t : Bool) (a b u : ℕ) → a ≡ u → b ≡ u → cond t a b ≡ u
either_passes true a b u h k = h
either_passes false a b u h k = k

pub start_passes : (tables : Tables) (p : Stmt) (c : Context) (y : ℕ) → has (writes0 p) y ≡ false → (start tables p c).variables y ≡ c.wires.variables y
start_passes tables Nothing c y h = refl
start_passes tables Pause c y h = refl
start_passes tables (Emit s e) c y h = refl
start_passes tables (Assign x e) c y h = ap (λ b. cond b (c.next + 2) (c.wires.variables y)) (swapped x y (left_off (x == y) false h))
start_passes tables (If e p q) c y h =
    let a = start tables p (part_context (c.next + 3) 5 c) in
    let b = start tables q (other_context (c.next + 4) (c.register + registers tables p) a c) in
    choice_passes b.next (c.wires.variables y) a.variables b.variables (writes0 p) (writes0 q) y h (start_passes tables p (part_context (c.next + 3) 5 c) y (lacks_first (writes0 p) (writes0 q) y h))
start_passes tables (Present t p q) c y h =
    let a = start tables p (part_context (c.next + 3) 5 c) in
    let b = start tables q (other_context (c.next + 4) (c.register + registers tables p) a c) in
    choice_passes b.next (c.wires.variables y) a.variables b.variables (writes0 p) (writes0 q) y h (start_passes tables p (part_context (c.next + 3) 5 c) y (lacks_first (writes0 p) (writes0 q) y h))
start_passes tables (Seq p q) c y h =
    let n = c.next in
    let a = start tables p (part_context c.go 3 c) in
    let d = start_context (n + 2) (c.register + registers tables p) a c in
    passes_if (ends0 p) (start tables q d) d (writes0 q) y (lacks_second (writes0 p) (cond (ends0 p) (writes0 q) []) y h) (λ k. start_passes tables q d y k)
    ∙ start_passes tables p (part_context c.go 3 c) y (lacks_first (writes0 p) (cond (ends0 p) (writes0 q) []) y h)
start_passes tables (Loop p) c y h = start_passes tables p c y h
start_passes tables (Par p q) c y h =
    let a = start tables p (branch_context c) in
    let b = start tables q (second_branch tables p c a) in
    either_passes (writes p y) (a.variables y) (b.variables y) (c.wires.variables y) (start_passes tables p (branch_context c) y (lacks_first (writes0 p) (writes0 q) y h)) (start_passes tables q (second_branch tables p c a) y (lacks_second (writes0 p) (writes0 q) y h))
start_passes tables (Trap p) c y h = start_passes tables p (part_context c.go 1 c) y h
start_passes tables (Exit d) c y h = refl
start_passes tables (Abort weak false t p) c y h = start_passes tables p c y h
start_passes tables (Abort true true t p) c y h = start_passes tables p (weak_context c) y h
start_passes tables (Abort false true t p) c y h = start_passes tables p (tested_context c) y h
start_passes tables (Suspend armed t p) c y h = start_passes tables p c y h
start_passes tables (Local s v p) c y h = start_passes tables p (local_context tables s c) y h
start_passes tables (Send ch e) c y h = refl
start_passes tables (Receive ch) c y h = refl
start_passes tables (SendWaits ch v) c y h = refl
start_passes tables (Sent ch) c y h = refl
start_passes tables (ReceiveWaits ch) c y h = refl
start_passes tables (Received ch) c y h = refl
