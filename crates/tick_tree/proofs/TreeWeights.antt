-- Weights of trees, by the statement alone.
use Rattle.std.proofs.Common.{◌≡◌, ℕ, suc, ◌+◌, Bool, true, false, ◌&&◌, ◌||◌, cond, arith, refl, ap, ◌∙◌}
use Rattle.std.specs.Prelude.{Option, Some, None, is_some}
use Rattle.kernel_terms.specs.Statements.{Stmt, Nothing, Pause, Emit, Assign, If, Present, Seq, Loop, Par, Trap, Exit, Abort, Suspend, Local, Send, Receive, SendWaits, Sent, ReceiveWaits, Received}
use Rattle.kernel_terms.specs.MayEnd.{Ways, starting, resuming, resumes, ends0, ends1, within_trap}
use Rattle.tick_tree.specs.definitions.Leaves.{nodes_of, nodes_of_test, nodes_of_value, own_leaves}
use Rattle.tick_tree.specs.definitions.Shapes.{Shape, InTurn, OneOf, Beside, of_test, with_test, starting_shape, resuming_shape, joined_by, then_shape, tested, with_new}
use Rattle.tick_tree.specs.definitions.Weight.{weight_of_shape, weight_of_some}

-- what the starting tree weighs, and the resuming one
abbrev pub first_weight : Stmt → ℕ
first_weight Nothing = 1
first_weight Pause = 1
first_weight (Emit s e) = 1 + nodes_of_value e
first_weight (Assign x e) = 1 + nodes_of e
first_weight (If e p q) = 1 + nodes_of e + (first_weight p + first_weight q)
first_weight (Present t p q) = 1 + nodes_of_test t + (first_weight p + first_weight q)
first_weight (Seq p q) = first_weight p + cond (ends0 p) (first_weight q) 0
first_weight (Loop p) = first_weight p
first_weight (Par p q) = first_weight p + first_weight q
first_weight (Trap p) = first_weight p
first_weight (Exit d) = 1
first_weight (Abort weak armed t p) = cond armed (1 + nodes_of_test t) 0 + first_weight p
first_weight (Suspend armed t p) = first_weight p
first_weight (Local s v p) = first_weight p
first_weight (Send c e) = 1 + nodes_of e
first_weight (Receive c) = 1
first_weight (SendWaits c v) = 1
first_weight (Sent c) = 1
first_weight (ReceiveWaits c) = 1
first_weight (Received c) = 1

abbrev pub later_weight : Stmt → ℕ
later_weight Nothing = 0
later_weight Pause = 1
later_weight (Emit s e) = 0
later_weight (Assign x e) = 0
later_weight (If e p q) = later_weight p + later_weight q
later_weight (Present t p q) = later_weight p + later_weight q
later_weight (Seq p q) = later_weight p + cond (ends1 p) (first_weight q) 0 + later_weight q
later_weight (Loop p) = later_weight p + cond (ends1 p) (first_weight p) 0
later_weight (Par p q) = later_weight p + later_weight q
later_weight (Trap p) = later_weight p
later_weight (Exit d) = 0
later_weight (Abort weak armed t p) = cond (resumes p) (1 + nodes_of_test t) 0 + later_weight p
later_weight (Suspend armed t p) = cond (resumes p) (1 + nodes_of_test t) 0 + later_weight p
later_weight (Local s v p) = later_weight p
later_weight (Send c e) = 1
later_weight (Receive c) = 1
later_weight (SendWaits c v) = 1
later_weight (Sent c) = 1
later_weight (ReceiveWaits c) = 1
later_weight (Received c) = 1

weight-if : (e : Bool) (s t : Shape) → weight_of_shape (cond e (InTurn s t) s) ≡ weight_of_shape s + cond e (weight_of_shape t) 0
weight-if true s t = refl
weight-if false s t = omega arith

weight-with : (weak armed : Bool) (n : ℕ) (x s : Shape) → weight_of_shape x ≡ n → weight_of_shape (cond armed (with_test weak x s) s) ≡ cond armed n 0 + weight_of_shape s
weight-with weak false n x s h = omega arith
weight-with false true n x s h = omega (arith, h)
weight-with true true n x s h = omega (arith, h)

pub weight-starting : (at : ℕ → ℕ) (n : ℕ) (p : Stmt) → weight_of_shape (starting_shape at n p) ≡ first_weight p
weight-starting at n Nothing = refl
weight-starting at n Pause = refl
weight-starting at n (Emit s e) = refl
weight-starting at n (Assign x e) = refl
weight-starting at n (If e p q) = let x = weight-starting at (suc n) p in let y = weight-starting at (suc n + own_leaves p) q in omega (arith, x, y)
weight-starting at n (Present t p q) = let x = weight-starting at (suc n) p in let y = weight-starting at (suc n + own_leaves p) q in omega (arith, x, y)
weight-starting at n (Seq p q) =
    weight-if (ends0 p) (starting_shape at n p) (starting_shape at (n + own_leaves p) q)
    ∙ ap (λ k. k + cond (ends0 p) (weight_of_shape (starting_shape at (n + own_leaves p) q)) 0) (weight-starting at n p)
    ∙ ap (λ k. first_weight p + cond (ends0 p) k 0) (weight-starting at (n + own_leaves p) q)
weight-starting at n (Loop p) = weight-starting at n p
weight-starting at n (Par p q) = let x = weight-starting at n p in let y = weight-starting at (n + own_leaves p) q in omega (arith, x, y)
weight-starting at n (Trap p) = weight-starting at n p
weight-starting at n (Exit d) = refl
weight-starting at n (Abort weak armed t p) =
    weight-with weak armed (1 + nodes_of_test t) (of_test (at n) t) (starting_shape at (suc n) p) refl
    ∙ ap (λ k. cond armed (1 + nodes_of_test t) 0 + k) (weight-starting at (suc n) p)
weight-starting at n (Suspend armed t p) = weight-starting at (suc n) p
weight-starting at n (Local s v p) = weight-starting at n p
weight-starting at n (Send c e) = refl
weight-starting at n (Receive c) = refl
weight-starting at n (SendWaits c v) = refl
weight-starting at n (Sent c) = refl
weight-starting at n (ReceiveWaits c) = refl
weight-starting at n (Received c) = refl

-- There is a resuming shape exactly where something resumes.

some-joined : (both : Shape → Shape → Shape) (s t : Option Shape) → is_some (joined_by both s t) ≡ is_some s || is_some t
some-joined both None t = refl
some-joined both (Some s) None = refl
some-joined both (Some s) (Some t) = refl

some-then : (e : Bool) (s : Option Shape) (t : Shape) → is_some (cond e (then_shape s t) s) ≡ is_some s
some-then true None t = refl
some-then true (Some s) t = refl
some-then false s t = refl

some-tested : (both : Shape → Shape → Shape) (t : Shape) (s : Option Shape) → is_some (tested both t s) ≡ is_some s
some-tested both t None = refl
some-tested both t (Some s) = refl

some-new : (k : ℕ) (s : Option Shape) → is_some (with_new k s) ≡ is_some s
some-new k None = refl
some-new k (Some s) = refl

pub both_or : (a b c d : Bool) → a ≡ c → b ≡ d → a || b ≡ c || d
both_or a b c d x y = ap (λ k. k || b) x ∙ ap (λ k. c || k) y

pub some-resuming : (at : ℕ → ℕ) (n : ℕ) (p : Stmt) → is_some (resuming_shape at n p) ≡ resumes p
some-resuming at n Nothing = refl
some-resuming at n Pause = refl
some-resuming at n (Emit s e) = refl
some-resuming at n (Assign x e) = refl
some-resuming at n (If e p q) =
    some-joined OneOf (resuming_shape at (suc n) p) (resuming_shape at (suc n + own_leaves p) q)
    ∙ both_or (is_some (resuming_shape at (suc n) p)) (is_some (resuming_shape at (suc n + own_leaves p) q)) (resumes p) (resumes q) (some-resuming at (suc n) p) (some-resuming at (suc n + own_leaves p) q)
some-resuming at n (Present t p q) =
    some-joined OneOf (resuming_shape at (suc n) p) (resuming_shape at (suc n + own_leaves p) q)
    ∙ both_or (is_some (resuming_shape at (suc n) p)) (is_some (resuming_shape at (suc n + own_leaves p) q)) (resumes p) (resumes q) (some-resuming at (suc n) p) (some-resuming at (suc n + own_leaves p) q)
some-resuming at n (Seq p q) =
    let x = cond (ends1 p) (then_shape (resuming_shape at n p) (starting_shape at (n + own_leaves p) q)) (resuming_shape at n p) in
    let y = resuming_shape at (n + own_leaves p) q in
    some-joined OneOf x y
    ∙ both_or (is_some x) (is_some y) (resumes p) (resumes q)
    (some-then (ends1 p) (resuming_shape at n p) (starting_shape at (n + own_leaves p) q) ∙ some-resuming at n p)
    (some-resuming at (n + own_leaves p) q)
some-resuming at n (Loop p) = some-then (ends1 p) (resuming_shape at n p) (starting_shape at n p) ∙ some-resuming at n p
some-resuming at n (Par p q) =
    some-joined Beside (resuming_shape at n p) (resuming_shape at (n + own_leaves p) q)
    ∙ both_or (is_some (resuming_shape at n p)) (is_some (resuming_shape at (n + own_leaves p) q)) (resumes p) (resumes q) (some-resuming at n p) (some-resuming at (n + own_leaves p) q)
some-resuming at n (Trap p) = some-resuming at n p
some-resuming at n (Exit d) = refl
some-resuming at n (Abort weak armed t p) = some-tested (with_test weak) (of_test (at n) t) (resuming_shape at (suc n) p) ∙ some-resuming at (suc n) p
some-resuming at n (Suspend armed t p) = some-tested InTurn (of_test (at n) t) (resuming_shape at (suc n) p) ∙ some-resuming at (suc n) p
some-resuming at n (Local s v p) = some-new s (resuming_shape at n p) ∙ some-resuming at n p
some-resuming at n (Send c e) = refl
some-resuming at n (Receive c) = refl
some-resuming at n (SendWaits c v) = refl
some-resuming at n (Sent c) = refl
some-resuming at n (ReceiveWaits c) = refl
some-resuming at n (Received c) = refl

-- What doesn't resume neither ends in a later tick nor exits in one.

pub record IsStill (w : Ways) : Type 0 where
  pub ends : w.ends ≡ false
  pub exits : (d : ℕ) → w.exits d ≡ false

or_left : (a b : Bool) → a || b ≡ false → a ≡ false
or_left true b h = cc
or_left false b h = refl

or_right : (a b : Bool) → a || b ≡ false → b ≡ false
or_right true b h = cc
or_right false b h = h

or_none : (a b : Bool) → a ≡ false → b ≡ false → a || b ≡ false
or_none a b x y = rw (x, y) refl

and_none : (a b : Bool) → a ≡ false → a && b ≡ false
and_none a b x = rw x refl

none : IsStill (record { ends = false; exits = λ d. false })
none = record { ends = refl; exits = λ d. refl }

trap_still : (w : Ways) → IsStill w → IsStill (within_trap w)
trap_still w h = record { ends = or_none w.ends (w.exits 0) h.ends (h.exits 0); exits = λ d. h.exits (suc d) }

pub still : (p : Stmt) → resumes p ≡ false → IsStill (resuming p)
still Nothing h = none
still Pause h = cc
still (Emit s e) h = none
still (Assign x e) h = none
still (If e p q) h =
    let a = still p (or_left (resumes p) (resumes q) h) in
    let b = still q (or_right (resumes p) (resumes q) h) in
    record { ends = or_none (resuming p).ends (resuming q).ends a.ends b.ends; exits = λ d. or_none ((resuming p).exits d) ((resuming q).exits d) (a.exits d) (b.exits d) }
still (Present t p q) h =
    let a = still p (or_left (resumes p) (resumes q) h) in
    let b = still q (or_right (resumes p) (resumes q) h) in
    record { ends = or_none (resuming p).ends (resuming q).ends a.ends b.ends; exits = λ d. or_none ((resuming p).exits d) ((resuming q).exits d) (a.exits d) (b.exits d) }
still (Seq p q) h =
    let a = still p (or_left (resumes p) (resumes q) h) in
    let b = still q (or_right (resumes p) (resumes q) h) in
    record {
      ends = or_none (resuming q).ends ((resuming p).ends && (starting q).ends) b.ends (and_none (resuming p).ends (starting q).ends a.ends);
      exits = λ d. or_none ((resuming p).exits d) ((resuming q).exits d || ((resuming p).ends && (starting q).exits d)) (a.exits d) (or_none ((resuming q).exits d) ((resuming p).ends && (starting q).exits d) (b.exits d) (and_none (resuming p).ends ((starting q).exits d) a.ends));
    }
still (Loop p) h =
    let a = still p h in
    record { ends = refl; exits = λ d. or_none ((resuming p).exits d) ((resuming p).ends && (starting p).exits d) (a.exits d) (and_none (resuming p).ends ((starting p).exits d) a.ends) }
still (Par p q) h =
    let a = still p (or_left (resumes p) (resumes q) h) in
    let b = still q (or_right (resumes p) (resumes q) h) in
    record { ends = and_none (resumes p || resumes q) (((starting p).ends || (resuming p).ends) && ((starting q).ends || (resuming q).ends)) h; exits = λ d. or_none ((resuming p).exits d) ((resuming q).exits d) (a.exits d) (b.exits d) }
still (Trap p) h = trap_still (resuming p) (still p h)
still (Exit d) h = none
still (Abort weak armed t p) h = record { ends = h; exits = (still p h).exits }
still (Suspend armed t p) h = still p h
still (Local s v p) h = still p h
still (Send c e) h = cc
still (Receive c) h = cc
still (SendWaits c v) h = cc
still (Sent c) h = cc
still (ReceiveWaits c) h = cc
still (Received c) h = cc

ends_where_resumes : (p : Stmt) (b : Bool) → resumes p ≡ b → ends1 p ≡ true → b ≡ true
ends_where_resumes p true r e = refl
ends_where_resumes p false r e = let f : ends1 p ≡ false = (still p r).ends in cc

-- weights of resuming trees

weight-joined : (both : Shape → Shape → Shape) → ((s t : Shape) → weight_of_shape (both s t) ≡ weight_of_shape s + weight_of_shape t) → (s t : Option Shape) → weight_of_some (joined_by both s t) ≡ weight_of_some s + weight_of_some t
weight-joined both sums None t = omega arith
weight-joined both sums (Some s) None = omega arith
weight-joined both sums (Some s) (Some t) = sums s t

weight-then : (e : Bool) (s : Option Shape) (t : Shape) → (e ≡ true → is_some s ≡ true) → weight_of_some (cond e (then_shape s t) s) ≡ weight_of_some s + cond e (weight_of_shape t) 0
weight-then true None t h = let g : false ≡ true = h refl in cc
weight-then true (Some s) t h = refl
weight-then false s t h = omega arith

weight-again : (at : ℕ → ℕ) (n : ℕ) (p : Stmt) (t : Shape) → weight_of_some (cond (ends1 p) (then_shape (resuming_shape at n p) t) (resuming_shape at n p)) ≡ weight_of_some (resuming_shape at n p) + cond (ends1 p) (weight_of_shape t) 0
weight-again at n p t = weight-then (ends1 p) (resuming_shape at n p) t (λ e. some-resuming at n p ∙ ends_where_resumes p (resumes p) refl e)

weight-tested : (both : Shape → Shape → Shape) (n : ℕ) (b : Bool) → ((s t : Shape) → weight_of_shape (both s t) ≡ weight_of_shape s + weight_of_shape t) → (x : Shape) (s : Option Shape) → weight_of_shape x ≡ n → is_some s ≡ b → weight_of_some (tested both x s) ≡ cond b n 0 + weight_of_some s
weight-tested both n true sums x None w i = cc
weight-tested both n false sums x None w i = omega arith
weight-tested both n true sums x (Some s) w i = sums x s ∙ ap (λ k. k + weight_of_shape s) w
weight-tested both n false sums x (Some s) w i = cc

sums-with : (weak : Bool) (s t : Shape) → weight_of_shape (with_test weak s t) ≡ weight_of_shape s + weight_of_shape t
sums-with true s t = refl
sums-with false s t = refl

weight-new : (k : ℕ) (s : Option Shape) → weight_of_some (with_new k s) ≡ weight_of_some s
weight-new k None = refl
weight-new k (Some s) = refl

pub weight-resuming : (at : ℕ → ℕ) (n : ℕ) (p : Stmt) → weight_of_some (resuming_shape at n p) ≡ later_weight p
weight-resuming at n Nothing = refl
weight-resuming at n Pause = refl
weight-resuming at n (Emit s e) = refl
weight-resuming at n (Assign x e) = refl
weight-resuming at n (If e p q) =
    let x = weight-resuming at (suc n) p in
    let y = weight-resuming at (suc n + own_leaves p) q in
    let z = weight-joined OneOf (λ s t. refl) (resuming_shape at (suc n) p) (resuming_shape at (suc n + own_leaves p) q) in
    omega (arith, x, y, z)
weight-resuming at n (Present t p q) =
    let x = weight-resuming at (suc n) p in
    let y = weight-resuming at (suc n + own_leaves p) q in
    let z = weight-joined OneOf (λ s t. refl) (resuming_shape at (suc n) p) (resuming_shape at (suc n + own_leaves p) q) in
    omega (arith, x, y, z)
weight-resuming at n (Seq p q) =
    let t = starting_shape at (n + own_leaves p) q in
    let s = cond (ends1 p) (then_shape (resuming_shape at n p) t) (resuming_shape at n p) in
    let y = resuming_shape at (n + own_leaves p) q in
    weight-joined OneOf (λ a b. refl) s y
    ∙ ap (λ k. k + weight_of_some y) (weight-again at n p t)
    ∙ ap (λ k. weight_of_some (resuming_shape at n p) + cond (ends1 p) k 0 + weight_of_some y) (weight-starting at (n + own_leaves p) q)
    ∙ ap (λ k. k + cond (ends1 p) (first_weight q) 0 + weight_of_some y) (weight-resuming at n p)
    ∙ ap (λ k. later_weight p + cond (ends1 p) (first_weight q) 0 + k) (weight-resuming at (n + own_leaves p) q)
weight-resuming at n (Loop p) =
    weight-again at n p (starting_shape at n p)
    ∙ ap (λ k. weight_of_some (resuming_shape at n p) + cond (ends1 p) k 0) (weight-starting at n p)
    ∙ ap (λ k. k + cond (ends1 p) (first_weight p) 0) (weight-resuming at n p)
weight-resuming at n (Par p q) =
    let x = weight-resuming at n p in
    let y = weight-resuming at (n + own_leaves p) q in
    let z = weight-joined Beside (λ s t. refl) (resuming_shape at n p) (resuming_shape at (n + own_leaves p) q) in
    omega (arith, x, y, z)
weight-resuming at n (Trap p) = weight-resuming at n p
weight-resuming at n (Exit d) = refl
weight-resuming at n (Abort weak armed t p) =
    weight-tested (with_test weak) (1 + nodes_of_test t) (resumes p) (sums-with weak) (of_test (at n) t) (resuming_shape at (suc n) p) refl (some-resuming at (suc n) p)
    ∙ ap (λ k. cond (resumes p) (1 + nodes_of_test t) 0 + k) (weight-resuming at (suc n) p)
weight-resuming at n (Suspend armed t p) =
    weight-tested InTurn (1 + nodes_of_test t) (resumes p) (λ a b. refl) (of_test (at n) t) (resuming_shape at (suc n) p) refl (some-resuming at (suc n) p)
    ∙ ap (λ k. cond (resumes p) (1 + nodes_of_test t) 0 + k) (weight-resuming at (suc n) p)
weight-resuming at n (Local s v p) = weight-new s (resuming_shape at n p) ∙ weight-resuming at n p
weight-resuming at n (Send c e) = refl
weight-resuming at n (Receive c) = refl
weight-resuming at n (SendWaits c v) = refl
weight-resuming at n (Sent c) = refl
weight-resuming at n (ReceiveWaits c) = refl
weight-resuming at n (Received c) = refl
