-- A built statement has no more copies than it weighs.
use Rattle.std.proofs.Common.{◌≡◌, ℕ, ◌+◌, ◌≤◌, Bool, true, false, ◌&&◌, ◌||◌, cond, arith, refl}
use Rattle.std.specs.Prelude.{Option, Some, None}
use Rattle.tick_tree.specs.definitions.Leaves.{own_leaves}
use Rattle.tick_tree.specs.definitions.Shapes.{Shape, InTurn, OneOf, starting_shape, resuming_shape, joined_by, then_shape, bare}
use Rattle.tick_tree.specs.definitions.Weight.{weight_of_shape, weight_of_some, nowhere, weight_of}
use Rattle.domain_core.specs.equations.BuiltForms.{Plain, Nothing, Pause, Emit, Seq, Loop, Send, Receive, whole, ends0, ends1}
use Rattle.domain_core.specs.equations.BuiltLimits.{starting_copies, resuming_copies, copies_of}
use Rattle.domain_core.proofs.lemmas.equations.BuiltTrees.{first_true}

if_turn : (e : Bool) (s t : Shape) (m n : ℕ) → m ≤ weight_of_shape s → n ≤ weight_of_shape t → m + cond e n 0 ≤ weight_of_shape (cond e (InTurn s t) s)
if_turn true s t m n a b = omega (arith, a, b)
if_turn false s t m n a b = omega (arith, a)

starting_fewer : (p : Plain) (n : ℕ) → starting_copies p ≤ weight_of_shape (starting_shape nowhere n (whole p))
starting_fewer Nothing n = omega arith
starting_fewer Pause n = omega arith
starting_fewer (Emit s) n = omega arith
starting_fewer (Seq p q) n =
    if_turn (ends0 p) (starting_shape nowhere n (whole p)) (starting_shape nowhere (n + own_leaves (whole p)) (whole q)) (starting_copies p) (starting_copies q) (starting_fewer p n) (starting_fewer q (n + own_leaves (whole p)))
starting_fewer (Loop p) n = starting_fewer p n
starting_fewer (Send c v) n = omega arith
starting_fewer (Receive c) n = omega arith

-- what may end in a later tick has a copy in it
data IsThere : Option Shape → Type 0 where
  There : (s : Shape) → IsThere (Some s)

there_later : (s t : Option Shape) → IsThere t → IsThere (joined_by OneOf s t)
there_later None t h = h
there_later (Some s) None h = There s
there_later (Some s) (Some t) h = There (OneOf s t)

there_first : (s t : Option Shape) → IsThere s → IsThere (joined_by OneOf s t)
there_first None t h = elim h [ ]
there_first (Some s) None h = There s
there_first (Some s) (Some t) h = There (OneOf s t)

there_turn : (e : Bool) (s : Option Shape) (t : Shape) → IsThere s → IsThere (cond e (then_shape s t) s)
there_turn e None t h = elim h [ ]
there_turn true (Some s) t h = There (InTurn s t)
there_turn false (Some s) t h = h

or_cases : (a b : Bool) (P : Type 0) → a || b ≡ true → (a ≡ true → P) → (b ≡ true → P) → P
or_cases true b P h f g = f refl
or_cases false b P h f g = g h

resumes_to_end : (p : Plain) (n : ℕ) → ends1 p ≡ true → IsThere (resuming_shape nowhere n (whole p))
resumes_to_end Nothing n h = cc
resumes_to_end Pause n h = There (bare (nowhere n))
resumes_to_end (Emit s) n h = cc
resumes_to_end (Loop p) n h = cc
resumes_to_end (Send c v) n h = There (bare (nowhere n))
resumes_to_end (Receive c) n h = There (bare (nowhere n))
resumes_to_end (Seq p q) n h =
    let m = n + own_leaves (whole p) in
    let first = cond (ends1 p) (then_shape (resuming_shape nowhere n (whole p)) (starting_shape nowhere m (whole q))) (resuming_shape nowhere n (whole p)) in
    or_cases (ends1 q) (ends1 p && ends0 q) (IsThere (joined_by OneOf first (resuming_shape nowhere m (whole q)))) h
    (λ e. there_later first (resuming_shape nowhere m (whole q)) (resumes_to_end q m e))
    (λ e. there_first first (resuming_shape nowhere m (whole q)) (there_turn (ends1 p) (resuming_shape nowhere n (whole p)) (starting_shape nowhere m (whole q)) (resumes_to_end p n (first_true (ends1 p) (ends0 q) e))))

weight-joined : (s t : Option Shape) → weight_of_some (joined_by OneOf s t) ≡ weight_of_some s + weight_of_some t
weight-joined None t = omega arith
weight-joined (Some s) None = omega arith
weight-joined (Some s) (Some t) = refl

resumed_turn : (e : Bool) (s : Option Shape) (t : Shape) (m n : ℕ) → (e ≡ true → IsThere s) → m ≤ weight_of_some s → n ≤ weight_of_shape t → m + cond e n 0 ≤ weight_of_some (cond e (then_shape s t) s)
resumed_turn true None t m n h a b = elim (h refl) [ ]
resumed_turn true (Some s) t m n h a b = omega (arith, a, b)
resumed_turn false s t m n h a b = omega (arith, a)

resuming_fewer : (p : Plain) (n : ℕ) → resuming_copies p ≤ weight_of_some (resuming_shape nowhere n (whole p))
resuming_fewer Nothing n = omega arith
resuming_fewer Pause n = omega arith
resuming_fewer (Emit s) n = omega arith
resuming_fewer (Seq p q) n =
    let m = n + own_leaves (whole p) in
    let first = cond (ends1 p) (then_shape (resuming_shape nowhere n (whole p)) (starting_shape nowhere m (whole q))) (resuming_shape nowhere n (whole p)) in
    let a = resumed_turn (ends1 p) (resuming_shape nowhere n (whole p)) (starting_shape nowhere m (whole q)) (resuming_copies p) (starting_copies q) (resumes_to_end p n) (resuming_fewer p n) (starting_fewer q m) in
    let b = resuming_fewer q m in
    let sum = weight-joined first (resuming_shape nowhere m (whole q)) in
    omega (arith, a, b, sum)
resuming_fewer (Loop p) n =
    resumed_turn (ends1 p) (resuming_shape nowhere n (whole p)) (starting_shape nowhere n (whole p)) (resuming_copies p) (starting_copies p) (resumes_to_end p n) (resuming_fewer p n) (starting_fewer p n)
resuming_fewer (Send c v) n = omega arith
resuming_fewer (Receive c) n = omega arith

pub copies_are_fewer : (p : Plain) → copies_of p ≤ weight_of (whole p)
copies_are_fewer p = omega (arith, starting_fewer p 0, resuming_fewer p 0)
