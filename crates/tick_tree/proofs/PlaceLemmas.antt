-- Places make no difference to the rest of a tree.
use Rattle.std.proofs.Common.{◌≡◌, ℕ, suc, ◌+◌, Bool, true, false, cond, arith, refl, sym, ap, ◌∙◌}
use Rattle.std.specs.Prelude.{Option, Some, None}
use Rattle.kernel_terms.specs.Statements.{Stmt, Nothing, Pause, Emit, Assign, If, Present, Seq, Loop, Par, Trap, Exit, Abort, Suspend, Local, Send, Receive, SendWaits, Sent, ReceiveWaits, Received}
use Rattle.kernel_terms.specs.MayEnd.{ends0, ends1}
use Rattle.tick_tree.specs.definitions.Leaves.{own_leaves}
use Rattle.tick_tree.specs.definitions.Shapes.{Shape, Single, InTurn, OneOf, Beside, WithNew, of_expression, of_test, with_test, starting_shape, resuming_shape, joined_by, then_shape, tested, with_new}
use Rattle.tick_tree.specs.definitions.Trees.{leaves_in, copies_in}
use Rattle.tick_tree.specs.definitions.Weight.{nowhere}
use Rattle.tick_tree.specs.definitions.Laws.{without_places, without_places_of_some}

two : (both : Shape → Shape → Shape) (a b c d : Shape) → a ≡ c → b ≡ d → both a b ≡ both c d
two both a b c d x y = ap (λ s. both s b) x ∙ ap (λ s. both c s) y

turn_if : (e : Bool) (a b c d : Shape) → without_places a ≡ c → without_places b ≡ d → without_places (cond e (InTurn a b) a) ≡ cond e (InTurn c d) c
turn_if true a b c d x y = two InTurn (without_places a) (without_places b) c d x y
turn_if false a b c d x y = x

test_if : (weak armed : Bool) (a b c d : Shape) → without_places a ≡ c → without_places b ≡ d → without_places (cond armed (with_test weak a b) b) ≡ cond armed (with_test weak c d) d
test_if weak false a b c d x y = y
test_if false true a b c d x y = two InTurn (without_places a) (without_places b) c d x y
test_if true true a b c d x y = two Beside (without_places a) (without_places b) c d x y

pub without-starting : (at : ℕ → ℕ) (n m : ℕ) (p : Stmt) → without_places (starting_shape at n p) ≡ starting_shape nowhere m p
without-starting at n m Nothing = refl
without-starting at n m Pause = refl
without-starting at n m (Emit s e) = refl
without-starting at n m (Assign x e) = refl
without-starting at n m (If e p q) =
    ap (λ s. InTurn (of_expression 0 e) s)
    (two OneOf (without_places (starting_shape at (suc n) p)) (without_places (starting_shape at (suc n + own_leaves p) q)) (starting_shape nowhere (suc m) p) (starting_shape nowhere (suc m + own_leaves p) q)
    (without-starting at (suc n) (suc m) p) (without-starting at (suc n + own_leaves p) (suc m + own_leaves p) q))
without-starting at n m (Present t p q) =
    ap (λ s. InTurn (of_test 0 t) s)
    (two OneOf (without_places (starting_shape at (suc n) p)) (without_places (starting_shape at (suc n + own_leaves p) q)) (starting_shape nowhere (suc m) p) (starting_shape nowhere (suc m + own_leaves p) q)
    (without-starting at (suc n) (suc m) p) (without-starting at (suc n + own_leaves p) (suc m + own_leaves p) q))
without-starting at n m (Seq p q) =
    turn_if (ends0 p) (starting_shape at n p) (starting_shape at (n + own_leaves p) q) (starting_shape nowhere m p) (starting_shape nowhere (m + own_leaves p) q)
    (without-starting at n m p) (without-starting at (n + own_leaves p) (m + own_leaves p) q)
without-starting at n m (Loop p) = without-starting at n m p
without-starting at n m (Par p q) =
    two Beside (without_places (starting_shape at n p)) (without_places (starting_shape at (n + own_leaves p) q)) (starting_shape nowhere m p) (starting_shape nowhere (m + own_leaves p) q)
    (without-starting at n m p) (without-starting at (n + own_leaves p) (m + own_leaves p) q)
without-starting at n m (Trap p) = without-starting at n m p
without-starting at n m (Exit d) = refl
without-starting at n m (Abort weak armed t p) =
    test_if weak armed (of_test (at n) t) (starting_shape at (suc n) p) (of_test 0 t) (starting_shape nowhere (suc m) p) refl (without-starting at (suc n) (suc m) p)
without-starting at n m (Suspend armed t p) = without-starting at (suc n) (suc m) p
without-starting at n m (Local s v p) = ap (WithNew s) (without-starting at n m p)
without-starting at n m (Send c e) = refl
without-starting at n m (Receive c) = refl
without-starting at n m (SendWaits c v) = refl
without-starting at n m (Sent c) = refl
without-starting at n m (ReceiveWaits c) = refl
without-starting at n m (Received c) = refl

leaves-without : (s : Shape) → leaves_in (without_places s) ≡ leaves_in s
leaves-without (Single x) = refl
leaves-without (InTurn p q) = omega (arith, leaves-without p, leaves-without q)
leaves-without (OneOf p q) = omega (arith, leaves-without p, leaves-without q)
leaves-without (Beside p q) = omega (arith, leaves-without p, leaves-without q)
leaves-without (WithNew s p) = leaves-without p

pub leaves-starting : (at : ℕ → ℕ) (n : ℕ) (p : Stmt) → leaves_in (starting_shape at n p) ≡ leaves_in (starting_shape nowhere 0 p)
leaves-starting at n p = sym (leaves-without (starting_shape at n p)) ∙ ap leaves_in (without-starting at n 0 p)

copies-without : (s : Shape) → copies_in (without_places s) ≡ copies_in s
copies-without (Single x) = refl
copies-without (InTurn p q) = omega (arith, copies-without p, copies-without q)
copies-without (OneOf p q) = omega (arith, copies-without p, copies-without q)
copies-without (Beside p q) = omega (arith, copies-without p, copies-without q)
copies-without (WithNew s p) = ap suc (copies-without p)

pub copies-starting : (at : ℕ → ℕ) (n : ℕ) (p : Stmt) → copies_in (starting_shape at n p) ≡ copies_in (starting_shape nowhere 0 p)
copies-starting at n p = sym (copies-without (starting_shape at n p)) ∙ ap copies_in (without-starting at n 0 p)

-- and of resuming trees

joined_without : (both : Shape → Shape → Shape) → ((a b : Shape) → without_places (both a b) ≡ both (without_places a) (without_places b)) → (s t : Option Shape)
    → without_places_of_some (joined_by both s t) ≡ joined_by both (without_places_of_some s) (without_places_of_some t)
joined_without both apart None t = refl
joined_without both apart (Some s) None = refl
joined_without both apart (Some s) (Some t) = ap Some (apart s t)

then_without : (e : Bool) (s : Option Shape) (t : Shape) → without_places_of_some (cond e (then_shape s t) s) ≡ cond e (then_shape (without_places_of_some s) (without_places t)) (without_places_of_some s)
then_without true None t = refl
then_without true (Some s) t = refl
then_without false s t = refl

tested_without : (both : Shape → Shape → Shape) → ((a b : Shape) → without_places (both a b) ≡ both (without_places a) (without_places b)) → (x : Shape) (s : Option Shape)
    → without_places_of_some (tested both x s) ≡ tested both (without_places x) (without_places_of_some s)
tested_without both apart x None = refl
tested_without both apart x (Some s) = ap Some (apart x s)

new_without : (k : ℕ) (s : Option Shape) → without_places_of_some (with_new k s) ≡ with_new k (without_places_of_some s)
new_without k None = refl
new_without k (Some s) = refl

test_without : (weak : Bool) (a b : Shape) → without_places (with_test weak a b) ≡ with_test weak (without_places a) (without_places b)
test_without true a b = refl
test_without false a b = refl

pairs : (f : Option Shape → Option Shape → Option Shape) (a b c d : Option Shape) → a ≡ c → b ≡ d → f a b ≡ f c d
pairs f a b c d x y = ap (λ s. f s b) x ∙ ap (λ s. f c s) y

pub without-resuming : (at : ℕ → ℕ) (n m : ℕ) (p : Stmt) → without_places_of_some (resuming_shape at n p) ≡ resuming_shape nowhere m p
without-resuming at n m Nothing = refl
without-resuming at n m Pause = refl
without-resuming at n m (Emit s e) = refl
without-resuming at n m (Assign x e) = refl
without-resuming at n m (If e p q) =
    joined_without OneOf (λ a b. refl) (resuming_shape at (suc n) p) (resuming_shape at (suc n + own_leaves p) q)
    ∙ pairs (joined_by OneOf) (without_places_of_some (resuming_shape at (suc n) p)) (without_places_of_some (resuming_shape at (suc n + own_leaves p) q)) (resuming_shape nowhere (suc m) p) (resuming_shape nowhere (suc m + own_leaves p) q)
    (without-resuming at (suc n) (suc m) p) (without-resuming at (suc n + own_leaves p) (suc m + own_leaves p) q)
without-resuming at n m (Present t p q) =
    joined_without OneOf (λ a b. refl) (resuming_shape at (suc n) p) (resuming_shape at (suc n + own_leaves p) q)
    ∙ pairs (joined_by OneOf) (without_places_of_some (resuming_shape at (suc n) p)) (without_places_of_some (resuming_shape at (suc n + own_leaves p) q)) (resuming_shape nowhere (suc m) p) (resuming_shape nowhere (suc m + own_leaves p) q)
    (without-resuming at (suc n) (suc m) p) (without-resuming at (suc n + own_leaves p) (suc m + own_leaves p) q)
without-resuming at n m (Seq p q) =
    joined_without OneOf (λ a b. refl) (cond (ends1 p) (then_shape (resuming_shape at n p) (starting_shape at (n + own_leaves p) q)) (resuming_shape at n p)) (resuming_shape at (n + own_leaves p) q)
    ∙ pairs (joined_by OneOf) _ _ (cond (ends1 p) (then_shape (resuming_shape nowhere m p) (starting_shape nowhere (m + own_leaves p) q)) (resuming_shape nowhere m p)) (resuming_shape nowhere (m + own_leaves p) q)
    (then_without (ends1 p) (resuming_shape at n p) (starting_shape at (n + own_leaves p) q)
    ∙ ap (λ s. cond (ends1 p) (then_shape s (without_places (starting_shape at (n + own_leaves p) q))) s) (without-resuming at n m p)
    ∙ ap (λ s. cond (ends1 p) (then_shape (resuming_shape nowhere m p) s) (resuming_shape nowhere m p)) (without-starting at (n + own_leaves p) (m + own_leaves p) q))
    (without-resuming at (n + own_leaves p) (m + own_leaves p) q)
without-resuming at n m (Loop p) =
    (then_without (ends1 p) (resuming_shape at n p) (starting_shape at n p)
    ∙ ap (λ s. cond (ends1 p) (then_shape s (without_places (starting_shape at n p))) s) (without-resuming at n m p)
    ∙ ap (λ s. cond (ends1 p) (then_shape (resuming_shape nowhere m p) s) (resuming_shape nowhere m p)) (without-starting at n m p))
without-resuming at n m (Par p q) =
    joined_without Beside (λ a b. refl) (resuming_shape at n p) (resuming_shape at (n + own_leaves p) q)
    ∙ pairs (joined_by Beside) (without_places_of_some (resuming_shape at n p)) (without_places_of_some (resuming_shape at (n + own_leaves p) q)) (resuming_shape nowhere m p) (resuming_shape nowhere (m + own_leaves p) q)
    (without-resuming at n m p) (without-resuming at (n + own_leaves p) (m + own_leaves p) q)
without-resuming at n m (Trap p) = without-resuming at n m p
without-resuming at n m (Exit d) = refl
without-resuming at n m (Abort weak armed t p) =
    tested_without (with_test weak) (test_without weak) (of_test (at n) t) (resuming_shape at (suc n) p)
    ∙ ap (tested (with_test weak) (of_test 0 t)) (without-resuming at (suc n) (suc m) p)
without-resuming at n m (Suspend armed t p) =
    tested_without InTurn (λ a b. refl) (of_test (at n) t) (resuming_shape at (suc n) p)
    ∙ ap (tested InTurn (of_test 0 t)) (without-resuming at (suc n) (suc m) p)
without-resuming at n m (Local s v p) = new_without s (resuming_shape at n p) ∙ ap (with_new s) (without-resuming at n m p)
without-resuming at n m (Send c e) = refl
without-resuming at n m (Receive c) = refl
without-resuming at n m (SendWaits c v) = refl
without-resuming at n m (Sent c) = refl
without-resuming at n m (ReceiveWaits c) = refl
without-resuming at n m (Received c) = refl
