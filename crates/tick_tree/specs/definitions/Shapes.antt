-- The copies of statements that a tick may pass, and the order in which they stand, before leaves and copies of
-- local signals have numbers.
use Rattle.std.specs.Prelude.{ℕ, suc, ◌+◌, Bool, true, false, cond, List, [], ◌∷◌, Option, Some, None}
use Rattle.kernel_terms.specs.Expressions.{Expression, Test}
use Rattle.kernel_terms.specs.Statements.{Stmt, Nothing, Pause, Emit, Assign, If, Present, Seq, Loop, Par, Trap, Exit, Abort, Suspend, Local, Send, Receive, SendWaits, Sent, ReceiveWaits, Received}
use Rattle.kernel_terms.specs.MayEnd.{ends0, ends1}
use Rattle.tick_tree.specs.definitions.Leaves.{nodes_of, nodes_of_test, signals_read, signals_tested, nodes_of_value, signals_of_value, own_leaves}

-- A copy of one statement: its place in the source, how many nodes its expression or test has, and which signals
-- it reads and writes.
pub record Spot : Type 0 where
  pub at : ℕ
  pub nodes : ℕ
  pub reads : List ℕ
  pub writes : List ℕ

-- One copy; two parts one after the other, of which one is passed, or beside each other; a part with a new copy
-- of a local signal.
pub data Shape : Type 0 where
  Single : (spot : Spot) → Shape
  InTurn : (first second : Shape) → Shape
  OneOf : (left right : Shape) → Shape
  Beside : (left right : Shape) → Shape
  WithNew : (signal : ℕ) (part : Shape) → Shape

-- a leaf without an expression
abbrev pub bare : ℕ → Shape
bare at = Single (record { at = at; nodes = 0; reads = []; writes = [] })

abbrev pub of_expression : ℕ → Expression → Shape
of_expression at e =
    Single (record { at = at; nodes = nodes_of e; reads = signals_read e; writes = [] })

abbrev pub of_test : ℕ → Test → Shape
of_test at t =
    Single (record { at = at; nodes = nodes_of_test t; reads = signals_tested t; writes = [] })

abbrev pub of_emission : ℕ → ℕ → Option Expression → Shape
of_emission at s e =
    Single (record {
      at = at;
      nodes = nodes_of_value e;
      reads = signals_of_value e;
      writes = s ∷ [];
    })

-- the test of an immediate abort stands before the body of a strong one, and beside that of a weak one
abbrev pub with_test : (weak : Bool) → Shape → Shape → Shape
with_test false t p = InTurn t p
with_test true t p = Beside t p

-- The starting tick of a statement, whose first leaf of its own has the number n among those of the domain; `at`
-- tells their places.
abbrev pub starting_shape : (at : ℕ → ℕ) → ℕ → Stmt → Shape
starting_shape at n Nothing = bare (at n)
starting_shape at n Pause = bare (at n)
starting_shape at n (Emit s e) = of_emission (at n) s e
starting_shape at n (Assign x e) = of_expression (at n) e
starting_shape at n (If e p q) =
    InTurn (of_expression (at n) e)
    (OneOf (starting_shape at (suc n) p) (starting_shape at (suc n + own_leaves p) q))
starting_shape at n (Present t p q) =
    InTurn (of_test (at n) t)
    (OneOf (starting_shape at (suc n) p) (starting_shape at (suc n + own_leaves p) q))
starting_shape at n (Seq p q) =
    cond (ends0 p) (InTurn (starting_shape at n p) (starting_shape at (n + own_leaves p) q))
    (starting_shape at n p)
starting_shape at n (Loop p) = starting_shape at n p
starting_shape at n (Par p q) =
    Beside (starting_shape at n p) (starting_shape at (n + own_leaves p) q)
starting_shape at n (Trap p) = starting_shape at n p
starting_shape at n (Exit d) = bare (at n)
starting_shape at n (Abort weak armed t p) =
    cond armed (with_test weak (of_test (at n) t) (starting_shape at (suc n) p))
    (starting_shape at (suc n) p)
starting_shape at n (Suspend armed t p) = starting_shape at (suc n) p
starting_shape at n (Local s v p) = WithNew s (starting_shape at n p)
starting_shape at n (Send c e) = of_expression (at n) e
starting_shape at n (Receive c) = bare (at n)
starting_shape at n (SendWaits c v) = bare (at n)
starting_shape at n (Sent c) = bare (at n)
starting_shape at n (ReceiveWaits c) = bare (at n)
starting_shape at n (Received c) = bare (at n)

-- Of parts that may have no copy in a tick: one of two, both, and one after another only where there is a first.
abbrev pub joined_by : (Shape → Shape → Shape) → Option Shape → Option Shape → Option Shape
joined_by both None t = t
joined_by both (Some s) None = Some s
joined_by both (Some s) (Some t) = Some (both s t)

abbrev pub then_shape : Option Shape → Shape → Option Shape
then_shape None t = None
then_shape (Some s) t = Some (InTurn s t)

-- a test that is looked at where the body has a copy
abbrev pub tested : (Shape → Shape → Shape) → Shape → Option Shape → Option Shape
tested both t None = None
tested both t (Some s) = Some (both t s)

abbrev pub with_new : ℕ → Option Shape → Option Shape
with_new s None = None
with_new s (Some p) = Some (WithNew s p)

-- The resuming tick of a statement, and none where no later tick of it does anything. What waits reads nothing:
-- a send has its value already.
abbrev pub resuming_shape : (at : ℕ → ℕ) → ℕ → Stmt → Option Shape
resuming_shape at n Nothing = None
resuming_shape at n Pause = Some (bare (at n))
resuming_shape at n (Emit s e) = None
resuming_shape at n (Assign x e) = None
resuming_shape at n (If e p q) =
    joined_by OneOf (resuming_shape at (suc n) p) (resuming_shape at (suc n + own_leaves p) q)
resuming_shape at n (Present t p q) =
    joined_by OneOf (resuming_shape at (suc n) p) (resuming_shape at (suc n + own_leaves p) q)
resuming_shape at n (Seq p q) =
    joined_by OneOf
    (cond (ends1 p) (then_shape (resuming_shape at n p) (starting_shape at (n + own_leaves p) q))
    (resuming_shape at n p))
    (resuming_shape at (n + own_leaves p) q)
resuming_shape at n (Loop p) =
    cond (ends1 p) (then_shape (resuming_shape at n p) (starting_shape at n p))
    (resuming_shape at n p)
resuming_shape at n (Par p q) =
    joined_by Beside (resuming_shape at n p) (resuming_shape at (n + own_leaves p) q)
resuming_shape at n (Trap p) = resuming_shape at n p
resuming_shape at n (Exit d) = None
resuming_shape at n (Abort weak armed t p) =
    tested (with_test weak) (of_test (at n) t) (resuming_shape at (suc n) p)
resuming_shape at n (Suspend armed t p) =
    tested InTurn (of_test (at n) t) (resuming_shape at (suc n) p)
resuming_shape at n (Local s v p) = with_new s (resuming_shape at n p)
resuming_shape at n (Send c e) = Some (bare (at n))
resuming_shape at n (Receive c) = Some (bare (at n))
resuming_shape at n (SendWaits c v) = Some (bare (at n))
resuming_shape at n (Sent c) = Some (bare (at n))
resuming_shape at n (ReceiveWaits c) = Some (bare (at n))
resuming_shape at n (Received c) = Some (bare (at n))
