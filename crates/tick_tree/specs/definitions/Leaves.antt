-- What a leaf of a tick tree reads and how many nodes it has, and the places of the leaves.
use Rattle.std.specs.Prelude.{ℕ, suc, ◌+◌, List, [], ◌∷◌, ◌++◌, flat_map, Option, Some, None}
use Rattle.kernel_terms.specs.declared.term.Term.{Term}
use Rattle.kernel_terms.specs.declared.term.Form.TheOpen.{Form-F, Term-F}
use Rattle.kernel_terms.specs.declared.term.Form.TheFolds.{fold-Term}
use Rattle.kernel_terms.specs.Expressions.{Expression, Literal, Variable, SignalValue, ChannelValue, Unary, Binary, Cast, Test, IsPresent, Not, Both, Either}
use Rattle.kernel_terms.specs.Statements.{Stmt, Nothing, Pause, Emit, Assign, If, Present, Seq, Loop, Par, Trap, Exit, Abort, Suspend, Local, Send, Receive, SendWaits, Sent, ReceiveWaits, Received}

-- the nodes of an expression: literals, names, `#` reads, operators and casts
abbrev pub nodes_of : Expression → ℕ
nodes_of (Literal k n) = 1
nodes_of (Variable k x) = 1
nodes_of (SignalValue k s) = 1
nodes_of (ChannelValue k c) = 1
nodes_of (Unary k op e) = 1 + nodes_of e
nodes_of (Binary k op e f) = 1 + nodes_of e + nodes_of f
nodes_of (Cast k e) = 1 + nodes_of e

abbrev pub nodes_of_test : Test → ℕ
nodes_of_test (IsPresent s) = 1
nodes_of_test (Not t) = 1 + nodes_of_test t
nodes_of_test (Both t u) = 1 + nodes_of_test t + nodes_of_test u
nodes_of_test (Either t u) = 1 + nodes_of_test t + nodes_of_test u

-- the signals whose values an expression reads, from the left
abbrev pub signals_read : Expression → List ℕ
signals_read (Literal k n) = []
signals_read (Variable k x) = []
signals_read (SignalValue k s) = s ∷ []
signals_read (ChannelValue k c) = []
signals_read (Unary k op e) = signals_read e
signals_read (Binary k op e f) = signals_read e ++ signals_read f
signals_read (Cast k e) = signals_read e

-- the signals that a test looks at, from the left
abbrev pub signals_tested : Test → List ℕ
signals_tested (IsPresent s) = s ∷ []
signals_tested (Not t) = signals_tested t
signals_tested (Both t u) = signals_tested t ++ signals_tested u
signals_tested (Either t u) = signals_tested t ++ signals_tested u

-- of the value of an emission, where there is one
abbrev pub nodes_of_value : Option Expression → ℕ
nodes_of_value None = 0
nodes_of_value (Some e) = nodes_of e

abbrev pub signals_of_value : Option Expression → List ℕ
signals_of_value None = []
signals_of_value (Some e) = signals_read e

-- How many statements have a leaf of their own: all but sequences, parallels, loops, traps and local signals.
abbrev pub own_leaves : Stmt → ℕ
own_leaves Nothing = 1
own_leaves Pause = 1
own_leaves (Emit s e) = 1
own_leaves (Assign x e) = 1
own_leaves (If e p q) = suc (own_leaves p + own_leaves q)
own_leaves (Present t p q) = suc (own_leaves p + own_leaves q)
own_leaves (Seq p q) = own_leaves p + own_leaves q
own_leaves (Loop p) = own_leaves p
own_leaves (Par p q) = own_leaves p + own_leaves q
own_leaves (Trap p) = own_leaves p
own_leaves (Exit d) = 1
own_leaves (Abort weak armed t p) = suc (own_leaves p)
own_leaves (Suspend armed t p) = suc (own_leaves p)
own_leaves (Local s v p) = own_leaves p
own_leaves (Send c e) = 1
own_leaves (Receive c) = 1
own_leaves (SendWaits c v) = 1
own_leaves (Sent c) = 1
own_leaves (ReceiveWaits c) = 1
own_leaves (Received c) = 1

-- The places of those statements in the source, from the left, a statement before its parts.
abbrev pub form_places : Form-F (ℕ → List ℕ) (List ℕ) → ℕ → List ℕ
form_places Form-F.Nothing at = at ∷ []
form_places Form-F.Pause at = at ∷ []
form_places (Form-F.Emit s e) at = at ∷ []
form_places (Form-F.Assign x e) at = at ∷ []
form_places (Form-F.If e p q) at = at ∷ (p ++ q)
form_places (Form-F.Present t p q) at = at ∷ (p ++ q)
form_places (Form-F.Seq ps) at = flat_map (λ l. l) ps
form_places (Form-F.Loop p) at = p
form_places (Form-F.Par ps) at = flat_map (λ l. l) ps
form_places (Form-F.Trap p) at = p
form_places (Form-F.Exit d) at = at ∷ []
form_places (Form-F.Abort weak immediate t p) at = at ∷ p
form_places (Form-F.Suspend t p) at = at ∷ p
form_places (Form-F.Local s p) at = p
form_places (Form-F.Send c e) at = at ∷ []
form_places (Form-F.Receive c) at = at ∷ []

abbrev pub term_places : Term-F (ℕ → List ℕ) (List ℕ) → List ℕ
term_places t = t.form t.at

abbrev pub places_of : Term → List ℕ
places_of = fold-Term (ℕ → List ℕ) (List ℕ) form_places term_places
