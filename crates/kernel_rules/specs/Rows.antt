-- Small statements whose ticks are worked out, with their tables and inputs.
use Rattle.std.specs.Prelude.{◌≡◌, ℕ, ◌==◌, ℤ, pos, Bool, true, false, ◌&&◌, cond, List, [], ◌∷◌, Option, Some, None, codes}
use Rattle.java_values.specs.declared.kind.Kind.TheVariants as kind
use Rattle.kernel_terms.specs.declared.tables.SignalInfo.{SignalInfo}
use Rattle.kernel_terms.specs.declared.tables.Tables.{Tables}
use Rattle.kernel_terms.specs.declared.tables.Sort.TheVariants as sort
use Rattle.kernel_terms.specs.declared.tables.Combine.TheVariants as combine
use Rattle.kernel_terms.specs.Marks.{Mark, Going}
use Rattle.kernel_terms.specs.Expressions.{Expression, Literal, SignalValue, ChannelValue, IsPresent}
use Rattle.kernel_terms.specs.Statements.{Stmt, Nothing, Pause, Emit, Present, Seq, Loop, Par, Trap, Exit, Abort, Suspend, Local, Receive, ReceiveWaits, Received}
use Rattle.kernel_rules.specs.definitions.Signals.{Emission}
use Rattle.kernel_rules.specs.definitions.LegalTick.{DomainState, Inputs, IsLegalTick}

abbrev pub pure : List ℕ → SignalInfo
pure name =
    record { name = name; domain = 0; sort = sort.Output; kind = None; combine = combine.Max }

abbrev pub pure_input : List ℕ → SignalInfo
pure_input name =
    record { name = name; domain = 0; sort = sort.Input; kind = None; combine = combine.Max }

abbrev pub pure_local : List ℕ → SignalInfo
pure_local name =
    record { name = name; domain = 0; sort = sort.Local; kind = None; combine = combine.Max }

-- of kind `int`, with `+`
abbrev pub summed : List ℕ → SignalInfo
summed name =
    record {
      name = name;
      domain = 0;
      sort = sort.Output;
      kind = Some kind.Int;
      combine = combine.Add;
    }

abbrev pub summed_local : List ℕ → SignalInfo
summed_local name =
    record {
      name = name;
      domain = 0;
      sort = sort.Local;
      kind = Some kind.Int;
      combine = combine.Add;
    }

abbrev pub signals_alone : List SignalInfo → Tables
signals_alone signals = record { signals = signals; channels = []; variables = [] }

-- a domain before its first tick
abbrev pub at_start : Stmt → DomainState
at_start p =
    record {
      statement = p;
      variables = λ x. pos 0;
      values = λ s. pos 0;
      last = λ c. pos 0;
      ticks = 0;
      mark = Going;
    }

-- the pure signal 0 is handed in at this tick alone
abbrev pub first_signal_at : ℕ → Inputs
first_signal_at tick s n = cond ((s == 0) && (n == tick)) (Some (pos 0)) None

-- domain 0 makes legal ticks in turn, which the log shows as these rows
abbrev pub MakesTicks : Tables → Inputs → DomainState → List (List (Option ℤ)) → DomainState →
    Type 0
MakesTicks tables inputs old [] new = old ≡ new
MakesTicks tables inputs old (row ∷ rows) new =
    (next : DomainState) × IsLegalTick tables inputs 0 old row next ×
    MakesTicks tables inputs next rows new

-- A domain makes legal ticks from its start, which the log shows as these rows; then this statement is
-- left, and the domain stands so.
pub record Logs (tables : Tables) (inputs : Inputs) (p : Stmt) (rows : List (List (Option ℤ)))
    (rest : Stmt) (mark : Mark) : Type 0 where
  pub state : DomainState
  pub ticks : MakesTicks tables inputs (at_start p) rows state
  pub leaves : state.statement ≡ rest
  pub stands : state.mark ≡ mark

-- a pure signal that is present, and any signal that is absent
abbrev pub on : Option ℤ
on = Some (pos 0)

abbrev pub off : Option ℤ
off = None

-- a signal that is present with this value
abbrev pub with : ℕ → Option ℤ
with n = Some (pos n)

-- the signal is emitted once, with this value, and no other is emitted
abbrev pub emitted_alone : ℕ → ℕ → List Emission
emitted_alone s n = record { signal = s; value = pos n } ∷ []

abbrev pub int : ℕ → Expression
int n = Literal kind.Int (pos n)

-- outputs A and B: trap(T){ {pause; exit(T);} || {while(true){emit A; pause;}} } emit B;
abbrev pub sibling_tables : Tables
sibling_tables = signals_alone (pure (codes "A") ∷ pure (codes "B") ∷ [])

abbrev pub sibling : Stmt
sibling = Seq (Trap (Par (Seq Pause (Exit 0)) (Loop (Seq (Emit 0 None) Pause)))) (Emit 1 None)

-- input A, outputs X and Y: abort(A){emit X; pause; emit X;} emit Y;
abbrev pub abort_tables : Tables
abort_tables = signals_alone (pure_input (codes "A") ∷ pure (codes "X") ∷ pure (codes "Y") ∷ [])

abbrev pub aborted : Bool → Stmt
aborted weak =
    Seq (Abort weak false (IsPresent 0) (Seq (Emit 1 None) (Seq Pause (Emit 1 None)))) (Emit 2 None)

-- a body that never ends: weak abort(A){while(true){emit X; pause;}} emit Y;
abbrev pub endless_aborted : Stmt
endless_aborted =
    Seq (Abort true false (IsPresent 0) (Loop (Seq (Emit 1 None) Pause))) (Emit 2 None)

-- what the first tick leaves of the strong one
abbrev pub armed_abort : Stmt
armed_abort = Seq (Abort false true (IsPresent 0) (Seq Nothing (Emit 1 None))) (Emit 2 None)

-- outputs A and B: while(true){signal S; present(S){emit A;}else{emit B;} pause; emit S;}
abbrev pub new_copy_tables : Tables
new_copy_tables = signals_alone (pure (codes "A") ∷ pure (codes "B") ∷ pure_local (codes "S") ∷ [])

abbrev pub new_copy : Stmt
new_copy =
    Loop (Local 2 (pos 0)
    (Seq (Present (IsPresent 2) (Emit 0 None) (Emit 1 None)) (Seq Pause (Emit 2 None))))

-- what each of its ticks leaves
abbrev pub old_copy : Stmt
old_copy = Seq (Local 2 (pos 0) (Seq Nothing (Emit 2 None))) new_copy

-- output int A: while(true){int signal S; emit A(#S); pause; emit S(5);}
abbrev pub new_value_tables : Tables
new_value_tables = signals_alone (summed (codes "A") ∷ summed_local (codes "S") ∷ [])

abbrev pub new_value : Stmt
new_value =
    Loop (Local 1 (pos 0)
    (Seq (Emit 0 (Some (SignalValue kind.Int 1))) (Seq Pause (Emit 1 (Some (int 5))))))

abbrev pub old_value : Stmt
old_value = Seq (Local 1 (pos 0) (Seq Nothing (Emit 1 (Some (int 5))))) new_value

-- input S, output int B, channel int C: suspend(S){receive C; emit B(#C);}
abbrev pub channel_tables : Tables
channel_tables = record {
  signals = pure_input (codes "S") ∷ summed (codes "B") ∷ [];
  channels = record { name = codes "C"; kind = kind.Int; sender = 1; receiver = 0 } ∷ [];
  variables = [];
}

-- after a part that stands for the receive
abbrev pub then_emits : Stmt → Stmt
then_emits p = Seq p (Emit 1 (Some (ChannelValue kind.Int 0)))

abbrev pub suspended : Stmt
suspended = Suspend false (IsPresent 0) (then_emits (Receive 0))

abbrev pub waiting : Stmt
waiting = Suspend true (IsPresent 0) (then_emits (ReceiveWaits 0))

abbrev pub served : Stmt
served = Suspend true (IsPresent 0) (then_emits (Received 0))

-- input A, output int B:
-- while(true){weak abort(A){while(true){int signal S; emit S(1); emit B(#S); pause; emit S(5); emit B(#S);}}}
abbrev pub copies_tables : Tables
copies_tables =
    signals_alone (pure_input (codes "A") ∷ summed (codes "B") ∷ summed_local (codes "S") ∷ [])

abbrev pub shows_copy : Stmt
shows_copy = Emit 1 (Some (SignalValue kind.Int 2))

abbrev pub copy_loop : Stmt
copy_loop =
    Loop (Local 2 (pos 0)
    (Seq (Emit 2 (Some (int 1)))
    (Seq shows_copy (Seq Pause (Seq (Emit 2 (Some (int 5))) shows_copy)))))

abbrev pub copies : Stmt
copies = Loop (Abort true false (IsPresent 0) copy_loop)

-- what each of its ticks leaves
abbrev pub old_copies : Stmt
old_copies =
    Seq (Abort true true (IsPresent 0)
    (Seq (Local 2 (pos 1) (Seq Nothing (Seq (Emit 2 (Some (int 5))) shows_copy))) copy_loop)) copies
