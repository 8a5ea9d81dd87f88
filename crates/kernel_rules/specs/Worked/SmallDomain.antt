-- One domain with registers of each sort.
use Rattle.std.specs.Prelude.{ℕ, ℤ, pos, true, false, List, [], ◌∷◌, Some, get_or, codes}
use Rattle.java_values.specs.declared.kind.Kind.{Kind}
use Rattle.java_values.specs.declared.kind.Kind.TheVariants as kind
use Rattle.kernel_terms.specs.declared.tables.SignalInfo.{SignalInfo}
use Rattle.kernel_terms.specs.declared.tables.Tables.{Tables}
use Rattle.kernel_terms.specs.declared.tables.Sort.TheVariants as sort
use Rattle.kernel_terms.specs.declared.tables.Combine.TheVariants as combine
use Rattle.kernel_terms.specs.Expressions.{Literal, Variable, IsPresent}
use Rattle.kernel_terms.specs.Statements.{Stmt, Nothing, Pause, If, Present, Seq, Loop, Par, Trap, Abort, Suspend, Local, Send, Receive}
use Rattle.kernel_rules.specs.Rows.{pure_input, pure_local, summed, signals_alone}
use Rattle.kernel_rules.specs.Worked.Words.{variable, emit_value}
use Rattle.kernel_rules.specs.Worked.Variables.{truth}

-- a signal of a domain, with `+`
abbrev pub of_domain : ℕ → Kind → List ℕ → SignalInfo
of_domain d k name =
    record { name = name; domain = d; sort = sort.Output; kind = Some k; combine = combine.Add }

abbrev pub long_local : List ℕ → SignalInfo
long_local name =
    record {
      name = name;
      domain = 0;
      sort = sort.Local;
      kind = Some kind.Long;
      combine = combine.Add;
    }

-- Signals: input A, output int I, output int O of the domain 1, output byte B, local long S, local P.
-- Channels: C from the domain 0 to the domain 1, and D back. Variables: int x, another of the domain 1,
-- boolean b.
abbrev pub domain_tables : Tables
domain_tables = record {
  signals =
      pure_input (codes "A") ∷ summed (codes "I") ∷ of_domain 1 kind.Int (codes "O") ∷
      of_domain 0 kind.Byte (codes "B")
      ∷ long_local (codes "S") ∷ pure_local (codes "P") ∷ [];
  channels =
      record { name = codes "C"; kind = kind.Short; sender = 0; receiver = 1 }
      ∷ record { name = codes "D"; kind = kind.Char; sender = 1; receiver = 0 } ∷ [];
  variables =
      record { domain = 0; kind = kind.Int } ∷ record { domain = 1; kind = kind.Int } ∷
      record { domain = 0; kind = kind.Boolean } ∷ [];
}

abbrev pub byte_input : List ℕ → SignalInfo
byte_input name =
    record {
      name = name;
      domain = 0;
      sort = sort.Input;
      kind = Some kind.Byte;
      combine = combine.Add;
    }

-- Signals: local long S, input byte I, input A, output int O.
abbrev pub input_tables : Tables
input_tables =
    signals_alone (long_local (codes "S") ∷ byte_input (codes "I") ∷ pure_input (codes "A") ∷
    summed (codes "O") ∷ [])

-- emit S(9);
abbrev pub emits_local : Stmt
emits_local = emit_value 4 (Literal kind.Long (pos 9))

-- weak abort(A){long signal S; pause; emit S(9);}
abbrev pub first_branch : Stmt
first_branch = Abort true false (IsPresent 0) (Local 4 (pos 0) (Seq Pause emits_local))

-- suspend(A){send C(x);}
abbrev pub second_branch : Stmt
second_branch = Suspend false (IsPresent 0) (Send 0 (variable 0))

-- while(true){if(b){pause; receive D;}else{pause;}}
abbrev pub receives : Stmt
receives = Loop (If (Variable kind.Boolean 2) (Seq Pause (Receive 1)) Pause)

-- { first branch || second branch } while(true){..}
abbrev pub small_domain : Stmt
small_domain = Seq (Par first_branch second_branch) receives

-- registers that hold these numbers, from 0 on
abbrev pub held : List ℕ → ℕ → ℤ
held l n = pos (get_or l n 0)

-- The nine registers of the statement are S, the pause's, the send's `on`, `met` and value, the pause's and
-- the receive's `on` and `met` in the loop's first branch, and the pause's in its second. Then come x, b, I, B
-- and D.
abbrev pub with_others : List ℕ → List ℕ
with_others [] = 5 ∷ 1 ∷ 7 ∷ 8 ∷ 65 ∷ []
with_others (n ∷ ns) = n ∷ with_others ns

-- both branches are live, and the send waits with 17
abbrev pub both_live : ℕ → ℤ
both_live = held (with_others (40 ∷ 1 ∷ 1 ∷ 0 ∷ 17 ∷ 0 ∷ 0 ∷ 0 ∷ 0 ∷ []))

-- the send has completed, and the first branch has ended
abbrev pub send_met : ℕ → ℤ
send_met = held (with_others (40 ∷ 0 ∷ 1 ∷ 1 ∷ 17 ∷ 0 ∷ 0 ∷ 0 ∷ 0 ∷ []))

-- the second branch has ended
abbrev pub first_live : ℕ → ℤ
first_live = held (with_others (40 ∷ 1 ∷ 0 ∷ 0 ∷ 17 ∷ 0 ∷ 0 ∷ 0 ∷ 0 ∷ []))

-- the loop pauses before its receive, its receive waits, its receive has completed, it pauses in its second
-- branch
abbrev pub loop_pauses : ℕ → ℤ
loop_pauses = held (with_others (40 ∷ 0 ∷ 0 ∷ 0 ∷ 17 ∷ 1 ∷ 0 ∷ 0 ∷ 0 ∷ []))

abbrev pub loop_waits : ℕ → ℤ
loop_waits = held (with_others (40 ∷ 0 ∷ 0 ∷ 0 ∷ 17 ∷ 0 ∷ 1 ∷ 0 ∷ 0 ∷ []))

abbrev pub loop_received : ℕ → ℤ
loop_received = held (with_others (40 ∷ 0 ∷ 0 ∷ 0 ∷ 17 ∷ 0 ∷ 1 ∷ 1 ∷ 0 ∷ []))

abbrev pub loop_second : ℕ → ℤ
loop_second = held (with_others (40 ∷ 0 ∷ 0 ∷ 0 ∷ 17 ∷ 0 ∷ 0 ∷ 0 ∷ 1 ∷ []))

-- trap{signal P; present(A){pause; pause;}else{pause;}}
abbrev pub pure_domain : Stmt
pure_domain = Trap (Local 5 (pos 0) (Present (IsPresent 0) (Seq Pause Pause) Pause))

-- while(true){pause;} || pause;
abbrev pub endless_branch : Stmt
endless_branch = Par (Loop Pause) Pause

-- pause; {while(true){pause;} || pause;}
abbrev pub endless_branch_later : Stmt
endless_branch_later = Seq Pause endless_branch

-- the forms that have parts and no registers of their own, as registers leave them, with a statement that is
-- live in each of their parts
abbrev pub forms_left : Stmt → Stmt → List Stmt
forms_left source p =
    p ∷ p ∷ p ∷ p ∷ Seq p Nothing ∷ p ∷ Seq p (Loop source) ∷ Par p Nothing ∷ Par Nothing p ∷
    Trap p ∷ Abort false true (IsPresent 0) p
    ∷ Abort true true (IsPresent 0) p ∷ Suspend true (IsPresent 0) p ∷
    Suspend true (IsPresent 0) p ∷ Local 0 (pos 0) p ∷ []

-- each of the two pauses of `pause; pause;` is on, or the first alone
abbrev pub both_on : ℕ → ℤ
both_on = held (1 ∷ 1 ∷ [])

abbrev pub first_on : ℕ → ℤ
first_on = held (1 ∷ 0 ∷ [])

-- the forms that have two parts, with these
abbrev pub two_parts : Stmt → Stmt → List Stmt
two_parts p q = If (truth true) p q ∷ Present (IsPresent 0) p q ∷ Seq p q ∷ Par p q ∷ []

-- send C(x);
abbrev pub sends : Stmt
sends = Send 0 (variable 0)

-- a local signal with a register, around two pauses
abbrev pub local_pauses : Stmt
local_pauses = Local 4 (pos 0) (Seq Pause Pause)
