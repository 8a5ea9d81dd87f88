-- Exits after an emission and an assignment.
use Rattle.std.specs.Prelude.{ℕ, Bool, pos, [], ◌∷◌}
use Rattle.kernel_terms.specs.Expressions.{IsPresent}
use Rattle.kernel_terms.specs.Statements.{Stmt, Nothing, Pause, If, Present, Seq, Trap, Exit, Local}
use Rattle.kernel_rules.specs.definitions.Signals.{Env, put_at}
use Rattle.kernel_rules.specs.definitions.TickRule.{Tick, exit_code}
use Rattle.kernel_rules.specs.ShownTicks.{all_zero, emitted, statuses, absent, present}
use Rattle.kernel_rules.specs.Worked.Words.{emit, assign}
use Rattle.kernel_rules.specs.Worked.Variables.{truth, then_shown}

-- emit A; x = 1; exit to the depth;
abbrev pub leaves : ℕ → Stmt
leaves d = Seq (emit 0) (Seq (assign 0 1) (Exit d))

-- pause; emit A; x = 1; exit to the depth;
abbrev pub leaves_later : ℕ → Stmt
leaves_later d = Seq Pause (leaves d)

-- emit C; pause;
abbrev pub emits_and_pauses : Stmt
emits_and_pauses = Seq (emit 2) Pause

-- trap(T){p} emit B(x);
abbrev pub caught : Stmt → Stmt
caught p = then_shown (Trap p)

-- signal P; p
abbrev pub in_local : Stmt → Stmt
in_local p = Local 5 (pos 0) p

-- if(b){p}else{q}
abbrev pub chosen : Bool → Stmt → Stmt → Stmt
chosen b p q = If (truth b) p q

-- present(S){p}else{q}, with the signal 2 for S
abbrev pub asked : Stmt → Stmt → Stmt
asked p q = Present (IsPresent 2) p q

-- the tick of `leaves`, from variables that are 0
abbrev pub left_by : ℕ → Tick
left_by d =
    record {
      code = exit_code d;
      rest = Nothing;
      emits = emitted 0 0 ∷
          [];
      variables = put_at all_zero 0 (pos 1);
    }

-- emit C; y = 2; pause;
abbrev pub assigns_and_pauses : Stmt
assigns_and_pauses = Seq (emit 2) (Seq (assign 1 2) Pause)

-- the signal 2 is present
abbrev pub tested_present : Env
tested_present = statuses (absent ∷ absent ∷ present ∷ [])

-- of exits to the depths 0 and 1, and of a code above those of all exits
abbrev pub ForEachExit : (ℕ → Type 0) → Type 0
ForEachExit P = P 0 × P 1 × P 998
