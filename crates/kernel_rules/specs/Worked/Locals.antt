-- Statements on local signals.
use Rattle.std.specs.Prelude.{ℕ, pos, false, List, [], ◌∷◌, Some, codes}
use Rattle.java_values.specs.declared.kind.Kind.TheVariants as kind
use Rattle.kernel_terms.specs.declared.tables.SignalInfo.{SignalInfo}
use Rattle.kernel_terms.specs.declared.tables.Tables.{Tables}
use Rattle.kernel_terms.specs.declared.tables.Sort.TheVariants as sort
use Rattle.kernel_terms.specs.declared.tables.Combine.TheVariants as combine
use Rattle.kernel_terms.specs.Expressions.{IsPresent}
use Rattle.kernel_terms.specs.Statements.{Stmt, Nothing, Pause, Assign, Present, Seq, Par, Exit, Suspend, Local}
use Rattle.kernel_rules.specs.definitions.Signals.{Emission}
use Rattle.kernel_rules.specs.ShownTicks.{Shown, statuses, absent, present, pauses_in}
use Rattle.kernel_rules.specs.Rows.{int, pure_input, pure_local, summed, summed_local, signals_alone}
use Rattle.kernel_rules.specs.Worked.Words.{variable, signal_value, plus, emit, emit_value, assign}

-- of kind `int`, with `max`
abbrev pub greatest_local : List ℕ → SignalInfo
greatest_local name =
    record {
      name = name;
      domain = 0;
      sort = sort.Local;
      kind = Some kind.Int;
      combine = combine.Max;
    }

-- outputs A and B, input I, and the local signals S with `+`, M with `max`, and P and Q, which are pure
abbrev pub local_tables : Tables
local_tables =
    signals_alone
    (summed (codes "A") ∷ summed (codes "B") ∷ pure_input (codes "I") ∷ summed_local (codes "S") ∷
    greatest_local (codes "M")
    ∷ pure_local (codes "P") ∷ pure_local (codes "Q") ∷ [])

-- a tick in which I is present
abbrev pub pauses_with_input : List Emission → Shown
pauses_with_input m = pauses_in (statuses (absent ∷ absent ∷ present ∷ [])) m

-- present(P){emit A;}else{emit B;}
abbrev pub asks : Stmt
asks = Present (IsPresent 5) (emit 0) (emit 1)

-- signal P; {emit P;} || {present(P){emit A;}else{emit B;}}
abbrev pub emitted_beside : Stmt
emitted_beside = Local 5 (pos 0) (Par (emit 5) asks)

-- signal P; {present(P){emit A;}else{emit B;}} || {emit P;}
abbrev pub asked_beside : Stmt
asked_beside = Local 5 (pos 0) (Par asks (emit 5))

-- signal P; present(P){emit A;}else{emit B;} pause; emit P;
abbrev pub emitted_later : Stmt
emitted_later = Local 5 (pos 0) (Seq asks (Seq Pause (emit 5)))

-- signal P; { {signal Q; emit P; emit Q;} present(P){emit A;}else{emit B;} }
abbrev pub emitted_inside : Stmt
emitted_inside = Local 5 (pos 0) (Seq (Local 6 (pos 0) (Seq (emit 5) (emit 6))) asks)

-- signal P; { emit P; {signal Q; present(Q){emit A;}else{emit B;}} }
abbrev pub another_asked : Stmt
another_asked =
    Local 5 (pos 0) (Seq (emit 5) (Local 6 (pos 0) (Present (IsPresent 6) (emit 0) (emit 1))))

-- int signal S; emit B(#S); emit S(1); emit S(2);
abbrev pub added : Stmt
added =
    Local 3 (pos 0) (Seq (emit_value 1 (signal_value 3))
    (Seq (emit_value 3 (int 1)) (emit_value 3 (int 2))))

-- int signal M; emit M(1); emit M(3); emit M(2); emit B(#M);
abbrev pub greatest : Stmt
greatest =
    Local 4 (pos 0) (Seq (emit_value 4 (int 1))
    (Seq (emit_value 4 (int 3)) (Seq (emit_value 4 (int 2)) (emit_value 1 (signal_value 4)))))

-- emit B(#S); pause; emit B(#S);
abbrev pub shown_twice : Stmt
shown_twice = Seq (emit_value 1 (signal_value 3)) (Seq Pause (emit_value 1 (signal_value 3)))

-- int signal S; emit S(5); emit B(#S); pause; emit B(#S);
abbrev pub kept : Stmt
kept = Local 3 (pos 0) (Seq (emit_value 3 (int 5)) shown_twice)

-- int signal S; emit S(5); pause; emit S(3); emit B(#S); pause; emit B(#S);
abbrev pub emitted_again : Stmt
emitted_again =
    Local 3 (pos 0) (Seq (emit_value 3 (int 5))
    (Seq Pause (Seq (emit_value 3 (int 3)) shown_twice)))

-- emit S(3); pause; emit B(#S);
abbrev pub emitted_and_shown : Stmt
emitted_and_shown = Seq (emit_value 3 (int 3)) (Seq Pause (emit_value 1 (signal_value 3)))

-- int signal S; suspend(I){emit S(3); pause; emit B(#S);}
abbrev pub suspended_inside : Stmt
suspended_inside = Local 3 (pos 0) (Suspend false (IsPresent 2) emitted_and_shown)

-- suspend(I){int signal S; emit S(3); pause; emit B(#S);}
abbrev pub suspended_around : Stmt
suspended_around = Suspend false (IsPresent 2) (Local 3 (pos 0) emitted_and_shown)

-- signal P; emit P; exit to the depth;
abbrev pub exits_around : ℕ → Stmt
exits_around d = Local 5 (pos 0) (Seq (emit 5) (Exit d))

-- {signal P; x = 1;} emit B(x);
abbrev pub assigned_inside : Stmt
assigned_inside = Seq (Local 5 (pos 0) (assign 0 1)) (emit_value 1 (variable 0))

-- {signal P; x = 1; pause; x = x + 1;} emit B(x);
abbrev pub assigned_twice_inside : Stmt
assigned_twice_inside =
    Seq (Local 5 (pos 0) (Seq (assign 0 1) (Seq Pause (Assign 0 (plus (variable 0) (int 1))))))
    (emit_value 1 (variable 0))

-- signal P; present(P){emit P; emit A;}
abbrev pub relies_on_itself : Stmt
relies_on_itself = Local 5 (pos 0) (Present (IsPresent 5) (Seq (emit 5) (emit 0)) Nothing)

-- signal P; present(P){}else{emit P;}
abbrev pub contradicts_itself : Stmt
contradicts_itself = Local 5 (pos 0) (Present (IsPresent 5) Nothing (emit 5))
