-- What expressions, tests and statements read: a variable, a signal and a channel that have values, and all
-- others 0.
use Rattle.std.specs.Prelude.{ℕ, ℤ, pos, negsuc, List, [], ◌∷◌, Some, map, codes}
use Rattle.java_values.specs.declared.kind.Kind.{Kind}
use Rattle.java_values.specs.declared.kind.Kind.TheVariants as kind
use Rattle.java_values.specs.declared.op.Op1.TheVariants as op1
use Rattle.java_values.specs.declared.op.Op2.{Op2}
use Rattle.java_values.specs.declared.op.Op2.TheVariants as op
use Rattle.kernel_terms.specs.declared.tables.SignalInfo.{SignalInfo}
use Rattle.kernel_terms.specs.declared.tables.Sort.TheVariants as sort
use Rattle.kernel_terms.specs.declared.tables.Combine.{Combine}
use Rattle.kernel_terms.specs.Expressions.{Expression, Literal, Variable, SignalValue, ChannelValue, Unary, Binary, Cast}
use Rattle.kernel_terms.specs.Statements.{Stmt, Assign, If, Seq}
use Rattle.kernel_rules.specs.definitions.Signals.{Emission, Env, put_at}
use Rattle.kernel_rules.specs.definitions.Expressions.{Readings}
use Rattle.kernel_rules.specs.ShownTicks.{all_zero, statuses, absent, present, absent_with, emitted}
use Rattle.kernel_rules.specs.Rows.{int}
use Rattle.kernel_rules.specs.Worked.Words.{variable, signal_value, plus, emit, emit_value}

-- the variable 1 is 7
abbrev pub one_variable : ℕ → ℤ
one_variable = put_at all_zero 1 (pos 7)

-- the signal 0 is present, with the value 0, and 3 is absent, with the value 80
abbrev pub two_signals : Env
two_signals = statuses (present ∷ absent ∷ absent ∷ absent_with 80 ∷ [])

-- the last value of the channel 2 is 900
abbrev pub one_channel : ℕ → ℤ
one_channel = put_at all_zero 2 (pos 900)

abbrev pub readings : Readings
readings = record { variables = one_variable; env = two_signals; last = one_channel }

abbrev pub channel_value : ℕ → Expression
channel_value c = ChannelValue kind.Int c

-- x + #S + #C, of the variable 1, the signal 3 and the channel 2
abbrev pub sum_of_all : Expression
sum_of_all = plus (variable 1) (plus (signal_value 3) (channel_value 2))

-- if(x + #S + #C == 987){emit A;}else{emit B;}
abbrev pub asks_for_sum : Stmt
asks_for_sum = If (Binary kind.Boolean op.Equal sum_of_all (int 987)) (emit 0) (emit 1)

-- y = x + #S + #C; emit A(y);
abbrev pub assigns_sum : Stmt
assigns_sum = Seq (Assign 0 sum_of_all) (emit_value 0 (variable 0))

abbrev pub literal : Kind → ℕ → Expression
literal k n = Literal k (pos n)

-- a signal of a kind, with an operator
abbrev pub signal_of : Kind → Combine → SignalInfo
signal_of k c =
    record { name = codes "S"; domain = 0; sort = sort.Output; kind = Some k; combine = c }

-- emissions of three signals
abbrev pub some_emissions : List Emission
some_emissions = emitted 0 5 ∷ emitted 1 6 ∷ emitted 0 4 ∷ emitted 2 3 ∷ []

-- each form of expression with a kind for its own, on the variable, the signal and the channel that have values
abbrev pub forms_of : Kind → List Expression
forms_of k =
    literal k 1 ∷ Variable k 1 ∷ SignalValue k 3 ∷ ChannelValue k 2 ∷
    Unary k op1.Minus (Literal k (negsuc 0)) ∷ Binary k op.Add (literal k 1) (int 1)
    ∷ Binary k op.Add (int 1) (literal k 1) ∷ Cast k (literal kind.Byte 1) ∷ []

-- the greatest `int` added to each of them
abbrev pub greatest_added : Kind → List Expression
greatest_added k = map (λ e. Binary k op.Add e (int 2147483647)) (forms_of k)

-- operators on two numbers of kind `int`
abbrev pub on_ints : Kind → List Op2 → ℤ → ℤ → List Expression
on_ints k ops m n = map (λ o. Binary k o (Literal kind.Int m) (Literal kind.Int n)) ops

-- on two truth values
abbrev pub on_booleans : List Op2 → ℕ → ℕ → List Expression
on_booleans ops m n =
    map (λ o. Binary kind.Boolean o (literal kind.Boolean m) (literal kind.Boolean n)) ops

abbrev pub arithmetic : List Op2
arithmetic = op.Mul ∷ op.Div ∷ op.Rem ∷ op.Add ∷ op.Sub ∷ op.Shl ∷ op.Shr ∷ op.Ushr ∷ []

abbrev pub comparisons : List Op2
comparisons = op.Less ∷ op.LessEq ∷ op.Greater ∷ op.GreaterEq ∷ op.Equal ∷ op.NotEqual ∷ []

abbrev pub bitwise : List Op2
bitwise = op.And ∷ op.Xor ∷ op.Or ∷ []

abbrev pub logical : List Op2
logical = op.Both ∷ op.Either ∷ []

-- a number that fits `long` alone, cast to each kind
abbrev pub casts : List Expression
casts =
    map (λ k. Cast k (literal kind.Long 8589974992)) (kind.Byte ∷ kind.Short ∷ kind.Char ∷
    kind.Int ∷ kind.Long ∷ [])
