-- A copy of a statement, and how copies are put together. Wire 0 is always 0.
use Rattle.std.specs.Prelude.{ℕ, ◌+◌, ◌==◌, nat_lt, pos, Bool, true, false, ◌&&◌, ◌||◌, cond, List, [], ◌∷◌, ◌++◌, length, Option, Some, None}
use Rattle.kernel_terms.specs.declared.tables.Tables.{Tables}
use Rattle.java_values.specs.declared.kind.Kind.{Kind}
use Rattle.kernel_terms.specs.declared.tables.SignalInfo.{SignalInfo}
use Rattle.kernel_terms.specs.declared.tables.Combine.TheVariants as combine
use Rattle.kernel_terms.specs.TableEntries.{signal_at}
use Rattle.kernel_terms.specs.Expressions.{Expression, Test}
use Rattle.kernel_terms.specs.Statements.{Stmt}
use Rattle.kernel_rules.specs.definitions.Signals.{put_at}
use Rattle.kernel_rules.specs.definitions.TickRule.{writes, ended_code, paused_code}
use Rattle.kernel_rules.specs.definitions.Registers.{registers, value_kinds}
use Rattle.surf_graph.specs.definitions.Formulas.{Wires, Formula, Const, Same, And, AndNot, Or, Choose, StatusOf, Status, IsStatus, Greater, OfTrap, OfWeakAbort, Combine, Value, Holds, Equation}

-- What one copy is given: where it ticks, where a suspend holds it (then it doesn't tick), whether what it
-- leaves is kept, what it reads, its first register, and the next free wire.
pub record Context : Type 0 where
  pub go : ℕ
  pub hold : ℕ
  pub keep : ℕ
  pub wires : Wires
  pub register : ℕ
  pub next : ℕ

-- the wires of an emission's condition and value
pub record Emits : Type 0 where
  pub signal : ℕ
  pub condition : ℕ
  pub value : ℕ

pub record Sets : Type 0 where
  pub condition : ℕ
  pub value : ℕ

-- What it gives. Its status is 0 where it doesn't tick and else 1 more than its code. The registers of
-- other statements have no sets.
pub record Copy : Type 0 where
  pub equations : List Equation
  pub status : ℕ
  pub live : ℕ
  pub emits : List Emits
  pub variables : ℕ → ℕ
  pub sets : ℕ → List Sets
  pub next : ℕ

abbrev pub none : ℕ → List Sets
none k = []

-- the sets of registers below m, or from m on
abbrev pub below : ℕ → (ℕ → List Sets) → ℕ → List Sets
below m s k = cond (nat_lt k m) (s k) []

abbrev pub from : ℕ → (ℕ → List Sets) → ℕ → List Sets
from m s k = cond (nat_lt k m) [] (s k)

abbrev pub joined : (ℕ → List Sets) → (ℕ → List Sets) → ℕ → List Sets
joined s t k = s k ++ t k

-- nothing is built
abbrev pub nothing_built : Context → Copy
nothing_built c =
    record {
      equations = [];
      status = 0;
      live = 0;
      emits = [];
      variables = c.wires.variables;
      sets = none;
      next = c.next;
    }

-- both copies, of which at most one tells the status where the other is idle: one behind the other, or two alternatives
abbrev pub behind : ℕ → ℕ → (ℕ → List Sets) → (ℕ → List Sets) → List Equation → Copy → Copy → Copy
behind n live s t own a b = record {
  equations =
      record { wire = n; formula = Greater a.status b.status } ∷
      (own ++ (a.equations ++ b.equations));
  status = n;
  live = live;
  emits = a.emits ++ b.emits;
  variables = b.variables;
  sets = joined s t;
  next = b.next;
}

-- lists of variables
abbrev pub has : List ℕ → ℕ → Bool
has [] y = false
has (x ∷ xs) y = (x == y) || has xs y

-- an increasing list with this variable too
abbrev pub put_once : ℕ → List ℕ → List ℕ
put_once x [] = x ∷ []
put_once x (y ∷ ys) =
    cond (nat_lt x y) (x ∷ (y ∷ ys)) (y ∷ cond (x == y) ys (put_once x ys))

-- those of the first list that are in the other too, in increasing order and each once
abbrev pub both_write : List ℕ → List ℕ → List ℕ
both_write [] ys = []
both_write (x ∷ xs) ys = cond (has ys x) (put_once x (both_write xs ys)) (both_write xs ys)

-- After two alternatives: one wire for each variable that both may assign, that of the second where `other` is on.
abbrev pub joins : ℕ → ℕ → (ℕ → ℕ) → (ℕ → ℕ) → List ℕ → List Equation
joins other n a b [] = []
joins other n a b (x ∷ xs) =
    record { wire = n; formula = Choose other (b x) (a x) } ∷ joins other (n + 1) a b xs

abbrev pub join_wires : ℕ → (ℕ → ℕ) → List ℕ → ℕ → ℕ
join_wires n v [] y = v y
join_wires n v (x ∷ xs) y = cond (x == y) n (join_wires (n + 1) v xs y)

-- the wires of variables that the first may assign come from it, all others from the second
abbrev pub wires_of_both : Stmt → (ℕ → ℕ) → (ℕ → ℕ) → ℕ → ℕ
wires_of_both p a b x = cond (writes p x) (a x) (b x)

-- the wires of the listed variables come from the first, all others from the second
abbrev pub wires_by : List ℕ → (ℕ → ℕ) → (ℕ → ℕ) → ℕ → ℕ
wires_by xs a b x = cond (has xs x) (a x) (b x)

-- Two alternatives, which may assign these variables: both are given the same wires, and at most one of them
-- ticks, the second where `other` is on.
abbrev pub alternatives : List ℕ → List ℕ → ℕ → ℕ → ℕ → (ℕ → List Sets) → (ℕ → List Sets) →
    List Equation → Copy → Copy → Copy
alternatives xs ys other n live s t own a b =
    record (behind n live s t (own ++
    joins other b.next a.variables b.variables (both_write xs ys)) a b) {
      variables = join_wires b.next (wires_by ys b.variables a.variables) (both_write xs ys);
      next = b.next + length (both_write xs ys);
    }

-- the wire of an emission's value
abbrev pub emitted_value : Option Expression → Wires → Formula
emitted_value None v = Const (pos 0)
emitted_value (Some e) v = Value e v

-- The emissions of a local signal, as they come: the wires of whether some was on so far and of their
-- combination.
pub record Folded : Type 0 where
  pub equations : List Equation
  pub some : ℕ
  pub value : ℕ

abbrev pub fold_step : SignalInfo → ℕ → ℕ → ℕ → Emits → Folded → Folded
fold_step info n some value e rest = record rest {
  equations =
      record { wire = n; formula = Combine info some value e.value }
      ∷ record { wire = n + 1; formula = Choose e.condition n value }
      ∷ record { wire = n + 2; formula = Or some e.condition }
      ∷ rest.equations;
}

abbrev pub fold_emits : SignalInfo → ℕ → ℕ → ℕ → ℕ → List Emits → Folded
fold_emits info s n some value [] = record { equations = []; some = some; value = value }
fold_emits info s n some value (e ∷ es) =
    cond (e.signal == s)
    (fold_step info n some value e (fold_emits info s (n + 3) (n + 2) (n + 1) es))
    (fold_emits info s n some value es)

abbrev pub emits_without : ℕ → List Emits → List Emits
emits_without s [] = []
emits_without s (e ∷ es) = cond (e.signal == s) (emits_without s es) (e ∷ emits_without s es)

-- how many registers a local signal has
abbrev pub own_registers : Tables → ℕ → ℕ
own_registers tables s = length (value_kinds (signal_at tables s).kind)

-- the signal has these wires
abbrev pub with_signal : ℕ → ℕ → ℕ → Wires → Wires
with_signal s b v w = record w { present = put_at w.present s b; value = put_at w.value s v }

-- around the block of a local signal: wires n and n + 1 are its presence and value
abbrev pub local_context : Tables → ℕ → Context → Context
local_context tables s c =
    record c {
      wires = with_signal s c.next (c.next + 1) c.wires;
      register = c.register + own_registers tables s;
      next = c.next + 6;
    }

-- the emissions of a pure signal, which are 0, are combined as truth values
abbrev pub combined_as : Option Kind → SignalInfo → SignalInfo
combined_as None info = record info { combine = combine.Or }
combined_as (Some k) info = info

abbrev pub fold_info : Tables → ℕ → SignalInfo
fold_info tables s = combined_as (signal_at tables s).kind (signal_at tables s)

-- a local signal, of whose last value this is the formula
abbrev pub local_copy : Tables → ℕ → Formula → Context → Copy → Copy
local_copy tables s last c a =
    let n = c.next in
    let folded = fold_emits (fold_info tables s) s a.next 0 (n + 2) a.emits in
    record a {
      equations =
          record { wire = n; formula = Same folded.some }
          ∷ record { wire = n + 1; formula = Same folded.value }
          ∷ record { wire = n + 2; formula = last }
          ∷ record { wire = n + 3; formula = IsStatus a.status paused_code }
          ∷ record { wire = n + 4; formula = And c.keep (n + 3) }
          ∷ record { wire = n + 5; formula = And c.keep c.hold }
          ∷ (folded.equations ++ a.equations);
      emits = emits_without s a.emits;
      sets =
          joined (below (c.register + own_registers tables s) (λ k. record {
            condition = n + 4;
            value = n + 1;
          } ∷ record { condition = n + 5; value = n + 2 } ∷
          [])) (from (c.register + own_registers tables s) a.sets);
      next = a.next + length folded.equations;
    }

-- Two branches beside each other. Wire n is what they keep.
abbrev pub branch_context : Context → Context
branch_context c = record c { keep = c.next; next = c.next + 5 }

abbrev pub second_branch : Tables → Stmt → Context → Copy → Context
second_branch tables p c a =
    record (branch_context c) { register = c.register + registers tables p; next = a.next }

abbrev pub beside : Tables → Stmt → ℕ → List Equation → Context → Copy → Copy → Copy
beside tables p live own c a b =
    let n = c.next in
    let m = c.register + registers tables p in
    record {
      equations =
          record { wire = n; formula = And c.keep (n + 2) }
          ∷ record { wire = n + 1; formula = IsStatus (n + 3) paused_code }
          ∷ record { wire = n + 2; formula = Or c.hold (n + 1) }
          ∷ record { wire = n + 3; formula = Greater a.status b.status }
          ∷ (own ++ (a.equations ++ b.equations));
      status = n + 3;
      live = live;
      emits = a.emits ++ b.emits;
      variables = wires_of_both p a.variables b.variables;
      sets = joined (below m a.sets) (from m b.sets);
      next = b.next;
    }

abbrev pub of_trap_copy : Context → Copy → Copy
of_trap_copy c a =
    record a {
      equations = record { wire = c.next; formula = OfTrap a.status } ∷
          a.equations;
      status = c.next;
    }

-- A weak abort that looks at its test. Wire n is what its body keeps.
abbrev pub weak_context : Context → Context
weak_context c = record c { keep = c.next; next = c.next + 5 }

abbrev pub weak_copy : Test → Context → Copy → Copy
weak_copy t c a =
    let n = c.next in
    record a {
      equations =
          record { wire = n; formula = And c.keep (n + 2) }
          ∷ record { wire = n + 1; formula = Holds t c.wires }
          ∷ record { wire = n + 2; formula = Or c.hold (n + 4) }
          ∷ record { wire = n + 3; formula = OfWeakAbort (n + 1) a.status }
          ∷ record { wire = n + 4; formula = IsStatus (n + 3) paused_code }
          ∷ a.equations;
      status = n + 3;
    }

-- A strong abort or a suspend that looks at its test: its body ticks where the test doesn't hold.
abbrev pub tested_context : Context → Context
tested_context c = record c { go = c.next + 1; next = c.next + 7 }

-- where the test holds and `live` is on, the whole has this code
abbrev pub tested_copy : Test → ℕ → ℕ → Context → Copy → Copy
tested_copy t live code c a =
    let n = c.next in
    record a {
      equations =
          record { wire = n; formula = Holds t c.wires }
          ∷ record { wire = n + 1; formula = AndNot c.go n }
          ∷ record { wire = n + 2; formula = And c.go n }
          ∷ record { wire = n + 3; formula = And (n + 2) live }
          ∷ record { wire = n + 4; formula = Choose (n + 3) (n + 6) a.status }
          ∷ record { wire = n + 5; formula = Or c.hold (n + 3) }
          ∷ record { wire = n + 6; formula = StatusOf code }
          ∷ a.equations;
      status = n + 4;
    }

-- it ticks with this code where `go` is on
abbrev pub plain_copy : ℕ → Context → Copy
plain_copy code c =
    record {
      equations = record { wire = c.next; formula = Status c.go code } ∷
          [];
      status = c.next;
      live = 0;
      emits = [];
      variables = c.wires.variables;
      sets = none;
      next = c.next + 1;
    }

-- the second part starts where the first, of this status, has ended; nothing is built where it can't end
abbrev pub starting_if : Bool → Copy → Context → Copy
starting_if true a c = a
starting_if false a c = nothing_built c

-- the context of a second part behind a copy
abbrev pub next_context : ℕ → ℕ → Copy → Context → Context
next_context go register a c =
    record c {
      go = go;
      register = register;
      wires = record (c.wires) { variables = a.variables };
      next = a.next;
    }

-- the context of a second alternative, whose first is this copy
abbrev pub other_context : ℕ → ℕ → Copy → Context → Context
other_context go register a c = record c { go = go; register = register; next = a.next }

-- the context of a starting copy behind a copy
abbrev pub start_context : ℕ → ℕ → Copy → Context → Context
start_context go register a c = record (next_context go register a c) { hold = 0 }

abbrev pub part_context : ℕ → ℕ → Context → Context
part_context go k c = record c { go = go; next = c.next + k }

abbrev pub choice_own : Formula → Context → List Equation
choice_own condition c =
    record { wire = c.next + 2; formula = condition }
    ∷ record { wire = c.next + 3; formula = And c.go (c.next + 2) }
    ∷ record { wire = c.next + 4; formula = AndNot c.go (c.next + 2) }
    ∷ []

-- the wire that tells that one of two copies is live
abbrev pub live_own : ℕ → Copy → Copy → List Equation
live_own k a b = record { wire = k; formula = Or a.live b.live } ∷ []

-- the wire that tells that a copy has ended
abbrev pub turn_own : ℕ → Copy → List Equation
turn_own k a = record { wire = k; formula = IsStatus a.status ended_code } ∷ []
