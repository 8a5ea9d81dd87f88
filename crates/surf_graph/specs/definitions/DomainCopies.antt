-- The equations of a domain's tick: what is read of the frame, a copy of the domain's statement, the statuses of its
-- interface signals by the copy's emissions, and its next registers. Wire 0 is 0 and wire 1 is 1.
use Rattle.std.specs.Prelude.{ℕ, suc, ◌+◌, ◌*◌, ◌==◌, pos, Bool, ◌&&◌, cond, List, [], ◌∷◌, ◌++◌, length, map, Option, Some, None}
use Rattle.java_values.specs.declared.kind.Kind.{Kind}
use Rattle.kernel_terms.specs.declared.tables.Tables.{Tables}
use Rattle.kernel_terms.specs.declared.tables.SignalInfo.{SignalInfo}
use Rattle.kernel_terms.specs.TableEntries.{signal_at, is_input, is_interface_of, numbers_where, interface_of, valued_of, variables_of, received_by}
use Rattle.kernel_terms.specs.Statements.{Stmt}
use Rattle.kernel_rules.specs.definitions.TickRule.{paused_code}
use Rattle.kernel_rules.specs.definitions.Registers.{statement_registers, domain_registers, first_variable, first_value, first_last}
use Rattle.surf_graph.specs.definitions.Formulas.{Wires, Formula, Const, Get, Same, Or, Choose, Zero, IsStatus, Equation}
use Rattle.surf_graph.specs.definitions.Copies.{Context, Emits, Sets, Copy, Folded, fold_emits}

-- how many entries of a list stand before this one
abbrev pub place_in : List ℕ → ℕ → ℕ
place_in [] k = 0
place_in (i ∷ is) k = cond (i == k) 0 (suc (place_in is k))

-- wires from n on, one for each entry of a list; any other number has wire 0
abbrev pub wire_for : List ℕ → ℕ → ℕ → ℕ
wire_for [] n k = 0
wire_for (i ∷ is) n k = cond (i == k) n (wire_for is (suc n) k)

-- wires from n on that are the places of the frame from k on, one for each entry of a list
abbrev pub places_read : List ℕ → ℕ → ℕ → List Equation
places_read [] n k = []
places_read (i ∷ is) n k = record { wire = n; formula = Get k } ∷ places_read is (suc n) (suc k)

-- The frame: the registers, and then for each input its presence and its value.

abbrev pub is_input_of : ℕ → SignalInfo → Bool
is_input_of d info = is_interface_of d info && is_input info.sort

abbrev pub inputs_of : Tables → ℕ → List ℕ
inputs_of tables d = numbers_where (is_input_of d) 0 tables.signals

-- of an input's presence; its value is at the next one
abbrev pub input_place : Tables → ℕ → Stmt → ℕ → ℕ
input_place tables d p s =
    length (domain_registers tables d p) + 2 * place_in (inputs_of tables d) s

-- the last value of an interface signal; a pure one has 0
abbrev pub value_before : Tables → ℕ → Stmt → ℕ → Option Kind → Formula
value_before tables d p s None = Const (pos 0)
value_before tables d p s (Some k) =
    Get (first_value tables d p + place_in (valued_of tables d) s)

-- The wires that come first: variables, last values of channels, and of interface signals presence, value and
-- value before.

abbrev pub first_channel_wire : Tables → ℕ → ℕ
first_channel_wire tables d = 2 + length (variables_of tables d)

abbrev pub first_presence_wire : Tables → ℕ → ℕ
first_presence_wire tables d = first_channel_wire tables d + length (received_by tables d)

abbrev pub first_value_wire : Tables → ℕ → ℕ
first_value_wire tables d = first_presence_wire tables d + length (interface_of tables d)

abbrev pub first_wire_before : Tables → ℕ → ℕ
first_wire_before tables d = first_value_wire tables d + length (interface_of tables d)

abbrev pub first_copy_wire : Tables → ℕ → ℕ
first_copy_wire tables d = first_wire_before tables d + length (interface_of tables d)

abbrev pub domain_wires : Tables → ℕ → Wires
domain_wires tables d = record {
  variables = wire_for (variables_of tables d) 2;
  present = wire_for (interface_of tables d) (first_presence_wire tables d);
  value = wire_for (interface_of tables d) (first_value_wire tables d);
  last = wire_for (received_by tables d) (first_channel_wire tables d);
}

-- what the copy of a domain's statement is given: it ticks, nothing holds it, and what it leaves is kept
abbrev pub domain_context : Tables → ℕ → Context
domain_context tables d = record {
  go = 1;
  hold = 0;
  keep = 1;
  wires = domain_wires tables d;
  register = 0;
  next = first_copy_wire tables d;
}

-- The emissions of a pure signal: whether some was on so far, by wires from n on.
abbrev pub fold_conditions : ℕ → ℕ → ℕ → List Emits → Folded
fold_conditions s n some [] = record { equations = []; some = some; value = 0 }
fold_conditions s n some (e ∷ es) =
    cond (e.signal == s)
    (record (fold_conditions s (n + 1) n es) {
      equations = record { wire = n; formula = Or some e.condition } ∷
          (fold_conditions s (n + 1) n es).equations;
    })
    (fold_conditions s n some es)

abbrev pub folded_as : SignalInfo → Option Kind → ℕ → ℕ → ℕ → List Emits → Folded
folded_as info None s n before es = fold_conditions s n 0 es
folded_as info (Some k) s n before es = fold_emits info s n 0 before es

abbrev pub folded_status : Tables → ℕ → ℕ → ℕ → List Emits → Folded
folded_status tables s n before es =
    folded_as (signal_at tables s) (signal_at tables s).kind s n before es

-- an output, by the emissions; wires b, v and k are its presence, its value and its value before
abbrev pub emitted_equations : Tables → ℕ → Stmt → ℕ → ℕ → ℕ → ℕ → Folded → List Equation
emitted_equations tables d p s b v k folded =
    record { wire = b; formula = Same folded.some }
    ∷ record { wire = v; formula = Same folded.value }
    ∷ record { wire = k; formula = value_before tables d p s (signal_at tables s).kind }
    ∷ folded.equations

-- an input, by the frame
abbrev pub handed_equations : Tables → ℕ → Stmt → ℕ → ℕ → ℕ → List Equation
handed_equations tables d p s b v =
    record { wire = b; formula = Get (input_place tables d p s) }
    ∷ record { wire = v; formula = Get (suc (input_place tables d p s)) } ∷ []

abbrev pub status_equations : Tables → ℕ → Stmt → ℕ → ℕ → ℕ → ℕ → ℕ → List Emits → List Equation
status_equations tables d p s b v k n es =
    cond (is_input (signal_at tables s).sort)
    (handed_equations tables d p s b v)
    (emitted_equations tables d p s b v k (folded_status tables s n k es))

-- of each of these signals, with folds by wires from n on
abbrev pub all_statuses : Tables → ℕ → Stmt → List ℕ → ℕ → ℕ → ℕ → ℕ → List Emits → List Equation
all_statuses tables d p [] b v k n es = []
all_statuses tables d p (s ∷ ss) b v k n es =
    status_equations tables d p s b v k n es
    ++ all_statuses tables d p ss (suc b) (suc v) (suc k)
    (n + length (folded_status tables s n k es).equations) es

-- wire n is what these sets give to a register of the kind
abbrev pub set_equations : Kind → ℕ → List Sets → List Equation
set_equations k n [] = record { wire = n; formula = Zero k } ∷ []
set_equations k n (s ∷ ss) =
    record { wire = n; formula = Choose s.condition s.value (suc n) } ∷ set_equations k (suc n) ss

-- the registers from r on, of these kinds, by wires from n on
abbrev pub register_equations : List Kind → ℕ → ℕ → (ℕ → List Sets) → List Equation
register_equations [] r n sets = []
register_equations (k ∷ ks) r n sets =
    set_equations k n (sets r) ++
    register_equations ks (suc r) (suc n + length (sets r)) sets

abbrev pub register_wires : List Kind → ℕ → ℕ → (ℕ → List Sets) → List ℕ
register_wires [] r n sets = []
register_wires (k ∷ ks) r n sets =
    n ∷ register_wires ks (suc r) (suc n + length (sets r)) sets

-- A domain's equations, the wires of what its expressions read, those of its next registers, and whether it
-- pauses.
pub record DomainCopy : Type 0 where
  pub equations : List Equation
  pub wires : Wires
  pub next : List ℕ
  pub paused : ℕ

-- by a copy of its statement
abbrev pub domain_of_copy : Tables → ℕ → Stmt → Copy → DomainCopy
domain_of_copy tables d p a =
    let kinds = statement_registers tables p in
    let statuses = all_statuses tables d p (interface_of tables d) (first_presence_wire tables d)
    (first_value_wire tables d) (first_wire_before tables d) (suc a.next) a.emits in
    let m = suc a.next + length statuses in
    record {
      equations =
          record { wire = 0; formula = Const (pos 0) }
          ∷ record { wire = 1; formula = Const (pos 1) }
          ∷ record { wire = a.next; formula = IsStatus a.status paused_code }
          ∷ (places_read (variables_of tables d) 2 (first_variable tables p)
          ++ (places_read (received_by tables d) (first_channel_wire tables d) (first_last tables d p)
          ++ (a.equations ++ (statuses ++ register_equations kinds 0 m a.sets))));
      wires = domain_wires tables d;
      next =
          register_wires kinds 0 m a.sets
          ++ (map a.variables (variables_of tables d)
          ++ (map (domain_wires tables d).value (valued_of tables d)
          ++ map (domain_wires tables d).last (received_by tables d)));
      paused = a.next;
    }
