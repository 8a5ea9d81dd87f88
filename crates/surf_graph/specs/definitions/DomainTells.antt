-- What the wires of a domain tell of its tick.
use Rattle.std.specs.Prelude.{◌≡◌, ℕ, suc, ℤ, pos, Bool, true, cond, List, [], ◌∷◌, length, map, None, Option, get_or, is_some, unwrap_or}
use Rattle.java_values.specs.Arithmetic.{of_bool}
use Rattle.kernel_terms.specs.declared.tables.Tables.{Tables}
use Rattle.kernel_terms.specs.Marks.{Going, Ended}
use Rattle.kernel_terms.specs.Statements.{Stmt}
use Rattle.kernel_terms.specs.TableEntries.{signal_at}
use Rattle.kernel_terms.specs.TableEntries.{interface_of}
use Rattle.kernel_rules.specs.definitions.Signals.{shown}
use Rattle.kernel_rules.specs.definitions.LegalTick.{DomainState, Inputs, IsLegalTick, shown_statuses}
use Rattle.kernel_rules.specs.definitions.Registers.{domain_registers, variables_held, values_held, last_held}
use Rattle.surf_graph.specs.definitions.Formulas.{is_on, told_env}
use Rattle.tick_code.specs.declared.layout.Layout.{Layout}
use Rattle.surf_graph.specs.definitions.Tells.{Stands}
use Rattle.surf_graph.specs.definitions.DomainCopies.{DomainCopy, is_input_of, input_place}

-- The frame has what is handed in: of each input its presence and its value, which is the one before where it is absent.
-- A pure input is handed in with the value 0.
pub record HandsIn (tables : Tables) (d : ℕ) (p : Stmt) (handed : ℕ → Option ℤ) (f : ℕ → ℤ) : Type 0
  where
    pub present : (s : ℕ) → is_input_of d (signal_at tables s) ≡ true →
        f (input_place tables d p s) ≡ of_bool (is_some (handed s))
    pub value : (s : ℕ) → is_input_of d (signal_at tables s) ≡ true →
        f (suc (input_place tables d p s)) ≡ unwrap_or (handed s) (values_held tables d p f s)
    pub pure : (s : ℕ) → is_input_of d (signal_at tables s) ≡ true →
        (signal_at tables s).kind ≡ None → unwrap_or (handed s) (pos 0) ≡ pos 0

-- the state of a domain that goes on with this statement after so many ticks, by its registers
abbrev pub state_read : Tables → ℕ → Stmt → Stmt → ℕ → (ℕ → ℤ) → DomainState
state_read tables d p t ticks f = record {
  statement = t;
  variables = variables_held tables d p f;
  values = values_held tables d p f;
  last = last_held tables d p f;
  ticks = ticks;
  mark = Going;
}

-- the values of the wires of a list; past its end there is 0
abbrev pub registers_told : (ℕ → ℤ) → List ℕ → ℕ → ℤ
registers_told w wires k = get_or (map w wires) k (pos 0)

-- These statuses are those of a legal tick of t. The next registers stand for the state behind it, and, where the domain
-- pauses, for its statement.
pub record TellsTick (tables : Tables) (inputs : Inputs) (d ticks : ℕ) (p t : Stmt) (f : ℕ → ℤ)
    (statuses : List (Option ℤ)) (pauses : Bool) (next : ℕ → ℤ) : Type 0 where
  pub after : DomainState
  pub legal : IsLegalTick tables inputs d (state_read tables d p t ticks f) statuses after
  pub mark : after.mark ≡ cond pauses Going Ended
  pub variables : variables_held tables d p next ≡ after.variables
  pub values : values_held tables d p next ≡ after.values
  pub last : last_held tables d p next ≡ after.last
  pub stands : pauses ≡ true → Stands tables p 0 next after.statement

-- The wires tell a legal tick of t, and each register has a next one.
pub record DomainTells (tables : Tables) (inputs : Inputs) (d ticks : ℕ) (p t : Stmt) (f w : ℕ → ℤ)
    (c : DomainCopy) : Type 0 where
  pub tick : TellsTick tables inputs d ticks p t f (shown_statuses tables d (told_env w c.wires))
      (is_on w c.paused) (registers_told w c.next)
  pub count : length c.next ≡ length (domain_registers tables d p)

-- the statuses that wires of presence and of values tell
abbrev pub statuses_told : (ℕ → ℤ) → List ℕ → List ℕ → List (Option ℤ)
statuses_told w [] vs = []
statuses_told w (p ∷ ps) [] = []
statuses_told w (p ∷ ps) (v ∷ vs) =
    shown (record { present = is_on w p; value = w v }) ∷ statuses_told w ps vs

-- So do the wires that a layout names.
pub record LayoutTells (tables : Tables) (inputs : Inputs) (d ticks : ℕ) (p t : Stmt) (f w : ℕ → ℤ)
    (l : Layout) : Type 0 where
  pub tick : TellsTick tables inputs d ticks p t f
      (statuses_told w l.present.items l.value.items) (is_on w l.paused)
      (registers_told w l.next.items)
  pub count : length l.next.items ≡ length (domain_registers tables d p)

-- The layout has the wires of a domain under their new numbers.
pub record HasLayout (tables : Tables) (d : ℕ) (renamed : ℕ → ℕ) (c : DomainCopy) (l : Layout) : Type 0
  where
    pub present : l.present.items ≡ map (λ s. renamed (c.wires.present s)) (interface_of tables d)
    pub value : l.value.items ≡ map (λ s. renamed (c.wires.value s)) (interface_of tables d)
    pub next : l.next.items ≡ map renamed c.next
    pub paused : l.paused ≡ renamed c.paused
