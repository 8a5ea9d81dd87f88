-- The only log of a domain, by computation.
use Rattle.std.proofs.Common.{◌≡◌, ℕ, suc, ℤ, Bool, true, false, cond, List, [], ◌∷◌, length, map, Option, refl, sym, ap, ap₂, ◌∙◌, subst, arith}
use Rattle.std.proofs.Math.Path.{fun_ext}
use Rattle.std.specs.List.{list_all}
use Rattle.kernel_terms.specs.declared.tables.Tables.{Tables}
use Rattle.kernel_terms.specs.TableEntries.{signal_at, is_interface_of, interface_of}
use Rattle.kernel_terms.specs.Marks.{Mark}
use Rattle.kernel_terms.specs.Statements.{Stmt}
use Rattle.kernel_rules.specs.definitions.Signals.{Emission, Env, Status, shown}
use Rattle.kernel_rules.specs.definitions.TickRule.{Tick, Ticks}
use Rattle.kernel_rules.specs.definitions.LegalTick.{DomainState, Inputs, IsLegalTick, IsCoherent, status_in, values_after, mark_after}
use Rattle.kernel_rules.specs.Rows.{MakesTicks, Logs, at_start}
use Rattle.kernel_rules.specs.ShownTicks.{OnlyLogs}
use Rattle.kernel_rules.proofs.BooleanLemmas.{left_of, right_of}
use Rattle.kernel_rules.proofs.TickTrials.{Trial, trial}
use Rattle.kernel_rules.proofs.OneTickLemmas.{is_plain, Sole, plain_sole, sole}
use Rattle.kernel_rules.proofs.RowLemmas.{Given, trial_of}

-- the status that a tick with these emissions gives to a signal
abbrev status_of : Tables → Inputs → DomainState → Tick → ℕ → Status
status_of tables inputs old t s = status_in tables (λ k. inputs k (suc old.ticks)) old.values t.emits s

abbrev row_of : Tables → Inputs → DomainState → Tick → List (Option ℤ)
row_of tables inputs old t = map (λ s. shown (status_of tables inputs old t s)) (interface_of tables 0)

abbrev values_of_tick : Tables → Inputs → DomainState → Tick → ℕ → ℤ
values_of_tick tables inputs old t s = cond (is_interface_of 0 (signal_at tables s)) (status_of tables inputs old t s).value (old.values s)

abbrev next_of : Tables → Inputs → DomainState → Tick → DomainState
next_of tables inputs old t =
    record { statement = t.rest; variables = t.variables; values = values_of_tick tables inputs old t; last = old.last; ticks = suc old.ticks; mark = mark_after t.code }

same_value : (b : Bool) (y z : Status) (v : ℤ) → (b ≡ true → y ≡ z) → cond b y.value v ≡ cond b z.value v
same_value true y z v h = ap (λ (s : Status). s.value) (h refl)
same_value false y z v h = refl

same_shown :
    (is : ℕ → Bool) (y z : ℕ → Status) (l : List ℕ) → list_all is l ≡ true → ((s : ℕ) → is s ≡ true → y s ≡ z s)
    → map (λ s. shown (y s)) l ≡ map (λ s. shown (z s)) l
same_shown is y z [] h e = refl
same_shown is y z (s ∷ l) h e =
    ap₂ (λ a b. a ∷ b) (ap shown (e s (left_of (is s) (list_all is l) h))) (same_shown is y z l (right_of (is s) (list_all is l) h) e)

-- the trial in an environment of which only coherence is known
abbrev pub tried_in : Tables → DomainState → Env → Trial
tried_in tables old env = trial tables old.last old.statement env old.variables []

-- each coherent environment gives this tick
abbrev pub Certain : Tables → Inputs → DomainState → Tick → Type 0
Certain tables inputs old t =
    (env : Env) → IsCoherent tables 0 (λ k. inputs k (suc old.ticks)) old.values env (tried_in tables old env).tick.emits → (tried_in tables old env).tick ≡ t

-- a tick under a coherent environment is this one
abbrev pub Known : Tables → Inputs → DomainState → Tick → Type 0
Known tables inputs old t =
    (env : Env) (o : Tick) → IsCoherent tables 0 (λ k. inputs k (suc old.ticks)) old.values env o.emits
    → Ticks tables old.last old.statement env old.variables o → o ≡ t

plain_known : (tables : Tables) (inputs : Inputs) (old : DomainState) (t : Tick) → is_plain old.statement ≡ true → Certain tables inputs old t → Known tables inputs old t
plain_known tables inputs old t plain certain env o coherent ticks =
    let e = sole tables old.last old.statement env old.variables [] o (plain_sole tables old.last old.statement env old.variables [] plain) ticks in
    e ∙ certain env (subst (λ (z : Tick). IsCoherent tables 0 (λ k. inputs k (suc old.ticks)) old.values env z.emits) e coherent)

-- with local signals, whose statuses are these
pub local_known :
    (tables : Tables) (inputs : Inputs) (old : DomainState) (g : Given)
    → ((env : Env) (m : List Emission) → IsCoherent tables 0 (λ k. inputs k (suc old.ticks)) old.values env m
    → Sole tables old.last old.statement env old.variables g.local × ((trial tables old.last old.statement env old.variables g.local).tick ≡ (trial_of tables old g).tick))
    → Known tables inputs old (trial_of tables old g).tick
local_known tables inputs old g certain env o coherent ticks =
    let c = certain env o.emits coherent in
    sole tables old.last old.statement env old.variables g.local o c.0 ticks ∙ c.1

legal_is :
    (tables : Tables) (inputs : Inputs) (old : DomainState) (t : Tick) (row : List (Option ℤ)) (new : DomainState)
    → list_all (λ s. is_interface_of 0 (signal_at tables s)) (interface_of tables 0) ≡ true
    → Known tables inputs old t
    → IsLegalTick tables inputs 0 old row new → (row ≡ row_of tables inputs old t) × (new ≡ next_of tables inputs old t)
legal_is tables inputs old t row new ours known h =
    let handed = λ (k : ℕ). inputs k (suc old.ticks) in
    let f : h.tick ≡ t = known h.env h.tick h.coherent h.ticks in
    let statuses : IsCoherent tables 0 handed old.values h.env t.emits = subst (λ (z : Tick). IsCoherent tables 0 handed old.values h.env z.emits) f h.coherent in
    let values : values_after tables 0 h.env old.values ≡ values_of_tick tables inputs old t =
    fun_ext (λ s. same_value (is_interface_of 0 (signal_at tables s)) (h.env s) (status_of tables inputs old t s) (old.values s) (statuses s)) in (
      h.shows ∙ same_shown (λ s. is_interface_of 0 (signal_at tables s)) h.env (status_of tables inputs old t) (interface_of tables 0) ours statuses,
      h.next ∙ (λ i. record { statement = (f i).rest; variables = (f i).variables; values = values i; last = old.last; ticks = suc old.ticks; mark = mark_after (f i).code }),
    )

-- the ticks in turn
abbrev pub AllCertain : Tables → Inputs → DomainState → List Given → Type 0
AllCertain tables inputs old [] = Unit {0}
AllCertain tables inputs old (g ∷ gs) =
    (is_plain old.statement ≡ true) × Certain tables inputs old (trial_of tables old g).tick
    × AllCertain tables inputs (next_of tables inputs old (trial_of tables old g).tick) gs

abbrev pub AllKnown : Tables → Inputs → DomainState → List Given → Type 0
AllKnown tables inputs old [] = Unit {0}
AllKnown tables inputs old (g ∷ gs) =
    Known tables inputs old (trial_of tables old g).tick × AllKnown tables inputs (next_of tables inputs old (trial_of tables old g).tick) gs

all_known : (tables : Tables) (inputs : Inputs) (old : DomainState) (gs : List Given) → AllCertain tables inputs old gs → AllKnown tables inputs old gs
all_known tables inputs old [] c = tt
all_known tables inputs old (g ∷ gs) c =
    let t = (trial_of tables old g).tick in
    (plain_known tables inputs old t c.0 c.1, all_known tables inputs (next_of tables inputs old t) gs c.2)

abbrev pub last_state : Tables → Inputs → DomainState → List Given → DomainState
last_state tables inputs old [] = old
last_state tables inputs old (g ∷ gs) = last_state tables inputs (next_of tables inputs old (trial_of tables old g).tick) gs

abbrev pub only_rows : Tables → Inputs → DomainState → List Given → List (List (Option ℤ))
only_rows tables inputs old [] = []
only_rows tables inputs old (g ∷ gs) = row_of tables inputs old (trial_of tables old g).tick ∷ only_rows tables inputs (next_of tables inputs old (trial_of tables old g).tick) gs

makes_only :
    (tables : Tables) (inputs : Inputs) (old : DomainState) (gs : List Given) (rows : List (List (Option ℤ))) (new : DomainState)
    → list_all (λ s. is_interface_of 0 (signal_at tables s)) (interface_of tables 0) ≡ true
    → AllKnown tables inputs old gs → length rows ≡ length gs → MakesTicks tables inputs old rows new
    → (rows ≡ only_rows tables inputs old gs) × (new ≡ last_state tables inputs old gs)
makes_only tables inputs old [] [] new ours c l h = (refl, sym h)
makes_only tables inputs old [] (row ∷ rows) new ours c l h = absurd (let e : ⊥ = omega arith in e)
makes_only tables inputs old (g ∷ gs) [] new ours c l h = absurd (let e : ⊥ = omega arith in e)
makes_only tables inputs old (g ∷ gs) (row ∷ rows) new ours c l h =
    let t = (trial_of tables old g).tick in
    let one = legal_is tables inputs old t row h.0 ours c.0 h.1 in
    let fewer : length rows ≡ length gs = omega arith in
    let later = makes_only tables inputs (next_of tables inputs old t) gs rows new ours c.1 fewer (subst (λ z. MakesTicks tables inputs z rows new) one.1 h.2) in
    (ap₂ (λ a b. a ∷ b) one.0 later.0, later.1)

pub only_logs_known :
    (tables : Tables) (inputs : Inputs) (p : Stmt) (gs : List Given)
    → list_all (λ s. is_interface_of 0 (signal_at tables s)) (interface_of tables 0) ≡ true
    → (rows : List (List (Option ℤ))) (rest : Stmt) (mark : Mark)
    → rows ≡ only_rows tables inputs (at_start p) gs
    → rest ≡ (last_state tables inputs (at_start p) gs).statement
    → mark ≡ (last_state tables inputs (at_start p) gs).mark
    → length rows ≡ length gs
    → Logs tables inputs p rows rest mark
    → AllKnown tables inputs (at_start p) gs
    → OnlyLogs tables inputs p rows rest mark
only_logs_known tables inputs p gs ours rows rest mark r s m n h c =
    record {
      logs = h;
      alone = λ others q k l o.
          let e = makes_only tables inputs (at_start p) gs others o.state ours c (l ∙ n) o.ticks in
          (e.0 ∙ sym r, sym o.leaves ∙ ap (λ (z : DomainState). z.statement) e.1 ∙ sym s, sym o.stands ∙ ap (λ (z : DomainState). z.mark) e.1 ∙ sym m);
    }

-- of a statement without local signals
pub only_logs :
    (tables : Tables) (inputs : Inputs) (p : Stmt) (gs : List Given)
    → list_all (λ s. is_interface_of 0 (signal_at tables s)) (interface_of tables 0) ≡ true
    → (rows : List (List (Option ℤ))) (rest : Stmt) (mark : Mark)
    → rows ≡ only_rows tables inputs (at_start p) gs
    → rest ≡ (last_state tables inputs (at_start p) gs).statement
    → mark ≡ (last_state tables inputs (at_start p) gs).mark
    → length rows ≡ length gs
    → Logs tables inputs p rows rest mark
    → AllCertain tables inputs (at_start p) gs
    → OnlyLogs tables inputs p rows rest mark
only_logs tables inputs p gs ours rows rest mark r s m n h c = only_logs_known tables inputs p gs ours rows rest mark r s m n h (all_known tables inputs (at_start p) gs c)
