-- What the wires that a layout names tell, by those of the domain under their first numbers.
use Rattle.std.proofs.Common.{◌≡◌, ℕ, ℤ, pos, Bool, List, [], ◌∷◌, Option, length, map, get_or, refl, sym, ap, ap₂, ◌∙◌, subst}
use Rattle.std.proofs.Math.Path.{fun_ext}
use Rattle.std.proofs.lemmas.List.{length-map}
use Rattle.kernel_terms.specs.declared.tables.Tables.{Tables}
use Rattle.kernel_terms.specs.TableEntries.{interface_of}
use Rattle.kernel_terms.specs.Statements.{Stmt}
use Rattle.kernel_rules.specs.definitions.Signals.{shown}
use Rattle.kernel_rules.specs.definitions.LegalTick.{Inputs, shown_statuses}
use Rattle.tick_code.specs.Counters.{AreNumbered}
use Rattle.tick_code.specs.declared.layout.Layout.{Layout}
use Rattle.wire_code.proofs.NumberingLemmas.{says_no_more}
use Rattle.wire_code.specs.Formulas.{Satisfies as Meets}
use Rattle.wire_code.specs.declared.equation.Equation.{Equation as Operation}
use Rattle.surf_graph.specs.definitions.DomainCopies.{DomainCopy}
use Rattle.surf_graph.specs.definitions.DomainTells.{TellsTick, DomainTells, LayoutTells, HasLayout, registers_told, statuses_told}
use Rattle.surf_graph.specs.definitions.Formulas.{is_on, told_env}

statuses_of : (w : ℕ → ℤ) (p v : ℕ → ℕ) (ss : List ℕ) → statuses_told w (map p ss) (map v ss) ≡ map (λ s. shown (record { present = is_on w (p s); value = w (v s) })) ss
statuses_of w p v [] = refl
statuses_of w p v (s ∷ ss) = ap (λ l. shown (record { present = is_on w (p s); value = w (v s) }) ∷ l) (statuses_of w p v ss)

numbers_of : (w : ℕ → ℤ) (r : ℕ → ℕ) (ks : List ℕ) → map w (map r ks) ≡ map (λ k. w (r k)) ks
numbers_of w r [] = refl
numbers_of w r (k ∷ ks) = ap (λ l. w (r k) ∷ l) (numbers_of w r ks)

-- a tick told by the same statuses, mark and registers
same_tick : (tables : Tables) (inputs : Inputs) (d ticks : ℕ) (p t : Stmt) (f : ℕ → ℤ) (row other : List (Option ℤ)) (a b : Bool) (x y : ℕ → ℤ) → row ≡ other → a ≡ b → x ≡ y
    → TellsTick tables inputs d ticks p t f row a x → TellsTick tables inputs d ticks p t f other b y
same_tick tables inputs d ticks p t f row other a b x y rows marks registers h =
    subst (λ (z : ℕ → ℤ). TellsTick tables inputs d ticks p t f other b z) registers
    (subst (λ (z : Bool). TellsTick tables inputs d ticks p t f other z x) marks
    (subst (λ (z : List (Option ℤ)). TellsTick tables inputs d ticks p t f z a x) rows h))

-- the wires of the layout tell what those of the domain do
pub told_by_layout : (tables : Tables) (inputs : Inputs) (d ticks : ℕ) (p t : Stmt) (f w : ℕ → ℤ) (r : ℕ → ℕ) (c : DomainCopy) (l : Layout) → HasLayout tables d r c l
    → DomainTells tables inputs d ticks p t f (λ k. w (r k)) c → LayoutTells tables inputs d ticks p t f w l
told_by_layout tables inputs d ticks p t f w r c l has tells =
    let old : ℕ → ℤ = λ k. w (r k) in
    let rows : shown_statuses tables d (told_env old c.wires) ≡ statuses_told w l.present.items l.value.items =
    sym (statuses_of w (λ s. r (c.wires.present s)) (λ s. r (c.wires.value s)) (interface_of tables d))
    ∙ sym (ap₂ (statuses_told w) has.present has.value) in
    let registers : registers_told old c.next ≡ registers_told w l.next.items =
    fun_ext (λ k. ap (λ ks. get_or ks k (pos 0)) (sym (numbers_of w r c.next) ∙ sym (ap (map w) has.next))) in
    record {
      tick =
          same_tick tables inputs d ticks p t f (shown_statuses tables d (told_env old c.wires)) (statuses_told w l.present.items l.value.items) (is_on old c.paused) (is_on w l.paused) (registers_told old c.next)
          (registers_told w l.next.items) rows (sym (ap (is_on w) has.paused)) registers tells.tick;
      count = ap length has.next ∙ length-map c.next r ∙ tells.count;
    }

-- a solution of a numbered code is one of its equations
pub first_numbers : (r : ℕ → ℕ) (f w : ℕ → ℤ) (ops code : List Operation) → AreNumbered r ops code → Meets f w code → Meets f (λ k. w (r k)) ops
first_numbers r f w ops code are h = says_no_more r f w ops (subst (Meets f w) are.equations h)
