-- A domain's wires tell its tick, by what those of a copy of its statement tell.
use Rattle.std.proofs.Common.{◌≡◌, ℕ, suc, ◌+◌, ◌==◌, ℤ, pos, Bool, true, false, ◌&&◌, ◌||◌, cond, List, [], ◌∷◌, ◌++◌, length, refl, sym, ap, ap₂, ◌∙◌, subst, arith, Option, None, Some}
use Rattle.std.specs.Prelude.{unwrap_or}
use Rattle.std.proofs.lemmas.List.Elements.{All-head}
use Rattle.std.proofs.Math.Path.{fun_ext}
use Rattle.std.proofs.lemmas.Bool.{true≢false, eq-eqb, ne_eqb, eqb-true, eqb-false}
use Rattle.std.proofs.lemmas.Bool.Decides.{nat_tests}
use Rattle.java_values.specs.Arithmetic.{is_true}
use Rattle.java_values.specs.declared.kind.Kind.{Kind}
use Rattle.kernel_terms.specs.declared.tables.Tables.{Tables}
use Rattle.kernel_terms.specs.Marks.{Going, Ended}
use Rattle.kernel_terms.specs.Statements.{Stmt}
use Rattle.kernel_terms.specs.TableEntries.{signal_at, is_input, is_interface_of, interface_of, valued_of, variables_of, received_by}
use Rattle.kernel_rules.specs.definitions.Signals.{Env, Status, Emission, folded, values_of}
use Rattle.kernel_rules.specs.definitions.LegalTick.{Inputs, is_tick_code, mark_after, status_in, input_status, emitted_status, values_after}
use Rattle.kernel_rules.specs.definitions.Registers.{statement_registers, registers, first_variable, first_last, variables_held, values_held, last_held}
use Rattle.kernel_rules.specs.definitions.TickRule.{Tick, Ticks, writes, has_paused, paused_code}
use Rattle.kernel_rules.proofs.TickLocalityLemmas.{keeps_variable}
use Rattle.surf_graph.specs.definitions.Formulas.{Wires, Equation, Satisfies, is_on, told, told_env, to_nat, status_of}
use Rattle.surf_graph.specs.definitions.Copies.{Copy, has}
use Rattle.surf_graph.specs.definitions.Tells.{Active, PureZero, registers_set, emitted}
use Rattle.surf_graph.specs.definitions.DomainCopies.{domain_wires, domain_of_copy, places_read, all_statuses, register_equations, first_channel_wire, first_presence_wire, first_value_wire, first_wire_before}
use Rattle.surf_graph.specs.definitions.DomainTells.{HandsIn, DomainTells, registers_told}
use Rattle.surf_graph.specs.definitions.Formulas as formula
use Rattle.surf_graph.specs.definitions.Spells.{IsSpelled, Spells}
use Rattle.wire_code.specs.Formulas.{Satisfies as Meets}
use Rattle.wire_code.specs.declared.equation.Equation.{Equation as WireEquation}
use Rattle.surf_graph.proofs.SpelledAmong.{spelled_hold, constant_holds}
use Rattle.surf_graph.proofs.SetValues.{truth_of, satisfies_front, satisfies_back}
use Rattle.surf_graph.proofs.RegisterRanges.{Agree, remain, stands_still}
use Rattle.surf_graph.proofs.Locals.{fold_zero}
use Rattle.surf_graph.proofs.TickCodes.{ExitsInside, tick_code}
use Rattle.surf_graph.proofs.DomainLists.{read_places, not_held}
use Rattle.surf_graph.proofs.DomainStatuses.{told_statuses, valued_has, pure_has_none, foreign_has_none, pure_before}
use Rattle.surf_graph.proofs.DomainRegisters.{counted, statement_told, variables_told, values_told, last_told}

by_cases : {C : Type 0} (b : Bool) → (b ≡ true → C) → (b ≡ false → C) → C
by_cases true f g = f refl
by_cases false f g = g refl

abbrev behind_first : List Equation → List Equation
behind_first [] = []
behind_first (e ∷ es) = es

-- the first equation of a domain gives 0 to wire 0
first_holds : (f w : ℕ → ℤ) (ops : List WireEquation) (rest : List Equation) → Meets f w ops → Spells (record { wire = 0; formula = formula.Const (pos 0) } ∷ rest) ops → w 0 ≡ pos 0
first_holds f w ops rest h s = constant_holds f w ops 0 (pos 0) h (All-head (IsSpelled ops) (record { wire = 0; formula = formula.Const (pos 0) }) rest s)

-- what a domain's equations say
pub record DomainSays (tables : Tables) (d : ℕ) (p : Stmt) (f w : ℕ → ℤ) (a : Copy) : Type 0 where
  pub zero : w 0 ≡ pos 0
  pub one : w 1 ≡ pos 1
  pub paused : is_on w a.next ≡ (to_nat (w a.status) == status_of paused_code)
  pub variables : (x : ℕ) → told w (domain_wires tables d).variables x ≡ variables_held tables d p f x
  pub last : (c : ℕ) → told w (domain_wires tables d).last c ≡ last_held tables d p f c
  pub copy : Satisfies f w a.equations
  pub statuses : Satisfies f w (all_statuses tables d p (interface_of tables d) (first_presence_wire tables d) (first_value_wire tables d) (first_wire_before tables d) (suc a.next) a.emits)

abbrev statuses_of : Tables → ℕ → Stmt → Copy → List Equation
statuses_of tables d p a = all_statuses tables d p (interface_of tables d) (first_presence_wire tables d) (first_value_wire tables d) (first_wire_before tables d) (suc a.next) a.emits

abbrev first_register_wire : Tables → ℕ → Stmt → Copy → ℕ
first_register_wire tables d p a = suc a.next + length (statuses_of tables d p a)

abbrev registers_by : Tables → ℕ → Stmt → Copy → List Equation
registers_by tables d p a = register_equations (statement_registers tables p) 0 (first_register_wire tables d p a) a.sets

pub domain_says : (tables : Tables) (d : ℕ) (p : Stmt) (f w : ℕ → ℤ) (a : Copy) → Satisfies f w (domain_of_copy tables d p a).equations → DomainSays tables d p f w a × Satisfies f w (registers_by tables d p a)
domain_says tables d p f w a h =
    let V = places_read (variables_of tables d) 2 (first_variable tables p) in
    let C = places_read (received_by tables d) (first_channel_wire tables d) (first_last tables d p) in
    let S = statuses_of tables d p a in
    let R = registers_by tables d p a in
    let z : w 0 ≡ pos 0 = h.0 in
    let after = h.1.1.1 in
    let behind_variables = satisfies_back f w V (C ++ (a.equations ++ (S ++ R))) after in
    let behind_channels = satisfies_back f w C (a.equations ++ (S ++ R)) behind_variables in
    let behind_copy = satisfies_back f w a.equations (S ++ R) behind_channels in (
      record {
        zero = z;
        one = h.1.0;
        paused = ap is_true h.1.1.0 ∙ truth_of (to_nat (w a.status) == status_of paused_code);
        variables = λ x. read_places f w (variables_of tables d) 2 (first_variable tables p) x z (satisfies_front f w V (C ++ (a.equations ++ (S ++ R))) after);
        last = λ c. read_places f w (received_by tables d) (first_channel_wire tables d) (first_last tables d p) c z (satisfies_front f w C (a.equations ++ (S ++ R)) behind_variables);
        copy = satisfies_front f w a.equations (S ++ R) behind_channels;
        statuses = satisfies_front f w S R behind_copy;
      },
      satisfies_back f w S R behind_copy,
    )

-- operations among which they are spelled
pub spelled_domain : (tables : Tables) (d : ℕ) (p : Stmt) (a : Copy) (f w : ℕ → ℤ) (ops : List WireEquation) → Meets f w ops → Spells (domain_of_copy tables d p a).equations ops → Satisfies f w (domain_of_copy tables d p a).equations
spelled_domain tables d p a f w ops h s = spelled_hold f w ops (domain_of_copy tables d p a).equations (first_holds f w ops (behind_first (domain_of_copy tables d p a).equations) h s) h s

-- the mark, by the code

same_test : (code : ℕ) → (suc code == suc 1) ≡ (code == 1)
same_test code = by_cases (code == 1)
    (λ e. let s = eqb-true code 1 e in eq-eqb (suc code) 2 (omega (arith, s)) ∙ sym e)
    (λ e. ne_eqb (suc code) 2 (λ q. eqb-false code 1 e (omega (arith, q))) ∙ sym e)

small_codes : (code : ℕ) → is_tick_code code ≡ true → (b : Bool) → has_paused code ≡ b → mark_after code ≡ cond b Going Ended
small_codes code h true e = let c : code ≡ 1 = grind (arith, nat_tests) in ap mark_after c
small_codes code h false e = let c : (code == 0) ≡ true = ended (code == 0) (code == 1) h e in ap (λ b. cond b Ended Going) c
  where
    ended : (a b : Bool) → a || b ≡ true → b ≡ false → a ≡ true
    ended true b g k = refl
    ended false b g k = absurd (true≢false (sym g ∙ k))

-- variables that a tick can't change

pub variables_after : (tables : Tables) (d : ℕ) (p t : Stmt) (f w : ℕ → ℤ) (last : ℕ → ℤ) (env : Env) (variables : ℕ → ℕ) (o : Tick)
    → ((x : ℕ) → writes t x ≡ true → has (variables_of tables d) x ≡ true) → Ticks tables last t env (variables_held tables d p f) o → told w variables ≡ o.variables
    → (x : ℕ) → cond (has (variables_of tables d) x) (w (variables x)) (pos 0) ≡ o.variables x
variables_after tables d p t f w last env variables o own ticks e x = by_cases (has (variables_of tables d) x) here there
  where
    here : has (variables_of tables d) x ≡ true → cond (has (variables_of tables d) x) (w (variables x)) (pos 0) ≡ o.variables x
    here h = ap (λ b. cond b (w (variables x)) (pos 0)) h ∙ ap (λ (g : ℕ → ℤ). g x) e

    unwritten : (b : Bool) → writes t x ≡ b → has (variables_of tables d) x ≡ false → writes t x ≡ false
    unwritten true q h = absurd (true≢false (sym (own x q) ∙ h))
    unwritten false q h = q

    there : has (variables_of tables d) x ≡ false → cond (has (variables_of tables d) x) (w (variables x)) (pos 0) ≡ o.variables x
    there h =
        ap (λ b. cond b (w (variables x)) (pos 0)) h
        ∙ sym (keeps_variable tables last t env (variables_held tables d p f) o x ticks (unwritten (writes t x) refl h) ∙ not_held (variables_of tables d) (first_variable tables p) f x h)

-- values of interface signals

given_value : (o : Option ℤ) (v : ℤ) → v ≡ pos 0 → unwrap_or o (pos 0) ≡ pos 0 → unwrap_or o v ≡ pos 0
given_value None v e h = e
given_value (Some u) v e h = h

pure_status : (tables : Tables) (d : ℕ) (p : Stmt) (handed : ℕ → Option ℤ) (f : ℕ → ℤ) (m : List Emission) (s : ℕ) (t : Bool) → is_input (signal_at tables s).sort ≡ t
    → is_interface_of d (signal_at tables s) ≡ true → (signal_at tables s).kind ≡ None → HandsIn tables d p handed f → PureZero tables m
    → (cond t (input_status (handed s) (values_held tables d p f s)) (emitted_status (signal_at tables s) s (values_held tables d p f s) m)).value ≡ pos 0
pure_status tables d p handed f m s true e i k given pure =
    given_value (handed s) (values_held tables d p f s) (pure_before tables d p f s k) (given.pure s (ap (λ x. x && is_input (signal_at tables s).sort) i ∙ e) k)
pure_status tables d p handed f m s false e i k given pure =
    ap (λ u. folded (signal_at tables s) u (values_of s m)) (pure_before tables d p f s k) ∙ fold_zero tables s m k pure

by_kind : {C : Type 0} (o : Option Kind) → (o ≡ None → C) → ((k : Kind) → o ≡ Some k → C) → C
by_kind None f g = f refl
by_kind (Some k) f g = g k refl

pub values_are : (tables : Tables) (d : ℕ) (p : Stmt) (handed : ℕ → Option ℤ) (f w : ℕ → ℤ) (m : List Emission) → HandsIn tables d p handed f → PureZero tables m
    → ((s : ℕ) → is_interface_of d (signal_at tables s) ≡ true → told_env w (domain_wires tables d) s ≡ status_in tables handed (values_held tables d p f) m s)
    → (s : ℕ) → cond (has (valued_of tables d) s) (w ((domain_wires tables d).value s)) (pos 0) ≡ values_after tables d (told_env w (domain_wires tables d)) (values_held tables d p f) s
values_are tables d p handed f w m given pure coherent s = by_cases (is_interface_of d (signal_at tables s)) own foreign
  where
    v : ℤ
    v = w ((domain_wires tables d).value s)

    old : ℤ
    old = values_held tables d p f s

    goal : Bool → Bool → Type 0
    goal a b = cond a v (pos 0) ≡ cond b v old

    foreign : is_interface_of d (signal_at tables s) ≡ false → goal (has (valued_of tables d) s) (is_interface_of d (signal_at tables s))
    foreign e =
        let none = foreign_has_none tables d s e in
        ap (λ b. cond b v (pos 0)) none ∙ sym (ap (λ b. cond b v old) e ∙ not_held (valued_of tables d) _ f s none)

    pure_one : is_interface_of d (signal_at tables s) ≡ true → (signal_at tables s).kind ≡ None → goal (has (valued_of tables d) s) (is_interface_of d (signal_at tables s))
    pure_one i k =
        ap (λ b. cond b v (pos 0)) (pure_has_none tables d s k)
        ∙ sym (ap (λ b. cond b v old) i ∙ ap (λ (x : Status). x.value) (coherent s i) ∙ pure_status tables d p handed f m s (is_input (signal_at tables s).sort) refl i k given pure)

    valued_one : is_interface_of d (signal_at tables s) ≡ true → (k : Kind) → (signal_at tables s).kind ≡ Some k → goal (has (valued_of tables d) s) (is_interface_of d (signal_at tables s))
    valued_one i k e = ap (λ b. cond b v (pos 0)) (valued_has tables d s k i e) ∙ sym (ap (λ b. cond b v old) i)

    own : is_interface_of d (signal_at tables s) ≡ true → goal (has (valued_of tables d) s) (is_interface_of d (signal_at tables s))
    own i = by_kind (signal_at tables s).kind (pure_one i) (valued_one i)

last_are : (tables : Tables) (d : ℕ) (p : Stmt) (f w : ℕ → ℤ) → ((c : ℕ) → told w (domain_wires tables d).last c ≡ last_held tables d p f c)
    → (c : ℕ) → cond (has (received_by tables d) c) (w ((domain_wires tables d).last c)) (pos 0) ≡ last_held tables d p f c
last_are tables d p f w h c = by_cases (has (received_by tables d) c)
    (λ e. ap (λ b. cond b (w ((domain_wires tables d).last c)) (pos 0)) e ∙ h c)
    (λ e. ap (λ b. cond b (w ((domain_wires tables d).last c)) (pos 0)) e ∙ sym (not_held (received_by tables d) (first_last tables d p) f c e))

-- the tick of a domain whose statement makes this tick
pub domain_tells : (tables : Tables) (inputs : Inputs) (d ticks : ℕ) (p t : Stmt) (f w : ℕ → ℤ) (a : Copy)
    → ExitsInside 0 t → ((x : ℕ) → writes t x ≡ true → has (variables_of tables d) x ≡ true) → HandsIn tables d p (λ s. inputs s (suc ticks)) f
    → DomainSays tables d p f w a → Satisfies f w (registers_by tables d p a)
    → Active tables (told w (domain_wires tables d).last) (told_env w (domain_wires tables d)) (told w (domain_wires tables d).variables) w p t 0 1 a
    → DomainTells tables inputs d ticks p t f w (domain_of_copy tables d p a)
domain_tells tables inputs d ticks p t f w a exits own given says regs active =
    let o = active.tick in
    let tells = active.tells in
    let env = told_env w (domain_wires tables d) in
    let last = last_held tables d p f in
    let x = variables_held tables d p f in
    let m = first_register_wire tables d p a in
    let ticks_told : Ticks tables last t env x o = subst (λ (y : ℕ → ℤ). Ticks tables last t env y o) (fun_ext says.variables) (subst (λ (l : ℕ → ℤ). Ticks tables l t env (told w (domain_wires tables d).variables) o) (fun_ext says.last) active.ticks) in
    let pure : PureZero tables (emitted w a.emits) = subst (λ l. PureZero tables l) (sym tells.emits) tells.pure in
    let coherent = told_statuses tables d p (λ s. inputs s (suc ticks)) f w a.emits (first_wire_before tables d) (suc a.next) says.zero given pure says.statuses in
    let code = tick_code tables last t env x o exits ticks_told in
    let pauses : is_on w a.next ≡ has_paused o.code = says.paused ∙ ap (λ v. to_nat v == status_of paused_code) tells.status ∙ same_test o.code in
    record {
      tick = record {
        after = record {
          statement = o.rest;
          variables = o.variables;
          values = values_after tables d env (values_held tables d p f);
          last = last;
          ticks = suc ticks;
          mark = mark_after o.code;
        };
        legal = record {
          goes_on = refl;
          env = env;
          tick = o;
          ticks = ticks_told;
          coherent = λ s i. coherent s i ∙ ap (λ l. status_in tables (λ r. inputs r (suc ticks)) (values_held tables d p f) l s) tells.emits;
          code = code;
          shows = refl;
          next = refl;
        };
        mark = small_codes o.code code (has_paused o.code) refl ∙ ap (λ b. cond b Going Ended) (sym pauses);
        variables = fun_ext (λ y. variables_told tables d p w a.sets m a.variables (domain_wires tables d).value (domain_wires tables d).last y ∙ variables_after tables d p t f w last env a.variables o own ticks_told tells.variables y);
        values = fun_ext (λ s. values_told tables d p w a.sets m a.variables (domain_wires tables d).value (domain_wires tables d).last s ∙ values_are tables d p (λ r. inputs r (suc ticks)) f w (emitted w a.emits) given pure coherent s);
        last = fun_ext (λ c. last_told tables d p w a.sets m a.variables (domain_wires tables d).value (domain_wires tables d).last c ∙ last_are tables d p f w says.last c);
        stands = λ on.
            let r = registers_told w (domain_of_copy tables d p a).next in
            let agree : Agree 0 (registers tables p) (registers_set w a.sets) r = record { at = λ k ge less. sym (statement_told tables d p w a.sets m a.variables (domain_wires tables d).value (domain_wires tables d).last f k (omega (arith, less)) regs) } in
            stands_still tables p 0 (registers_set w a.sets) r o.rest (remain tables p 0 (registers_set w a.sets) r agree)
            (tells.sets (ap₂ (λ b c. b && c) (sym pauses ∙ on) (ap is_true says.one)));
      };
      count = counted tables d p w a.sets m a.variables (domain_wires tables d).value (domain_wires tables d).last;
    }
