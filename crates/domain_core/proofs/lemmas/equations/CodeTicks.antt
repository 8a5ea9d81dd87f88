-- A step of a code tells a tick of its statement.
use Rattle.std.proofs.Common.{◌≡◌, ℕ, ◌+◌, ◌≤◌, ◌<◌, ℤ, pos, Bool, true, false, ◌&&◌, ◌||◌, cond, nat_eq, List, [], ◌∷◌, ◌++◌, length, get_or, map, All, arith, refl, sym, ap, ◌∙◌, subst}
use Rattle.std.proofs.Math.ListN.{length-map}
use Rattle.std.proofs.lemmas.Bool.{true≢false}
use Rattle.std.proofs.lemmas.List.{ext_get_or, get_or-map}
use Rattle.std.proofs.lemmas.List.Elements.{All-cons}
use Rattle.kernel_terms.specs.declared.tables.Tables.{Tables}
use Rattle.kernel_terms.specs.Statements.{Stmt}
use Rattle.kernel_terms.specs.Statements as rules
use Rattle.kernel_rules.specs.definitions.Signals.{Emission, Env, is_emitted}
use Rattle.kernel_rules.specs.definitions.Registers as frame
use Rattle.plain_code.specs.declared.equation.Equation.{Equation}
use Rattle.plain_code.specs.declared.formula.Formula.{Formula}
use Rattle.plain_code.specs.declared.formula.Formula.TheVariants.{Const, Get, And, Or, Not}
use Rattle.plain_code.specs.Formulas.{FitsFrame, ReadsFrame, Satisfies, is_on, is_true, number_at}
use Rattle.plain_code.proofs.SolvingLemmas.{satisfies_back}
use Rattle.domain_core.specs.equations.BuiltForms.{Plain, whole}
use Rattle.domain_core.specs.equations.BuiltRegisters.{registers, literals, HoldsLiteral}
use Rattle.domain_core.specs.equations.Circuit.{Part, start, resume, is_set, emitted}
use Rattle.domain_core.specs.equations.BuiltCodes.{Below, Shows, Steps, StepsOn, CanStep, written, head}
use Rattle.domain_core.specs.declared.equations.circuit.Built.{Built}
use Rattle.domain_core.specs.declared.equations.codes.Codes.{Codes}
use Rattle.domain_core.specs.equations.Codes.{TellsTick, AreCodes}
use Rattle.domain_core.proofs.lemmas.equations.CircuitOrder.{start_stands, resume_stands}
use Rattle.domain_core.proofs.lemmas.equations.CircuitWires.{Told, tick_of, Active, Ended, Waits, start_active, resume_active}
use Rattle.domain_core.proofs.lemmas.equations.BuiltRules.{Stands as StandsWhole, stands_whole, whole_stands}
use Rattle.domain_core.proofs.lemmas.equations.CodeLiterals.{Written, after_writing, written_past, own_flags}

any_emitted : (w : List ℤ) (ss : List (ℕ × ℕ)) (n : ℕ) → is_emitted (emitted w ss) n ≡ is_set w ss n
any_emitted w [] n = refl
any_emitted w (s ∷ ss) n = by_wire (is_on w s.1) (nat_eq s.0 n) (emitted w ss) n s.0 (is_set w ss n) (any_emitted w ss n) refl where
  by_wire : (b e : Bool) (l : List Emission) (n t : ℕ) (r : Bool) → is_emitted l n ≡ r → nat_eq t n ≡ e → is_emitted (cond b (record { signal = t; value = pos 0 } ∷ l) l) n ≡ (e && b) || r
  by_wire true true l n t r h e = ap (λ x. x || is_emitted l n) e
  by_wire true false l n t r h e = ap (λ x. x || is_emitted l n) e ∙ h
  by_wire false true l n t r h e = h
  by_wire false false l n t r h e = h

-- emissions of pairs are pure, and of signals that there are
record Pure (signals : ℕ) (l : List Emission) : Type 0 where
  zeros : All (λ (e : Emission). e.value ≡ pos 0) l
  below : All (λ (e : Emission). e.signal < signals) l

emitted_pure : (w : List ℤ) (ss : List (ℕ × ℕ)) (signals limit : ℕ) → Below signals limit ss → Pure signals (emitted w ss)
emitted_pure w [] signals limit h = record { zeros = λ k d lt. absurd (omega arith); below = λ k d lt. absurd (omega arith) }
emitted_pure w (s ∷ ss) signals limit h = by_wire (is_on w s.1) (emitted_pure w ss signals limit h.2) where
  by_wire : (b : Bool) → Pure signals (emitted w ss) → Pure signals (cond b (record { signal = s.0; value = pos 0 } ∷ emitted w ss) (emitted w ss))
  by_wire true x =
      record {
        zeros = All-cons (λ (e : Emission). e.value ≡ pos 0) (record { signal = s.0; value = pos 0 }) (emitted w ss) refl x.zeros;
        below = All-cons (λ (e : Emission). e.signal < signals) (record { signal = s.0; value = pos 0 }) (emitted w ss) h.0 x.below;
      }
  by_wire false x = x

-- how a step ends
data Ending (tables : Tables) (p : Plain) (o : Told) (new : ℕ → ℤ) (ended : Bool) : Type 0 where
  IsOver : ended ≡ true → o.code ≡ 0 → o.rest ≡ rules.Nothing → Ending tables p o new ended
  GoesOn : ended ≡ false → o.code ≡ 1 → StandsWhole tables p o.rest new → Ending tables p o new ended

record Over (o : Told) : Type 0 where
  code : o.code ≡ 0
  left : o.rest ≡ rules.Nothing

is_over : (tables : Tables) (p : Plain) (o : Told) (new : ℕ → ℤ) (ended : Bool) → Ending tables p o new ended → ended ≡ true → Over o
is_over tables p o new ended (IsOver e c r) h = record { code = c; left = r }
is_over tables p o new ended (GoesOn e c s) h = absurd (true≢false (sym h ∙ e))

record Paused (tables : Tables) (p : Plain) (o : Told) (new : ℕ → ℤ) : Type 0 where
  code : o.code ≡ 1
  stands : StandsWhole tables p o.rest new

goes_on : (tables : Tables) (p : Plain) (o : Told) (new : ℕ → ℤ) (ended : Bool) → Ending tables p o new ended → ended ≡ false → Paused tables p o new
goes_on tables p o new ended (IsOver e c r) h = absurd (true≢false (sym e ∙ h))
goes_on tables p o new ended (GoesOn e c s) h = record { code = c; stands = s }

-- a list that shows each of some signals as it is
shown_of : (f : ℕ → Bool) (own : List ℕ) (shown : List Bool) → length shown ≡ length own → ((n : ℕ) → n < length own → get_or shown n false ≡ f (get_or own n 0)) → shown ≡ map f own
shown_of f own shown len at =
    ext_get_or false shown (map f own) (len ∙ sym (length-map own f)) (λ n less. at n (omega (arith, len, less)) ∙ sym (get_or-map f own n 0 false (omega (arith, len, less))))

-- the registers after a step, with the literals written
written_after : (p : Plain) (part : Part) (code : List Equation) (present next own : List ℕ) (end : ℕ) (old values between : List ℤ) (shown : List Bool) (ended : Bool)
    → Shows code present next end head part own (registers p) → Steps code present next end old values shown between ended → registers p ≤ length old → is_on values 0 ≡ false
    → Written p 0 (number_at (written (literals p 0) between)) (is_set values part.sets)
written_after p part code present next own end old values between shown ended s k len off =
    after_writing p 0 between (is_set values part.sets) (omega (arith, k.size))
    (λ n ge lt. k.moves n (omega (arith, s.registers, lt)) ∙ s.sets n (omega (arith, lt)) old values k.satisfies off)

from_active : (tables : Tables) (p : Plain) (t : Stmt) (part : Part) (code : List Equation) (present next own : List ℕ) (end signals limit : ℕ) (old values between : List ℤ) (shown : List Bool) (ended : Bool)
    → Shows code present next end head part own (registers p) → Steps code present next end old values shown between ended → is_on values 0 ≡ false
    → Written p 0 (number_at (written (literals p 0) between)) (is_set values part.sets) → Below signals limit part.emits
    → Active values (λ n. record { present = is_set values part.emits n; value = pos 0 }) p t 0 part → TellsTick tables (whole p) signals own t shown (number_at (written (literals p 0) between)) ended
from_active tables p t part code present next own end signals limit old values between shown ended s k off w below x =
    let new = number_at (written (literals p 0) between) in
    let o = x.tick in
    let e : ended ≡ is_on values part.done = k.ends ∙ ap (λ n. is_on values n) s.done in
    let ending : Ending tables p o new ended = elim x.outcome [
      | Ended c d q r ↦ IsOver (e ∙ d) c r
      | Waits c d st ↦ GoesOn (e ∙ d) c (stands_whole tables p o.rest new (is_set values part.sets) w.flags w.holds st)
    ] in
    let pure_ones : Pure signals o.emits = subst (λ l. Pure signals l) x.emits (emitted_pure values part.emits signals limit below) in
    record {
      env = λ n. record { present = is_set values part.emits n; value = pos 0 };
      tick = λ last y. tick_of o y;
      ticks = λ last y. x.ticks tables last y;
      variables = λ last y. refl;
      shows = shown_of (is_set values part.emits) own shown (k.count ∙ s.signal_count) (λ n h. k.tells n (omega (arith, h, s.signal_count)) ∙ s.emits n h old values k.satisfies off);
      emitted = λ last y n h. sym (any_emitted values part.emits n) ∙ ap (λ l. is_emitted l n) x.emits;
      pure = λ n h. refl;
      zeros = λ last y. pure_ones.zeros;
      below = λ last y. pure_ones.below;
      ends = λ last y h. (is_over tables p o new ended ending h).code;
      over = λ last y h. (is_over tables p o new ended ending h).left;
      pauses = λ last y h. (goes_on tables p o new ended ending h).code;
      fits = λ h. (goes_on tables p o new ended ending h).stands.fit;
      rest = λ last y h. (goes_on tables p o new ended ending h).stands.residual;
    }

wire_off : (old values : List ℤ) (es : List Equation) → Satisfies (head ++ es) old values → is_on values 0 ≡ false
wire_off old values es h = ap is_true h.0

wire_on : (old values : List ℤ) (es : List Equation) → Satisfies (head ++ es) old values → is_on values 1 ≡ true
wire_on old values es h = ap is_true h.1.0

pub first_tick : (tables : Tables) (c : Codes) (p : Plain) (signals : ℕ) (own : List ℕ) (old new : List ℤ) (shown : List Bool) (ended : Bool) → AreCodes c p signals own → c.registers ≤ length old
    → StepsOn c.starting c.literals.items old shown new ended → TellsTick tables (whole p) signals own (whole p) shown (number_at new) ended
first_tick tables c p signals own old new shown ended a len st =
    let part = start p 2 1 0 in
    let s = a.starting in
    let k = st.steps in
    let values = st.values in
    let h = s.keeps old values k.satisfies in
    let off = wire_off old values part.equations h in
    let w = written_after p part c.starting.code c.starting.present.items c.starting.next.items own c.starting.end old values st.between shown ended s k (omega (arith, len, a.register_count)) off in
    let b = start_stands p 2 1 0 (registers p) signals (omega arith) (omega arith) (omega arith) a.can.emits in
    let tells = from_active tables p (whole p) part c.starting.code c.starting.present.items c.starting.next.items own c.starting.end signals (2 + length part.equations) old values st.between shown ended s k off w b.emits
    (start_active values (λ n. record { present = is_set values part.emits n; value = pos 0 }) p 2 1 0 a.can.waits off (wire_on old values part.equations h)) in
    subst (λ l. TellsTick tables (whole p) signals own (whole p) shown (number_at l) ended) (sym (st.writes ∙ ap (λ l. written l st.between) a.all_literals)) tells

pub first_holds : (c : Codes) (p : Plain) (signals : ℕ) (own : List ℕ) (old new : List ℤ) (shown : List Bool) (ended : Bool) → AreCodes c p signals own → c.registers ≤ length old
    → StepsOn c.starting c.literals.items old shown new ended → HoldsLiteral p 0 (number_at new)
first_holds c p signals own old new shown ended a len st =
    let part = start p 2 1 0 in
    let h = a.starting.keeps old st.values st.steps.satisfies in
    let w = written_after p part c.starting.code c.starting.present.items c.starting.next.items own c.starting.end old st.values st.between shown ended a.starting st.steps (omega (arith, len, a.register_count)) (wire_off old st.values part.equations h) in
    subst (λ l. HoldsLiteral p 0 (number_at l)) (sym (st.writes ∙ ap (λ l. written l st.between) a.all_literals)) w.holds

pub later_tick : (tables : Tables) (c : Codes) (p : Plain) (signals : ℕ) (own : List ℕ) (old new : List ℤ) (shown : List Bool) (ended : Bool) → AreCodes c p signals own → c.registers ≤ length old
    → frame.FitRegisters tables (whole p) 0 (number_at old) → HoldsLiteral p 0 (number_at old)
    → StepsOn c.resuming c.literals.items old shown new ended → TellsTick tables (whole p) signals own (frame.residual tables (whole p) 0 (number_at old)) shown (number_at new) ended
later_tick tables c p signals own old new shown ended a len fit holds st =
    let part = resume p 2 0 in
    let s = a.resuming in
    let k = st.steps in
    let values = st.values in
    let env : Env = λ n. record { present = is_set values part.emits n; value = pos 0 } in
    let h = s.keeps old values k.satisfies in
    let off = wire_off old values part.equations h in
    let w = written_after p part c.resuming.code c.resuming.present.items c.resuming.next.items own c.resuming.end old values st.between shown ended s k (omega (arith, len, a.register_count)) off in
    let b = resume_stands p 2 0 (registers p) signals (omega arith) (omega arith) a.can.emits in
    let f = whole_stands tables p (number_at old) (is_on old) (own_flags p 0 old) holds fit in
    let x = resume_active values old env p 2 0 a.can.waits off (satisfies_back head part.equations old values h) f.is_live f.once in
    let tells = from_active tables p (frame.residual tables (whole p) 0 (number_at old)) part c.resuming.code c.resuming.present.items c.resuming.next.items own c.resuming.end signals (2 + length part.equations) old values st.between shown ended s k off w b.emits
    (subst (λ u. Active values env p u 0 part) f.residual x) in
    subst (λ l. TellsTick tables (whole p) signals own (frame.residual tables (whole p) 0 (number_at old)) shown (number_at l) ended) (sym (st.writes ∙ ap (λ l. written l st.between) a.all_literals)) tells

pub later_holds : (c : Codes) (p : Plain) (signals : ℕ) (own : List ℕ) (old new : List ℤ) (shown : List Bool) (ended : Bool) → AreCodes c p signals own → c.registers ≤ length old
    → StepsOn c.resuming c.literals.items old shown new ended → HoldsLiteral p 0 (number_at new)
later_holds c p signals own old new shown ended a len st =
    let part = resume p 2 0 in
    let h = a.resuming.keeps old st.values st.steps.satisfies in
    let w = written_after p part c.resuming.code c.resuming.present.items c.resuming.next.items own c.resuming.end old st.values st.between shown ended a.resuming st.steps (omega (arith, len, a.register_count)) (wire_off old st.values part.equations h) in
    subst (λ l. HoldsLiteral p 0 (number_at l)) (sym (st.writes ∙ ap (λ l. written l st.between) a.all_literals)) w.holds

-- registers past those of the statement stay
pub rest_stays : (built : Built) (p : Plain) (part : Part) (own : List ℕ) (old new : List ℤ) (shown : List Bool) (ended : Bool) → Shows built.code built.present.items built.next.items built.end head part own (registers p)
    → StepsOn built (literals p 0) old shown new ended → (k : ℕ) → registers p ≤ k → number_at new k ≡ number_at old k
rest_stays built p part own old new shown ended s st k past =
    ap (λ l. number_at l k) st.writes ∙ written_past p 0 k st.between (omega (arith, past)) ∙ st.steps.stays k (omega (arith, past, s.registers))

-- a code steps over more registers than those of the statement
fits_more : (es : List Equation) (m n : ℕ) → m ≤ n → FitsFrame m es → FitsFrame n es
fits_more [] m n le h = tt
fits_more (e ∷ es) m n le h = (reads e.formula h.0, fits_more es m n le h.1) where
  reads : (f : Formula) → ReadsFrame m f → ReadsFrame n f
  reads (Const z) r = tt
  reads (Get k) r = omega (arith, r, le)
  reads (And a b) r = tt
  reads (Or a b) r = tt
  reads (Not a) r = tt

pub can_step : (built : Built) (p : Plain) (part : Part) (own : List ℕ) (count present : ℕ) → Shows built.code built.present.items built.next.items built.end head part own (registers p)
    → registers p ≤ count → present ≡ length own → CanStep built count present
can_step built p part own count present s room same = record {
  fits = fits_more built.code (registers p) count room s.fits;
  next = omega (arith, room, s.registers);
  present = same ∙ sym s.signal_count;
  end = s.end_below;
  signals_below = λ n less. s.signals_below n (omega (arith, less, s.signal_count));
  sets_below = λ n less. s.registers_below n (omega (arith, less, s.registers));
}
