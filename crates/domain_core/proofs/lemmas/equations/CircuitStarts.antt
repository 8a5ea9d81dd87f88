-- What a built part needs to be finished.
use Rattle.std.proofs.Common.{◌≡◌, ℕ, ◌+◌, ◌^◌, ◌<◌, List, [], ◌++◌, length, arith, refl, sym, ap, ◌∙◌, subst, length-append}
use Rattle.std.specs.Prelude.{Result, Ok, Err, IfOk}
use Rattle.java_values.specs.declared.no_memory.NoMemory.{NoMemory}
use Rattle.domain_core.specs.equations.BuiltForms.{Plain}
use Rattle.plain_code.specs.Formulas.{IsOrdered, FitsFrame}
use Rattle.domain_core.specs.declared.equations.builder.Parts.{Parts}
use Rattle.domain_core.specs.declared.equations.circuit.Built.{Built}
use Rattle.domain_core.specs.equations.BuiltRegisters.{registers}
use Rattle.domain_core.specs.equations.Circuit.{Part, start, resume}
use Rattle.domain_core.specs.equations.CircuitLists.{Adds}
use Rattle.domain_core.specs.equations.BuiltCodes.{Below, Shows, head}
use Rattle.domain_core.specs.equations.BuiltLimits.{CanBuild}
use Rattle.domain_core.proofs.lemmas.equations.CircuitOrder.{Stands, ordered_append, fits_append, start_stands, resume_stands}
use Rattle.domain_core.proofs.lemmas.equations.BuiltWeights.{registers-le}

-- the lists behind the two first wires
pub record IsMade (new : Parts) (part : Part) (end size signals : ℕ) : Type 0 where
  pub equations : head ++ part.equations ≡ new.equations.items
  pub sets : part.sets ≡ new.sets.items
  pub emits : part.emits ≡ new.emits.items
  pub done : part.done ≡ end
  pub some : 0 < length new.equations.items
  pub end_below : end < length new.equations.items
  pub emits_below : Below signals (length new.equations.items) new.emits.items
  pub sets_below : Below size (length new.equations.items) new.sets.items
  pub fits : FitsFrame size new.equations.items
  pub ordered : IsOrdered 0 new.equations.items

made : (old new : Parts) (part : Part) (end size signals : ℕ) → old.equations.items ≡ head → old.sets.items ≡ [] → old.emits.items ≡ [] → Adds old new part end → Stands 2 size signals part → IsMade new part end size signals
made old new part end size signals he hs hm a s =
    let eqs : head ++ part.equations ≡ new.equations.items = sym (a.equations ∙ ap (λ l. l ++ part.equations) he) in
    let sets : part.sets ≡ new.sets.items = sym (a.sets ∙ ap (λ l. l ++ part.sets) hs) in
    let emits : part.emits ≡ new.emits.items = sym (a.emits ∙ ap (λ l. l ++ part.emits) hm) in
    let len : 2 + length part.equations ≡ length new.equations.items = sym (length-append head part.equations) ∙ ap length eqs in
    record {
      equations = eqs;
      sets = sets;
      emits = emits;
      done = sym a.done;
      some = omega arith;
      end_below = omega (arith, s.done, a.done, len);
      emits_below = subst (λ l. Below signals (length new.equations.items) l) emits (subst (λ n. Below signals n part.emits) len s.emits);
      sets_below = subst (λ l. Below size (length new.equations.items) l) sets (subst (λ n. Below size n part.sets) len s.sets);
      fits = subst (λ l. FitsFrame size l) eqs (fits_append head part.equations size (tt, (tt, tt)) s.fits);
      ordered = subst (λ l. IsOrdered 0 l) eqs (ordered_append head part.equations 0 (refl, tt, (refl, tt, tt)) s.ordered);
    }

pub made_start : (old new : Parts) (p : Plain) (end signals : ℕ) → CanBuild signals p → old.equations.items ≡ head → old.sets.items ≡ [] → old.emits.items ≡ [] → Adds old new (start p (length old.equations.items) 1 0) end → IsMade new (start p 2 1 0) end (registers p) signals
made_start old new p end signals can he hs hm a =
    let len : length old.equations.items ≡ 2 = ap length he in
    made old new (start p 2 1 0) end (registers p) signals he hs hm (subst (λ n. Adds old new (start p n 1 0) end) len a) (start_stands p 2 1 0 (registers p) signals (omega arith) (omega arith) (omega arith) can.emits)

pub made_resume : (old new : Parts) (p : Plain) (end signals : ℕ) → CanBuild signals p → old.equations.items ≡ head → old.sets.items ≡ [] → old.emits.items ≡ [] → Adds old new (resume p (length old.equations.items) 0) end → IsMade new (resume p 2 0) end (registers p) signals
made_resume old new p end signals can he hs hm a =
    let len : length old.equations.items ≡ 2 = ap length he in
    made old new (resume p 2 0) end (registers p) signals he hs hm (subst (λ n. Adds old new (resume p n 0) end) len a) (resume_stands p 2 0 (registers p) signals (omega arith) (omega arith) can.emits)

pub shown : (new : Parts) (part : Part) (end size signals : ℕ) (own : List ℕ) (r : Result Built NoMemory) → IsMade new part end size signals
    → IfOk r (λ built. (p : Part) → head ++ p.equations ≡ new.equations.items → p.done ≡ end → p.sets ≡ new.sets.items → p.emits ≡ new.emits.items → Shows built.code built.present.items built.next.items built.end head p own size)
    → IfOk r (λ built. Shows built.code built.present.items built.next.items built.end head part own size)
shown new part end size signals own (Ok built) b h = h part b.equations b.done b.sets b.emits
shown new part end size signals own (Err e) b h = tt

pub few_registers : (p : Plain) (signals : ℕ) → CanBuild signals p → registers p < 2 ^ 31
few_registers p signals can = omega (arith, can.copies, registers-le p)
