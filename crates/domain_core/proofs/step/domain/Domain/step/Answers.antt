use Rattle.std.proofs.Common.{◌≡◌, ◌<◌, ◌≤◌, ◌+◌, ℕ, length, get_or, subst, sym, ap, ◌∙◌, refl, arith, true, false, None, cond, []}
use Rattle.domain_core.specs.definitions.step.EndCalls.{end_at}
use Rattle.domain_core.specs.step.EndPlaces.{ask_of}
use Rattle.kernel_terms.specs.Marks.{Going, Ended}
use Rattle.signal_store.specs.definitions.Handed.{handed}
use Rattle.domain_core.specs.declared.step.outcome.Stepped.TheVariants as stepped
use Rattle.domain_core.specs.declared.step.parts.State.{State}
use Rattle.domain_core.specs.declared.step.parts.Scratch.{Scratch}
use Rattle.kernel_terms.specs.Systems.{tables_of}
use Rattle.domain_core.specs.definitions.step.Domains.{DomainView, ends_in, ends_of, register_at}
use Rattle.domain_core.specs.definitions.step.Steps.{FitsEnd, LeavesEnd, IsStep, stepped_to}
use Rattle.domain_core.specs.step.StepParts.{Applies, MakesCodeTick}
use Rattle.domain_core.specs.step.DomainKeeps.{HasScratch}
use Rattle.domain_core.specs.equations.BuiltForms.{whole}
use Rattle.domain_core.proofs.lemmas.step.LastValues.{count_registers}
use Rattle.domain_core.proofs.lemmas.equations.BuiltRules.{registers-whole}
use Rattle.domain_core.proofs.lemmas.step.DomainSteps.{view_of, stop_keeps, stop_steps, room_here, can_offer, tick_keeps, tick_steps, tick_leaves}
use Rattle.domain_core.proofs.step.domain.Domain.step.Goals as goal

pub invariant_of-self : goal.invariant_of-self
invariant_of-self g c =
    let x = c.self.inside in
    let E = g.E.Ends in
    let going : x.log.mark ≡ Going = ap (λ (v : DomainView). v.log.mark) c.self.view_is ∙ c.requires.going in
    let running : x.state.stopped ≡ false = ap (λ (v : DomainView). v.stopped) c.self.view_is ∙ c.requires.running in
    let fits : (n : ℕ) → n < length (ends_of (tables_of x.system.value) x.domain) → FitsEnd (view_of x.system.value x.domain x.state x.log) n (E.end_at c.args.ends.now n) =
    subst (λ (v : DomainView). (n : ℕ) → n < length (ends_in v) → FitsEnd v n (E.end_at c.args.ends.now n)) (sym c.self.view_is) c.requires.fits in
    let p = c.recall_phase in
    let applies : Applies x.program x.state p.new.state p.new.answers.items (length x.log.entries) = subst (Applies x.program x.state p.new.state p.new.answers.items) c.len-ticks.ensures p.ensures.applies in
    let stopped : State = record { registers = p.new.state.registers; standing = c.stand_none.new.standing; joins = p.new.state.joins; stamp = p.new.state.stamp; cause = p.new.state.cause; stopped = true } in
    let m = c.self.invariant.memory in
    let s = x.scratch in
    let scratch : Scratch = record { answers = p.new.answers; replies = s.replies; asks = s.asks; wires = s.wires; present = s.present; zeros = s.zeros } in
    let memory : HasScratch x.program scratch = record { answers = p.ensures.answers; replies = m.replies; asks = m.asks; wires = m.wires; present = m.present; zeros = m.zeros } in
    stop_keeps E.moved E.count E.end_at x.system.value x.domain x.program x.state p.new.state x.scratch x.log p.new.answers.items c.args.ends.now p.new.ends c.self.invariant going running fits p.ensures.recalls applies
    stopped refl refl refl refl refl c.stand_none.ensures.standing (c.stand_none.ensures.len ∙ ap length p.ensures.standing) scratch memory

pub returns-then-stamp-clause-step : goal.returns-then-stamp-clause-step
returns-then-stamp-clause-step g c =
    let x = c.self.inside in
    let E = g.E.Ends in
    let going : x.log.mark ≡ Going = ap (λ (v : DomainView). v.log.mark) c.self.view_is ∙ c.requires.going in
    let running : x.state.stopped ≡ false = ap (λ (v : DomainView). v.stopped) c.self.view_is ∙ c.requires.running in
    let fits : (n : ℕ) → n < length (ends_of (tables_of x.system.value) x.domain) → FitsEnd (view_of x.system.value x.domain x.state x.log) n (E.end_at c.args.ends.now n) =
    subst (λ (v : DomainView). (n : ℕ) → n < length (ends_in v) → FitsEnd v n (E.end_at c.args.ends.now n)) (sym c.self.view_is) c.requires.fits in
    let p = c.recall_phase in
    let applies : Applies x.program x.state p.new.state p.new.answers.items (length x.log.entries) = subst (Applies x.program x.state p.new.state p.new.answers.items) c.len-ticks.ensures p.ensures.applies in
    let stopped : State = record { registers = p.new.state.registers; standing = c.stand_none.new.standing; joins = p.new.state.joins; stamp = p.new.state.stamp; cause = p.new.state.cause; stopped = true } in
    subst (λ v. IsStep E.moved (handed c.args.inputs.now) c.args.ends.now p.new.ends v (view_of x.system.value x.domain stopped x.log) (stepped.StampLimit (p.new.state.cause + 1))) c.self.view_is
    (stop_steps E.moved E.count E.end_at x.system.value x.domain x.program x.state p.new.state x.scratch x.log p.new.answers.items c.args.ends.now p.new.ends c.self.invariant going running fits p.ensures.recalls applies
    stopped refl refl refl refl refl c.stand_none.ensures.standing (c.stand_none.ensures.len ∙ ap length p.ensures.standing) (handed c.args.inputs.now) (p.new.state.cause + 1) refl c.if-stamp.true)

pub offer_phase-requires-clause-room : goal.offer_phase-requires-clause-room
offer_phase-requires-clause-room g c =
    let x = c.self.inside in
    let E = g.E.Ends in
    let going : x.log.mark ≡ Going = ap (λ (v : DomainView). v.log.mark) c.self.view_is ∙ c.requires.going in
    let running : x.state.stopped ≡ false = ap (λ (v : DomainView). v.stopped) c.self.view_is ∙ c.requires.running in
    let fits : (n : ℕ) → n < length (ends_of (tables_of x.system.value) x.domain) → FitsEnd (view_of x.system.value x.domain x.state x.log) n (E.end_at c.args.ends.now n) =
    subst (λ (v : DomainView). (n : ℕ) → n < length (ends_in v) → FitsEnd v n (E.end_at c.args.ends.now n)) (sym c.self.view_is) c.requires.fits in
    let p = c.recall_phase in
    let applies : Applies x.program x.state p.new.state p.new.answers.items (length x.log.entries) = subst (Applies x.program x.state p.new.state p.new.answers.items) c.len-ticks.ensures p.ensures.applies in
    let room : 1 ≤ x.log.room = subst (λ (v : DomainView). 1 ≤ v.spare) (sym c.self.view_is) c.requires.spare in
    room_here E.moved E.count E.end_at x.system.value x.domain x.program x.state p.new.state x.scratch x.log p.new.answers.items c.args.ends.now p.new.ends c.self.invariant going running fits p.ensures.recalls applies room

pub offer_phase-requires-clause-can : goal.offer_phase-requires-clause-can
offer_phase-requires-clause-can g c =
    let x = c.self.inside in
    let E = g.E.Ends in
    let going : x.log.mark ≡ Going = ap (λ (v : DomainView). v.log.mark) c.self.view_is ∙ c.requires.going in
    let running : x.state.stopped ≡ false = ap (λ (v : DomainView). v.stopped) c.self.view_is ∙ c.requires.running in
    let fits : (n : ℕ) → n < length (ends_of (tables_of x.system.value) x.domain) → FitsEnd (view_of x.system.value x.domain x.state x.log) n (E.end_at c.args.ends.now n) =
    subst (λ (v : DomainView). (n : ℕ) → n < length (ends_in v) → FitsEnd v n (E.end_at c.args.ends.now n)) (sym c.self.view_is) c.requires.fits in
    let p = c.recall_phase in
    let applies : Applies x.program x.state p.new.state p.new.answers.items (length x.log.entries) = subst (Applies x.program x.state p.new.state p.new.answers.items) c.len-ticks.ensures p.ensures.applies in
    let room : 1 ≤ x.log.room = subst (λ (v : DomainView). 1 ≤ v.spare) (sym c.self.view_is) c.requires.spare in
    let m = c.self.invariant.memory in
    let k = c.tick-ended in
    let two : State = record { registers = k.new.registers; standing = p.new.state.standing; joins = p.new.state.joins; stamp = p.new.state.cause + 1; cause = p.new.state.cause + 1; stopped = p.new.state.stopped } in
    let made : MakesCodeTick x.program.codes (length x.log.entries) (register_at p.new.state.registers.items) (register_at k.new.registers.items) c.deref.result.now k.result =
    subst (λ l. MakesCodeTick x.program.codes (length x.log.entries) (register_at p.new.state.registers.items) (register_at k.new.registers.items) l k.result) (sym c.deref.ensures.value)
    (subst (λ n. MakesCodeTick x.program.codes n (register_at p.new.state.registers.items) (register_at k.new.registers.items) k.new.present.items k.result) c.len-ticks.ensures k.ensures.tick) in
    let asked : (i : ℕ) → i < length x.program.ends.items → get_or c.deref-4.result.now i None ≡ cond k.result None (ask_of x.program.codes.places.items i (end_at x.program.ends.items i).side (register_at k.new.registers.items)) =
    λ i less. ap (λ l. get_or l i None) c.deref-4.ensures.value ∙ c.ask.ensures.asks i less
    ∙ ap (λ l. cond k.result None (ask_of x.program.codes.places.items i (end_at x.program.ends.items i).side (register_at l))) c.deref-3.ensures.value in
    can_offer E.moved E.count E.end_at x.system.value x.domain x.program x.state p.new.state x.scratch x.log p.new.answers.items c.args.ends.now p.new.ends c.self.invariant going running fits p.ensures.recalls applies
    two two c.push.new.self c.deref.result.now c.deref-2.result.now c.deref-4.result.now [] p.new.ends k.result (p.new.state.cause + 1)
    room made k.ensures.registers refl refl refl refl (ap length p.ensures.standing ∙ c.self.invariant.parts.standing) refl c.if-stamp.false
    (c.deref-2.ensures.value ∙ m.zeros) c.push.ensures asked

pub invariant_of-self-2 : goal.invariant_of-self-2
invariant_of-self-2 g c =
    let x = c.self.inside in
    let E = g.E.Ends in
    let going : x.log.mark ≡ Going = ap (λ (v : DomainView). v.log.mark) c.self.view_is ∙ c.requires.going in
    let running : x.state.stopped ≡ false = ap (λ (v : DomainView). v.stopped) c.self.view_is ∙ c.requires.running in
    let fits : (n : ℕ) → n < length (ends_of (tables_of x.system.value) x.domain) → FitsEnd (view_of x.system.value x.domain x.state x.log) n (E.end_at c.args.ends.now n) =
    subst (λ (v : DomainView). (n : ℕ) → n < length (ends_in v) → FitsEnd v n (E.end_at c.args.ends.now n)) (sym c.self.view_is) c.requires.fits in
    let p = c.recall_phase in
    let applies : Applies x.program x.state p.new.state p.new.answers.items (length x.log.entries) = subst (Applies x.program x.state p.new.state p.new.answers.items) c.len-ticks.ensures p.ensures.applies in
    let room : 1 ≤ x.log.room = subst (λ (v : DomainView). 1 ≤ v.spare) (sym c.self.view_is) c.requires.spare in
    let m = c.self.invariant.memory in
    let k = c.tick-ended in
    let two : State = record { registers = k.new.registers; standing = p.new.state.standing; joins = p.new.state.joins; stamp = p.new.state.cause + 1; cause = p.new.state.cause + 1; stopped = p.new.state.stopped } in
    let made : MakesCodeTick x.program.codes (length x.log.entries) (register_at p.new.state.registers.items) (register_at k.new.registers.items) c.deref.result.now k.result =
    subst (λ l. MakesCodeTick x.program.codes (length x.log.entries) (register_at p.new.state.registers.items) (register_at k.new.registers.items) l k.result) (sym c.deref.ensures.value)
    (subst (λ n. MakesCodeTick x.program.codes n (register_at p.new.state.registers.items) (register_at k.new.registers.items) k.new.present.items k.result) c.len-ticks.ensures k.ensures.tick) in
    let asked : (i : ℕ) → i < length x.program.ends.items → get_or c.deref-4.result.now i None ≡ cond k.result None (ask_of x.program.codes.places.items i (end_at x.program.ends.items i).side (register_at k.new.registers.items)) =
    λ i less. ap (λ l. get_or l i None) c.deref-4.ensures.value ∙ c.ask.ensures.asks i less
    ∙ ap (λ l. cond k.result None (ask_of x.program.codes.places.items i (end_at x.program.ends.items i).side (register_at l))) c.deref-3.ensures.value in
    let o = c.offer_phase in
    let applies2 : Applies x.program two o.new.state o.new.replies.items (length c.push.new.self.entries) = subst (Applies x.program two o.new.state o.new.replies.items) c.len-made.ensures o.ensures.applies in
    let scratch : Scratch = record { answers = p.new.answers; replies = o.new.replies; asks = c.ask.new.asks; wires = k.new.wires; present = k.new.present; zeros = x.scratch.zeros } in
    let memory : HasScratch x.program scratch = record {
      answers = p.ensures.answers;
      replies = o.ensures.replies;
      asks = c.ask.ensures.len;
      wires = k.ensures.wires ∙ m.wires;
      present = k.ensures.present ∙ m.present;
      zeros = m.zeros;
    } in
    tick_keeps E.moved E.count E.end_at x.system.value x.domain x.program x.state p.new.state x.scratch x.log p.new.answers.items c.args.ends.now p.new.ends c.self.invariant going running fits p.ensures.recalls applies
    two o.new.state c.push.new.self c.deref.result.now c.deref-2.result.now c.deref-4.result.now o.new.replies.items o.new.ends k.result (p.new.state.cause + 1)
    room made k.ensures.registers refl refl refl refl (ap length p.ensures.standing ∙ c.self.invariant.parts.standing) refl c.if-stamp.false
    (c.deref-2.ensures.value ∙ m.zeros) c.push.ensures asked o.ensures.offers applies2 o.ensures.standing o.ensures.length scratch memory

pub returns-clause-step : goal.returns-clause-step
returns-clause-step g c =
    let x = c.self.inside in
    let E = g.E.Ends in
    let going : x.log.mark ≡ Going = ap (λ (v : DomainView). v.log.mark) c.self.view_is ∙ c.requires.going in
    let running : x.state.stopped ≡ false = ap (λ (v : DomainView). v.stopped) c.self.view_is ∙ c.requires.running in
    let fits : (n : ℕ) → n < length (ends_of (tables_of x.system.value) x.domain) → FitsEnd (view_of x.system.value x.domain x.state x.log) n (E.end_at c.args.ends.now n) =
    subst (λ (v : DomainView). (n : ℕ) → n < length (ends_in v) → FitsEnd v n (E.end_at c.args.ends.now n)) (sym c.self.view_is) c.requires.fits in
    let p = c.recall_phase in
    let applies : Applies x.program x.state p.new.state p.new.answers.items (length x.log.entries) = subst (Applies x.program x.state p.new.state p.new.answers.items) c.len-ticks.ensures p.ensures.applies in
    let room : 1 ≤ x.log.room = subst (λ (v : DomainView). 1 ≤ v.spare) (sym c.self.view_is) c.requires.spare in
    let m = c.self.invariant.memory in
    let k = c.tick-ended in
    let two : State = record { registers = k.new.registers; standing = p.new.state.standing; joins = p.new.state.joins; stamp = p.new.state.cause + 1; cause = p.new.state.cause + 1; stopped = p.new.state.stopped } in
    let made : MakesCodeTick x.program.codes (length x.log.entries) (register_at p.new.state.registers.items) (register_at k.new.registers.items) c.deref.result.now k.result =
    subst (λ l. MakesCodeTick x.program.codes (length x.log.entries) (register_at p.new.state.registers.items) (register_at k.new.registers.items) l k.result) (sym c.deref.ensures.value)
    (subst (λ n. MakesCodeTick x.program.codes n (register_at p.new.state.registers.items) (register_at k.new.registers.items) k.new.present.items k.result) c.len-ticks.ensures k.ensures.tick) in
    let asked : (i : ℕ) → i < length x.program.ends.items → get_or c.deref-4.result.now i None ≡ cond k.result None (ask_of x.program.codes.places.items i (end_at x.program.ends.items i).side (register_at k.new.registers.items)) =
    λ i less. ap (λ l. get_or l i None) c.deref-4.ensures.value ∙ c.ask.ensures.asks i less
    ∙ ap (λ l. cond k.result None (ask_of x.program.codes.places.items i (end_at x.program.ends.items i).side (register_at l))) c.deref-3.ensures.value in
    let o = c.offer_phase in
    let applies2 : Applies x.program two o.new.state o.new.replies.items (length c.push.new.self.entries) = subst (Applies x.program two o.new.state o.new.replies.items) c.len-made.ensures o.ensures.applies in
    subst (λ r. IsStep E.moved (handed c.args.inputs.now) c.args.ends.now o.new.ends c.args.self.now (view_of x.system.value x.domain o.new.state c.push.new.self) r) (sym c.stepped_to.ensures)
    (subst (λ v. IsStep E.moved (handed c.args.inputs.now) c.args.ends.now o.new.ends v (view_of x.system.value x.domain o.new.state c.push.new.self) (stepped_to (cond k.result Ended Going))) c.self.view_is
    (tick_steps E.moved E.count E.end_at x.system.value x.domain x.program x.state p.new.state x.scratch x.log p.new.answers.items c.args.ends.now p.new.ends c.self.invariant going running fits p.ensures.recalls applies
    two o.new.state c.push.new.self c.deref.result.now c.deref-2.result.now c.deref-4.result.now o.new.replies.items o.new.ends k.result (p.new.state.cause + 1)
    room made k.ensures.registers refl refl refl refl (ap length p.ensures.standing ∙ c.self.invariant.parts.standing) refl c.if-stamp.false
    (c.deref-2.ensures.value ∙ m.zeros) c.push.ensures asked o.ensures.offers applies2 o.ensures.standing o.ensures.length (handed c.args.inputs.now)))

pub returns-clause-leaves : goal.returns-clause-leaves
returns-clause-leaves g c =
    let x = c.self.inside in
    let E = g.E.Ends in
    let going : x.log.mark ≡ Going = ap (λ (v : DomainView). v.log.mark) c.self.view_is ∙ c.requires.going in
    let running : x.state.stopped ≡ false = ap (λ (v : DomainView). v.stopped) c.self.view_is ∙ c.requires.running in
    let fits : (n : ℕ) → n < length (ends_of (tables_of x.system.value) x.domain) → FitsEnd (view_of x.system.value x.domain x.state x.log) n (E.end_at c.args.ends.now n) =
    subst (λ (v : DomainView). (n : ℕ) → n < length (ends_in v) → FitsEnd v n (E.end_at c.args.ends.now n)) (sym c.self.view_is) c.requires.fits in
    let p = c.recall_phase in
    let applies : Applies x.program x.state p.new.state p.new.answers.items (length x.log.entries) = subst (Applies x.program x.state p.new.state p.new.answers.items) c.len-ticks.ensures p.ensures.applies in
    let room : 1 ≤ x.log.room = subst (λ (v : DomainView). 1 ≤ v.spare) (sym c.self.view_is) c.requires.spare in
    let m = c.self.invariant.memory in
    let k = c.tick-ended in
    let two : State = record { registers = k.new.registers; standing = p.new.state.standing; joins = p.new.state.joins; stamp = p.new.state.cause + 1; cause = p.new.state.cause + 1; stopped = p.new.state.stopped } in
    let made : MakesCodeTick x.program.codes (length x.log.entries) (register_at p.new.state.registers.items) (register_at k.new.registers.items) c.deref.result.now k.result =
    subst (λ l. MakesCodeTick x.program.codes (length x.log.entries) (register_at p.new.state.registers.items) (register_at k.new.registers.items) l k.result) (sym c.deref.ensures.value)
    (subst (λ n. MakesCodeTick x.program.codes n (register_at p.new.state.registers.items) (register_at k.new.registers.items) k.new.present.items k.result) c.len-ticks.ensures k.ensures.tick) in
    let asked : (i : ℕ) → i < length x.program.ends.items → get_or c.deref-4.result.now i None ≡ cond k.result None (ask_of x.program.codes.places.items i (end_at x.program.ends.items i).side (register_at k.new.registers.items)) =
    λ i less. ap (λ l. get_or l i None) c.deref-4.ensures.value ∙ c.ask.ensures.asks i less
    ∙ ap (λ l. cond k.result None (ask_of x.program.codes.places.items i (end_at x.program.ends.items i).side (register_at l))) c.deref-3.ensures.value in
    let o = c.offer_phase in
    let applies2 : Applies x.program two o.new.state o.new.replies.items (length c.push.new.self.entries) = subst (Applies x.program two o.new.state o.new.replies.items) c.len-made.ensures o.ensures.applies in
    subst (λ (v : DomainView). (n : ℕ) → n < length (ends_in v) → LeavesEnd (view_of x.system.value x.domain o.new.state c.push.new.self) n (E.end_at c.args.ends.now n) (E.end_at o.new.ends n)) c.self.view_is
    (tick_leaves E.moved E.count E.end_at x.system.value x.domain x.program x.state p.new.state x.scratch x.log p.new.answers.items c.args.ends.now p.new.ends c.self.invariant going running fits p.ensures.recalls applies
    two o.new.state c.push.new.self c.deref.result.now c.deref-2.result.now c.deref-4.result.now o.new.replies.items o.new.ends k.result (p.new.state.cause + 1)
    room made k.ensures.registers refl refl refl refl (ap length p.ensures.standing ∙ c.self.invariant.parts.standing) refl c.if-stamp.false
    (c.deref-2.ensures.value ∙ m.zeros) c.push.ensures asked o.ensures.offers applies2 o.ensures.standing o.ensures.length)

pub tick-ended-requires-clause-registers : goal.tick-ended-requires-clause-registers
tick-ended-requires-clause-registers g c =
    let x = c.self.inside in
    let k = c.self.invariant in
    let applies = c.recall_phase.ensures.applies in
    omega (arith, k.is_program.are.register_count, registers-whole (tables_of x.system.value) k.source, count_registers (tables_of x.system.value) x.domain (whole k.source), k.is_state.registers, applies.register_count)
