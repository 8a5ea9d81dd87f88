-- A live resuming copy tells a tick of the statement that its registers stand for.
use Rattle.std.proofs.Common.{◌≡◌, ℕ, suc, ◌+◌, ◌==◌, ℤ, pos, Bool, true, false, ◌&&◌, ◌||◌, not, cond, List, [], ◌∷◌, ◌++◌, refl, sym, ap, ap₂, ◌∙◌, subst, arith, Option, Some, None}
use Rattle.java_values.specs.Arithmetic.{is_true}
use Rattle.java_values.specs.declared.kind.Kind.{Kind}
use Rattle.java_values.specs.declared.kind.Kind.TheVariants as kind
use Rattle.kernel_terms.specs.declared.tables.Tables.{Tables}
use Rattle.kernel_terms.specs.TableEntries.{signal_at}
use Rattle.kernel_terms.specs.Expressions.{Literal}
use Rattle.kernel_terms.specs.Statements.{Stmt, Nothing, Pause, Emit, Assign, If, Present, Seq, Loop, Par, Trap, Exit, Abort, Suspend, Local, Send, Receive, SendWaits, Sent, ReceiveWaits, Received}
use Rattle.kernel_terms.specs.MayEnd.{ends0, ends1}
use Rattle.kernel_rules.specs.definitions.Signals.{Env}
use Rattle.kernel_rules.specs.definitions.Expressions.{holds}
use Rattle.kernel_rules.specs.definitions.Registers.{registers, live, residual, last_value, LivesApart}
use Rattle.surf_graph.proofs.Booleans.{or_right}
use Rattle.std.specs.Int.{int_max}
use Rattle.surf_graph.specs.definitions.Formulas.{Satisfies, formula_value, is_on, told, told_env}
use Rattle.surf_graph.specs.definitions.Copies.{fold_info, Copy, Context, Sets, below, from, joined, behind, starting_if, other_context, joins, both_write, start_context, part_context, turn_own, live_own, branch_context, second_branch, weak_context, tested_context, local_context, own_registers, fold_emits}
use Rattle.surf_graph.specs.definitions.StartingCopies.{start}
use Rattle.depth_graph.specs.definitions.ResumingCopies.{writes1, writes_behind, resume, held_context, last_formula, waiting_copy}
use Rattle.surf_graph.specs.definitions.Tells.{Off, Stands, registers_set, set_value}
use Rattle.surf_graph.proofs.SetValues.{truth_of, satisfies_front, satisfies_back, off_joined, off_from, set_after_off, at_from, is_less}
use Rattle.surf_graph.proofs.Parts.{by_cases, status_is}
use Rattle.surf_graph.proofs.Beside.{and_off, and_swap}
use Rattle.surf_graph.proofs.Locals.{local_equations}
use Rattle.surf_graph.proofs.StartSilent.{start_silent, silent_if, silent_pair, ended_wire, first_off, tested_says}
use Rattle.surf_graph.proofs.StartActive.{keeps_says, same_number, other_number}
use Rattle.depth_graph.proofs.ResumeQuiet.{live_wire, and_wire, and_not_wire, waiting_off, resume_silent}
use Rattle.kernel_terms.specs.MayEnd.{LoopsWait}
use Rattle.kernel_rules.specs.definitions.TickRule.{Tick, Ticks, Chosen, Aborts, has_ended, quiet, ends_with, as_whole, writes}
use Rattle.kernel_rules.specs.definitions.Registers.{OverOrLive}
use Rattle.kernel_rules.proofs.StartingTicks.{ended_zero}
use Rattle.kernel_rules.proofs.ResumingTicks.{resuming_allows}
use Rattle.kernel_rules.proofs.ResidualNames.{residual_writes}
use Rattle.surf_graph.proofs.Booleans.{other_one}
use Rattle.surf_graph.specs.definitions.Tells.{Active}
use Rattle.surf_graph.specs.definitions.Sources.{IsSource}
use Rattle.surf_graph.proofs.RegisterRanges.{Dead, dead, stands_still, remain}
use Rattle.surf_graph.proofs.Parts.{Seq_second, first_alone, second_alone, turn_active}
use Rattle.depth_graph.proofs.ResumePasses.{resume_passes, behind_passes}
use Rattle.surf_graph.proofs.Alternatives.{active_first, active_second}
use Rattle.surf_graph.proofs.Beside.{Branch, branch_ticks, branch_over, par_active}
use Rattle.surf_graph.proofs.Wraps.{trap_active, weak_active, tested_goes, strong_stops, suspend_stops, abort_stands, suspend_stands}
use Rattle.surf_graph.proofs.LocalCopies.{local_active}
use Rattle.depth_graph.proofs.BranchVariables.{same_variables}
use Rattle.surf_graph.proofs.StartSilent.{start_silent}
use Rattle.surf_graph.proofs.StartActive.{start_active, active_if, has_ended_status, choice_first, choice_second, seq_active, present_stands, loop_stands, set_on, status_on}
use Rattle.depth_graph.proofs.ResumeHeld.{resume_held}

-- registers of a part behind copies that set none
pub late_dead : (tables : Tables) (w : ℕ → ℤ) (p : Stmt) (n : ℕ) (s t : ℕ → List Sets) → Off w s → Dead tables p n (registers_set w (joined s (from (n + registers tables p) t)))
late_dead tables w p n s t off =
    let m = n + registers tables p in
    dead tables p n (registers_set w (joined s (from m t))) (record { at = λ k ge lt. set_after_off w (s k) (from m t k) (off.each k) ∙ ap (λ b. set_value w (cond b [] (t k))) (is_less k m lt) })

pub late_stands : (tables : Tables) (w : ℕ → ℤ) (q x : Stmt) (m : ℕ) (s t : ℕ → List Sets) → Off w s → Stands tables q m (registers_set w t) x → Stands tables q m (registers_set w (joined s (from m t))) x
late_stands tables w q x m s t off h =
    stands_still tables q m (registers_set w t) (registers_set w (joined s (from m t))) x
    (remain tables q m (registers_set w t) (registers_set w (joined s (from m t))) (record { at = λ k ge lt. sym (set_after_off w (s k) (from m t k) (off.each k) ∙ at_from w m k t ge) })) h

pub idle_if : (go a : Bool) → a ≡ false → go && a ≡ false
idle_if go a h = and_off go a h

pub second_idle_if : (a b : Bool) → a ≡ true → a && b ≡ false → b ≡ false
second_idle_if a b e h = sym (ap (λ x. x && b) e) ∙ h

-- a branch that is live or isn't
resumed_branch : (tables : Tables) (last : ℕ → ℤ) (env : Env) (x w : ℕ → ℤ) (p R : Stmt) (n keep : ℕ) (copy : Copy) (b : Bool)
    → (b ≡ true → Branch tables last env x w p R n keep copy) → (b ≡ false → Branch tables last env x w p Nothing n keep copy) → Branch tables last env x w p (cond b R Nothing) n keep copy
resumed_branch tables last env x w p R n keep copy true f g = f refl
resumed_branch tables last env x w p R n keep copy false f g = g refl

pub branch_writes : (tables : Tables) (p : Stmt) (n : ℕ) (f : ℕ → ℤ) (b : Bool) (y : ℕ) → writes (cond b (residual tables p n f) Nothing) y ≡ true → writes p y ≡ true
branch_writes tables p n f true y h = residual_writes tables p n f y h
branch_writes tables p n f false y h = cc

pub over_is : (p : Stmt) (b : Bool) → b ≡ false → OverOrLive b p → ends0 p || ends1 p ≡ true
over_is p b e h = sym (ap (λ x. x || (ends0 p || ends1 p)) e) ∙ h

-- the copy of a part that ticks isn't quiet
pub not_quiet : (w : ℕ → ℤ) (s code : ℕ) → w s ≡ pos (suc code) → w s ≡ pos 0 → ⊥
not_quiet w s code h k = cc

pause_active : (tables : Tables) (f w : ℕ → ℤ) (c : Context) → Satisfies f w (resume tables Pause c).equations → is_on w c.go ≡ true → is_on w c.hold ≡ false → is_true (f c.register) ≡ true
    → Active tables (told w c.wires.last) (told_env w c.wires) (told w c.wires.variables) w Pause Nothing c.register c.keep (resume tables Pause c)
pause_active tables f w c h on free alive =
    let n = c.next in
    record {
      tick = ends_with [] (told w c.wires.variables);
      ticks = refl;
      tells = record {
        status = status_on w (n + 2) (n + 1) 0 h.1.1.0 (and_wire w (n + 1) c.go n h.1.0 ∙ ap₂ (λ x y. x && y) on (ap is_true h.0 ∙ alive));
        emits = refl;
        variables = refl;
        pure = tt;
        sets = λ e. cc;
        unset = λ e. record { each = λ k. (first_off w (n + 3) c.hold c.keep h.1.1.1.0 free, tt) };
      };
    }

-- What the wires of a send or receive that is on say: it ends where it has met, and else waits on.
record Waits (f w : ℕ → ℤ) (c : Context) (met : Bool) : Type 0 where
  status : w (c.next + 7) ≡ pos (suc (cond met 0 1))
  held : is_on w (c.next + 8) ≡ false
  set : is_on w (c.next + 9) ≡ not met && is_on w c.keep

waits_says : (f w : ℕ → ℤ) (c : Context) (met : Bool) → is_true (f (c.register + 1)) ≡ met → Satisfies f w (waiting_copy c).equations → is_on w c.go ≡ true → is_on w c.hold ≡ false → is_true (f c.register) ≡ true → Waits f w c met
waits_says f w c met e h on free alive =
    let n = c.next in
    let go : is_on w (n + 3) ≡ true = and_wire w (n + 3) c.go n h.1.1.1.0 ∙ ap₂ (λ x y. x && y) on (ap is_true h.0 ∙ alive) in
    let stay : is_on w (n + 4) ≡ not met = and_not_wire w (n + 4) (n + 3) (n + 1) h.1.1.1.1.0 ∙ ap₂ (λ x y. x && not y) go (ap is_true h.1.0 ∙ e) in
    record {
      status = stop met (status_on w (n + 5) (n + 3) 0 h.1.1.1.1.1.0 go) (h.1.1.1.1.1.1.0 ∙ ap (λ b. cond b (pos 2) (pos 0)) stay) h.1.1.1.1.1.1.1.0;
      held = first_off w (n + 8) c.hold c.keep h.1.1.1.1.1.1.1.1.0 free;
      set = and_wire w (n + 9) (n + 4) c.keep h.1.1.1.1.1.1.1.1.1.0 ∙ ap (λ b. b && is_on w c.keep) stay;
    } where
      stop : (b : Bool) → w (c.next + 5) ≡ pos 1 → w (c.next + 6) ≡ cond (not b) (pos 2) (pos 0) → w (c.next + 7) ≡ int_max (w (c.next + 5)) (w (c.next + 6)) → w (c.next + 7) ≡ pos (suc (cond b 0 1))
      stop true a b k = status_is w (c.next + 7) (c.next + 5) (c.next + 6) 1 0 1 k a b refl
      stop false a b k = status_is w (c.next + 7) (c.next + 5) (c.next + 6) 1 2 2 k a b refl

-- one that is on and ends, or waits on
waiting_active : (tables : Tables) (f w : ℕ → ℤ) (p over waits : Stmt) (c : Context) → Satisfies f w (waiting_copy c).equations → is_on w c.go ≡ true → is_on w c.hold ≡ false → is_true (f c.register) ≡ true
    → (met : Bool) → is_true (f (c.register + 1)) ≡ met
    → Ticks tables (told w c.wires.last) over (told_env w c.wires) (told w c.wires.variables) (ends_with [] (told w c.wires.variables))
    → Ticks tables (told w c.wires.last) waits (told_env w c.wires) (told w c.wires.variables) (quiet 1 waits (told w c.wires.variables))
    → (is_on w (c.next + 8) ≡ false → is_on w (c.next + 9) ≡ true → Stands tables p c.register (registers_set w (waiting_copy c).sets) waits)
    → Active tables (told w c.wires.last) (told_env w c.wires) (told w c.wires.variables) w p (cond met over waits) c.register c.keep (waiting_copy c)
waiting_active tables f w p over waits c h on free alive true e ends stays stands =
    let s = waits_says f w c true e h on free alive in
    record {
      tick = ends_with [] (told w c.wires.variables);
      ticks = ends;
      tells = record { status = s.status; emits = refl; variables = refl; pure = tt; sets = λ i. cc; unset = λ i. waiting_off f w c s.held s.set };
    }
waiting_active tables f w p over waits c h on free alive false e ends stays stands =
    let s = waits_says f w c false e h on free alive in
    record {
      tick = quiet 1 waits (told w c.wires.variables);
      ticks = stays;
      tells = record { status = s.status; emits = refl; variables = refl; pure = tt; sets = λ i. stands s.held (s.set ∙ i); unset = λ i. waiting_off f w c s.held (s.set ∙ i) };
    }

-- the registers of one that waits on
record WaitSets (f w : ℕ → ℤ) (c : Context) : Type 0 where
  on : is_true (registers_set w (waiting_copy c).sets c.register) ≡ true
  met : registers_set w (waiting_copy c).sets (c.register + 1) ≡ pos 0
  value : registers_set w (waiting_copy c).sets (c.register + 2) ≡ w (c.next + 2)

wait_sets : (f w : ℕ → ℤ) (c : Context) → is_on w (c.next + 8) ≡ false → is_on w (c.next + 9) ≡ true → WaitSets f w c
wait_sets f w c held set =
    let n = c.next in
    let g = c.register in
    let first = record { condition = n + 8; value = n } ∷ record { condition = n + 9; value = n + 9 } ∷ [] in
    let second = record { condition = n + 8; value = n + 1 } ∷ [] in
    let third = record { condition = n + 8; value = n + 2 } ∷ record { condition = n + 9; value = n + 2 } ∷ [] in
    record {
      on = ap (λ b. is_true (set_value w (cond b first (cond (g == g + 1) second third)))) (same_number g) ∙ ap (λ b. is_true (cond b (w n) (cond (is_on w (n + 9)) (w (n + 9)) (pos 0)))) held ∙ set_on w (n + 9) set;
      met = ap₂ (λ b d. set_value w (cond b first (cond d second third))) (other_number (g + 1) g (omega arith)) (same_number (g + 1)) ∙ ap (λ b. cond b (w (n + 1)) (pos 0)) held;
      value = ap₂ (λ b d. set_value w (cond b first (cond d second third))) (other_number (g + 2) g (omega arith)) (other_number (g + 2) (g + 1) (omega arith)) ∙ ap₂ (λ b d. cond b (w (n + 2)) (cond d (w (n + 2)) (pos 0))) held set;
    }

pub resume_active : (tables : Tables) (f w : ℕ → ℤ) (p : Stmt) (c : Context) → IsSource tables p → LoopsWait p → w 0 ≡ pos 0 → Satisfies f w (resume tables p c).equations → is_on w c.go ≡ true → is_on w c.hold ≡ false
    → live tables p c.register f ≡ true → LivesApart tables p c.register f
    → Active tables (told w c.wires.last) (told_env w c.wires) (told w c.wires.variables) w p (residual tables p c.register f) c.register c.keep (resume tables p c)
resume_active tables f w Nothing c src l z h on free alive apart = cc
resume_active tables f w Pause c src l z h on free alive apart = pause_active tables f w c h on free alive
resume_active tables f w (Emit s e) c src l z h on free alive apart = cc
resume_active tables f w (Assign y e) c src l z h on free alive apart = cc
resume_active tables f w (If e p q) c src l z h on free alive apart =
    let n = c.next in
    let g = c.register in
    let m = g + registers tables p in
    let a = resume tables p (part_context c.go 2 c) in
    let d = other_context c.go m a c in
    let b = resume tables q d in
    let J = joins b.live b.next a.variables b.variables (both_write (writes1 p) (writes1 q)) in
    let js = satisfies_front f w J (a.equations ++ b.equations) h.1.1 in
    let hr = satisfies_back f w J (a.equations ++ b.equations) h.1.1 in
    let ha = satisfies_front f w a.equations b.equations hr in
    let hb = satisfies_back f w a.equations b.equations hr in
    let last = told w c.wires.last in
    let env = told_env w c.wires in
    let x = told w c.wires.variables in
    let first = live tables p g f in
    let second = live tables q m f in
    let R = residual tables p g f in
    let S = residual tables q m f in
    by_cases first
    (λ i. subst (λ T. Active tables last env x w (If e p q) T g c.keep (resume tables (If e p q) c)) (sym (ap (λ b. cond b R S) i))
    (choice_first tables last env x f w (writes1 p) (writes1 q) b.live e p q R (If e p q) R g c.keep n (n + 1) (live_own (n + 1) a b) a b h.0 js (live_wire tables f w q d z hb ∙ second_idle_if first second i apart.0) (λ y k. ap w (resume_passes tables p (part_context c.go 2 c) y k))
    (resume_active tables f w p (part_context c.go 2 c) src.0 l.0 z ha on free i apart.1)
    (resume_silent tables f w q d z hb (idle_if (is_on w c.go) second (second_idle_if first second i apart.0)) free) (λ o k. k) (λ s r k. k)))
    (λ i. subst (λ T. Active tables last env x w (If e p q) T g c.keep (resume tables (If e p q) c)) (sym (ap (λ b. cond b R S) i))
    (choice_second tables last env x f w (writes1 p) (writes1 q) b.live e p q S (If e p q) S g c.keep n (n + 1) (live_own (n + 1) a b) a b h.0 js (live_wire tables f w q d z hb ∙ other_one first second alive i) (λ y k. ap w (resume_passes tables q d y k))
    (resume_silent tables f w p (part_context c.go 2 c) z ha (idle_if (is_on w c.go) first i) free)
    (resume_active tables f w q d src.1 l.1 z hb on free (other_one first second alive i) apart.2) (λ o k. k) (λ s r k. k)))
resume_active tables f w (Present t p q) c src l z h on free alive apart =
    let n = c.next in
    let g = c.register in
    let m = g + registers tables p in
    let a = resume tables p (part_context c.go 2 c) in
    let d = other_context c.go m a c in
    let b = resume tables q d in
    let J = joins b.live b.next a.variables b.variables (both_write (writes1 p) (writes1 q)) in
    let js = satisfies_front f w J (a.equations ++ b.equations) h.1.1 in
    let hr = satisfies_back f w J (a.equations ++ b.equations) h.1.1 in
    let ha = satisfies_front f w a.equations b.equations hr in
    let hb = satisfies_back f w a.equations b.equations hr in
    let last = told w c.wires.last in
    let env = told_env w c.wires in
    let x = told w c.wires.variables in
    let first = live tables p g f in
    let second = live tables q m f in
    let R = residual tables p g f in
    let S = residual tables q m f in
    let e = Literal kind.Int (pos 0) in
    by_cases first
    (λ i. subst (λ T. Active tables last env x w (Present t p q) T g c.keep (resume tables (Present t p q) c)) (sym (ap (λ b. cond b R S) i))
    (choice_first tables last env x f w (writes1 p) (writes1 q) b.live e p q R (Present t p q) R g c.keep n (n + 1) (live_own (n + 1) a b) a b h.0 js (live_wire tables f w q d z hb ∙ second_idle_if first second i apart.0) (λ y k. ap w (resume_passes tables p (part_context c.go 2 c) y k))
    (resume_active tables f w p (part_context c.go 2 c) src.0 l.0 z ha on free i apart.1)
    (resume_silent tables f w q d z hb (idle_if (is_on w c.go) second (second_idle_if first second i apart.0)) free) (λ o k. k) (λ s r k. present_stands tables e t p q s g r k)))
    (λ i. subst (λ T. Active tables last env x w (Present t p q) T g c.keep (resume tables (Present t p q) c)) (sym (ap (λ b. cond b R S) i))
    (choice_second tables last env x f w (writes1 p) (writes1 q) b.live e p q S (Present t p q) S g c.keep n (n + 1) (live_own (n + 1) a b) a b h.0 js (live_wire tables f w q d z hb ∙ other_one first second alive i) (λ y k. ap w (resume_passes tables q d y k))
    (resume_silent tables f w p (part_context c.go 2 c) z ha (idle_if (is_on w c.go) first i) free)
    (resume_active tables f w q d src.1 l.1 z hb on free (other_one first second alive i) apart.2) (λ o k. k) (λ s r k. present_stands tables e t p q s g r k)))
resume_active tables f w (Seq p q) c src l z h on free alive apart =
    let n = c.next in
    let g = c.register in
    let m = g + registers tables p in
    let a = resume tables p (part_context c.go 5 c) in
    let d = start_context (n + 4) m a c in
    let b = starting_if (ends1 p) (start tables q d) d in
    let x = behind (n + 2) a.live (below m a.sets) (from m b.sets) (turn_own (n + 4) a) a b in
    let y = resume tables q (other_context c.go m x c) in
    let J = joins y.live y.next x.variables y.variables (both_write (writes_behind p q) (writes1 q)) in
    let js = satisfies_front f w J (x.equations ++ y.equations) h.1.1 in
    let hr = satisfies_back f w J (x.equations ++ y.equations) h.1.1 in
    let hx = satisfies_front f w x.equations y.equations hr in
    let hy = satisfies_back f w x.equations y.equations hr in
    let ha = satisfies_front f w a.equations b.equations hx.1.1 in
    let hb = satisfies_back f w a.equations b.equations hx.1.1 in
    let last = told w c.wires.last in
    let env = told_env w c.wires in
    let vars = told w c.wires.variables in
    let first = live tables p g f in
    let second = live tables q m f in
    let R = residual tables p g f in
    let S = residual tables q m f in
    by_cases first
    (λ i.
    let u = resume_active tables f w p (part_context c.go 5 c) src.0 l.0 z ha on free i apart.1 in
    let j = resume_silent tables f w q (other_context c.go m x c) z hy (idle_if (is_on w c.go) second (second_idle_if first second i apart.0)) free in
    let go : is_on w (n + 4) ≡ has_ended (u.tick).code = ended_wire w (n + 4) a.status (suc (u.tick).code) hx.1.0 (u.tells).status ∙ has_ended_status (u.tick).code in
    let turn = seq_active tables last env vars w p q R g c.keep (n + 2) a.live (turn_own (n + 4) a) a b hx.0 u
    (λ e. active_if tables last env f (told w a.variables) w q q m c.keep (ends1 p) (start tables q d) d
    ((resuming_allows tables last p g f env vars u.tick i apart.1 u.ticks).ends (ended_zero (u.tick).code e)) hb
    (λ k. start_active tables f w q d src.1 l.1 z k (go ∙ e) (ap is_true z)))
    (λ e. silent_if f w (told w a.variables) (ends1 p) (start tables q d) d z hb (λ k. start_silent tables f w q d z k (go ∙ e) (ap is_true z))) in
    subst (λ T. Active tables last env vars w (Seq p q) T g c.keep (resume tables (Seq p q) c)) (sym (ap (λ b. cond b (Seq R q) S) i))
    (active_first tables last env vars f w (writes_behind p q) (writes1 q) y.live (Seq p q) (Seq R q) (Seq p q) (Seq R q) g g c.keep n (n + 1) x.sets (from m y.sets) (live_own (n + 1) x y) x y h.0 js (live_wire tables f w q (other_context c.go m x c) z hy ∙ second_idle_if first second i apart.0) (λ k e. ap w (behind_passes tables p q c k e)) turn j.quiet (λ o k. k)
    (λ s k. first_alone tables w (Seq p q) s g x.sets (from m y.sets) (off_from w m y.sets j.sets) k) (λ k. off_joined w x.sets (from m y.sets) k (off_from w m y.sets j.sets))))
    (λ i.
    let u = resume_silent tables f w p (part_context c.go 5 c) z ha (idle_if (is_on w c.go) first i) free in
    let go = ended_wire w (n + 4) a.status 0 hx.1.0 (u.quiet).status in
    let v = silent_if f w (told w a.variables) (ends1 p) (start tables q d) d z hb (λ k. start_silent tables f w q d z k go (ap is_true z)) in
    let silent = silent_pair w vars (n + 2) a.live m (turn_own (n + 4) a) a b hx.0 u v in
    let j = resume_active tables f w q (other_context c.go m x c) src.1 l.1 z hy on free (other_one first second alive i) apart.2 in
    let r = registers_set w (joined x.sets (from m y.sets)) in
    subst (λ T. Active tables last env vars w (Seq p q) T g c.keep (resume tables (Seq p q) c)) (sym (ap (λ b. cond b (Seq R q) S) i))
    (active_second tables last env vars f w (writes_behind p q) (writes1 q) y.live q S (Seq p q) S m g c.keep n (n + 1) x.sets (from m y.sets) (live_own (n + 1) x y) x y h.0 js (live_wire tables f w q (other_context c.go m x c) z hy ∙ other_one first second alive i) (λ k e. ap w (resume_passes tables q (other_context c.go m x c) k e)) silent.quiet j (λ o k. k)
    (λ s k. Seq_second tables p q s g r (late_dead tables w p g x.sets y.sets silent.sets) (late_stands tables w q s m x.sets y.sets silent.sets k))
    (λ k. off_joined w x.sets (from m y.sets) silent.sets (off_from w m y.sets k))))
resume_active tables f w (Loop p) c src l z h on free alive apart =
    let n = c.next in
    let g = c.register in
    let a = resume tables p (part_context c.go 3 c) in
    let d = start_context (n + 2) c.register a c in
    let b = starting_if (ends1 p) (start tables p d) d in
    let ha = satisfies_front f w a.equations b.equations h.1.1 in
    let hb = satisfies_back f w a.equations b.equations h.1.1 in
    let last = told w c.wires.last in
    let env = told_env w c.wires in
    let vars = told w c.wires.variables in
    let R = residual tables p g f in
    let u = resume_active tables f w p (part_context c.go 3 c) src l.1 z ha on free alive apart in
    let go : is_on w (n + 2) ≡ has_ended (u.tick).code = ended_wire w (n + 2) a.status (suc (u.tick).code) h.1.0 (u.tells).status ∙ has_ended_status (u.tick).code in
    turn_active tables last env vars w p (Loop p) R (Loop p) (Loop p) g g g c.keep n a.live a.sets b.sets (turn_own (n + 2) a) a b h.0 u
    (λ e. active_if tables last env f (told w a.variables) w (Loop p) (Loop p) g c.keep (ends1 p) (start tables p d) d
    ((resuming_allows tables last p g f env vars u.tick alive apart u.ticks).ends (ended_zero (u.tick).code e)) hb
    (λ k. start_active tables f w (Loop p) d src l z k (go ∙ e) (ap is_true z)))
    (λ e. silent_if f w (told w a.variables) (ends1 p) (start tables p d) d z hb (λ k. start_silent tables f w p d z k (go ∙ e) (ap is_true z)))
    (λ s off i. first_alone tables w (Loop p) (Seq s (Loop p)) g a.sets b.sets off (loop_stands tables p s g (registers_set w a.sets) i))
    (λ s off i. second_alone tables w (Loop p) s g a.sets b.sets off i)
    (λ i j. off_joined w a.sets b.sets i j)
resume_active tables f w (Par p q) c src l z h on free alive apart =
    let n = c.next in
    let g = c.register in
    let m = g + registers tables p in
    let a = resume tables p (branch_context c) in
    let b = resume tables q (second_branch tables p c a) in
    let r = h.1.1.1.1.1 in
    let ha = satisfies_front f w a.equations b.equations r in
    let hb = satisfies_back f w a.equations b.equations r in
    let last = told w c.wires.last in
    let env = told_env w c.wires in
    let x = told w c.wires.variables in
    let first = live tables p g f in
    let second = live tables q m f in
    let R = residual tables p g f in
    let S = residual tables q m f in
    let over = apart.0 alive in
    let u : first ≡ true → Active tables last env x w p R g n a = λ i. resume_active tables f w p (branch_context c) src.1 l.0 z ha on free i apart.1 in
    let v : second ≡ true → Active tables last env x w q S m n b = λ i. resume_active tables f w q (second_branch tables p c a) src.2 l.1 z hb on free i apart.2 in
    par_active tables last env x w p q (cond first R Nothing) (cond second S Nothing) (c.next + 4) (live_own (c.next + 4) a b) c a b h.1.1.1.0 (keeps_says w n (n + 1) (n + 2) (n + 3) c.keep c.hold h.0 h.1.0 h.1.1.0) free
    (resumed_branch tables last env x w p R g n a first
    (λ i. let k = u i in branch_ticks tables last env x w p R g n a k (λ e. or_right (ends0 p) (ends1 p) ((resuming_allows tables last p g f env x k.tick i apart.1 k.ticks).ends e)))
    (λ i. branch_over tables last env x w p g n a (resume_silent tables f w p (branch_context c) z ha (idle_if (is_on w c.go) first i) free) (over_is p first i over.0)))
    (resumed_branch tables last env x w q S m n b second
    (λ i. let k = v i in branch_ticks tables last env x w q S m n b k (λ e. or_right (ends0 q) (ends1 q) ((resuming_allows tables last q m f env x k.tick i apart.2 k.ticks).ends e)))
    (λ i. branch_over tables last env x w q m n b (resume_silent tables f w q (second_branch tables p c a) z hb (idle_if (is_on w c.go) second i) free) (over_is q second i over.1)))
    (λ e k. by_cases first
    (λ i. let t = u i in not_quiet w a.status (t.tick).code (t.tells).status e)
    (λ i. let t = v (other_one first second alive i) in not_quiet w b.status (t.tick).code (t.tells).status k))
    (λ o i k j. same_variables tables last env x p q (cond first R Nothing) (cond second S Nothing) o i src.0 (λ y. branch_writes tables p g f first y) (λ y. branch_writes tables q m f second y) k j)
resume_active tables f w (Trap p) c src l z h on free alive apart =
    trap_active tables (told w c.wires.last) (told_env w c.wires) (told w c.wires.variables) w p (residual tables p c.register f) c (resume tables p (part_context c.go 1 c)) h.0
    (resume_active tables f w p (part_context c.go 1 c) src l z h.1 on free alive apart)
resume_active tables f w (Exit d) c src l z h on free alive apart = cc
resume_active tables f w (Abort true armed t p) c src l z h on free alive apart =
    let n = c.next in
    let a = resume tables p (weak_context c) in
    weak_active tables (told w c.wires.last) (told_env w c.wires) (told w c.wires.variables) w armed t p (residual tables p c.register f) c a (ap is_true h.1.0 ∙ truth_of (holds (told_env w c.wires) t)) h.1.1.1.0
    (keeps_says w n (n + 4) (n + 2) (n + 3) c.keep c.hold h.0 h.1.1.1.1.0 h.1.1.0) free
    (resume_active tables f w p (weak_context c) src l z h.1.1.1.1.1 on free alive apart)
resume_active tables f w (Abort false armed t p) c src l z h on free alive apart =
    let a = resume tables p (tested_context c) in
    let last = told w c.wires.last in
    let env = told_env w c.wires in
    let x = told w c.wires.variables in
    let R = residual tables p c.register f in
    let s = tested_says f w t a.live 0 c a h in
    let ha = h.1.1.1.1.1.1.1 in
    let go : is_on w (c.next + 1) ≡ not (holds env t) = s.go ∙ ap₂ (λ i j. i && not j) on s.holds in
    by_cases (holds env t)
    (λ e. strong_stops tables last env x w armed t p R a.live c a s e on (live_wire tables f w p (tested_context c) z ha ∙ alive)
    (resume_silent tables f w p (tested_context c) z ha (ap (λ b. b && live tables p c.register f) (go ∙ ap not e)) free))
    (λ e. tested_goes tables last env x w t p R (Abort false armed t p) (Abort false true t R) (λ i. Abort false true t i) a.live 0 c a s e
    (resume_active tables f w p (tested_context c) src l z ha (go ∙ ap not e) free alive apart)
    (λ o k. subst (λ b. Chosen b (Aborts false (λ i. Ticks tables last R env x i) x (as_whole o.code (Abort false true t o.rest) o))
    ((i : Tick) × Ticks tables last R env x i × (as_whole o.code (Abort false true t o.rest) o ≡ as_whole i.code (Abort false true t i.rest) i))) (sym e) (o, k, refl))
    (λ i k. abort_stands tables false armed t p i c.register (registers_set w a.sets) k))
resume_active tables f w (Suspend armed t p) c src l z h on free alive apart =
    let a = resume tables p (held_context c) in
    let last = told w c.wires.last in
    let env = told_env w c.wires in
    let x = told w c.wires.variables in
    let R = residual tables p c.register f in
    let s = tested_says f w t a.live 1 c a h in
    let ha = h.1.1.1.1.1.1.1 in
    let ison : is_on w a.live ≡ true = live_wire tables f w p (held_context c) z ha ∙ alive in
    let go : is_on w (c.next + 1) ≡ not (holds env t) = s.go ∙ ap₂ (λ i j. i && not j) on s.holds in
    let stop : is_on w (c.next + 3) ≡ holds env t = s.stops ∙ ap₂ (λ i j. (i && j) && is_on w a.live) on s.holds ∙ ap (λ i. holds env t && i) ison ∙ and_swap (holds env t) true in
    let hold : is_on w (c.next + 5) ≡ holds env t = s.hold ∙ ap₂ (λ i j. i || j) free stop in
    by_cases (holds env t)
    (λ e. suspend_stops tables last env f x w armed t p a.live c a s e on ison alive apart (resume_held tables f w p (held_context c) z ha (go ∙ ap not e) (hold ∙ e)))
    (λ e. tested_goes tables last env x w t p R (Suspend armed t p) (Suspend true t R) (λ i. Suspend true t i) a.live 1 c a s e
    (resume_active tables f w p (held_context c) src.1 l z ha (go ∙ ap not e) (hold ∙ e) alive apart)
    (λ o k. subst (λ b. Chosen b (as_whole o.code (Suspend true t o.rest) o ≡ quiet 1 (Suspend true t R) x)
    ((i : Tick) × Ticks tables last R env x i × (as_whole o.code (Suspend true t o.rest) o ≡ as_whole i.code (Suspend true t i.rest) i))) (sym e) (o, k, refl))
    (λ i k. suspend_stands tables armed t p i c.register (registers_set w a.sets) k))
resume_active tables f w (Local s v p) c src l z h on free alive apart =
    let a = resume tables p (local_context tables s c) in
    let fold = fold_emits (fold_info tables s) s a.next 0 (c.next + 2) a.emits in
    let r = h.1.1.1.1.1.1 in
    let says = local_equations tables f w s (last_formula (signal_at tables s).kind c.register) c a z h (satisfies_front f w fold.equations a.equations r) in
    local_active tables (told w c.wires.last) (told w c.wires.variables) w s v (last_value (signal_at tables s).kind c.register f) p (residual tables p (c.register + own_registers tables s) f) c a _ _ says
    (h.1.1.0 ∙ last_is (signal_at tables s).kind c.register) (pure_last (signal_at tables s).kind c.register) free
    (resume_active tables f w p (local_context tables s c) src.1 l z (satisfies_back f w fold.equations a.equations r) on free alive apart) where
      last_is : (k : Option Kind) (n : ℕ) → formula_value f w (last_formula k n) ≡ last_value k n f
      last_is None n = refl
      last_is (Some k) n = refl

      pure_last : (k : Option Kind) (n : ℕ) → k ≡ None → last_value k n f ≡ pos 0
      pure_last None n e = refl
      pure_last (Some k) n e = cc
resume_active tables f w (Send ch e) c src l z h on free alive apart =
    let g = c.register in
    waiting_active tables f w (Send ch e) (Sent ch) (SendWaits ch (f (g + 2))) c h on free alive (is_true (f (g + 1))) refl refl refl
    (λ held set.
    let s = wait_sets f w c held set in
    record { fits = record { is_live = s.on; apart = tt }; residual = ap₂ (λ i j. cond (is_true i) (Sent ch) (SendWaits ch j)) s.met (s.value ∙ h.1.1.0) })
resume_active tables f w (Receive ch) c src l z h on free alive apart =
    let g = c.register in
    waiting_active tables f w (Receive ch) (Received ch) (ReceiveWaits ch) c h on free alive (is_true (f (g + 1))) refl refl refl
    (λ held set.
    let s = wait_sets f w c held set in
    record { fits = record { is_live = s.on; apart = tt }; residual = ap (λ i. cond (is_true i) (Received ch) (ReceiveWaits ch)) s.met })
resume_active tables f w (SendWaits ch v) c src l z h on free alive apart = cc
resume_active tables f w (Sent ch) c src l z h on free alive apart = cc
resume_active tables f w (ReceiveWaits ch) c src l z h on free alive apart = cc
resume_active tables f w (Received ch) c src l z h on free alive apart = cc
