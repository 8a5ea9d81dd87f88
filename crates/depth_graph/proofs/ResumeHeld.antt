-- A resuming copy that is held stays as it is.
use Rattle.std.proofs.Common.{◌≡◌, ℕ, ◌+◌, ℤ, pos, true, false, ◌&&◌, ◌||◌, not, cond, ◌++◌, refl, sym, ap, ap₂, ◌∙◌, arith, Option, Some, None}
use Rattle.java_values.specs.Arithmetic.{is_true}
use Rattle.java_values.specs.declared.kind.Kind.{Kind}
use Rattle.java_values.specs.declared.kind.Kind.TheVariants as kind
use Rattle.kernel_terms.specs.declared.tables.Tables.{Tables}
use Rattle.kernel_terms.specs.TableEntries.{signal_at}
use Rattle.kernel_terms.specs.Expressions.{Literal}
use Rattle.kernel_terms.specs.Statements.{Stmt, Nothing, Pause, Emit, Assign, If, Present, Seq, Loop, Par, Trap, Exit, Abort, Suspend, Local, Send, Receive, SendWaits, Sent, ReceiveWaits, Received}
use Rattle.kernel_terms.specs.MayEnd.{ends1}
use Rattle.kernel_rules.specs.definitions.Registers.{registers, last_value}
use Rattle.surf_graph.specs.definitions.Formulas.{Satisfies, formula_value, is_on, of_trap, told, told_env}
use Rattle.surf_graph.specs.definitions.Copies.{fold_info, Context, below, from, joined, behind, starting_if, other_context, joins, both_write, start_context, part_context, turn_own, live_own, branch_context, second_branch, weak_context, tested_context, local_context, fold_emits}
use Rattle.surf_graph.specs.definitions.StartingCopies.{start}
use Rattle.depth_graph.specs.definitions.ResumingCopies.{writes1, writes_behind, resume, held_context, last_formula}
use Rattle.surf_graph.specs.definitions.Tells.{Held, registers_set}
use Rattle.surf_graph.proofs.SetValues.{satisfies_front, satisfies_back, off_joined, off_from, set_before_off}
use Rattle.surf_graph.proofs.RegisterRanges.{remains_still, remain_If, remain_Seq, remain_Loop, remain_Trap, remain_Abort, remain_Suspend}
use Rattle.surf_graph.proofs.Parts.{quiet_behind}
use Rattle.surf_graph.proofs.Alternatives.{quiet_both}
use Rattle.surf_graph.proofs.Beside.{par_held}
use Rattle.surf_graph.proofs.Wraps.{weak_held, tested_quiet}
use Rattle.surf_graph.proofs.Locals.{local_equations}
use Rattle.surf_graph.proofs.LocalCopies.{local_held}
use Rattle.surf_graph.proofs.StartSilent.{start_silent, silent_if, ended_wire, second_off, tested_says}
use Rattle.surf_graph.proofs.StartActive.{keeps_says, and_on}
use Rattle.depth_graph.proofs.ResumeQuiet.{pause_quiet, waiting_quiet, waiting_off, held_nothing, held_pair, off_pair, three_first, three_last, waiting_stays}

pub resume_held : (tables : Tables) (f w : ℕ → ℤ) (p : Stmt) (c : Context) → w 0 ≡ pos 0 → Satisfies f w (resume tables p c).equations → is_on w c.go ≡ false → is_on w c.hold ≡ true
    → Held tables f w (told w c.wires.variables) p c.register c.keep (resume tables p c)
resume_held tables f w Nothing c z h off on = held_nothing tables f w Nothing c z (record { live = refl; residual = refl; apart = λ i. i })
resume_held tables f w Pause c z h off on =
    let n = c.next in
    let k : is_on w (n + 3) ≡ is_on w c.keep = and_on w (n + 3) c.hold c.keep h.1.1.1.0 on in
    record {
      quiet = pause_quiet tables f w c h (ap (λ b. b && is_true (f c.register)) off);
      stays = λ e. record { live = sym (ap (λ b. is_true (cond b (w n) (pos 0))) (k ∙ e) ∙ ap is_true h.0); residual = refl; apart = λ i. i };
      unset = λ e. record { each = λ i. (k ∙ e, tt) };
    }
resume_held tables f w (Emit s e) c z h off on = held_nothing tables f w (Emit s e) c z (record { live = refl; residual = refl; apart = λ i. i })
resume_held tables f w (Assign y e) c z h off on = held_nothing tables f w (Assign y e) c z (record { live = refl; residual = refl; apart = λ i. i })
resume_held tables f w (If e p q) c z h off on =
    let g = c.register in
    let m = g + registers tables p in
    let a = resume tables p (part_context c.go 2 c) in
    let d = other_context c.go m a c in
    let b = resume tables q d in
    let J = joins b.live b.next a.variables b.variables (both_write (writes1 p) (writes1 q)) in
    let js = satisfies_front f w J (a.equations ++ b.equations) h.1.1 in
    let hr = satisfies_back f w J (a.equations ++ b.equations) h.1.1 in
    let x = told w c.wires.variables in
    let u = resume_held tables f w p (part_context c.go 2 c) z (satisfies_front f w a.equations b.equations hr) off on in
    let v = resume_held tables f w q d z (satisfies_back f w a.equations b.equations hr) off on in
    record {
      quiet = quiet_both f w x (writes1 p) (writes1 q) b.live c.next (c.next + 1) (below m a.sets) (from m b.sets) (live_own (c.next + 1) a b) a b h.0 js u.quiet v.quiet;
      stays = λ i. let r = held_pair tables f w p q g c.keep a b x x u v i in remain_If tables e p q g f (registers_set w (joined (below m a.sets) (from m b.sets))) r.0 r.1;
      unset = λ i. off_pair w m a b (u.unset i) (v.unset i);
    }
resume_held tables f w (Present t p q) c z h off on =
    let g = c.register in
    let m = g + registers tables p in
    let a = resume tables p (part_context c.go 2 c) in
    let d = other_context c.go m a c in
    let b = resume tables q d in
    let J = joins b.live b.next a.variables b.variables (both_write (writes1 p) (writes1 q)) in
    let js = satisfies_front f w J (a.equations ++ b.equations) h.1.1 in
    let hr = satisfies_back f w J (a.equations ++ b.equations) h.1.1 in
    let x = told w c.wires.variables in
    let u = resume_held tables f w p (part_context c.go 2 c) z (satisfies_front f w a.equations b.equations hr) off on in
    let v = resume_held tables f w q d z (satisfies_back f w a.equations b.equations hr) off on in
    record {
      quiet = quiet_both f w x (writes1 p) (writes1 q) b.live c.next (c.next + 1) (below m a.sets) (from m b.sets) (live_own (c.next + 1) a b) a b h.0 js u.quiet v.quiet;
      stays = λ i.
          let r = held_pair tables f w p q g c.keep a b x x u v i in
          let j = remain_If tables (Literal kind.Int (pos 0)) p q g f (registers_set w (joined (below m a.sets) (from m b.sets))) r.0 r.1 in
          record { live = j.live; residual = j.residual; apart = j.apart };
      unset = λ i. off_pair w m a b (u.unset i) (v.unset i);
    }
resume_held tables f w (Seq p q) c z h off on =
    let n = c.next in
    let g = c.register in
    let m = g + registers tables p in
    let a = resume tables p (part_context c.go 5 c) in
    let d = start_context (n + 4) m a c in
    let b = starting_if (ends1 p) (start tables q d) d in
    let x = behind (n + 2) a.live (below m a.sets) (from m b.sets) (turn_own (n + 4) a) a b in
    let y = resume tables q (other_context c.go m x c) in
    let J = joins y.live y.next x.variables y.variables (both_write (writes_behind p q) (writes1 q)) in
    let js = satisfies_front f w J (x.equations ++ y.equations) h.1.1 in
    let hr = satisfies_back f w J (x.equations ++ y.equations) h.1.1 in
    let hx = satisfies_front f w x.equations y.equations hr in
    let vars = told w c.wires.variables in
    let u = resume_held tables f w p (part_context c.go 5 c) z (satisfies_front f w a.equations b.equations hx.1.1) off on in
    let go = ended_wire w (n + 4) a.status 0 hx.1.0 (u.quiet).status in
    let v = silent_if f w (told w a.variables) (ends1 p) (start tables q d) d z (satisfies_back f w a.equations b.equations hx.1.1) (λ k. start_silent tables f w q d z k go (ap is_true z)) in
    let i = quiet_behind w vars (n + 2) a.live (below m a.sets) (from m b.sets) (turn_own (n + 4) a) a b hx.0 u.quiet v.quiet in
    let j = resume_held tables f w q (other_context c.go m x c) z (satisfies_back f w x.equations y.equations hr) off on in
    let r = registers_set w (joined (joined (below m a.sets) (from m b.sets)) (from m y.sets)) in
    record {
      quiet = quiet_both f w vars (writes_behind p q) (writes1 q) y.live n (n + 1) x.sets (from m y.sets) (live_own (n + 1) x y) x y h.0 js i j.quiet;
      stays = λ e.
          remain_Seq tables p q g f r
          (remains_still tables p g f (registers_set w a.sets) r (u.stays e) (record { at = λ k ge lt. sym (three_first w m k a.sets b.sets y.sets v.sets lt) }))
          (remains_still tables q m f (registers_set w y.sets) r (j.stays e) (record { at = λ k ge lt. sym (three_last w m k a.sets b.sets y.sets v.sets ge) }));
      unset = λ e. off_joined w x.sets (from m y.sets) (off_pair w m a b (u.unset e) v.sets) (off_from w m y.sets (j.unset e));
    }
resume_held tables f w (Loop p) c z h off on =
    let n = c.next in
    let g = c.register in
    let a = resume tables p (part_context c.go 3 c) in
    let d = start_context (n + 2) c.register a c in
    let b = starting_if (ends1 p) (start tables p d) d in
    let vars = told w c.wires.variables in
    let u = resume_held tables f w p (part_context c.go 3 c) z (satisfies_front f w a.equations b.equations h.1.1) off on in
    let go = ended_wire w (n + 2) a.status 0 h.1.0 (u.quiet).status in
    let v = silent_if f w (told w a.variables) (ends1 p) (start tables p d) d z (satisfies_back f w a.equations b.equations h.1.1) (λ k. start_silent tables f w p d z k go (ap is_true z)) in
    let off_b = v.sets in
    record {
      quiet = quiet_behind w vars n a.live a.sets b.sets (turn_own (n + 2) a) a b h.0 u.quiet v.quiet;
      stays = λ e.
          remain_Loop tables p g f (registers_set w (joined a.sets b.sets))
          (remains_still tables p g f (registers_set w a.sets) (registers_set w (joined a.sets b.sets)) (u.stays e) (record { at = λ k ge lt. sym (set_before_off w (a.sets k) (b.sets k) (off_b.each k)) }));
      unset = λ e. off_joined w a.sets b.sets (u.unset e) v.sets;
    }
resume_held tables f w (Par p q) c z h off on =
    let n = c.next in
    let a = resume tables p (branch_context c) in
    let b = resume tables q (second_branch tables p c a) in
    let r = h.1.1.1.1.1 in
    par_held tables f w (told w c.wires.variables) p q (c.next + 4) (live_own (c.next + 4) a b) c a b h.1.1.1.0 (keeps_says w n (n + 1) (n + 2) (n + 3) c.keep c.hold h.0 h.1.0 h.1.1.0) on
    (resume_held tables f w p (branch_context c) z (satisfies_front f w a.equations b.equations r) off on)
    (resume_held tables f w q (second_branch tables p c a) z (satisfies_back f w a.equations b.equations r) off on)
resume_held tables f w (Trap p) c z h off on =
    let a = resume tables p (part_context c.go 1 c) in
    let u = resume_held tables f w p (part_context c.go 1 c) z h.1 off on in
    let q = u.quiet in
    record {
      quiet = record { status = h.0 ∙ ap of_trap q.status; emits = q.emits; variables = q.variables };
      stays = λ e. remain_Trap tables p c.register f (registers_set w a.sets) (u.stays e);
      unset = u.unset;
    }
resume_held tables f w (Exit d) c z h off on = held_nothing tables f w (Exit d) c z (record { live = refl; residual = refl; apart = λ i. i })
resume_held tables f w (Abort true armed t p) c z h off on =
    let n = c.next in
    let a = resume tables p (weak_context c) in
    weak_held tables f w (told w c.wires.variables) armed t p c a h.1.1.1.0 (keeps_says w n (n + 4) (n + 2) (n + 3) c.keep c.hold h.0 h.1.1.1.1.0 h.1.1.0) on
    (resume_held tables f w p (weak_context c) z h.1.1.1.1.1 off on)
resume_held tables f w (Abort false armed t p) c z h off on =
    let a = resume tables p (tested_context c) in
    let ha = h.1.1.1.1.1.1.1 in
    let s = tested_says f w t a.live 0 c a h in
    let u = resume_held tables f w p (tested_context c) z ha (s.go ∙ ap (λ b. b && not (is_on w c.next)) off) on in
    record {
      quiet = tested_quiet w (told w c.wires.variables) (told_env w c.wires) t a.live 0 c a s (ap (λ b. b && is_on w a.live) off) u.quiet;
      stays = λ e. remain_Abort tables false armed t p c.register f (registers_set w a.sets) (u.stays e);
      unset = u.unset;
    }
resume_held tables f w (Suspend armed t p) c z h off on =
    let a = resume tables p (held_context c) in
    let ha = h.1.1.1.1.1.1.1 in
    let s = tested_says f w t a.live 1 c a h in
    let u = resume_held tables f w p (held_context c) z ha (s.go ∙ ap (λ b. b && not (is_on w c.next)) off) (s.hold ∙ ap (λ b. b || is_on w (c.next + 3)) on) in
    record {
      quiet = tested_quiet w (told w c.wires.variables) (told_env w c.wires) t a.live 1 c a s (ap (λ b. b && is_on w a.live) off) u.quiet;
      stays = λ e. remain_Suspend tables armed t p c.register f (registers_set w a.sets) (u.stays e);
      unset = u.unset;
    }
resume_held tables f w (Local s v p) c z h off on =
    let a = resume tables p (local_context tables s c) in
    let fold = fold_emits (fold_info tables s) s a.next 0 (c.next + 2) a.emits in
    let r = h.1.1.1.1.1.1 in
    let says = local_equations tables f w s (last_formula (signal_at tables s).kind c.register) c a z h (satisfies_front f w fold.equations a.equations r) in
    local_held tables f (told w c.wires.variables) w s v p c a _ _ says (last_is (signal_at tables s).kind c.register ∙ sym h.1.1.0) on
    (resume_held tables f w p (local_context tables s c) z (satisfies_back f w fold.equations a.equations r) off on) where
      last_is : (k : Option Kind) (n : ℕ) → last_value k n f ≡ formula_value f w (last_formula k n)
      last_is None n = refl
      last_is (Some k) n = refl
resume_held tables f w (Send ch e) c z h off on =
    let n = c.next in
    let g = c.register in
    let k : is_on w (n + 8) ≡ is_on w c.keep = and_on w (n + 8) c.hold c.keep h.1.1.1.1.1.1.1.1.0 on in
    let idle : is_on w c.go && is_true (f g) ≡ false = ap (λ b. b && is_true (f g)) off in
    record {
      quiet = waiting_quiet f w c h idle;
      stays = λ i.
          let at = waiting_stays tables f w c h (k ∙ i) in
          record {
            live = ap is_true (at g (omega arith) (omega arith));
            residual = ap₂ (λ x y. cond (is_true x) (Sent ch) (SendWaits ch y)) (at (g + 1) (omega arith) (omega arith)) (at (g + 2) (omega arith) (omega arith));
            apart = λ j. j;
          };
      unset = λ i. waiting_off f w c (k ∙ i) (second_off w (n + 9) (n + 4) c.keep h.1.1.1.1.1.1.1.1.1.0 i);
    }
resume_held tables f w (Receive ch) c z h off on =
    let n = c.next in
    let g = c.register in
    let k : is_on w (n + 8) ≡ is_on w c.keep = and_on w (n + 8) c.hold c.keep h.1.1.1.1.1.1.1.1.0 on in
    let idle : is_on w c.go && is_true (f g) ≡ false = ap (λ b. b && is_true (f g)) off in
    record {
      quiet = waiting_quiet f w c h idle;
      stays = λ i.
          let at = waiting_stays tables f w c h (k ∙ i) in
          record {
            live = ap is_true (at g (omega arith) (omega arith));
            residual = ap (λ x. cond (is_true x) (Received ch) (ReceiveWaits ch)) (at (g + 1) (omega arith) (omega arith));
            apart = λ j. j;
          };
      unset = λ i. waiting_off f w c (k ∙ i) (second_off w (n + 9) (n + 4) c.keep h.1.1.1.1.1.1.1.1.1.0 i);
    }
resume_held tables f w (SendWaits ch v) c z h off on = held_nothing tables f w (SendWaits ch v) c z (record { live = refl; residual = refl; apart = λ i. i })
resume_held tables f w (Sent ch) c z h off on = held_nothing tables f w (Sent ch) c z (record { live = refl; residual = refl; apart = λ i. i })
resume_held tables f w (ReceiveWaits ch) c z h off on = held_nothing tables f w (ReceiveWaits ch) c z (record { live = refl; residual = refl; apart = λ i. i })
resume_held tables f w (Received ch) c z h off on = held_nothing tables f w (Received ch) c z (record { live = refl; residual = refl; apart = λ i. i })
