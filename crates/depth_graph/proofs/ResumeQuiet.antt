-- A resuming copy that doesn't tick: one that isn't live, and one that is held.
use Rattle.std.proofs.Common.{◌≡◌, ℕ, ◌+◌, ◌<◌, ◌≤◌, ◌==◌, ℤ, pos, Bool, true, false, ◌&&◌, ◌||◌, not, cond, List, [], ◌∷◌, ◌++◌, refl, sym, ap, ap₂, ◌∙◌, arith}
use Rattle.std.proofs.lemmas.Bool.Decides.{nat_tests}
use Rattle.java_values.specs.Arithmetic.{is_true}
use Rattle.kernel_terms.specs.declared.tables.Tables.{Tables}
use Rattle.kernel_terms.specs.TableEntries.{signal_at}
use Rattle.kernel_terms.specs.Statements.{Stmt, Nothing, Pause, Emit, Assign, If, Present, Seq, Loop, Par, Trap, Exit, Abort, Suspend, Local, Send, Receive, SendWaits, Sent, ReceiveWaits, Received}
use Rattle.kernel_terms.specs.MayEnd.{ends1}
use Rattle.kernel_rules.specs.definitions.Registers.{registers, live}
use Rattle.java_values.specs.Arithmetic.{of_bool}
use Rattle.surf_graph.specs.definitions.Formulas.{Satisfies, is_on, of_trap, told, told_env}
use Rattle.surf_graph.specs.definitions.Copies.{fold_info, Copy, Context, Sets, below, from, joined, none, behind, nothing_built, starting_if, other_context, joins, both_write, start_context, part_context, turn_own, live_own, branch_context, second_branch, weak_context, tested_context, local_context, fold_emits}
use Rattle.surf_graph.specs.definitions.StartingCopies.{start}
use Rattle.depth_graph.specs.definitions.ResumingCopies.{writes1, writes_behind, resume, held_context, last_formula, waiting_copy}
use Rattle.surf_graph.specs.definitions.Tells.{Off, AllOff, Remain, Quiet, Silent, Held, registers_set, set_value}
use Rattle.surf_graph.proofs.SetValues.{truth_of, satisfies_front, satisfies_back, off_joined, off_below, off_from, off_none, set_first, set_second, set_before_off, set_after_off, is_less, is_not_less}
use Rattle.surf_graph.proofs.RegisterRanges.{remains_still}
use Rattle.surf_graph.proofs.Parts.{by_cases, quiet_behind, status_is}
use Rattle.surf_graph.proofs.Alternatives.{quiet_both, silent_both}
use Rattle.surf_graph.proofs.Beside.{par_silent}
use Rattle.surf_graph.proofs.Wraps.{weak_quiet, tested_quiet}
use Rattle.surf_graph.proofs.Locals.{local_equations}
use Rattle.surf_graph.proofs.LocalCopies.{local_silent}
use Rattle.surf_graph.proofs.StartSilent.{start_silent, silent_if, silent_pair, nothing_quiet, ended_wire, first_off, status_off, tested_says}

-- the wire `live` of a resuming copy

or_wire : (w : ℕ → ℤ) (n a b : ℕ) (x y : Bool) → w n ≡ of_bool (is_on w a || is_on w b) → is_on w a ≡ x → is_on w b ≡ y → is_on w n ≡ x || y
or_wire w n a b x y h ea eb = ap is_true h ∙ truth_of (is_on w a || is_on w b) ∙ ap₂ (λ i j. i || j) ea eb

pub live_wire : (tables : Tables) (f w : ℕ → ℤ) (p : Stmt) (c : Context) → w 0 ≡ pos 0 → Satisfies f w (resume tables p c).equations → is_on w (resume tables p c).live ≡ live tables p c.register f
live_wire tables f w Nothing c z h = ap is_true z
live_wire tables f w Pause c z h = ap is_true h.0
live_wire tables f w (Emit s e) c z h = ap is_true z
live_wire tables f w (Assign y e) c z h = ap is_true z
live_wire tables f w (If e p q) c z h =
    let m = c.register + registers tables p in
    let a = resume tables p (part_context c.go 2 c) in
    let d = other_context c.go m a c in
    let b = resume tables q d in
    let J = joins b.live b.next a.variables b.variables (both_write (writes1 p) (writes1 q)) in
    let js = satisfies_front f w J (a.equations ++ b.equations) h.1.1 in
    let hr = satisfies_back f w J (a.equations ++ b.equations) h.1.1 in
    or_wire w (c.next + 1) a.live b.live (live tables p c.register f) (live tables q m f) h.1.0
    (live_wire tables f w p (part_context c.go 2 c) z (satisfies_front f w a.equations b.equations hr)) (live_wire tables f w q d z (satisfies_back f w a.equations b.equations hr))
live_wire tables f w (Present t p q) c z h =
    let m = c.register + registers tables p in
    let a = resume tables p (part_context c.go 2 c) in
    let d = other_context c.go m a c in
    let b = resume tables q d in
    let J = joins b.live b.next a.variables b.variables (both_write (writes1 p) (writes1 q)) in
    let js = satisfies_front f w J (a.equations ++ b.equations) h.1.1 in
    let hr = satisfies_back f w J (a.equations ++ b.equations) h.1.1 in
    or_wire w (c.next + 1) a.live b.live (live tables p c.register f) (live tables q m f) h.1.0
    (live_wire tables f w p (part_context c.go 2 c) z (satisfies_front f w a.equations b.equations hr)) (live_wire tables f w q d z (satisfies_back f w a.equations b.equations hr))
live_wire tables f w (Seq p q) c z h =
    let n = c.next in
    let m = c.register + registers tables p in
    let a = resume tables p (part_context c.go 5 c) in
    let d = start_context (n + 4) m a c in
    let b = starting_if (ends1 p) (start tables q d) d in
    let x = behind (n + 2) a.live (below m a.sets) (from m b.sets) (turn_own (n + 4) a) a b in
    let y = resume tables q (other_context c.go m x c) in
    let J = joins y.live y.next x.variables y.variables (both_write (writes_behind p q) (writes1 q)) in
    let js = satisfies_front f w J (x.equations ++ y.equations) h.1.1 in
    let hr = satisfies_back f w J (x.equations ++ y.equations) h.1.1 in
    let hx = satisfies_front f w x.equations y.equations hr in
    or_wire w (n + 1) a.live y.live (live tables p c.register f) (live tables q m f) h.1.0
    (live_wire tables f w p (part_context c.go 5 c) z (satisfies_front f w a.equations b.equations hx.1.1)) (live_wire tables f w q (other_context c.go m x c) z (satisfies_back f w x.equations y.equations hr))
live_wire tables f w (Loop p) c z h =
    let n = c.next in
    let a = resume tables p (part_context c.go 3 c) in
    let d = start_context (n + 2) c.register a c in
    let b = starting_if (ends1 p) (start tables p d) d in
    live_wire tables f w p (part_context c.go 3 c) z (satisfies_front f w a.equations b.equations h.1.1)
live_wire tables f w (Par p q) c z h =
    let a = resume tables p (branch_context c) in
    let b = resume tables q (second_branch tables p c a) in
    let r = h.1.1.1.1.1 in
    or_wire w (c.next + 4) a.live b.live (live tables p c.register f) (live tables q (c.register + registers tables p) f) h.1.1.1.1.0
    (live_wire tables f w p (branch_context c) z (satisfies_front f w a.equations b.equations r)) (live_wire tables f w q (second_branch tables p c a) z (satisfies_back f w a.equations b.equations r))
live_wire tables f w (Trap p) c z h = live_wire tables f w p (part_context c.go 1 c) z h.1
live_wire tables f w (Exit d) c z h = ap is_true z
live_wire tables f w (Abort true armed t p) c z h = live_wire tables f w p (weak_context c) z h.1.1.1.1.1
live_wire tables f w (Abort false armed t p) c z h = live_wire tables f w p (tested_context c) z h.1.1.1.1.1.1.1
live_wire tables f w (Suspend armed t p) c z h = live_wire tables f w p (held_context c) z h.1.1.1.1.1.1.1
live_wire tables f w (Local s v p) c z h =
    let a = resume tables p (local_context tables s c) in
    let fold = fold_emits (fold_info tables s) s a.next 0 (c.next + 2) a.emits in
    live_wire tables f w p (local_context tables s c) z (satisfies_back f w fold.equations a.equations h.1.1.1.1.1.1)
live_wire tables f w (Send ch e) c z h = ap is_true h.0
live_wire tables f w (Receive ch) c z h = ap is_true h.0
live_wire tables f w (SendWaits ch v) c z h = ap is_true z
live_wire tables f w (Sent ch) c z h = ap is_true z
live_wire tables f w (ReceiveWaits ch) c z h = ap is_true z
live_wire tables f w (Received ch) c z h = ap is_true z

-- a whole that doesn't tick has no part that ticks

pub first_idle : (go a b : Bool) → go && (a || b) ≡ false → go && a ≡ false
first_idle true true b h = h
first_idle true false b h = refl
first_idle false a b h = refl

pub second_idle : (go a b : Bool) → go && (a || b) ≡ false → go && b ≡ false
second_idle true true true h = h
second_idle true true false h = refl
second_idle true false b h = h
second_idle false a b h = refl

pub tested_idle : (go t a : Bool) → go && a ≡ false → (go && t) && a ≡ false
tested_idle true true a h = h
tested_idle true false a h = refl
tested_idle false t a h = refl

pub and_wire : (w : ℕ → ℤ) (n a b : ℕ) → w n ≡ of_bool (is_on w a && is_on w b) → is_on w n ≡ is_on w a && is_on w b
and_wire w n a b h = ap is_true h ∙ truth_of (is_on w a && is_on w b)

pub and_not_wire : (w : ℕ → ℤ) (n a b : ℕ) → w n ≡ of_bool (is_on w a && not (is_on w b)) → is_on w n ≡ is_on w a && not (is_on w b)
and_not_wire w n a b h = ap is_true h ∙ truth_of (is_on w a && not (is_on w b))

pub pause_quiet : (tables : Tables) (f w : ℕ → ℤ) (c : Context) → Satisfies f w (resume tables Pause c).equations → is_on w c.go && is_true (f c.register) ≡ false → Quiet w (told w c.wires.variables) (resume tables Pause c)
pause_quiet tables f w c h off =
    record {
      status = status_off w (c.next + 2) (c.next + 1) 0 h.1.1.0 (and_wire w (c.next + 1) c.go c.next h.1.0 ∙ ap (λ b. is_on w c.go && b) (ap is_true h.0) ∙ off);
      emits = refl;
      variables = refl;
    }

pub waiting_quiet : (f w : ℕ → ℤ) (c : Context) → Satisfies f w (waiting_copy c).equations → is_on w c.go && is_true (f c.register) ≡ false → Quiet w (told w c.wires.variables) (waiting_copy c)
waiting_quiet f w c h off =
    let n = c.next in
    let no : is_on w (n + 3) ≡ false = and_wire w (n + 3) c.go n h.1.1.1.0 ∙ ap (λ b. is_on w c.go && b) (ap is_true h.0) ∙ off in
    let nor : is_on w (n + 4) ≡ false = and_not_wire w (n + 4) (n + 3) (n + 1) h.1.1.1.1.0 ∙ ap (λ b. b && not (is_on w (n + 1))) no in
    record {
      status = status_is w (n + 7) (n + 5) (n + 6) 0 0 0 h.1.1.1.1.1.1.1.0 (status_off w (n + 5) (n + 3) 0 h.1.1.1.1.1.0 no) (status_off w (n + 6) (n + 4) 1 h.1.1.1.1.1.1.0 nor) refl;
      emits = refl;
      variables = refl;
    }

-- the sets of a send or receive that waits
pub waiting_off : (f w : ℕ → ℤ) (c : Context) → is_on w (c.next + 8) ≡ false → is_on w (c.next + 9) ≡ false → Off w (waiting_copy c).sets
waiting_off f w c h k = record { each = λ i. three (i == c.register) (i == c.register + 1) } where
  three : (i j : Bool) → AllOff w (cond i (record { condition = c.next + 8; value = c.next } ∷ record { condition = c.next + 9; value = c.next + 9 } ∷ [])
      (cond j (record { condition = c.next + 8; value = c.next + 1 } ∷ []) (record { condition = c.next + 8; value = c.next + 2 } ∷ record { condition = c.next + 9; value = c.next + 2 } ∷ [])))
  three true j = (h, (k, tt))
  three false true = (h, tt)
  three false false = (h, (k, tt))

waiting_silent : (f w : ℕ → ℤ) (c : Context) → Satisfies f w (waiting_copy c).equations → is_on w c.go && is_true (f c.register) ≡ false → is_on w c.hold ≡ false → Silent w (told w c.wires.variables) (waiting_copy c)
waiting_silent f w c h off free =
    let n = c.next in
    let no : is_on w (n + 3) ≡ false = and_wire w (n + 3) c.go n h.1.1.1.0 ∙ ap (λ b. is_on w c.go && b) (ap is_true h.0) ∙ off in
    let nor : is_on w (n + 4) ≡ false = and_not_wire w (n + 4) (n + 3) (n + 1) h.1.1.1.1.0 ∙ ap (λ b. b && not (is_on w (n + 1))) no in
    record {
      quiet = waiting_quiet f w c h off;
      sets = waiting_off f w c (first_off w (n + 8) c.hold c.keep h.1.1.1.1.1.1.1.1.0 free) (first_off w (n + 9) (n + 4) c.keep h.1.1.1.1.1.1.1.1.1.0 nor);
    }

pub resume_silent : (tables : Tables) (f w : ℕ → ℤ) (p : Stmt) (c : Context) → w 0 ≡ pos 0 → Satisfies f w (resume tables p c).equations → is_on w c.go && live tables p c.register f ≡ false → is_on w c.hold ≡ false
    → Silent w (told w c.wires.variables) (resume tables p c)
resume_silent tables f w Nothing c z h off free = nothing_quiet w c z
resume_silent tables f w Pause c z h off free =
    record { quiet = pause_quiet tables f w c h off; sets = record { each = λ k. (first_off w (c.next + 3) c.hold c.keep h.1.1.1.0 free, tt) } }
resume_silent tables f w (Emit s e) c z h off free = nothing_quiet w c z
resume_silent tables f w (Assign y e) c z h off free = nothing_quiet w c z
resume_silent tables f w (If e p q) c z h off free =
    let m = c.register + registers tables p in
    let a = resume tables p (part_context c.go 2 c) in
    let d = other_context c.go m a c in
    let b = resume tables q d in
    let J = joins b.live b.next a.variables b.variables (both_write (writes1 p) (writes1 q)) in
    let js = satisfies_front f w J (a.equations ++ b.equations) h.1.1 in
    let hr = satisfies_back f w J (a.equations ++ b.equations) h.1.1 in
    silent_both f w (told w c.wires.variables) (writes1 p) (writes1 q) b.live c.next (c.next + 1) m (live_own (c.next + 1) a b) a b h.0 js
    (resume_silent tables f w p (part_context c.go 2 c) z (satisfies_front f w a.equations b.equations hr) (first_idle (is_on w c.go) (live tables p c.register f) (live tables q m f) off) free)
    (resume_silent tables f w q d z (satisfies_back f w a.equations b.equations hr) (second_idle (is_on w c.go) (live tables p c.register f) (live tables q m f) off) free)
resume_silent tables f w (Present t p q) c z h off free =
    let m = c.register + registers tables p in
    let a = resume tables p (part_context c.go 2 c) in
    let d = other_context c.go m a c in
    let b = resume tables q d in
    let J = joins b.live b.next a.variables b.variables (both_write (writes1 p) (writes1 q)) in
    let js = satisfies_front f w J (a.equations ++ b.equations) h.1.1 in
    let hr = satisfies_back f w J (a.equations ++ b.equations) h.1.1 in
    silent_both f w (told w c.wires.variables) (writes1 p) (writes1 q) b.live c.next (c.next + 1) m (live_own (c.next + 1) a b) a b h.0 js
    (resume_silent tables f w p (part_context c.go 2 c) z (satisfies_front f w a.equations b.equations hr) (first_idle (is_on w c.go) (live tables p c.register f) (live tables q m f) off) free)
    (resume_silent tables f w q d z (satisfies_back f w a.equations b.equations hr) (second_idle (is_on w c.go) (live tables p c.register f) (live tables q m f) off) free)
resume_silent tables f w (Seq p q) c z h off free =
    let n = c.next in
    let m = c.register + registers tables p in
    let a = resume tables p (part_context c.go 5 c) in
    let d = start_context (n + 4) m a c in
    let b = starting_if (ends1 p) (start tables q d) d in
    let x = behind (n + 2) a.live (below m a.sets) (from m b.sets) (turn_own (n + 4) a) a b in
    let y = resume tables q (other_context c.go m x c) in
    let J = joins y.live y.next x.variables y.variables (both_write (writes_behind p q) (writes1 q)) in
    let js = satisfies_front f w J (x.equations ++ y.equations) h.1.1 in
    let hr = satisfies_back f w J (x.equations ++ y.equations) h.1.1 in
    let hx = satisfies_front f w x.equations y.equations hr in
    let first = live tables p c.register f in
    let second = live tables q m f in
    let u = resume_silent tables f w p (part_context c.go 5 c) z (satisfies_front f w a.equations b.equations hx.1.1) (first_idle (is_on w c.go) first second off) free in
    let go = ended_wire w (n + 4) a.status 0 hx.1.0 (u.quiet).status in
    let v = silent_if f w (told w a.variables) (ends1 p) (start tables q d) d z (satisfies_back f w a.equations b.equations hx.1.1) (λ k. start_silent tables f w q d z k go (ap is_true z)) in
    let i = silent_pair w (told w c.wires.variables) (n + 2) a.live m (turn_own (n + 4) a) a b hx.0 u v in
    let j = resume_silent tables f w q (other_context c.go m x c) z (satisfies_back f w x.equations y.equations hr) (second_idle (is_on w c.go) first second off) free in
    record {
      quiet = quiet_both f w (told w c.wires.variables) (writes_behind p q) (writes1 q) y.live n (n + 1) x.sets (from m y.sets) (live_own (n + 1) x y) x y h.0 js i.quiet j.quiet;
      sets = off_joined w x.sets (from m y.sets) i.sets (off_from w m y.sets j.sets);
    }
resume_silent tables f w (Loop p) c z h off free =
    let n = c.next in
    let a = resume tables p (part_context c.go 3 c) in
    let d = start_context (n + 2) c.register a c in
    let b = starting_if (ends1 p) (start tables p d) d in
    let u = resume_silent tables f w p (part_context c.go 3 c) z (satisfies_front f w a.equations b.equations h.1.1) off free in
    let go = ended_wire w (n + 2) a.status 0 h.1.0 (u.quiet).status in
    let v = silent_if f w (told w a.variables) (ends1 p) (start tables p d) d z (satisfies_back f w a.equations b.equations h.1.1) (λ k. start_silent tables f w p d z k go (ap is_true z)) in
    record {
      quiet = quiet_behind w (told w c.wires.variables) n a.live a.sets b.sets (turn_own (n + 2) a) a b h.0 u.quiet v.quiet;
      sets = off_joined w a.sets b.sets u.sets v.sets;
    }
resume_silent tables f w (Par p q) c z h off free =
    let a = resume tables p (branch_context c) in
    let b = resume tables q (second_branch tables p c a) in
    let r = h.1.1.1.1.1 in
    let first = live tables p c.register f in
    let second = live tables q (c.register + registers tables p) f in
    par_silent tables w (told w c.wires.variables) p (c.next + 4) (live_own (c.next + 4) a b) c a b h.1.1.1.0
    (resume_silent tables f w p (branch_context c) z (satisfies_front f w a.equations b.equations r) (first_idle (is_on w c.go) first second off) free)
    (resume_silent tables f w q (second_branch tables p c a) z (satisfies_back f w a.equations b.equations r) (second_idle (is_on w c.go) first second off) free)
resume_silent tables f w (Trap p) c z h off free =
    let u = resume_silent tables f w p (part_context c.go 1 c) z h.1 off free in
    let q = u.quiet in
    record { quiet = record { status = h.0 ∙ ap of_trap q.status; emits = q.emits; variables = q.variables }; sets = u.sets }
resume_silent tables f w (Exit d) c z h off free = nothing_quiet w c z
resume_silent tables f w (Abort true armed t p) c z h off free =
    let a = resume tables p (weak_context c) in
    let u = resume_silent tables f w p (weak_context c) z h.1.1.1.1.1 off free in
    record { quiet = weak_quiet w (told w c.wires.variables) t c a h.1.1.1.0 u.quiet; sets = u.sets }
resume_silent tables f w (Abort false armed t p) c z h off free =
    let a = resume tables p (tested_context c) in
    let ha = h.1.1.1.1.1.1.1 in
    let s = tested_says f w t a.live 0 c a h in
    let alive = live tables p c.register f in
    let u = resume_silent tables f w p (tested_context c) z ha (ap (λ b. b && alive) s.go ∙ tested_idle (is_on w c.go) (not (is_on w c.next)) alive off) free in
    record { quiet = tested_quiet w (told w c.wires.variables) (told_env w c.wires) t a.live 0 c a s (ap (λ b. is_on w c.go && b) (live_wire tables f w p (tested_context c) z ha) ∙ off) u.quiet; sets = u.sets }
resume_silent tables f w (Suspend armed t p) c z h off free =
    let a = resume tables p (held_context c) in
    let ha = h.1.1.1.1.1.1.1 in
    let s = tested_says f w t a.live 1 c a h in
    let alive = live tables p c.register f in
    let idle : is_on w c.go && is_on w a.live ≡ false = ap (λ b. is_on w c.go && b) (live_wire tables f w p (held_context c) z ha) ∙ off in
    let loose : is_on w (c.next + 5) ≡ false = s.hold ∙ ap₂ (λ i j. i || j) free (s.stops ∙ tested_idle (is_on w c.go) (is_on w c.next) (is_on w a.live) idle) in
    let u = resume_silent tables f w p (held_context c) z ha (ap (λ b. b && alive) s.go ∙ tested_idle (is_on w c.go) (not (is_on w c.next)) alive off) loose in
    record { quiet = tested_quiet w (told w c.wires.variables) (told_env w c.wires) t a.live 1 c a s idle u.quiet; sets = u.sets }
resume_silent tables f w (Local s v p) c z h off free =
    let a = resume tables p (local_context tables s c) in
    let fold = fold_emits (fold_info tables s) s a.next 0 (c.next + 2) a.emits in
    let r = h.1.1.1.1.1.1 in
    let says = local_equations tables f w s (last_formula (signal_at tables s).kind c.register) c a z h (satisfies_front f w fold.equations a.equations r) in
    local_silent tables (told w c.wires.variables) w s c a _ _ says free (resume_silent tables f w p (local_context tables s c) z (satisfies_back f w fold.equations a.equations r) off free)
resume_silent tables f w (Send ch e) c z h off free = waiting_silent f w c h off free
resume_silent tables f w (Receive ch) c z h off free = waiting_silent f w c h off free
resume_silent tables f w (SendWaits ch v) c z h off free = nothing_quiet w c z
resume_silent tables f w (Sent ch) c z h off free = nothing_quiet w c z
resume_silent tables f w (ReceiveWaits ch) c z h off free = nothing_quiet w c z
resume_silent tables f w (Received ch) c z h off free = nothing_quiet w c z

-- A copy that is held.

pub held_nothing : (tables : Tables) (f w : ℕ → ℤ) (p : Stmt) (c : Context) → w 0 ≡ pos 0 → Remain tables p c.register f (registers_set w none) → Held tables f w (told w c.wires.variables) p c.register c.keep (nothing_built c)
held_nothing tables f w p c z same = record { quiet = record { status = z; emits = refl; variables = refl }; stays = λ e. same; unset = λ e. off_none w }

-- two parts that are held
pub held_pair : (tables : Tables) (f w : ℕ → ℤ) (p q : Stmt) (n keep : ℕ) (a b : Copy) (x y : ℕ → ℤ) → Held tables f w x p n keep a → Held tables f w y q (n + registers tables p) keep b → is_on w keep ≡ true
    → Remain tables p n f (registers_set w (joined (below (n + registers tables p) a.sets) (from (n + registers tables p) b.sets)))
    × Remain tables q (n + registers tables p) f (registers_set w (joined (below (n + registers tables p) a.sets) (from (n + registers tables p) b.sets)))
held_pair tables f w p q n keep a b x y u v e =
    let m = n + registers tables p in
    let r = registers_set w (joined (below m a.sets) (from m b.sets)) in (
      remains_still tables p n f (registers_set w a.sets) r (u.stays e) (record { at = λ i ge lt. sym (set_first w m i a.sets b.sets lt) }),
      remains_still tables q m f (registers_set w b.sets) r (v.stays e) (record { at = λ i ge lt. sym (set_second w m i a.sets b.sets ge) }),
    )

pub off_pair : (w : ℕ → ℤ) (m : ℕ) (a b : Copy) → Off w a.sets → Off w b.sets → Off w (joined (below m a.sets) (from m b.sets))
off_pair w m a b u v = off_joined w (below m a.sets) (from m b.sets) (off_below w m a.sets u) (off_from w m b.sets v)

-- a resuming part, a starting one that doesn't start, and a resuming one, of which the last two share their registers
pub three_first : (w : ℕ → ℤ) (m k : ℕ) (s t v : ℕ → List Sets) → Off w t → k < m → registers_set w (joined (joined (below m s) (from m t)) (from m v)) k ≡ registers_set w s k
three_first w m k s t v off lt =
    ap (λ b. set_value w (joined (below m s) (from m t) k ++ cond b [] (v k))) (is_less k m lt)
    ∙ set_before_off w (joined (below m s) (from m t) k) [] tt ∙ set_first w m k s t lt

pub three_last : (w : ℕ → ℤ) (m k : ℕ) (s t v : ℕ → List Sets) → Off w t → m ≤ k → registers_set w (joined (joined (below m s) (from m t)) (from m v)) k ≡ registers_set w v k
three_last w m k s t v off ge =
    ap (λ b. set_value w ((cond b (s k) [] ++ cond b [] (t k)) ++ cond b [] (v k))) (is_not_less k m ge) ∙ set_after_off w (t k) (v k) (off.each k)

pub waiting_stays : (tables : Tables) (f w : ℕ → ℤ) (c : Context) → Satisfies f w (waiting_copy c).equations → is_on w (c.next + 8) ≡ true → (k : ℕ) → c.register ≤ k → k < c.register + 3 → f k ≡ registers_set w (waiting_copy c).sets k
waiting_stays tables f w c h on k ge lt =
    by_cases (k == r)
    (λ e. let i : k ≡ r = grind (arith, nat_tests) in sym (ap (λ b. set_value w (cond b (first) (cond (k == r + 1) second third))) e ∙ ap (λ b. cond b (w n) (cond (is_on w (n + 9)) (w (n + 9)) (pos 0))) on ∙ h.0 ∙ ap f (sym i)))
    (λ e. by_cases (k == r + 1)
    (λ g. let i : k ≡ r + 1 = grind (arith, nat_tests) in sym (ap₂ (λ b d. set_value w (cond b first (cond d second third))) e g ∙ ap (λ b. cond b (w (n + 1)) (pos 0)) on ∙ h.1.0 ∙ ap f (sym i)))
    (λ g. let i : k ≡ r + 2 = grind (arith, nat_tests) in sym (ap₂ (λ b d. set_value w (cond b first (cond d second third))) e g ∙ ap (λ b. cond b (w (n + 2)) (cond (is_on w (n + 9)) (w (n + 2)) (pos 0))) on ∙ h.1.1.0 ∙ ap f (sym i)))) where
      n : ℕ
      n = c.next

      r : ℕ
      r = c.register

      first : List Sets
      first = record { condition = c.next + 8; value = c.next } ∷ record { condition = c.next + 9; value = c.next + 9 } ∷ []

      second : List Sets
      second = record { condition = c.next + 8; value = c.next + 1 } ∷ []

      third : List Sets
      third = record { condition = c.next + 8; value = c.next + 2 } ∷ record { condition = c.next + 9; value = c.next + 2 } ∷ []
