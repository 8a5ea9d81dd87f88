-- A starting copy that doesn't start tells nothing.
use Rattle.std.proofs.Common.{◌≡◌, ℕ, suc, ◌+◌, ◌==◌, ℤ, pos, Bool, true, false, ◌&&◌, ◌||◌, not, cond, List, [], ◌∷◌, ◌++◌, refl, sym, ap, ◌∙◌}
use Rattle.std.proofs.Common.{arith}
use Rattle.std.proofs.lemmas.Bool.Decides.{nat_tests}
use Rattle.std.proofs.Math.Path.{fun_ext}
use Rattle.java_values.specs.Arithmetic.{is_true}
use Rattle.kernel_terms.specs.declared.tables.Tables.{Tables}
use Rattle.kernel_terms.specs.TableEntries.{signal_at}
use Rattle.kernel_terms.specs.Expressions.{Test}
use Rattle.kernel_terms.specs.Statements.{Stmt, Nothing, Pause, Emit, Assign, If, Present, Seq, Loop, Par, Trap, Exit, Abort, Suspend, Local, Send, Receive, SendWaits, Sent, ReceiveWaits, Received}
use Rattle.kernel_terms.specs.MayEnd.{ends0}
use Rattle.kernel_rules.specs.definitions.Signals.{put_at}
use Rattle.kernel_rules.specs.definitions.Expressions.{holds}
use Rattle.kernel_rules.specs.definitions.Registers.{registers}
use Rattle.java_values.specs.Arithmetic.{of_bool}
use Rattle.std.specs.Int.{int_max}
use Rattle.surf_graph.specs.definitions.Formulas.{Value, Holds, Equation, Satisfies, to_nat, is_on, of_trap, told, told_env}
use Rattle.surf_graph.specs.definitions.Copies.{fold_info, Copy, Context, below, from, behind, nothing_built, plain_copy, starting_if, other_context, joins, both_write, start_context, part_context, choice_own, turn_own, branch_context, second_branch, weak_context, tested_context, tested_copy, local_context, fold_emits}
use Rattle.surf_graph.specs.definitions.StartingCopies.{first_formula, writes0, start}
use Rattle.surf_graph.specs.definitions.Tells.{AllOff, Quiet, Silent}
use Rattle.surf_graph.proofs.SetValues.{truth_of, satisfies_front, satisfies_back, off_joined, off_below, off_from, off_none}
use Rattle.surf_graph.proofs.Parts.{quiet_behind}
use Rattle.surf_graph.proofs.Alternatives.{silent_both}
use Rattle.surf_graph.proofs.Beside.{par_silent}
use Rattle.surf_graph.proofs.Wraps.{Tested, weak_quiet, tested_quiet}
use Rattle.surf_graph.proofs.Locals.{local_equations}
use Rattle.surf_graph.proofs.LocalCopies.{local_silent}

pub status_off : (w : ℕ → ℤ) (s go code : ℕ) → w s ≡ cond (is_on w go) (pos (suc code)) (pos 0) → is_on w go ≡ false → w s ≡ pos 0
status_off w s go code h off = h ∙ ap (λ b. cond b (pos (suc code)) (pos 0)) off

pub plain_quiet : (w : ℕ → ℤ) (code : ℕ) (c : Context) → w c.next ≡ cond (is_on w c.go) (pos (suc code)) (pos 0) → is_on w c.go ≡ false → Quiet w (told w c.wires.variables) (plain_copy code c)
plain_quiet w code c h off = record { status = status_off w c.next c.go code h off; emits = refl; variables = refl }

-- an "and" of which the first part is off
pub first_off : (w : ℕ → ℤ) (n a b : ℕ) → w n ≡ of_bool (is_on w a && is_on w b) → is_on w a ≡ false → is_on w n ≡ false
first_off w n a b h off = ap is_true h ∙ truth_of (is_on w a && is_on w b) ∙ ap (λ x. x && is_on w b) off

pub first_off_not : (w : ℕ → ℤ) (n a b : ℕ) → w n ≡ of_bool (is_on w a && not (is_on w b)) → is_on w a ≡ false → is_on w n ≡ false
first_off_not w n a b h off = ap is_true h ∙ truth_of (is_on w a && not (is_on w b)) ∙ ap (λ x. x && not (is_on w b)) off

pub second_off : (w : ℕ → ℤ) (n a b : ℕ) → w n ≡ of_bool (is_on w a && is_on w b) → is_on w b ≡ false → is_on w n ≡ false
second_off w n a b h off = ap is_true h ∙ truth_of (is_on w a && is_on w b) ∙ ap (λ x. is_on w a && x) off ∙ none_on (is_on w a) where
  none_on : (x : Bool) → x && false ≡ false
  none_on true = refl
  none_on false = refl

-- the wire that tells that a copy has ended
pub ended_wire : (w : ℕ → ℤ) (n s : ℕ) (k : ℕ) → w n ≡ of_bool (to_nat (w s) == 1) → w s ≡ pos k → is_on w n ≡ (k == 1)
ended_wire w n s k h e = ap is_true h ∙ truth_of (to_nat (w s) == 1) ∙ ap (λ z. to_nat z == 1) e

pub nothing_quiet : (w : ℕ → ℤ) (c : Context) → w 0 ≡ pos 0 → Silent w (told w c.wires.variables) (nothing_built c)
nothing_quiet w c z = record { quiet = record { status = z; emits = refl; variables = refl }; sets = off_none w }

pub silent_if : (f w x : ℕ → ℤ) (b : Bool) (a : Copy) (c : Context) → w 0 ≡ pos 0 → Satisfies f w (starting_if b a c).equations → (Satisfies f w a.equations → Silent w (told w c.wires.variables) a) → Silent w (told w c.wires.variables) (starting_if b a c)
silent_if f w x true a c z h s = s h
silent_if f w x false a c z h s = nothing_quiet w c z

pub silent_pair : (w x : ℕ → ℤ) (n l m : ℕ) (own : List Equation) (a b : Copy) → w n ≡ int_max (w a.status) (w b.status) → Silent w x a → Silent w (told w a.variables) b → Silent w x (behind n l (below m a.sets) (from m b.sets) own a b)
silent_pair w x n l m own a b h u v =
    record {
      quiet = quiet_behind w x n l (below m a.sets) (from m b.sets) own a b h u.quiet v.quiet;
      sets = off_joined w (below m a.sets) (from m b.sets) (off_below w m a.sets u.sets) (off_from w m b.sets v.sets);
    }

same_put : (b : Bool) (u v : ℤ) → u ≡ v → cond b u v ≡ v
same_put true u v h = h
same_put false u v h = refl

at_put : (w : ℕ → ℤ) (b : Bool) (i j : ℕ) → w (cond b i j) ≡ cond b (w i) (w j)
at_put w true i j = refl
at_put w false i j = refl

named : (w : ℕ → ℤ) (v : ℕ → ℕ) (k y n : ℕ) (b : Bool) → (k == y) ≡ b → w n ≡ w (v y) → w (cond b n (v k)) ≡ w (v k)
named w v k y n true e h = h ∙ ap (λ i. w (v i)) (sym (same k y e)) where
  same : (i j : ℕ) → (i == j) ≡ true → i ≡ j
  same i j g = grind (arith, nat_tests)
named w v k y n false e h = refl

pub told_same : (w : ℕ → ℤ) (v : ℕ → ℕ) (y n : ℕ) → w n ≡ w (v y) → told w (put_at v y n) ≡ told w v
told_same w v y n h = fun_ext (λ k. named w v k y n (k == y) refl h)

pub tested_says : (f w : ℕ → ℤ) (test : Test) (live code : ℕ) (c : Context) (a : Copy) → Satisfies f w (tested_copy test live code c a).equations → Tested w (told_env w c.wires) test c live code a
tested_says f w test live code c a h =
    let n = c.next in
    let both : is_on w (n + 2) ≡ is_on w c.go && is_on w n = ap is_true h.1.1.0 ∙ truth_of (is_on w c.go && is_on w n) in
    record {
      holds = ap is_true h.0 ∙ truth_of (holds (told_env w c.wires) test);
      go = ap is_true h.1.0 ∙ truth_of (is_on w c.go && not (is_on w n));
      stops = ap is_true h.1.1.1.0 ∙ truth_of (is_on w (n + 2) && is_on w live) ∙ ap (λ b. b && is_on w live) both;
      status = h.1.1.1.1.0 ∙ ap (λ z. cond (is_on w (n + 3)) z (w a.status)) h.1.1.1.1.1.1.0;
      hold = ap is_true h.1.1.1.1.1.0 ∙ truth_of (is_on w c.hold || is_on w (n + 3));
    }

pub start_silent : (tables : Tables) (f w : ℕ → ℤ) (p : Stmt) (c : Context) → w 0 ≡ pos 0 → Satisfies f w (start tables p c).equations → is_on w c.go ≡ false → is_on w c.hold ≡ false → Silent w (told w c.wires.variables) (start tables p c)
start_silent tables f w Nothing c z h off free = record { quiet = plain_quiet w 0 c h.0 off; sets = off_none w }
start_silent tables f w Pause c z h off free =
    record { quiet = record { status = status_off w c.next c.go 1 h.0 off; emits = refl; variables = refl }; sets = record { each = λ k. (first_off w (c.next + 1) c.go c.keep h.1.0 off, tt) } }
start_silent tables f w (Emit s e) c z h off free =
    record { quiet = record { status = status_off w c.next c.go 0 h.0 off; emits = ap (λ b. cond b (record { signal = s; value = w (c.next + 1) } ∷ []) []) off; variables = refl }; sets = off_none w }
start_silent tables f w (Assign y e) c z h off free =
    record {
      quiet = record { status = status_off w c.next c.go 0 h.0 off; emits = refl; variables = told_same w c.wires.variables y (c.next + 2) (h.1.1.0 ∙ ap (λ b. cond b (w (c.next + 1)) (w (c.wires.variables y))) off) };
      sets = off_none w;
    }
start_silent tables f w (If e p q) c z h off free =
    let n = c.next in
    let m = c.register + registers tables p in
    let a = start tables p (part_context (n + 3) 5 c) in
    let b = start tables q (other_context (n + 4) m a c) in
    let J = joins (n + 4) b.next a.variables b.variables (both_write (writes0 p) (writes0 q)) in
    let r0 = h.1.1.1.1 in
    let js = satisfies_front f w J (a.equations ++ b.equations) r0 in
    let r = satisfies_back f w J (a.equations ++ b.equations) r0 in
    let u = start_silent tables f w p (part_context (n + 3) 5 c) z (satisfies_front f w a.equations b.equations r) (first_off w (n + 3) c.go (n + 2) h.1.1.0 off) free in
    let v = start_silent tables f w q (other_context (n + 4) m a c) z (satisfies_back f w a.equations b.equations r) (first_off_not w (n + 4) c.go (n + 2) h.1.1.1.0 off) free in
    silent_both f w (told w c.wires.variables) (writes0 p) (writes0 q) (n + 4) n 0 m (choice_own (Value e c.wires) c) a b h.0 js u v
start_silent tables f w (Present t p q) c z h off free =
    let n = c.next in
    let m = c.register + registers tables p in
    let a = start tables p (part_context (n + 3) 5 c) in
    let b = start tables q (other_context (n + 4) m a c) in
    let J = joins (n + 4) b.next a.variables b.variables (both_write (writes0 p) (writes0 q)) in
    let r0 = h.1.1.1.1 in
    let js = satisfies_front f w J (a.equations ++ b.equations) r0 in
    let r = satisfies_back f w J (a.equations ++ b.equations) r0 in
    let u = start_silent tables f w p (part_context (n + 3) 5 c) z (satisfies_front f w a.equations b.equations r) (first_off w (n + 3) c.go (n + 2) h.1.1.0 off) free in
    let v = start_silent tables f w q (other_context (n + 4) m a c) z (satisfies_back f w a.equations b.equations r) (first_off_not w (n + 4) c.go (n + 2) h.1.1.1.0 off) free in
    silent_both f w (told w c.wires.variables) (writes0 p) (writes0 q) (n + 4) n 0 m (choice_own (Holds t c.wires) c) a b h.0 js u v
start_silent tables f w (Seq p q) c z h off free =
    let n = c.next in
    let m = c.register + registers tables p in
    let a = start tables p (part_context c.go 3 c) in
    let d = start_context (n + 2) m a c in
    let b = starting_if (ends0 p) (start tables q d) d in
    let r = h.1.1 in
    let u = start_silent tables f w p (part_context c.go 3 c) z (satisfies_front f w a.equations b.equations r) off free in
    let go = ended_wire w (n + 2) a.status 0 h.1.0 (u.quiet).status in
    let v = silent_if f w (told w a.variables) (ends0 p) (start tables q d) d z (satisfies_back f w a.equations b.equations r) (λ k. start_silent tables f w q d z k go (ap is_true z)) in
    silent_pair w (told w c.wires.variables) n 0 m (turn_own (n + 2) a) a b h.0 u v
start_silent tables f w (Loop p) c z h off free = start_silent tables f w p c z h off free
start_silent tables f w (Par p q) c z h off free =
    let a = start tables p (branch_context c) in
    let b = start tables q (second_branch tables p c a) in
    let r = h.1.1.1.1 in
    par_silent tables w (told w c.wires.variables) p 0 [] c a b h.1.1.1.0
    (start_silent tables f w p (branch_context c) z (satisfies_front f w a.equations b.equations r) off free)
    (start_silent tables f w q (second_branch tables p c a) z (satisfies_back f w a.equations b.equations r) off free)
start_silent tables f w (Trap p) c z h off free =
    let u = start_silent tables f w p (part_context c.go 1 c) z h.1 off free in
    let q = u.quiet in
    record { quiet = record { status = h.0 ∙ ap of_trap q.status; emits = q.emits; variables = q.variables }; sets = u.sets }
start_silent tables f w (Exit d) c z h off free = record { quiet = plain_quiet w (suc (suc d)) c h.0 off; sets = off_none w }
start_silent tables f w (Abort weak false t p) c z h off free = start_silent tables f w p c z h off free
start_silent tables f w (Abort true true t p) c z h off free =
    let a = start tables p (weak_context c) in
    let u = start_silent tables f w p (weak_context c) z h.1.1.1.1.1 off free in
    record { quiet = weak_quiet w (told w c.wires.variables) t c a h.1.1.1.0 u.quiet; sets = u.sets }
start_silent tables f w (Abort false true t p) c z h off free =
    let a = start tables p (tested_context c) in
    let s = tested_says f w t c.go 0 c a h in
    let u = start_silent tables f w p (tested_context c) z h.1.1.1.1.1.1.1 (s.go ∙ ap (λ b. b && not (is_on w c.next)) off) free in
    record { quiet = tested_quiet w (told w c.wires.variables) (told_env w c.wires) t c.go 0 c a s (ap (λ b. b && is_on w c.go) off) u.quiet; sets = u.sets }
start_silent tables f w (Suspend armed t p) c z h off free = start_silent tables f w p c z h off free
start_silent tables f w (Local s v p) c z h off free =
    let a = start tables p (local_context tables s c) in
    let fold = fold_emits (fold_info tables s) s a.next 0 (c.next + 2) a.emits in
    let r = h.1.1.1.1.1.1 in
    let says = local_equations tables f w s (first_formula (signal_at tables s).kind) c a z h (satisfies_front f w fold.equations a.equations r) in
    local_silent tables (told w c.wires.variables) w s c a _ _ says free (start_silent tables f w p (local_context tables s c) z (satisfies_back f w fold.equations a.equations r) off free)
start_silent tables f w (Send ch e) c z h off free =
    let no = first_off w (c.next + 1) c.go c.keep h.1.0 off in
    record {
      quiet = record { status = status_off w c.next c.go 1 h.0 off; emits = refl; variables = refl };
      sets = record { each = λ k. three (k == c.register) (k == c.register + 1) no };
    } where
      three : (i j : Bool) → is_on w (c.next + 1) ≡ false → AllOff w (cond i (record { condition = c.next + 1; value = c.next + 1 } ∷ []) (cond j [] (record { condition = c.next + 1; value = c.next + 2 } ∷ [])))
      three true j g = (g, tt)
      three false true g = tt
      three false false g = (g, tt)
start_silent tables f w (Receive ch) c z h off free =
    let no = first_off w (c.next + 1) c.go c.keep h.1.0 off in
    record {
      quiet = record { status = status_off w c.next c.go 1 h.0 off; emits = refl; variables = refl };
      sets = record { each = λ k. two (k == c.register) no };
    } where
      two : (i : Bool) → is_on w (c.next + 1) ≡ false → AllOff w (cond i (record { condition = c.next + 1; value = c.next + 1 } ∷ []) [])
      two true g = (g, tt)
      two false g = tt
start_silent tables f w (SendWaits ch v) c z h off free = nothing_quiet w c z
start_silent tables f w (Sent ch) c z h off free = nothing_quiet w c z
start_silent tables f w (ReceiveWaits ch) c z h off free = nothing_quiet w c z
start_silent tables f w (Received ch) c z h off free = nothing_quiet w c z
