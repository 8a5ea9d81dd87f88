-- Each tick of the statement that fitting registers stand for is told by values that satisfy the equations
-- of the resuming copy.
use Rattle.std.proofs.Common.{◌≡◌, ℕ, suc, max, ◌+◌, ◌<◌, ◌==◌, ℤ, pos, Bool, true, false, ◌&&◌, ◌||◌, not, cond, List, [], ◌∷◌, ◌++◌, refl, sym, ap, ap₂, ◌∙◌, subst, arith, Option, Some, None}
use Rattle.java_values.specs.Arithmetic.{is_true}
use Rattle.java_values.specs.declared.kind.Kind.TheVariants as kind
use Rattle.kernel_terms.specs.declared.tables.Tables.{Tables}
use Rattle.kernel_terms.specs.TableEntries.{signal_at}
use Rattle.kernel_terms.specs.Expressions.{Expression, Test, Literal}
use Rattle.kernel_terms.specs.Statements.{Stmt, Nothing, Pause, Emit, Assign, If, Present, Seq, Loop, Par, Trap, Exit, Abort, Suspend, Local, Send, Receive, SendWaits, Sent, ReceiveWaits, Received}
use Rattle.kernel_terms.specs.MayEnd.{ends0, ends1, LoopsWait}
use Rattle.kernel_rules.specs.definitions.Signals.{Env, put_at, is_emitted, values_of, without, folded}
use Rattle.kernel_rules.specs.definitions.Expressions.{holds}
use Rattle.kernel_rules.specs.definitions.TickRule.{Tick, Ticks, Continues, Chosen, Aborts, has_ended, quiet, ends_with, as_whole, left_at, tick_of_both, code_of_trap, code_of_weak_abort}
use Rattle.kernel_rules.specs.definitions.Registers.{registers}
use Rattle.kernel_rules.proofs.StartingTicks.{ended_zero}
use Rattle.java_values.specs.Arithmetic.{of_bool}
use Rattle.std.specs.Int.{int_max}
use Rattle.surf_graph.specs.definitions.Formulas.{Holds, Satisfies, formula_value, to_nat, is_on, of_trap, of_weak_abort, told, told_env}
use Rattle.surf_graph.specs.definitions.Copies.{fold_info, Copy, Context, below, from, joined, behind, starting_if, other_context, joins, both_write, start_context, part_context, turn_own, branch_context, second_branch, weak_context, weak_copy, tested_context, tested_copy, local_context, own_registers, fold_emits}
use Rattle.surf_graph.specs.definitions.StartingCopies.{start}
use Rattle.depth_graph.specs.definitions.ResumingCopies.{writes1, writes_behind}
use Rattle.surf_graph.specs.definitions.Tells.{Tells, Active, Silent, Quiet, Stands, registers_set}
use Rattle.surf_graph.specs.definitions.Sources.{IsSource}
use Rattle.surf_graph.proofs.SetValues.{truth_of, off_joined, off_below, off_from}
use Rattle.surf_graph.proofs.Parts.{greater_of, by_cases, first_stands, second_stands, first_dies, second_dies, Seq_first, Seq_second, turn_ended, turn_waits}
use Rattle.surf_graph.proofs.Beside.{Keeps, Branch, branch_ticks, par_active, next_one}
use Rattle.surf_graph.proofs.Wraps.{suspend_stops, trap_active, trap_status, weak_status, weak_stops, weak_goes, whole_tells, strong_stops, abort_stands, suspend_stands}
use Rattle.surf_graph.proofs.Locals.{same_fold, local_equations, told_local, fold_says, folded_from}
use Rattle.surf_graph.proofs.LocalCopies.{local_active}
use Rattle.surf_graph.proofs.Frames.{wires_more, Agreeing, agree_twice, Inside, satisfies_still, value_agrees, env_agrees, told_agrees, own, own_agrees, own_at, own_first, tells_still}
use Rattle.surf_graph.proofs.StartInside.{Outside, outside_part, outside_other, outside_start, outside_with, outside_local, start_inside, inside_if}
use Rattle.surf_graph.proofs.StartSilent.{start_silent, silent_if, silent_pair, tested_says}
use Rattle.surf_graph.proofs.StartActive.{has_ended_status, choice_first, choice_second, present_stands, loop_stands, keeps_says}
use Rattle.surf_graph.proofs.Alternatives.{active_first, active_second}
use Rattle.depth_graph.proofs.ResumePasses.{resume_passes, behind_passes}
use Rattle.surf_graph.proofs.Joining.{joining, joining_shows}
use Rattle.surf_graph.proofs.Solutions.{Solution, Shows, solved, One, one_solved, two_solved, at, zero_at, ticks_move, fold_solution}
use Rattle.surf_graph.proofs.StartRests.{satisfies_append, start_rests, rests_if}
use Rattle.std.proofs.Common.{inr}
use Rattle.java_values.specs.declared.kind.Kind.{Kind}
use Rattle.kernel_rules.specs.definitions.Registers.{live, residual, last_value, LivesApart}
use Rattle.kernel_rules.proofs.ResumingTicks.{resuming_allows}
use Rattle.surf_graph.proofs.Booleans.{or_right, other_one}
use Rattle.surf_graph.specs.definitions.Copies.{behind, live_own}
use Rattle.depth_graph.specs.definitions.ResumingCopies.{resume, held_context, waiting_copy, last_formula}
use Rattle.surf_graph.proofs.Parts.{first_alone, second_alone}
use Rattle.depth_graph.proofs.BranchVariables.{same_variables}
use Rattle.surf_graph.proofs.StartInside.{inside_pair}
use Rattle.surf_graph.proofs.StartShows.{moved, only_tick, part_tells, max_of, shows_if, keep_equations, start_shows}
use Rattle.depth_graph.proofs.ResumeInside.{resume_inside}
use Rattle.depth_graph.proofs.ResumeQuiet.{live_wire, resume_silent}
use Rattle.depth_graph.proofs.ResumeHeld.{resume_held}
use Rattle.depth_graph.proofs.ResumeActive.{resume_active, idle_if, second_idle_if, branch_writes, over_is, late_dead, late_stands, not_quiet}
use Rattle.depth_graph.proofs.ResumeRests.{Idle, or_at, resume_rests}

-- a part that isn't live, where nothing holds it
idle_dead : (w : ℕ → ℤ) (c : Context) (alive : Bool) → alive ≡ false → is_on w c.hold ≡ false → Idle w c alive
idle_dead w c alive e h = record { idle = idle_if (is_on w c.go) alive e; free = λ i. cc }

-- Two resuming parts of which one ticks.
pair_shows : (tables : Tables) (f w : ℕ → ℤ) (e : Expression) (p q P : Stmt) (c : Context) (o : Tick) → Outside c → w 0 ≡ pos 0 → is_on w c.go ≡ true → is_on w c.hold ≡ false
    → (b : Bool) → live tables p c.register f ≡ b → live tables p c.register f || live tables q (c.register + registers tables p) f ≡ true → live tables p c.register f && live tables q (c.register + registers tables p) f ≡ false
    → ((s : Stmt) (r : ℕ → ℤ) → Stands tables (If e p q) c.register r s → Stands tables P c.register r s)
    → ((w0 : ℕ → ℤ) → Outside (part_context c.go 2 c) → w0 0 ≡ pos 0 → is_on w0 c.go ≡ true → is_on w0 c.hold ≡ false → live tables p c.register f ≡ true
    → Ticks tables (told w0 c.wires.last) (residual tables p c.register f) (told_env w0 c.wires) (told w0 c.wires.variables) o → Shows tables f w0 p c.register c.keep (c.next + 2) (resume tables p (part_context c.go 2 c)) o)
    → ((w0 : ℕ → ℤ) → Outside (other_context c.go (c.register + registers tables p) (resume tables p (part_context c.go 2 c)) c) → w0 0 ≡ pos 0 → is_on w0 c.go ≡ true → is_on w0 c.hold ≡ false → live tables q (c.register + registers tables p) f ≡ true
    → Ticks tables (told w0 c.wires.last) (residual tables q (c.register + registers tables p) f) (told_env w0 c.wires) (told w0 c.wires.variables) o
    → Shows tables f w0 q (c.register + registers tables p) c.keep (resume tables p (part_context c.go 2 c)).next (resume tables q (other_context c.go (c.register + registers tables p) (resume tables p (part_context c.go 2 c)) c)) o)
    → Ticks tables (told w c.wires.last) (cond b (residual tables p c.register f) (residual tables q (c.register + registers tables p) f)) (told_env w c.wires) (told w c.wires.variables) o
    → Shows tables f w P c.register c.keep c.next (resume tables (If e p q) c) o
pair_shows tables f w e p q P c o out z on free true eq alive apart stands first second h =
    let n = c.next in
    let m = c.register + registers tables p in
    let x1 = live tables p c.register f in
    let x2 = live tables q m f in
    let dead = second_idle_if x1 x2 eq apart in
    let R = residual tables p c.register f in
    let vs = pos (suc o.code) ∷ of_bool (x1 || x2) ∷ [] in
    let w0 = own n vs w in
    let k = out.go in
    let keep = out.keep in
    let d0 = part_context c.go 2 c in
    let a = resume tables p d0 in
    let d = other_context c.go m a c in
    let b = resume tables q d in
    let out0 = outside_part c.go 2 c out (omega (arith, k)) in
    let i = resume_inside tables p d0 out0 in
    let grows = i.grows in
    let g0 = own_agrees n vs w in
    let x = first w0 out0 (zero_at n w w0 g0 out.some z) (at n c.go w w0 true g0 k on) (at n c.hold w w0 false g0 out.hold free) eq (moved tables n w w0 R c.wires o g0 out.wires h) in
    let u = x.values in
    let ou = one_solved f w n 2 vs a u (omega arith) x.same in
    let gu = ou.same in
    let outd = outside_other c.go m (n + 2) a c out i (omega arith) (omega (arith, grows, k)) in
    let ib = resume_inside tables q d outd in
    let y0 = resume_rests tables f u q d outd (zero_at n w u gu out.some z) (idle_dead u d x2 dead (at n c.hold w u false gu out.hold free)) in
    let jn = joining f u (writes1 p) (writes1 q) b.live (n + 2) a b i ib ib.live y0 in
    let y = jn.solution in
    let v = y.values in
    let t = two_solved f w n 2 vs a b (omega arith) i (solved tables f w0 p c.register c.keep (n + 2) a o x) y in
    let one = t.one in
    let g = one.same in
    let zv = zero_at n w v g out.some z in
    let free_v = at n c.hold w v false g out.hold free in
    let ta = part_tells tables f w0 v p c.register c.keep (n + 2) a o (n + 2) x y.same i (omega (arith, grows, keep)) in
    let sb = resume_silent tables f v q d zv t.solves_second (idle_if (is_on v d.go) x2 dead) free_v in
    let e0 : v n ≡ int_max (v a.status) (v b.status) = one.first ∙ max_of v a.status b.status (suc o.code) 0 (suc o.code) ta.status (sb.quiet).status (omega arith) in
    let last = told v c.wires.last in
    let env = told_env v c.wires in
    let vars = told v c.wires.variables in
    let ua : Active tables last env vars v p R c.register c.keep a = record { tick = o; ticks = moved tables n w v R c.wires o g out.wires h; tells = ta } in
    let whole = choice_first tables last env vars f v (writes1 p) (writes1 q) b.live e p q R P R c.register c.keep n (n + 1) (live_own (n + 1) a b) a b e0 jn.joins (live_wire tables f v q d zv t.solves_second ∙ dead) (λ y i. ap v (resume_passes tables p d0 y i)) ua sb (λ o k. k) stands in
    record {
      values = v;
      same = g;
      solves = (
        e0,
        (
          one.own 1 (omega arith) ∙ or_at v a.live b.live x1 x2 (live_wire tables f v p d0 zv t.solves_first) (live_wire tables f v q d zv t.solves_second),
          satisfies_append f v (joins b.live b.next a.variables b.variables (both_write (writes1 p) (writes1 q))) (a.equations ++ b.equations) jn.joins (satisfies_append f v a.equations b.equations t.solves_first t.solves_second),
        ),
      );
      tells = whole.tells;
    }
pair_shows tables f w e p q P c o out z on free false eq alive apart stands first second h =
    let n = c.next in
    let m = c.register + registers tables p in
    let x1 = live tables p c.register f in
    let x2 = live tables q m f in
    let lives = other_one x1 x2 alive eq in
    let S = residual tables q m f in
    let vs = pos (suc o.code) ∷ of_bool (x1 || x2) ∷ [] in
    let w0 = own n vs w in
    let k = out.go in
    let keep = out.keep in
    let d0 = part_context c.go 2 c in
    let a = resume tables p d0 in
    let d = other_context c.go m a c in
    let b = resume tables q d in
    let out0 = outside_part c.go 2 c out (omega (arith, k)) in
    let i = resume_inside tables p d0 out0 in
    let grows = i.grows in
    let g0 = own_agrees n vs w in
    let x = resume_rests tables f w0 p d0 out0 (zero_at n w w0 g0 out.some z) (idle_dead w0 d0 x1 eq (at n c.hold w w0 false g0 out.hold free)) in
    let u = x.values in
    let ou = one_solved f w n 2 vs a u (omega arith) x.same in
    let gu = ou.same in
    let zu = zero_at n w u gu out.some z in
    let free_u = at n c.hold w u false gu out.hold free in
    let outd = outside_other c.go m (n + 2) a c out i (omega arith) (omega (arith, grows, k)) in
    let ku : Ticks tables (told u c.wires.last) S (told_env u c.wires) (told u c.wires.variables) o = moved tables n w u S c.wires o gu out.wires h in
    let ib = resume_inside tables q d outd in
    let gb = ib.grows in
    let y0 = second u outd zu (at n c.go w u true gu k on) free_u lives ku in
    let jn = joining_shows tables f u q m c.keep o (writes1 p) (writes1 q) b.live (n + 2) a b i ib ib.live (omega (arith, grows, gb, keep)) y0 in
    let y = jn.shows in
    let v = y.values in
    let t = two_solved f w n 2 vs a b (omega arith) i x (solved tables f u q m c.keep a.next b o y) in
    let one = t.one in
    let g = one.same in
    let zv = zero_at n w v g out.some z in
    let free_v = at n c.hold w v false g out.hold free in
    let tb = y.tells in
    let sa = resume_silent tables f v p d0 zv t.solves_first (idle_if (is_on v d0.go) x1 eq) free_v in
    let e0 : v n ≡ int_max (v a.status) (v b.status) = one.first ∙ max_of v a.status b.status 0 (suc o.code) (suc o.code) (sa.quiet).status tb.status (omega arith) in
    let last = told v c.wires.last in
    let env = told_env v c.wires in
    let vars = told v c.wires.variables in
    let ub : Active tables last env vars v q S m c.keep b = record { tick = o; ticks = moved tables n w v S c.wires o g out.wires h; tells = tb } in
    let whole = choice_second tables last env vars f v (writes1 p) (writes1 q) b.live e p q S P S c.register c.keep n (n + 1) (live_own (n + 1) a b) a b e0 jn.joins (live_wire tables f v q d zv t.solves_second ∙ lives) (λ y i. ap v (resume_passes tables q d y i)) sa ub (λ o k. k) stands in
    record {
      values = v;
      same = g;
      solves = (
        e0,
        (
          one.own 1 (omega arith) ∙ or_at v a.live b.live x1 x2 (live_wire tables f v p d0 zv t.solves_first) (live_wire tables f v q d zv t.solves_second),
          satisfies_append f v (joins b.live b.next a.variables b.variables (both_write (writes1 p) (writes1 q))) (a.equations ++ b.equations) jn.joins (satisfies_append f v a.equations b.equations t.solves_first t.solves_second),
        ),
      );
      tells = whole.tells;
    }

-- One that waits has values where it ticks.
waiting_solution : (f w : ℕ → ℤ) (c : Context) → Outside c → is_on w c.go ≡ true → is_on w c.hold ≡ false → is_true (f c.register) ≡ true → (b : Bool) → is_true (f (c.register + 1)) ≡ b → Solution f w c.next (waiting_copy c)
waiting_solution f w c o on free alive b e =
    let n = c.next in
    let r = c.register in
    let vs = f r ∷ f (r + 1) ∷ f (r + 2) ∷ pos 1 ∷ of_bool (not b) ∷ pos 1 ∷ cond (not b) (pos 2) (pos 0) ∷ pos (suc (cond b 0 1)) ∷ pos 0 ∷ of_bool (not b && is_on w c.keep) ∷ [] in
    let v = own n vs w in
    let g = own_agrees n vs w in
    let three : is_on v (n + 3) ≡ true = ap is_true (own_at n 3 vs w) in
    let four : is_on v (n + 4) ≡ not b = ap is_true (own_at n 4 vs w) ∙ truth_of (not b) in
    record {
      values = v;
      same = g;
      solves = (
        own_first n vs w,
        (
          own_at n 1 vs w,
          (
            own_at n 2 vs w,
            (
              own_at n 3 vs w ∙ sym (ap₂ (λ x y. of_bool (x && y)) (ap is_true (g.at c.go o.go) ∙ on) (ap is_true (own_first n vs w) ∙ alive)),
              (
                own_at n 4 vs w ∙ sym (ap₂ (λ x y. of_bool (x && not y)) three (ap is_true (own_at n 1 vs w) ∙ e)),
                (
                  own_at n 5 vs w ∙ sym (ap (λ x. cond x (pos 1) (pos 0)) three),
                  (
                    own_at n 6 vs w ∙ sym (ap (λ x. cond x (pos 2) (pos 0)) four),
                    (
                      own_at n 7 vs w ∙ greatest b ∙ sym (ap₂ int_max (own_at n 5 vs w) (own_at n 6 vs w)),
                      (
                        own_at n 8 vs w ∙ sym (ap (λ x. of_bool (x && is_on v c.keep)) (ap is_true (g.at c.hold o.hold) ∙ free)),
                        (own_at n 9 vs w ∙ sym (ap₂ (λ x y. of_bool (x && y)) four (ap is_true (g.at c.keep o.keep))), tt),
                      ),
                    ),
                  ),
                ),
              ),
            ),
          ),
        ),
      );
    } where
      greatest : (x : Bool) → pos (suc (cond x 0 1)) ≡ int_max (pos 1) (cond (not x) (pos 2) (pos 0))
      greatest true = refl
      greatest false = refl

send_tick : (tables : Tables) (l l' : ℕ → ℤ) (e e' : Env) (x x' : ℕ → ℤ) (ch : ℕ) (val : ℤ) (b : Bool) (i o : Tick) → x ≡ x' → Ticks tables l (cond b (Sent ch) (SendWaits ch val)) e x i → Ticks tables l' (cond b (Sent ch) (SendWaits ch val)) e' x' o → i ≡ o
send_tick tables l l' e e' x x' ch val true i o s h k = h ∙ ap (ends_with []) s ∙ sym k
send_tick tables l l' e e' x x' ch val false i o s h k = h ∙ ap (quiet 1 (SendWaits ch val)) s ∙ sym k

receive_tick : (tables : Tables) (l l' : ℕ → ℤ) (e e' : Env) (x x' : ℕ → ℤ) (ch : ℕ) (b : Bool) (i o : Tick) → x ≡ x' → Ticks tables l (cond b (Received ch) (ReceiveWaits ch)) e x i → Ticks tables l' (cond b (Received ch) (ReceiveWaits ch)) e' x' o → i ≡ o
receive_tick tables l l' e e' x x' ch true i o s h k = h ∙ ap (ends_with []) s ∙ sym k
receive_tick tables l l' e e' x x' ch false i o s h k = h ∙ ap (quiet 1 (ReceiveWaits ch)) s ∙ sym k

-- A branch that is live or isn't.
record BranchSolution (tables : Tables) (f w : ℕ → ℤ) (p : Stmt) (r keep n : ℕ) (copy : Copy) (b : Bool) (i : Tick) : Type 0 where
  solution : Solution f w n copy
  tells : b ≡ true → Tells tables solution.values p r keep copy i

branch_solution : (tables : Tables) (f w : ℕ → ℤ) (l : ℕ → ℤ) (e : Env) (x : ℕ → ℤ) (p R : Stmt) (r keep n : ℕ) (copy : Copy) (b : Bool) (i : Tick) → Ticks tables l (cond b R Nothing) e x i
    → (b ≡ true → Ticks tables l R e x i → Shows tables f w p r keep n copy i) → (b ≡ false → Solution f w n copy) → BranchSolution tables f w p r keep n copy b i
branch_solution tables f w l e x p R r keep n copy true i h live_one dead_one = let s = live_one refl h in record { solution = solved tables f w p r keep n copy i s; tells = λ z. s.tells }
branch_solution tables f w l e x p R r keep n copy false i h live_one dead_one = record { solution = dead_one refl; tells = λ z. cc }

record BranchAt (tables : Tables) (last : ℕ → ℤ) (env : Env) (x v : ℕ → ℤ) (p t : Stmt) (r keep : ℕ) (copy : Copy) (i : Tick) : Type 0 where
  branch : Branch tables last env x v p t r keep copy
  is : branch.tick ≡ i

branch_at : (tables : Tables) (last : ℕ → ℤ) (env : Env) (x v : ℕ → ℤ) (p R : Stmt) (r keep : ℕ) (copy : Copy) (i : Tick) (b : Bool) → Ticks tables last (cond b R Nothing) env x i
    → (b ≡ true → Tells tables v p r keep copy i) → (b ≡ true → Ticks tables last R env x i → i.code ≡ 0 → ends0 p || ends1 p ≡ true)
    → (b ≡ false → Silent v x copy) → (b ≡ false → ends0 p || ends1 p ≡ true) → BranchAt tables last env x v p (cond b R Nothing) r keep copy i
branch_at tables last env x v p R r keep copy i true h tells ends silent over =
    let u : Active tables last env x v p R r keep copy = record { tick = i; ticks = h; tells = tells refl } in
    record { branch = branch_ticks tables last env x v p R r keep copy u (ends refl h); is = refl }
branch_at tables last env x v p R r keep copy i false h tells ends silent over =
    let s = silent refl in
    let q = s.quiet in
    record {
      branch = record { tick = ends_with [] x; ticks = refl; status = inr (q.status, refl); emits = q.emits; variables = q.variables; pure = tt; sets = λ e. cc; unset = λ e. s.sets; over = λ e. over refl };
      is = sym h;
    }

-- three copies behind five wires: of a sequence's first part, of the start of its second and of its second
record Three (f w : ℕ → ℤ) (n : ℕ) (vs : List ℤ) (a b y : Copy) (u1 u2 v : ℕ → ℤ) : Type 0 where
  one : One f w n 5 vs a v
  after_first : Agreeing a.next u1 v
  after_second : Agreeing b.next u2 v
  solves_first : Satisfies f v a.equations
  solves_second : Satisfies f v b.equations
  solves_third : Satisfies f v y.equations

three_solved : (f w : ℕ → ℤ) (n : ℕ) (vs : List ℤ) (a b y : Copy) → Inside (n + 5) a → Inside a.next b → (s1 : Solution f (own n vs w) (n + 5) a) → (s2 : Solution f s1.values a.next b) → (s3 : Solution f s2.values b.next y) → Three f w n vs a b y s1.values s2.values s3.values
three_solved f w n vs a b y ia ib s1 s2 s3 =
    let ga = ia.grows in
    let gb = ib.grows in
    let v = s3.values in
    let after = agree_twice a.next b.next s1.values s2.values v (omega (arith, gb)) s2.same s3.same in
    record {
      one = one_solved f w n 5 vs a v (omega arith) (agree_twice (n + 5) a.next (own n vs w) s1.values v ga s1.same after);
      after_first = after;
      after_second = s3.same;
      solves_first = satisfies_still a.next f s1.values v a.equations after ia.equations s1.solves;
      solves_second = satisfies_still b.next f s2.values v b.equations s3.same ib.equations s2.solves;
      solves_third = s3.solves;
    }

-- a weak abort whose body goes on
weak_resumes : (tables : Tables) (f w : ℕ → ℤ) (armed : Bool) (test : Test) (p R : Stmt) (c : Context) (o : Tick) → Outside c → w 0 ≡ pos 0 → is_on w c.go ≡ true → is_on w c.hold ≡ false → (b : Bool) → holds (told_env w c.wires) test ≡ b
    → ((w0 : ℕ → ℤ) (i : Tick) → Outside (weak_context c) → w0 0 ≡ pos 0 → is_on w0 c.go ≡ true → is_on w0 c.hold ≡ false
    → Ticks tables (told w0 c.wires.last) R (told_env w0 c.wires) (told w0 c.wires.variables) i → Shows tables f w0 p c.register c.next (c.next + 5) (resume tables p (weak_context c)) i)
    → Chosen b (Aborts true (λ a. Ticks tables (told w c.wires.last) R (told_env w c.wires) (told w c.wires.variables) a) (told w c.wires.variables) o)
    ((a : Tick) × Ticks tables (told w c.wires.last) R (told_env w c.wires) (told w c.wires.variables) a × (o ≡ as_whole a.code (Abort true true test a.rest) a))
    → Shows tables f w (Abort true armed test p) c.register c.keep c.next (weak_copy test c (resume tables p (weak_context c))) o
weak_resumes tables f w armed test p R c o out z on free b eq body h = by_bool b eq h where
  shape : (i : Tick) (code : ℕ) → Ticks tables (told w c.wires.last) R (told_env w c.wires) (told w c.wires.variables) i
      → ((v : ℕ → ℤ) → Agreeing c.next w v → v (c.next + 3) ≡ pos (suc code) → is_on v (c.next + 1) ≡ holds (told_env w c.wires) test → Tells tables v p c.register c.next (resume tables p (weak_context c)) i → v (c.next + 3) ≡ cond (is_on v (c.next + 1)) (of_weak_abort (v (resume tables p (weak_context c)).status)) (v (resume tables p (weak_context c)).status))
      → ((v : ℕ → ℤ) → is_on v (c.next + 1) ≡ holds (told_env w c.wires) test → v (c.next + 3) ≡ cond (is_on v (c.next + 1)) (of_weak_abort (v (resume tables p (weak_context c)).status)) (v (resume tables p (weak_context c)).status) → Keeps v c.next c.keep c.hold (c.next + 3) → is_on v c.hold ≡ false → Tells tables v p c.register c.next (resume tables p (weak_context c)) i
      → Tells tables v (Abort true armed test p) c.register c.keep (weak_copy test c (resume tables p (weak_context c))) o)
      → Shows tables f w (Abort true armed test p) c.register c.keep c.next (weak_copy test c (resume tables p (weak_context c))) o
  shape i code hi status tells =
      let n = c.next in
      let vs = of_bool (is_on w c.keep && (code == 1)) ∷ formula_value f w (Holds test c.wires) ∷ of_bool (code == 1) ∷ pos (suc code) ∷ of_bool (code == 1) ∷ [] in
      let w0 = own n vs w in
      let go = out.go in
      let hold = out.hold in
      let a = resume tables p (weak_context c) in
      let g0 = own_agrees n vs w in
      let x = body w0 i (outside_with c.go c.hold n 5 c.register c out (omega (arith, go)) (omega (arith, hold)) (omega arith)) (zero_at n w w0 g0 out.some z) (at n c.go w w0 true g0 out.go on) (at n c.hold w w0 false g0 out.hold free) (moved tables n w w0 R c.wires i g0 out.wires hi) in
      let v = x.values in
      let one = one_solved f w n 5 vs a v (omega arith) x.same in
      let g = one.same in
      let free_v = at n c.hold w v false g out.hold free in
      let ks = keep_equations v n (n + 4) (n + 2) (n + 3) c.keep c.hold code (is_on w c.keep) (at n c.keep w v (is_on w c.keep) g out.keep refl) free_v (one.own 3 (omega arith)) one.first (one.own 4 (omega arith)) (one.own 2 (omega arith)) in
      let ht : is_on v (n + 1) ≡ holds (told_env w c.wires) test = ap is_true (one.own 1 (omega arith)) ∙ truth_of (holds (told_env w c.wires) test) in
      let e3 = status v g (one.own 3 (omega arith)) ht x.tells in
      record {
        values = v;
        same = g;
        solves = (ks.first, (one.own 1 (omega arith) ∙ sym (value_agrees n f w v (Holds test c.wires) g out.wires), (ks.third, (e3, (ks.second, x.solves)))));
        tells = tells v ht e3 (keeps_says v n (n + 4) (n + 2) (n + 3) c.keep c.hold ks.first ks.second ks.third) free_v x.tells;
      }

  by_bool : (b : Bool) → holds (told_env w c.wires) test ≡ b → Chosen b (Aborts true (λ a. Ticks tables (told w c.wires.last) R (told_env w c.wires) (told w c.wires.variables) a) (told w c.wires.variables) o)
      ((a : Tick) × Ticks tables (told w c.wires.last) R (told_env w c.wires) (told w c.wires.variables) a × (o ≡ as_whole a.code (Abort true true test a.rest) a))
      → Shows tables f w (Abort true armed test p) c.register c.keep c.next (weak_copy test c (resume tables p (weak_context c))) o
  by_bool true eq k =
      let i : Tick = k.0 in
      let a = resume tables p (weak_context c) in
      shape i (code_of_weak_abort i.code) k.1
      (λ v g s ht t. s ∙ sym (ap (λ s. cond s (of_weak_abort (v a.status)) (v a.status)) (ht ∙ eq) ∙ ap of_weak_abort t.status ∙ weak_status i.code))
      (λ v ht e3 ks fv t. subst (λ s. Tells tables v (Abort true armed test p) c.register c.keep (weak_copy test c a) s) (sym k.2) (weak_stops tables v (told_env w c.wires) armed test p c a i ht e3 ks fv eq t))
  by_bool false eq k =
      let i : Tick = k.0 in
      let a = resume tables p (weak_context c) in
      shape i i.code k.1
      (λ v g s ht t. s ∙ sym (ap (λ s. cond s (of_weak_abort (v a.status)) (v a.status)) (ht ∙ eq) ∙ t.status))
      (λ v ht e3 ks fv t. subst (λ s. Tells tables v (Abort true armed test p) c.register c.keep (weak_copy test c a) s) (sym k.2) (weak_goes tables v (told_env w c.wires) armed test p c a i ht e3 ks fv eq t))

strong_resumes : (tables : Tables) (f w : ℕ → ℤ) (armed : Bool) (test : Test) (p : Stmt) (c : Context) (o : Tick) → Outside c → w 0 ≡ pos 0 → is_on w c.go ≡ true → is_on w c.hold ≡ false → live tables p c.register f ≡ true → LivesApart tables p c.register f
    → (R : Stmt) → R ≡ residual tables p c.register f → (b : Bool) → holds (told_env w c.wires) test ≡ b
    → ((w0 : ℕ → ℤ) (i : Tick) → Outside (tested_context c) → w0 0 ≡ pos 0 → is_on w0 (tested_context c).go ≡ true → is_on w0 (tested_context c).hold ≡ false
    → Ticks tables (told w0 c.wires.last) R (told_env w0 c.wires) (told w0 c.wires.variables) i → Shows tables f w0 p c.register c.keep (c.next + 7) (resume tables p (tested_context c)) i)
    → Chosen b (Aborts false (λ a. Ticks tables (told w c.wires.last) R (told_env w c.wires) (told w c.wires.variables) a) (told w c.wires.variables) o)
    ((a : Tick) × Ticks tables (told w c.wires.last) R (told_env w c.wires) (told w c.wires.variables) a × (o ≡ as_whole a.code (Abort false true test a.rest) a))
    → Shows tables f w (Abort false armed test p) c.register c.keep c.next (tested_copy test (resume tables p (tested_context c)).live 0 c (resume tables p (tested_context c))) o
strong_resumes tables f w armed test p c o out z on free alive apart R eR true eq body h =
    let n = c.next in
    let vs = formula_value f w (Holds test c.wires) ∷ pos 0 ∷ pos 1 ∷ pos 1 ∷ pos 1 ∷ pos 1 ∷ pos 1 ∷ [] in
    let w0 = own n vs w in
    let hold = out.hold in
    let keep = out.keep in
    let d0 = tested_context c in
    let a = resume tables p d0 in
    let g0 = own_agrees n vs w in
    let off0 : is_on w0 (n + 1) ≡ false = ap is_true (own_at n 1 vs w) in
    let idle0 : Idle w0 d0 (live tables p c.register f) = record { idle = ap (λ b. b && live tables p c.register f) off0; free = λ e. off0 } in
    let x = resume_rests tables f w0 p d0 (outside_with (n + 1) c.hold c.keep 7 c.register c out (omega arith) (omega (arith, hold)) (omega (arith, keep))) (zero_at n w w0 g0 out.some z) idle0 in
    let v = x.values in
    let one = one_solved f w n 7 vs a v (omega arith) x.same in
    let g = one.same in
    let zv = zero_at n w v g out.some z in
    let free_v = at n c.hold w v false g out.hold free in
    let on_v = at n c.go w v true g out.go on in
    let test_on : is_on v n ≡ true = ap is_true one.first ∙ truth_of (holds (told_env w c.wires) test) ∙ eq in
    let off_v : is_on v (n + 1) ≡ false = ap is_true (one.own 1 (omega arith)) in
    let two_on : is_on v (n + 2) ≡ true = ap is_true (one.own 2 (omega arith)) in
    let three_on : is_on v (n + 3) ≡ true = ap is_true (one.own 3 (omega arith)) in
    let five_on : is_on v (n + 5) ≡ true = ap is_true (one.own 5 (omega arith)) in
    let live_v : is_on v a.live ≡ true = live_wire tables f v p d0 zv x.solves ∙ alive in
    let solves : Satisfies f v (tested_copy test a.live 0 c a).equations = (
      one.first ∙ sym (value_agrees n f w v (Holds test c.wires) g out.wires),
      (
        one.own 1 (omega arith) ∙ sym (ap₂ (λ s r. of_bool (s && not r)) on_v test_on),
        (
          one.own 2 (omega arith) ∙ sym (ap₂ (λ s r. of_bool (s && r)) on_v test_on),
          (
            one.own 3 (omega arith) ∙ sym (ap₂ (λ s r. of_bool (s && r)) two_on live_v),
            (
              one.own 4 (omega arith) ∙ sym (ap (λ s. cond s (v (n + 6)) (v a.status)) three_on ∙ one.own 6 (omega arith)),
              (
                one.own 5 (omega arith) ∙ sym (ap₂ (λ s r. of_bool (s || r)) free_v three_on),
                (one.own 6 (omega arith), x.solves),
              ),
            ),
          ),
        ),
      ),
    ) in
    let says = tested_says f v test a.live 0 c a solves in
    let hv : holds (told_env v c.wires) test ≡ true = ap (λ s. holds s test) (env_agrees n w v c.wires g out.wires) ∙ eq in
    let last = told v c.wires.last in
    let env = told_env v c.wires in
    let vars = told v c.wires.variables in
    let sa = resume_silent tables f v p d0 zv x.solves (ap (λ b. b && live tables p c.register f) off_v) free_v in
    let whole = strong_stops tables last env vars v armed test p R a.live c a says hv on_v live_v sa in
    record {
      values = v;
      same = g;
      solves = solves;
      tells = subst (λ s. Tells tables v (Abort false armed test p) c.register c.keep (tested_copy test a.live 0 c a) s) (ap (ends_with []) (told_agrees n w v c.wires.variables g (out.wires).variables) ∙ sym h) whole.tells;
    }
strong_resumes tables f w armed test p c o out z on free alive apart R eR false eq body h =
    let i : Tick = h.0 in
    let n = c.next in
    let vs = formula_value f w (Holds test c.wires) ∷ pos 1 ∷ pos 0 ∷ pos 0 ∷ pos (suc i.code) ∷ pos 0 ∷ pos 1 ∷ [] in
    let w0 = own n vs w in
    let hold = out.hold in
    let keep = out.keep in
    let d0 = tested_context c in
    let a = resume tables p d0 in
    let g0 = own_agrees n vs w in
    let x = body w0 i (outside_with (n + 1) c.hold c.keep 7 c.register c out (omega arith) (omega (arith, hold)) (omega (arith, keep))) (zero_at n w w0 g0 out.some z) (ap is_true (own_at n 1 vs w)) (at n c.hold w w0 false g0 out.hold free) (moved tables n w w0 R c.wires i g0 out.wires h.1) in
    let v = x.values in
    let one = one_solved f w n 7 vs a v (omega arith) x.same in
    let g = one.same in
    let free_v = at n c.hold w v false g out.hold free in
    let on_v = at n c.go w v true g out.go on in
    let test_off : is_on v n ≡ false = ap is_true one.first ∙ truth_of (holds (told_env w c.wires) test) ∙ eq in
    let two_off : is_on v (n + 2) ≡ false = ap is_true (one.own 2 (omega arith)) in
    let three_off : is_on v (n + 3) ≡ false = ap is_true (one.own 3 (omega arith)) in
    record {
      values = v;
      same = g;
      solves = (
        one.first ∙ sym (value_agrees n f w v (Holds test c.wires) g out.wires),
        (
          one.own 1 (omega arith) ∙ sym (ap₂ (λ s r. of_bool (s && not r)) on_v test_off),
          (
            one.own 2 (omega arith) ∙ sym (ap₂ (λ s r. of_bool (s && r)) on_v test_off),
            (
              one.own 3 (omega arith) ∙ sym (ap (λ s. of_bool (s && is_on v a.live)) two_off),
              (
                one.own 4 (omega arith) ∙ sym (ap (λ s. cond s (v (n + 6)) (v a.status)) three_off ∙ (x.tells).status),
                (
                  one.own 5 (omega arith) ∙ sym (ap₂ (λ s r. of_bool (s || r)) free_v three_off),
                  (one.own 6 (omega arith), x.solves),
                ),
              ),
            ),
          ),
        ),
      );
      tells = subst (λ s. Tells tables v (Abort false armed test p) c.register c.keep (tested_copy test a.live 0 c a) s) (sym h.2)
          (whole_tells tables v p (Abort false armed test p) (λ s. Abort false true test s) c.register c.keep c.keep (n + 4) a i (one.own 4 (omega arith) ∙ sym (x.tells).status) x.tells refl
          (λ s k. abort_stands tables false armed test p s c.register (registers_set v a.sets) k) (tested_copy test a.live 0 c a).equations);
    }

suspend_resumes : (tables : Tables) (f w : ℕ → ℤ) (armed : Bool) (test : Test) (p : Stmt) (c : Context) (o : Tick) → Outside c → w 0 ≡ pos 0 → is_on w c.go ≡ true → is_on w c.hold ≡ false → live tables p c.register f ≡ true → LivesApart tables p c.register f
    → (R : Stmt) → R ≡ residual tables p c.register f → (b : Bool) → holds (told_env w c.wires) test ≡ b
    → ((w0 : ℕ → ℤ) (i : Tick) → Outside (held_context c) → w0 0 ≡ pos 0 → is_on w0 (held_context c).go ≡ true → is_on w0 (held_context c).hold ≡ false
    → Ticks tables (told w0 c.wires.last) R (told_env w0 c.wires) (told w0 c.wires.variables) i → Shows tables f w0 p c.register c.keep (c.next + 7) (resume tables p (held_context c)) i)
    → Chosen b (o ≡ quiet 1 (Suspend true test R) (told w c.wires.variables))
    ((a : Tick) × Ticks tables (told w c.wires.last) R (told_env w c.wires) (told w c.wires.variables) a × (o ≡ as_whole a.code (Suspend true test a.rest) a))
    → Shows tables f w (Suspend armed test p) c.register c.keep c.next (tested_copy test (resume tables p (held_context c)).live 1 c (resume tables p (held_context c))) o
suspend_resumes tables f w armed test p c o out z on free alive apart R eR true eq body h =
    let n = c.next in
    let vs = formula_value f w (Holds test c.wires) ∷ pos 0 ∷ pos 1 ∷ pos 1 ∷ pos 2 ∷ pos 1 ∷ pos 2 ∷ [] in
    let w0 = own n vs w in
    let hold = out.hold in
    let keep = out.keep in
    let d0 = held_context c in
    let a = resume tables p d0 in
    let g0 = own_agrees n vs w in
    let off0 : is_on w0 (n + 1) ≡ false = ap is_true (own_at n 1 vs w) in
    let idle0 : Idle w0 d0 (live tables p c.register f) = record { idle = ap (λ b. b && live tables p c.register f) off0; free = λ e. off0 } in
    let x = resume_rests tables f w0 p d0 (outside_with (n + 1) (n + 5) c.keep 7 c.register c out (omega arith) (omega arith) (omega (arith, keep))) (zero_at n w w0 g0 out.some z) idle0 in
    let v = x.values in
    let one = one_solved f w n 7 vs a v (omega arith) x.same in
    let g = one.same in
    let zv = zero_at n w v g out.some z in
    let free_v = at n c.hold w v false g out.hold free in
    let on_v = at n c.go w v true g out.go on in
    let test_on : is_on v n ≡ true = ap is_true one.first ∙ truth_of (holds (told_env w c.wires) test) ∙ eq in
    let off_v : is_on v (n + 1) ≡ false = ap is_true (one.own 1 (omega arith)) in
    let two_on : is_on v (n + 2) ≡ true = ap is_true (one.own 2 (omega arith)) in
    let three_on : is_on v (n + 3) ≡ true = ap is_true (one.own 3 (omega arith)) in
    let five_on : is_on v (n + 5) ≡ true = ap is_true (one.own 5 (omega arith)) in
    let live_v : is_on v a.live ≡ true = live_wire tables f v p d0 zv x.solves ∙ alive in
    let solves : Satisfies f v (tested_copy test a.live 1 c a).equations = (
      one.first ∙ sym (value_agrees n f w v (Holds test c.wires) g out.wires),
      (
        one.own 1 (omega arith) ∙ sym (ap₂ (λ s r. of_bool (s && not r)) on_v test_on),
        (
          one.own 2 (omega arith) ∙ sym (ap₂ (λ s r. of_bool (s && r)) on_v test_on),
          (
            one.own 3 (omega arith) ∙ sym (ap₂ (λ s r. of_bool (s && r)) two_on live_v),
            (
              one.own 4 (omega arith) ∙ sym (ap (λ s. cond s (v (n + 6)) (v a.status)) three_on ∙ one.own 6 (omega arith)),
              (
                one.own 5 (omega arith) ∙ sym (ap₂ (λ s r. of_bool (s || r)) free_v three_on),
                (one.own 6 (omega arith), x.solves),
              ),
            ),
          ),
        ),
      ),
    ) in
    let says = tested_says f v test a.live 1 c a solves in
    let hv : holds (told_env v c.wires) test ≡ true = ap (λ s. holds s test) (env_agrees n w v c.wires g out.wires) ∙ eq in
    let last = told v c.wires.last in
    let env = told_env v c.wires in
    let vars = told v c.wires.variables in
    let held = resume_held tables f v p d0 zv x.solves off_v five_on in
    let whole = suspend_stops tables last env f vars v armed test p a.live c a says hv on_v live_v alive apart held in
    record {
      values = v;
      same = g;
      solves = solves;
      tells = subst (λ s. Tells tables v (Suspend armed test p) c.register c.keep (tested_copy test a.live 1 c a) s)
          (ap₂ (λ s r. quiet 1 (Suspend true test s) r) (sym eR) (told_agrees n w v c.wires.variables g (out.wires).variables) ∙ sym h) whole.tells;
    }
suspend_resumes tables f w armed test p c o out z on free alive apart R eR false eq body h =
    let i : Tick = h.0 in
    let n = c.next in
    let vs = formula_value f w (Holds test c.wires) ∷ pos 1 ∷ pos 0 ∷ pos 0 ∷ pos (suc i.code) ∷ pos 0 ∷ pos 2 ∷ [] in
    let w0 = own n vs w in
    let hold = out.hold in
    let keep = out.keep in
    let d0 = held_context c in
    let a = resume tables p d0 in
    let g0 = own_agrees n vs w in
    let x = body w0 i (outside_with (n + 1) (n + 5) c.keep 7 c.register c out (omega arith) (omega arith) (omega (arith, keep))) (zero_at n w w0 g0 out.some z) (ap is_true (own_at n 1 vs w)) (ap is_true (own_at n 5 vs w)) (moved tables n w w0 R c.wires i g0 out.wires h.1) in
    let v = x.values in
    let one = one_solved f w n 7 vs a v (omega arith) x.same in
    let g = one.same in
    let free_v = at n c.hold w v false g out.hold free in
    let on_v = at n c.go w v true g out.go on in
    let test_off : is_on v n ≡ false = ap is_true one.first ∙ truth_of (holds (told_env w c.wires) test) ∙ eq in
    let two_off : is_on v (n + 2) ≡ false = ap is_true (one.own 2 (omega arith)) in
    let three_off : is_on v (n + 3) ≡ false = ap is_true (one.own 3 (omega arith)) in
    record {
      values = v;
      same = g;
      solves = (
        one.first ∙ sym (value_agrees n f w v (Holds test c.wires) g out.wires),
        (
          one.own 1 (omega arith) ∙ sym (ap₂ (λ s r. of_bool (s && not r)) on_v test_off),
          (
            one.own 2 (omega arith) ∙ sym (ap₂ (λ s r. of_bool (s && r)) on_v test_off),
            (
              one.own 3 (omega arith) ∙ sym (ap (λ s. of_bool (s && is_on v a.live)) two_off),
              (
                one.own 4 (omega arith) ∙ sym (ap (λ s. cond s (v (n + 6)) (v a.status)) three_off ∙ (x.tells).status),
                (
                  one.own 5 (omega arith) ∙ sym (ap₂ (λ s r. of_bool (s || r)) free_v three_off),
                  (one.own 6 (omega arith), x.solves),
                ),
              ),
            ),
          ),
        ),
      );
      tells = subst (λ s. Tells tables v (Suspend armed test p) c.register c.keep (tested_copy test a.live 1 c a) s) (sym h.2)
          (whole_tells tables v p (Suspend armed test p) (λ s. Suspend true test s) c.register c.keep c.keep (n + 4) a i (one.own 4 (omega arith) ∙ sym (x.tells).status) x.tells refl
          (λ s k. suspend_stands tables armed test p s c.register (registers_set v a.sets) k) (tested_copy test a.live 1 c a).equations);
    }

last_is : (f v : ℕ → ℤ) (k : Option Kind) (n : ℕ) → last_value k n f ≡ formula_value f v (last_formula k n)
last_is f v None n = refl
last_is f v (Some k) n = refl

pure_last : (f : ℕ → ℤ) (k : Option Kind) (n : ℕ) → k ≡ None → last_value k n f ≡ pos 0
pure_last f None n e = refl
pure_last f (Some k) n e = cc

-- small facts of arithmetic, which are slow to find where much is known
lt_0_5 : 0 < 5
lt_0_5 = omega arith

lt_0_3 : 0 < 3
lt_0_3 = omega arith

lt_1_5 : 1 < 5
lt_1_5 = omega arith

lt_2_5 : 2 < 5
lt_2_5 = omega arith

lt_4_5 : 4 < 5
lt_4_5 = omega arith

lt_2_3 : 2 < 3
lt_2_3 = omega arith

max_ended : (i j : ℕ) → i ≡ 0 → max (suc i) (suc j) ≡ suc j
max_ended i j h = omega (arith, h)

max_first : (i : ℕ) → max (suc i) 0 ≡ suc i
max_first i = omega arith

max_second : (i : ℕ) → max 0 (suc i) ≡ suc i
max_second i = omega arith

dead_code : (tables : Tables) (last : ℕ → ℤ) (R : Stmt) (env : Env) (x : ℕ → ℤ) (i : Tick) (b : Bool) → b ≡ false → Ticks tables last (cond b R Nothing) env x i → i.code ≡ 0
dead_code tables last R env x i true e h = cc
dead_code tables last R env x i false e h = ap (λ (z : Tick). z.code) h

-- the statement in question, of a part
abbrev Resumes : Tables → (ℕ → ℤ) → Stmt → Type 0
Resumes tables f p =
    (w : ℕ → ℤ) (d : Context) (i : Tick) → Outside d → w 0 ≡ pos 0 → is_on w d.go ≡ true → is_on w d.hold ≡ false → live tables p d.register f ≡ true → LivesApart tables p d.register f
    → Ticks tables (told w d.wires.last) (residual tables p d.register f) (told_env w d.wires) (told w d.wires.variables) i → Shows tables f w p d.register d.keep d.next (resume tables p d) i

seq_ends : (tables : Tables) (f w : ℕ → ℤ) (p q : Stmt) (c : Context) (o : Tick) → Resumes tables f p → Resumes tables f q → Outside c → IsSource tables (Seq p q) → LoopsWait (Seq p q) → w 0 ≡ pos 0 → is_on w c.go ≡ true → is_on w c.hold ≡ false
    → LivesApart tables (Seq p q) c.register f
    → live tables p c.register f ≡ true → live tables q (c.register + registers tables p) f ≡ false → (i : Tick) → Ticks tables (told w c.wires.last) (Seq (residual tables p c.register f) q) (told_env w c.wires) (told w c.wires.variables) o → Ticks tables (told w c.wires.last) (residual tables p c.register f) (told_env w c.wires) (told w c.wires.variables) i → has_ended i.code ≡ true
    → ((j : Tick) × Ticks tables (told w c.wires.last) q (told_env w c.wires) i.variables j × (o ≡ record j { emits = i.emits ++ j.emits }))
    → Shows tables f w (Seq p q) c.register c.keep c.next (resume tables (Seq p q) c) o
seq_ends tables f w p q c o body_p body_q out src l z on free apart e1 dead i k k1 e2 kk =
    let last = told w c.wires.last in
    let env = told_env w c.wires in
    let vars = told w c.wires.variables in
    let x1 = live tables p c.register f in
    let x2 = live tables q (c.register + registers tables p) f in
    let R = residual tables p c.register f in
    let S2 = residual tables q (c.register + registers tables p) f in
    let j : Tick = kk.0 in
    let n = c.next in
    let r = c.register in
    let m = r + registers tables p in
    let vs = pos (suc j.code) ∷ of_bool (x1 || x2) ∷ pos (suc j.code) ∷ pos 0 ∷ pos 1 ∷ [] in
    let w0 = own n vs w in
    let go = out.go in
    let keep = out.keep in
    let d0 = part_context c.go 5 c in
    let a = resume tables p d0 in
    let d = start_context (n + 4) m a c in
    let b = starting_if (ends1 p) (start tables q d) d in
    let x = behind (n + 2) a.live (below m a.sets) (from m b.sets) (turn_own (n + 4) a) a b in
    let dy = other_context c.go m x c in
    let y = resume tables q dy in
    let out0 = outside_part c.go 5 c out (omega (arith, go)) in
    let ia = resume_inside tables p d0 out0 in
    let ga = ia.grows in
    let keep_a : c.keep < a.next = omega (arith, ga, keep) in
    let la = ia.live in
    let sta = ia.status in
    let g0 = own_agrees n vs w in
    let z0 = zero_at n w w0 g0 out.some z in
    let free0 = at n c.hold w w0 false g0 out.hold free in
    let outd = outside_start (n + 4) m (n + 5) a c out ia (omega arith) (omega (arith, ga)) in
    let ib = inside_if (ends1 p) (start tables q d) d outd (start_inside tables q d outd) in
    let gb = ib.grows in
    let keep_b : c.keep < b.next = omega (arith, ga, gb, keep) in
    let ix = inside_pair (n + 2) a.live m (n + 5) a.next (turn_own (n + 4) a) a b ia ib (omega arith) (omega arith) (omega (arith, la, gb)) (omega (arith, ga, gb), (omega (arith, sta, gb), tt)) in
    let outy = outside_other c.go m (n + 2) x c out ix (omega arith) (omega (arith, ga, gb, go)) in
    let iy = resume_inside tables q dy outy in
    let s1 = body_p w0 d0 i out0 z0 (at n c.go w w0 true g0 go on) free0 e1 apart.1 (moved tables n w w0 R c.wires i g0 out.wires k1) in
    let u1 = s1.values in
    let o1 = one_solved f w n 5 vs a u1 lt_0_5 s1.same in
    let g1 = o1.same in
    let z1 = zero_at n w u1 g1 out.some z in
    let s2 = shows_if tables f u1 q m c.keep a.next (ends1 p) (start tables q d) d j ((resuming_allows tables last p r f env vars i e1 apart.1 k1).ends (ended_zero i.code e2))
    (start_shows tables f u1 q d j outd src.1 l.1 z1 (ap is_true (o1.own 4 lt_4_5)) (ap is_true z1)
    (ticks_move tables q j last (told u1 c.wires.last) env (told_env u1 c.wires) i.variables (told u1 a.variables)
    (sym (told_agrees n w u1 c.wires.last g1 (out.wires).last)) (sym (env_agrees n w u1 c.wires g1 out.wires)) (sym (s1.tells).variables) kk.1)) in
    let u2 = s2.values in
    let t2 = two_solved f w n 5 vs a b lt_0_5 ia (solved tables f w0 p r c.keep (n + 5) a i s1) (solved tables f u1 q m c.keep a.next b j s2) in
    let o2 = t2.one in
    let g2 = o2.same in
    let z2 = zero_at n w u2 g2 out.some z in
    let free2 = at n c.hold w u2 false g2 out.hold free in
    let s30 = resume_rests tables f u2 q dy outy z2 (idle_dead u2 dy x2 dead free2) in
    let jn = joining f u2 (writes_behind p q) (writes1 q) y.live (n + 2) x y ix iy iy.live s30 in
    let s3 = jn.solution in
    let v = s3.values in
    let three = three_solved f w n vs a b y ia ib (solved tables f w0 p r c.keep (n + 5) a i s1) (solved tables f u1 q m c.keep a.next b j s2) s3 in
    let one = three.one in
    let g = one.same in
    let zv = zero_at n w v g out.some z in
    let free_v = at n c.hold w v false g out.hold free in
    let ha = three.solves_first in
    let hb = three.solves_second in
    let hy = three.solves_third in
    let lw = or_at v a.live y.live x1 x2 (live_wire tables f v p d0 zv ha) (live_wire tables f v q dy zv hy) in
    let S = below m a.sets in
    let T = from m b.sets in
    let Q = registers_set v (joined S T) in
    let ta = tells_still tables u1 v p r c.keep (n + 5) a i three.after_first ia keep_a s1.tells in
    let tb = tells_still tables u2 v q m c.keep a.next b j three.after_second ib keep_b s2.tells in
    let zero_code = ended_zero i.code e2 in
    let ex : v (n + 2) ≡ int_max (v a.status) (v b.status) = one.own 2 lt_2_5 ∙ max_of v a.status b.status (suc i.code) (suc j.code) (suc j.code) ta.status tb.status (max_ended i.code j.code zero_code) in
    let eg : v (n + 4) ≡ of_bool (to_nat (v a.status) == 1) = one.own 4 lt_4_5 ∙ sym (ap (λ s. of_bool (to_nat s == 1)) ta.status ∙ ap (λ s. of_bool (suc s == 1)) zero_code) in
    let inner = turn_ended tables v p q (Seq p q) q r m r c.keep (n + 2) a.live S T (turn_own (n + 4) a) a b ex i j ta tb e2
    (λ s off st. Seq_second tables p q s r Q (first_dies tables v p r a.sets b.sets off) (second_stands tables v q s m a.sets b.sets st))
    (λ s1 s2. off_joined v S T (off_below v m a.sets s1) (off_from v m b.sets s2)) in
    let sy = resume_silent tables f v q dy zv hy (idle_if (is_on v c.go) x2 dead) free_v in
    let e2s : v (n + 2) ≡ pos (suc j.code) = one.own 2 lt_2_5 in
    let e0 : v n ≡ int_max (v (n + 2)) (v y.status) = one.first ∙ max_of v (n + 2) y.status (suc j.code) 0 (suc j.code) e2s (sy.quiet).status (max_first j.code) in
    let ux : Active tables last env vars v (Seq p q) (Seq R q) r c.keep x = record { tick = o; ticks = k; tells = subst (λ s. Tells tables v (Seq p q) r c.keep x s) (sym kk.2) inner } in
    let whole = active_first tables last env vars f v (writes_behind p q) (writes1 q) y.live (Seq p q) (Seq R q) (Seq p q) (Seq R q) r r c.keep n (n + 1) x.sets (from m y.sets) (live_own (n + 1) x y) x y e0 jn.joins (live_wire tables f v q dy zv hy ∙ dead) (λ k e. ap v (behind_passes tables p q c k e) ∙ g.at (c.wires.variables k) ((out.wires).variables k)) ux
    (subst (λ s. Quiet v s y) (told_agrees n w v c.wires.variables g (out.wires).variables) sy.quiet) (λ o k. k) (λ s st. first_alone tables v (Seq p q) s r x.sets (from m y.sets) (off_from v m y.sets sy.sets) st) (λ st. off_joined v x.sets (from m y.sets) st (off_from v m y.sets sy.sets)) in
    record {
      values = v;
      same = g;
      solves = (e0, (one.own 1 lt_1_5 ∙ lw, satisfies_append f v (joins y.live y.next x.variables y.variables (both_write (writes_behind p q) (writes1 q))) (x.equations ++ y.equations) jn.joins (satisfies_append f v x.equations y.equations (ex, (eg, satisfies_append f v a.equations b.equations ha hb)) hy)));
      tells = whole.tells;
    }

seq_waits : (tables : Tables) (f w : ℕ → ℤ) (p q : Stmt) (c : Context) (o : Tick) → Resumes tables f p → Resumes tables f q → Outside c → IsSource tables (Seq p q) → LoopsWait (Seq p q) → w 0 ≡ pos 0 → is_on w c.go ≡ true → is_on w c.hold ≡ false
    → LivesApart tables (Seq p q) c.register f
    → live tables p c.register f ≡ true → live tables q (c.register + registers tables p) f ≡ false → (i : Tick) → Ticks tables (told w c.wires.last) (Seq (residual tables p c.register f) q) (told_env w c.wires) (told w c.wires.variables) o → Ticks tables (told w c.wires.last) (residual tables p c.register f) (told_env w c.wires) (told w c.wires.variables) i → has_ended i.code ≡ false
    → o ≡ as_whole i.code (Seq i.rest q) i
    → Shows tables f w (Seq p q) c.register c.keep c.next (resume tables (Seq p q) c) o
seq_waits tables f w p q c o body_p body_q out src l z on free apart e1 dead i k k1 e2 kk =
    let last = told w c.wires.last in
    let env = told_env w c.wires in
    let vars = told w c.wires.variables in
    let x1 = live tables p c.register f in
    let x2 = live tables q (c.register + registers tables p) f in
    let R = residual tables p c.register f in
    let S2 = residual tables q (c.register + registers tables p) f in
    let n = c.next in
    let r = c.register in
    let m = r + registers tables p in
    let vs = pos (suc i.code) ∷ of_bool (x1 || x2) ∷ pos (suc i.code) ∷ pos 0 ∷ pos 0 ∷ [] in
    let w0 = own n vs w in
    let go = out.go in
    let keep = out.keep in
    let d0 = part_context c.go 5 c in
    let a = resume tables p d0 in
    let d = start_context (n + 4) m a c in
    let b = starting_if (ends1 p) (start tables q d) d in
    let x = behind (n + 2) a.live (below m a.sets) (from m b.sets) (turn_own (n + 4) a) a b in
    let dy = other_context c.go m x c in
    let y = resume tables q dy in
    let out0 = outside_part c.go 5 c out (omega (arith, go)) in
    let ia = resume_inside tables p d0 out0 in
    let ga = ia.grows in
    let keep_a : c.keep < a.next = omega (arith, ga, keep) in
    let la = ia.live in
    let sta = ia.status in
    let g0 = own_agrees n vs w in
    let z0 = zero_at n w w0 g0 out.some z in
    let free0 = at n c.hold w w0 false g0 out.hold free in
    let outd = outside_start (n + 4) m (n + 5) a c out ia (omega arith) (omega (arith, ga)) in
    let ib = inside_if (ends1 p) (start tables q d) d outd (start_inside tables q d outd) in
    let gb = ib.grows in
    let keep_b : c.keep < b.next = omega (arith, ga, gb, keep) in
    let ix = inside_pair (n + 2) a.live m (n + 5) a.next (turn_own (n + 4) a) a b ia ib (omega arith) (omega arith) (omega (arith, la, gb)) (omega (arith, ga, gb), (omega (arith, sta, gb), tt)) in
    let outy = outside_other c.go m (n + 2) x c out ix (omega arith) (omega (arith, ga, gb, go)) in
    let iy = resume_inside tables q dy outy in
    let s1 = body_p w0 d0 i out0 z0 (at n c.go w w0 true g0 go on) free0 e1 apart.1 (moved tables n w w0 R c.wires i g0 out.wires k1) in
    let u1 = s1.values in
    let o1 = one_solved f w n 5 vs a u1 lt_0_5 s1.same in
    let g1 = o1.same in
    let z1 = zero_at n w u1 g1 out.some z in
    let s2 = rests_if f u1 a.next (ends1 p) (start tables q d) d (start_rests tables f u1 q d outd z1 (ap is_true (o1.own 4 lt_4_5)) (ap is_true z1)) in
    let u2 = s2.values in
    let t2 = two_solved f w n 5 vs a b lt_0_5 ia (solved tables f w0 p r c.keep (n + 5) a i s1) s2 in
    let o2 = t2.one in
    let g2 = o2.same in
    let z2 = zero_at n w u2 g2 out.some z in
    let free2 = at n c.hold w u2 false g2 out.hold free in
    let s30 = resume_rests tables f u2 q dy outy z2 (idle_dead u2 dy x2 dead free2) in
    let jn = joining f u2 (writes_behind p q) (writes1 q) y.live (n + 2) x y ix iy iy.live s30 in
    let s3 = jn.solution in
    let v = s3.values in
    let three = three_solved f w n vs a b y ia ib (solved tables f w0 p r c.keep (n + 5) a i s1) s2 s3 in
    let one = three.one in
    let g = one.same in
    let zv = zero_at n w v g out.some z in
    let free_v = at n c.hold w v false g out.hold free in
    let ha = three.solves_first in
    let hb = three.solves_second in
    let hy = three.solves_third in
    let lw = or_at v a.live y.live x1 x2 (live_wire tables f v p d0 zv ha) (live_wire tables f v q dy zv hy) in
    let S = below m a.sets in
    let T = from m b.sets in
    let Q = registers_set v (joined S T) in
    let ta = tells_still tables u1 v p r c.keep (n + 5) a i three.after_first ia keep_a s1.tells in
    let sb = silent_if f v (told v a.variables) (ends1 p) (start tables q d) d zv hb (λ j. start_silent tables f v q d zv j (ap is_true (one.own 4 lt_4_5)) (ap is_true zv)) in
    let ex : v (n + 2) ≡ int_max (v a.status) (v b.status) = one.own 2 lt_2_5 ∙ max_of v a.status b.status (suc i.code) 0 (suc i.code) ta.status (sb.quiet).status (max_first i.code) in
    let eg : v (n + 4) ≡ of_bool (to_nat (v a.status) == 1) = one.own 4 lt_4_5 ∙ sym (ap (λ s. of_bool (to_nat s == 1)) ta.status ∙ ap of_bool (has_ended_status i.code ∙ e2)) in
    let inner = turn_waits tables v p q (Seq p q) q r m r c.keep (n + 2) a.live S T (turn_own (n + 4) a) a b ex i ta sb
    (λ s off st. Seq_first tables p q s r Q (first_stands tables v p s r a.sets b.sets st) (second_dies tables v q m a.sets b.sets off))
    (λ s1 s2. off_joined v S T (off_below v m a.sets s1) (off_from v m b.sets s2)) in
    let sy = resume_silent tables f v q dy zv hy (idle_if (is_on v c.go) x2 dead) free_v in
    let e2s : v (n + 2) ≡ pos (suc i.code) = one.own 2 lt_2_5 in
    let e0 : v n ≡ int_max (v (n + 2)) (v y.status) = one.first ∙ max_of v (n + 2) y.status (suc i.code) 0 (suc i.code) e2s (sy.quiet).status (max_first i.code) in
    let ux : Active tables last env vars v (Seq p q) (Seq R q) r c.keep x = record { tick = o; ticks = k; tells = subst (λ s. Tells tables v (Seq p q) r c.keep x s) (sym kk) inner } in
    let whole = active_first tables last env vars f v (writes_behind p q) (writes1 q) y.live (Seq p q) (Seq R q) (Seq p q) (Seq R q) r r c.keep n (n + 1) x.sets (from m y.sets) (live_own (n + 1) x y) x y e0 jn.joins (live_wire tables f v q dy zv hy ∙ dead) (λ k e. ap v (behind_passes tables p q c k e) ∙ g.at (c.wires.variables k) ((out.wires).variables k)) ux
    (subst (λ s. Quiet v s y) (told_agrees n w v c.wires.variables g (out.wires).variables) sy.quiet) (λ o k. k) (λ s st. first_alone tables v (Seq p q) s r x.sets (from m y.sets) (off_from v m y.sets sy.sets) st) (λ st. off_joined v x.sets (from m y.sets) st (off_from v m y.sets sy.sets)) in
    record {
      values = v;
      same = g;
      solves = (e0, (one.own 1 lt_1_5 ∙ lw, satisfies_append f v (joins y.live y.next x.variables y.variables (both_write (writes_behind p q) (writes1 q))) (x.equations ++ y.equations) jn.joins (satisfies_append f v x.equations y.equations (ex, (eg, satisfies_append f v a.equations b.equations ha hb)) hy)));
      tells = whole.tells;
    }

seq_second : (tables : Tables) (f w : ℕ → ℤ) (p q : Stmt) (c : Context) (o : Tick) → Resumes tables f p → Resumes tables f q → Outside c → IsSource tables (Seq p q) → LoopsWait (Seq p q) → w 0 ≡ pos 0 → is_on w c.go ≡ true → is_on w c.hold ≡ false
    → LivesApart tables (Seq p q) c.register f
    → live tables p c.register f ≡ false → live tables q (c.register + registers tables p) f ≡ true → Ticks tables (told w c.wires.last) (residual tables q (c.register + registers tables p) f) (told_env w c.wires) (told w c.wires.variables) o
    → Shows tables f w (Seq p q) c.register c.keep c.next (resume tables (Seq p q) c) o
seq_second tables f w p q c o body_p body_q out src l z on free apart e1 lives k =
    let last = told w c.wires.last in
    let env = told_env w c.wires in
    let vars = told w c.wires.variables in
    let x1 = live tables p c.register f in
    let x2 = live tables q (c.register + registers tables p) f in
    let R = residual tables p c.register f in
    let S2 = residual tables q (c.register + registers tables p) f in
    let n = c.next in
    let r = c.register in
    let m = r + registers tables p in
    let vs = pos (suc o.code) ∷ of_bool (x1 || x2) ∷ pos 0 ∷ pos 0 ∷ pos 0 ∷ [] in
    let w0 = own n vs w in
    let go = out.go in
    let keep = out.keep in
    let d0 = part_context c.go 5 c in
    let a = resume tables p d0 in
    let d = start_context (n + 4) m a c in
    let b = starting_if (ends1 p) (start tables q d) d in
    let x = behind (n + 2) a.live (below m a.sets) (from m b.sets) (turn_own (n + 4) a) a b in
    let dy = other_context c.go m x c in
    let y = resume tables q dy in
    let out0 = outside_part c.go 5 c out (omega (arith, go)) in
    let ia = resume_inside tables p d0 out0 in
    let ga = ia.grows in
    let keep_a : c.keep < a.next = omega (arith, ga, keep) in
    let la = ia.live in
    let sta = ia.status in
    let g0 = own_agrees n vs w in
    let z0 = zero_at n w w0 g0 out.some z in
    let free0 = at n c.hold w w0 false g0 out.hold free in
    let outd = outside_start (n + 4) m (n + 5) a c out ia (omega arith) (omega (arith, ga)) in
    let ib = inside_if (ends1 p) (start tables q d) d outd (start_inside tables q d outd) in
    let gb = ib.grows in
    let keep_b : c.keep < b.next = omega (arith, ga, gb, keep) in
    let ix = inside_pair (n + 2) a.live m (n + 5) a.next (turn_own (n + 4) a) a b ia ib (omega arith) (omega arith) (omega (arith, la, gb)) (omega (arith, ga, gb), (omega (arith, sta, gb), tt)) in
    let outy = outside_other c.go m (n + 2) x c out ix (omega arith) (omega (arith, ga, gb, go)) in
    let iy = resume_inside tables q dy outy in
    let s1 = resume_rests tables f w0 p d0 out0 z0 (idle_dead w0 d0 x1 e1 free0) in
    let u1 = s1.values in
    let o1 = one_solved f w n 5 vs a u1 lt_0_5 s1.same in
    let g1 = o1.same in
    let z1 = zero_at n w u1 g1 out.some z in
    let s2 = rests_if f u1 a.next (ends1 p) (start tables q d) d (start_rests tables f u1 q d outd z1 (ap is_true (o1.own 4 lt_4_5)) (ap is_true z1)) in
    let u2 = s2.values in
    let t2 = two_solved f w n 5 vs a b lt_0_5 ia s1 s2 in
    let o2 = t2.one in
    let g2 = o2.same in
    let z2 = zero_at n w u2 g2 out.some z in
    let free2 = at n c.hold w u2 false g2 out.hold free in
    let ky : Ticks tables (told u2 c.wires.last) S2 (told_env u2 c.wires) (told u2 c.wires.variables) o = moved tables n w u2 S2 c.wires o g2 out.wires k in
    let gy = iy.grows in
    let s30 = body_q u2 dy o outy z2 (at n c.go w u2 true g2 go on) free2 lives apart.2 ky in
    let jn = joining_shows tables f u2 q m c.keep o (writes_behind p q) (writes1 q) y.live (n + 2) x y ix iy iy.live (omega (arith, gy, keep_b)) s30 in
    let s3 = jn.shows in
    let v = s3.values in
    let three = three_solved f w n vs a b y ia ib s1 s2 (solved tables f u2 q m c.keep b.next y o s3) in
    let one = three.one in
    let g = one.same in
    let zv = zero_at n w v g out.some z in
    let free_v = at n c.hold w v false g out.hold free in
    let ha = three.solves_first in
    let hb = three.solves_second in
    let hy = three.solves_third in
    let lw = or_at v a.live y.live x1 x2 (live_wire tables f v p d0 zv ha) (live_wire tables f v q dy zv hy) in
    let S = below m a.sets in
    let T = from m b.sets in
    let Q = registers_set v (joined S T) in
    let sa = resume_silent tables f v p d0 zv ha (idle_if (is_on v c.go) x1 e1) free_v in
    let sb = silent_if f v (told v a.variables) (ends1 p) (start tables q d) d zv hb (λ j. start_silent tables f v q d zv j (ap is_true (one.own 4 lt_4_5)) (ap is_true zv)) in
    let ty = s3.tells in
    let ex : v (n + 2) ≡ int_max (v a.status) (v b.status) = one.own 2 lt_2_5 ∙ max_of v a.status b.status 0 0 0 (sa.quiet).status (sb.quiet).status refl in
    let eg : v (n + 4) ≡ of_bool (to_nat (v a.status) == 1) = one.own 4 lt_4_5 ∙ sym (ap (λ s. of_bool (to_nat s == 1)) (sa.quiet).status) in
    let sx = silent_pair v (told v c.wires.variables) (n + 2) a.live m (turn_own (n + 4) a) a b ex sa sb in
    let e0 : v n ≡ int_max (v (n + 2)) (v y.status) = one.first ∙ max_of v (n + 2) y.status 0 (suc o.code) (suc o.code) (one.own 2 lt_2_5) ty.status (max_second o.code) in
    let J = registers_set v (joined x.sets (from m y.sets)) in
    let uy : Active tables (told v c.wires.last) (told_env v c.wires) (told v c.wires.variables) v q S2 m c.keep y = record { tick = o; ticks = moved tables n w v S2 c.wires o g out.wires k; tells = ty } in
    let whole = active_second tables (told v c.wires.last) (told_env v c.wires) (told v c.wires.variables) f v (writes_behind p q) (writes1 q) y.live q S2 (Seq p q) S2 m r c.keep n (n + 1) x.sets (from m y.sets) (live_own (n + 1) x y) x y e0 jn.joins (live_wire tables f v q dy zv hy ∙ lives) (λ i e. ap v (resume_passes tables q dy i e)) sx.quiet uy (λ o k. k)
    (λ s st. Seq_second tables p q s r J (late_dead tables v p r x.sets y.sets sx.sets) (late_stands tables v q s m x.sets y.sets sx.sets st)) (λ st. off_joined v x.sets (from m y.sets) sx.sets (off_from v m y.sets st)) in
    record {
      values = v;
      same = g;
      solves = (e0, (one.own 1 lt_1_5 ∙ lw, satisfies_append f v (joins y.live y.next x.variables y.variables (both_write (writes_behind p q) (writes1 q))) (x.equations ++ y.equations) jn.joins (satisfies_append f v x.equations y.equations (ex, (eg, satisfies_append f v a.equations b.equations ha hb)) hy)));
      tells = whole.tells;
    }

seq_resumes : (tables : Tables) (f w : ℕ → ℤ) (p q : Stmt) (c : Context) (o : Tick) → Resumes tables f p → Resumes tables f q → Outside c → IsSource tables (Seq p q) → LoopsWait (Seq p q) → w 0 ≡ pos 0 → is_on w c.go ≡ true → is_on w c.hold ≡ false
    → live tables (Seq p q) c.register f ≡ true → LivesApart tables (Seq p q) c.register f
    → Ticks tables (told w c.wires.last) (residual tables (Seq p q) c.register f) (told_env w c.wires) (told w c.wires.variables) o → Shows tables f w (Seq p q) c.register c.keep c.next (resume tables (Seq p q) c) o
seq_resumes tables f w p q c o body_p body_q out src l z on free alive apart h =
    let last = told w c.wires.last in
    let env = told_env w c.wires in
    let vars = told w c.wires.variables in
    let x1 = live tables p c.register f in
    let x2 = live tables q (c.register + registers tables p) f in
    let R = residual tables p c.register f in
    let S2 = residual tables q (c.register + registers tables p) f in
    by_cases x1
    (λ e1.
    let dead = second_idle_if x1 x2 e1 apart.0 in
    let k : Ticks tables last (Seq R q) env vars o = subst (λ s. Ticks tables last (cond s (Seq R q) S2) env vars o) e1 h in
    let i : Tick = k.0 in
    by_cases (has_ended i.code)
    (λ e2. seq_ends tables f w p q c o body_p body_q out src l z on free apart e1 dead i k k.1 e2 (subst (λ s. Continues (λ y j. Ticks tables last q env y j) q i s o) e2 k.2))
    (λ e2. seq_waits tables f w p q c o body_p body_q out src l z on free apart e1 dead i k k.1 e2 (subst (λ s. Continues (λ y j. Ticks tables last q env y j) q i s o) e2 k.2)))
    (λ e1. seq_second tables f w p q c o body_p body_q out src l z on free apart e1 (other_one x1 x2 alive e1) (subst (λ s. Ticks tables last (cond s (Seq R q) S2) env vars o) e1 h))

loop_resumes : (tables : Tables) (f w : ℕ → ℤ) (p : Stmt) (c : Context) (o : Tick) → Resumes tables f p → Outside c → IsSource tables (Loop p) → LoopsWait (Loop p) → w 0 ≡ pos 0 → is_on w c.go ≡ true → is_on w c.hold ≡ false
    → live tables (Loop p) c.register f ≡ true → LivesApart tables (Loop p) c.register f
    → Ticks tables (told w c.wires.last) (residual tables (Loop p) c.register f) (told_env w c.wires) (told w c.wires.variables) o → Shows tables f w (Loop p) c.register c.keep c.next (resume tables (Loop p) c) o
loop_resumes tables f w p c o body_p out src l z on free alive apart h =
    let last = told w c.wires.last in
    let env = told_env w c.wires in
    let vars = told w c.wires.variables in
    let R = residual tables p c.register f in
    let i : Tick = h.0 in
    by_cases (has_ended i.code)
    (λ e2.
    let kk = subst (λ s. Continues (λ y j. Ticks tables last (Loop p) env y j) (Loop p) i s o) e2 h.2 in
    let j : Tick = kk.0 in
    let n = c.next in
    let r = c.register in
    let vs = pos (suc j.code) ∷ pos 0 ∷ pos 1 ∷ [] in
    let w0 = own n vs w in
    let go = out.go in
    let keep = out.keep in
    let d0 = part_context c.go 3 c in
    let a = resume tables p d0 in
    let d = start_context (n + 2) r a c in
    let b = starting_if (ends1 p) (start tables p d) d in
    let out0 = outside_part c.go 3 c out (omega (arith, go)) in
    let ia = resume_inside tables p d0 out0 in
    let ga = ia.grows in
    let keep_a : c.keep < a.next = omega (arith, ga, keep) in
    let g0 = own_agrees n vs w in
    let s1 = body_p w0 d0 i out0 (zero_at n w w0 g0 out.some z) (at n c.go w w0 true g0 go on) (at n c.hold w w0 false g0 out.hold free) alive apart (moved tables n w w0 R c.wires i g0 out.wires h.1) in
    let u1 = s1.values in
    let o1 = one_solved f w n 3 vs a u1 lt_0_3 s1.same in
    let g1 = o1.same in
    let z1 = zero_at n w u1 g1 out.some z in
    let outd = outside_start (n + 2) r (n + 3) a c out ia (omega arith) (omega (arith, ga)) in
    let s2 = shows_if tables f u1 (Loop p) r c.keep a.next (ends1 p) (start tables p d) d j ((resuming_allows tables last p r f env vars i alive apart h.1).ends (ended_zero i.code e2))
    (start_shows tables f u1 (Loop p) d j outd src l z1 (ap is_true (o1.own 2 lt_2_3)) (ap is_true z1)
    (ticks_move tables (Loop p) j last (told u1 c.wires.last) env (told_env u1 c.wires) i.variables (told u1 a.variables)
    (sym (told_agrees n w u1 c.wires.last g1 (out.wires).last)) (sym (env_agrees n w u1 c.wires g1 out.wires)) (sym (s1.tells).variables) kk.1)) in
    let v = s2.values in
    let t = two_solved f w n 3 vs a b lt_0_3 ia (solved tables f w0 p r c.keep (n + 3) a i s1) (solved tables f u1 (Loop p) r c.keep a.next b j s2) in
    let one = t.one in
    let g = one.same in
    let zv = zero_at n w v g out.some z in
    let ha = t.solves_first in
    let hb = t.solves_second in
    let ta = tells_still tables u1 v p r c.keep (n + 3) a i s2.same ia keep_a s1.tells in
    let tb = s2.tells in
    let zero_code = ended_zero i.code e2 in
    let ex : v n ≡ int_max (v a.status) (v b.status) = one.first ∙ max_of v a.status b.status (suc i.code) (suc j.code) (suc j.code) ta.status tb.status (max_ended i.code j.code zero_code) in
    let eg : v (n + 2) ≡ of_bool (to_nat (v a.status) == 1) = one.own 2 lt_2_3 ∙ sym (ap (λ s. of_bool (to_nat s == 1)) ta.status ∙ ap (λ s. of_bool (suc s == 1)) zero_code) in
    let inner = turn_ended tables v p (Loop p) (Loop p) (Loop p) r r r c.keep n a.live a.sets b.sets (turn_own (n + 2) a) a b ex i j ta tb e2
    (λ s off st. second_alone tables v (Loop p) s r a.sets b.sets off st) (λ s1 s2. off_joined v a.sets b.sets s1 s2) in
    record { values = v; same = g; solves = (ex, (eg, satisfies_append f v a.equations b.equations ha hb)); tells = subst (λ s. Tells tables v (Loop p) r c.keep (resume tables (Loop p) c) s) (sym kk.2) inner })
    (λ e2.
    let kk = subst (λ s. Continues (λ y j. Ticks tables last (Loop p) env y j) (Loop p) i s o) e2 h.2 in
    let n = c.next in
    let r = c.register in
    let vs = pos (suc i.code) ∷ pos 0 ∷ pos 0 ∷ [] in
    let w0 = own n vs w in
    let go = out.go in
    let keep = out.keep in
    let d0 = part_context c.go 3 c in
    let a = resume tables p d0 in
    let d = start_context (n + 2) r a c in
    let b = starting_if (ends1 p) (start tables p d) d in
    let out0 = outside_part c.go 3 c out (omega (arith, go)) in
    let ia = resume_inside tables p d0 out0 in
    let ga = ia.grows in
    let keep_a : c.keep < a.next = omega (arith, ga, keep) in
    let g0 = own_agrees n vs w in
    let s1 = body_p w0 d0 i out0 (zero_at n w w0 g0 out.some z) (at n c.go w w0 true g0 go on) (at n c.hold w w0 false g0 out.hold free) alive apart (moved tables n w w0 R c.wires i g0 out.wires h.1) in
    let u1 = s1.values in
    let o1 = one_solved f w n 3 vs a u1 lt_0_3 s1.same in
    let g1 = o1.same in
    let z1 = zero_at n w u1 g1 out.some z in
    let outd = outside_start (n + 2) r (n + 3) a c out ia (omega arith) (omega (arith, ga)) in
    let s2 = rests_if f u1 a.next (ends1 p) (start tables p d) d (start_rests tables f u1 p d outd z1 (ap is_true (o1.own 2 lt_2_3)) (ap is_true z1)) in
    let v = s2.values in
    let t = two_solved f w n 3 vs a b lt_0_3 ia (solved tables f w0 p r c.keep (n + 3) a i s1) s2 in
    let one = t.one in
    let g = one.same in
    let zv = zero_at n w v g out.some z in
    let ha = t.solves_first in
    let hb = t.solves_second in
    let ta = tells_still tables u1 v p r c.keep (n + 3) a i s2.same ia keep_a s1.tells in
    let sb = silent_if f v (told v a.variables) (ends1 p) (start tables p d) d zv hb (λ j. start_silent tables f v p d zv j (ap is_true (one.own 2 lt_2_3)) (ap is_true zv)) in
    let ex : v n ≡ int_max (v a.status) (v b.status) = one.first ∙ max_of v a.status b.status (suc i.code) 0 (suc i.code) ta.status (sb.quiet).status (max_first i.code) in
    let eg : v (n + 2) ≡ of_bool (to_nat (v a.status) == 1) = one.own 2 lt_2_3 ∙ sym (ap (λ s. of_bool (to_nat s == 1)) ta.status ∙ ap of_bool (has_ended_status i.code ∙ e2)) in
    let inner = turn_waits tables v p (Loop p) (Loop p) (Loop p) r r r c.keep n a.live a.sets b.sets (turn_own (n + 2) a) a b ex i ta sb
    (λ s off st. first_alone tables v (Loop p) (Seq s (Loop p)) r a.sets b.sets off (loop_stands tables p s r (registers_set v a.sets) st)) (λ s1 s2. off_joined v a.sets b.sets s1 s2) in
    record { values = v; same = g; solves = (ex, (eg, satisfies_append f v a.equations b.equations ha hb)); tells = subst (λ s. Tells tables v (Loop p) r c.keep (resume tables (Loop p) c) s) (sym kk) inner })

par_resumes : (tables : Tables) (f w : ℕ → ℤ) (p q : Stmt) (c : Context) (o : Tick) → Resumes tables f p → Resumes tables f q → Outside c → IsSource tables (Par p q) → LoopsWait (Par p q) → w 0 ≡ pos 0 → is_on w c.go ≡ true → is_on w c.hold ≡ false
    → live tables (Par p q) c.register f ≡ true → LivesApart tables (Par p q) c.register f
    → Ticks tables (told w c.wires.last) (residual tables (Par p q) c.register f) (told_env w c.wires) (told w c.wires.variables) o → Shows tables f w (Par p q) c.register c.keep c.next (resume tables (Par p q) c) o
par_resumes tables f w p q c o body_p body_q out src l z on free alive apart h =
    let last = told w c.wires.last in
    let env = told_env w c.wires in
    let vars = told w c.wires.variables in
    let i : Tick = h.0 in
    let j : Tick = h.1 in
    let code = max i.code j.code in
    let n = c.next in
    let r = c.register in
    let m = r + registers tables p in
    let x1 = live tables p r f in
    let x2 = live tables q m f in
    let R = residual tables p r f in
    let S = residual tables q m f in
    let over = apart.0 alive in
    let vs = of_bool (is_on w c.keep && (code == 1)) ∷ of_bool (code == 1) ∷ of_bool (code == 1) ∷ pos (suc code) ∷ of_bool (x1 || x2) ∷ [] in
    let w0 = own n vs w in
    let go = out.go in
    let hold = out.hold in
    let d0 = branch_context c in
    let a = resume tables p d0 in
    let d = second_branch tables p c a in
    let b = resume tables q d in
    let out0 = outside_with c.go c.hold n 5 c.register c out (omega (arith, go)) (omega (arith, hold)) (omega arith) in
    let ia = resume_inside tables p d0 out0 in
    let grows = ia.grows in
    let g0 = own_agrees n vs w in
    let z0 = zero_at n w w0 g0 out.some z in
    let on0 = at n c.go w w0 true g0 out.go on in
    let free0 = at n c.hold w w0 false g0 out.hold free in
    let bx = branch_solution tables f w0 last env vars p R r n (n + 5) a x1 i h.2
    (λ e t. body_p w0 d0 i out0 z0 on0 free0 e apart.1 (moved tables n w w0 R c.wires i g0 out.wires t))
    (λ e. resume_rests tables f w0 p d0 out0 z0 (idle_dead w0 d0 x1 e free0)) in
    let x = bx.solution in
    let u = x.values in
    let ou = one_solved f w n 5 vs a u (omega arith) x.same in
    let gu = ou.same in
    let outd : Outside d = record { some = omega (arith, grows); go = omega (arith, grows, go); hold = omega (arith, grows, hold); keep = omega (arith, grows); wires = wires_more n a.next c.wires (omega (arith, grows)) out.wires } in
    let zu = zero_at n w u gu out.some z in
    let on_u = at n c.go w u true gu out.go on in
    let free_u = at n c.hold w u false gu out.hold free in
    let by = branch_solution tables f u last env vars q S m n a.next b x2 j h.3
    (λ e t. body_q u d j outd zu on_u free_u e apart.2 (moved tables n w u S c.wires j gu out.wires t))
    (λ e. resume_rests tables f u q d outd zu (idle_dead u d x2 e free_u)) in
    let y = by.solution in
    let v = y.values in
    let t = two_solved f w n 5 vs a b (omega arith) ia x y in
    let one = t.one in
    let g = one.same in
    let zv = zero_at n w v g out.some z in
    let free_v = at n c.hold w v false g out.hold free in
    let same_vars = told_agrees n w v c.wires.variables g (out.wires).variables in
    let sa : x1 ≡ false → Silent v vars a = λ e. subst (λ s. Silent v s a) same_vars (resume_silent tables f v p d0 zv t.solves_first (idle_if (is_on v c.go) x1 e) free_v) in
    let sb : x2 ≡ false → Silent v vars b = λ e. subst (λ s. Silent v s b) same_vars (resume_silent tables f v q d zv t.solves_second (idle_if (is_on v c.go) x2 e) free_v) in
    let ta : x1 ≡ true → Tells tables v p r n a i = λ e. tells_still tables u v p r n (n + 5) a i y.same ia (omega (arith, grows)) (bx.tells e) in
    let ba = branch_at tables last env vars v p R r n a i x1 h.2 ta
    (λ e k s. or_right (ends0 p) (ends1 p) ((resuming_allows tables last p r f env vars i e apart.1 k).ends s)) sa (λ e. over_is p x1 e over.0) in
    let bb = branch_at tables last env vars v q S m n b j x2 h.3 by.tells
    (λ e k s. or_right (ends0 q) (ends1 q) ((resuming_allows tables last q m f env vars j e apart.2 k).ends s)) sb (λ e. over_is q x2 e over.1) in
    let stat : v (n + 3) ≡ int_max (v a.status) (v b.status) =
    one.own 3 (omega arith) ∙ sym (by_cases x1
    (λ e1. by_cases x2
    (λ e2. ap₂ int_max (ta e1).status (by.tells e2).status ∙ greater_of (suc i.code) (suc j.code) ∙ ap pos (omega arith))
    (λ e2. let zb = (sb e2).quiet in let zj = dead_code tables last S env vars j x2 e2 h.3 in ap₂ int_max (ta e1).status zb.status ∙ greater_of (suc i.code) 0 ∙ ap pos (omega (arith, zj))))
    (λ e1. let za = (sa e1).quiet in let zi = dead_code tables last R env vars i x1 e1 h.2 in
    ap₂ int_max za.status (by.tells (other_one x1 x2 alive e1)).status ∙ greater_of 0 (suc j.code) ∙ ap pos (omega (arith, zi)))) in
    let ks = keep_equations v n (n + 1) (n + 2) (n + 3) c.keep c.hold code (is_on w c.keep) (at n c.keep w v (is_on w c.keep) g out.keep refl) free_v (one.own 3 (omega arith)) one.first (one.own 1 (omega arith)) (one.own 2 (omega arith)) in
    let whole = par_active tables last env vars v p q (cond x1 R Nothing) (cond x2 S Nothing) (n + 4) (live_own (n + 4) a b) c a b stat (keeps_says v n (n + 1) (n + 2) (n + 3) c.keep c.hold ks.first ks.second ks.third) free_v
    ba.branch bb.branch
    (λ e k. by_cases x1 (λ s. not_quiet v a.status i.code (ta s).status e) (λ s. not_quiet v b.status j.code (by.tells (other_one x1 x2 alive s)).status k))
    (λ a1 a2 k1 k2. same_variables tables last env vars p q (cond x1 R Nothing) (cond x2 S Nothing) a1 a2 src.0 (λ y. branch_writes tables p r f x1 y) (λ y. branch_writes tables q m f x2 y) k1 k2) in
    record {
      values = v;
      same = g;
      solves = (
        ks.first,
        (
          ks.second,
          (
            ks.third,
            (
              stat,
              (
                one.own 4 (omega arith) ∙ or_at v a.live b.live x1 x2 (live_wire tables f v p d0 zv t.solves_first) (live_wire tables f v q d zv t.solves_second),
                satisfies_append f v a.equations b.equations t.solves_first t.solves_second,
              ),
            ),
          ),
        ),
      );
      tells = subst (λ s. Tells tables v (Par p q) r c.keep (resume tables (Par p q) c) s) (ap₂ (tick_of_both (cond x1 R Nothing)) ba.is bb.is ∙ sym h.4) whole.tells;
    }

local_resumes : (tables : Tables) (f w : ℕ → ℤ) (s : ℕ) (v0 : ℤ) (p : Stmt) (c : Context) (o : Tick) → Resumes tables f p → Outside c → IsSource tables (Local s v0 p) → LoopsWait (Local s v0 p) → w 0 ≡ pos 0 → is_on w c.go ≡ true → is_on w c.hold ≡ false
    → live tables (Local s v0 p) c.register f ≡ true → LivesApart tables (Local s v0 p) c.register f
    → Ticks tables (told w c.wires.last) (residual tables (Local s v0 p) c.register f) (told_env w c.wires) (told w c.wires.variables) o → Shows tables f w (Local s v0 p) c.register c.keep c.next (resume tables (Local s v0 p) c) o
local_resumes tables f w s v0 p c o body_p out src l z on free alive apart h =
    let sk = (signal_at tables s).kind in
    let lv = last_value sk c.register f in
    let R = residual tables p (c.register + own_registers tables s) f in
    let b = h.0 in
    let val = h.1 in
    let i : Tick = h.2 in
    let n = c.next in
    let vs = of_bool b ∷ val ∷ lv ∷ of_bool (i.code == 1) ∷ of_bool (is_on w c.keep && (i.code == 1)) ∷ of_bool (is_on w c.keep && is_on w c.hold) ∷ [] in
    let w0 = own n vs w in
    let last = told w c.wires.last in
    let env = told_env w c.wires in
    let vars = told w c.wires.variables in
    let d0 = local_context tables s c in
    let a = resume tables p d0 in
    let out0 = outside_local tables s c out in
    let ia = resume_inside tables p d0 out0 in
    let grows = ia.grows in
    let keep = out.keep in
    let g0 = own_agrees n vs w in
    let env0 : told_env w0 d0.wires ≡ put_at env s (record { present = b; value = val }) =
    told_local w0 c.wires s n (n + 1) ∙ ap₂ (λ x y. put_at (told_env w0 c.wires) s (record { present = x; value = y })) (ap is_true (own_first n vs w) ∙ truth_of b) (own_at n 1 vs w)
    ∙ ap (λ x. put_at x s (record { present = b; value = val })) (env_agrees n w w0 c.wires g0 out.wires) in
    let x = body_p w0 d0 i out0 (zero_at n w w0 g0 out.some z) (at n c.go w w0 true g0 out.go on) (at n c.hold w w0 false g0 out.hold free) alive apart
    (ticks_move tables R i last (told w0 c.wires.last) (put_at env s (record { present = b; value = val })) (told_env w0 d0.wires) vars (told w0 c.wires.variables)
    (sym (told_agrees n w w0 c.wires.last g0 (out.wires).last)) (sym env0) (sym (told_agrees n w w0 c.wires.variables g0 (out.wires).variables)) h.3) in
    let u = x.values in
    let fold = fold_emits (fold_info tables s) s a.next 0 (n + 2) a.emits in
    let y = fold_solution f u (fold_info tables s) s a.next 0 (n + 2) a.emits ia.emits (omega (arith, grows)) (omega (arith, grows)) in
    let v = y.values in
    let one = one_solved f w n 6 vs a v (omega arith) (agree_twice (n + 6) a.next w0 u v grows x.same y.same) in
    let g = one.same in
    let zv = zero_at n w v g out.some z in
    let zu = zero_at n w u (agree_twice n (n + 6) w w0 u (omega arith) g0 x.same) out.some z in
    let ha = satisfies_still a.next f u v a.equations y.same ia.equations x.solves in
    let ta = part_tells tables f w0 v p d0.register c.keep (n + 6) a i (n + 6) x y.same ia (omega (arith, grows, keep)) in
    let says = fold_says f v (fold_info tables s) s a.next 0 (n + 2) a.emits y.solves in
    let off_zero : is_on v 0 ≡ false = ap is_true zv in
    let free_v = at n c.hold w v false g out.hold free in
    let keep_v = at n c.keep w v (is_on w c.keep) g out.keep refl in
    let some_on : is_on v fold.some ≡ b = says.some ∙ ap₂ (λ x y. x || is_emitted y s) off_zero ta.emits ∙ sym h.4 in
    let e0 : v n ≡ v fold.some = one.first ∙ sym (y.is_bool (zu ∙ sym (ap of_bool (ap is_true zu))) ∙ ap of_bool some_on) in
    let e1 : v (n + 1) ≡ v fold.value = one.own 1 (omega arith) ∙ sym (says.value ∙ ap₂ (λ x y. folded_from (fold_info tables s) x (v (n + 2)) (values_of s y)) off_zero ta.emits ∙ ap (λ x. folded (fold_info tables s) x (values_of s i.emits)) (one.own 2 (omega arith)) ∙ same_fold tables s lv i.emits (pure_last f sk c.register) ta.pure ∙ sym h.5) in
    let pauses : is_on v (n + 3) ≡ (i.code == 1) = ap is_true (one.own 3 (omega arith)) ∙ truth_of (i.code == 1) in
    let e3 : v (n + 3) ≡ of_bool (to_nat (v a.status) == 2) = one.own 3 (omega arith) ∙ sym (ap (λ x. of_bool (to_nat x == 2)) ta.status ∙ ap of_bool (next_one i.code)) in
    let e4 : v (n + 4) ≡ of_bool (is_on v c.keep && is_on v (n + 3)) = one.own 4 (omega arith) ∙ sym (ap₂ (λ x y. of_bool (x && y)) keep_v pauses) in
    let e5 : v (n + 5) ≡ of_bool (is_on v c.keep && is_on v c.hold) = one.own 5 (omega arith) ∙ sym (ap₂ (λ x y. of_bool (x && y)) keep_v (at n c.hold w v (is_on w c.hold) g out.hold refl)) in
    let solves : Satisfies f v (resume tables (Local s v0 p) c).equations = (e0, (e1, (one.own 2 (omega arith) ∙ last_is f v sk c.register, (e3, (e4, (e5, satisfies_append f v fold.equations a.equations y.solves ha)))))) in
    let ls = local_equations tables f v s (last_formula sk c.register) c a zv solves y.solves in
    let ticks_v : Ticks tables last R (told_env v d0.wires) vars i =
    subst (λ x. Ticks tables last R x vars i)
    (sym (told_local v c.wires s n (n + 1) ∙ ap₂ (λ x y. put_at (told_env v c.wires) s (record { present = x; value = y })) (ap is_true one.first ∙ truth_of b) (one.own 1 (omega arith))
    ∙ ap (λ x. put_at x s (record { present = b; value = val })) (env_agrees n w v c.wires g out.wires))) h.3 in
    let ua : Active tables last (told_env v d0.wires) vars v p R d0.register c.keep a = record { tick = i; ticks = ticks_v; tells = ta } in
    let whole = local_active tables last vars v s v0 lv p R c a (resume tables (Local s v0 p) c).equations (resume tables (Local s v0 p) c).next ls (one.own 2 (omega arith)) (pure_last f sk c.register) free_v ua in
    record {
      values = v;
      same = g;
      solves = solves;
      tells = subst (λ t. Tells tables v (Local s v0 p) c.register c.keep (resume tables (Local s v0 p) c) t)
          (ap (λ t. record { code = i.code; rest = left_at i.code (Local s t i.rest); emits = without s i.emits; variables = i.variables }) (one.own 1 (omega arith)) ∙ sym h.6) whole.tells;
    }

pub resume_shows : (tables : Tables) (f w : ℕ → ℤ) (p : Stmt) (c : Context) (o : Tick) → Outside c → IsSource tables p → LoopsWait p → w 0 ≡ pos 0 → is_on w c.go ≡ true → is_on w c.hold ≡ false
    → live tables p c.register f ≡ true → LivesApart tables p c.register f
    → Ticks tables (told w c.wires.last) (residual tables p c.register f) (told_env w c.wires) (told w c.wires.variables) o → Shows tables f w p c.register c.keep c.next (resume tables p c) o
resume_shows tables f w Nothing c o out src l z on free alive apart h = cc
resume_shows tables f w Pause c o out src l z on free alive apart h =
    let n = c.next in
    let vs = f c.register ∷ pos 1 ∷ pos 1 ∷ pos 0 ∷ [] in
    let v = own n vs w in
    let g = own_agrees n vs w in
    let on_v = at n c.go w v true g out.go on in
    let free_v = at n c.hold w v false g out.hold free in
    let solves : Satisfies f v (resume tables Pause c).equations = (
      own_first n vs w,
      (
        own_at n 1 vs w ∙ sym (ap₂ (λ x y. of_bool (x && y)) on_v (ap is_true (own_first n vs w) ∙ alive)),
        (
          own_at n 2 vs w ∙ sym (ap (λ x. cond (is_true x) (pos 1) (pos 0)) (own_at n 1 vs w)),
          (own_at n 3 vs w ∙ sym (ap (λ x. of_bool (x && is_on v c.keep)) free_v), tt),
        ),
      ),
    ) in
    let u = resume_active tables f v Pause c src l (zero_at n w v g out.some z) solves on_v free_v alive apart in
    only_tick tables f w v Pause c.register c.keep n (resume tables Pause c) o u.tick g solves u.tells (u.ticks ∙ ap (ends_with []) (told_agrees n w v c.wires.variables g (out.wires).variables) ∙ sym h)
resume_shows tables f w (Emit s e) c o out src l z on free alive apart h = cc
resume_shows tables f w (Assign y e) c o out src l z on free alive apart h = cc
resume_shows tables f w (If e p q) c o out src l z on free alive apart h =
    pair_shows tables f w e p q (If e p q) c o out z on free (live tables p c.register f) refl alive apart.0 (λ s r k. k)
    (λ w0 a b c1 d e1 t. resume_shows tables f w0 p (part_context c.go 2 c) o a src.0 l.0 b c1 d e1 apart.1 t)
    (λ w0 a b c1 d e1 t. resume_shows tables f w0 q (other_context c.go (c.register + registers tables p) (resume tables p (part_context c.go 2 c)) c) o a src.1 l.1 b c1 d e1 apart.2 t) h
resume_shows tables f w (Present test p q) c o out src l z on free alive apart h =
    let e = Literal kind.Int (pos 0) in
    pair_shows tables f w e p q (Present test p q) c o out z on free (live tables p c.register f) refl alive apart.0 (λ s r k. present_stands tables e test p q s c.register r k)
    (λ w0 a b c1 d e1 t. resume_shows tables f w0 p (part_context c.go 2 c) o a src.0 l.0 b c1 d e1 apart.1 t)
    (λ w0 a b c1 d e1 t. resume_shows tables f w0 q (other_context c.go (c.register + registers tables p) (resume tables p (part_context c.go 2 c)) c) o a src.1 l.1 b c1 d e1 apart.2 t) h
resume_shows tables f w (Seq p q) c o out src l z on free alive apart h =
    seq_resumes tables f w p q c o (λ w0 d i a b c1 e k m t. resume_shows tables f w0 p d i a src.0 l.0 b c1 e k m t) (λ w0 d i a b c1 e k m t. resume_shows tables f w0 q d i a src.1 l.1 b c1 e k m t) out src l z on free alive apart h
resume_shows tables f w (Loop p) c o out src l z on free alive apart h =
    loop_resumes tables f w p c o (λ w0 d i a b c1 e k m t. resume_shows tables f w0 p d i a src l.1 b c1 e k m t) out src l z on free alive apart h
resume_shows tables f w (Par p q) c o out src l z on free alive apart h =
    par_resumes tables f w p q c o (λ w0 d i a b c1 e k m t. resume_shows tables f w0 p d i a src.1 l.0 b c1 e k m t) (λ w0 d i a b c1 e k m t. resume_shows tables f w0 q d i a src.2 l.1 b c1 e k m t) out src l z on free alive apart h
resume_shows tables f w (Trap p) c o out src l z on free alive apart h =
    let i : Tick = h.0 in
    let n = c.next in
    let R = residual tables p c.register f in
    let vs = pos (suc (code_of_trap i.code)) ∷ [] in
    let w0 = own n vs w in
    let go = out.go in
    let d0 = part_context c.go 1 c in
    let a = resume tables p d0 in
    let g0 = own_agrees n vs w in
    let x = resume_shows tables f w0 p d0 i (outside_part c.go 1 c out (omega (arith, go))) src l (zero_at n w w0 g0 out.some z) (at n c.go w w0 true g0 out.go on) (at n c.hold w w0 false g0 out.hold free) alive apart (moved tables n w w0 R c.wires i g0 out.wires h.1) in
    let v = x.values in
    let one = one_solved f w n 1 vs a v (omega arith) x.same in
    let e0 : v n ≡ of_trap (v a.status) = one.first ∙ sym (ap of_trap (x.tells).status ∙ trap_status i.code) in
    let ua : Active tables (told w c.wires.last) (told_env w c.wires) (told w c.wires.variables) v p R c.register c.keep a = record { tick = i; ticks = h.1; tells = x.tells } in
    let whole = trap_active tables (told w c.wires.last) (told_env w c.wires) (told w c.wires.variables) v p R c a e0 ua in
    record { values = v; same = one.same; solves = (e0, x.solves); tells = subst (λ s. Tells tables v (Trap p) c.register c.keep (resume tables (Trap p) c) s) (sym h.2) whole.tells }
resume_shows tables f w (Exit d) c o out src l z on free alive apart h = cc
resume_shows tables f w (Abort true armed t p) c o out src l z on free alive apart h =
    weak_resumes tables f w armed t p (residual tables p c.register f) c o out z on free (holds (told_env w c.wires) t) refl
    (λ w0 i a b c1 d k. resume_shows tables f w0 p (weak_context c) i a src l b c1 d alive apart k) h
resume_shows tables f w (Abort false armed t p) c o out src l z on free alive apart h =
    strong_resumes tables f w armed t p c o out z on free alive apart (residual tables p c.register f) refl (holds (told_env w c.wires) t) refl
    (λ w0 i a b c1 d k. resume_shows tables f w0 p (tested_context c) i a src l b c1 d alive apart k) h
resume_shows tables f w (Suspend armed t p) c o out src l z on free alive apart h =
    suspend_resumes tables f w armed t p c o out z on free alive apart (residual tables p c.register f) refl (holds (told_env w c.wires) t) refl
    (λ w0 i a b c1 d k. resume_shows tables f w0 p (held_context c) i a src.1 l b c1 d alive apart k) h
resume_shows tables f w (Local s v0 p) c o out src l z on free alive apart h =
    local_resumes tables f w s v0 p c o (λ w0 d i a b c1 e k m t. resume_shows tables f w0 p d i a src.1 l b c1 e k m t) out src l z on free alive apart h
resume_shows tables f w (Send ch e) c o out src l z on free alive apart h =
    let n = c.next in
    let met = is_true (f (c.register + 1)) in
    let sol = waiting_solution f w c out on free alive met refl in
    let v = sol.values in
    let g = sol.same in
    let u = resume_active tables f v (Send ch e) c src l (zero_at n w v g out.some z) sol.solves (at n c.go w v true g out.go on) (at n c.hold w v false g out.hold free) alive apart in
    only_tick tables f w v (Send ch e) c.register c.keep n (waiting_copy c) o u.tick g sol.solves u.tells
    (send_tick tables (told v c.wires.last) (told w c.wires.last) (told_env v c.wires) (told_env w c.wires) (told v c.wires.variables) (told w c.wires.variables) ch (f (c.register + 2)) met u.tick o (told_agrees n w v c.wires.variables g (out.wires).variables) u.ticks h)
resume_shows tables f w (Receive ch) c o out src l z on free alive apart h =
    let n = c.next in
    let met = is_true (f (c.register + 1)) in
    let sol = waiting_solution f w c out on free alive met refl in
    let v = sol.values in
    let g = sol.same in
    let u = resume_active tables f v (Receive ch) c src l (zero_at n w v g out.some z) sol.solves (at n c.go w v true g out.go on) (at n c.hold w v false g out.hold free) alive apart in
    only_tick tables f w v (Receive ch) c.register c.keep n (waiting_copy c) o u.tick g sol.solves u.tells
    (receive_tick tables (told v c.wires.last) (told w c.wires.last) (told_env v c.wires) (told_env w c.wires) (told v c.wires.variables) (told w c.wires.variables) ch met u.tick o (told_agrees n w v c.wires.variables g (out.wires).variables) u.ticks h)
resume_shows tables f w (SendWaits ch v) c o out src l z on free alive apart h = cc
resume_shows tables f w (Sent ch) c o out src l z on free alive apart h = cc
resume_shows tables f w (ReceiveWaits ch) c o out src l z on free alive apart h = cc
resume_shows tables f w (Received ch) c o out src l z on free alive apart h = cc
