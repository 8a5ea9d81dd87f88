-- Each tick of a statement is told by values that satisfy the equations of its starting copy.
use Rattle.std.proofs.Common.{◌≡◌, ℕ, suc, max, ◌+◌, ◌<◌, ◌==◌, ℤ, pos, Bool, true, false, ◌&&◌, ◌||◌, not, cond, [], ◌∷◌, ◌++◌, refl, sym, ap, ap₂, ◌∙◌, subst, arith, Option, Some, None}
use Rattle.java_values.specs.Arithmetic.{is_true}
use Rattle.java_values.specs.declared.kind.Kind.TheVariants as kind
use Rattle.kernel_terms.specs.declared.tables.Tables.{Tables}
use Rattle.kernel_terms.specs.TableEntries.{signal_at}
use Rattle.kernel_terms.specs.Expressions.{Expression, Test, Literal}
use Rattle.kernel_terms.specs.Statements.{Stmt, Nothing, Pause, Emit, Assign, If, Present, Seq, Loop, Par, Trap, Exit, Abort, Suspend, Local, Send, Receive, SendWaits, Sent, ReceiveWaits, Received}
use Rattle.kernel_terms.specs.MayEnd.{ends0, ends1, LoopsWait}
use Rattle.kernel_rules.specs.definitions.Signals.{put_at, is_emitted, values_of, without, folded}
use Rattle.kernel_rules.specs.definitions.Expressions.{holds}
use Rattle.kernel_rules.specs.definitions.TickRule.{Tick, Ticks, Continues, Chosen, Aborts, IsEmitted, has_ended, quiet, ends_with, as_whole, left_at, code_of_trap, code_of_weak_abort}
use Rattle.kernel_rules.specs.definitions.Registers.{registers}
use Rattle.kernel_rules.proofs.StartingTicks.{ended_zero, starting_allows}
use Rattle.surf_graph.proofs.Booleans.{or_left}
use Rattle.java_values.specs.Arithmetic.{of_bool}
use Rattle.std.specs.Int.{int_max}
use Rattle.surf_graph.specs.definitions.Formulas.{Wires, Formula, Value, Holds, Satisfies, formula_value, to_nat, is_on, of_trap, of_weak_abort, told, told_env, readings}
use Rattle.surf_graph.specs.definitions.Copies.{fold_info, Copy, Context, below, from, joined, starting_if, other_context, joins, both_write, alternatives, start_context, part_context, choice_own, turn_own, branch_context, second_branch, weak_context, weak_copy, tested_context, tested_copy, local_context, fold_emits, emitted_value}
use Rattle.surf_graph.specs.definitions.StartingCopies.{first_formula, writes0, start}
use Rattle.surf_graph.specs.definitions.Tells.{Tells, Active, Stands, registers_set}
use Rattle.surf_graph.specs.definitions.Sources.{IsSource}
use Rattle.surf_graph.proofs.SetValues.{truth_of, off_joined, off_below, off_from}
use Rattle.surf_graph.proofs.Parts.{greater_of, by_cases, first_stands, second_stands, first_dies, second_dies, Seq_first, Seq_second, turn_ended, turn_waits}
use Rattle.surf_graph.proofs.Beside.{branch_ticks, par_active, next_one}
use Rattle.surf_graph.proofs.Wraps.{trap_active, trap_status, weak_status, weak_stops, weak_goes, whole_tells, strong_stops, abort_stands, suspend_stands}
use Rattle.surf_graph.proofs.Locals.{first_is, same_fold, local_equations, told_local, fold_says, folded_from}
use Rattle.surf_graph.proofs.LocalCopies.{local_active}
use Rattle.surf_graph.proofs.Frames.{WiresBelow, wires_more, Agreeing, agree_twice, Reads, Inside, satisfies_still, value_agrees, env_agrees, told_agrees, own, own_agrees, own_at, own_first, tells_still}
use Rattle.surf_graph.proofs.StartInside.{Outside, outside_part, outside_other, outside_start, outside_with, outside_local, start_inside, emitted_reads}
use Rattle.surf_graph.proofs.StartSilent.{start_silent, silent_if, tested_says}
use Rattle.surf_graph.proofs.StartActive.{start_active, has_ended_status, choice_first, choice_second, present_stands, loop_stands, keeps_says}
use Rattle.surf_graph.proofs.Passes.{start_passes}
use Rattle.surf_graph.proofs.Joining.{joining, joining_shows}
use Rattle.surf_graph.proofs.Solutions.{Shows, solved, one_solved, two_solved, at, zero_at, ticks_move, fold_solution}
use Rattle.surf_graph.proofs.StartRests.{satisfies_append, start_rests, rests_if}

-- the same tick under values that agree on what the context gives
pub moved : (tables : Tables) (n : ℕ) (w v : ℕ → ℤ) (p : Stmt) (i : Wires) (o : Tick) → Agreeing n w v → WiresBelow n i → Ticks tables (told w i.last) p (told_env w i) (told w i.variables) o → Ticks tables (told v i.last) p (told_env v i) (told v i.variables) o
moved tables n w v p i o h b k =
    ticks_move tables p o (told w i.last) (told v i.last) (told_env w i) (told_env v i) (told w i.variables) (told v i.variables)
    (sym (told_agrees n w v i.last h b.last)) (sym (env_agrees n w v i h b)) (sym (told_agrees n w v i.variables h b.variables)) k

-- a statement with one tick alone: what its copy tells is that tick
pub only_tick : (tables : Tables) (f w v : ℕ → ℤ) (p : Stmt) (r keep n : ℕ) (copy : Copy) (o i : Tick) → Agreeing n w v → Satisfies f v copy.equations → Tells tables v p r keep copy i → i ≡ o → Shows tables f w p r keep n copy o
only_tick tables f w v p r keep n copy o i g s t e = record { values = v; same = g; solves = s; tells = subst (λ z. Tells tables v p r keep copy z) e t }

-- a part's copy under later values
pub part_tells : (tables : Tables) (f w v : ℕ → ℤ) (p : Stmt) (r keep n : ℕ) (copy : Copy) (o : Tick) (m : ℕ) → (s : Shows tables f w p r keep n copy o) → Agreeing copy.next s.values v → Inside m copy → keep < copy.next → Tells tables v p r keep copy o
part_tells tables f w v p r keep n copy o m s h i lt = tells_still tables s.values v p r keep m copy o h i lt s.tells

pub status_one : (w v : ℕ → ℤ) (n go code : ℕ) → Agreeing n w v → go < n → is_on w go ≡ true → pos (suc code) ≡ cond (is_on v go) (pos (suc code)) (pos 0)
status_one w v n go code h lt on = sym (ap (λ b. cond b (pos (suc code)) (pos 0)) (at n go w v true h lt on))

pub and_first : (w v : ℕ → ℤ) (n a b : ℕ) (x : Bool) → Agreeing n w v → a < n → is_on w a ≡ true → is_on v b ≡ x → of_bool x ≡ of_bool (is_on v a && is_on v b)
and_first w v n a b x h lt on e = sym (ap₂ (λ i j. of_bool (i && j)) (at n a w v true h lt on) e)

pub max_of : (v : ℕ → ℤ) (a b i j k : ℕ) → v a ≡ pos i → v b ≡ pos j → max i j ≡ k → pos k ≡ int_max (v a) (v b)
max_of v a b i j k h l e = sym (ap₂ int_max h l ∙ greater_of i j ∙ ap pos e)

pub shows_if : (tables : Tables) (f w : ℕ → ℤ) (p : Stmt) (r keep n : ℕ) (b : Bool) (a : Copy) (c : Context) (o : Tick) → b ≡ true → Shows tables f w p r keep n a o → Shows tables f w p r keep n (starting_if b a c) o
shows_if tables f w p r keep n true a c o e s = s
shows_if tables f w p r keep n false a c o e s = cc

emission_value : (w v : ℕ → ℤ) (n : ℕ) (i : Wires) (e : Option Expression) (x y : ℤ) → Agreeing n w v → WiresBelow n i → IsEmitted (readings w i) e x → IsEmitted (readings v i) e y → y ≡ x
emission_value w v n i None x y h b p q = q ∙ sym p
emission_value w v n i (Some e) x y h b p q = q ∙ value_agrees n (λ k. pos 0) w v (Value e i) h b ∙ sym p

-- the equations of wires that say what a part keeps
pub record KeepEquations (v : ℕ → ℤ) (n i h s keep hold : ℕ) : Type 0 where
  pub first : v n ≡ of_bool (is_on v keep && is_on v h)
  pub second : v i ≡ of_bool (to_nat (v s) == 2)
  pub third : v h ≡ of_bool (is_on v hold || is_on v i)

pub keep_equations : (v : ℕ → ℤ) (n i h s keep hold code : ℕ) (k : Bool) → is_on v keep ≡ k → is_on v hold ≡ false → v s ≡ pos (suc code) → v n ≡ of_bool (k && (code == 1)) → v i ≡ of_bool (code == 1) → v h ≡ of_bool (code == 1) → KeepEquations v n i h s keep hold
keep_equations v n i h s keep hold code k ek eh es en ei eo =
    let on_i : is_on v i ≡ (code == 1) = ap is_true ei ∙ truth_of (code == 1) in
    let on_h : is_on v h ≡ (code == 1) = ap is_true eo ∙ truth_of (code == 1) in
    record {
      first = en ∙ sym (ap₂ (λ x y. of_bool (x && y)) ek on_h);
      second = ei ∙ sym (ap (λ x. of_bool (to_nat x == 2)) es ∙ ap of_bool (next_one code));
      third = eo ∙ sym (ap₂ (λ x y. of_bool (x || y)) eh on_i);
    }

-- a choice
choice_shows : (tables : Tables) (f w : ℕ → ℤ) (e : Expression) (p q P : Stmt) (c : Context) (o : Tick) → Outside c → w 0 ≡ pos 0 → is_on w c.go ≡ true → is_on w c.hold ≡ false
    → (cf : Formula) → Reads c.next cf → (b : Bool) → is_true (formula_value f w cf) ≡ b
    → ((s : Stmt) (r : ℕ → ℤ) → Stands tables (If e p q) c.register r s → Stands tables P c.register r s)
    → ((w0 : ℕ → ℤ) (d : Context) → Outside d → w0 0 ≡ pos 0 → is_on w0 d.go ≡ true → is_on w0 d.hold ≡ false
    → Ticks tables (told w0 d.wires.last) p (told_env w0 d.wires) (told w0 d.wires.variables) o → Shows tables f w0 p d.register d.keep d.next (start tables p d) o)
    → ((w0 : ℕ → ℤ) (d : Context) → Outside d → w0 0 ≡ pos 0 → is_on w0 d.go ≡ true → is_on w0 d.hold ≡ false
    → Ticks tables (told w0 d.wires.last) q (told_env w0 d.wires) (told w0 d.wires.variables) o → Shows tables f w0 q d.register d.keep d.next (start tables q d) o)
    → Chosen b (Ticks tables (told w c.wires.last) p (told_env w c.wires) (told w c.wires.variables) o) (Ticks tables (told w c.wires.last) q (told_env w c.wires) (told w c.wires.variables) o)
    → Shows tables f w P c.register c.keep c.next
    (alternatives (writes0 p) (writes0 q) (c.next + 4) c.next 0 (below (c.register + registers tables p) (start tables p (part_context (c.next + 3) 5 c)).sets)
    (from (c.register + registers tables p) (start tables q (other_context (c.next + 4) (c.register + registers tables p) (start tables p (part_context (c.next + 3) 5 c)) c)).sets) (choice_own cf c)
    (start tables p (part_context (c.next + 3) 5 c)) (start tables q (other_context (c.next + 4) (c.register + registers tables p) (start tables p (part_context (c.next + 3) 5 c)) c))) o
choice_shows tables f w e p q P c o out z on free cf reads true eq stands first second h =
    let n = c.next in
    let m = c.register + registers tables p in
    let fv = formula_value f w cf in
    let vs = pos (suc o.code) ∷ pos 0 ∷ fv ∷ pos 1 ∷ pos 0 ∷ [] in
    let w0 = own n vs w in
    let d0 = part_context (n + 3) 5 c in
    let a = start tables p d0 in
    let d = other_context (n + 4) m a c in
    let b = start tables q d in
    let out0 = outside_part (n + 3) 5 c out (omega arith) in
    let i = start_inside tables p d0 out0 in
    let grows = i.grows in
    let g0 = own_agrees n vs w in
    let x = first w0 d0 out0 (zero_at n w w0 g0 out.some z) (ap is_true (own_at n 3 vs w)) (at n c.hold w w0 false g0 out.hold free) (moved tables n w w0 p c.wires o g0 out.wires h) in
    let u = x.values in
    let ou = one_solved f w n 5 vs a u (omega arith) x.same in
    let outd = outside_other (n + 4) m (n + 5) a c out i (omega arith) (omega (arith, grows)) in
    let ib = start_inside tables q d outd in
    let gb = ib.grows in
    let y0 = start_rests tables f u q d outd (zero_at n w u ou.same out.some z) (ap is_true (ou.own 4 (omega arith))) (at n c.hold w u false ou.same out.hold free) in
    let jn = joining f u (writes0 p) (writes0 q) (n + 4) (n + 5) a b i ib (omega (arith, grows, gb)) y0 in
    let y = jn.solution in
    let v = y.values in
    let t = two_solved f w n 5 vs a b (omega arith) i (solved tables f w0 p d0.register d0.keep d0.next a o x) y in
    let one = t.one in
    let g = one.same in
    let keep = out.keep in
    let sb = start_silent tables f v q d (zero_at n w v g out.some z) t.solves_second (ap is_true (one.own 4 (omega arith))) (at n c.hold w v false g out.hold free) in
    let ta = part_tells tables f w0 v p d0.register d0.keep d0.next a o (n + 5) x y.same i (omega (arith, grows, keep)) in
    let e0 : v n ≡ int_max (v a.status) (v b.status) = one.first ∙ max_of v a.status b.status (suc o.code) 0 (suc o.code) ta.status (sb.quiet).status (omega arith) in
    let ua : Active tables (told v c.wires.last) (told_env v c.wires) (told v c.wires.variables) v p p c.register c.keep a = record { tick = o; ticks = moved tables n w v p c.wires o g out.wires h; tells = ta } in
    let whole = choice_first tables (told v c.wires.last) (told_env v c.wires) (told v c.wires.variables) f v (writes0 p) (writes0 q) (n + 4) e p q p P p c.register c.keep n 0 (choice_own cf c) a b e0 jn.joins (ap is_true (one.own 4 (omega arith))) (λ y i. ap v (start_passes tables p d0 y i)) ua sb (λ o k. k) stands in
    record {
      values = v;
      same = g;
      solves = (
        e0,
        (
          one.own 2 (omega arith) ∙ sym (value_agrees n f w v cf g reads),
          (
            one.own 3 (omega arith) ∙ and_first w v n c.go (n + 2) true g out.go on (ap is_true (one.own 2 (omega arith)) ∙ eq),
            (
              one.own 4 (omega arith) ∙ sym (ap₂ (λ i j. of_bool (i && not j)) (at n c.go w v true g out.go on) (ap is_true (one.own 2 (omega arith)) ∙ eq)),
              satisfies_append f v (joins (n + 4) b.next a.variables b.variables (both_write (writes0 p) (writes0 q))) (a.equations ++ b.equations) jn.joins (satisfies_append f v a.equations b.equations t.solves_first t.solves_second),
            ),
          ),
        ),
      );
      tells = whole.tells;
    }
choice_shows tables f w e p q P c o out z on free cf reads false eq stands first second h =
    let n = c.next in
    let m = c.register + registers tables p in
    let fv = formula_value f w cf in
    let vs = pos (suc o.code) ∷ pos 0 ∷ fv ∷ pos 0 ∷ pos 1 ∷ [] in
    let w0 = own n vs w in
    let d0 = part_context (n + 3) 5 c in
    let a = start tables p d0 in
    let d = other_context (n + 4) m a c in
    let b = start tables q d in
    let out0 = outside_part (n + 3) 5 c out (omega arith) in
    let i = start_inside tables p d0 out0 in
    let grows = i.grows in
    let g0 = own_agrees n vs w in
    let x = start_rests tables f w0 p d0 out0 (zero_at n w w0 g0 out.some z) (ap is_true (own_at n 3 vs w)) (at n c.hold w w0 false g0 out.hold free) in
    let u = x.values in
    let ou = one_solved f w n 5 vs a u (omega arith) x.same in
    let gu = ou.same in
    let zu = zero_at n w u gu out.some z in
    let outd = outside_other (n + 4) m (n + 5) a c out i (omega arith) (omega (arith, grows)) in
    let ku : Ticks tables (told u c.wires.last) q (told_env u c.wires) (told u c.wires.variables) o = moved tables n w u q c.wires o gu out.wires h in
    let ib = start_inside tables q d outd in
    let gb = ib.grows in
    let keep = out.keep in
    let y0 = second u d outd zu (ap is_true (ou.own 4 (omega arith))) (at n c.hold w u false gu out.hold free) ku in
    let jn = joining_shows tables f u q m c.keep o (writes0 p) (writes0 q) (n + 4) (n + 5) a b i ib (omega (arith, grows, gb)) (omega (arith, grows, gb, keep)) y0 in
    let y = jn.shows in
    let v = y.values in
    let t = two_solved f w n 5 vs a b (omega arith) i x (solved tables f u q d.register d.keep d.next b o y) in
    let one = t.one in
    let g = one.same in
    let tb = y.tells in
    let sa = start_silent tables f v p d0 (zero_at n w v g out.some z) t.solves_first (ap is_true (one.own 3 (omega arith))) (at n c.hold w v false g out.hold free) in
    let e0 : v n ≡ int_max (v a.status) (v b.status) = one.first ∙ max_of v a.status b.status 0 (suc o.code) (suc o.code) (sa.quiet).status tb.status (omega arith) in
    let ub : Active tables (told v c.wires.last) (told_env v c.wires) (told v c.wires.variables) v q q m c.keep b = record { tick = o; ticks = moved tables n w v q c.wires o g out.wires h; tells = tb } in
    let whole = choice_second tables (told v c.wires.last) (told_env v c.wires) (told v c.wires.variables) f v (writes0 p) (writes0 q) (n + 4) e p q q P q c.register c.keep n 0 (choice_own cf c) a b e0 jn.joins (ap is_true (one.own 4 (omega arith))) (λ y i. ap v (start_passes tables q d y i)) sa ub (λ o k. k) stands in
    record {
      values = v;
      same = g;
      solves = (
        e0,
        (
          one.own 2 (omega arith) ∙ sym (value_agrees n f w v cf g reads),
          (
            one.own 3 (omega arith) ∙ and_first w v n c.go (n + 2) false g out.go on (ap is_true (one.own 2 (omega arith)) ∙ eq),
            (
              one.own 4 (omega arith) ∙ sym (ap₂ (λ i j. of_bool (i && not j)) (at n c.go w v true g out.go on) (ap is_true (one.own 2 (omega arith)) ∙ eq)),
              satisfies_append f v (joins (n + 4) b.next a.variables b.variables (both_write (writes0 p) (writes0 q))) (a.equations ++ b.equations) jn.joins (satisfies_append f v a.equations b.equations t.solves_first t.solves_second),
            ),
          ),
        ),
      );
      tells = whole.tells;
    }

-- an immediate weak abort
weak_shows : (tables : Tables) (f w : ℕ → ℤ) (test : Test) (p : Stmt) (c : Context) (o : Tick) → Outside c → w 0 ≡ pos 0 → is_on w c.go ≡ true → is_on w c.hold ≡ false → (b : Bool) → holds (told_env w c.wires) test ≡ b
    → ((w0 : ℕ → ℤ) (d : Context) (i : Tick) → Outside d → w0 0 ≡ pos 0 → is_on w0 d.go ≡ true → is_on w0 d.hold ≡ false
    → Ticks tables (told w0 d.wires.last) p (told_env w0 d.wires) (told w0 d.wires.variables) i → Shows tables f w0 p d.register d.keep d.next (start tables p d) i)
    → Chosen b (Aborts true (λ a. Ticks tables (told w c.wires.last) p (told_env w c.wires) (told w c.wires.variables) a) (told w c.wires.variables) o)
    ((a : Tick) × Ticks tables (told w c.wires.last) p (told_env w c.wires) (told w c.wires.variables) a × (o ≡ as_whole a.code (Abort true true test a.rest) a))
    → Shows tables f w (Abort true true test p) c.register c.keep c.next (weak_copy test c (start tables p (weak_context c))) o
weak_shows tables f w test p c o out z on free true eq body h =
    let i : Tick = h.0 in
    let code = code_of_weak_abort i.code in
    let n = c.next in
    let vs = of_bool (is_on w c.keep && (code == 1)) ∷ formula_value f w (Holds test c.wires) ∷ of_bool (code == 1) ∷ pos (suc code) ∷ of_bool (code == 1) ∷ [] in
    let w0 = own n vs w in
    let go = out.go in
    let hold = out.hold in
    let d0 = weak_context c in
    let a = start tables p d0 in
    let g0 = own_agrees n vs w in
    let x = body w0 d0 i (outside_with c.go c.hold n 5 c.register c out (omega (arith, go)) (omega (arith, hold)) (omega arith)) (zero_at n w w0 g0 out.some z) (at n c.go w w0 true g0 out.go on) (at n c.hold w w0 false g0 out.hold free) (moved tables n w w0 p c.wires i g0 out.wires h.1) in
    let v = x.values in
    let one = one_solved f w n 5 vs a v (omega arith) x.same in
    let g = one.same in
    let free_v = at n c.hold w v false g out.hold free in
    let ks = keep_equations v n (n + 4) (n + 2) (n + 3) c.keep c.hold code (is_on w c.keep) (at n c.keep w v (is_on w c.keep) g out.keep refl) free_v (one.own 3 (omega arith)) one.first (one.own 4 (omega arith)) (one.own 2 (omega arith)) in
    let ht : is_on v (n + 1) ≡ holds (told_env w c.wires) test = ap is_true (one.own 1 (omega arith)) ∙ truth_of (holds (told_env w c.wires) test) in
    let e3 : v (n + 3) ≡ cond (is_on v (n + 1)) (of_weak_abort (v a.status)) (v a.status) =
    one.own 3 (omega arith) ∙ sym (ap (λ s. cond s (of_weak_abort (v a.status)) (v a.status)) (ht ∙ eq) ∙ ap of_weak_abort (x.tells).status ∙ weak_status i.code) in
    record {
      values = v;
      same = g;
      solves = (ks.first, (one.own 1 (omega arith) ∙ sym (value_agrees n f w v (Holds test c.wires) g out.wires), (ks.third, (e3, (ks.second, x.solves)))));
      tells = subst (λ s. Tells tables v (Abort true true test p) c.register c.keep (weak_copy test c a) s) (sym h.2)
          (weak_stops tables v (told_env w c.wires) true test p c a i ht e3 (keeps_says v n (n + 4) (n + 2) (n + 3) c.keep c.hold ks.first ks.second ks.third) free_v eq x.tells);
    }
weak_shows tables f w test p c o out z on free false eq body h =
    let i : Tick = h.0 in
    let code = i.code in
    let n = c.next in
    let vs = of_bool (is_on w c.keep && (code == 1)) ∷ formula_value f w (Holds test c.wires) ∷ of_bool (code == 1) ∷ pos (suc code) ∷ of_bool (code == 1) ∷ [] in
    let w0 = own n vs w in
    let go = out.go in
    let hold = out.hold in
    let d0 = weak_context c in
    let a = start tables p d0 in
    let g0 = own_agrees n vs w in
    let x = body w0 d0 i (outside_with c.go c.hold n 5 c.register c out (omega (arith, go)) (omega (arith, hold)) (omega arith)) (zero_at n w w0 g0 out.some z) (at n c.go w w0 true g0 out.go on) (at n c.hold w w0 false g0 out.hold free) (moved tables n w w0 p c.wires i g0 out.wires h.1) in
    let v = x.values in
    let one = one_solved f w n 5 vs a v (omega arith) x.same in
    let g = one.same in
    let free_v = at n c.hold w v false g out.hold free in
    let ks = keep_equations v n (n + 4) (n + 2) (n + 3) c.keep c.hold code (is_on w c.keep) (at n c.keep w v (is_on w c.keep) g out.keep refl) free_v (one.own 3 (omega arith)) one.first (one.own 4 (omega arith)) (one.own 2 (omega arith)) in
    let ht : is_on v (n + 1) ≡ holds (told_env w c.wires) test = ap is_true (one.own 1 (omega arith)) ∙ truth_of (holds (told_env w c.wires) test) in
    let e3 : v (n + 3) ≡ cond (is_on v (n + 1)) (of_weak_abort (v a.status)) (v a.status) =
    one.own 3 (omega arith) ∙ sym (ap (λ s. cond s (of_weak_abort (v a.status)) (v a.status)) (ht ∙ eq) ∙ (x.tells).status) in
    record {
      values = v;
      same = g;
      solves = (ks.first, (one.own 1 (omega arith) ∙ sym (value_agrees n f w v (Holds test c.wires) g out.wires), (ks.third, (e3, (ks.second, x.solves)))));
      tells = subst (λ s. Tells tables v (Abort true true test p) c.register c.keep (weak_copy test c a) s) (sym h.2)
          (weak_goes tables v (told_env w c.wires) true test p c a i ht e3 (keeps_says v n (n + 4) (n + 2) (n + 3) c.keep c.hold ks.first ks.second ks.third) free_v eq x.tells);
    }

-- an immediate strong abort
strong_shows : (tables : Tables) (f w : ℕ → ℤ) (test : Test) (p : Stmt) (c : Context) (o : Tick) → Outside c → w 0 ≡ pos 0 → is_on w c.go ≡ true → is_on w c.hold ≡ false → (b : Bool) → holds (told_env w c.wires) test ≡ b
    → ((w0 : ℕ → ℤ) (d : Context) (i : Tick) → Outside d → w0 0 ≡ pos 0 → is_on w0 d.go ≡ true → is_on w0 d.hold ≡ false
    → Ticks tables (told w0 d.wires.last) p (told_env w0 d.wires) (told w0 d.wires.variables) i → Shows tables f w0 p d.register d.keep d.next (start tables p d) i)
    → Chosen b (Aborts false (λ a. Ticks tables (told w c.wires.last) p (told_env w c.wires) (told w c.wires.variables) a) (told w c.wires.variables) o)
    ((a : Tick) × Ticks tables (told w c.wires.last) p (told_env w c.wires) (told w c.wires.variables) a × (o ≡ as_whole a.code (Abort false true test a.rest) a))
    → Shows tables f w (Abort false true test p) c.register c.keep c.next (tested_copy test c.go 0 c (start tables p (tested_context c))) o
strong_shows tables f w test p c o out z on free true eq body h =
    let n = c.next in
    let vs = formula_value f w (Holds test c.wires) ∷ pos 0 ∷ pos 1 ∷ pos 1 ∷ pos 1 ∷ pos 1 ∷ pos 1 ∷ [] in
    let w0 = own n vs w in
    let hold = out.hold in
    let keep = out.keep in
    let d0 = tested_context c in
    let a = start tables p d0 in
    let g0 = own_agrees n vs w in
    let x = start_rests tables f w0 p d0 (outside_with (n + 1) c.hold c.keep 7 c.register c out (omega arith) (omega (arith, hold)) (omega (arith, keep))) (zero_at n w w0 g0 out.some z) (ap is_true (own_at n 1 vs w)) (at n c.hold w w0 false g0 out.hold free) in
    let v = x.values in
    let one = one_solved f w n 7 vs a v (omega arith) x.same in
    let g = one.same in
    let free_v = at n c.hold w v false g out.hold free in
    let on_v = at n c.go w v true g out.go on in
    let test_on : is_on v n ≡ true = ap is_true one.first ∙ truth_of (holds (told_env w c.wires) test) ∙ eq in
    let two_on : is_on v (n + 2) ≡ true = ap is_true (one.own 2 (omega arith)) in
    let three_on : is_on v (n + 3) ≡ true = ap is_true (one.own 3 (omega arith)) in
    let solves : Satisfies f v (start tables (Abort false true test p) c).equations = (
      one.first ∙ sym (value_agrees n f w v (Holds test c.wires) g out.wires),
      (
        one.own 1 (omega arith) ∙ sym (ap₂ (λ s r. of_bool (s && not r)) on_v test_on),
        (
          one.own 2 (omega arith) ∙ sym (ap₂ (λ s r. of_bool (s && r)) on_v test_on),
          (
            one.own 3 (omega arith) ∙ sym (ap₂ (λ s r. of_bool (s && r)) two_on on_v),
            (
              one.own 4 (omega arith) ∙ sym (ap (λ s. cond s (v (n + 6)) (v a.status)) three_on ∙ one.own 6 (omega arith)),
              (
                one.own 5 (omega arith) ∙ sym (ap₂ (λ s r. of_bool (s || r)) free_v three_on),
                (one.own 6 (omega arith), x.solves),
              ),
            ),
          ),
        ),
      ),
    ) in
    let sa = start_silent tables f v p d0 (zero_at n w v g out.some z) x.solves (ap is_true (one.own 1 (omega arith))) free_v in
    let whole = strong_stops tables (told v c.wires.last) (told_env v c.wires) (told v c.wires.variables) v true test p p c.go c a (tested_says f v test c.go 0 c a solves) (ap (λ s. holds s test) (env_agrees n w v c.wires g out.wires) ∙ eq) on_v on_v sa in
    record {
      values = v;
      same = g;
      solves = solves;
      tells = subst (λ s. Tells tables v (Abort false true test p) c.register c.keep (tested_copy test c.go 0 c a) s) (ap (ends_with []) (told_agrees n w v c.wires.variables g (out.wires).variables) ∙ sym h) whole.tells;
    }
strong_shows tables f w test p c o out z on free false eq body h =
    let i : Tick = h.0 in
    let n = c.next in
    let vs = formula_value f w (Holds test c.wires) ∷ pos 1 ∷ pos 0 ∷ pos 0 ∷ pos (suc i.code) ∷ pos 0 ∷ pos 1 ∷ [] in
    let w0 = own n vs w in
    let hold = out.hold in
    let keep = out.keep in
    let d0 = tested_context c in
    let a = start tables p d0 in
    let g0 = own_agrees n vs w in
    let x = body w0 d0 i (outside_with (n + 1) c.hold c.keep 7 c.register c out (omega arith) (omega (arith, hold)) (omega (arith, keep))) (zero_at n w w0 g0 out.some z) (ap is_true (own_at n 1 vs w)) (at n c.hold w w0 false g0 out.hold free) (moved tables n w w0 p c.wires i g0 out.wires h.1) in
    let v = x.values in
    let one = one_solved f w n 7 vs a v (omega arith) x.same in
    let g = one.same in
    let free_v = at n c.hold w v false g out.hold free in
    let on_v = at n c.go w v true g out.go on in
    let test_off : is_on v n ≡ false = ap is_true one.first ∙ truth_of (holds (told_env w c.wires) test) ∙ eq in
    let two_off : is_on v (n + 2) ≡ false = ap is_true (one.own 2 (omega arith)) in
    let three_off : is_on v (n + 3) ≡ false = ap is_true (one.own 3 (omega arith)) in
    let solves : Satisfies f v (start tables (Abort false true test p) c).equations = (
      one.first ∙ sym (value_agrees n f w v (Holds test c.wires) g out.wires),
      (
        one.own 1 (omega arith) ∙ sym (ap₂ (λ s r. of_bool (s && not r)) on_v test_off),
        (
          one.own 2 (omega arith) ∙ sym (ap₂ (λ s r. of_bool (s && r)) on_v test_off),
          (
            one.own 3 (omega arith) ∙ sym (ap (λ s. of_bool (s && is_on v c.go)) two_off),
            (
              one.own 4 (omega arith) ∙ sym (ap (λ s. cond s (v (n + 6)) (v a.status)) three_off ∙ (x.tells).status),
              (
                one.own 5 (omega arith) ∙ sym (ap₂ (λ s r. of_bool (s || r)) free_v three_off),
                (one.own 6 (omega arith), x.solves),
              ),
            ),
          ),
        ),
      ),
    ) in
    record {
      values = v;
      same = g;
      solves = solves;
      tells = subst (λ s. Tells tables v (Abort false true test p) c.register c.keep (tested_copy test c.go 0 c a) s) (sym h.2)
          (whole_tells tables v p (Abort false true test p) (λ s. Abort false true test s) c.register c.keep c.keep (n + 4) a i (one.own 4 (omega arith) ∙ sym (x.tells).status) x.tells refl
          (λ s k. abort_stands tables false true test p s c.register (registers_set v a.sets) k) (tested_copy test c.go 0 c a).equations);
    }

pub start_shows : (tables : Tables) (f w : ℕ → ℤ) (p : Stmt) (c : Context) (o : Tick) → Outside c → IsSource tables p → LoopsWait p → w 0 ≡ pos 0 → is_on w c.go ≡ true → is_on w c.hold ≡ false
    → Ticks tables (told w c.wires.last) p (told_env w c.wires) (told w c.wires.variables) o → Shows tables f w p c.register c.keep c.next (start tables p c) o
start_shows tables f w Nothing c o out src l z on free h =
    let n = c.next in
    let v = own n (pos 1 ∷ []) w in
    let g = own_agrees n (pos 1 ∷ []) w in
    let solves : Satisfies f v (start tables Nothing c).equations = (own_first n (pos 1 ∷ []) w ∙ status_one w v n c.go 0 g out.go on, tt) in
    let u = start_active tables f v Nothing c src l (zero_at n w v g out.some z) solves (at n c.go w v true g out.go on) (at n c.hold w v false g out.hold free) in
    only_tick tables f w v Nothing c.register c.keep n (start tables Nothing c) o u.tick g solves u.tells (u.ticks ∙ ap (ends_with []) (told_agrees n w v c.wires.variables g (out.wires).variables) ∙ sym h)
start_shows tables f w Pause c o out src l z on free h =
    let n = c.next in
    let vs = pos 2 ∷ of_bool (is_on w c.keep) ∷ [] in
    let v = own n vs w in
    let g = own_agrees n vs w in
    let solves : Satisfies f v (start tables Pause c).equations = (own_first n vs w ∙ status_one w v n c.go 1 g out.go on, (own_at n 1 vs w ∙ and_first w v n c.go c.keep (is_on w c.keep) g out.go on (at n c.keep w v (is_on w c.keep) g out.keep refl), tt)) in
    let u = start_active tables f v Pause c src l (zero_at n w v g out.some z) solves (at n c.go w v true g out.go on) (at n c.hold w v false g out.hold free) in
    only_tick tables f w v Pause c.register c.keep n (start tables Pause c) o u.tick g solves u.tells (u.ticks ∙ ap (quiet 1 Nothing) (told_agrees n w v c.wires.variables g (out.wires).variables) ∙ sym h)
start_shows tables f w (Emit s e) c o out src l z on free h =
    let n = c.next in
    let vs = pos 1 ∷ formula_value f w (emitted_value e c.wires) ∷ [] in
    let v = own n vs w in
    let g = own_agrees n vs w in
    let solves : Satisfies f v (start tables (Emit s e) c).equations = (own_first n vs w ∙ status_one w v n c.go 0 g out.go on, (own_at n 1 vs w ∙ sym (value_agrees n f w v (emitted_value e c.wires) g (emitted_reads n e c.wires out.wires)), tt)) in
    let u = start_active tables f v (Emit s e) c src l (zero_at n w v g out.some z) solves (at n c.go w v true g out.go on) (at n c.hold w v false g out.hold free) in
    let k = u.ticks in
    only_tick tables f w v (Emit s e) c.register c.keep n (start tables (Emit s e) c) o u.tick g solves u.tells
    (k.2 ∙ ap₂ (λ a b. ends_with (record { signal = s; value = a } ∷ []) b) (emission_value w v n c.wires e h.0 k.0 g out.wires h.1 k.1) (told_agrees n w v c.wires.variables g (out.wires).variables) ∙ sym h.2)
start_shows tables f w (Assign y e) c o out src l z on free h =
    let n = c.next in
    let i = c.wires.variables y in
    let x1 = formula_value f w (Value e c.wires) in
    let vs = pos 1 ∷ x1 ∷ x1 ∷ [] in
    let v = own n vs w in
    let g = own_agrees n vs w in
    let solves : Satisfies f v (start tables (Assign y e) c).equations = (
      own_first n vs w ∙ status_one w v n c.go 0 g out.go on,
      (
        own_at n 1 vs w ∙ sym (value_agrees n f w v (Value e c.wires) g out.wires),
        (own_at n 2 vs w ∙ sym (own_at n 1 vs w) ∙ sym (ap (λ b. cond b (v (n + 1)) (v i)) (at n c.go w v true g out.go on)), tt),
      ),
    ) in
    let u = start_active tables f v (Assign y e) c src l (zero_at n w v g out.some z) solves (at n c.go w v true g out.go on) (at n c.hold w v false g out.hold free) in
    let k = u.ticks in
    only_tick tables f w v (Assign y e) c.register c.keep n (start tables (Assign y e) c) o u.tick g solves u.tells
    (k.2 ∙ ap₂ (λ a b. ends_with [] (put_at b y a)) (emission_value w v n c.wires (Some e) h.0 k.0 g out.wires h.1 k.1) (told_agrees n w v c.wires.variables g (out.wires).variables) ∙ sym h.2)
start_shows tables f w (If e p q) c o out src l z on free h =
    choice_shows tables f w e p q (If e p q) c o out z on free (Value e c.wires) out.wires (is_true h.0) (ap is_true (sym h.1)) (λ s r k. k)
    (λ w0 d a b c1 e1 t. start_shows tables f w0 p d o a src.0 l.0 b c1 e1 t) (λ w0 d a b c1 e1 t. start_shows tables f w0 q d o a src.1 l.1 b c1 e1 t) h.2
start_shows tables f w (Present test p q) c o out src l z on free h =
    choice_shows tables f w (Literal kind.Int (pos 0)) p q (Present test p q) c o out z on free (Holds test c.wires) out.wires (holds (told_env w c.wires) test) (truth_of (holds (told_env w c.wires) test))
    (λ s r k. present_stands tables (Literal kind.Int (pos 0)) test p q s c.register r k)
    (λ w0 d a b c1 e1 t. start_shows tables f w0 p d o a src.0 l.0 b c1 e1 t) (λ w0 d a b c1 e1 t. start_shows tables f w0 q d o a src.1 l.1 b c1 e1 t) h
start_shows tables f w (Seq p q) c o out src l z on free h =
    let last = told w c.wires.last in
    let env = told_env w c.wires in
    let i : Tick = h.0 in
    by_cases (has_ended i.code)
    (λ e.
    let k = subst (λ s. Continues (λ y j. Ticks tables last q env y j) q i s o) e h.2 in
    let j : Tick = k.0 in
    let n = c.next in
    let r = c.register in
    let m = r + registers tables p in
    let vs = pos (suc j.code) ∷ pos 0 ∷ pos 1 ∷ [] in
    let w0 = own n vs w in
    let d0 = part_context c.go 3 c in
    let a = start tables p d0 in
    let d = start_context (n + 2) m a c in
    let b = starting_if (ends0 p) (start tables q d) d in
    let go = out.go in
    let keep = out.keep in
    let out0 = outside_part c.go 3 c out (omega (arith, go)) in
    let ia = start_inside tables p d0 out0 in
    let grows = ia.grows in
    let g0 = own_agrees n vs w in
    let x = start_shows tables f w0 p d0 i out0 src.0 l.0 (zero_at n w w0 g0 out.some z) (at n c.go w w0 true g0 out.go on) (at n c.hold w w0 false g0 out.hold free) (moved tables n w w0 p c.wires i g0 out.wires h.1) in
    let u = x.values in
    let ou = one_solved f w n 3 vs a u (omega arith) x.same in
    let gu = ou.same in
    let zu = zero_at n w u gu out.some z in
    let outd = outside_start (n + 2) m (n + 3) a c out ia (omega arith) (omega (arith, grows)) in
    let ku : Ticks tables (told u c.wires.last) q (told_env u c.wires) (told u a.variables) j =
    ticks_move tables q j last (told u c.wires.last) env (told_env u c.wires) i.variables (told u a.variables)
    (sym (told_agrees n w u c.wires.last gu (out.wires).last)) (sym (env_agrees n w u c.wires gu out.wires)) (sym (x.tells).variables) k.1 in
    let y = shows_if tables f u q m c.keep a.next (ends0 p) (start tables q d) d j ((starting_allows tables last p env (told w c.wires.variables) i h.1).ends (ended_zero i.code e))
    (start_shows tables f u q d j outd src.1 l.1 zu (ap is_true (ou.own 2 (omega arith))) (ap is_true zu) ku) in
    let v = y.values in
    let t = two_solved f w n 3 vs a b (omega arith) ia (solved tables f w0 p r c.keep (n + 3) a i x) (solved tables f u q m c.keep a.next b j y) in
    let one = t.one in
    let g = one.same in
    let ta = part_tells tables f w0 v p r c.keep (n + 3) a i (n + 3) x y.same ia (omega (arith, grows, keep)) in
    let tb = y.tells in
    let zero_code = ended_zero i.code e in
    let e0 : v n ≡ int_max (v a.status) (v b.status) = one.first ∙ max_of v a.status b.status (suc i.code) (suc j.code) (suc j.code) ta.status tb.status (omega (arith, zero_code)) in
    let R = registers_set v (joined (below m a.sets) (from m b.sets)) in
    let whole = turn_ended tables v p q (Seq p q) q r m r c.keep n 0 (below m a.sets) (from m b.sets) (turn_own (n + 2) a) a b e0 i j ta tb e
    (λ s off st. Seq_second tables p q s r R (first_dies tables v p r a.sets b.sets off) (second_stands tables v q s m a.sets b.sets st))
    (λ s1 s2. off_joined v (below m a.sets) (from m b.sets) (off_below v m a.sets s1) (off_from v m b.sets s2)) in
    record {
      values = v;
      same = g;
      solves = (
        e0,
        (
          one.own 2 (omega arith) ∙ sym (ap (λ s. of_bool (to_nat s == 1)) ta.status ∙ ap (λ s. of_bool (suc s == 1)) zero_code),
          satisfies_append f v a.equations b.equations t.solves_first t.solves_second,
        ),
      );
      tells = subst (λ s. Tells tables v (Seq p q) r c.keep (start tables (Seq p q) c) s) (sym k.2) whole;
    })
    (λ e.
    let k = subst (λ s. Continues (λ y j. Ticks tables last q env y j) q i s o) e h.2 in
    let n = c.next in
    let r = c.register in
    let m = r + registers tables p in
    let vs = pos (suc i.code) ∷ pos 0 ∷ pos 0 ∷ [] in
    let w0 = own n vs w in
    let d0 = part_context c.go 3 c in
    let a = start tables p d0 in
    let d = start_context (n + 2) m a c in
    let b = starting_if (ends0 p) (start tables q d) d in
    let go = out.go in
    let keep = out.keep in
    let out0 = outside_part c.go 3 c out (omega (arith, go)) in
    let ia = start_inside tables p d0 out0 in
    let grows = ia.grows in
    let g0 = own_agrees n vs w in
    let x = start_shows tables f w0 p d0 i out0 src.0 l.0 (zero_at n w w0 g0 out.some z) (at n c.go w w0 true g0 out.go on) (at n c.hold w w0 false g0 out.hold free) (moved tables n w w0 p c.wires i g0 out.wires h.1) in
    let u = x.values in
    let ou = one_solved f w n 3 vs a u (omega arith) x.same in
    let gu = ou.same in
    let zu = zero_at n w u gu out.some z in
    let outd = outside_start (n + 2) m (n + 3) a c out ia (omega arith) (omega (arith, grows)) in
    let y = rests_if f u a.next (ends0 p) (start tables q d) d (start_rests tables f u q d outd zu (ap is_true (ou.own 2 (omega arith))) (ap is_true zu)) in
    let v = y.values in
    let t = two_solved f w n 3 vs a b (omega arith) ia (solved tables f w0 p r c.keep (n + 3) a i x) y in
    let one = t.one in
    let g = one.same in
    let zv = zero_at n w v g out.some z in
    let ta = part_tells tables f w0 v p r c.keep (n + 3) a i (n + 3) x y.same ia (omega (arith, grows, keep)) in
    let sb = silent_if f v (told v a.variables) (ends0 p) (start tables q d) d zv t.solves_second (λ j. start_silent tables f v q d zv j (ap is_true (one.own 2 (omega arith))) (ap is_true zv)) in
    let e0 : v n ≡ int_max (v a.status) (v b.status) = one.first ∙ max_of v a.status b.status (suc i.code) 0 (suc i.code) ta.status (sb.quiet).status (omega arith) in
    let R = registers_set v (joined (below m a.sets) (from m b.sets)) in
    let whole = turn_waits tables v p q (Seq p q) q r m r c.keep n 0 (below m a.sets) (from m b.sets) (turn_own (n + 2) a) a b e0 i ta sb
    (λ s off st. Seq_first tables p q s r R (first_stands tables v p s r a.sets b.sets st) (second_dies tables v q m a.sets b.sets off))
    (λ s1 s2. off_joined v (below m a.sets) (from m b.sets) (off_below v m a.sets s1) (off_from v m b.sets s2)) in
    record {
      values = v;
      same = g;
      solves = (
        e0,
        (
          one.own 2 (omega arith) ∙ sym (ap (λ s. of_bool (to_nat s == 1)) ta.status ∙ ap of_bool (has_ended_status i.code ∙ e)),
          satisfies_append f v a.equations b.equations t.solves_first t.solves_second,
        ),
      );
      tells = subst (λ s. Tells tables v (Seq p q) r c.keep (start tables (Seq p q) c) s) (sym k) whole;
    })
start_shows tables f w (Loop p) c o out src l z on free h =
    let i : Tick = h.0 in
    let a = start tables p c in
    let x = start_shows tables f w p c i out src l.1 z on free h.1 in
    let v = x.values in
    record {
      values = v;
      same = x.same;
      solves = x.solves;
      tells = subst (λ s. Tells tables v (Loop p) c.register c.keep a s) (sym h.3)
          (whole_tells tables v p (Loop p) (λ s. Seq s (Loop p)) c.register c.keep c.keep a.status a i refl x.tells refl (λ s g. loop_stands tables p s c.register (registers_set v a.sets) g) a.equations);
    }
start_shows tables f w (Par p q) c o out src l z on free h =
    let i : Tick = h.0 in
    let j : Tick = h.1 in
    let code = max i.code j.code in
    let n = c.next in
    let r = c.register in
    let m = r + registers tables p in
    let kept = of_bool (is_on w c.keep && (code == 1)) in
    let one_code = of_bool (code == 1) in
    let vs = kept ∷ one_code ∷ one_code ∷ pos (suc code) ∷ pos 0 ∷ [] in
    let w0 = own n vs w in
    let go = out.go in
    let hold = out.hold in
    let last = told w c.wires.last in
    let env = told_env w c.wires in
    let vars = told w c.wires.variables in
    let d0 = branch_context c in
    let a = start tables p d0 in
    let d = second_branch tables p c a in
    let b = start tables q d in
    let out0 = outside_with c.go c.hold n 5 c.register c out (omega (arith, go)) (omega (arith, hold)) (omega arith) in
    let ia = start_inside tables p d0 out0 in
    let grows = ia.grows in
    let g0 = own_agrees n vs w in
    let x = start_shows tables f w0 p d0 i out0 src.1 l.0 (zero_at n w w0 g0 out.some z) (at n c.go w w0 true g0 out.go on) (at n c.hold w w0 false g0 out.hold free) (moved tables n w w0 p c.wires i g0 out.wires h.2) in
    let u = x.values in
    let ou = one_solved f w n 5 vs a u (omega arith) x.same in
    let gu = ou.same in
    let outd : Outside d = record { some = omega (arith, grows); go = omega (arith, grows, go); hold = omega (arith, grows, hold); keep = omega (arith, grows); wires = wires_more n a.next c.wires (omega (arith, grows)) out.wires } in
    let y = start_shows tables f u q d j outd src.2 l.1 (zero_at n w u gu out.some z) (at n c.go w u true gu out.go on) (at n c.hold w u false gu out.hold free) (moved tables n w u q c.wires j gu out.wires h.3) in
    let v = y.values in
    let t = two_solved f w n 5 vs a b (omega arith) ia (solved tables f w0 p r n (n + 5) a i x) (solved tables f u q m n a.next b j y) in
    let one = t.one in
    let g = one.same in
    let ta = part_tells tables f w0 v p r n (n + 5) a i (n + 5) x y.same ia (omega (arith, grows)) in
    let tb = y.tells in
    let free_v = at n c.hold w v false g out.hold free in
    let e3 : v (n + 3) ≡ int_max (v a.status) (v b.status) = one.own 3 (omega arith) ∙ max_of v a.status b.status (suc i.code) (suc j.code) (suc code) ta.status tb.status (omega arith) in
    let ks = keep_equations v n (n + 1) (n + 2) (n + 3) c.keep c.hold code (is_on w c.keep) (at n c.keep w v (is_on w c.keep) g out.keep refl) free_v (one.own 3 (omega arith)) one.first (one.own 1 (omega arith)) (one.own 2 (omega arith)) in
    let ua : Active tables last env vars v p p r n a = record { tick = i; ticks = h.2; tells = ta } in
    let ub : Active tables last env vars v q q m n b = record { tick = j; ticks = h.3; tells = tb } in
    let whole = par_active tables last env vars v p q p q 0 [] c a b e3 (keeps_says v n (n + 1) (n + 2) (n + 3) c.keep c.hold ks.first ks.second ks.third) free_v
    (branch_ticks tables last env vars v p p r n a ua (λ e. or_left (ends0 p) (ends1 p) ((starting_allows tables last p env vars i h.2).ends e)))
    (branch_ticks tables last env vars v q q m n b ub (λ e. or_left (ends0 q) (ends1 q) ((starting_allows tables last q env vars j h.3).ends e)))
    (λ e k. let s = ta.status in cc) (λ a1 a2 a3 a4. refl) in
    record {
      values = v;
      same = g;
      solves = (ks.first, (ks.second, (ks.third, (e3, satisfies_append f v a.equations b.equations t.solves_first t.solves_second))));
      tells = subst (λ s. Tells tables v (Par p q) r c.keep (start tables (Par p q) c) s) (sym h.4) whole.tells;
    }
start_shows tables f w (Trap p) c o out src l z on free h =
    let i : Tick = h.0 in
    let n = c.next in
    let vs = pos (suc (code_of_trap i.code)) ∷ [] in
    let w0 = own n vs w in
    let go = out.go in
    let d0 = part_context c.go 1 c in
    let a = start tables p d0 in
    let g0 = own_agrees n vs w in
    let x = start_shows tables f w0 p d0 i (outside_part c.go 1 c out (omega (arith, go))) src l (zero_at n w w0 g0 out.some z) (at n c.go w w0 true g0 out.go on) (at n c.hold w w0 false g0 out.hold free) (moved tables n w w0 p c.wires i g0 out.wires h.1) in
    let v = x.values in
    let one = one_solved f w n 1 vs a v (omega arith) x.same in
    let e0 : v n ≡ of_trap (v a.status) = one.first ∙ sym (ap of_trap (x.tells).status ∙ trap_status i.code) in
    let last = told w c.wires.last in
    let env = told_env w c.wires in
    let vars = told w c.wires.variables in
    let ua : Active tables last env vars v p p c.register c.keep a = record { tick = i; ticks = h.1; tells = x.tells } in
    let whole = trap_active tables last env vars v p p c a e0 ua in
    record { values = v; same = one.same; solves = (e0, x.solves); tells = subst (λ s. Tells tables v (Trap p) c.register c.keep (start tables (Trap p) c) s) (sym h.2) whole.tells }
start_shows tables f w (Exit d) c o out src l z on free h =
    let n = c.next in
    let vs = pos (suc (suc (suc d))) ∷ [] in
    let v = own n vs w in
    let g = own_agrees n vs w in
    let solves : Satisfies f v (start tables (Exit d) c).equations = (own_first n vs w ∙ status_one w v n c.go (suc (suc d)) g out.go on, tt) in
    let u = start_active tables f v (Exit d) c src l (zero_at n w v g out.some z) solves (at n c.go w v true g out.go on) (at n c.hold w v false g out.hold free) in
    only_tick tables f w v (Exit d) c.register c.keep n (start tables (Exit d) c) o u.tick g solves u.tells (u.ticks ∙ ap (quiet (suc (suc d)) Nothing) (told_agrees n w v c.wires.variables g (out.wires).variables) ∙ sym h)
start_shows tables f w (Abort weak false t p) c o out src l z on free h =
    let i : Tick = h.0 in
    let a = start tables p c in
    let x = start_shows tables f w p c i out src l z on free h.1 in
    let v = x.values in
    record {
      values = v;
      same = x.same;
      solves = x.solves;
      tells = subst (λ s. Tells tables v (Abort weak false t p) c.register c.keep a s) (sym h.2)
          (whole_tells tables v p (Abort weak false t p) (λ s. Abort weak true t s) c.register c.keep c.keep a.status a i refl x.tells refl (λ s g. abort_stands tables weak false t p s c.register (registers_set v a.sets) g) a.equations);
    }
start_shows tables f w (Abort true true t p) c o out src l z on free h =
    weak_shows tables f w t p c o out z on free (holds (told_env w c.wires) t) refl (λ w0 d i a b c1 e1 k. start_shows tables f w0 p d i a src l b c1 e1 k) h
start_shows tables f w (Abort false true t p) c o out src l z on free h =
    strong_shows tables f w t p c o out z on free (holds (told_env w c.wires) t) refl (λ w0 d i a b c1 e1 k. start_shows tables f w0 p d i a src l b c1 e1 k) h
start_shows tables f w (Suspend armed t p) c o out src l z on free h =
    let last = told w c.wires.last in
    let env = told_env w c.wires in
    let vars = told w c.wires.variables in
    let k = subst (λ b. Chosen (b && holds env t) (o ≡ quiet 1 (Suspend b t p) vars) ((i : Tick) × Ticks tables last p env vars i × (o ≡ as_whole i.code (Suspend true t i.rest) i))) src.0 h in
    let i : Tick = k.0 in
    let a = start tables p c in
    let x = start_shows tables f w p c i out src.1 l z on free k.1 in
    let v = x.values in
    record {
      values = v;
      same = x.same;
      solves = x.solves;
      tells = subst (λ s. Tells tables v (Suspend armed t p) c.register c.keep a s) (sym k.2)
          (whole_tells tables v p (Suspend armed t p) (λ s. Suspend true t s) c.register c.keep c.keep a.status a i refl x.tells refl (λ s g. suspend_stands tables armed t p s c.register (registers_set v a.sets) g) a.equations);
    }
start_shows tables f w (Local s v0 p) c o out src l z on free h =
    let b = h.0 in
    let val = h.1 in
    let i : Tick = h.2 in
    let n = c.next in
    let vs = of_bool b ∷ val ∷ v0 ∷ of_bool (i.code == 1) ∷ of_bool (is_on w c.keep && (i.code == 1)) ∷ of_bool (is_on w c.keep && is_on w c.hold) ∷ [] in
    let w0 = own n vs w in
    let last = told w c.wires.last in
    let env = told_env w c.wires in
    let vars = told w c.wires.variables in
    let d0 = local_context tables s c in
    let a = start tables p d0 in
    let out0 = outside_local tables s c out in
    let ia = start_inside tables p d0 out0 in
    let grows = ia.grows in
    let keep = out.keep in
    let g0 = own_agrees n vs w in
    let env0 : told_env w0 d0.wires ≡ put_at env s (record { present = b; value = val }) =
    told_local w0 c.wires s n (n + 1) ∙ ap₂ (λ x y. put_at (told_env w0 c.wires) s (record { present = x; value = y })) (ap is_true (own_first n vs w) ∙ truth_of b) (own_at n 1 vs w)
    ∙ ap (λ x. put_at x s (record { present = b; value = val })) (env_agrees n w w0 c.wires g0 out.wires) in
    let x = start_shows tables f w0 p d0 i out0 src.1 l (zero_at n w w0 g0 out.some z) (at n c.go w w0 true g0 out.go on) (at n c.hold w w0 false g0 out.hold free)
    (ticks_move tables p i last (told w0 c.wires.last) (put_at env s (record { present = b; value = val })) (told_env w0 d0.wires) vars (told w0 c.wires.variables)
    (sym (told_agrees n w w0 c.wires.last g0 (out.wires).last)) (sym env0) (sym (told_agrees n w w0 c.wires.variables g0 (out.wires).variables)) h.3) in
    let u = x.values in
    let fold = fold_emits (fold_info tables s) s a.next 0 (n + 2) a.emits in
    let y = fold_solution f u (fold_info tables s) s a.next 0 (n + 2) a.emits ia.emits (omega (arith, grows)) (omega (arith, grows)) in
    let v = y.values in
    let one = one_solved f w n 6 vs a v (omega arith) (agree_twice (n + 6) a.next w0 u v grows x.same y.same) in
    let g = one.same in
    let zv = zero_at n w v g out.some z in
    let zu = zero_at n w u (agree_twice n (n + 6) w w0 u (omega arith) g0 x.same) out.some z in
    let ha = satisfies_still a.next f u v a.equations y.same ia.equations x.solves in
    let ta = part_tells tables f w0 v p d0.register c.keep (n + 6) a i (n + 6) x y.same ia (omega (arith, grows, keep)) in
    let says = fold_says f v (fold_info tables s) s a.next 0 (n + 2) a.emits y.solves in
    let off_zero : is_on v 0 ≡ false = ap is_true zv in
    let free_v = at n c.hold w v false g out.hold free in
    let keep_v = at n c.keep w v (is_on w c.keep) g out.keep refl in
    let some_on : is_on v fold.some ≡ b = says.some ∙ ap₂ (λ x y. x || is_emitted y s) off_zero ta.emits ∙ sym h.4 in
    let e0 : v n ≡ v fold.some = one.first ∙ sym (y.is_bool (zu ∙ sym (ap of_bool (ap is_true zu))) ∙ ap of_bool some_on) in
    let e1 : v (n + 1) ≡ v fold.value = one.own 1 (omega arith) ∙ sym (says.value ∙ ap₂ (λ x y. folded_from (fold_info tables s) x (v (n + 2)) (values_of s y)) off_zero ta.emits ∙ ap (λ x. folded (fold_info tables s) x (values_of s i.emits)) (one.own 2 (omega arith)) ∙ same_fold tables s v0 i.emits (λ e. src.0) ta.pure ∙ sym h.5) in
    let pauses : is_on v (n + 3) ≡ (i.code == 1) = ap is_true (one.own 3 (omega arith)) ∙ truth_of (i.code == 1) in
    let e3 : v (n + 3) ≡ of_bool (to_nat (v a.status) == 2) = one.own 3 (omega arith) ∙ sym (ap (λ x. of_bool (to_nat x == 2)) ta.status ∙ ap of_bool (next_one i.code)) in
    let e4 : v (n + 4) ≡ of_bool (is_on v c.keep && is_on v (n + 3)) = one.own 4 (omega arith) ∙ sym (ap₂ (λ x y. of_bool (x && y)) keep_v pauses) in
    let e5 : v (n + 5) ≡ of_bool (is_on v c.keep && is_on v c.hold) = one.own 5 (omega arith) ∙ sym (ap₂ (λ x y. of_bool (x && y)) keep_v (at n c.hold w v (is_on w c.hold) g out.hold refl)) in
    let solves : Satisfies f v (start tables (Local s v0 p) c).equations = (e0, (e1, (one.own 2 (omega arith) ∙ src.0 ∙ sym (first_is f v (signal_at tables s).kind), (e3, (e4, (e5, satisfies_append f v fold.equations a.equations y.solves ha)))))) in
    let ls = local_equations tables f v s (first_formula (signal_at tables s).kind) c a zv solves y.solves in
    let ticks_v : Ticks tables last p (told_env v d0.wires) vars i =
    subst (λ x. Ticks tables last p x vars i)
    (sym (told_local v c.wires s n (n + 1) ∙ ap₂ (λ x y. put_at (told_env v c.wires) s (record { present = x; value = y })) (ap is_true one.first ∙ truth_of b) (one.own 1 (omega arith))
    ∙ ap (λ x. put_at x s (record { present = b; value = val })) (env_agrees n w v c.wires g out.wires))) h.3 in
    let ua : Active tables last (told_env v d0.wires) vars v p p d0.register c.keep a = record { tick = i; ticks = ticks_v; tells = ta } in
    let whole = local_active tables last vars v s v0 v0 p p c a (start tables (Local s v0 p) c).equations (start tables (Local s v0 p) c).next ls (one.own 2 (omega arith)) (λ e. src.0) free_v ua in
    record {
      values = v;
      same = g;
      solves = solves;
      tells = subst (λ t. Tells tables v (Local s v0 p) c.register c.keep (start tables (Local s v0 p) c) t)
          (ap (λ t. record { code = i.code; rest = left_at i.code (Local s t i.rest); emits = without s i.emits; variables = i.variables }) (one.own 1 (omega arith)) ∙ sym h.6) whole.tells;
    }
start_shows tables f w (Send ch e) c o out src l z on free h =
    let n = c.next in
    let vs = pos 2 ∷ of_bool (is_on w c.keep) ∷ formula_value f w (Value e c.wires) ∷ [] in
    let v = own n vs w in
    let g = own_agrees n vs w in
    let solves : Satisfies f v (start tables (Send ch e) c).equations = (
      own_first n vs w ∙ status_one w v n c.go 1 g out.go on,
      (
        own_at n 1 vs w ∙ and_first w v n c.go c.keep (is_on w c.keep) g out.go on (at n c.keep w v (is_on w c.keep) g out.keep refl),
        (own_at n 2 vs w ∙ sym (value_agrees n f w v (Value e c.wires) g out.wires), tt),
      ),
    ) in
    let u = start_active tables f v (Send ch e) c src l (zero_at n w v g out.some z) solves (at n c.go w v true g out.go on) (at n c.hold w v false g out.hold free) in
    let k = u.ticks in
    only_tick tables f w v (Send ch e) c.register c.keep n (start tables (Send ch e) c) o u.tick g solves u.tells
    (k.2 ∙ ap₂ (λ a b. quiet 1 (SendWaits ch a) b) (emission_value w v n c.wires (Some e) h.0 k.0 g out.wires h.1 k.1) (told_agrees n w v c.wires.variables g (out.wires).variables) ∙ sym h.2)
start_shows tables f w (Receive ch) c o out src l z on free h =
    let n = c.next in
    let vs = pos 2 ∷ of_bool (is_on w c.keep) ∷ [] in
    let v = own n vs w in
    let g = own_agrees n vs w in
    let solves : Satisfies f v (start tables (Receive ch) c).equations =
    (own_first n vs w ∙ status_one w v n c.go 1 g out.go on, (own_at n 1 vs w ∙ and_first w v n c.go c.keep (is_on w c.keep) g out.go on (at n c.keep w v (is_on w c.keep) g out.keep refl), tt)) in
    let u = start_active tables f v (Receive ch) c src l (zero_at n w v g out.some z) solves (at n c.go w v true g out.go on) (at n c.hold w v false g out.hold free) in
    only_tick tables f w v (Receive ch) c.register c.keep n (start tables (Receive ch) c) o u.tick g solves u.tells (u.ticks ∙ ap (quiet 1 (ReceiveWaits ch)) (told_agrees n w v c.wires.variables g (out.wires).variables) ∙ sym h)
start_shows tables f w (SendWaits ch v) c o out src l z on free h = absurd src
start_shows tables f w (Sent ch) c o out src l z on free h = absurd src
start_shows tables f w (ReceiveWaits ch) c o out src l z on free h = absurd src
start_shows tables f w (Received ch) c o out src l z on free h = absurd src
