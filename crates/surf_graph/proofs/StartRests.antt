-- A starting copy that doesn't start has values that satisfy its equations.
use Rattle.std.proofs.Common.{◌≡◌, ℕ, suc, ◌+◌, ◌<◌, ◌==◌, ℤ, pos, Bool, true, false, ◌&&◌, ◌||◌, not, cond, List, [], ◌∷◌, ◌++◌, refl, sym, ap, ap₂, ◌∙◌, arith}
use Rattle.java_values.specs.Arithmetic.{is_true}
use Rattle.kernel_terms.specs.declared.tables.Tables.{Tables}
use Rattle.kernel_terms.specs.TableEntries.{signal_at}
use Rattle.kernel_terms.specs.Statements.{Stmt, Nothing, Pause, Emit, Assign, If, Present, Seq, Loop, Par, Trap, Exit, Abort, Suspend, Local, Send, Receive, SendWaits, Sent, ReceiveWaits, Received}
use Rattle.kernel_terms.specs.MayEnd.{ends0}
use Rattle.kernel_rules.specs.definitions.Signals.{is_emitted, values_of}
use Rattle.kernel_rules.specs.definitions.Registers.{registers}
use Rattle.java_values.specs.Arithmetic.{of_bool}
use Rattle.std.specs.Int.{int_max}
use Rattle.surf_graph.specs.definitions.Formulas.{Value, Holds, Equation, Satisfies, formula_value, to_nat, is_on, of_trap, of_weak_abort, told}
use Rattle.surf_graph.specs.definitions.Copies.{fold_info, Copy, Context, starting_if, other_context, joins, both_write, start_context, part_context, branch_context, second_branch, weak_context, tested_context, local_context, fold_emits, emitted_value}
use Rattle.surf_graph.specs.definitions.StartingCopies.{writes0, start}
use Rattle.surf_graph.proofs.Frames.{wires_more, Agreeing, agree_twice, satisfies_still, value_agrees, own, own_agrees, own_at, own_first}
use Rattle.surf_graph.proofs.StartInside.{Outside, outside_part, outside_other, outside_start, outside_with, outside_local, start_inside, emitted_reads}
use Rattle.surf_graph.proofs.StartSilent.{start_silent, silent_if}
use Rattle.surf_graph.proofs.Joining.{joining}
use Rattle.surf_graph.proofs.Solutions.{Solution, one_solved, two_solved, at, zero_at, fold_solution}
use Rattle.surf_graph.proofs.Locals.{first_is, fold_says, folded_from}

pub satisfies_append : (f w : ℕ → ℤ) (es ds : List Equation) → Satisfies f w es → Satisfies f w ds → Satisfies f w (es ++ ds)
satisfies_append f w [] ds h k = k
satisfies_append f w (e ∷ es) ds h k = (h.0, satisfies_append f w es ds h.1 k)

pub rests_if : (f w : ℕ → ℤ) (n : ℕ) (b : Bool) (a : Copy) (c : Context) → Solution f w n a → Solution f w n (starting_if b a c)
rests_if f w n true a c s = s
rests_if f w n false a c s = record { values = w; same = record { at = λ k lt. refl }; solves = tt }

-- a status of 0 and k wires more
status_zero : (w v : ℕ → ℤ) (n go code : ℕ) → Agreeing n w v → go < n → is_on w go ≡ false → pos 0 ≡ cond (is_on v go) (pos (suc code)) (pos 0)
status_zero w v n go code h lt off = sym (ap (λ b. cond b (pos (suc code)) (pos 0)) (at n go w v false h lt off))

and_zero : (w v : ℕ → ℤ) (n a b : ℕ) → Agreeing n w v → a < n → is_on w a ≡ false → pos 0 ≡ of_bool (is_on v a && is_on v b)
and_zero w v n a b h lt off = sym (ap (λ x. of_bool (x && is_on v b)) (at n a w v false h lt off))

and_not_zero : (w v : ℕ → ℤ) (n a b : ℕ) → Agreeing n w v → a < n → is_on w a ≡ false → pos 0 ≡ of_bool (is_on v a && not (is_on v b))
and_not_zero w v n a b h lt off = sym (ap (λ x. of_bool (x && not (is_on v b))) (at n a w v false h lt off))

pub max_zero : (v : ℕ → ℤ) (a b : ℕ) → v a ≡ pos 0 → v b ≡ pos 0 → pos 0 ≡ int_max (v a) (v b)
max_zero v a b h k = sym (ap₂ int_max h k)

pub start_rests : (tables : Tables) (f w : ℕ → ℤ) (p : Stmt) (c : Context) → Outside c → w 0 ≡ pos 0 → is_on w c.go ≡ false → is_on w c.hold ≡ false → Solution f w c.next (start tables p c)
start_rests tables f w Nothing c o z off free =
    let n = c.next in
    let vs = pos 0 ∷ [] in
    let g = own_agrees n vs w in
    record { values = own n vs w; same = g; solves = (own_first n vs w ∙ status_zero w (own n vs w) n c.go 0 g o.go off, tt) }
start_rests tables f w Pause c o z off free =
    let n = c.next in
    let vs = pos 0 ∷ pos 0 ∷ [] in
    let g = own_agrees n vs w in
    let v = own n vs w in
    record { values = v; same = g; solves = (own_first n vs w ∙ status_zero w v n c.go 1 g o.go off, (own_at n 1 vs w ∙ and_zero w v n c.go c.keep g o.go off, tt)) }
start_rests tables f w (Emit s e) c o z off free =
    let n = c.next in
    let vs = pos 0 ∷ formula_value f w (emitted_value e c.wires) ∷ [] in
    let g = own_agrees n vs w in
    let v = own n vs w in
    record { values = v; same = g; solves = (own_first n vs w ∙ status_zero w v n c.go 0 g o.go off, (own_at n 1 vs w ∙ sym (value_agrees n f w v (emitted_value e c.wires) g (emitted_reads n e c.wires o.wires)), tt)) }
start_rests tables f w (Assign y e) c o z off free =
    let n = c.next in
    let i = c.wires.variables y in
    let vs = pos 0 ∷ formula_value f w (Value e c.wires) ∷ w i ∷ [] in
    let g = own_agrees n vs w in
    let v = own n vs w in
    let lt : i < n = (o.wires).variables y in
    record {
      values = v;
      same = g;
      solves = (
        own_first n vs w ∙ status_zero w v n c.go 0 g o.go off,
        (
          own_at n 1 vs w ∙ sym (value_agrees n f w v (Value e c.wires) g o.wires),
          (own_at n 2 vs w ∙ sym (g.at i lt) ∙ sym (ap (λ b. cond b (v (n + 1)) (v i)) (at n c.go w v false g o.go off)), tt),
        ),
      );
    }
start_rests tables f w (If e p q) c o z off free =
    let n = c.next in
    let m = c.register + registers tables p in
    let vs = pos 0 ∷ pos 0 ∷ formula_value f w (Value e c.wires) ∷ pos 0 ∷ pos 0 ∷ [] in
    let w0 = own n vs w in
    let a = start tables p (part_context (n + 3) 5 c) in
    let d = other_context (n + 4) m a c in
    let b = start tables q d in
    let out = outside_part (n + 3) 5 c o (omega arith) in
    let i = start_inside tables p (part_context (n + 3) 5 c) out in
    let grows = i.grows in
    let g0 = own_agrees n vs w in
    let x = start_rests tables f w0 p (part_context (n + 3) 5 c) out (zero_at n w w0 g0 o.some z) (ap is_true (own_at n 3 vs w)) (at n c.hold w w0 false g0 o.hold free) in
    let u = x.values in
    let ou = one_solved f w n 5 vs a u (omega arith) x.same in
    let outd = outside_other (n + 4) m (n + 5) a c o i (omega arith) (omega (arith, grows)) in
    let ib = start_inside tables q d outd in
    let gb = ib.grows in
    let y0 = start_rests tables f u q d outd (zero_at n w u ou.same o.some z) (ap is_true (ou.own 4 (omega arith))) (at n c.hold w u false ou.same o.hold free) in
    let jn = joining f u (writes0 p) (writes0 q) (n + 4) (n + 5) a b i ib (omega (arith, grows, gb)) y0 in
    let y = jn.solution in
    let v = y.values in
    let t = two_solved f w n 5 vs a b (omega arith) i x y in
    let one = t.one in
    let g = one.same in
    let zv = zero_at n w v g o.some z in
    let hold = at n c.hold w v false g o.hold free in
    let sa = start_silent tables f v p (part_context (n + 3) 5 c) zv t.solves_first (ap is_true (one.own 3 (omega arith))) hold in
    let sb = start_silent tables f v q d zv t.solves_second (ap is_true (one.own 4 (omega arith))) hold in
    record {
      values = v;
      same = g;
      solves = (
        one.first ∙ max_zero v a.status b.status (sa.quiet).status (sb.quiet).status,
        (
          one.own 2 (omega arith) ∙ sym (value_agrees n f w v (Value e c.wires) g o.wires),
          (
            one.own 3 (omega arith) ∙ and_zero w v n c.go (n + 2) g o.go off,
            (
              one.own 4 (omega arith) ∙ and_not_zero w v n c.go (n + 2) g o.go off,
              satisfies_append f v (joins (n + 4) b.next a.variables b.variables (both_write (writes0 p) (writes0 q))) (a.equations ++ b.equations) jn.joins (satisfies_append f v a.equations b.equations t.solves_first t.solves_second),
            ),
          ),
        ),
      );
    }
start_rests tables f w (Present test p q) c o z off free =
    let n = c.next in
    let m = c.register + registers tables p in
    let vs = pos 0 ∷ pos 0 ∷ formula_value f w (Holds test c.wires) ∷ pos 0 ∷ pos 0 ∷ [] in
    let w0 = own n vs w in
    let a = start tables p (part_context (n + 3) 5 c) in
    let d = other_context (n + 4) m a c in
    let b = start tables q d in
    let out = outside_part (n + 3) 5 c o (omega arith) in
    let i = start_inside tables p (part_context (n + 3) 5 c) out in
    let grows = i.grows in
    let g0 = own_agrees n vs w in
    let x = start_rests tables f w0 p (part_context (n + 3) 5 c) out (zero_at n w w0 g0 o.some z) (ap is_true (own_at n 3 vs w)) (at n c.hold w w0 false g0 o.hold free) in
    let u = x.values in
    let ou = one_solved f w n 5 vs a u (omega arith) x.same in
    let outd = outside_other (n + 4) m (n + 5) a c o i (omega arith) (omega (arith, grows)) in
    let ib = start_inside tables q d outd in
    let gb = ib.grows in
    let y0 = start_rests tables f u q d outd (zero_at n w u ou.same o.some z) (ap is_true (ou.own 4 (omega arith))) (at n c.hold w u false ou.same o.hold free) in
    let jn = joining f u (writes0 p) (writes0 q) (n + 4) (n + 5) a b i ib (omega (arith, grows, gb)) y0 in
    let y = jn.solution in
    let v = y.values in
    let t = two_solved f w n 5 vs a b (omega arith) i x y in
    let one = t.one in
    let g = one.same in
    let zv = zero_at n w v g o.some z in
    let hold = at n c.hold w v false g o.hold free in
    let sa = start_silent tables f v p (part_context (n + 3) 5 c) zv t.solves_first (ap is_true (one.own 3 (omega arith))) hold in
    let sb = start_silent tables f v q d zv t.solves_second (ap is_true (one.own 4 (omega arith))) hold in
    record {
      values = v;
      same = g;
      solves = (
        one.first ∙ max_zero v a.status b.status (sa.quiet).status (sb.quiet).status,
        (
          one.own 2 (omega arith) ∙ sym (value_agrees n f w v (Holds test c.wires) g o.wires),
          (
            one.own 3 (omega arith) ∙ and_zero w v n c.go (n + 2) g o.go off,
            (
              one.own 4 (omega arith) ∙ and_not_zero w v n c.go (n + 2) g o.go off,
              satisfies_append f v (joins (n + 4) b.next a.variables b.variables (both_write (writes0 p) (writes0 q))) (a.equations ++ b.equations) jn.joins (satisfies_append f v a.equations b.equations t.solves_first t.solves_second),
            ),
          ),
        ),
      );
    }
start_rests tables f w (Seq p q) c o z off free =
    let n = c.next in
    let m = c.register + registers tables p in
    let vs = pos 0 ∷ pos 0 ∷ pos 0 ∷ [] in
    let w0 = own n vs w in
    let k = o.go in
    let a = start tables p (part_context c.go 3 c) in
    let d = start_context (n + 2) m a c in
    let b = starting_if (ends0 p) (start tables q d) d in
    let out = outside_part c.go 3 c o (omega (arith, k)) in
    let i = start_inside tables p (part_context c.go 3 c) out in
    let grows = i.grows in
    let g0 = own_agrees n vs w in
    let x = start_rests tables f w0 p (part_context c.go 3 c) out (zero_at n w w0 g0 o.some z) (at n c.go w w0 false g0 o.go off) (at n c.hold w w0 false g0 o.hold free) in
    let u = x.values in
    let ou = one_solved f w n 3 vs a u (omega arith) x.same in
    let zu = zero_at n w u ou.same o.some z in
    let y = rests_if f u a.next (ends0 p) (start tables q d) d (start_rests tables f u q d (outside_start (n + 2) m (n + 3) a c o i (omega arith) (omega (arith, grows))) zu (ap is_true (ou.own 2 (omega arith))) (ap is_true zu)) in
    let v = y.values in
    let t = two_solved f w n 3 vs a b (omega arith) i x y in
    let one = t.one in
    let g = one.same in
    let zv = zero_at n w v g o.some z in
    let sa = start_silent tables f v p (part_context c.go 3 c) zv t.solves_first (at n c.go w v false g o.go off) (at n c.hold w v false g o.hold free) in
    let sb = silent_if f v (told v a.variables) (ends0 p) (start tables q d) d zv t.solves_second (λ j. start_silent tables f v q d zv j (ap is_true (one.own 2 (omega arith))) (ap is_true zv)) in
    record {
      values = v;
      same = g;
      solves = (
        one.first ∙ max_zero v a.status b.status (sa.quiet).status (sb.quiet).status,
        (
          one.own 2 (omega arith) ∙ sym (ap (λ s. of_bool (to_nat s == 1)) (sa.quiet).status),
          satisfies_append f v a.equations b.equations t.solves_first t.solves_second,
        ),
      );
    }
start_rests tables f w (Loop p) c o z off free = start_rests tables f w p c o z off free
start_rests tables f w (Par p q) c o z off free =
    let n = c.next in
    let vs = pos 0 ∷ pos 0 ∷ pos 0 ∷ pos 0 ∷ pos 0 ∷ [] in
    let w0 = own n vs w in
    let i = o.go in
    let j = o.hold in
    let a = start tables p (branch_context c) in
    let b = start tables q (second_branch tables p c a) in
    let out = outside_with c.go c.hold n 5 c.register c o (omega (arith, i)) (omega (arith, j)) (omega arith) in
    let ia = start_inside tables p (branch_context c) out in
    let grows = ia.grows in
    let g0 = own_agrees n vs w in
    let x = start_rests tables f w0 p (branch_context c) out (zero_at n w w0 g0 o.some z) (at n c.go w w0 false g0 o.go off) (at n c.hold w w0 false g0 o.hold free) in
    let u = x.values in
    let ou = one_solved f w n 5 vs a u (omega arith) x.same in
    let gu = ou.same in
    let out2 : Outside (second_branch tables p c a) = record { some = omega (arith, grows); go = omega (arith, grows, i); hold = omega (arith, grows, j); keep = omega (arith, grows); wires = wires_more n a.next c.wires (omega (arith, grows)) o.wires } in
    let y = start_rests tables f u q (second_branch tables p c a) out2 (zero_at n w u gu o.some z) (at n c.go w u false gu o.go off) (at n c.hold w u false gu o.hold free) in
    let v = y.values in
    let t = two_solved f w n 5 vs a b (omega arith) ia x y in
    let one = t.one in
    let g = one.same in
    let zv = zero_at n w v g o.some z in
    let go = at n c.go w v false g o.go off in
    let hold = at n c.hold w v false g o.hold free in
    let sa = start_silent tables f v p (branch_context c) zv t.solves_first go hold in
    let sb = start_silent tables f v q (second_branch tables p c a) zv t.solves_second go hold in
    let two_off : is_on v (n + 2) ≡ false = ap is_true (one.own 2 (omega arith)) in
    record {
      values = v;
      same = g;
      solves = (
        one.first ∙ sym (ap (λ s. of_bool (is_on v c.keep && s)) two_off ∙ ap of_bool (gone (is_on v c.keep))),
        (
          one.own 1 (omega arith) ∙ sym (ap (λ s. of_bool (to_nat s == 2)) (one.own 3 (omega arith))),
          (
            one.own 2 (omega arith) ∙ sym (ap₂ (λ s r. of_bool (s || is_true r)) hold (one.own 1 (omega arith))),
            (
              one.own 3 (omega arith) ∙ max_zero v a.status b.status (sa.quiet).status (sb.quiet).status,
              satisfies_append f v a.equations b.equations t.solves_first t.solves_second,
            ),
          ),
        ),
      );
    } where
      gone : (s : Bool) → s && false ≡ false
      gone true = refl
      gone false = refl
start_rests tables f w (Trap p) c o z off free =
    let n = c.next in
    let vs = pos 0 ∷ [] in
    let w0 = own n vs w in
    let k = o.go in
    let a = start tables p (part_context c.go 1 c) in
    let g0 = own_agrees n vs w in
    let x = start_rests tables f w0 p (part_context c.go 1 c) (outside_part c.go 1 c o (omega (arith, k))) (zero_at n w w0 g0 o.some z) (at n c.go w w0 false g0 o.go off) (at n c.hold w w0 false g0 o.hold free) in
    let v = x.values in
    let one = one_solved f w n 1 vs a v (omega arith) x.same in
    let g = one.same in
    let sa = start_silent tables f v p (part_context c.go 1 c) (zero_at n w v g o.some z) x.solves (at n c.go w v false g o.go off) (at n c.hold w v false g o.hold free) in
    record { values = v; same = g; solves = (one.first ∙ sym (ap of_trap (sa.quiet).status), x.solves) }
start_rests tables f w (Exit d) c o z off free =
    let n = c.next in
    let vs = pos 0 ∷ [] in
    let g = own_agrees n vs w in
    record { values = own n vs w; same = g; solves = (own_first n vs w ∙ status_zero w (own n vs w) n c.go (suc (suc d)) g o.go off, tt) }
start_rests tables f w (Abort weak false t p) c o z off free = start_rests tables f w p c o z off free
start_rests tables f w (Abort true true t p) c o z off free =
    let n = c.next in
    let vs = pos 0 ∷ formula_value f w (Holds t c.wires) ∷ pos 0 ∷ pos 0 ∷ pos 0 ∷ [] in
    let w0 = own n vs w in
    let i = o.go in
    let j = o.hold in
    let a = start tables p (weak_context c) in
    let g0 = own_agrees n vs w in
    let x = start_rests tables f w0 p (weak_context c) (outside_with c.go c.hold n 5 c.register c o (omega (arith, i)) (omega (arith, j)) (omega arith)) (zero_at n w w0 g0 o.some z) (at n c.go w w0 false g0 o.go off) (at n c.hold w w0 false g0 o.hold free) in
    let v = x.values in
    let one = one_solved f w n 5 vs a v (omega arith) x.same in
    let g = one.same in
    let hold = at n c.hold w v false g o.hold free in
    let sa = start_silent tables f v p (weak_context c) (zero_at n w v g o.some z) x.solves (at n c.go w v false g o.go off) hold in
    let two_off : is_on v (n + 2) ≡ false = ap is_true (one.own 2 (omega arith)) in
    record {
      values = v;
      same = g;
      solves = (
        one.first ∙ sym (ap (λ s. of_bool (is_on v c.keep && s)) two_off ∙ ap of_bool (gone (is_on v c.keep))),
        (
          one.own 1 (omega arith) ∙ sym (value_agrees n f w v (Holds t c.wires) g o.wires),
          (
            one.own 2 (omega arith) ∙ sym (ap₂ (λ s r. of_bool (s || is_true r)) hold (one.own 4 (omega arith))),
            (
              one.own 3 (omega arith) ∙ sym (ap (λ s. cond (is_on v (n + 1)) (of_weak_abort s) s) (sa.quiet).status ∙ either (is_on v (n + 1))),
              (one.own 4 (omega arith) ∙ sym (ap (λ s. of_bool (to_nat s == 2)) (one.own 3 (omega arith))), x.solves),
            ),
          ),
        ),
      );
    } where
      gone : (s : Bool) → s && false ≡ false
      gone true = refl
      gone false = refl

      either : (b : Bool) → cond b (of_weak_abort (pos 0)) (pos 0) ≡ pos 0
      either true = refl
      either false = refl
start_rests tables f w (Abort false true t p) c o z off free =
    let n = c.next in
    let vs = formula_value f w (Holds t c.wires) ∷ pos 0 ∷ pos 0 ∷ pos 0 ∷ pos 0 ∷ pos 0 ∷ pos 1 ∷ [] in
    let w0 = own n vs w in
    let j = o.hold in
    let k = o.keep in
    let a = start tables p (tested_context c) in
    let g0 = own_agrees n vs w in
    let x = start_rests tables f w0 p (tested_context c) (outside_with (n + 1) c.hold c.keep 7 c.register c o (omega arith) (omega (arith, j)) (omega (arith, k))) (zero_at n w w0 g0 o.some z) (ap is_true (own_at n 1 vs w)) (at n c.hold w w0 false g0 o.hold free) in
    let v = x.values in
    let one = one_solved f w n 7 vs a v (omega arith) x.same in
    let g = one.same in
    let hold = at n c.hold w v false g o.hold free in
    let sa = start_silent tables f v p (tested_context c) (zero_at n w v g o.some z) x.solves (ap is_true (one.own 1 (omega arith))) hold in
    let two_off : is_on v (n + 2) ≡ false = ap is_true (one.own 2 (omega arith)) in
    let three_off : is_on v (n + 3) ≡ false = ap is_true (one.own 3 (omega arith)) in
    record {
      values = v;
      same = g;
      solves = (
        one.first ∙ sym (value_agrees n f w v (Holds t c.wires) g o.wires),
        (
          one.own 1 (omega arith) ∙ and_not_zero w v n c.go n g o.go off,
          (
            one.own 2 (omega arith) ∙ and_zero w v n c.go n g o.go off,
            (
              one.own 3 (omega arith) ∙ sym (ap (λ s. of_bool (s && is_on v c.go)) two_off),
              (
                one.own 4 (omega arith) ∙ sym (ap (λ s. cond s (v (n + 6)) (v a.status)) three_off ∙ (sa.quiet).status),
                (
                  one.own 5 (omega arith) ∙ sym (ap₂ (λ s r. of_bool (s || r)) hold three_off),
                  (one.own 6 (omega arith), x.solves),
                ),
              ),
            ),
          ),
        ),
      );
    }
start_rests tables f w (Suspend armed t p) c o z off free = start_rests tables f w p c o z off free
start_rests tables f w (Local s last p) c o z off free =
    let n = c.next in
    let vs = pos 0 ∷ pos 0 ∷ pos 0 ∷ pos 0 ∷ pos 0 ∷ pos 0 ∷ [] in
    let w0 = own n vs w in
    let a = start tables p (local_context tables s c) in
    let out = outside_local tables s c o in
    let i = start_inside tables p (local_context tables s c) out in
    let grows = i.grows in
    let g0 = own_agrees n vs w in
    let x = start_rests tables f w0 p (local_context tables s c) out (zero_at n w w0 g0 o.some z) (at n c.go w w0 false g0 o.go off) (at n c.hold w w0 false g0 o.hold free) in
    let u = x.values in
    let fold = fold_emits (fold_info tables s) s a.next 0 (n + 2) a.emits in
    let y = fold_solution f u (fold_info tables s) s a.next 0 (n + 2) a.emits i.emits (omega (arith, grows)) (omega (arith, grows)) in
    let v = y.values in
    let one = one_solved f w n 6 vs a v (omega arith) (agree_twice (n + 6) a.next w0 u v grows x.same y.same) in
    let g = one.same in
    let zv = zero_at n w v g o.some z in
    let hold = at n c.hold w v false g o.hold free in
    let ha = satisfies_still a.next f u v a.equations y.same i.equations x.solves in
    let sa = start_silent tables f v p (local_context tables s c) zv ha (at n c.go w v false g o.go off) hold in
    let zu = zero_at n w u (agree_twice n (n + 6) w w0 u (omega arith) g0 x.same) o.some z in
    let says = fold_says f v (fold_info tables s) s a.next 0 (n + 2) a.emits y.solves in
    let none = (sa.quiet).emits in
    let off_zero : is_on v 0 ≡ false = ap is_true zv in
    let some_off : is_on v fold.some ≡ false = says.some ∙ ap₂ (λ b l. b || is_emitted l s) off_zero none in
    let three_off : is_on v (n + 3) ≡ false = ap is_true (one.own 3 (omega arith)) in
    record {
      values = v;
      same = g;
      solves = (
        one.first ∙ sym (y.is_bool (zu ∙ sym (ap of_bool (ap is_true zu))) ∙ ap of_bool some_off),
        (
          one.own 1 (omega arith) ∙ sym (says.value ∙ ap₂ (λ b l. folded_from (fold_info tables s) b (v (n + 2)) (values_of s l)) off_zero none ∙ one.own 2 (omega arith)),
          (
            one.own 2 (omega arith) ∙ sym (first_is f v (signal_at tables s).kind),
            (
              one.own 3 (omega arith) ∙ sym (ap (λ b. of_bool (to_nat b == 2)) (sa.quiet).status),
              (
                one.own 4 (omega arith) ∙ sym (ap (λ b. of_bool (is_on v c.keep && b)) three_off ∙ ap of_bool (gone (is_on v c.keep))),
                (
                  one.own 5 (omega arith) ∙ sym (ap (λ b. of_bool (is_on v c.keep && b)) hold ∙ ap of_bool (gone (is_on v c.keep))),
                  satisfies_append f v fold.equations a.equations y.solves ha,
                ),
              ),
            ),
          ),
        ),
      );
    } where
      gone : (s : Bool) → s && false ≡ false
      gone true = refl
      gone false = refl
start_rests tables f w (Send ch e) c o z off free =
    let n = c.next in
    let vs = pos 0 ∷ pos 0 ∷ formula_value f w (Value e c.wires) ∷ [] in
    let g = own_agrees n vs w in
    let v = own n vs w in
    record { values = v; same = g; solves = (own_first n vs w ∙ status_zero w v n c.go 1 g o.go off, (own_at n 1 vs w ∙ and_zero w v n c.go c.keep g o.go off, (own_at n 2 vs w ∙ sym (value_agrees n f w v (Value e c.wires) g o.wires), tt))) }
start_rests tables f w (Receive ch) c o z off free =
    let n = c.next in
    let vs = pos 0 ∷ pos 0 ∷ [] in
    let g = own_agrees n vs w in
    let v = own n vs w in
    record { values = v; same = g; solves = (own_first n vs w ∙ status_zero w v n c.go 1 g o.go off, (own_at n 1 vs w ∙ and_zero w v n c.go c.keep g o.go off, tt)) }
start_rests tables f w (SendWaits ch v) c o z off free = record { values = w; same = record { at = λ k lt. refl }; solves = tt }
start_rests tables f w (Sent ch) c o z off free = record { values = w; same = record { at = λ k lt. refl }; solves = tt }
start_rests tables f w (ReceiveWaits ch) c o z off free = record { values = w; same = record { at = λ k lt. refl }; solves = tt }
start_rests tables f w (Received ch) c o z off free = record { values = w; same = record { at = λ k lt. refl }; solves = tt }
