-- A resuming copy that doesn't tick, held or not, has values that satisfy its equations.
use Rattle.std.proofs.Common.{◌≡◌, ℕ, suc, ◌+◌, ◌<◌, ◌==◌, ℤ, pos, Bool, true, false, ◌&&◌, ◌||◌, not, cond, [], ◌∷◌, ◌++◌, refl, sym, ap, ap₂, ◌∙◌, arith, Option, Some, None}
use Rattle.java_values.specs.Arithmetic.{is_true}
use Rattle.kernel_terms.specs.declared.tables.Tables.{Tables}
use Rattle.kernel_terms.specs.TableEntries.{signal_at}
use Rattle.kernel_terms.specs.Expressions.{Expression, Test}
use Rattle.kernel_terms.specs.Statements.{Stmt, Nothing, Pause, Emit, Assign, If, Present, Seq, Loop, Par, Trap, Exit, Abort, Suspend, Local, Send, Receive, SendWaits, Sent, ReceiveWaits, Received}
use Rattle.kernel_terms.specs.MayEnd.{ends1}
use Rattle.kernel_rules.specs.definitions.Signals.{is_emitted, values_of}
use Rattle.kernel_rules.specs.definitions.Expressions.{holds}
use Rattle.kernel_rules.specs.definitions.Registers.{registers}
use Rattle.java_values.specs.Arithmetic.{of_bool}
use Rattle.surf_graph.specs.definitions.Formulas.{Holds, Satisfies, formula_value, to_nat, is_on, of_trap, of_weak_abort, told, told_env}
use Rattle.surf_graph.specs.definitions.Copies.{fold_info, Context, below, from, nothing_built, starting_if, other_context, joins, both_write, start_context, part_context, branch_context, second_branch, weak_context, tested_copy, local_context, fold_emits}
use Rattle.surf_graph.specs.definitions.StartingCopies.{start}
use Rattle.depth_graph.specs.definitions.ResumingCopies.{writes1, writes_behind}
use Rattle.surf_graph.specs.definitions.Tells.{Quiet}
use Rattle.surf_graph.proofs.SetValues.{truth_of}
use Rattle.surf_graph.proofs.Frames.{wires_more, Agreeing, agree_twice, satisfies_still, value_agrees, own, own_agrees, own_at, own_first}
use Rattle.surf_graph.proofs.StartInside.{inside_pair, Outside, outside_part, outside_other, outside_start, outside_with, outside_local, start_inside, inside_if}
use Rattle.surf_graph.proofs.StartSilent.{start_silent, silent_if}
use Rattle.surf_graph.proofs.Joining.{joining}
use Rattle.surf_graph.proofs.Solutions.{Solution, one_solved, two_solved, zero_at, fold_solution}
use Rattle.surf_graph.proofs.Locals.{fold_says, folded_from}
use Rattle.kernel_rules.specs.definitions.Registers.{live}
use Rattle.kernel_terms.specs.Expressions.{Literal}
use Rattle.java_values.specs.declared.kind.Kind.TheVariants as kind
use Rattle.java_values.specs.declared.kind.Kind.{Kind}
use Rattle.surf_graph.specs.definitions.Copies.{behind, turn_own, own_registers}
use Rattle.depth_graph.specs.definitions.ResumingCopies.{resume, waiting_copy, last_formula}
use Rattle.surf_graph.proofs.Parts.{by_cases}
use Rattle.surf_graph.proofs.StartRests.{satisfies_append, rests_if, max_zero, start_rests}
use Rattle.depth_graph.proofs.ResumeInside.{resume_inside}
use Rattle.depth_graph.proofs.ResumeQuiet.{live_wire, first_idle, second_idle, tested_idle, resume_silent}
use Rattle.depth_graph.proofs.ResumeHeld.{resume_held}

-- a copy that doesn't tick: its part isn't live or `go` is off, and `go` is off where it is held
pub record Idle (w : ℕ → ℤ) (c : Context) (alive : Bool) : Type 0 where
  pub idle : is_on w c.go && alive ≡ false
  pub free : is_on w c.hold ≡ true → is_on w c.go ≡ false

pub quiet_of : (tables : Tables) (f w : ℕ → ℤ) (p : Stmt) (c : Context) → w 0 ≡ pos 0 → Satisfies f w (resume tables p c).equations → Idle w c (live tables p c.register f) → Quiet w (told w c.wires.variables) (resume tables p c)
quiet_of tables f w p c z h s =
    by_cases (is_on w c.hold)
    (λ e. let u = resume_held tables f w p c z h (s.free e) e in u.quiet)
    (λ e. let u = resume_silent tables f w p c z h s.idle e in u.quiet)

pub idle_at : (n : ℕ) (w v : ℕ → ℤ) (c d : Context) (alive : Bool) → Agreeing n w v → c.go < n → c.hold < n → d.go ≡ c.go → d.hold ≡ c.hold → Idle w c alive → Idle v d alive
idle_at n w v c d alive g lg lh eg eh s =
    let a : is_on v d.go ≡ is_on w c.go = ap (is_on v) eg ∙ ap is_true (g.at c.go lg) in
    let b : is_on v d.hold ≡ is_on w c.hold = ap (is_on v) eh ∙ ap is_true (g.at c.hold lh) in
    record { idle = ap (λ x. x && alive) a ∙ s.idle; free = λ e. a ∙ s.free (sym b ∙ e) }

pub idle_first : (w : ℕ → ℤ) (c : Context) (a b : Bool) → Idle w c (a || b) → Idle w c a
idle_first w c a b s = record { idle = first_idle (is_on w c.go) a b s.idle; free = s.free }

pub idle_second : (w : ℕ → ℤ) (c : Context) (a b : Bool) → Idle w c (a || b) → Idle w c b
idle_second w c a b s = record { idle = second_idle (is_on w c.go) a b s.idle; free = s.free }

-- two equal values of a wire that is a truth value
pub bool_at : (w v : ℕ → ℤ) (n a b : ℕ) → Agreeing n w v → a < n → b < n → of_bool (is_on w a && is_on w b) ≡ of_bool (is_on v a && is_on v b)
bool_at w v n a b g la lb = sym (ap₂ (λ x y. of_bool (is_true x && is_true y)) (g.at a la) (g.at b lb))

pub or_at : (v : ℕ → ℤ) (a b : ℕ) (x y : Bool) → is_on v a ≡ x → is_on v b ≡ y → of_bool (x || y) ≡ of_bool (is_on v a || is_on v b)
or_at v a b x y h k = sym (ap₂ (λ i j. of_bool (i || j)) h k)

pair_rests : (tables : Tables) (f w : ℕ → ℤ) (p q : Stmt) (c : Context) → Outside c → w 0 ≡ pos 0 → (any : Expression)
    → Idle w c (live tables p c.register f || live tables q (c.register + registers tables p) f)
    → ((w0 : ℕ → ℤ) (d : Context) → Outside d → w0 0 ≡ pos 0 → Idle w0 d (live tables p d.register f) → Solution f w0 d.next (resume tables p d))
    → ((w0 : ℕ → ℤ) (d : Context) → Outside d → w0 0 ≡ pos 0 → Idle w0 d (live tables q d.register f) → Solution f w0 d.next (resume tables q d))
    → Solution f w c.next (resume tables (If any p q) c)
pair_rests tables f w p q c o z any s first second =
    let n = c.next in
    let m = c.register + registers tables p in
    let x1 = live tables p c.register f in
    let x2 = live tables q m f in
    let vs = pos 0 ∷ of_bool (x1 || x2) ∷ [] in
    let w0 = own n vs w in
    let k = o.go in
    let h0 = o.hold in
    let d0 = part_context c.go 2 c in
    let a = resume tables p d0 in
    let d = other_context c.go m a c in
    let b = resume tables q d in
    let out = outside_part c.go 2 c o (omega (arith, k)) in
    let i = resume_inside tables p d0 out in
    let grows = i.grows in
    let g0 = own_agrees n vs w in
    let x = first w0 d0 out (zero_at n w w0 g0 o.some z) (idle_at n w w0 c d0 x1 g0 k h0 refl refl (idle_first w c x1 x2 s)) in
    let u = x.values in
    let ou = one_solved f w n 2 vs a u (omega arith) x.same in
    let outd = outside_other c.go m (n + 2) a c o i (omega arith) (omega (arith, grows, k)) in
    let ib = resume_inside tables q d outd in
    let y0 = second u d outd (zero_at n w u ou.same o.some z) (idle_at n w u c d x2 ou.same k h0 refl refl (idle_second w c x1 x2 s)) in
    let jn = joining f u (writes1 p) (writes1 q) b.live (n + 2) a b i ib ib.live y0 in
    let y = jn.solution in
    let v = y.values in
    let t = two_solved f w n 2 vs a b (omega arith) i x y in
    let one = t.one in
    let g = one.same in
    let zv = zero_at n w v g o.some z in
    let sa = quiet_of tables f v p d0 zv t.solves_first (idle_at n w v c d0 x1 g k h0 refl refl (idle_first w c x1 x2 s)) in
    let sb = quiet_of tables f v q d zv t.solves_second (idle_at n w v c d x2 g k h0 refl refl (idle_second w c x1 x2 s)) in
    record {
      values = v;
      same = g;
      solves = (
        one.first ∙ max_zero v a.status b.status sa.status sb.status,
        (
          one.own 1 (omega arith) ∙ or_at v a.live b.live x1 x2 (live_wire tables f v p d0 zv t.solves_first) (live_wire tables f v q d zv t.solves_second),
          satisfies_append f v (joins b.live b.next a.variables b.variables (both_write (writes1 p) (writes1 q))) (a.equations ++ b.equations) jn.joins (satisfies_append f v a.equations b.equations t.solves_first t.solves_second),
        ),
      );
    }

waiting_rests : (f w : ℕ → ℤ) (c : Context) → Outside c → Idle w c (is_true (f c.register)) → Solution f w c.next (waiting_copy c)
waiting_rests f w c o s =
    let n = c.next in
    let r = c.register in
    let vs = f r ∷ f (r + 1) ∷ f (r + 2) ∷ pos 0 ∷ pos 0 ∷ pos 0 ∷ pos 0 ∷ pos 0 ∷ of_bool (is_on w c.hold && is_on w c.keep) ∷ pos 0 ∷ [] in
    let v = own n vs w in
    let g = own_agrees n vs w in
    let three : is_on v (n + 3) ≡ false = ap is_true (own_at n 3 vs w) in
    let four : is_on v (n + 4) ≡ false = ap is_true (own_at n 4 vs w) in
    record {
      values = v;
      same = g;
      solves = (
        own_first n vs w,
        (
          own_at n 1 vs w,
          (
            own_at n 2 vs w,
            (
              own_at n 3 vs w ∙ sym (ap₂ (λ x y. of_bool (x && y)) (ap is_true (g.at c.go o.go)) (ap is_true (own_first n vs w)) ∙ ap of_bool s.idle),
              (
                own_at n 4 vs w ∙ sym (ap (λ x. of_bool (x && not (is_on v (n + 1)))) three),
                (
                  own_at n 5 vs w ∙ sym (ap (λ x. cond x (pos 1) (pos 0)) three),
                  (
                    own_at n 6 vs w ∙ sym (ap (λ x. cond x (pos 2) (pos 0)) four),
                    (
                      own_at n 7 vs w ∙ max_zero v (n + 5) (n + 6) (own_at n 5 vs w) (own_at n 6 vs w),
                      (
                        own_at n 8 vs w ∙ bool_at w v n c.hold c.keep g o.hold o.keep,
                        (own_at n 9 vs w ∙ sym (ap (λ x. of_bool (x && is_on v c.keep)) four), tt),
                      ),
                    ),
                  ),
                ),
              ),
            ),
          ),
        ),
      );
    }

pub last_value_is : (f w v : ℕ → ℤ) (k : Option Kind) (r : ℕ) → formula_value f w (last_formula k r) ≡ formula_value f v (last_formula k r)
last_value_is f w v None r = refl
last_value_is f w v (Some k) r = refl

nothing_rests : (f w : ℕ → ℤ) (c : Context) → Solution f w c.next (nothing_built c)
nothing_rests f w c = record { values = w; same = record { at = λ k lt. refl }; solves = tt }

held_keep : (a b c : Bool) → b ≡ c → a && c ≡ a && b
held_keep a b c e = ap (λ x. a && x) (sym e)

pub or_none : (a : Bool) → a || false ≡ a
or_none true = refl
or_none false = refl

pub gone : (a : Bool) → a && false ≡ false
gone true = refl
gone false = refl

-- a strong abort or a suspend, of whose part `live` is the wire
tested_rests : (tables : Tables) (f w : ℕ → ℤ) (test : Test) (p : Stmt) (code inner : ℕ) (c : Context) → Outside c → w 0 ≡ pos 0 → Idle w c (live tables p c.register f) → inner < c.next + 7
    → ((w0 : ℕ → ℤ) → is_on w0 (c.next + 5) ≡ is_on w c.hold → is_on w0 c.hold ≡ is_on w c.hold → is_on w0 inner ≡ is_on w c.hold)
    → ((w0 : ℕ → ℤ) (d : Context) → Outside d → w0 0 ≡ pos 0 → Idle w0 d (live tables p d.register f) → Solution f w0 d.next (resume tables p d))
    → Solution f w c.next (tested_copy test (resume tables p (record { go = c.next + 1; hold = inner; keep = c.keep; wires = c.wires; register = c.register; next = c.next + 7 })).live code c (resume tables p (record { go = c.next + 1; hold = inner; keep = c.keep; wires = c.wires; register = c.register; next = c.next + 7 })))
tested_rests tables f w test p code inner c o z s lt holds_at body =
    let n = c.next in
    let alive = live tables p c.register f in
    let t = holds (told_env w c.wires) test in
    let go = is_on w c.go in
    let vs = of_bool t ∷ of_bool (go && not t) ∷ of_bool (go && t) ∷ pos 0 ∷ pos 0 ∷ of_bool (is_on w c.hold) ∷ pos (suc code) ∷ [] in
    let w0 = own n vs w in
    let d0 : Context = record { go = n + 1; hold = inner; keep = c.keep; wires = c.wires; register = c.register; next = n + 7 } in
    let a = resume tables p d0 in
    let keep = o.keep in
    let out = outside_with (n + 1) inner c.keep 7 c.register c o (omega arith) lt (omega (arith, keep)) in
    let g0 = own_agrees n vs w in
    let part_idle : (v : ℕ → ℤ) → is_on v (n + 1) ≡ go && not t → is_on v inner ≡ is_on w c.hold → Idle v d0 alive =
    λ v x y. record { idle = ap (λ b. b && alive) x ∙ tested_idle go (not t) alive s.idle; free = λ e. x ∙ ap (λ b. b && not t) (s.free (sym y ∙ e)) } in
    let x = body w0 d0 out (zero_at n w w0 g0 o.some z) (part_idle w0 (ap is_true (own_at n 1 vs w) ∙ truth_of (go && not t))
    (holds_at w0 (ap is_true (own_at n 5 vs w) ∙ truth_of (is_on w c.hold)) (ap is_true (g0.at c.hold o.hold)))) in
    let v = x.values in
    let one = one_solved f w n 7 vs a v (omega arith) x.same in
    let g = one.same in
    let go_v : is_on v c.go ≡ go = ap is_true (g.at c.go o.go) in
    let hold_v : is_on v c.hold ≡ is_on w c.hold = ap is_true (g.at c.hold o.hold) in
    let t_v : is_on v n ≡ t = ap is_true one.first ∙ truth_of t in
    let zv = zero_at n w v g o.some z in
    let alive_v = live_wire tables f v p d0 zv x.solves in
    let three : is_on v (n + 3) ≡ false = ap is_true (one.own 3 (omega arith)) in
    let five : is_on v (n + 5) ≡ is_on w c.hold = ap is_true (one.own 5 (omega arith)) ∙ truth_of (is_on w c.hold) in
    let sa = quiet_of tables f v p d0 zv x.solves (part_idle v (ap is_true (one.own 1 (omega arith)) ∙ truth_of (go && not t)) (holds_at v five hold_v)) in
    let two : is_on v (n + 2) ≡ go && t = ap is_true (one.own 2 (omega arith)) ∙ truth_of (go && t) in
    record {
      values = v;
      same = g;
      solves = (
        one.first ∙ sym (value_agrees n f w v (Holds test c.wires) g o.wires),
        (
          one.own 1 (omega arith) ∙ sym (ap₂ (λ i j. of_bool (i && not j)) go_v t_v),
          (
            one.own 2 (omega arith) ∙ sym (ap₂ (λ i j. of_bool (i && j)) go_v t_v),
            (
              one.own 3 (omega arith) ∙ sym (ap₂ (λ i j. of_bool (i && j)) two alive_v ∙ ap of_bool (tested_idle go t alive s.idle)),
              (
                one.own 4 (omega arith) ∙ sym (ap (λ i. cond i (v (n + 6)) (v a.status)) three ∙ sa.status),
                (
                  one.own 5 (omega arith) ∙ sym (ap₂ (λ i j. of_bool (i || j)) hold_v three ∙ ap of_bool (or_none (is_on w c.hold))),
                  (one.own 6 (omega arith), x.solves),
                ),
              ),
            ),
          ),
        ),
      );
    }

pub resume_rests : (tables : Tables) (f w : ℕ → ℤ) (p : Stmt) (c : Context) → Outside c → w 0 ≡ pos 0 → Idle w c (live tables p c.register f) → Solution f w c.next (resume tables p c)
resume_rests tables f w Nothing c o z s = nothing_rests f w c
resume_rests tables f w Pause c o z s =
    let n = c.next in
    let vs = f c.register ∷ pos 0 ∷ pos 0 ∷ of_bool (is_on w c.hold && is_on w c.keep) ∷ [] in
    let v = own n vs w in
    let g = own_agrees n vs w in
    let one : is_on v (n + 1) ≡ false = ap is_true (own_at n 1 vs w) in
    record {
      values = v;
      same = g;
      solves = (
        own_first n vs w,
        (
          own_at n 1 vs w ∙ sym (ap₂ (λ x y. of_bool (x && y)) (ap is_true (g.at c.go o.go)) (ap is_true (own_first n vs w)) ∙ ap of_bool s.idle),
          (
            own_at n 2 vs w ∙ sym (ap (λ x. cond x (pos 1) (pos 0)) one),
            (own_at n 3 vs w ∙ bool_at w v n c.hold c.keep g o.hold o.keep, tt),
          ),
        ),
      );
    }
resume_rests tables f w (Emit s e) c o z i = nothing_rests f w c
resume_rests tables f w (Assign y e) c o z i = nothing_rests f w c
resume_rests tables f w (If e p q) c o z s = pair_rests tables f w p q c o z e s (λ w0 d a b i. resume_rests tables f w0 p d a b i) (λ w0 d a b i. resume_rests tables f w0 q d a b i)
resume_rests tables f w (Present t p q) c o z s = pair_rests tables f w p q c o z (Literal kind.Int (pos 0)) s (λ w0 d a b i. resume_rests tables f w0 p d a b i) (λ w0 d a b i. resume_rests tables f w0 q d a b i)
resume_rests tables f w (Seq p q) c o z s =
    let n = c.next in
    let m = c.register + registers tables p in
    let x1 = live tables p c.register f in
    let x2 = live tables q m f in
    let vs = pos 0 ∷ of_bool (x1 || x2) ∷ pos 0 ∷ pos 0 ∷ pos 0 ∷ [] in
    let w0 = own n vs w in
    let k = o.go in
    let h0 = o.hold in
    let d0 = part_context c.go 5 c in
    let a = resume tables p d0 in
    let d = start_context (n + 4) m a c in
    let b = starting_if (ends1 p) (start tables q d) d in
    let x = behind (n + 2) a.live (below m a.sets) (from m b.sets) (turn_own (n + 4) a) a b in
    let dy = other_context c.go m x c in
    let y = resume tables q dy in
    let out = outside_part c.go 5 c o (omega (arith, k)) in
    let ia = resume_inside tables p d0 out in
    let ga = ia.grows in
    let g0 = own_agrees n vs w in
    let s1 = resume_rests tables f w0 p d0 out (zero_at n w w0 g0 o.some z) (idle_at n w w0 c d0 x1 g0 k h0 refl refl (idle_first w c x1 x2 s)) in
    let u1 = s1.values in
    let o1 = one_solved f w n 5 vs a u1 (omega arith) s1.same in
    let z1 = zero_at n w u1 o1.same o.some z in
    let outd = outside_start (n + 4) m (n + 5) a c o ia (omega arith) (omega (arith, ga)) in
    let s2 = rests_if f u1 a.next (ends1 p) (start tables q d) d (start_rests tables f u1 q d outd z1 (ap is_true (o1.own 4 (omega arith))) (ap is_true z1)) in
    let u2 = s2.values in
    let t2 = two_solved f w n 5 vs a b (omega arith) ia s1 s2 in
    let o2 = t2.one in
    let ib = inside_if (ends1 p) (start tables q d) d outd (start_inside tables q d outd) in
    let gb = ib.grows in
    let la = ia.live in
    let sta = ia.status in
    let ix = inside_pair (n + 2) a.live m (n + 5) a.next (turn_own (n + 4) a) a b ia ib (omega arith) (omega arith) (omega (arith, la, gb)) (omega (arith, ga, gb), (omega (arith, sta, gb), tt)) in
    let outy = outside_other c.go m (n + 2) x c o ix (omega arith) (omega (arith, ga, gb, k)) in
    let iy = resume_inside tables q dy outy in
    let s30 = resume_rests tables f u2 q dy outy (zero_at n w u2 o2.same o.some z) (idle_at n w u2 c dy x2 o2.same k h0 refl refl (idle_second w c x1 x2 s)) in
    let jn = joining f u2 (writes_behind p q) (writes1 q) y.live (n + 2) x y ix iy iy.live s30 in
    let s3 = jn.solution in
    let v = s3.values in
    let one = one_solved f w n 5 vs a v (omega arith) (agree_twice (n + 5) b.next w0 u2 v (omega (arith, ga, gb)) (agree_twice (n + 5) a.next w0 u1 u2 ga s1.same s2.same) s3.same) in
    let g = one.same in
    let zv = zero_at n w v g o.some z in
    let ha = satisfies_still a.next f u1 v a.equations (agree_twice a.next b.next u1 u2 v (omega (arith, gb)) s2.same s3.same) ia.equations s1.solves in
    let hb = satisfies_still b.next f u2 v b.equations s3.same ib.equations s2.solves in
    let sa = quiet_of tables f v p d0 zv ha (idle_at n w v c d0 x1 g k h0 refl refl (idle_first w c x1 x2 s)) in
    let four : is_on v (n + 4) ≡ false = ap is_true (one.own 4 (omega arith)) in
    let sb = silent_if f v (told v a.variables) (ends1 p) (start tables q d) d zv hb (λ j. start_silent tables f v q d zv j four (ap is_true zv)) in
    let sy = quiet_of tables f v q dy zv s3.solves (idle_at n w v c dy x2 g k h0 refl refl (idle_second w c x1 x2 s)) in
    let hx : Satisfies f v x.equations = (
      one.own 2 (omega arith) ∙ max_zero v a.status b.status sa.status (sb.quiet).status,
      (one.own 4 (omega arith) ∙ sym (ap (λ i. of_bool (to_nat i == 1)) sa.status), satisfies_append f v a.equations b.equations ha hb),
    ) in
    record {
      values = v;
      same = g;
      solves = (
        one.first ∙ max_zero v (n + 2) y.status (one.own 2 (omega arith)) sy.status,
        (
          one.own 1 (omega arith) ∙ or_at v a.live y.live x1 x2 (live_wire tables f v p d0 zv ha) (live_wire tables f v q dy zv s3.solves),
          satisfies_append f v (joins y.live y.next x.variables y.variables (both_write (writes_behind p q) (writes1 q))) (x.equations ++ y.equations) jn.joins (satisfies_append f v x.equations y.equations hx s3.solves),
        ),
      );
    }
resume_rests tables f w (Loop p) c o z s =
    let n = c.next in
    let x1 = live tables p c.register f in
    let vs = pos 0 ∷ pos 0 ∷ pos 0 ∷ [] in
    let w0 = own n vs w in
    let k = o.go in
    let h0 = o.hold in
    let d0 = part_context c.go 3 c in
    let a = resume tables p d0 in
    let d = start_context (n + 2) c.register a c in
    let b = starting_if (ends1 p) (start tables p d) d in
    let out = outside_part c.go 3 c o (omega (arith, k)) in
    let i = resume_inside tables p d0 out in
    let grows = i.grows in
    let g0 = own_agrees n vs w in
    let x = resume_rests tables f w0 p d0 out (zero_at n w w0 g0 o.some z) (idle_at n w w0 c d0 x1 g0 k h0 refl refl s) in
    let u = x.values in
    let ou = one_solved f w n 3 vs a u (omega arith) x.same in
    let zu = zero_at n w u ou.same o.some z in
    let outd = outside_start (n + 2) c.register (n + 3) a c o i (omega arith) (omega (arith, grows)) in
    let y = rests_if f u a.next (ends1 p) (start tables p d) d (start_rests tables f u p d outd zu (ap is_true (ou.own 2 (omega arith))) (ap is_true zu)) in
    let v = y.values in
    let t = two_solved f w n 3 vs a b (omega arith) i x y in
    let one = t.one in
    let g = one.same in
    let zv = zero_at n w v g o.some z in
    let sa = quiet_of tables f v p d0 zv t.solves_first (idle_at n w v c d0 x1 g k h0 refl refl s) in
    let sb = silent_if f v (told v a.variables) (ends1 p) (start tables p d) d zv t.solves_second (λ j. start_silent tables f v p d zv j (ap is_true (one.own 2 (omega arith))) (ap is_true zv)) in
    record {
      values = v;
      same = g;
      solves = (
        one.first ∙ max_zero v a.status b.status sa.status (sb.quiet).status,
        (
          one.own 2 (omega arith) ∙ sym (ap (λ i. of_bool (to_nat i == 1)) sa.status),
          satisfies_append f v a.equations b.equations t.solves_first t.solves_second,
        ),
      );
    }
resume_rests tables f w (Par p q) c o z s =
    let n = c.next in
    let m = c.register + registers tables p in
    let x1 = live tables p c.register f in
    let x2 = live tables q m f in
    let hold = is_on w c.hold in
    let vs = of_bool (is_on w c.keep && hold) ∷ pos 0 ∷ of_bool hold ∷ pos 0 ∷ of_bool (x1 || x2) ∷ [] in
    let w0 = own n vs w in
    let k = o.go in
    let h0 = o.hold in
    let d0 = branch_context c in
    let a = resume tables p d0 in
    let d = second_branch tables p c a in
    let b = resume tables q d in
    let out = outside_with c.go c.hold n 5 c.register c o (omega (arith, k)) (omega (arith, h0)) (omega arith) in
    let ia = resume_inside tables p d0 out in
    let grows = ia.grows in
    let g0 = own_agrees n vs w in
    let x = resume_rests tables f w0 p d0 out (zero_at n w w0 g0 o.some z) (idle_at n w w0 c d0 x1 g0 k h0 refl refl (idle_first w c x1 x2 s)) in
    let u = x.values in
    let ou = one_solved f w n 5 vs a u (omega arith) x.same in
    let outd : Outside d = record { some = omega (arith, grows); go = omega (arith, grows, k); hold = omega (arith, grows, h0); keep = omega (arith, grows); wires = wires_more n a.next c.wires (omega (arith, grows)) o.wires } in
    let y = resume_rests tables f u q d outd (zero_at n w u ou.same o.some z) (idle_at n w u c d x2 ou.same k h0 refl refl (idle_second w c x1 x2 s)) in
    let v = y.values in
    let t = two_solved f w n 5 vs a b (omega arith) ia x y in
    let one = t.one in
    let g = one.same in
    let zv = zero_at n w v g o.some z in
    let sa = quiet_of tables f v p d0 zv t.solves_first (idle_at n w v c d0 x1 g k h0 refl refl (idle_first w c x1 x2 s)) in
    let sb = quiet_of tables f v q d zv t.solves_second (idle_at n w v c d x2 g k h0 refl refl (idle_second w c x1 x2 s)) in
    let hold_v : is_on v c.hold ≡ hold = ap is_true (g.at c.hold h0) in
    let keep_v : is_on v c.keep ≡ is_on w c.keep = ap is_true (g.at c.keep o.keep) in
    let two : is_on v (n + 2) ≡ hold = ap is_true (one.own 2 (omega arith)) ∙ truth_of hold in
    record {
      values = v;
      same = g;
      solves = (
        one.first ∙ sym (ap₂ (λ i j. of_bool (i && j)) keep_v two),
        (
          one.own 1 (omega arith) ∙ sym (ap (λ i. of_bool (to_nat i == 2)) (one.own 3 (omega arith))),
          (
            one.own 2 (omega arith) ∙ sym (ap₂ (λ i j. of_bool (i || is_true j)) hold_v (one.own 1 (omega arith)) ∙ ap of_bool (or_none hold)),
            (
              one.own 3 (omega arith) ∙ max_zero v a.status b.status sa.status sb.status,
              (
                one.own 4 (omega arith) ∙ or_at v a.live b.live x1 x2 (live_wire tables f v p d0 zv t.solves_first) (live_wire tables f v q d zv t.solves_second),
                satisfies_append f v a.equations b.equations t.solves_first t.solves_second,
              ),
            ),
          ),
        ),
      );
    }
resume_rests tables f w (Trap p) c o z s =
    let n = c.next in
    let x1 = live tables p c.register f in
    let vs = pos 0 ∷ [] in
    let w0 = own n vs w in
    let k = o.go in
    let d0 = part_context c.go 1 c in
    let a = resume tables p d0 in
    let g0 = own_agrees n vs w in
    let x = resume_rests tables f w0 p d0 (outside_part c.go 1 c o (omega (arith, k))) (zero_at n w w0 g0 o.some z) (idle_at n w w0 c d0 x1 g0 k o.hold refl refl s) in
    let v = x.values in
    let one = one_solved f w n 1 vs a v (omega arith) x.same in
    let g = one.same in
    let sa = quiet_of tables f v p d0 (zero_at n w v g o.some z) x.solves (idle_at n w v c d0 x1 g k o.hold refl refl s) in
    record { values = v; same = g; solves = (one.first ∙ sym (ap of_trap sa.status), x.solves) }
resume_rests tables f w (Exit d) c o z s = nothing_rests f w c
resume_rests tables f w (Abort true armed t p) c o z s =
    let n = c.next in
    let x1 = live tables p c.register f in
    let hold = is_on w c.hold in
    let vs = of_bool (is_on w c.keep && hold) ∷ formula_value f w (Holds t c.wires) ∷ of_bool hold ∷ pos 0 ∷ pos 0 ∷ [] in
    let w0 = own n vs w in
    let k = o.go in
    let h0 = o.hold in
    let d0 = weak_context c in
    let a = resume tables p d0 in
    let g0 = own_agrees n vs w in
    let x = resume_rests tables f w0 p d0 (outside_with c.go c.hold n 5 c.register c o (omega (arith, k)) (omega (arith, h0)) (omega arith)) (zero_at n w w0 g0 o.some z) (idle_at n w w0 c d0 x1 g0 k h0 refl refl s) in
    let v = x.values in
    let one = one_solved f w n 5 vs a v (omega arith) x.same in
    let g = one.same in
    let sa = quiet_of tables f v p d0 (zero_at n w v g o.some z) x.solves (idle_at n w v c d0 x1 g k h0 refl refl s) in
    let hold_v : is_on v c.hold ≡ hold = ap is_true (g.at c.hold h0) in
    let keep_v : is_on v c.keep ≡ is_on w c.keep = ap is_true (g.at c.keep o.keep) in
    let two : is_on v (n + 2) ≡ hold = ap is_true (one.own 2 (omega arith)) ∙ truth_of hold in
    record {
      values = v;
      same = g;
      solves = (
        one.first ∙ sym (ap₂ (λ i j. of_bool (i && j)) keep_v two),
        (
          one.own 1 (omega arith) ∙ sym (value_agrees n f w v (Holds t c.wires) g o.wires),
          (
            one.own 2 (omega arith) ∙ sym (ap₂ (λ i j. of_bool (i || is_true j)) hold_v (one.own 4 (omega arith)) ∙ ap of_bool (or_none hold)),
            (
              one.own 3 (omega arith) ∙ sym (ap (λ i. cond (is_on v (n + 1)) (of_weak_abort i) i) sa.status ∙ either (is_on v (n + 1))),
              (one.own 4 (omega arith) ∙ sym (ap (λ i. of_bool (to_nat i == 2)) (one.own 3 (omega arith))), x.solves),
            ),
          ),
        ),
      );
    } where
      either : (b : Bool) → cond b (of_weak_abort (pos 0)) (pos 0) ≡ pos 0
      either true = refl
      either false = refl
resume_rests tables f w (Abort false armed t p) c o z s =
    let h0 = o.hold in
    tested_rests tables f w t p 0 c.hold c o z s (omega (arith, h0)) (λ w0 a b. b) (λ w0 d a b i. resume_rests tables f w0 p d a b i)
resume_rests tables f w (Suspend armed t p) c o z s =
    tested_rests tables f w t p 1 (c.next + 5) c o z s (omega arith) (λ w0 a b. a) (λ w0 d a b i. resume_rests tables f w0 p d a b i)
resume_rests tables f w (Local s last p) c o z si =
    let n = c.next in
    let kind = (signal_at tables s).kind in
    let x1 = live tables p (c.register + own_registers tables s) f in
    let lv = formula_value f w (last_formula kind c.register) in
    let vs = pos 0 ∷ lv ∷ lv ∷ pos 0 ∷ pos 0 ∷ of_bool (is_on w c.keep && is_on w c.hold) ∷ [] in
    let w0 = own n vs w in
    let d0 = local_context tables s c in
    let a = resume tables p d0 in
    let out = outside_local tables s c o in
    let i = resume_inside tables p d0 out in
    let grows = i.grows in
    let g0 = own_agrees n vs w in
    let x = resume_rests tables f w0 p d0 out (zero_at n w w0 g0 o.some z) (idle_at n w w0 c d0 x1 g0 o.go o.hold refl refl si) in
    let u = x.values in
    let fold = fold_emits (fold_info tables s) s a.next 0 (n + 2) a.emits in
    let y = fold_solution f u (fold_info tables s) s a.next 0 (n + 2) a.emits i.emits (omega (arith, grows)) (omega (arith, grows)) in
    let v = y.values in
    let one = one_solved f w n 6 vs a v (omega arith) (agree_twice (n + 6) a.next w0 u v grows x.same y.same) in
    let g = one.same in
    let zv = zero_at n w v g o.some z in
    let ha = satisfies_still a.next f u v a.equations y.same i.equations x.solves in
    let sa = quiet_of tables f v p d0 zv ha (idle_at n w v c d0 x1 g o.go o.hold refl refl si) in
    let zu = zero_at n w u (agree_twice n (n + 6) w w0 u (omega arith) g0 x.same) o.some z in
    let says = fold_says f v (fold_info tables s) s a.next 0 (n + 2) a.emits y.solves in
    let off_zero : is_on v 0 ≡ false = ap is_true zv in
    let some_off : is_on v fold.some ≡ false = says.some ∙ ap₂ (λ b l. b || is_emitted l s) off_zero sa.emits in
    let three_off : is_on v (n + 3) ≡ false = ap is_true (one.own 3 (omega arith)) in
    record {
      values = v;
      same = g;
      solves = (
        one.first ∙ sym (y.is_bool (zu ∙ sym (ap of_bool (ap is_true zu))) ∙ ap of_bool some_off),
        (
          one.own 1 (omega arith) ∙ sym (says.value ∙ ap₂ (λ b l. folded_from (fold_info tables s) b (v (n + 2)) (values_of s l)) off_zero sa.emits ∙ one.own 2 (omega arith)),
          (
            one.own 2 (omega arith) ∙ last_value_is f w v kind c.register,
            (
              one.own 3 (omega arith) ∙ sym (ap (λ b. of_bool (to_nat b == 2)) sa.status),
              (
                one.own 4 (omega arith) ∙ sym (ap (λ b. of_bool (is_on v c.keep && b)) three_off ∙ ap of_bool (gone (is_on v c.keep))),
                (
                  one.own 5 (omega arith) ∙ bool_at w v n c.keep c.hold g o.keep o.hold,
                  satisfies_append f v fold.equations a.equations y.solves ha,
                ),
              ),
            ),
          ),
        ),
      );
    }
resume_rests tables f w (Send ch e) c o z s = waiting_rests f w c o s
resume_rests tables f w (Receive ch) c o z s = waiting_rests f w c o s
resume_rests tables f w (SendWaits ch v) c o z s = nothing_rests f w c
resume_rests tables f w (Sent ch) c o z s = nothing_rests f w c
resume_rests tables f w (ReceiveWaits ch) c o z s = nothing_rests f w c
resume_rests tables f w (Received ch) c o z s = nothing_rests f w c
